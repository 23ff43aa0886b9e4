use Rattle.std.proofs.Common.{sym, ◌∙◌, refl}
use Rattle.vdcp_value.proofs.Bcd.{read_is_time, read_frames}
use Rattle.vdcp_value.proofs.part.frames_in.Goals as goal

pub returns-in-Ok-clause-lawful : goal.returns-in-Ok-clause-lawful
returns-in-Ok-clause-lawful c =
    (λ _. read_is_time _ _ c.in-Ok.timecode c.in-Ok.ensures.same_rate c.in-Ok.ensures.read, λ _. refl)

pub returns-in-Ok-clause-number : goal.returns-in-Ok-clause-number
returns-in-Ok-clause-number c =
    c.frames.ensures.number ∙ sym (read_frames _ _ c.in-Ok.timecode c.in-Ok.ensures.same_rate c.in-Ok.ensures.read)
