-- What is held back: a row that asks for the state, and the bytes of commands.
use Rattle.std.proofs.Common.{ℕ, ◌≡◌, ◌∙◌, List, [], Bool, ap, if◌then◌else◌, refl, subst, sym, true}
use Rattle.arrayvec.specs.ArrayVec.{ArrayVec}
use Rattle.std.specs.Prelude.{IfSome, IsTrue, None, Option, Some}
use Rattle.vdcp_auto.specs.declared.exchange.Heard.{Heard}
use Rattle.vdcp_drive.specs.Steps.{end_of}
use Rattle.vdcp_journal.specs.Rows.{AreBytesOf}
use Rattle.vdcp_journal.specs.declared.row.Row.{Row}
use Rattle.vdcp_journal_file.proofs.Chains.{plays_after}
use Rattle.vdcp_journal.specs.Thinned.{asks_state}
use Rattle.vdcp_journal_file.specs.Recorded.{Notes, NotesEnd}
use Rattle.vdcp_journal_file.specs.Recording.{FitHeldRows, MakesSafe, Recording, after_row, ended, is_announced, rows_due, rows_left, says_nothing_new, seen_last, with_play}
use Rattle.vdcp_journal_file.specs.declared.pending.HeldBytes.{HeldBytes}
use Rattle.vdcp_journal_file.specs.declared.pending.Pending.{Pending}
use Rattle.vdcp_journal_file.specs.declared.pending.Pending.TheVariants as pending
use Rattle.vdcp_journal_file.specs.declared.pending.Seen.{Seen}

-- an end is noted
pub held_at_end : (unit : ℕ) (held : HeldBytes) (left : Pending) (row : Row) → FitHeldRows unit held left
    → FitHeldRows unit held (ended left row)
held_at_end unit held pending.Nothing row are = tt
held_at_end unit held (pending.End before) row are = tt
held_at_end unit held (pending.Asked before asks) row are = are
held_at_end unit held (pending.Answered before asks hears) row are = are
held_at_end unit held (pending.Played before asks hears plays) row are = are
held_at_end unit held (pending.Over before asks hears plays last) row are = are
held_at_end unit held (pending.Failed fault) row are = are

-- a PLAY is held back
pub held_with_play : (unit : ℕ) (held : HeldBytes) (plays : Option (ArrayVec ℕ)) (left : Pending) (row : Row)
    → is_announced left row.note ≡ true → IfSome plays (λ b. AreBytesOf unit b.items row.note) → FitHeldRows unit held left
    → FitHeldRows unit (record held { plays = plays }) (with_play left row)
held_with_play unit held plays left row is spelled are =
    let a = plays_after left row.note is in
    subst (λ (p : Pending). FitHeldRows unit (record held { plays = plays }) (with_play p row)) (sym a.left)
    (subst (FitHeldRows unit held) a.left are, spelled)

-- a row that asks for the state is held back, once what is due before it is safe
pub held_back : {F : Type 0} (safe : F → Option (List ℕ)) (old mid new : Recording F) (row : Row) (left : Pending)
    (last : Option Seen) (says : Bool) → IsTrue (asks_state row.note) → last ≡ seen_last old.pending
    → says_nothing_new old.pending row.note ≡ says → mid ≡ record old { file = mid.file; pending = left }
    → new ≡ record mid { pending = pending.Asked last row } → MakesSafe safe old mid (if says then [] else rows_left old.pending)
    → MakesSafe safe old new (rows_due old.pending row)
    × (new ≡ record old { file = new.file; pending = after_row old.pending row })
held_back {F} safe old mid new row left last says asks is told same made added =
    let file : new.file ≡ mid.file = ap (λ (r : Recording F). r.file) made in (
      rw (asks, told, file) added,
      made ∙ ap (λ (m : Recording F). record m { pending = pending.Asked last row }) same ∙ rw (asks, file, is) refl,
    )

pub notes_end : {F : Type 0} (safe : F → Option (List ℕ)) (heard : Option Heard) (old new : Recording F)
    → NotesEnd heard old new → Notes safe (end_of heard) old new
notes_end safe None old new h = h
notes_end safe (Some x) old new h = h
