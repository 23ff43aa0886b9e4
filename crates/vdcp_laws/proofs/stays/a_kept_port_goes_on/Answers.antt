use Rattle.std.proofs.Common.{◌≡◌, ◌∙◌, Bool, List, [], ap, subst, sym}
use Rattle.std.specs.Prelude.{if◌then◌else◌}
use Rattle.vdcp_drive.specs.ServerEars.{HasRead, ServerEar, new_ear}
use Rattle.vdcp_drive.specs.Serving.{left_by}
use Rattle.vdcp_drive.specs.Turns.{Turn}
use Rattle.vdcp_drive.specs.declared.hearing.Hearing.{Hearing}
use Rattle.vdcp_drive.specs.declared.hearing.Hearing.TheVariants.{AtOnce, AtSilences}
use Rattle.vdcp_frame.specs.Progress.{reading}
use Rattle.vdcp_laws.proofs.Staying.{kept_over}
use Rattle.vdcp_laws.proofs.stays.a_kept_port_goes_on.Goals as goal
use Rattle.vdcp_laws.specs.TwoEnds.{server_new, server_now}
use Rattle.vdcp_serve.specs.Serve.{line_failures}
use Rattle.vdcp_wire.specs.Streams.{failures_of}

pub returns-clause-connections : goal.returns-clause-connections
returns-clause-connections g c settings port now left first h kept = kept_over now left h kept

pub returns-clause-serves : goal.returns-clause-serves
returns-clause-serves g c settings turns port port' line from h h' answer e by_clock taken port_is none s =
    let is = s.is_new in
    let law = c.what_is_left_is_served.ensures in
    let hears : s.old.hearing ≡ AtOnce = is.hearing_is ∙ ap (λ (b : Bool). if b then AtOnce else AtSilences) by_clock in
    let ear : (server_now e).ear ≡ new_ear AtOnce = ap (λ (turns : List Turn). (left_by (server_new e) turns).ear) none in
    law.prompt e turns s.old s.new s.begun s.ended answer (ap line_failures is.wire_is ∙ ap failures_of taken.is_open) hears
    (is.port_is ∙ sym port_is ∙ sym (ap (λ (turns : List Turn). (left_by (server_new e) turns).port) none))
    (subst (HasRead s.old.hearing (server_now e).ear) (sym is.at_start)
    (subst (λ (x : ServerEar). HasRead s.old.hearing x (reading 0 [])) (sym ear)
    (subst (λ (x : Hearing). HasRead x (new_ear AtOnce) (reading 0 [])) (sym hears) (law.new AtOnce))))
    s.leaves
