-- Events that were held back before a kill: what was written while they were leads on, as if the session had begun there.
use Rattle.std.proofs.Common.{ℕ, ◌≡◌, List, ◌++◌, refl, sym, ap, subst, ◌∙◌, append_assoc, append-nil}
use Rattle.std.specs.Prelude.{Option, None}
use Rattle.vdcp_words.specs.declared.command.Command.{Command}
use Rattle.vdcp_auto.specs.Plan.{Plan}
use Rattle.vdcp_auto.specs.Turn.{awaited}
use Rattle.vdcp_journal.specs.Resume.{losses}
use Rattle.vdcp_journal.specs.Thinned.{IsThinned, notes_in}
use Rattle.vdcp_journal.specs.declared.row.Note.{Note}
use Rattle.vdcp_journal.specs.declared.row.Row.{Row}
use Rattle.vdcp_wire.specs.Acts.{Act}
use Rattle.vdcp_drive.specs.Hearing.{at_once}
use Rattle.vdcp_drive.specs.Steps.{Step, steps_of}
use Rattle.vdcp_drive.specs.Traces.{acts_in, kept_in}
use Rattle.vdcp_journal_file.specs.Recording.{IsTimedOut, rows_left}
use Rattle.vdcp_journal_file.specs.declared.pending.Pending.{Pending}
use Rattle.vdcp_laws.specs.Carried.{driver_of}
use Rattle.vdcp_laws.specs.OneConnection.{ends_by}
use Rattle.vdcp_laws.specs.Sessions.{IsHeldOn, asked_at, begun, questions_at, start_at, went_on}
use Rattle.vdcp_laws.specs.TwoEnds.{AreLed, Ends, sent_down}
use Rattle.vdcp_laws.proofs.Calm.{left_calm, still_calm, waits_calm, waits_unseen}
use Rattle.vdcp_laws.proofs.Carrying.{Side}
use Rattle.vdcp_laws.proofs.Mended.{noted_behind}
use Rattle.vdcp_laws.proofs.Noted.{noted}
use Rattle.vdcp_laws.proofs.OneRun.{stays}
use Rattle.vdcp_laws.proofs.Tried.{Laws, stretch_on}
use Rattle.vdcp_laws.proofs.Waiting.{waits_behind}

pub record HeldSince (plan : Plan) (unit : ℕ) (e now : Ends) (before rows : List Row) (waits : Pending) (acts : List Act) : Type 0 where
  pub ready : awaited plan now.automation.state ≡ None
  pub thinned : IsThinned now.notes (notes_in (rows ++ rows_left waits))
  pub unended : (command : Option Command) × IsTimedOut command waits
  pub side : (more : List Act) (last : Ends) → Side plan unit (AreLed plan unit) now (sent_down unit now) more last
      → Side plan unit (AreLed plan unit) e (sent_down unit e) (acts ++ more) last
  pub port_is : now.port ≡ e.port
  pub before_is : now.aired_before ≡ e.aired_before
  pub losses_are : losses rows ≡ losses before

module _ {W : Type 0} {does : Act → W → W → Type 0} (law : Laws does) (plan : Plan) (from unit : ℕ) (e : Ends) (rows : List Row)
    (waits : Pending) (ready : awaited plan e.automation.state ≡ None) (thin : IsThinned e.notes (notes_in (rows ++ rows_left waits)))
    (unended : (command : Option Command) × IsTimedOut command waits) where
  pub held_since : {now : Ends} {rows' : List Row} {waits' : Pending} {acts : List Act}
      → IsHeldOn does plan from unit e rows waits now rows' waits' acts → HeldSince plan unit e now rows rows' waits' acts
  held_since begun = record {
    ready = ready;
    thinned = thin;
    unended = unended;
    side = λ more last s. s;
    port_is = refl;
    before_is = refl;
    losses_are = refl;
  }
  held_since (went_on {now} {earlier} {before} {acts} h a events made ready written left w) =
      let r = held_since h in
      let asked : Ends = asked_at a in
      let steps : List Step = steps_of at_once plan unit (driver_of asked.automation) events in
      let first : List Act = acts_in (questions_at a) in
      let done : List Act = acts_in steps in
      let then : Ends = ends_by plan unit asked events in
      let both : List Row = earlier ++ written in
      let calm = left_calm before left (kept_in steps) written (waits_calm before r.unended) w in
      record {
        ready = ready;
        thinned = subst (IsThinned then.notes)
            (sym (noted_behind both (rows_left left)) ∙ ap notes_in (sym (append-nil (both ++ rows_left left))))
            (subst (λ (l : List Note). IsThinned l (notes_in both ++ notes_in (rows_left left))) (sym (noted plan unit asked events))
            (waits_behind before left earlier written now.notes (kept_in steps) r.thinned (waits_unseen before r.unended) w).thinned);
        unended = (None, refl);
        side = λ more last s.
            subst (λ (l : List Act). Side plan unit (AreLed plan unit) e (sent_down unit e) l last)
            (sym (append_assoc acts (first ++ done) more))
            (r.side ((first ++ done) ++ more) last
            (stretch_on law (record a.settings { unit = unit }) a.is_held (start_at plan from now) now now.automation.held a.ear
            a.wire a.wire' a.left a.signs a.signs' a.asked last events more r.ready made s));
        port_is = stays (λ p l i. p) plan unit asked events ∙ r.port_is;
        before_is = stays (λ p l i. i) plan unit asked events ∙ r.before_is;
        losses_are = still_calm both (rows_left left) calm.waits ∙ still_calm earlier written calm.rows ∙ r.losses_are;
      }
