use Rattle.std.proofs.Common.{List, ◌++◌}
use Rattle.vdcp_auto.specs.Plan.{Plan}
use Rattle.vdcp_auto.specs.State.{State}
use Rattle.vdcp_auto.specs.Turn.{awaited, start}
use Rattle.vdcp_journal.specs.Mending.{mended, rows_at}
use Rattle.vdcp_journal.specs.Resume.{after_rows, losses, plan_after}
use Rattle.vdcp_journal.specs.Runs.{last_run}
use Rattle.vdcp_journal.specs.declared.row.Note.{Note}
use Rattle.vdcp_journal.specs.declared.row.Row.{Row}
use Rattle.vdcp_laws.specs.Mended.{anew, behind, state_in, without_losses}
use Rattle.vdcp_laws.specs.TwoEnds.{Ends, log_now}
use Rattle.vdcp_laws.proofs.CarriedRun.{carried_behind}
use Rattle.vdcp_laws.proofs.Mended.{can_under, ready, waits_at}
use Rattle.vdcp_laws.proofs.Servers.{served_behind}
use Rattle.vdcp_laws.proofs.sessions.sessions_keep_the_headline.Goals as goal

pub returns : goal.returns
returns g c plan from settings port now found asked journal time wire last recorder count signs list end turns below before since can left finds tried
    served carried =
    let run : List Row = (last_run journal).rows in
    let rows : List Row = run ++ rows_at time (mended (plan_after plan run) journal run) in
    let on : Plan = plan_after plan rows in
    let state : State = state_in on rows in
    let gone = c.a_mended_journal_is_gone_on_with.ensures plan port now found asked before journal time can left finds in
    let waits = waits_at time (awaited on (after_rows on start rows)) in
    let begun = gone.begins waits.0 waits.1 in
    let notes : List Note = without_losses gone.notes in
    let e : Ends = behind gone.log before notes (anew found state) in (
      log_now e,
      c.a_session_keeps_the_headline.ensures.headline on from settings port asked e wire last recorder count signs list end turns below _
          (can_under plan (losses rows) port asked can) begun.joined (ready on rows) tried
          (served_behind gone.log before notes found state turns below since served)
          (carried_behind port.state.unit (anew found state) gone.log before notes carried),
    )
