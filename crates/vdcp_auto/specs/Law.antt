-- What holds of every controller and its log, whatever calls were made.
use Rattle.std.specs.Prelude.{◌≡◌, ℕ, ◌↔◌, true, IsTrue, Some, is_some, IfSome, List, length}
use Rattle.std.specs.List.{list_any}
use Rattle.vdcp_auto.specs.declared.exchange.Exchange.{Exchange}
use Rattle.vdcp_auto.specs.declared.outcome.Outcome.TheVariants.{Done, Lost, Missing, Refused}
use Rattle.vdcp_auto.specs.declared.phase.Mode.TheVariants.{Confirming}
use Rattle.vdcp_auto.specs.declared.phase.Phase.{Phase}
use Rattle.vdcp_auto.specs.State.{Ready}
use Rattle.vdcp_auto.specs.State.{State}
use Rattle.vdcp_auto.specs.Log.{is_stop}
use Rattle.vdcp_auto.specs.Settled.{settled}
use Rattle.vdcp_auto.specs.RuleBook.{May, KeepsRules}
use Rattle.vdcp_auto.specs.Endings.{IsLost, IsRefused}
use Rattle.vdcp_auto.specs.Plan.{Plan}
use Rattle.vdcp_auto.specs.Table.{is_halting}
use Rattle.vdcp_auto.specs.Turn.{awaited, given, is_ready, is_awaiting, outcome_of}

pub record IsLawful (plan : Plan) (state : State) (log : List Exchange) : Type 0 where
  -- the rule book allows each command of the log where it stands
  pub keeps_rules : KeepsRules plan.mode plan.list log
  -- and so is the one that is awaited
  pub may_await : IfSome (awaited plan state) (λ c. May plan.mode plan.list log c)
  -- and the one that the next tick gives
  pub may_give : IfSome (given plan state) (λ c. May plan.mode plan.list log c)
  -- a tick gives a command exactly if nothing is awaited and the controller hasn't ended
  pub gives : is_some (given plan state) ≡ is_ready state.stage
  -- a command is awaited exactly if the controller awaits its answer
  pub awaits : is_some (awaited plan state) ≡ is_awaiting state.stage
  -- in Halt and HaltClose a STOP was sent before the next command is
  pub is_stopped : (p : Phase) → state.stage ≡ Ready p → is_halting p ≡ true → IsTrue (list_any is_stop log)
  -- the controller's count is what the log shows to be settled
  pub is_settled : state.settled ≡ settled plan.mode log
  -- it has ended Lost exactly if the log shows it lost, and no sooner
  pub is_lost : (outcome_of state.stage ≡ Some Lost) ↔ IsLost plan.mode plan.limit log
  -- in confirm mode Refused(k) means that item k was cued, and limit empty statuses came since
  pub is_refused : plan.mode ≡ Confirming → (k : ℕ) → outcome_of state.stage ≡ Some (Refused k)
      → IsRefused plan.list plan.limit log k
  -- Done means that every item is settled
  pub is_done : outcome_of state.stage ≡ Some Done → settled plan.mode log ≡ length plan.list
  -- Missing(k) means that the items before k are
  pub is_missing : (k : ℕ) → outcome_of state.stage ≡ Some (Missing k) → settled plan.mode log ≡ k
