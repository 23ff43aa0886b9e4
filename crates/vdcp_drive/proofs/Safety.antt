-- At each moment of a run what went out was kept before.
use Rattle.std.proofs.Common.{ℕ, ◌≡◌, Bool, true, false, List, [], ◌∷◌, ◌++◌, map, sym, ◌∙◌, append_assoc, append-nil}
use Rattle.std.specs.Prelude.{Option, Some, None, Result}
use Rattle.vdcp_words.specs.declared.command.Command.{Command}
use Rattle.vdcp_auto.specs.Plan.{Plan}
use Rattle.vdcp_auto.specs.State.{State}
use Rattle.vdcp_auto.specs.Turn.{given, ticked}
use Rattle.vdcp_auto.specs.declared.exchange.Exchange.{Exchange}
use Rattle.vdcp_auto.specs.declared.exchange.Heard.{Heard}
use Rattle.vdcp_wire.specs.Acts.{sends, brings, fails}
use Rattle.vdcp_drive.specs.Auto.{Auto, Event, after, arrives, calls, ended, gives, heeds, listens}
use Rattle.vdcp_drive.specs.Ears.{Fold, inputs}
use Rattle.vdcp_drive.specs.Leaves.{Ending, by_itself, by_hooks, in_keep, in_drop, in_send, in_listen, IsRun, steps_in}
use Rattle.vdcp_drive.specs.Safe.{AreSafe, IsFrontOf, IsCut, here, within, on}
use Rattle.vdcp_drive.specs.Steps.{Step, acts, asks, keeps, command_bytes, dropping, sending, given_notes, ended_notes, end_of, opening, steps_of}
use Rattle.vdcp_drive.specs.declared.hooks.Kept.TheVariants as row
use Rattle.vdcp_drive.specs.declared.hooks.Next.TheVariants as next
use Rattle.vdcp_drive.specs.declared.hooks.BrokenOff.{BrokenOff}
use Rattle.vdcp_drive.specs.declared.line.Ran.{Ran}

front_of_front : (unit : ℕ) (kept : Option Command) (front rest : List ℕ) → IsFrontOf unit kept (front ++ rest)
    → IsFrontOf unit kept front
front_of_front unit None front rest h = h
front_of_front unit (Some c) front rest h = (rest ++ h.0, h.1 ∙ append_assoc front rest h.0)

pub safe_when_cut : (unit : ℕ) (kept : Option Command) (some all : List Step) → IsCut some all → AreSafe unit kept all
    → AreSafe unit kept some
safe_when_cut unit kept some all here h = tt
safe_when_cut unit kept some all (within front rest later) h = (front_of_front unit kept front rest h.0, tt)
safe_when_cut unit kept some all (on (keeps (row.Sent c)) less more cut) h = safe_when_cut unit (Some c) less more cut h
safe_when_cut unit kept some all (on (acts (sends b)) less more cut) h = (h.0, safe_when_cut unit None less more cut h.1)
safe_when_cut unit kept some all (on x less more cut) h = safe_when_cut unit kept less more cut h

-- the rows of ends change nothing
ends_safe : (unit : ℕ) (log : List Exchange) (later : List Step) → AreSafe unit None later
    → AreSafe unit None (map keeps (ended_notes log) ++ later)
ends_safe unit [] later h = h
ends_safe unit (e ∷ log) later h = end_safe e.heard (ends_safe unit log later h) where
  end_safe : (x : Option Heard) → AreSafe unit None (map keeps (ended_notes log) ++ later)
      → AreSafe unit None (keeps (end_of x) ∷ (map keeps (ended_notes log) ++ later))
  end_safe None h = h
  end_safe (Some x) h = h

opening_by : (s : State) (first : Bool) (unit : ℕ) (g : Option Command) (later : List Step) → AreSafe unit None later
    → AreSafe unit None ((asks s next.GoOn ∷ (map keeps (given_notes g) ++ map acts (sending first unit g))) ++ later)
opening_by s first unit None later h = h
opening_by s true unit (Some c) later h = (([], sym (append-nil (command_bytes unit c))), h)
opening_by s false unit (Some c) later h = (([], sym (append-nil (command_bytes unit c))), h)

opening_safe : {E : Type 0} (fold : Fold E) (plan : Plan) (unit : ℕ) (a : Auto E) (later : List Step)
    → AreSafe unit None later → AreSafe unit None (opening fold plan unit a ++ later)
opening_safe fold plan unit a later h = opening_by a.state fold.drops unit (given plan a.state) later h

pub steps_safe : {E : Type 0} (fold : Fold E) (plan : Plan) (unit : ℕ) (a : Auto E) (events : List Event)
    (more : List Step) → AreSafe unit None more → AreSafe unit None (steps_of fold plan unit a events ++ more)
steps_safe fold plan unit a [] more h = h
steps_safe fold plan unit a (calls c ∷ later) more h = steps_safe fold plan unit (heeds c a) later more h
steps_safe {E} fold plan unit a (arrives what ∷ later) more h =
    let b : Auto E = listens fold plan unit what (gives a) in
    let rest : List Step = steps_of fold plan unit b later in
    let es : List Exchange = ended plan (inputs fold unit what a.ear) (ticked a.state) in
    simp append_assoc (simp append_assoc at (opening_safe fold plan unit a
    (acts (brings what) ∷ map keeps (ended_notes es) ++ (rest ++ more))
    (ends_safe unit es (rest ++ more) (steps_safe fold plan unit b later more h))))

ending_by : (first : Bool) (unit : ℕ) (c : Command) (front rest : List ℕ) → command_bytes unit c ≡ front ++ rest
    → AreSafe unit None (keeps (row.Sent c) ∷ map acts (dropping first ++ sends front ∷ []))
ending_by true unit c front rest parts = ((rest, parts), tt)
ending_by false unit c front rest parts = ((rest, parts), tt)

ending_safe : {E : Type 0} (fold : Fold E) (plan : Plan) (unit count : ℕ) (events : List Event) (a : Auto E)
    (answer : Result Ran BrokenOff) (more : List Step) (a' : Auto E) → Ending fold plan unit count events a answer more a'
    → AreSafe unit None more
ending_safe fold plan unit count events a answer more a' (by_itself r is to none left) = rw none tt
ending_safe fold plan unit count events a answer more a' (by_hooks is going are stays) = rw are tt
ending_safe fold plan unit count events a answer more a' (in_keep r is going are left) = rw are tt
ending_safe fold plan unit count events a answer more a' (in_drop c is first gives_it are left) = rw are tt
ending_safe fold plan unit count events a answer more a' (in_send c front rest is gives_it parts are left) =
    rw are (ending_by fold.drops unit c front rest parts)
ending_safe fold plan unit count events a answer more a' (in_listen is are left) =
    rw are (opening_safe fold plan unit a (acts fails ∷ []) tt)

-- at each moment of each run
pub run_safe : {E : Type 0} (fold : Fold E) (plan : Plan) (unit count : ℕ) (a a' : Auto E)
    (answer : Result Ran BrokenOff) → (h : IsRun fold plan unit count a a' answer)
    → (some : List Step) → IsCut some (steps_in h) → AreSafe unit None some
run_safe fold plan unit count a a' answer h some cut =
    safe_when_cut unit None some (steps_of fold plan unit a h.events ++ h.more) cut
    (steps_safe fold plan unit a h.events h.more
    (ending_safe fold plan unit count h.events (after fold plan unit a h.events) answer h.more a' h.ending))
