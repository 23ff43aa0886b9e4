-- What aired in several runs of a list, and what a run's journal tells of that.
use Rattle.std.proofs.Common.{◌+◌, ◌≡◌, ◌≤◌, All, Bool, true, false, List, [], ◌∷◌, ◌++◌, length, map, refl, sym, ap, ap₂, ◌∙◌, append-nil, length-append, true≢false, arith}
use Rattle.std.proofs.lemmas.List.{map-append}
use Rattle.std.proofs.lemmas.List.Elements.{All-nil, All-append}
use Rattle.std.specs.Prelude.{AllPairs, IsTrue, Option, None, Some, if◌then◌else◌, not, ◌&&◌, ◌||◌}
use Rattle.vdcp_value.specs.declared.part.Item.{Item}
use Rattle.vdcp_words.specs.declared.command.Command.{Command}
use Rattle.vdcp_port.specs.Clock.{ClockedPort}
use Rattle.vdcp_auto.specs.Commands.{is_play_command, is_status_command}
use Rattle.vdcp_auto.specs.Course.{logged}
use Rattle.vdcp_auto.specs.Log.{is_play}
use Rattle.vdcp_auto.specs.declared.phase.Mode.{Mode}
use Rattle.vdcp_auto.specs.declared.phase.Mode.TheVariants.{Plain, Confirming}
use Rattle.vdcp_auto.specs.Plan.{Plan}
use Rattle.vdcp_auto.specs.Settled.{has_open_play, may_have_aired, settled, settles}
use Rattle.vdcp_auto.specs.State.{State}
use Rattle.vdcp_auto.specs.Turn.{awaited, ended_by, exchange_of}
use Rattle.vdcp_auto.specs.declared.exchange.Exchange.{Exchange}
use Rattle.vdcp_journal.specs.Airings.{settled_in}
use Rattle.vdcp_journal.specs.Resume.{exchange_with, log_of}
use Rattle.vdcp_journal.specs.Thinned.{asks_state}
use Rattle.vdcp_journal.specs.declared.row.Note.{Note}
use Rattle.vdcp_journal.specs.declared.row.Note.TheVariants as note
use Rattle.vdcp_journal.specs.declared.row.Row.{Row}
use Rattle.vdcp_world.specs.LateLine.LateChannel.{LateChannel}
use Rattle.vdcp_world.specs.LateLine.LateHeadline.{reported_of}
use Rattle.vdcp_laws.specs.SeveralRuns.{AiredEvent, AsksAtMost, HaveAired, IsEvent, aired_from, none, nothing, once, ran}
use Rattle.vdcp_laws.specs.TwoEnds.{AreJoined, CanJoin, Ends, aired_now, as_noted, connected_anew, port_now, resumed, went_on}
use Rattle.vdcp_laws.proofs.Commands.{timed_out}
use Rattle.vdcp_laws.proofs.Headline.{Laws, of_ends}
use Rattle.vdcp_laws.proofs.Logging.{closed_from, closed_more, of_rows, open_more, open_through, rows_show}
use Rattle.vdcp_laws.proofs.Numbered.{Before, ascend, ran_events}
use Rattle.vdcp_laws.proofs.Queues.{logged_behind}

pub all_events : (law : Laws) → (list : List Item) (aired : List AiredEvent) → HaveAired list aired
    → All (IsEvent list) aired
all_events law list _ nothing = All-nil (IsEvent list)
all_events law list _ (ran {before} have first behind plan port asked e can j begins) =
    let h = (of_ends law plan port asked e can j).beginning in
    All-append (IsEvent list) before (aired_from first (aired_now e)) (all_events law list before have)
    (ran_events list first (aired_now e) h.0 (sym begins ∙ h.1))

pub all_ascend : (list : List Item) (aired : List AiredEvent) → HaveAired list aired → AllPairs Before aired
all_ascend list _ nothing = λ i j d lt inside. absurd (omega arith)
all_ascend list _ (ran {before} have first behind plan port asked e can j begins) =
    ascend before first (aired_now e) (all_ascend list before have) behind

-- What a journal shows of a run: the number of all that aired, if no event more may have aired.

-- of an automation that awaits nothing the log is all
all_logged : (plan : Plan) (s : State) (log : List Exchange) → awaited plan s ≡ None
    → logged log (ended_by plan None s) ≡ log
all_logged plan s log quiet = ap (λ (c : Option Command). logged log (exchange_of plan.mode None c)) quiet

-- what aired in the run of a journal with these rows, and of that what they settle
record Counted (mode : Mode) (aired : List Item) (rows : List Row) : Type 0 where
  reported : List Item
  last : List Item
  aired_is : aired ≡ reported ++ last
  few : length last ≤ 1
  count : length reported ≡ settled_in mode rows
  exact : may_have_aired mode (log_of rows) ≡ false → aired ≡ reported

counted : (law : Laws) (plan : Plan) (port : ClockedPort) (asked : List Command) (e : Ends) (rows : List Row)
    → CanJoin plan port asked → AreJoined plan port asked e → map (λ row. row.note) rows ≡ e.notes
    → Counted plan.mode (aired_now e) rows
counted law plan port asked e rows can j noted =
    let late = law.ends plan port asked (connected_anew plan (port_now e) e) can (went_on j (resumed as_noted)) in
    let c : LateChannel = late.channel in
    let h = law.headline c late.reached in
    let log : c.log ≡ log_of rows =
    late.log_is
    ∙ append-nil (e.log_before ++ logged e.automation.log (ended_by plan None e.automation.state))
    ∙ sym (logged_behind e.log_before e.automation.log (ended_by plan None e.automation.state))
    ∙ sym (rows_show plan port asked e rows j noted) in
    let rests : awaited c.plan c.state ≡ None =
    ap₂ awaited late.plan_is late.state_is ∙ timed_out plan e.automation.state in
    let mode : c.plan.mode ≡ plan.mode = ap (λ (q : Plan). q.mode) late.plan_is in
    let aired : aired_now e ≡ c.aired = sym (append-nil (aired_now e)) ∙ sym late.aired_is in
    record {
      reported = reported_of c;
      last = h.reported.0;
      aired_is = aired ∙ h.reported.1;
      few = h.reported.2;
      count = h.count ∙ h.is_settled ∙ ap₂ settled mode log;
      exact = λ quiet. aired
          ∙ h.exact (ap₂ may_have_aired mode (all_logged c.plan c.state c.log rests ∙ log) ∙ quiet);
    }

pub number_aired : (law : Laws) (plan : Plan) (port : ClockedPort) (asked : List Command) (e : Ends) (rows : List Row)
    → CanJoin plan port asked → AreJoined plan port asked e → map (λ row. row.note) rows ≡ e.notes
    → may_have_aired plan.mode (log_of rows) ≡ false → length (aired_now e) ≡ settled_in plan.mode rows
number_aired law plan port asked e rows can j noted quiet =
    let n = counted law plan port asked e rows can j noted in ap (length {A = Item}) (n.exact quiet) ∙ n.count

pub most_aired : (law : Laws) (plan : Plan) (port : ClockedPort) (asked : List Command) (e : Ends) (rows : List Row)
    → CanJoin plan port asked → AreJoined plan port asked e → map (λ row. row.note) rows ≡ e.notes
    → length (aired_now e) ≤ settled_in plan.mode rows + 1
most_aired law plan port asked e rows can j noted =
    let n = counted law plan port asked e rows can j noted in
    let long : length (aired_now e) ≡ length n.reported + length n.last =
    ap (length {A = Item}) n.aired_is ∙ length-append n.reported n.last in
    let few = n.few in
    let count = n.count in
    omega arith

-- A request for the state that has no row changes nothing of that.

-- vdcp_auto::laws::a_log_grows
pub record Grows : Type 0 where
  pub settled_is : (mode : Mode) (log : List Exchange) (e : Exchange) → settled mode (log ++ e ∷ [])
      ≡ (if settles mode log e then settled mode log + 1 else settled mode log)
  pub airing_is : (mode : Mode) (log : List Exchange) (e : Exchange) → may_have_aired mode (log ++ e ∷ [])
      ≡ (not (settles mode log e) && (is_play e || may_have_aired mode log))

and_false : (b : Bool) → b && false ≡ false
and_false true = refl
and_false false = refl

abbrev unanswered : Command → Exchange
unanswered c = record { command = c; heard = None }

settles_none : (mode : Mode) (log : List Exchange) (c : Command) → settles mode log (unanswered c) ≡ false
settles_none Plain log c =
    ap₂ (λ (a b : Bool). a || (b && has_open_play log)) (and_false (is_play_command c)) (and_false (is_status_command c))
settles_none Confirming log c = ap (λ (b : Bool). b && has_open_play log) (and_false (is_status_command c))

settled_same : (grows : Grows) (mode : Mode) (log : List Exchange) (c : Command)
    → settled mode (log ++ unanswered c ∷ []) ≡ settled mode log
settled_same grows mode log c =
    grows.settled_is mode log (unanswered c)
    ∙ ap (λ (b : Bool). if b then settled mode log + 1 else settled mode log) (settles_none mode log c)

airing_same : (grows : Grows) (mode : Mode) (log : List Exchange) (c : Command)
    → may_have_aired mode (log ++ unanswered c ∷ []) ≡ (is_play_command c || may_have_aired mode log)
airing_same grows mode log c =
    grows.airing_is mode log (unanswered c)
    ∙ ap (λ (b : Bool). not b && (is_play_command c || may_have_aired mode log)) (settles_none mode log c)

-- with what is open timed out, or not
settled_open : (grows : Grows) (mode : Mode) (log : List Exchange) (open_at : Option Command)
    → settled mode (log ++ exchange_with None open_at []) ≡ settled mode log
settled_open grows mode log None = ap (settled mode) (append-nil log)
settled_open grows mode log (Some c) = settled_same grows mode log c

or_false : (a b : Bool) → a || b ≡ false → b ≡ false
or_false true b is = cc is
or_false false b is = is

airing_open : (grows : Grows) (mode : Mode) (log : List Exchange) (open_at : Option Command)
    → may_have_aired mode (log ++ exchange_with None open_at []) ≡ false → may_have_aired mode log ≡ false
airing_open grows mode log None is = ap (may_have_aired mode) (sym (append-nil log)) ∙ is
airing_open grows mode log (Some c) is =
    or_false (is_play_command c) (may_have_aired mode log) (sym (airing_same grows mode log c) ∙ is)

no_play : (c : Command) → is_status_command c ≡ true → is_play_command c ≡ false
no_play c is = grind arith

abbrev Same : Mode → List Row → List Row → Type 0
Same mode rows asks =
    (may_have_aired mode (log_of rows) ≡ false → may_have_aired mode (log_of (rows ++ asks)) ≡ false)
    × (settled_in mode (rows ++ asks) ≡ settled_in mode rows)

asks_once : (grows : Grows) (mode : Mode) (rows : List Row) (row : Row) (n : Note) → row.note ≡ n → IsTrue (asks_state n)
    → Same mode rows (row ∷ [])
asks_once grows mode rows row (note.Sent c) is asks =
    let notes : List Note = map (λ r. r.note) rows in
    let closed : List Exchange = closed_from None notes in
    let was : log_of rows ≡ closed ++ exchange_with None (open_through None notes) [] = of_rows None rows in
    let all : map (λ r. r.note) (rows ++ row ∷ []) ≡ notes ++ note.Sent c ∷ [] =
    map-append (λ (r : Row). r.note) rows (row ∷ []) ∙ ap (λ (n : Note). notes ++ n ∷ []) is in
    let more : log_of (rows ++ row ∷ []) ≡ closed ++ unanswered c ∷ [] =
    of_rows None (rows ++ row ∷ [])
    ∙ ap (λ (l : List Note). closed_from None l ++ exchange_with None (open_through None l) []) all
    ∙ ap₂ (λ (l : List Exchange) (o : Option Command). l ++ exchange_with None o [])
    (closed_more None notes (note.Sent c ∷ []) ∙ append-nil closed) (open_more None notes (note.Sent c ∷ [])) in
    let still : may_have_aired mode (log_of rows) ≡ false → may_have_aired mode closed ≡ false =
    λ quiet. airing_open grows mode closed (open_through None notes) (ap (may_have_aired mode) (sym was) ∙ quiet) in (
      λ quiet. ap (may_have_aired mode) more ∙ airing_same grows mode closed c
          ∙ ap₂ (λ (a b : Bool). a || b) (no_play c asks) (still quiet),
      ap (settled mode) more ∙ settled_same grows mode closed c
          ∙ sym (settled_open grows mode closed (open_through None notes)) ∙ ap (settled mode) (sym was),
    )
asks_once grows mode rows row n is asks = absurd (true≢false (sym asks))

pub asks_same : (grows : Grows) (mode : Mode) (rows asks : List Row) → AsksAtMost asks → Same mode rows asks
asks_same grows mode rows _ none = (
  λ quiet. ap (λ (l : List Row). may_have_aired mode (log_of l)) (append-nil rows) ∙ quiet,
  ap (settled_in mode) (append-nil rows),
)
asks_same grows mode rows _ (once row asks) = asks_once grows mode rows row row.note refl asks
