-- What a server did since these ends, as one does it that hears at once.
use Rattle.std.proofs.Common.{ℕ, ◌≡◌, Bool, List, [], ◌++◌, refl, sym, ap, subst, ◌∙◌, append_assoc, append-nil}
use Rattle.std.proofs.lemmas.List.{append_cancel_left}
use Rattle.std.specs.Prelude.{Result}
use Rattle.vdcp_value.specs.declared.part.Item.{Item}
use Rattle.vdcp_frame.specs.Progress.{Progress}
use Rattle.vdcp_port.specs.Clock.{ClockedPort}
use Rattle.vdcp_auto.specs.State.{State}
use Rattle.vdcp_auto.specs.declared.exchange.Exchange.{Exchange}
use Rattle.vdcp_journal.specs.declared.row.Note.{Note}
use Rattle.vdcp_wire.specs.Acts.{Act}
use Rattle.vdcp_drive.specs.ServeLeaves.{ServeEnding}
use Rattle.vdcp_drive.specs.Served.{IsMoment, only}
use Rattle.vdcp_drive.specs.Serving.{HookStep, Service, acts_of, begins, hook_steps, items_in, left_by}
use Rattle.vdcp_drive.specs.Traces.{came_in, sent_in}
use Rattle.vdcp_drive.specs.Turns.{Turn, arrivals}
use Rattle.vdcp_drive.specs.declared.hearing.Hearing.{Hearing}
use Rattle.vdcp_drive.specs.declared.hearing.Hearing.TheVariants.{AtOnce, AtSilences}
use Rattle.vdcp_drive.specs.declared.line.DriveFault.{DriveFault}
use Rattle.vdcp_drive.specs.declared.line.TurnsEnd.{TurnsEnd}
use Rattle.vdcp_laws.specs.Carried.{AreCarried, all_turns}
use Rattle.vdcp_laws.specs.Mended.{anew, behind}
use Rattle.vdcp_laws.specs.Servers.{IsServed}
use Rattle.vdcp_laws.specs.Servers as servers
use Rattle.vdcp_laws.specs.TwoEnds.{Ends, aired_now, sent_up, server_new, server_now}
use Rattle.vdcp_laws.specs.Untorn.{AreUntorn, at_once_for, server_at_silences}
use Rattle.vdcp_laws.proofs.Carrying.{sent_both}
use Rattle.vdcp_laws.proofs.Counting.{counted}
use Rattle.vdcp_laws.proofs.CutShort.{ends_so}
use Rattle.vdcp_laws.proofs.Fronts.{upto}
use Rattle.vdcp_laws.proofs.Leading.{SendsAnswers, ServersGoOn, moment_of, sends_answers, turns_whole}
use Rattle.vdcp_laws.proofs.Untorn.{ActSame, HooksGoOn, all_downs, items_on, silent_moment, silent_whole}

-- vdcp_drive::laws: servers_go_on, what_goes_out_is_answered; laws::untorn_turns_are_at_once
pub record Laws : Type 0 where
  pub goes_on : ServersGoOn
  pub answered : (s : Service) (turns : List Turn) (can : Bool) (count : ℕ) (hearing : Hearing)
      (answer : Result TurnsEnd DriveFault) (done : List Act) (last : List HookStep) (port : ClockedPort) (reader : Progress)
      → ServeEnding can count turns hearing (left_by s turns) answer done last port reader → (some behind : List Act)
      → acts_of s turns ++ done ≡ some ++ behind → IsMoment s (turns ++ only (came_in done)) some
  pub acts : ActSame
  pub hooks : HooksGoOn
  pub items : (p : ClockedPort) (turns : List Turn) → AreUntorn [] turns
      → items_in (hook_steps (begins AtOnce p) (at_once_for turns)) ≡ items_in (hook_steps (begins AtSilences p) turns)

-- what counts of what its wire did is carried, too, and answers what came
pub record ServedSo (e : Ends) (turns : List Turn) (below : List Act) (aired : List Item) : Type 0 where
  pub heard : List Act
  pub carried : (unit : ℕ) (ends : Ends) (autos : List Act) → AreCarried unit ends autos below → AreCarried unit ends autos heard
  pub whole : came_in heard ≡ arrivals turns
  pub answers : SendsAnswers e turns heard
  pub aired_is : aired_now (record e { downs = e.downs ++ turns }) ≡ aired

pub served_so : {W H : Type 0} {does : Act → W → W → Type 0} {can : Bool} {hooks : HookStep → H → H → Type 0} (law : Laws)
    (e : Ends) (turns : List Turn) (below : List Act) (aired : List Item) → IsServed does can hooks e turns below aired
    → ServedSo e turns below aired
served_so {can} law e _ _ _ (servers.prompt {count} {server} {server'} {h} {h'} {result} s last counts) =
    let service : Service = server_now e in
    let all : List Turn = all_turns s.turns last in
    let ends = ends_so s.ending counts in
    record {
      heard = acts_of service s.turns ++ last;
      carried = λ unit ends autos c. counted unit ends autos (acts_of service s.turns) (left_by service s.turns) s.done last counts c;
      whole = turns_whole service s.turns last;
      answers = sends_answers law.goes_on e all (acts_of service s.turns ++ last) (λ some behind parts. moment_of law.goes_on e all some
          (law.answered service s.turns can count server.hearing ends.answer last ends.steps ends.port server'.reader
          ends.ending some behind parts));
      aired_is = refl;
    }
served_so {can} law e _ _ _ (servers.untorn {count} {server} {server'} {h} {h'} {result} before downs s last counts u) =
    let service : Service = server_at_silences e.port before in
    let all : List Turn = all_turns s.turns last in
    let ends = ends_so s.ending counts in
    record {
      heard = acts_of service s.turns ++ last;
      carried = λ unit ends autos c. counted unit ends autos (acts_of service s.turns) (left_by service s.turns) s.done last counts c;
      whole = silent_whole service s.turns last;
      answers = sends_answers law.goes_on e (at_once_for all) (acts_of service s.turns ++ last)
          (λ some behind parts. silent_moment law.goes_on law.acts e before all some downs u
          (law.answered service s.turns can count server.hearing ends.answer last ends.steps ends.port server'.reader
          ends.ending some behind parts));
      aired_is = ap (λ (l : List Turn). e.aired_before ++ items_in (hook_steps (begins AtOnce e.port) l))
          (all_downs e.downs before all downs)
          ∙ ap (λ (l : List Item). e.aired_before ++ l) (law.items e.port (before ++ all) u);
    }
served_so law e turns below _ (servers.went_on {other} since same served) =
    let so = served_so law other turns below (aired_now other ++ since) served in
    let items : List Turn → Ends → List Item = λ l x. items_in (hook_steps (server_now x) l) in
    let aired_on : (x : Ends) → aired_now (record x { downs = x.downs ++ turns }) ≡ aired_now x ++ items turns x =
    λ x. ap (λ (l : List Item). x.aired_before ++ l) (items_on law.hooks (server_new x) x.downs turns)
    ∙ sym (append_assoc x.aired_before (items_in (hook_steps (server_new x) x.downs)) (items turns x)) in
    let sent_after : (x : Ends) (l : List Turn) → sent_in (acts_of (server_new x) (x.downs ++ l))
    ≡ sent_up x ++ sent_in (acts_of (server_now x) l) =
    λ x l. ap sent_in (law.goes_on (server_new x) x.downs l)
    ∙ sent_both (acts_of (server_new x) x.downs) (acts_of (server_now x) l) in
    record {
      heard = so.heard;
      carried = so.carried;
      whole = so.whole;
      answers = λ some behind parts.
          let r = so.answers some behind parts in
          let l : List Turn = upto turns (came_in some) in (
            r.0,
            sent_after e l ∙ ap (λ (s : Service). sent_up e ++ sent_in (acts_of s l)) same
                ∙ ap (λ (b : List ℕ). sent_up e ++ b) (append_cancel_left (sent_up other) (sent_in (acts_of (server_now other) l))
                (sent_in some ++ r.0) (sym (sent_after other l) ∙ r.1)),
          );
      aired_is = aired_on e ∙ ap (λ (s : Service). aired_now e ++ items_in (hook_steps s turns)) same
          ∙ ap (λ (l : List Item). aired_now e ++ l) (append_cancel_left (aired_now other) (items turns other) since
          (sym (aired_on other) ∙ so.aired_is));
    }

-- a server of a connection is one of all that is behind it, too
pub served_behind : {W H : Type 0} {does : Act → W → W → Type 0} {can : Bool} {hooks : HookStep → H → H → Type 0}
    (log : List Exchange) (aired : List Item) (notes : List Note) (port : ClockedPort) (state : State) (turns : List Turn)
    (below : List Act) (since : List Item) → IsServed does can hooks (anew port state) turns below since
    → IsServed does can hooks (behind log aired notes (anew port state)) turns below (aired ++ since)
served_behind log aired notes port state _ _ _ (servers.prompt s last counts) = servers.prompt s last counts
served_behind log aired notes port state _ _ _ (servers.untorn before downs s last counts u) =
    servers.untorn before downs s last counts u
served_behind {does} {can} {hooks} log aired notes port state turns below _ (servers.went_on since same served) =
    let now : Ends = behind log aired notes (anew port state) in
    subst (λ (l : List Item). IsServed does can hooks now turns below (l ++ since)) (append-nil aired) (servers.went_on since same served)
