use Rattle.std.proofs.Common.{ℕ, None, List, ◌∷◌, ◌++◌, ◌∙◌, ap, ap₂, refl, sym, append_assoc}
use Rattle.vdcp_value.specs.declared.part.Item.{Item}
use Rattle.vdcp_port.specs.Clock.{ClockedPort}
use Rattle.vdcp_wire.specs.Acts.{Act}
use Rattle.vdcp_laws.specs.Sessions.{asked_at, questions_at, start_at}
use Rattle.vdcp_journal.specs.Thinned.{notes_in, whole}
use Rattle.vdcp_laws.specs.TwoEnds.{Ends, aired_now, begun, port_now}
use Rattle.vdcp_laws.proofs.CarriedRun.{carried_before, killed_so, led_by, stays_killed}
use Rattle.vdcp_laws.proofs.HeldPlays.{held_since}
use Rattle.vdcp_laws.proofs.KilledSession.{is_left_safe, steps_at}
use Rattle.vdcp_laws.proofs.Calm.{AreCalm, any, calm_first, left_calm, still_calm, waits_calm, waits_unseen}
use Rattle.vdcp_laws.proofs.Mended.{Below, begins_again, below_of, noted_behind}
use Rattle.vdcp_laws.proofs.Rejoined.{led_more}
use Rattle.vdcp_laws.proofs.Servers.{Laws, served_so}
use Rattle.vdcp_laws.proofs.Tried.{asked_on, asking_side, may_ask}
use Rattle.vdcp_laws.proofs.Tried as session
use Rattle.vdcp_drive.specs.Traces.{acts_in}
use Rattle.vdcp_drive.specs.Turns.{Turn}
use Rattle.vdcp_laws.proofs.sessions.a_killed_session_is_safe.Given.{Over}
use Rattle.vdcp_laws.proofs.sessions.a_killed_session_is_safe.Goals as goal

laws : (g : Over) → goal.After-a_journal_makes_the_automation g → Laws
laws g c = record {
  goes_on = c.servers_go_on.ensures.acts;
  hooks = c.servers_go_on.ensures.hooks;
  answered = c.what_goes_out_is_answered.ensures;
  acts = c.untorn_turns_are_at_once.ensures.acts;
  items = c.untorn_turns_are_at_once.ensures.items;
}

tried_laws : (g : Over) → goal.After-a_journal_makes_the_automation g → session.Laws g.A.Wire.does
tried_laws g c = record {
  asks = c.only_questions_are_asked.ensures;
  rows = c.steps_are_exchanges.ensures.rows;
  steps = record { bytes = c.steps_are_exchanges.ensures.bytes; came = c.steps_are_exchanges.ensures.came };
}

pub returns-clause-new : goal.returns-clause-new
returns-clause-new g c plan port = record { joined = begun; ready = refl; thinned = whole; unended = (None, refl) }

pub returns-clause-again : goal.returns-clause-again
returns-clause-again g c = begins_again

pub returns-clause-asking : goal.returns-clause-asking
returns-clause-asking g c plan from port asked questions e on so_far acts unsent turns below aired due before first earlier begins
    held asks part served carried =
    let unit : ℕ = port.state.unit in
    let h = held_since (tried_laws g c) plan from unit e first due begins.ready begins.thinned begins.unended held in (
      _,
      record {
        joined = led_more plan port asked e _ begins.joined (led_by plan unit e (so_far ++ acts) _ turns below aired
            (h.side acts _ (asking_side plan unit on questions _ acts h.ready (record {
              may = may_ask (start_at plan from on) questions asks;
              ear = refl;
              unsent = unsent;
              part = part;
            }))) (served_so (laws g c) e turns below aired served) carried);
        ready = h.ready;
        thinned = h.thinned;
        unended = h.unended;
      },
    )

pub returns-clause-safe : goal.returns-clause-safe
returns-clause-safe g c plan from port asked e on last events rows so_far out since turns below aired
    due before waits first earlier written part rest one more can begins held asks made may unsent served carried kept w split =
    let unit : ℕ = port.state.unit in
    let questions : List Act = acts_in (questions_at asks) in
    let now : Ends = asked_at asks in
    let below_laws : Below = below_of (record {
      comes = c.an_announced_play_comes_next.ensures;
      makes = c.a_journal_makes_the_automation.ensures.makes;
      told = c.a_journal_makes_the_automation.ensures.told;
      thinned_makes = c.a_thinned_journal_makes_the_same.ensures.makes;
      thinned_told = c.a_thinned_journal_makes_the_same.ensures.told;
    }) in
    let so = served_so (laws g c) e turns below aired served in
    let h = held_since (tried_laws g c) plan from unit e first due begins.ready begins.thinned begins.unended held in
    let downs : List Turn = e.downs ++ turns in
    let calm = left_calm before waits (one ∷ more) written (waits_calm before h.unended) w in
    let part_calm : AreCalm (notes_in part) = calm_first (notes_in part) (notes_in rest)
    (ap any (sym (noted_behind part rest) ∙ ap notes_in (sym split)) ∙ calm.waits) in (
      is_left_safe below_laws c.steps_are_exchanges.ensures.bytes plan port asked _ aired on now (so_far ++ questions) _
          (λ events rows out since last made may unsent acts.
          let done : List Act = acts_in (steps_at plan port now events) in
          let then = killed_so plan unit now last events rows out made may in
          let all : List Act = so_far ++ (questions ++ (done ++ out)) in record {
            ends = record last { downs = downs };
            joined = led_more plan port asked e _ begins.joined
                (led_by plan unit e all last turns below aired
                (h.side (questions ++ (done ++ out)) last
                (asked_on (tried_laws g c) (record asks.settings { unit = unit }) asks.is_held (start_at plan from on) on
                on.automation.held asks.ear asks.wire asks.wire' asks.left asks.signs asks.signs' asks.asked last (done ++ out) h.ready
                then.0)) so
                (carried_before unit e all carried since
                (acts ∙ append_assoc so_far questions (done ++ (out ++ since))
                ∙ ap (λ (l : List Act). so_far ++ l) (sym (append_assoc questions (done ++ out) since
                ∙ ap (λ (l : List Act). questions ++ l) (append_assoc done out since)))
                ∙ sym (append_assoc so_far (questions ++ (done ++ out)) since)) unsent));
            port_is = stays_killed (λ p i. port_now (record e { port = p; downs = downs })) plan unit now last events rows out may
                ∙ ap (λ (p : ClockedPort). port_now (record e { port = p; downs = downs })) h.port_is;
            aired_are = stays_killed (λ p i. aired_now (record e { port = p; downs = downs; aired_before = i })) plan unit now last
                events rows out may
                ∙ ap₂ (λ (p : ClockedPort) (i : List Item). aired_now (record e { port = p; downs = downs; aired_before = i })) h.port_is
                h.before_is ∙ so.aired_is;
            notes_are = then.1;
          }) can before waits earlier written part rest h.thinned (waits_unseen before h.unended) events rows out since last one more made may unsent
          (sym (append_assoc so_far questions _)) kept w split,
      still_calm (earlier ++ written) part part_calm ∙ still_calm earlier written calm.rows ∙ h.losses_are,
    )
