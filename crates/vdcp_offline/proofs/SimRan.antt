-- A script has run.
use Rattle.std.proofs.Common.{◌≡◌, ℕ, ◌≤◌, List, length}
use Rattle.std.specs.Io.KnownBytes.{Appends}
use Rattle.std.specs.Prelude.{Option}
use Rattle.vdcp_value.specs.declared.clip_id.ClipId.{ClipId}
use Rattle.vdcp_value.specs.declared.part.Item.{Item}
use Rattle.vdcp_value.specs.declared.timecode.Timecode.{Timecode}
use Rattle.vdcp_auto.specs.Turn.{outcome_of}
use Rattle.vdcp_auto.specs.declared.exchange.Exchange.{Exchange}
use Rattle.vdcp_auto.specs.declared.outcome.Outcome.{Outcome}
use Rattle.vdcp_world.specs.Channel.{Channel, after_events}
use Rattle.vdcp_world.specs.Headline.{Headline}
use Rattle.vdcp_world.specs.declared.event.Event.{Event}
use Rattle.vdcp_offline.specs.Sim.{IsRun, IsScriptOf, channel_of, run_text}
use Rattle.vdcp_offline.specs.declared.sim.SimSettings.{SimSettings}

pub ran : (settings : SimSettings) (items : List Item) (clips : List (ClipId × Timecode)) (events : List Event)
    (c : Channel) (script old new : Option (List ℕ))
    (log : List Exchange) (aired : List Item) (reported : ℕ) (outcome : Option Outcome)
    → IsScriptOf script events → length events ≤ 100000
    → c ≡ after_events (channel_of settings items clips) events → Headline c
    → log ≡ c.log → aired ≡ c.aired → reported ≡ c.state.settled → outcome ≡ outcome_of c.state.stage
    → Appends old new (run_text settings.trace settings.rate log aired reported outcome)
    → IsRun settings items clips script old new
ran settings items clips events c script old new log aired reported outcome is_script few led headline l a r o gained =
    record {
      events = events;
      is_script = is_script;
      few = few;
      channel = c;
      led = led;
      headline = headline;
      gained = rw (← l, ← a, ← r, ← o) gained;
    }
