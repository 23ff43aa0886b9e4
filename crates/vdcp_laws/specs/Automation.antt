-- An automation that hears each message at once, with the exchanges that ended: what a driver does (`after`), one exchange
-- after another.
use Rattle.std.specs.Option.{option_to_list}
use Rattle.std.specs.Prelude.{ℕ, List, [], ◌∷◌, map, Option, None, Some}
use Rattle.vdcp_frame.specs.Message.{Content}
use Rattle.vdcp_auto.specs.Course.{logged}
use Rattle.vdcp_auto.specs.Heard.{heard_as}
use Rattle.vdcp_auto.specs.Plan.{Plan}
use Rattle.vdcp_auto.specs.Turn.{start, ticked, came_to, ended_by}
use Rattle.vdcp_auto.specs.declared.exchange.Exchange.{Exchange}
use Rattle.vdcp_auto.specs.declared.exchange.Heard.{Heard}
use Rattle.vdcp_auto.specs.State.{State}
use Rattle.vdcp_drive.specs.Auto.{Event, arrives, called, calls}
use Rattle.vdcp_drive.specs.declared.hooks.Call.{Call}
use Rattle.vdcp_drive.specs.Reading.{Held, holds, completed, held_after, held_after_silence}
use Rattle.vdcp_drive.specs.Steps.{ended_notes}
use Rattle.vdcp_drive.specs.declared.hooks.Kept.{Kept}
use Rattle.vdcp_wire.specs.Wires.{Arrival, bytes, silence, close}

-- what is held of a message, the controller, and the exchanges that ended
pub record Prompt : Type 0 where
  pub held : Held
  pub state : State
  pub log : List Exchange

abbrev pub new_prompt : Prompt
new_prompt = record { held = holds []; state = start; log = [] }

-- the next command is given, if none is awaited and it hasn't ended
abbrev pub gives : Prompt → Prompt
gives p = record { held = p.held; state = ticked p.state; log = p.log }

-- the controller hears something, or that nothing came in time
abbrev pub receives : Plan → Option Heard → Prompt → Prompt
receives plan came p =
    record {
      held = p.held;
      state = came_to plan came p.state;
      log = logged p.log (ended_by plan came p.state);
    }

abbrev pub hears : Plan → ℕ → Content → Prompt → Prompt
hears plan unit m p = receives plan (Some (heard_as unit m)) p

abbrev pub hears_all : Plan → ℕ → List Content → Prompt → Prompt
hears_all plan unit [] p = p
hears_all plan unit (m ∷ ms) p = hears_all plan unit ms (hears plan unit m p)

abbrev pub holding : Held → Prompt → Prompt
holding held p = record { held = held; state = p.state; log = p.log }

-- one listen: each message that bytes complete is heard at once, and a silence or the close is a time-out
abbrev pub listens : Plan → ℕ → Arrival → Prompt → Prompt
listens plan unit (bytes piece) p = holding (held_after p.held piece) (hears_all plan unit (completed p.held piece) p)
listens plan unit silence p = holding (held_after_silence p.held) (receives plan None p)
listens plan unit close p = holding (held_after_silence p.held) (receives plan None p)

-- a call
abbrev pub heeds : Call → Prompt → Prompt
heeds c p = record { held = p.held; state = called c p.state; log = p.log }

-- all that happened: before each listen the next command is given
abbrev pub led : Plan → ℕ → Prompt → List Event → Prompt
led plan unit p [] = p
led plan unit p (arrives a ∷ later) = led plan unit (listens plan unit a (gives p)) later
led plan unit p (calls c ∷ later) = led plan unit (heeds c p) later

abbrev pub prompted : Plan → ℕ → List Arrival → Prompt
prompted plan unit came = led plan unit new_prompt (map arrives came)

-- what is kept of an exchange that ended, if one did
abbrev pub end_notes : Option Exchange → List Kept
end_notes ended = ended_notes (option_to_list ended)
