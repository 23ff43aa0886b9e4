-- What is done with a burst, as events of a channel, and what the bursts that go on bring about at its ends.
use Rattle.std.specs.Prelude.{ℕ, ◌≡◌, List, [], ◌∷◌, ◌++◌, take}
use Rattle.vdcp_auto.specs.Heard.{heard_in}
use Rattle.vdcp_auto.specs.declared.phase.Mode.TheVariants.{Confirming}
use Rattle.vdcp_frame.specs.Message.{spelling}
use Rattle.vdcp_lossy.specs.Doings.{CanBe, joined, receipt_message}
use Rattle.vdcp_lossy.specs.declared.doing.Doing.{Doing}
use Rattle.vdcp_lossy.specs.declared.doing.Doing.TheVariants as doing
use Rattle.vdcp_auto.specs.declared.burst.Way.TheVariants as way
use Rattle.vdcp_port.specs.Answers.{aired_for, after_burst}
use Rattle.vdcp_world.specs.Channel.{Channel, answered, log_hearing, state_hearing}
use Rattle.vdcp_world.specs.declared.event.Event.{Event}
use Rattle.vdcp_world.specs.declared.event.Event.TheVariants.{Down, Up, DownCopy, LoseDown, LoseUp, AlterDown, AlterUp}

-- what is done with what is on the way down. (A receipt isn't forged there.)
abbrev pub events_down : Doing → List ℕ → List Event
events_down doing.Through came = Down ∷ []
events_down doing.Lost came = LoseDown ∷ []
events_down doing.Late came = LoseDown ∷ []
events_down doing.Copied came = DownCopy ∷ Down ∷ []
events_down (doing.Cut count) came = AlterDown (take count came) ∷ Down ∷ []
events_down (doing.Damaged bytes) came = AlterDown bytes.items ∷ Down ∷ []
events_down (doing.Forged r) came = []

-- and with what is on the way up. Two copies that come at once are heard as one
abbrev pub events_up : Doing → List ℕ → List Event
events_up doing.Through came = Up ∷ []
events_up doing.Lost came = LoseUp ∷ []
events_up doing.Late came = LoseUp ∷ []
events_up doing.Copied came = Up ∷ []
events_up (doing.Cut count) came = AlterUp (take count came) ∷ Up ∷ []
events_up (doing.Damaged bytes) came = AlterUp bytes.items ∷ Up ∷ []
events_up (doing.Forged r) came = AlterUp (spelling (receipt_message r)) ∷ Up ∷ []

-- what was on the way down is gone, and these bursts have come to the port, one after another: it has answered each,
-- and the
-- answer to the last is on the way up
abbrev pub answering : Channel → List (List ℕ) → Channel
answering c [] = record c { down = [] }
answering c (burst ∷ []) =
    record c {
      port = after_burst c.port burst;
      down = [];
      up = answered c.port burst c.up;
      aired = c.aired ++ aired_for c.port burst;
    }
answering c (burst ∷ next ∷ later) =
    answering (record c { port = after_burst c.port burst; aired = c.aired ++ aired_for c.port burst }) (next ∷ later)

-- these bytes have come to the controller as one burst
abbrev pub hearing : Channel → List ℕ → Channel
hearing c burst =
    record c {
      state = state_hearing c.plan (heard_in c.port.state.unit burst) c.state;
      up = [];
      log = log_hearing c.plan (heard_in c.port.state.unit burst) c.state c.log;
    }

-- what was on the way up is gone, and these bursts have come to the controller at once, which makes them one
abbrev pub hearing_joined : Channel → List (List ℕ) → Channel
hearing_joined c [] = record c { up = [] }
hearing_joined c (burst ∷ later) = hearing c (joined (burst ∷ later))

-- what can be done on the way up of a channel: a receipt is forged in confirm mode alone
abbrev pub CanGoUp : Channel → Doing → Type 0
CanGoUp c doing.Through = Unit {0}
CanGoUp c doing.Lost = Unit {0}
CanGoUp c doing.Late = Unit {0}
CanGoUp c doing.Copied = CanBe way.Up c.up doing.Copied
CanGoUp c (doing.Cut count) = CanBe way.Up c.up (doing.Cut count)
CanGoUp c (doing.Damaged bytes) = CanBe way.Up c.up (doing.Damaged bytes)
CanGoUp c (doing.Forged r) = CanBe way.Up c.up (doing.Forged r) × (c.plan.mode ≡ Confirming)
