-- What a line may make of a burst, and what else may come into its queues.
use Rattle.std.specs.Prelude.{ℕ, Bool, true, not, ◌||◌, ◌&&◌, List, insert, remove, Option, None, Some, slice_get, [], if◌then◌else◌}
use Rattle.vdcp_frame.specs.Burst.{messages_of}
use Rattle.vdcp_words.specs.declared.reply.Reply.{Reply}
use Rattle.vdcp_auto.specs.Heard.{heard_in}
use Rattle.vdcp_auto.specs.Replies.{is_ack, is_receipt}
use Rattle.vdcp_auto.specs.declared.exchange.Heard.{Heard}
use Rattle.vdcp_auto.specs.declared.exchange.Heard.TheVariants as heard
use Rattle.vdcp_auto.specs.declared.phase.Mode.{Mode}
use Rattle.vdcp_auto.specs.declared.phase.Mode.TheVariants.{Plain, Confirming}
use Rattle.vdcp_world.specs.Beginnings.{is_beginning}

-- Damage shows: no more is read of the bytes than a beginning of the messages that were read before.
abbrev pub can_become : List ℕ → List ℕ → Bool
can_become was bytes = is_beginning (messages_of bytes) (messages_of was)

-- Junk on the way down: no message is read of it.
abbrev pub is_junk_down : List ℕ → Bool
is_junk_down bytes = can_become [] bytes

-- A reply that may come though nobody sent it: in plain mode a NAK, and in confirm mode any receipt.
abbrev pub is_stray : Mode → Reply → Bool
is_stray Plain r = is_receipt r && not (is_ack r)
is_stray Confirming r = is_receipt r

-- what is heard is no answer: nothing, what isn't a reply, or such a reply
abbrev pub is_no_answer : Mode → Option Heard → Bool
is_no_answer mode None = true
is_no_answer mode (Some heard.Other) = true
is_no_answer mode (Some (heard.Reply r)) = is_stray mode r

-- Junk on the way up: no answer is heard of it.
abbrev pub is_junk_up : Mode → ℕ → List ℕ → Bool
is_junk_up mode unit bytes = is_no_answer mode (heard_in unit bytes)

abbrev pub can_become_up : Mode → ℕ → List ℕ → List ℕ → Bool
can_become_up mode unit was bytes = can_become was bytes || is_junk_up mode unit bytes

-- A queue has the oldest burst first. It with another burst at a place that has one; and with one burst more.

abbrev pub replaced : (List ℕ → Bool) → List ℕ → ℕ → List (List ℕ) → Option (List ℕ) → List (List ℕ)
replaced can bytes place queue None = queue
replaced can bytes place queue (Some was) = if can was then insert (remove queue place) place bytes else queue

abbrev pub with_damage : (List ℕ → Bool) → List ℕ → ℕ → List (List ℕ) → List (List ℕ)
with_damage can bytes place queue = replaced can bytes place queue (slice_get queue place)

abbrev pub with_junk : Bool → List ℕ → ℕ → List (List ℕ) → List (List ℕ)
with_junk is_junk bytes place queue = if is_junk then insert queue place bytes else queue
