-- The loop over a burst's messages: those whose lines are written, and those still to come.
use Rattle.std.proofs.Common.{List, ℕ, ◌≡◌, ◌++◌, length}
use Rattle.std.specs.Prelude.{string_bytes}
use Rattle.vdcp_frame.specs.Burst.{messages_of}
use Rattle.vdcp_frame.specs.Message.{Content}
use Rattle.vdcp_frame.specs.Walk.{coming}
use Rattle.vdcp_offline.specs.Vectors.{joined_text}
use Rattle.vdcp_offline.proofs.vectors.show_messages.Given as goal

abbrev pub invariant-messages : goal.invariant-messages
invariant-messages l = record {
  burst : ◌≡◌ {A = List ℕ} l.messages.burst l.burst;
  shown : List Content;
  all : shown ++ coming l.messages ≡ messages_of l.burst;
  written : string_bytes l.text ≡ joined_text shown;
}

abbrev pub decreases-messages : goal.decreases-messages
decreases-messages l = length (coming l.messages)
