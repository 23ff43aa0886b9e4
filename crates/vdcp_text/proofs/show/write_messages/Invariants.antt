-- The loop over a burst's messages: those whose lines are written, and those still to come.
use Rattle.std.proofs.Common.{List, ℕ, ◌≡◌, ◌++◌, length}
use Rattle.std.specs.Io.KnownBytes.{Appends}
use Rattle.vdcp_frame.specs.Burst.{messages_of}
use Rattle.vdcp_frame.specs.Message.{Content}
use Rattle.vdcp_frame.specs.Walk.{coming}
use Rattle.vdcp_text.specs.Text.{messages_text}
use Rattle.vdcp_text.proofs.show.write_messages.Given as goal

abbrev pub invariant-messages : goal.invariant-messages
invariant-messages g l = record {
  burst : ◌≡◌ {A = List ℕ} l.messages.burst l.burst;
  shown : List Content;
  all : shown ++ coming l.messages ≡ messages_of l.burst;
  written : Appends (g.W.Write.contents l.initial.out) (g.W.Write.contents l.out) (messages_text l.meanings shown);
}

abbrev pub decreases-messages : goal.decreases-messages
decreases-messages g l = length (coming l.messages)
