-- The next message comes, and its line is written.
use Rattle.std.proofs.Common.{◌≡◌, List, [], ◌∷◌, ◌++◌, sym, ap, ◌∙◌, append_assoc}
use Rattle.vdcp_offline.proofs.VectorLemmas.{joined_text-push}
use Rattle.vdcp_offline.proofs.vectors.show_messages.Goals as goal
use Rattle.vdcp_frame.specs.Message.{Content, content_of}
use Rattle.vdcp_frame.specs.Walk.{coming}
use Rattle.vdcp_text.specs.Text.{message_text}
use Rattle.std.specs.Prelude.{codes}

pub messages-preserved : goal.messages-preserved
messages-preserved c =
    let kept = c.messages.invariant in
    let message = content_of c.in-Some.message in
    let next : coming c.messages.messages ≡ message ∷ coming c.next.new.self = c.in-Some.ensures.some in
    record {
      burst = c.next.ensures.burst ∙ kept.burst;
      shown = kept.shown ++ message ∷ [];
      all =
          append_assoc kept.shown (message ∷ []) (coming c.next.new.self)
          ∙ ap (λ (ms : List Content). kept.shown ++ ms) (sym next)
          ∙ kept.all;
      written =
          c.in_ok-write_message.ensures
          ∙ ap (λ before. before ++ (message_text message ++ codes "; ")) kept.written
          ∙ sym (joined_text-push kept.shown message);
    }
