-- The next message comes, and its line is written.
use Rattle.std.proofs.Common.{◌≡◌, List, [], ◌∷◌, ◌++◌, sym, ap, ◌∙◌, append_assoc}
use Rattle.vdcp_frame.specs.Message.{Content, content_of}
use Rattle.vdcp_frame.specs.Walk.{coming}
use Rattle.vdcp_text.proofs.ShowLemmas.{shown_next}
use Rattle.vdcp_text.proofs.show.write_messages.Goals as goal

pub messages-preserved : goal.messages-preserved
messages-preserved g c =
    let kept = c.messages.invariant in
    let message = content_of c.in-Some.message in
    let next : coming c.messages.messages ≡ message ∷ coming c.next.new.self = c.in-Some.ensures.some in
    record {
      burst = c.next.ensures.burst ∙ kept.burst;
      shown = kept.shown ++ message ∷ [];
      all =
          append_assoc kept.shown (message ∷ []) (coming c.next.new.self)
          ∙ ap (λ (ms : List Content). kept.shown ++ ms) (sym next)
          ∙ kept.all;
      written = shown_next c.args.meanings kept.shown message _ _ _ kept.written c.in_ok-write_message.ensures;
    }
