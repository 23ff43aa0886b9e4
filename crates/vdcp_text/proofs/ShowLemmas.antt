-- What a writer gains in two parts, and the lines of one more message.
use Rattle.std.proofs.Common.{◌≡◌, ℕ, Bool, List, [], ◌∷◌, ◌++◌, sym, ap, subst, ◌∙◌, append_assoc, append-nil}
use Rattle.std.proofs.lemmas.Grind.{flat_map-append}
use Rattle.std.specs.Io.KnownBytes.{Appends}
use Rattle.std.specs.Prelude.{Option, None, Some}
use Rattle.vdcp_frame.specs.Message.{Content}
use Rattle.vdcp_text.specs.Text.{line, messages_text, shown_text}

pub appends_both : (old middle new : Option (List ℕ)) (a b : List ℕ) → Appends old middle a → Appends middle new b
    → Appends old new (a ++ b)
appends_both None middle new a b before now = tt
appends_both (Some old) None new a b before now = absurd before
appends_both (Some old) (Some middle) None a b before now = now
appends_both (Some old) (Some middle) (Some new) a b before now =
    now ∙ ap (λ bytes. bytes ++ b) before ∙ append_assoc old a b

pub messages_text-push : (meanings : Bool) (ms : List Content) (m : Content)
    → messages_text meanings (ms ++ m ∷ []) ≡ messages_text meanings ms ++ line (shown_text meanings m)
messages_text-push meanings ms m =
    flat_map-append (λ m. line (shown_text meanings m)) ms (m ∷ [])
    ∙ ap (λ text. messages_text meanings ms ++ text) (append-nil (line (shown_text meanings m)))

-- the line of the next message is written
pub shown_next : (meanings : Bool) (ms : List Content) (m : Content) (old middle new : Option (List ℕ))
    → Appends old middle (messages_text meanings ms) → Appends middle new (line (shown_text meanings m))
    → Appends old new (messages_text meanings (ms ++ m ∷ []))
shown_next meanings ms m old middle new before now =
    subst (λ text. Appends old new text) (sym (messages_text-push meanings ms m))
    (appends_both old middle new (messages_text meanings ms) (line (shown_text meanings m)) before now)
