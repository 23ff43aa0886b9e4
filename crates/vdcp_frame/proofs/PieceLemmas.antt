-- However a burst is cut, its messages and its end are those of its reading.
use Rattle.std.proofs.Common.{◌≡◌, ℕ, ◌+◌, List, [], ◌∷◌, ◌++◌, Option, Some, None, take, drop, refl, sym, ap, subst, ◌∙◌, append_assoc}
use Rattle.std.specs.Prelude.{unwrap_or, flat_map}
use Rattle.std.proofs.lemmas.List.{take-append-drop, append-nil}
use Rattle.vdcp_frame.specs.Message.{Content}
use Rattle.vdcp_frame.specs.Reading.{End, fault, Reads}
use Rattle.vdcp_frame.specs.Progress.{Progress, reading, failed}
use Rattle.vdcp_frame.specs.Reader.{Answer, message, more, wrong, Gives, fed, ended_of, FollowsReading}
use Rattle.vdcp_frame.specs.Pieces.{Call, Feeds, FeedsAll, with_message, messages_given, or_fault, fault_given, silent_end, end_given}
use Rattle.vdcp_frame.proofs.ReaderLemmas.{follows_message, follows_more, follows_fault, follows_none, ends_follows}

-- the burst so far has these messages, and this fault if one came
abbrev Tracks : List ℕ → List Content → Option End → Progress → Type 0
Tracks burst ms None (reading taken held) = FollowsReading burst ms taken held
Tracks burst ms None failed = ⊥
Tracks burst ms (Some end) (reading taken held) = ⊥
Tracks burst ms (Some end) failed = (remainder : List ℕ) → Reads (burst ++ remainder) ms end

abbrev or_else : Option End → Option End → Option End
or_else None later = later
or_else (Some end) later = Some end

-- one call
tracks_call : (burst : List ℕ) (ms : List Content) (e : Option End) (old : Progress) (piece : List ℕ) (n : ℕ)
    (answer : Answer)
    → Gives old piece n answer → Tracks burst ms e old →
    Tracks (burst ++ take n piece) (ms ++ with_message answer []) (or_else e (or_fault answer None))
    (fed old piece n answer)
tracks_call burst ms None (reading taken held) piece n (message m) g t =
    follows_message burst ms taken held piece n m t g
tracks_call burst ms None (reading taken held) piece n more g t =
    subst (λ (l : List Content). FollowsReading (burst ++ take n piece) l (taken + n) (held ++ take n piece))
    (sym (append-nil ms))
    (follows_more burst ms taken held piece n t g)
tracks_call burst ms None (reading taken held) piece n (wrong which place) g t = λ remainder.
    subst (λ (l : List Content). Reads ((burst ++ take n piece) ++ remainder) l (fault which place))
    (sym (append-nil ms))
    (subst (λ (p : ℕ). Reads ((burst ++ take n piece) ++ remainder) ms (fault which p)) (sym g.1)
    (follows_fault burst ms taken held piece n which t g.0 remainder))
tracks_call burst ms None failed piece n answer g t = absurd t
tracks_call burst ms (Some end) (reading taken held) piece n answer g t = absurd t
tracks_call burst ms (Some end) failed piece n (message m) g t = absurd g
tracks_call burst ms (Some end) failed piece n more g t = λ remainder.
    subst (λ (l : List Content). Reads ((burst ++ take n piece) ++ remainder) l end) (sym (append-nil ms))
    (subst (λ (b : List ℕ). Reads b ms end) (sym (append_assoc burst (take n piece) remainder))
    (t (take n piece ++ remainder)))
tracks_call burst ms (Some end) failed piece n (wrong which place) g t = absurd g

with_message-append : (answer : Answer) (ms : List Content) → with_message answer [] ++ ms ≡ with_message answer ms
with_message-append (message m) ms = refl
with_message-append more ms = refl
with_message-append (wrong which place) ms = refl

or_else-fault : (e : Option End) (answer : Answer) (later : Option End)
    → or_else (or_else e (or_fault answer None)) later ≡ or_else e (or_fault answer later)
or_else-fault None (message m) later = refl
or_else-fault None more later = refl
or_else-fault None (wrong which place) later = refl
or_else-fault (Some end) answer later = refl

moved : {burst other : List ℕ} {ms ns : List Content} {e f : Option End} (new : Progress) → burst ≡ other → ms ≡ ns
    → e ≡ f → Tracks burst ms e new
    → Tracks other ns f new
moved {burst} {other} {ms} {ns} {e} {f} new bursts messages ends t =
    subst (λ (b : List ℕ). Tracks b ns f new) bursts (subst (λ (l : List Content). Tracks burst l f new) messages
    (subst (λ (o : Option End). Tracks burst ms o new) ends t))

or_else-none : (e : Option End) → or_else e None ≡ e
or_else-none None = refl
or_else-none (Some end) = refl

-- the calls of one piece
tracks_piece : (burst : List ℕ) (ms : List Content) (e : Option End) (old : Progress) (piece : List ℕ)
    (calls : List Call) (new : Progress)
    → Feeds old piece calls new → Tracks burst ms e old →
    Tracks (burst ++ piece) (ms ++ messages_given calls) (or_else e (fault_given calls)) new
tracks_piece burst ms e old piece [] new f t =
    let there : Tracks burst ms e new = subst (Tracks burst ms e) (sym f.1) t in
    moved new (sym (append-nil burst) ∙ ap (λ (p : List ℕ). burst ++ p) (sym f.0)) (sym (append-nil ms))
    (sym (or_else-none e)) there
tracks_piece burst ms e old piece (call ∷ calls) new f t =
    let given : List Content = with_message call.answer [] in
    let first = tracks_call burst ms e old piece call.count call.answer f.0 t in
    let remainder = tracks_piece (burst ++ take call.count piece) (ms ++ given) (or_else e (or_fault call.answer None))
    (fed old piece call.count call.answer) (drop call.count piece) calls new f.1 first in
    moved new
    (append_assoc burst (take call.count piece) (drop call.count piece)
    ∙ ap (λ (p : List ℕ). burst ++ p) (take-append-drop call.count piece))
    (append_assoc ms given (messages_given calls)
    ∙ ap (λ (l : List Content). ms ++ l) (with_message-append call.answer (messages_given calls)))
    (or_else-fault e call.answer (fault_given calls))
    remainder

messages_given-append : (calls others : List Call)
    → messages_given (calls ++ others) ≡ messages_given calls ++ messages_given others
messages_given-append [] others = refl
messages_given-append (call ∷ calls) others =
    let given : List Content = with_message call.answer [] in
    sym (with_message-append call.answer (messages_given (calls ++ others)))
    ∙ ap (λ (l : List Content). given ++ l) (messages_given-append calls others)
    ∙ sym (append_assoc given (messages_given calls) (messages_given others))
    ∙ ap (λ (l : List Content). l ++ messages_given others) (with_message-append call.answer (messages_given calls))

or_fault-else : (answer : Answer) (first later : Option End)
    → or_fault answer (or_else first later) ≡ or_else (or_fault answer first) later
or_fault-else (message m) first later = refl
or_fault-else more first later = refl
or_fault-else (wrong which place) first later = refl

fault_given-append : (calls others : List Call)
    → fault_given (calls ++ others) ≡ or_else (fault_given calls) (fault_given others)
fault_given-append [] others = refl
fault_given-append (call ∷ calls) others = ap (or_fault call.answer) (fault_given-append calls others)
    ∙ or_fault-else call.answer (fault_given calls) (fault_given others)

or_else-assoc : (a b c : Option End) → or_else (or_else a b) c ≡ or_else a (or_else b c)
or_else-assoc None b c = refl
or_else-assoc (Some end) b c = refl

-- the calls of all pieces
tracks_all : (burst : List ℕ) (ms : List Content) (e : Option End) (old : Progress) (pieces : List (List ℕ))
    (calls : List
    (List Call)) (new : Progress) → FeedsAll old pieces calls new → Tracks burst ms e old →
    Tracks (burst ++ flat_map (λ p. p) pieces) (ms ++ messages_given (flat_map (λ c. c) calls))
    (or_else e (fault_given (flat_map (λ c. c) calls))) new
tracks_all burst ms e old [] [] new f t =
    moved new (sym (append-nil burst)) (sym (append-nil ms)) (sym (or_else-none e))
    (subst (Tracks burst ms e) (sym f) t)
tracks_all burst ms e old [] (calls ∷ others) new f t = absurd f
tracks_all burst ms e old (piece ∷ pieces) [] new f t = absurd f
tracks_all burst ms e old (piece ∷ pieces) (calls ∷ others) new f t =
    let later : List Call = flat_map (λ c. c) others in
    let first = tracks_piece burst ms e old piece calls f.0 f.1 t in
    let remainder = tracks_all (burst ++ piece) (ms ++ messages_given calls)
    (or_else e (fault_given calls)) f.0 pieces others new f.2 first in
    moved new
    (append_assoc burst piece (flat_map (λ p. p) pieces))
    (append_assoc ms (messages_given calls) (messages_given later)
    ∙ ap (λ (l : List Content). ms ++ l) (sym (messages_given-append calls later)))
    (or_else-assoc e (fault_given calls) (fault_given later) ∙ ap (or_else e) (sym (fault_given-append calls later)))
    remainder

reads_tracked : (burst : List ℕ) (ms : List Content) (e : Option End) (new : Progress) → Tracks burst ms e new
    → Reads burst ms (unwrap_or e (silent_end (ended_of new)))
reads_tracked burst ms None (reading taken []) t = ends_follows burst ms taken [] t
reads_tracked burst ms None (reading taken (byte ∷ bytes)) t = ends_follows burst ms taken (byte ∷ bytes) t
reads_tracked burst ms None failed t = absurd t
reads_tracked burst ms (Some end) (reading taken held) t = absurd t
reads_tracked burst ms (Some end) failed t = subst (λ (b : List ℕ). Reads b ms end) (append-nil burst) (t [])

-- however a burst is cut into pieces
pub pieces_read : (pieces : List (List ℕ)) (calls : List (List Call)) (new : Progress)
    → FeedsAll (reading 0 []) pieces calls new →
    Reads (flat_map (λ p. p) pieces) (messages_given (flat_map (λ c. c) calls))
    (end_given (flat_map (λ c. c) calls) (ended_of new))
pieces_read pieces calls new f =
    reads_tracked (flat_map (λ p. p) pieces) (messages_given (flat_map (λ c. c) calls))
    (fault_given (flat_map (λ c. c) calls)) new
    (tracks_all [] [] None (reading 0 []) pieces calls new f follows_none)
