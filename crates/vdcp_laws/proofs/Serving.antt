-- The bytes of what happened to a server, with one event more; and the catalogue stays.
use Rattle.std.proofs.Common.{arith, ℕ, ◌≡◌, Bool, List, [], ◌∷◌, ◌++◌, refl, sym, ap, ◌∙◌, append_assoc, append-nil, if◌then◌else◌}
use Rattle.vdcp_frame.specs.Message.{Content}
use Rattle.vdcp_port.specs.Answers.{after_messages}
use Rattle.vdcp_port.specs.Clock.{ClockedPort, after_frame, after_message, after_ready, after_ended, completes_cue, counted_down, ends_clip}
use Rattle.vdcp_wire.specs.Wires.{bytes, silence, close}
use Rattle.vdcp_drive.specs.Turns.{Turn, arrivals, listen, frame}
use Rattle.vdcp_laws.specs.TwoEnds.{bytes_in}

pub bytes_both : (xs ys : List Turn) → bytes_in (arrivals (xs ++ ys)) ≡ bytes_in (arrivals xs) ++ bytes_in (arrivals ys)
bytes_both [] ys = refl
bytes_both (listen (bytes b) ∷ xs) ys =
    ap (λ (l : List ℕ). b ++ l) (bytes_both xs ys) ∙ sym (append_assoc b (bytes_in (arrivals xs)) (bytes_in (arrivals ys)))
bytes_both (listen silence ∷ xs) ys = bytes_both xs ys
bytes_both (listen close ∷ xs) ys = bytes_both xs ys
bytes_both (frame ∷ xs) ys = bytes_both xs ys

pub bytes_more : (downs : List Turn) (piece : List ℕ)
    → bytes_in (arrivals (downs ++ listen (bytes piece) ∷ [])) ≡ bytes_in (arrivals downs) ++ piece
bytes_more downs piece = bytes_both downs (listen (bytes piece) ∷ [])
    ∙ ap (λ (l : List ℕ). bytes_in (arrivals downs) ++ l) (append-nil piece)

pub bytes_else : (downs : List Turn) (what : Turn) → bytes_in (arrivals (what ∷ [])) ≡ []
    → bytes_in (arrivals (downs ++ what ∷ [])) ≡ bytes_in (arrivals downs)
bytes_else downs what none = bytes_both downs (what ∷ [])
    ∙ ap (λ (l : List ℕ). bytes_in (arrivals downs) ++ l) none ∙ append-nil (bytes_in (arrivals downs))

-- The catalogue stays.

pub clips_stay : (p : ClockedPort) (ms : List Content) → (after_messages p ms).clips ≡ p.clips
clips_stay p [] = refl
clips_stay p (m ∷ ms) = clips_stay (after_message p m) ms

frame_by : (cue clip : Bool) (p : ClockedPort)
    → (let cued : ClockedPort = if cue then after_ready p else p in if clip then after_ended cued else cued).clips ≡ p.clips
frame_by cue clip p = grind arith

pub clips_frame : (p : ClockedPort) → (after_frame p).clips ≡ p.clips
clips_frame p = frame_by (completes_cue p) (ends_clip p) (counted_down p)
