-- The turns of connections, one after another.
use Rattle.std.specs.Prelude.{ℕ, ◌≡◌, ◌≢◌, ◌<◌, Bool, List, [], ◌∷◌, filter, length, slice_index_or}
use Rattle.http.specs.declared.request.Request.{Request}
use Rattle.http_server.specs.Connection.{history}
use Rattle.http_server.specs.Exchange.{Call, Calls}
use Rattle.http_server.specs.declared.response.Response.{Response}
use Rattle.vdcp_panel.specs.declared.desk.Desk.{Desk}
use Rattle.vdcp_panel.specs.declared.peer.Peer.{Peer}

-- what the service was called for at a connection
abbrev pub calls_at : {T : Type 0} → Peer T → List Call
calls_at peer = (history peer.connection).calls

-- the connections that are known
abbrev pub known_of : {T : Type 0} → List (Peer T) → List (Peer T)
known_of peers = filter (λ p. p.is_known) peers

-- the connection in this place is known, or isn't
abbrev pub IsKnownAt : {T : Type 0} → List (Peer T) → ℕ → Bool → Type 0
IsKnownAt {T} peers place is_known =
    (p : Peer T) × (place < length peers) × (p ≡ slice_index_or peers place p) × (p.is_known ≡ is_known)

-- of those before this place none is known, or none isn't
abbrev pub IsNoneBefore : {T : Type 0} → List (Peer T) → ℕ → Bool → Type 0
IsNoneBefore {T} peers n is_known =
    (k : ℕ) (p : Peer T) → k < n → p ≡ slice_index_or peers k p → p.is_known ≢ is_known

-- a connection had a turn at a desk, from which it is known if it was or if a request of that turn had the token
abbrev pub HasTurned : {V T : Type 0} → (Desk V → Request (List ℕ) → Response → Desk V → Type 0) → Desk V → Peer T → Peer T
    → Desk V → Type 0
HasTurned answers old p q new =
    Calls answers (record old { is_known = p.is_known }) new (calls_at p) (calls_at q) × (q.is_known ≡ new.is_known)

-- each connection had a turn. The desk's calls in it lead from where the turn before has left the desk
abbrev pub HaveTurned : {V T : Type 0} → (Desk V → Request (List ℕ) → Response → Desk V → Type 0) → Desk V → List (Peer T)
    → List (Peer T) → Desk V → Type 0
HaveTurned answers old [] [] new = new ≡ old
HaveTurned {V} answers old (p ∷ ps) (q ∷ qs) new =
    (next : Desk V) × HasTurned answers old p q next × HaveTurned answers next ps qs new
HaveTurned answers old _ _ new = ⊥
