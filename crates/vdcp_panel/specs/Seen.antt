-- What is to be seen, and what a panel's requests are answered with.
use Rattle.std.specs.Prelude.{ℕ, ◌≡◌, ◌⊎◌, ◌||◌, List, Option, string_bytes}
use Rattle.http.specs.declared.request.Request.{Request}
use Rattle.http_server.specs.declared.response.Response.{Response}
use Rattle.mio.specs.declared.net.stream.TcpStream.{TcpStream}
use Rattle.vdcp_panel.specs.Answered.{IsAnswered}
use Rattle.vdcp_panel.specs.Asked.{shows_token}
use Rattle.vdcp_panel.specs.Turned.{HaveTurned}
use Rattle.vdcp_panel.specs.declared.call.Call.{Call}
use Rattle.vdcp_panel.specs.declared.desk.Desk.{Desk}
use Rattle.vdcp_panel.specs.declared.gate.Gate.{Gate}
use Rattle.vdcp_panel.specs.declared.panel.Names.{Names}
use Rattle.vdcp_panel.specs.declared.peer.Peer.{Peer}

-- a request was answered at a desk, of whose view these are the page, the state and the event that a call is about; with
-- the token it makes its connection known
abbrev pub AnswersAtDesk : {V : Type 0} → (page state : V → List ℕ) → (about : V → Option ℕ)
    → Desk V → Request (List ℕ) → Response → Desk V → Type 0
AnswersAtDesk page state about old r response new =
    (new ≡ record old { calls = new.calls; is_known = new.is_known })
    × (new.is_known ≡ (old.is_known || shows_token old.gate r))
    × IsAnswered old.gate (page old.view.now) (state old.view.now) (about old.view.now) old.calls.items r response new.calls.items

-- the gate has these texts
pub record IsGateOf (n : Names) (g : Gate) : Type 0 where
  pub address : g.address.host.now ≡ string_bytes n.address
  pub address_origin : g.address.origin.now ≡ string_bytes n.address_origin
  pub local : g.local.host.now ≡ string_bytes n.local
  pub local_origin : g.local.origin.now ≡ string_bytes n.local_origin
  pub token : g.token.now ≡ string_bytes n.token

-- connections had a turn each at a desk with this gate, this view and these calls, which left those calls
pub record HasServed {V : Type 0} (page state : V → List ℕ) (about : V → Option ℕ) (n : Names) (view : V)
    (calls calls' : List Call) : Type 0 where
  pub old : Desk V
  pub new : Desk V
  pub gate : IsGateOf n old.gate
  pub seen : old.view.now ≡ view
  pub held : old.calls.items ≡ calls
  pub left : new.calls.items ≡ calls'
  pub before : List (Peer TcpStream)
  pub after : List (Peer TcpStream)
  pub turned : HaveTurned (AnswersAtDesk page state about) old before after new

-- that, or nothing was done
abbrev pub ServesSome : {V : Type 0} → (page state : V → List ℕ) → (about : V → Option ℕ) → Names → V
    → (calls calls' : List Call) → Type 0
ServesSome page state about n view calls calls' =
    (calls' ≡ calls) ⊎ HasServed page state about n view calls calls'
