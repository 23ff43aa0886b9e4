-- When a panel has something to do, and how it is named.
use Rattle.std.specs.Net.Socket.{socket_port}
use Rattle.std.specs.Net.Text.{socket_text}
use Rattle.std.specs.Prelude.{ℕ, ◌≡◌, ◌⊎◌, ◌<◌, ◌≤◌, ◌+◌, ◌-◌, ◌*◌, ◌/◌, ◌^◌, ◌++◌, ◌||◌, Bool, List, codes, decimal, false, filter, min, not, string_bytes, true}
use Rattle.std.specs.declared.net.SocketAddr.{SocketAddr}
use Rattle.mio.specs.declared.net.stream.TcpStream.{TcpStream}
use Rattle.vdcp_panel.specs.Lasting.{are_busy, first_due, is_gone}
use Rattle.vdcp_panel.specs.declared.panel.Names.{Names}
use Rattle.vdcp_panel.specs.declared.panel.Panel.{Panel}
use Rattle.vdcp_panel.specs.declared.peer.Peer.{Peer}

-- until then nothing is done: nineteen times as long as it took
abbrev pub rested_after : (began ended : ℕ) → ℕ
rested_after began ended = min (ended + (ended - began) * 19) (2 ^ 64 - 1)

-- a new panel serves at the first call
pub record IsReady (p : Panel) : Type 0 where
  pub busy : p.is_busy ≡ true
  pub next : p.next ≡ 0

-- it rests, or nothing is to be done
abbrev pub MayWait : Panel → (now : ℕ) → Type 0
MayWait p now = (now < p.next) ⊎ ((p.is_busy ≡ false) × (now / 1000000 < p.due))

-- nothing was done at that moment
pub record HasWaited (old new : Panel) : Type 0 where
  pub may_wait : MayWait old new.now
  pub busy : new.is_busy ≡ old.is_busy
  pub peers : new.peers ≡ old.peers
  pub next : new.next ≡ old.next
  pub due : new.due ≡ old.due

-- connections had their turns, and those that are gone have gone. It stays busy if it took one or one of them is busy, looks
-- again when the first is to be given up, and rests
pub record HasWorked (old new : Panel) : Type 0 where
  pub began : ℕ
  pub after : old.now ≤ began
  pub before : began ≤ new.now
  pub turned : List (Peer TcpStream)
  pub peers : new.peers.peers.items ≡ filter (λ peer. not (is_gone peer)) turned
  pub took : Bool
  pub busy : new.is_busy ≡ (took || are_busy new.peers.peers.items)
  pub due : new.due ≡ first_due new.peers.peers.items
  pub next : new.next ≡ rested_after began new.now

abbrev pub Looks : Panel → Panel → Type 0
Looks old new = HasWaited old new ⊎ HasWorked old new

-- the texts of the address at which it listens
pub record AreNamesOf (bound : SocketAddr) (n : Names) : Type 0 where
  pub address : string_bytes n.address ≡ socket_text bound
  pub address_origin : string_bytes n.address_origin ≡ codes "http://" ++ socket_text bound
  pub local : string_bytes n.local ≡ codes "localhost:" ++ decimal (socket_port bound)
  pub local_origin : string_bytes n.local_origin ≡ codes "http://localhost:" ++ decimal (socket_port bound)

-- the line that says where it is, with the token if it takes calls
abbrev pub panel_line : (takes_calls : Bool) → Names → List ℕ
panel_line true n = codes "panel http://" ++ (string_bytes n.address ++ (codes "/#" ++ (string_bytes n.token ++ codes "\n")))
panel_line false n = codes "panel http://" ++ (string_bytes n.address ++ codes "/\n")
