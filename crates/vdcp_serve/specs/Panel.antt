-- What the page of a port shows.
use Rattle.circular_buffer.specs.Buffer.{buffer, keep_last}
use Rattle.std.specs.Net.Text.{socket_text}
use Rattle.std.specs.Prelude.{ℕ, ◌≡◌, ◌+◌, ◌-◌, ◌^◌, min, ◌++◌, List, [], ◌∷◌, codes, map, Option, None, Some, option_map}
use Rattle.std.specs.declared.net.SocketAddr.{SocketAddr}
use Rattle.serde_json.specs.Data.{Data, array, member, no_members, null, number, object, string, unsigned}
use Rattle.serde_json.specs.View.{items_of}
use Rattle.serde_json.specs.Written.{compact_text}
use Rattle.vdcp_panel.specs.Seen.{ServesSome}
use Rattle.vdcp_panel.specs.declared.call.Call.{Call}
use Rattle.vdcp_panel.specs.declared.panel.Names.{Names}
use Rattle.vdcp_port.specs.Clock.{ClockedPort}
use Rattle.vdcp_port.specs.Held.{port_of}
use Rattle.vdcp_port.specs.Port.{state_byte}
use Rattle.vdcp_port.specs.declared.access.Access.{Access}
use Rattle.vdcp_port.specs.declared.access.Access.TheVariants as access
use Rattle.vdcp_port.specs.declared.airing.Clip.{Clip}
use Rattle.vdcp_serve.specs.declared.panel.Airing.{Airing}
use Rattle.vdcp_serve.specs.declared.panel.PortPanel.{PortPanel}
use Rattle.vdcp_serve.specs.declared.panel.PortSeen.{PortSeen}
use Rattle.vdcp_serve.specs.declared.panel.PortView.{PortView}
use Rattle.vdcp_text.specs.Items.{item_text}
use Rattle.vdcp_value.specs.Labels.{frames_per_second}
use Rattle.vdcp_value.specs.declared.part.Item.{Item}
use Rattle.vdcp_value.specs.declared.rate.Rate.{Rate}

abbrev pub access_text : Access → List ℕ
access_text access.Closed = codes "closed"
access_text access.Open = codes "open"
access_text access.Selected = codes "selected"

-- a slot: its item, and the frames that are left
abbrev pub slot_data : Rate → Option Clip → Data
slot_data rate None = null
slot_data rate (Some clip) =
    object (member (codes "item") (string (item_text rate clip.item))
    (member (codes "left") (number (unsigned clip.left)) no_members))

-- an item that went to air
abbrev pub airing_data : Rate → Airing → Data
airing_data rate a =
    object (member (codes "at") (number (unsigned a.at))
    (member (codes "item") (string (item_text rate a.item))
    (member (codes "number") (number (unsigned a.number)) no_members)))

abbrev pub from_data : Option SocketAddr → Data
from_data None = null
from_data (Some address) = string (socket_text address)

abbrev pub seen_data : PortSeen → Data
seen_data v =
    object (member (codes "access") (string (access_text v.kept.access))
    (member (codes "aired") (array (items_of (map (airing_data v.rate) v.aired.items)))
    (member (codes "cued") (slot_data v.rate v.kept.cued)
    (member (codes "from") (from_data v.from)
    (member (codes "number") (number (unsigned v.kept.number))
    (member (codes "playing") (slot_data v.rate v.kept.playing)
    (member (codes "rate") (number (unsigned (frames_per_second v.rate)))
    (member (codes "state") (number (unsigned v.state))
    (member (codes "unit") (number (unsigned v.kept.unit)) no_members)))))))))

abbrev pub page_bytes : PortView → List ℕ
page_bytes v = v.page.now

-- the state is the text of that
abbrev pub state_bytes : PortView → List ℕ
state_bytes v = compact_text (seen_data v.seen.now)

-- this went to air: it is shown behind those before it, of which the oldest goes once there is no more room
abbrev pub noting : {R : Type 0} → Airing → PortPanel R → PortPanel R
noting a p =
    let aired = p.seen.aired in
    record p { seen = record p.seen { aired = buffer (keep_last aired.capacity (aired.items ++ a ∷ [])) aired.capacity } }

-- a page, if there is one, shows what went to air as that number, if something did
abbrev pub NotesOn : {R : Type 0} → Option Item → ℕ → Option (PortPanel R) → Option (PortPanel R) → Type 0
NotesOn None n page page' = page' ≡ page
NotesOn (Some item) n page page' = (at : ℕ)
    × (page' ≡ option_map (noting (record { number = n; item = item; at = at })) page)

-- how many went to air then
abbrev pub counted_on : Option Item → ℕ → ℕ
counted_on None n = n
counted_on (Some item) n = min (n + 1) (2 ^ 64 - 1)

-- the port is shown as it is: its access, its slots with the frames that are left and its state byte
pub record IsPortSeen (p : ClockedPort) (seen : PortSeen) : Type 0 where
  pub kept : p ≡ port_of p.clips seen.kept
  pub state : seen.state ≡ state_byte p.state

-- a new page shows the port, in time codes of this rate; nothing has aired, and nobody drives it
pub record IsNewPage {R : Type 0} (rate : Rate) (p : ClockedPort) (page : PortPanel R) : Type 0 where
  pub port : IsPortSeen p page.seen
  pub rate_is : page.seen.rate ≡ rate
  pub none_aired : page.seen.aired ≡ buffer [] 50
  pub from_nobody : page.seen.from ≡ None

-- and nothing else changes of what is shown
pub record Shows {R : Type 0} (p : ClockedPort) (old new : PortPanel R) : Type 0 where
  pub port : IsPortSeen p new.seen
  pub rest : new.seen ≡ record old.seen { kept = new.seen.kept; state = new.seen.state }

abbrev pub ShowsOn : {R : Type 0} → ClockedPort → Option (PortPanel R) → Option (PortPanel R) → Type 0
ShowsOn p None page' = page' ≡ None
ShowsOn p (Some page) None = ⊥
ShowsOn p (Some page) (Some page') = Shows p page page'

-- requests were answered by that
abbrev pub Answers : Names → PortSeen → Type 0
Answers names seen = (view : PortView) × (view.seen.now ≡ seen)
    × ((calls : List Call) × ServesSome page_bytes state_bytes (λ _. None) names view [] calls)
