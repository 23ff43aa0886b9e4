-- No number that a page is told has a fraction.
use Rattle.std.proofs.Common.{◌≡◌, false, List, [], ◌∷◌, map, refl}
use Rattle.std.specs.Prelude.{Option, None, Some}
use Rattle.std.specs.declared.net.SocketAddr.{SocketAddr}
use Rattle.serde_json.specs.View.{items_of}
use Rattle.serde_json.specs.Written.{has_float, items_have_float}
use Rattle.vdcp_port.specs.declared.airing.Clip.{Clip}
use Rattle.vdcp_serve.specs.Panel.{airing_data, from_data, seen_data, slot_data}
use Rattle.vdcp_serve.specs.declared.panel.Airing.{Airing}
use Rattle.vdcp_serve.specs.declared.panel.PortSeen.{PortSeen}
use Rattle.vdcp_value.specs.declared.rate.Rate.{Rate}

rows_whole : (rate : Rate) (aired : List Airing) → items_have_float (items_of (map (airing_data rate) aired)) ≡ false
rows_whole rate [] = refl
rows_whole rate (a ∷ aired) = rows_whole rate aired

slot_whole : (rate : Rate) (clip : Option Clip) → has_float (slot_data rate clip) ≡ false
slot_whole rate None = refl
slot_whole rate (Some clip) = refl

from_whole : (from : Option SocketAddr) → has_float (from_data from) ≡ false
from_whole None = refl
from_whole (Some address) = refl

pub seen_whole : (v : PortSeen) → has_float (seen_data v) ≡ false
seen_whole v =
    rw (
      rows_whole v.rate v.aired.items,
      slot_whole v.rate v.kept.cued,
      from_whole v.from,
      slot_whole v.rate v.kept.playing,
    )
    refl
