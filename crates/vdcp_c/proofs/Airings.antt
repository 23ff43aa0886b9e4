-- A struct says one thing of what airs.
use Rattle.std.proofs.Common.{◌≡◌, ℕ, List, ap, ap₂, refl, sym, ◌∙◌}
use Rattle.std.specs.Prelude.{Option, None, Some}
use Rattle.vdcp_value.specs.Ids.{id_bytes}
use Rattle.vdcp_value.specs.declared.clip_id.ClipId.{ClipId}
use Rattle.vdcp_value.specs.declared.part.Part.{Part}
use Rattle.vdcp_port.specs.declared.airing.Clip.{Clip}
use Rattle.vdcp_c.specs.Ports.{IsAiring, IsPartOf}
use Rattle.vdcp_c.specs.declared.airing.vdcp_airing.{vdcp_airing}

abbrev part_of : List ℕ → List ℕ → Part
part_of start duration = record { start = start; duration = duration }

abbrev clip_of : ClipId → Option Part → ℕ → Clip
clip_of id part left = record { item = record { id = id; part = part }; left = left }

same_part : (a : vdcp_airing) (p q : Option Part) → IsPartOf a p → IsPartOf a q → p ≡ q
same_part a None None x y = refl
same_part a None (Some q) x y = cc (sym x ∙ y.0)
same_part a (Some p) None x y = cc (sym y ∙ x.0)
same_part a (Some p) (Some q) x y = ap Some (ap₂ part_of (sym x.1 ∙ y.1) (sym x.2 ∙ y.2))

pub clip_airs : ((x y : ClipId) → id_bytes x ≡ id_bytes y → x ≡ y) → (a : vdcp_airing) (id : ClipId) (part : Option Part)
    (clip : Option Clip) → (a.what ≡ 0 → ⊥) → id_bytes id ≡ a.id → IsPartOf a part → IsAiring a clip
    → Some (Some (clip_of id part a.left)) ≡ Some clip
clip_airs one a id part None some same p is = absurd (some is)
clip_airs one a id part (Some clip) some same p is =
    ap (λ (c : Clip). Some (Some c))
    (ap (λ (x : ClipId). clip_of x part a.left) (one id clip.item.id (same ∙ is.0))
    ∙ ap (λ (x : Option Part). clip_of clip.item.id x a.left) (same_part a part clip.item.part p is.2)
    ∙ ap (λ (x : ℕ). clip_of clip.item.id clip.item.part x) is.1)
