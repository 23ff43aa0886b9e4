-- What the struct of a port stands for.
use Rattle.std.specs.Prelude.{ℕ, ◌≡◌, List, [], ◌∷◌, Option, None, Some}
use Rattle.vdcp_value.specs.Ids.{id_bytes}
use Rattle.vdcp_value.specs.declared.part.Part.{Part}
use Rattle.vdcp_value.specs.declared.rate.Rate.{Rate}
use Rattle.vdcp_value.specs.declared.rate.Rate.TheVariants.{F24, F25, F30, D30}
use Rattle.vdcp_port.specs.declared.access.Access.{Access}
use Rattle.vdcp_port.specs.declared.access.Access.TheVariants.{Closed, Open, Selected}
use Rattle.vdcp_port.specs.declared.airing.Clip.{Clip}
use Rattle.vdcp_port.specs.declared.kept.Kept.{Kept}
use Rattle.vdcp_port.specs.Clock.{ClockedPort}
use Rattle.vdcp_port.specs.Held.{CanKeep, port_of}
use Rattle.vdcp_value.specs.declared.part.Item.{Item}
use Rattle.vdcp_c.specs.Clips.{clips_of}
use Rattle.vdcp_c.specs.declared.clip.vdcp_clip.{vdcp_clip}
use Rattle.vdcp_c.specs.declared.airing.vdcp_airing.{vdcp_airing}
use Rattle.vdcp_c.specs.declared.server.vdcp_server.{vdcp_server}

abbrev pub IsPartOf : vdcp_airing → Option Part → Type 0
IsPartOf a None = a.what ≡ 1
IsPartOf a (Some part) = (a.what ≡ 2) × (a.start ≡ part.start) × (a.duration ≡ part.duration)

abbrev pub IsAiring : vdcp_airing → Option Clip → Type 0
IsAiring a None = a.what ≡ 0
IsAiring a (Some clip) = (a.id ≡ id_bytes clip.item.id) × (a.left ≡ clip.left) × IsPartOf a clip.item.part

abbrev pub access_code : Access → ℕ
access_code Closed = 0
access_code Open = 1
access_code Selected = 2

abbrev pub IsRate : ℕ → Rate → Type 0
IsRate code F24 = code ≡ 0
IsRate code F25 = code ≡ 1
IsRate code F30 = code ≡ 2
IsRate code D30 = code ≡ 3

pub record IsKept (p : vdcp_server) (k : Kept) : Type 0 where
  pub unit : p.unit ≡ k.unit
  pub number : p.number ≡ k.number
  pub access : p.access ≡ access_code k.access
  pub cue_frames : p.cue_frames ≡ k.cue_frames
  pub cued : IsAiring p.cued k.cued
  pub playing : IsAiring p.playing k.playing

-- the struct is this port over the rows of a table of clips
pub record IsPort (p : vdcp_server) (rows : List vdcp_clip) (port : ClockedPort) : Type 0 where
  pub rate : Rate
  pub rate_is : IsRate p.rate rate
  pub kept : Kept
  pub keeps : IsKept p kept
  pub can : CanKeep (clips_of rate rows) kept
  pub port_is : port ≡ port_of (clips_of rate rows) kept

-- the struct says what went to air
abbrev pub IsAired : vdcp_airing → Option Item → Type 0
IsAired a None = a.what ≡ 0
IsAired a (Some item) = (a.id ≡ id_bytes item.id) × (a.left ≡ 0) × IsPartOf a item.part

-- the same of the items of a burst, of which one goes to air at most
abbrev pub IsAiredList : vdcp_airing → List Item → Type 0
IsAiredList a [] = a.what ≡ 0
IsAiredList a (item ∷ items) = IsAired a (Some item)
