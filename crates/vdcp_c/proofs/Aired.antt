-- What a burst airs, and the clips of a port after a frame.
use Rattle.std.proofs.Common.{◌≡◌, List, [], ◌∷◌, Bool, true, false, refl, subst}
use Rattle.std.specs.Option.{option_to_list}
use Rattle.std.specs.Prelude.{Option, None, Some, if◌then◌else◌}
use Rattle.vdcp_value.specs.declared.part.Item.{Item}
use Rattle.vdcp_frame.specs.Message.{Content}
use Rattle.vdcp_port.specs.Answers.{after_messages}
use Rattle.vdcp_port.specs.Clock.{ClockedPort, after_message, after_frame, after_ready, after_ended, completes_cue, counted_down, ends_clip}
use Rattle.vdcp_c.specs.Ports.{IsAired, IsAiredList}
use Rattle.vdcp_c.specs.declared.airing.vdcp_airing.{vdcp_airing}

aired_one : (a : vdcp_airing) (item : Option Item) → IsAired a item → IsAiredList a (option_to_list item)
aired_one a None is = is
aired_one a (Some item) is = is

pub aired_list : (a : vdcp_airing) (item : Option Item) (items : List Item) → option_to_list item ≡ items → IsAired a item
    → IsAiredList a items
aired_list a item items same is = subst (λ (l : List Item). IsAiredList a l) same (aired_one a item is)

cued_clips : (b : Bool) (p q : ClockedPort) → q.clips ≡ p.clips → (if b then after_ready q else q).clips ≡ p.clips
cued_clips true p q same = same
cued_clips false p q same = same

ended_clips : (b : Bool) (p q : ClockedPort) → q.clips ≡ p.clips → (if b then after_ended q else q).clips ≡ p.clips
ended_clips true p q same = same
ended_clips false p q same = same

pub frame_clips : (p : ClockedPort) → (after_frame p).clips ≡ p.clips
frame_clips p =
    ended_clips (ends_clip p) p (if completes_cue p then after_ready (counted_down p) else counted_down p)
    (cued_clips (completes_cue p) p (counted_down p) refl)

pub burst_clips : (p : ClockedPort) (ms : List Content) → (after_messages p ms).clips ≡ p.clips
burst_clips p [] = refl
burst_clips p (m ∷ ms) = burst_clips (after_message p m) ms
