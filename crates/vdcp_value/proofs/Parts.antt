-- What is known of a part that fits.
use Rattle.std.proofs.Common.{◌+◌, ◌≤◌, ◌≡◌, true, ◌&&◌, nat_le, arith, Bool, ℕ}
use Rattle.vdcp_value.specs.Bcd.{frames_in, is_time}
use Rattle.vdcp_value.specs.Parts.{part_fits}
use Rattle.vdcp_value.specs.Timecodes.{frames_of, rate_of}
use Rattle.vdcp_value.specs.declared.part.Part.{Part}
use Rattle.vdcp_value.specs.declared.timecode.Timecode.{Timecode}

-- what is known of a part that fits
pub record Fitting (part : Part) (clip : Timecode) : Type 0 where
  pub start_is_time : is_time (rate_of clip) part.start ≡ true
  pub duration_is_time : is_time (rate_of clip) part.duration ≡ true
  pub some : 1 ≤ frames_in (rate_of clip) part.duration
  pub within : frames_in (rate_of clip) part.start + frames_in (rate_of clip) part.duration ≤ frames_of clip

four_hold : (a b : Bool) (m n k : ℕ) → (a && b && nat_le 1 n && nat_le (m + n) k) ≡ true
    → (a ≡ true) × (b ≡ true) × (1 ≤ n) × (m + n ≤ k)
four_hold a b m n k e = (grind (arith, e), grind (arith, e), grind (arith, e), grind (arith, e))

pub fitting : (part : Part) (clip : Timecode) → part_fits part clip ≡ true → Fitting part clip
unfolding part_fits
fitting part clip e =
    let rate = rate_of clip in
    let h = four_hold (is_time rate part.start) (is_time rate part.duration) (frames_in rate part.start)
    (frames_in rate part.duration) (frames_of clip) e in
    record { start_is_time = h.0; duration_is_time = h.1; some = h.2; within = h.3 }
