-- Which events a log shows to be aired, and whether one more may have aired.
use Rattle.std.specs.Prelude.{ℕ, Bool, false, not, ◌||◌, ◌&&◌, None, List, length, nat_eq, take, filter, count_by, slice_get}
use Rattle.std.specs.List.{last_or, list_any, range_with_len}
use Rattle.std.specs.Option.{option_map_or}
use Rattle.vdcp_auto.specs.declared.exchange.Exchange.{Exchange}
use Rattle.vdcp_auto.specs.declared.phase.Mode.{Mode}
use Rattle.vdcp_auto.specs.declared.phase.Mode.TheVariants.{Plain, Confirming}
use Rattle.vdcp_auto.specs.Log.{is_play, is_stop, is_empty_status, is_answered, is_acked}

-- PLAYs, STOPs and empty statuses: the last of them says whether a PLAY is open
abbrev pub tells_of_play : Exchange → Bool
tells_of_play e = is_play e || is_stop e || is_empty_status e

-- of all PLAYs, STOPs and empty statuses in the log, the last is a PLAY without an answer
abbrev pub has_open_play : List Exchange → Bool
has_open_play log =
    option_map_or (λ e. is_play e && not (is_answered e)) (last_or None (filter tells_of_play log)) false

-- the exchange, with these before it, shows one more event to be aired. An ACK to PLAY shows it in plain
-- mode only; an empty status shows it in both, if a PLAY is open
abbrev pub settles : Mode → List Exchange → Exchange → Bool
settles Plain before e = is_play e && is_acked e || is_empty_status e && has_open_play before
settles Confirming before e = is_empty_status e && has_open_play before

-- the log's exchange at this place settles
abbrev pub settles_at : Mode → List Exchange → ℕ → Bool
settles_at mode log place = option_map_or (settles mode (take place log)) (slice_get log place) false

-- how many of the log's exchanges settle
abbrev pub settled : Mode → List Exchange → ℕ
settled mode log = count_by (settles_at mode log) (range_with_len 0 (length log))

-- the log's exchange at this place is a PLAY
abbrev pub plays_at : List Exchange → ℕ → Bool
plays_at log place = option_map_or is_play (slice_get log place) false

-- one event more than are settled may have aired: a PLAY stands in the log, and nothing has settled since
abbrev pub may_have_aired : Mode → List Exchange → Bool
may_have_aired mode log =
    list_any (λ place. plays_at log place && nat_eq (settled mode (take place log)) (settled mode log))
    (range_with_len 0 (length log))
