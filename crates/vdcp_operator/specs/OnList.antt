-- What an operator's calls on the list come to.
use Rattle.std.specs.List.{flat_map}
use Rattle.std.specs.Prelude.{ℕ, ◌+◌, ◌-◌, ◌^◌, min, max, Bool, true, false, List, [], ◌∷◌, Option, Some}
use Rattle.vdcp_auto.specs.declared.list_call.ListCall.{ListCall}
use Rattle.vdcp_auto.specs.declared.list_call.ListCall.TheVariants.{Hold, Go, Skip}
use Rattle.vdcp_drive.specs.declared.hooks.Call.{Call}
use Rattle.vdcp_drive.specs.declared.hooks.Call.TheVariants as call
use Rattle.vdcp_operator.specs.LeftOut.{adding, has_room}
use Rattle.vdcp_operator.specs.declared.on_list.OnList.{OnList}

-- from hold on nothing new goes to air, up to go; what is skipped is left out, too, if there is room
abbrev pub list_after : ListCall → OnList → OnList
list_after Hold list = record list { holds = true }
list_after Go list = record list { holds = false }
list_after (Skip first end) list = record list { left_out = adding (record { first = first; end = end }) list.left_out }

abbrev pub has_room_for : OnList → ListCall → Bool
has_room_for list (Skip first end) = has_room list.left_out (record { first = first; end = end })
has_room_for list _ = true

-- call after call
abbrev pub list_by : List ListCall → OnList → OnList
list_by [] list = list
list_by (first ∷ calls) list = list_by calls (list_after first list)

-- take and stop are no calls on the list
abbrev pub list_called : Call → OnList → OnList
list_called (call.List c) list = list_after c list
list_called _ list = list

-- a call without an event that is wanted all the same
abbrev pub sparing : (wanted : Option ℕ) → ListCall → List ListCall
sparing (Some event) (Skip first end) =
    Skip first (min end event) ∷ Skip (max first (min (event + 1) (2 ^ 64 - 1))) end ∷ []
sparing wanted call = call ∷ []

abbrev pub sparing_each : (wanted : Option ℕ) → List ListCall → List ListCall
sparing_each wanted calls = flat_map (sparing wanted) calls
