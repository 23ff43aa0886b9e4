-- The calls that were said and aren't kept yet.
use Rattle.std.specs.Prelude.{◌&&◌, Bool, true, false, List, [], ◌∷◌, ◌++◌, length, Option, None, Some, Result, Ok, Err, if◌then◌else◌, is_ok, nat_lt}
use Rattle.vdcp_auto.specs.declared.list_call.ListCall.TheVariants as list_call
use Rattle.vdcp_drive.specs.declared.hooks.Call.{Call}
use Rattle.vdcp_drive.specs.declared.hooks.Call.TheVariants.{Take, Stop, List as OnTheList}
use Rattle.vdcp_operator.specs.LeftOut.{jump_at, skip_at}
use Rattle.vdcp_operator.specs.declared.ahead.Ahead.{Ahead}
use Rattle.vdcp_operator.specs.declared.left_out.CallFault.{CallFault}
use Rattle.vdcp_operator.specs.declared.left_out.CallFault.TheVariants as faults
use Rattle.vdcp_operator.specs.declared.left_out.LeftOut.{LeftOut}
use Rattle.vdcp_operator.specs.declared.left_out.Span.{Span}
use Rattle.vdcp_operator.specs.declared.typed.Said.{Said}
use Rattle.vdcp_operator.specs.declared.typed.Said.TheVariants as said

abbrev pub skipping : Result Span CallFault → Result Call CallFault
skipping (Ok more) = Ok (OnTheList (list_call.Skip more.first more.end))
skipping (Err fault) = Err fault

-- the call as which something is obeyed, or why it isn't
abbrev pub call_at : LeftOut → Ahead → Said → Result Call CallFault
call_at left ahead said.Take = Ok Take
call_at left ahead said.Stop = Ok Stop
call_at left ahead said.Hold = Ok (OnTheList list_call.Hold)
call_at left ahead said.Go = Ok (OnTheList list_call.Go)
call_at left ahead (said.Skip event) = skipping (skip_at left ahead event)
call_at left ahead (said.Jump event) = skipping (jump_at left ahead event)
call_at left ahead said.Other = Err faults.NoCall

abbrev pub first_held : List Said → Option Said
first_held [] = None
first_held (first ∷ waiting) = Some first

-- up to sixteen calls wait that can be obeyed, in the order in which they were said; stop waits in place of all others
abbrev pub held_after : LeftOut → Ahead → Option Said → List Said → List Said
held_after left ahead None waiting = waiting
held_after left ahead (Some said.Stop) waiting = said.Stop ∷ []
held_after left ahead (Some says) waiting =
    if is_ok (call_at left ahead says) && nat_lt (length waiting) 16 then waiting ++ says ∷ [] else waiting

-- the first ones are dropped if they can't be obeyed any more
abbrev pub givable : LeftOut → Ahead → List Said → List Said
givable left ahead [] = []
givable left ahead (first ∷ waiting) =
    if is_ok (call_at left ahead first) then first ∷ waiting else givable left ahead waiting

abbrev pub call_or_none : Result Call CallFault → Option Call
call_or_none (Ok call) = Some call
call_or_none (Err fault) = None

abbrev pub first_call : LeftOut → Ahead → List Said → Option Call
first_call left ahead [] = None
first_call left ahead (first ∷ waiting) = call_or_none (call_at left ahead first)

-- one of them is take or stop
abbrev pub is_called : List Said → Bool
is_called [] = false
is_called (said.Take ∷ calls) = true
is_called (said.Stop ∷ calls) = true
is_called (_ ∷ calls) = is_called calls

-- whether the list is held once they are obeyed
abbrev pub will_hold : List Said → (holds : Bool) → Bool
will_hold [] holds = holds
will_hold (said.Hold ∷ calls) holds = will_hold calls true
will_hold (said.Go ∷ calls) holds = will_hold calls false
will_hold (_ ∷ calls) holds = will_hold calls holds
