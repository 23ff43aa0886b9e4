-- What asking for calls comes to.
use Rattle.std.proofs.Common.{◌≡◌, ◌≤◌, ◌∙◌, ◌++◌, ℕ, Bool, true, false, List, [], ◌∷◌, ap, arith, length, refl, sym}
use Rattle.std.proofs.lemmas.Bool.{true≢false}
use Rattle.std.specs.Prelude.{◌&&◌, None, Option, Some, Result, Ok, Err, if◌then◌else◌, is_ok, nat_lt}
use Rattle.vdcp_auto.specs.Plan.{Plan, View}
use Rattle.vdcp_auto.specs.State.{Stage, State, Ready, Awaiting, Ended}
use Rattle.vdcp_auto.specs.Turn.{awaited, awaited_in, given, given_in}
use Rattle.vdcp_drive.specs.declared.hooks.Call.{Call}
use Rattle.vdcp_drive.specs.declared.hooks.Call.TheVariants as call
use Rattle.vdcp_list.specs.Rests.{FromEvent}
use Rattle.vdcp_operator.specs.Hands.{Asks, Heeds, asks_state, ender_while, ends_by, given_now, once_more, unasked}
use Rattle.vdcp_operator.specs.LeftOut.{ahead_of}
use Rattle.vdcp_operator.specs.Waiting.{call_at, call_or_none, first_call, givable, held_after}
use Rattle.vdcp_operator.specs.declared.ahead.Ahead.{Ahead}
use Rattle.vdcp_operator.specs.declared.hand.Ender.TheVariants as ender
use Rattle.vdcp_operator.specs.declared.left_out.CallFault.{CallFault}
use Rattle.vdcp_operator.specs.declared.left_out.LeftOut.{LeftOut}
use Rattle.vdcp_operator.specs.declared.on_list.OnList.{OnList}
use Rattle.vdcp_operator.specs.declared.shown.RunPage.{RunPage}
use Rattle.vdcp_operator.specs.declared.typed.Said.{Said}
use Rattle.vdcp_operator.specs.declared.typed.Said.TheVariants as said
use Rattle.vdcp_operator.specs.declared.typed.Typed.{Typed}
use Rattle.vdcp_value.specs.declared.part.Item.{Item}
use Rattle.vdcp_words.specs.declared.command.Command.{Command}

-- ---- where nobody calls there is no call

module _ {S I : Type 0} (ends : List Said → Bool) (items : S → List Item) (remaining : I → Option (List ℕ)) (c : View (FromEvent S))
    (list : OnList) where
  abbrev Nobody : (waiting waiting' : List Said) → Option RunPage → Option (Typed I) → Type 0
  Nobody waiting waiting' page typed = (waiting' ≡ waiting) × (page ≡ None) × (typed ≡ None)

  asked_nobody : (waiting : List Said) (page : Option RunPage) (typed : Option (Typed I)) (waiting' : List Said)
      (page' : Option RunPage) (typed' : Option (Typed I)) → page ≡ None → typed ≡ None
      → Heeds items remaining c list waiting page typed waiting' page' typed' → Nobody waiting waiting' page' typed'
  asked_nobody waiting None None waiting' None None no_page no_typed (says, (None, shown, said), is) =
      (is ∙ ap (λ it. held_after list.left_out (ahead_of items c) it waiting) said, refl, refl)
  asked_nobody waiting None None waiting' None (Some typed') no_page no_typed (says, (None, shown, said), is) = absurd said
  asked_nobody waiting None None waiting' None typed' no_page no_typed (says, (Some first, shown, said), is) = cc shown
  asked_nobody waiting None None waiting' (Some page') typed' no_page no_typed (says, (first, shown, said), is) = absurd shown
  asked_nobody waiting None (Some typed) waiting' page' typed' no_page no_typed heeds = cc no_typed
  asked_nobody waiting (Some page) typed waiting' page' typed' no_page no_typed heeds = cc no_page

  pub nobody_calls : (waiting : List Said) (page : Option RunPage) (typed : Option (Typed I)) (waiting' : List Said)
      (page' : Option RunPage) (typed' : Option (Typed I)) → page ≡ None → typed ≡ None
      → Asks ends items remaining c list waiting page typed waiting' page' typed' → Nobody waiting waiting' page' typed'
  nobody_calls waiting page typed waiting' page' typed' no_page no_typed unasked = (refl, no_page, no_typed)
  nobody_calls waiting page typed waiting' page' typed' no_page no_typed
      (once_more {waiting' = waiting₁} {page' = page₁} {typed' = typed₁} asked going heeds) =
      let h : Nobody waiting waiting₁ page₁ typed₁ = nobody_calls waiting page typed waiting₁ page₁ typed₁ no_page no_typed asked in
      let g : Nobody waiting₁ waiting' page' typed' = asked_nobody waiting₁ page₁ typed₁ waiting' page' typed' h.1 h.2 heeds in
      (g.0 ∙ h.0, g.1, g.2)

-- ---- the first call that waits once it was asked can be obeyed

module _ (left : LeftOut) (ahead : Ahead) where
  abbrev first_or : Bool → Said → List Said → List Said
  first_or b first waiting = if b then first ∷ waiting else givable left ahead waiting

  kept_by : (b : Bool) (first : Said) (waiting : List Said) → is_ok (call_at left ahead first) ≡ b
      → givable left ahead (givable left ahead waiting) ≡ givable left ahead waiting
      → givable left ahead (first_or b first waiting) ≡ first_or b first waiting
  kept_by true first waiting is later = ap (λ b. first_or b first waiting) is
  kept_by false first waiting is later = later

  pub givable_again : (waiting : List Said) → givable left ahead (givable left ahead waiting) ≡ givable left ahead waiting
  givable_again [] = refl
  givable_again (first ∷ waiting) =
      kept_by (is_ok (call_at left ahead first)) first waiting refl (givable_again waiting)

  is_obeyed : (r : Result Call CallFault) → is_ok r ≡ true → call_or_none r ≡ None → ⊥
  is_obeyed (Ok call) ok none = cc none
  is_obeyed (Err fault) ok none = true≢false (sym ok)

  none_by : (b : Bool) (first : Said) (waiting : List Said) → is_ok (call_at left ahead first) ≡ b
      → (first_call left ahead (givable left ahead waiting) ≡ None → givable left ahead waiting ≡ [])
      → first_call left ahead (first_or b first waiting) ≡ None → first_or b first waiting ≡ []
  none_by true first waiting is later none = absurd (is_obeyed (call_at left ahead first) is none)
  none_by false first waiting is later none = later none

  pub none_waits : (waiting : List Said) → first_call left ahead (givable left ahead waiting) ≡ None
      → givable left ahead waiting ≡ []
  none_waits [] none = refl
  none_waits (first ∷ waiting) none =
      none_by (is_ok (call_at left ahead first)) first waiting refl (none_waits waiting) none

  held_by : (b : Bool) (s : Said) → is_ok (call_at left ahead s) ≡ b
      → givable left ahead (if b && true then s ∷ [] else []) ≡ (if b && true then s ∷ [] else [])
  held_by true s is = ap (λ b. first_or b s []) is
  held_by false s is = refl

  held_first : (says : Option Said) → givable left ahead (held_after left ahead says []) ≡ held_after left ahead says []
  held_first None = refl
  held_first (Some said.Stop) = refl
  held_first (Some said.Take) = refl
  held_first (Some said.Hold) = refl
  held_first (Some said.Go) = refl
  held_first (Some said.Other) = refl
  held_first (Some (said.Skip event)) = held_by (is_ok (call_at left ahead (said.Skip event))) (said.Skip event) refl
  held_first (Some (said.Jump event)) = held_by (is_ok (call_at left ahead (said.Jump event))) (said.Jump event) refl

module _ (left : LeftOut) (ahead : Ahead) where
  no_longer_by : (b : Bool) (first : Said) (waiting : List Said) → length (givable left ahead waiting) ≤ length waiting
      → length (first_or left ahead b first waiting) ≤ length (first ∷ waiting)
  no_longer_by true first waiting h = omega arith
  no_longer_by false first waiting h = omega (arith, h)

  no_longer : (waiting : List Said) → length (givable left ahead waiting) ≤ length waiting
  no_longer [] = omega arith
  no_longer (first ∷ waiting) = no_longer_by (is_ok (call_at left ahead first)) first waiting (no_longer waiting)

  front_by : (b : Bool) (first : Said) (waiting : List Said) → is_ok (call_at left ahead first) ≡ b
      → first_or left ahead b first waiting ≡ first ∷ waiting → is_ok (call_at left ahead first) ≡ true
  front_by true first waiting is same = is
  front_by false first waiting is same = absurd (omega (arith, ap length same, no_longer waiting))

  more_by : (b : Bool) (first : Said) (waiting : List Said) (s : Said) → is_ok (call_at left ahead first) ≡ true
      → givable left ahead (if b then (first ∷ waiting) ++ s ∷ [] else first ∷ waiting)
      ≡ (if b then (first ∷ waiting) ++ s ∷ [] else first ∷ waiting)
  more_by true first waiting s ok = ap (λ b. first_or left ahead b first (waiting ++ s ∷ [])) ok
  more_by false first waiting s ok = ap (λ b. first_or left ahead b first waiting) ok

  abbrev fits : Said → List Said → Bool
  fits s waiting = is_ok (call_at left ahead s) && nat_lt (length waiting) 16

  held_behind : (says : Option Said) (first : Said) (waiting : List Said) → is_ok (call_at left ahead first) ≡ true
      → givable left ahead (held_after left ahead says (first ∷ waiting)) ≡ held_after left ahead says (first ∷ waiting)
  held_behind None first waiting ok = ap (λ b. first_or left ahead b first waiting) ok
  held_behind (Some said.Stop) first waiting ok = refl
  held_behind (Some said.Take) first waiting ok = more_by (fits said.Take (first ∷ waiting)) first waiting said.Take ok
  held_behind (Some said.Hold) first waiting ok = more_by (fits said.Hold (first ∷ waiting)) first waiting said.Hold ok
  held_behind (Some said.Go) first waiting ok = more_by (fits said.Go (first ∷ waiting)) first waiting said.Go ok
  held_behind (Some said.Other) first waiting ok = more_by (fits said.Other (first ∷ waiting)) first waiting said.Other ok
  held_behind (Some (said.Skip event)) first waiting ok =
      more_by (fits (said.Skip event) (first ∷ waiting)) first waiting (said.Skip event) ok
  held_behind (Some (said.Jump event)) first waiting ok =
      more_by (fits (said.Jump event) (first ∷ waiting)) first waiting (said.Jump event) ok

  held_on : (says : Option Said) (waiting : List Said) → givable left ahead waiting ≡ waiting
      → givable left ahead (held_after left ahead says waiting) ≡ held_after left ahead says waiting
  held_on says [] same = held_first left ahead says
  held_on says (first ∷ waiting) same =
      held_behind says first waiting (front_by (is_ok (call_at left ahead first)) first waiting refl same)

pub asked_givable : {S I : Type 0} (ends : List Said → Bool) (items : S → List Item) (remaining : I → Option (List ℕ))
    (c : View (FromEvent S)) (list : OnList) (waiting : List Said) (page : Option RunPage) (typed : Option (Typed I))
    (waiting' : List Said) (page' : Option RunPage) (typed' : Option (Typed I))
    → givable list.left_out (ahead_of items c) waiting ≡ waiting
    → Asks ends items remaining c list waiting page typed waiting' page' typed'
    → givable list.left_out (ahead_of items c) waiting' ≡ waiting'
asked_givable ends items remaining c list waiting page typed waiting' page' typed' first unasked = first
asked_givable ends items remaining c list waiting page typed waiting' page' typed' first
    (once_more {waiting' = waiting₁} {page' = page₁} {typed' = typed₁} asked going (says, said, is)) =
    let ahead = ahead_of items c in
    let before = asked_givable ends items remaining c list waiting page typed waiting₁ page₁ typed₁ first asked in
    ap (givable list.left_out ahead) is ∙ held_on list.left_out ahead says waiting₁ before ∙ sym is

-- what is told of the first call that waits then takes none away
pub asked_last : {S I : Type 0} (ends : List Said → Bool) (items : S → List Item) (remaining : I → Option (List ℕ)) (c : View (FromEvent S)) (list : OnList)
    (waiting : List Said) (page : Option RunPage) (typed : Option (Typed I)) (waiting' : List Said) (page' : Option RunPage)
    (typed' : Option (Typed I)) (last : List Said)
    → Asks ends items remaining c list (givable list.left_out (ahead_of items c) waiting) page typed waiting' page' typed'
    → last ≡ givable list.left_out (ahead_of items c) waiting' → last ≡ waiting'
asked_last ends items remaining c list waiting page typed waiting' page' typed' last asked is =
    let left = list.left_out in
    is ∙ asked_givable ends items remaining c list (givable left (ahead_of items c) waiting) page typed waiting' page' typed'
    (givable_again left (ahead_of items c) waiting) asked

-- a command is given only while no answer is awaited
given_free : (plan : Plan) (stop : Bool) (stage : Stage) (sent : Command) → given_in plan stop stage ≡ Some sent → asks_state (awaited_in plan stage) ≡ false
given_free plan stop (Ready p) sent given = refl
given_free plan stop (Awaiting p) sent given = cc given
given_free plan stop (Ended outcome) sent given = refl

-- if a command comes next and no call is given, none has ended the asking
pub none_ended : (plan : Plan) (state : State) (sent : Command) (awaiting : Bool) (left : LeftOut) (ahead : Ahead) (waiting last : List Said)
    → given plan state ≡ Some sent → awaiting ≡ asks_state (awaited plan state) → last ≡ givable left ahead waiting → last ≡ waiting
    → given_now awaiting (first_call left ahead last) ≡ None → ends_by (ender_while awaiting) waiting ≡ false
none_ended plan state sent awaiting left ahead waiting last comes awaits is same none =
    let free : awaiting ≡ false = awaits ∙ given_free plan state.stop state.stage sent comes in
    let quiet : first_call left ahead last ≡ None = ap (λ b. given_now b (first_call left ahead last)) (sym free) ∙ none in
    let empty : last ≡ [] = is ∙ none_waits left ahead waiting (ap (first_call left ahead) (sym is) ∙ quiet) in
    ap (λ b. ends_by (ender_while b) waiting) free ∙ ap (ends_by ender.Each) (sym same ∙ empty)

pub none_given : (awaiting : Bool) (left : LeftOut) (ahead : Ahead) (waiting last : List Said) (call : Call) → waiting ≡ []
    → last ≡ givable left ahead waiting → Some call ≡ given_now awaiting (first_call left ahead last) → ⊥
none_given awaiting left ahead waiting last call none is gives =
    no_call awaiting call (gives ∙ ap (λ calls. given_now awaiting (first_call left ahead calls)) (is ∙ ap (givable left ahead) none))
  where
    no_call : (awaiting : Bool) (call : Call) → Some call ≡ given_now awaiting None → ⊥
    no_call true call is = cc is
    no_call false call is = cc is

-- what is given is the first that waits
pub given_first : (awaiting : Bool) (first : Option Call) (call : Call) → given_now awaiting first ≡ Some call → first ≡ Some call
given_first true None call is = cc is
given_first true (Some call.Take) given is = is
given_first true (Some call.Stop) given is = is
given_first true (Some (call.List c)) given is = cc is
given_first false first call is = is
