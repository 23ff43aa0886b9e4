-- The port reads the command of a phase, in the phase table.
use Rattle.std.proofs.Common.{◌≡◌, ℕ, ◌+◌, ◌-◌, ◌<◌, ◌≤◌, ◌⊎◌, Bool, true, false, not, List, [], ◌∷◌, ◌++◌, length, take, Option, Some, None, refl, ap, sym, arith, ◌∙◌, length-append}
use Rattle.std.proofs.lemmas.List.{take_more, append-nil}
use Rattle.std.proofs.lemmas.Option.{get_or_from_slice_get}
use Rattle.std.specs.Option.{option_map}
use Rattle.std.specs.Prelude.{slice_get}
use Rattle.vdcp_value.specs.declared.clip_id.ClipId.{ClipId}
use Rattle.vdcp_value.specs.declared.part.Item.{Item}
use Rattle.vdcp_value.specs.declared.part.Part.{Part}
use Rattle.vdcp_value.specs.declared.timecode.Timecode.{Timecode}
use Rattle.vdcp_value.specs.Ids.{id_bytes, is_same_id}
use Rattle.vdcp_words.specs.declared.command.Command.{Command}
use Rattle.vdcp_words.specs.declared.command.Command.TheVariants as command
use Rattle.vdcp_words.specs.declared.reply.Reply.{Reply}
use Rattle.vdcp_words.specs.declared.reply.Reply.TheVariants as reply
use Rattle.vdcp_port.specs.Port.{PortState, Cued, empty, cueing, done, is_selected, is_empty as is_empty_slot}
use Rattle.vdcp_port.specs.Row.{Change, keeps, opens, closes, selects, stops, command_row, changed}
use Rattle.vdcp_auto.specs.Commands.{cue_for, cue_of}
use Rattle.vdcp_auto.specs.Replies.{is_ack, is_done, is_empty, is_refusal}
use Rattle.vdcp_auto.specs.Table.{command_in, names_other}
use Rattle.vdcp_auto.specs.declared.phase.Phase.{Phase}
use Rattle.vdcp_auto.specs.declared.phase.Phase.TheVariants as phase
use Rattle.vdcp_world.proofs.Beginnings.{own_list}
use Rattle.vdcp_world.proofs.Exchanges.{taken}
use Rattle.vdcp_world.proofs.PhaseTable.{Idle, Coming, Standing, PlaysLast, Place, Tells, Firm, FirmTells, knows, refuses, port_after, aired_after, answer_after}

pub none_more : (xs : List Item) → xs ++ [] ≡ xs
none_more xs = append-nil xs

airs_next : (list : List Item) (k : ℕ) (item : Item) → k < length list → slice_get list k ≡ Some item
    → take k list ++ item ∷ [] ≡ take (k + 1) list
airs_next list k item below is =
    sym (take_more list k item below ∙ ap (λ x. take k list ++ x ∷ []) (get_or_from_slice_get list k item item is))

-- ---- where the port is

module _ (list : List Item) (clips : List (ClipId × Timecode)) (p : PortState) (aired : List Item) where
  cue_part : (k : ℕ) (id : ClipId) (part : Option Part) → slice_get list k ≡ Some (record { id = id; part = part })
      → k < length list → Idle list p.cued aired k ⊎ Coming list p.cued aired k
      → Idle list (port_after clips p (Some (cue_for id part))).cued (aired ++ aired_after clips p
      (Some (cue_for id part))) k ⊎ Coming list (port_after clips p (Some (cue_for id part))).cued (aired ++ aired_after
      clips p (Some (cue_for id part))) k
  cue_part k id None e b q = grind (arith, none_more)
  cue_part k id (Some part) e b q = grind (arith, none_more)

  cue_place : (k : ℕ) (o : Option Item) → slice_get list k ≡ o → k < length list
      → Idle list p.cued aired k ⊎ Coming list p.cued aired k
      → Idle list (port_after clips p (option_map cue_of o)).cued (aired ++ aired_after clips p (option_map cue_of o)) k
      ⊎ Coming list (port_after clips p (option_map cue_of o)).cued (aired ++ aired_after clips p (option_map cue_of o))
      k
  cue_place k None e b q = grind (arith, none_more)
  cue_place k (Some item) e b q = cue_part k item.id item.part e b q

  play_place : (k : ℕ) (cued : Cued) → p.cued ≡ cued → Standing list cued aired k ⊎ Idle list cued aired (k + 1)
      → Standing list (port_after clips p (Some command.Play)).cued (aired ++ aired_after clips p (Some command.Play)) k
      ⊎ Idle list (port_after clips p (Some command.Play)).cued (aired ++ aired_after clips p (Some command.Play))
      (k + 1)
  play_place k empty e q = grind (arith, none_more)
  play_place k (cueing item) e q = grind (arith, none_more)
  play_place k (done item) e q = grind (arith, none_more, airs_next)

  pub reads_place : (settled port : ℕ) (q : Phase) → Place list p.cued aired settled q
      → Place list (port_after clips p (command_in list port q)).cued (aired ++ aired_after clips p
      (command_in list port q)) settled q
  reads_place settled port (phase.Cue k) h = (cue_place k (slice_get list k) refl h.2 h.0, h.1, h.2)
  reads_place settled port (phase.Play k) h = (play_place k p.cued refl h.0, h.1)
  reads_place settled port _ h = grind (arith, none_more)

  -- ---- what plays

  plays_cue : (id : ClipId) (part : Option Part) → PlaysLast list p.playing aired
      → PlaysLast list (port_after clips p (Some (cue_for id part))).playing (aired ++ aired_after clips p
      (Some (cue_for id part)))
  plays_cue id None h = grind (arith, none_more)
  plays_cue id (Some part) h = grind (arith, none_more)

  plays_cue_at : (o : Option Item) → PlaysLast list p.playing aired
      → PlaysLast list (port_after clips p (option_map cue_of o)).playing (aired ++ aired_after clips p
      (option_map cue_of o))
  plays_cue_at None h = grind (arith, none_more)
  plays_cue_at (Some item) h = plays_cue item.id item.part h

one_more : (aired : List Item) (item : Item) → length (aired ++ item ∷ []) ≡ length aired + 1
one_more aired item = simp length-append

plays_new : (list aired : List Item) (k : ℕ) (item : Item) → aired ≡ take k list → k < length list
    → slice_get list k ≡ Some item
    → PlaysLast list (Some item) (aired ++ item ∷ [])
plays_new list aired k item e below is =
    let size : length aired ≡ k = ap length e ∙ taken list k (omega (arith, below)) in
    let at : length (aired ++ item ∷ []) - 1 ≡ k = omega (arith, one_more aired item, size) in
    λ _. ap (slice_get list) at ∙ is

module _ (list : List Item) (clips : List (ClipId × Timecode)) (p : PortState) (aired : List Item) where
  plays_next : (k : ℕ) (cued : Cued) → p.cued ≡ cued → Standing list cued aired k ⊎ Idle list cued aired (k + 1)
      → PlaysLast list p.playing aired → PlaysLast list (port_after clips p (Some command.Play)).playing
      (aired ++ aired_after clips p (Some command.Play))
  plays_next k empty e q h = grind (arith, none_more)
  plays_next k (cueing item) e q h = grind (arith, none_more)
  plays_next k (done item) e q h = grind (arith, none_more, plays_new)

  pub reads_plays : (settled port : ℕ) (q : Phase) → Place list p.cued aired settled q → PlaysLast list p.playing aired
      → PlaysLast list (port_after clips p (command_in list port q)).playing (aired ++ aired_after clips p
      (command_in list port q))
  reads_plays settled port (phase.Cue k) h l = plays_cue_at list clips p aired (slice_get list k) l
  reads_plays settled port (phase.Play k) h l = plays_next k p.cued refl h.0 l
  reads_plays settled port _ h l = grind (arith, none_more)

-- ---- its number

keeps_number : (change : Change) (p : PortState) → (changed change p).number ≡ p.number
keeps_number keeps p = refl
keeps_number opens p = refl
keeps_number closes p = refl
keeps_number selects p = refl
keeps_number stops p = refl
keeps_number _ p = refl

module _ (clips : List (ClipId × Timecode)) (p : PortState) where
  pub reads_number : (o : Option Command) → (port_after clips p o).number ≡ p.number
  reads_number None = refl
  reads_number (Some c) = keeps_number (command_row clips p c).change p

  -- ---- what plain mode knows

  firm_cue : (id : ClipId) (part : Option Part) → is_selected p ≡ true
      → is_selected (port_after clips p (Some (cue_for id part))) ≡ true
  firm_cue id None h = grind arith
  firm_cue id (Some part) h = grind arith

  pub firm_cue_at : (o : Option Item) → is_selected p ≡ true → is_selected (port_after clips p (option_map cue_of o)) ≡
      true
  firm_cue_at None h = h
  firm_cue_at (Some item) h = firm_cue item.id item.part h

  pub firm_request : (o : Option Item) → is_selected p ≡ true
      → is_selected (port_after clips p (option_map (λ item. command.IdRequest item.id) o)) ≡ true
  firm_request None h = h
  firm_request (Some item) h = h

pub reads_firm : (list : List Item) (clips : List (ClipId × Timecode)) (p : PortState) (port : ℕ) (q : Phase)
    → p.number ≡ port → Firm list clips p q → Firm list clips (port_after clips p (command_in list port q)) q
reads_firm list clips p port phase.Open n h = tt
reads_firm list clips p port phase.Seen n h = absurd h
reads_firm list clips p port (phase.Exists k) n h = firm_request clips p (slice_get list k) h
reads_firm list clips p port (phase.Cue k) n h = (firm_cue_at clips p (slice_get list k) h.0, h.1)
reads_firm list clips p port phase.Close n h = tt
reads_firm list clips p port phase.Halt n h = tt
reads_firm list clips p port phase.HaltClose n h = tt
reads_firm list clips p port _ n h = grind arith

-- ---- what the answer tells

presence_tells : (clips : List (ClipId × Timecode)) (p : PortState) (o : Option Item) (r : Reply)
    → answer_after clips p (option_map (λ item. command.IdRequest item.id) o) ≡ Some r
    → r ≡ reply.Present (knows clips o)
presence_tells clips p None r e = cc
presence_tells clips p (Some item) r e = cc

module _ (list : List Item) (clips : List (ClipId × Timecode)) (p : PortState) (aired : List Item) (k : ℕ) where
  play_tells : (r : Reply) → Standing list p.cued aired k ⊎ Idle list p.cued aired (k + 1)
      → answer_after clips p (Some command.Play) ≡ Some r → is_ack r ≡ true
      → Idle list (port_after clips p (Some command.Play)).cued (aired ++ aired_after clips p (Some command.Play))
      (k + 1)
  play_tells r q a t = grind (arith, none_more, airs_next)

  status_tells : (r : Reply) → Idle list p.cued aired k ⊎ Coming list p.cued aired k
      → answer_after clips p (Some (command.Status 1)) ≡ Some r → is_done r ≡ true
      → Standing list (port_after clips p (Some (command.Status 1))).cued (aired ++ aired_after clips p
      (Some (command.Status 1))) k
  status_tells r q a t = grind (arith, none_more)

  probe_tells : (r : Reply) → Standing list p.cued aired k ⊎ Idle list p.cued aired (k + 1)
      → answer_after clips p (Some (command.Status 1)) ≡ Some r
      → (is_done r ≡ true → Standing list (port_after clips p (Some (command.Status 1))).cued (aired ++ aired_after
      clips p (Some (command.Status 1))) k) × (is_empty r ≡ true
      → Idle list (port_after clips p (Some (command.Status 1))).cued (aired ++ aired_after clips p
      (Some (command.Status 1))) (k + 1))
  probe_tells r q a = grind (arith, none_more)

same_itself : (id : ClipId) → is_same_id id id ≡ true
same_itself id = own_list (id_bytes id)

names_none : (o : Option Item) → names_other o (reply.Active None) ≡ false
names_none None = refl
names_none (Some item) = refl

names_same : (o : Option Item) (item : Item) → o ≡ Some item → names_other o (reply.Active (Some item.id)) ≡ false
names_same None item e = cc
names_same (Some other) item e =
    let same : other ≡ item = cc in
    ap (λ (x : Item). not (is_same_id item.id x.id)) same ∙ ap not (same_itself item.id)

active_tells : (list : List Item) (aired : List Item) (k : ℕ) (playing : Option Item) → aired ≡ take (k + 1) list
    → k + 1 ≤ length list
    → PlaysLast list playing aired
    → names_other (slice_get list k) (reply.Active (option_map (λ item. item.id) playing)) ≡ false
active_tells list aired k None e within h = names_none (slice_get list k)
active_tells list aired k (Some item) e within h =
    let size : length aired ≡ k + 1 = ap length e ∙ taken list (k + 1) within in
    let at : length aired - 1 ≡ k = omega (arith, size) in
    names_same (slice_get list k) item (sym (ap (slice_get list) at) ∙ h (omega (arith, size)))

module _ (list : List Item) (clips : List (ClipId × Timecode)) (p : PortState) (aired : List Item) where
  check_tells : (k : ℕ) (r : Reply) (selected : Bool) → is_selected p ≡ selected → Idle list p.cued aired (k + 1)
      → PlaysLast list p.playing aired → answer_after clips p (Some command.ActiveId) ≡ Some r
      → names_other (slice_get list k) r ≡ false
  check_tells k r true s h l a = grind (arith, active_tells list aired k p.playing h.aired_is h.within l)
  check_tells k r false s h l a = grind arith

  pub reads_tells : (settled port : ℕ) (q : Phase) (r : Reply) → p.number ≡ port → Place list p.cued aired settled q
      → PlaysLast list p.playing aired → answer_after clips p (command_in list port q) ≡ Some r
      → Tells list clips (port_after clips p (command_in list port q)).cued (aired ++ aired_after clips p
      (command_in list port q)) q r
  reads_tells settled port phase.Open r n h l a = grind arith
  reads_tells settled port (phase.Exists k) r n h l a = grind (arith, presence_tells clips p (slice_get list k) r a)
  reads_tells settled port (phase.Wait k) r n h l a = status_tells list clips p aired k r h.0 a
  reads_tells settled port (phase.Play k) r n h l a = play_tells list clips p aired k r h.0 a
  reads_tells settled port (phase.Probe k) r n h l a = probe_tells list clips p aired k r h.0 a
  reads_tells settled port (phase.Check k) r n h l a = check_tells k r (is_selected p) refl h.0 l a
  reads_tells settled port phase.Drain r n h l a = grind arith
  reads_tells settled port _ r n h l a = tt

module _ (clips : List (ClipId × Timecode)) (p : PortState) where
  cue_refusal : (id : ClipId) (part : Option Part) (r : Reply) → is_selected p ≡ true
      → knows clips (Some (record { id = id; part = part })) ≡ true
      → answer_after clips p (Some (cue_for id part)) ≡ Some r
      → (is_refusal r ≡ true → refuses clips (Some (record { id = id; part = part })) ≡ true) × (is_ack r ≡ true
      → is_empty_slot (port_after clips p (Some (cue_for id part))).cued ≡ false)
  cue_refusal id None r s k a = grind arith
  cue_refusal id (Some part) r s k a = grind arith

  cue_refusal_at : (o : Option Item) (r : Reply) → is_selected p ≡ true → knows clips o ≡ true
      → answer_after clips p (option_map cue_of o) ≡ Some r → (is_refusal r ≡ true → refuses clips o ≡ true)
      × (is_ack r ≡ true → is_empty_slot (port_after clips p (option_map cue_of o)).cued ≡ false)
  cue_refusal_at None r s k a = cc
  cue_refusal_at (Some item) r s k a = cue_refusal item.id item.part r s k a

pub reads_firm_tells : (list : List Item) (clips : List (ClipId × Timecode)) (p : PortState) (port : ℕ) (q : Phase)
    (r : Reply)
    → p.number ≡ port → Firm list clips p q → answer_after clips p (command_in list port q) ≡ Some r
    → FirmTells list clips (port_after clips p (command_in list port q)) q r
reads_firm_tells list clips p port phase.Seen r n h a = tt
reads_firm_tells list clips p port (phase.Exists k) r n h a =
    grind (arith, presence_tells clips p (slice_get list k) r a)
reads_firm_tells list clips p port (phase.Cue k) r n h a = cue_refusal_at clips p (slice_get list k) r h.0 h.1 a
reads_firm_tells list clips p port phase.Close r n h a = tt
reads_firm_tells list clips p port phase.Halt r n h a = tt
reads_firm_tells list clips p port phase.HaltClose r n h a = tt
reads_firm_tells list clips p port _ r n h a = grind arith
