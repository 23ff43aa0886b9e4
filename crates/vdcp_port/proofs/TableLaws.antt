-- What the table's rows come to.
use Rattle.std.proofs.Common.{ℕ, ◌≡◌, ◌&&◌, Bool, true, false, nat_eq, arith, refl, List, ap, ◌∙◌}
use Rattle.std.proofs.lemmas.Grind.{common_steps}
use Rattle.std.specs.Prelude.{Option, None, Some, option_map, if◌then◌else◌}
use Rattle.vdcp_value.specs.declared.clip_id.ClipId.{ClipId}
use Rattle.vdcp_value.specs.declared.part.Item.{Item}
use Rattle.vdcp_value.specs.declared.timecode.Timecode.{Timecode}
use Rattle.vdcp_words.specs.declared.command.Command.{Command}
use Rattle.vdcp_words.specs.declared.command.Command.TheVariants.{Open, Close, Select, PlayCue, CueData, Play, Stop, Status, ActiveId, IdRequest, IdSize}
use Rattle.vdcp_words.specs.declared.reply.Reply.TheVariants as reply
use Rattle.vdcp_port.specs.declared.asked.Asked.{Asked}
use Rattle.vdcp_port.specs.declared.asked.Asked.TheVariants as asked
use Rattle.vdcp_port.specs.Clips.{length_of, is_playable, whole, part_of}
use Rattle.vdcp_port.specs.Port.{Cued, empty, cueing, done, PortState, is_open, is_selected, state_byte}
use Rattle.vdcp_port.specs.Row.{Row, Change, row, refused, keeps, opens, closes, selects, cues, airs, stops, play_row, size_row, state_reply, command_row, asked_row, message_row, changed, on_air}
use Rattle.vdcp_port.specs.Asked.{asked_of}
use Rattle.vdcp_port.specs.Clock.{Counts, ClockedPort, counts_after, row_at, answer_to, after_message, aired_by}
use Rattle.vdcp_frame.specs.Message.{Content}
use Rattle.vdcp_port.proofs.Units.{unit_of_changed}

-- ---- a command comes again, to the port that it left

abbrev again : List (ClipId × Timecode) → PortState → Command → Row
again clips p command = command_row clips (changed (command_row clips p command).change p) command

same_answer : (clips : List (ClipId × Timecode)) (p : PortState) (command : Command)
    → (again clips p command).answer ≡ (command_row clips p command).answer
same_answer clips p (Open number lock) = grind (arith, common_steps)
same_answer clips p other = grind (arith, common_steps)

same_state : (clips : List (ClipId × Timecode)) (p : PortState) (command : Command)
    → changed (again clips p command).change (changed (command_row clips p command).change p)
    ≡ changed (command_row clips p command).change p
same_state clips p (Open number lock) = grind (arith, common_steps)
same_state clips p other = grind (arith, common_steps)

same_counts : (clips : List (ClipId × Timecode)) (frames : ℕ) (c : Counts) (p : PortState) (command : Command)
    → counts_after clips frames (again clips p command).change
    (counts_after clips frames (command_row clips p command).change c)
    ≡ counts_after clips frames (command_row clips p command).change c
same_counts clips frames c p (Open number lock) = grind (arith, common_steps)
same_counts clips frames c p other = grind (arith, common_steps)

nothing_airs : (clips : List (ClipId × Timecode)) (p : PortState) (command : Command)
    → on_air (again clips p command).change ≡ None
nothing_airs clips p (Open number lock) = grind (arith, common_steps)
nothing_airs clips p other = grind (arith, common_steps)

-- the same of what a message asks

again_asked : List (ClipId × Timecode) → PortState → Asked → Row
again_asked clips p a = asked_row clips (changed (asked_row clips p a).change p) a

again_by_unit : (clips : List (ClipId × Timecode)) (p : PortState) (m : Content)
    → message_row clips (changed (message_row clips p m).change p) m ≡ again_asked clips p (asked_of p.unit m)
unfolding again_asked
again_by_unit clips p m =
    let change = (message_row clips p m).change in
    ap (λ unit. asked_row clips (changed change p) (asked_of unit m)) (unit_of_changed change p)

asked_same_answer : (clips : List (ClipId × Timecode)) (p : PortState) (a : Asked)
    → (again_asked clips p a).answer ≡ (asked_row clips p a).answer
unfolding again_asked
asked_same_answer clips p asked.Nothing = refl
asked_same_answer clips p asked.NoCommand = refl
asked_same_answer clips p (asked.Command command) = same_answer clips p command

asked_same_state : (clips : List (ClipId × Timecode)) (p : PortState) (a : Asked)
    → changed (again_asked clips p a).change (changed (asked_row clips p a).change p)
    ≡ changed (asked_row clips p a).change p
unfolding again_asked
asked_same_state clips p asked.Nothing = refl
asked_same_state clips p asked.NoCommand = refl
asked_same_state clips p (asked.Command command) = same_state clips p command

asked_same_counts : (clips : List (ClipId × Timecode)) (frames : ℕ) (c : Counts) (p : PortState) (a : Asked)
    → counts_after clips frames (again_asked clips p a).change
    (counts_after clips frames (asked_row clips p a).change c)
    ≡ counts_after clips frames (asked_row clips p a).change c
unfolding again_asked
asked_same_counts clips frames c p asked.Nothing = refl
asked_same_counts clips frames c p asked.NoCommand = refl
asked_same_counts clips frames c p (asked.Command command) = same_counts clips frames c p command

asked_airs_nothing : (clips : List (ClipId × Timecode)) (p : PortState) (a : Asked)
    → on_air (again_asked clips p a).change ≡ None
unfolding again_asked
asked_airs_nothing clips p asked.Nothing = refl
asked_airs_nothing clips p asked.NoCommand = refl
asked_airs_nothing clips p (asked.Command command) = nothing_airs clips p command

-- and of a message

pub copy_answer : (p : ClockedPort) (m : Content) → answer_to (after_message p m) m ≡ answer_to p m
copy_answer p m =
    ap (λ (r : Row). r.answer) (again_by_unit p.clips p.state m)
    ∙ asked_same_answer p.clips p.state (asked_of p.state.unit m)

pub copy_port : (p : ClockedPort) (m : Content) → after_message (after_message p m) m ≡ after_message p m
copy_port p m =
    let a = asked_of p.state.unit m in
    let change = (message_row p.clips p.state m).change in
    let state : changed (row_at (after_message p m) m).change (changed change p.state) ≡ changed change p.state =
    ap (λ (r : Row). changed r.change (changed change p.state)) (again_by_unit p.clips p.state m)
    ∙ asked_same_state p.clips p.state a in
    let counts : counts_after p.clips p.cue_frames (row_at (after_message p m) m).change
    (counts_after p.clips p.cue_frames change p.counts)
    ≡ counts_after p.clips p.cue_frames change p.counts =
    ap (λ (r : Row). counts_after p.clips p.cue_frames r.change (counts_after p.clips p.cue_frames change p.counts))
    (again_by_unit p.clips p.state m)
    ∙ asked_same_counts p.clips p.cue_frames p.counts p.state a in
    λ i. record { clips = p.clips; cue_frames = p.cue_frames; state = state i; counts = counts i }

pub copy_air : (p : ClockedPort) (m : Content) → aired_by (after_message p m) m ≡ None
copy_air p m =
    ap (λ (r : Row). on_air r.change) (again_by_unit p.clips p.state m)
    ∙ asked_airs_nothing p.clips p.state (asked_of p.state.unit m)

-- ---- what airs

-- a row that airs an item is that of PLAY, to a selected port whose cue is done with it
pub record IsPlayOf (p : PortState) (a : Asked) (item : Item) : Type 0 where
  pub play : a ≡ asked.Command Play
  pub selected : is_selected p ≡ true
  pub cued : p.cued ≡ done item

airs_if : (b : Bool) (r : Row) (item : Item) → on_air (if b then r else refused).change ≡ Some item
    → (b ≡ true) × (on_air r.change ≡ Some item)
airs_if true r item e = (refl, e)
airs_if false r item e = cc

size_airs_nothing : (length : Option Timecode) (item : Item) → on_air (size_row length).change ≡ Some item → ⊥
size_airs_nothing None item e = cc
size_airs_nothing (Some length) item e = cc

open_airs_nothing : (b : Bool) (item : Item)
    → on_air (if b then row (reply.Opened true) opens else row (reply.Opened false) keeps).change ≡ Some item → ⊥
open_airs_nothing true item e = cc
open_airs_nothing false item e = cc

play_airs : (cued : Cued) (item : Item) → on_air (play_row cued).change ≡ Some item → cued ≡ done item
play_airs empty item e = cc
play_airs slot item e = cc

command_airs : (clips : List (ClipId × Timecode)) (p : PortState) (command : Command) (item : Item)
    → on_air (command_row clips p command).change ≡ Some item → IsPlayOf p (asked.Command command) item
command_airs clips p (Open number lock) item e = absurd (open_airs_nothing (nat_eq number p.number) item e)
command_airs clips p (Close number) item e = let none =
    (airs_if (nat_eq number p.number) (row reply.Ack closes) item e).1 in cc
command_airs clips p (Select number) item e = let none =
    (airs_if (nat_eq number p.number && is_open p) (row reply.Ack selects) item e).1 in cc
command_airs clips p (PlayCue id) item e = let none =
    (airs_if (is_selected p && is_playable clips (whole id)) (row reply.Ack (cues (whole id))) item e).1 in cc
command_airs clips p (CueData id start duration) item e =
    let cued = part_of id start duration in
    let none = (airs_if (is_selected p && is_playable clips cued) (row reply.Ack (cues cued)) item e).1 in cc
command_airs clips p Play item e =
    let plays = airs_if (is_selected p) (play_row p.cued) item e in
    record { play = refl; selected = plays.0; cued = play_airs p.cued item plays.1 }
command_airs clips p Stop item e = let none = (airs_if (is_selected p) (row reply.Ack stops) item e).1 in cc
command_airs clips p (Status bitmap) item e = let none =
    (airs_if (is_selected p) (row (state_reply bitmap (state_byte p)) keeps) item e).1 in cc
command_airs clips p ActiveId item e =
    let active = row (reply.Active (option_map (λ (item : Item). item.id) p.playing)) keeps in
    let none = (airs_if (is_selected p) active item e).1 in cc
command_airs clips p (IdRequest id) item e = cc
command_airs clips p (IdSize id) item e = absurd (size_airs_nothing (length_of clips id) item e)

asked_airs : (clips : List (ClipId × Timecode)) (p : PortState) (a : Asked) (item : Item)
    → on_air (asked_row clips p a).change ≡ Some item → IsPlayOf p a item
asked_airs clips p asked.Nothing item e = cc
asked_airs clips p asked.NoCommand item e = cc
asked_airs clips p (asked.Command command) item e = command_airs clips p command item e

pub message_airs : (p : ClockedPort) (m : Content) (item : Item) → aired_by p m ≡ Some item
    → IsPlayOf p.state (asked_of p.state.unit m) item
message_airs p m item e = asked_airs p.clips p.state (asked_of p.state.unit m) item e

-- the change that airs an item leaves it playing, and nothing cued
airing : (change : Change) (p : PortState) (item : Item) → on_air change ≡ Some item
    → ((changed change p).playing ≡ Some item) × ((changed change p).cued ≡ empty)
airing (airs other) p item e = (e, refl)
airing stops p item e = cc
airing change p item e = cc

pub message_airing : (p : ClockedPort) (m : Content) (item : Item) → aired_by p m ≡ Some item
    → ((after_message p m).state.playing ≡ Some item) × ((after_message p m).state.cued ≡ empty)
message_airing p m item e = airing (row_at p m).change p.state item e
