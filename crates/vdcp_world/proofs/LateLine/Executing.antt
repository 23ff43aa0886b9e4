-- What the port's table makes a port do for the command that a phase sends.
use Rattle.std.proofs.Common.{◌≡◌, ℕ, inl, inr, Bool, true, false, ◌&&◌, nat_eq, List, Option, Some, None, refl, arith, sym, ap, subst, ◌∙◌, if◌then◌else◌}
use Rattle.std.specs.Option.{option_map, option_to_list}
use Rattle.std.specs.Prelude.{slice_get}
use Rattle.vdcp_value.specs.declared.clip_id.ClipId.{ClipId}
use Rattle.vdcp_value.specs.declared.part.Item.{Item}
use Rattle.vdcp_value.specs.declared.part.Part.{Part}
use Rattle.vdcp_value.specs.declared.timecode.Timecode.{Timecode}
use Rattle.vdcp_words.specs.declared.command.Command.{Command}
use Rattle.vdcp_words.specs.declared.command.Command.TheVariants as command
use Rattle.vdcp_words.specs.declared.reply.Reply.{Reply}
use Rattle.vdcp_words.specs.declared.reply.Reply.TheVariants as reply
use Rattle.vdcp_port.specs.Clips.{is_known, is_playable, whole, part_of}
use Rattle.vdcp_port.specs.Port.{PortState, Cued, empty, cueing, done, is_selected, is_open, state_byte, state_byte_of, lets_control, opened}
use Rattle.vdcp_port.specs.Row.{Row, Change, keeps, opens, closes, selects, cues, airs, stops, row, refused, play_row, state_reply, command_row, changed, on_air}
use Rattle.vdcp_port.specs.declared.access.Access.{Access}
use Rattle.vdcp_auto.specs.Commands.{cue_of, cue_for}
use Rattle.vdcp_auto.specs.Table.{command_in}
use Rattle.vdcp_auto.specs.declared.phase.Phase.{Phase}
use Rattle.vdcp_auto.specs.declared.phase.Phase.TheVariants as phase
use Rattle.vdcp_world.proofs.LateLine.Executed.{Shows, left_cued, put_on_air, Does}
use Rattle.vdcp_world.proofs.PhaseTable.{knows}
use Rattle.vdcp_world.proofs.LateLine.Reads.{Reads, differs, misleads_at}
use Rattle.vdcp_world.proofs.LateLine.Places.{fits_phase}

-- a row of the table does what the phase's command is to do
abbrev pub RowReads : List Item → List (ClipId × Timecode) → Phase → PortState → Row → Type 0
RowReads list clips d p x =
    (r : Reply) → x.answer ≡ Some r
    → Reads list clips d (is_selected p) p.cued r (is_selected (changed x.change p)) (changed x.change p).cued
    (option_to_list (on_air x.change))

same_reply : (a r : Reply) → Some a ≡ Some r → a ≡ r
same_reply a r e = cc

reads_as : (list : List Item) (clips : List (ClipId × Timecode)) (d : Phase) (p : PortState) (a : Reply)
    (change : Change) → fits_phase d a ≡ true → misleads_at list clips d a ≡ false
    → Does list d (is_selected p) p.cued a (is_selected (changed change p)) (changed change p).cued
    (option_to_list (on_air change)) → RowReads list clips d p (row a change)
reads_as list clips d p a change fit told h = λ r e.
    subst (λ (r : Reply). Reads list clips d (is_selected p) p.cued r (is_selected (changed change p))
    (changed change p).cued (option_to_list (on_air change)))
    (same_reply a r e) (record { executed = record { fits = fit; does = h }; true_told = told })

-- ---- each phase's command

still_selected : (a : Access) → lets_control (opened a) ≡ lets_control a
still_selected a = grind arith

module _ (list : List Item) (clips : List (ClipId × Timecode)) (p : PortState) where
  reads_open : (same : Bool) → RowReads list clips phase.Open p (if same then row (reply.Opened true) opens else row
      (reply.Opened false) keeps)
  reads_open true =
      reads_as list clips phase.Open p (reply.Opened true) opens refl refl (still_selected p.access, refl, refl)
  reads_open false = reads_as list clips phase.Open p (reply.Opened false) keeps refl refl (refl, refl, refl)

  reads_select : (can : Bool) → RowReads list clips phase.Select p (if can then row reply.Ack selects else refused)
  reads_select true = reads_as list clips phase.Select p reply.Ack selects refl refl (refl, refl)
  reads_select false = reads_as list clips phase.Select p (reply.Nak 0x01) keeps refl refl (refl, refl)

-- a state byte shows what is cued
shows_state : (selected : Bool) (a : Cued) (playing : Option Item) → selected ≡ true
    → Shows selected a (state_reply 1 (state_byte_of a playing))
shows_state s empty None e = record { shows_done = λ e. cc; shows_empty = λ _. refl; is_selected = λ _. e }
shows_state s empty (Some clip) e = record { shows_done = λ e. cc; shows_empty = λ _. refl; is_selected = λ _. e }
shows_state s (cueing item) None e = record { shows_done = λ e. cc; shows_empty = λ e. cc; is_selected = λ _. e }
shows_state s (cueing item) (Some clip) e = record { shows_done = λ e. cc; shows_empty = λ e. cc; is_selected = λ _. e }
shows_state s (done item) None e = record { shows_done = λ _. refl; shows_empty = λ e. cc; is_selected = λ _. e }
shows_state s (done item) (Some clip) e = record { shows_done = λ _. refl; shows_empty = λ e. cc; is_selected = λ _. e }

shows_refusal : (selected : Bool) (a : Cued) → Shows selected a (reply.Nak 0x01)
shows_refusal s a = record { shows_done = λ e. cc; shows_empty = λ e. cc; is_selected = λ e. cc }

module _ (list : List Item) (clips : List (ClipId × Timecode)) (p : PortState) where
  -- of a status that is asked for in Wait or in Probe, and in Seen or in Drain
  reads_wait : (k : ℕ) (selected : Bool) → is_selected p ≡ selected
      → RowReads list clips (phase.Wait k) p (if selected then row (state_reply 1 (state_byte p)) keeps else refused)
  reads_wait k true e =
      reads_as list clips (phase.Wait k) p (state_reply 1 (state_byte p)) keeps refl refl
      ((refl, refl, refl), shows_state (is_selected p) p.cued p.playing e)
  reads_wait k false e =
      reads_as list clips (phase.Wait k) p (reply.Nak 0x01) keeps refl refl (
        (refl, refl, refl),
        shows_refusal
            (is_selected p) p.cued,
      )

  reads_probe : (k : ℕ) (selected : Bool) → is_selected p ≡ selected
      → RowReads list clips (phase.Probe k) p (if selected then row (state_reply 1 (state_byte p)) keeps else refused)
  reads_probe k true e =
      reads_as list clips (phase.Probe k) p (state_reply 1 (state_byte p)) keeps refl refl
      ((refl, refl, refl), shows_state (is_selected p) p.cued p.playing e)
  reads_probe k false e =
      reads_as list clips (phase.Probe k) p (reply.Nak 0x01) keeps refl refl (
        (refl, refl, refl),
        shows_refusal
            (is_selected p) p.cued,
      )

  reads_seen : (selected : Bool) → RowReads list clips phase.Seen p (if selected then row (state_reply 1 (state_byte p))
      keeps else refused)
  reads_seen true = reads_as list clips phase.Seen p (state_reply 1 (state_byte p)) keeps refl refl (refl, refl, refl)
  reads_seen false = reads_as list clips phase.Seen p (reply.Nak 0x01) keeps refl refl (refl, refl, refl)

  reads_drain : (selected : Bool) → RowReads list clips phase.Drain p (if selected then row
      (state_reply 1 (state_byte p)) keeps else refused)
  reads_drain true = reads_as list clips phase.Drain p (state_reply 1 (state_byte p)) keeps refl refl (refl, refl, refl)
  reads_drain false = reads_as list clips phase.Drain p (reply.Nak 0x01) keeps refl refl (refl, refl, refl)

-- where there is such a command
abbrev pub IfRow : List Item → List (ClipId × Timecode) → Phase → PortState → Option Command → Type 0
IfRow list clips d p None = Unit {0}
IfRow list clips d p (Some c) = RowReads list clips d p (command_row clips p c)

same_known : (b : Bool) → differs b b ≡ false
same_known true = refl
same_known false = refl

module _ (list : List Item) (clips : List (ClipId × Timecode)) (p : PortState) where
  reads_exists : (k : ℕ) (o : Option Item) → slice_get list k ≡ o
      → IfRow list clips (phase.Exists k) p (option_map (λ item. command.IdRequest item.id) o)
  reads_exists k None e = tt
  reads_exists k (Some item) e =
      reads_as list clips (phase.Exists k) p (reply.Present (is_known clips item.id)) keeps refl
      (ap (λ (o : Option Item). differs (is_known clips item.id) (knows clips o)) e ∙ same_known
      (is_known clips item.id)) (refl, refl, refl)

  reads_cue_row : (k : ℕ) (item : Item) (can : Bool) → Some item ≡ slice_get list k
      → RowReads list clips (phase.Cue k) p (if can then row reply.Ack (cues item) else refused)
  reads_cue_row k item true e = reads_as list clips (phase.Cue k) p reply.Ack (cues item) refl refl (refl, refl, inr e)
  reads_cue_row k item false e =
      reads_as list clips (phase.Cue k) p (reply.Nak 0x01) keeps refl refl (refl, refl, inl (refl, refl))

  reads_cue : (k : ℕ) (o : Option Item) → slice_get list k ≡ o → IfRow list clips (phase.Cue k) p (option_map cue_of o)
  reads_cue k None e = tt
  reads_cue k (Some item) e = by item.part refl
    where
      by : (part : Option Part) → item.part ≡ part
          → RowReads list clips (phase.Cue k) p (command_row clips p (cue_for item.id part))
      by None is =
          let same : Some (whole item.id) ≡ slice_get list k = ap
          (λ (o : Option Part). Some (record { id = item.id; part = o })) (sym is) ∙ sym e in
          reads_cue_row k (whole item.id) (is_selected p && is_playable clips (whole item.id)) same
      by (Some x) is =
          let same : Some (part_of item.id x.start x.duration) ≡ slice_get list k =
          ap (λ (o : Option Part). Some (record { id = item.id; part = o })) (sym is) ∙ sym e in
          reads_cue_row k (part_of item.id x.start x.duration)
          (is_selected p && is_playable clips (part_of item.id x.start x.duration)) same

  reads_play_row : (k : ℕ) (a : Cued) → p.cued ≡ a → is_selected p ≡ true
      → RowReads list clips (phase.Play k) p (play_row a)
  reads_play_row k empty e on =
      reads_as list clips (phase.Play k) p reply.Ack keeps refl refl (
        refl,
        inr (
          on,
          e ∙ sym (ap left_cued e),
          sym
              (ap put_on_air e),
        ),
      )
  reads_play_row k (cueing item) e on =
      reads_as list clips (phase.Play k) p reply.Ack keeps refl refl (
        refl,
        inr (
          on,
          e ∙ sym (ap left_cued e),
          sym
              (ap put_on_air e),
        ),
      )
  reads_play_row k (done item) e on =
      reads_as list clips (phase.Play k) p reply.Ack (airs item) refl refl
      (refl, inr (on, sym (ap left_cued e), sym (ap put_on_air e)))

  reads_play : (k : ℕ) (selected : Bool) → is_selected p ≡ selected
      → RowReads list clips (phase.Play k) p (if selected then play_row p.cued else refused)
  reads_play k true e = reads_play_row k p.cued refl e
  reads_play k false e =
      reads_as list clips (phase.Play k) p (reply.Nak 0x01) keeps refl refl (refl, inl (e, refl, refl, refl))

  reads_check : (k : ℕ) (selected : Bool) → RowReads list clips (phase.Check k) p (if selected then row
      (reply.Active (option_map (λ item. item.id) p.playing)) keeps else refused)
  reads_check k true =
      reads_as list clips (phase.Check k) p (reply.Active (option_map (λ item. item.id) p.playing)) keeps refl refl
      (refl, refl, refl)
  reads_check k false = reads_as list clips (phase.Check k) p (reply.Nak 0x01) keeps refl refl (refl, refl, refl)

  reads_close : (same : Bool) → RowReads list clips phase.Close p (if same then row reply.Ack closes else refused)
  reads_close true = reads_as list clips phase.Close p reply.Ack closes refl refl (λ e. cc, refl, inl refl)
  reads_close false = reads_as list clips phase.Close p (reply.Nak 0x01) keeps refl refl (λ e. e, refl, inr refl)

  reads_halt : (selected : Bool) → RowReads list clips phase.Halt p (if selected then row reply.Ack stops else refused)
  reads_halt true = reads_as list clips phase.Halt p reply.Ack stops refl refl (λ e. e, refl, inl refl)
  reads_halt false = reads_as list clips phase.Halt p (reply.Nak 0x01) keeps refl refl (λ e. e, refl, inr refl)

  reads_halt_close : (same : Bool) → RowReads list clips phase.HaltClose p (if same then row reply.Ack closes else
      refused)
  reads_halt_close true = reads_as list clips phase.HaltClose p reply.Ack closes refl refl (λ e. cc, refl, inl refl)
  reads_halt_close false =
      reads_as list clips phase.HaltClose p (reply.Nak 0x01) keeps refl refl (λ e. e, refl, inr refl)

  reads_phase : (port : ℕ) (d : Phase) → IfRow list clips d p (command_in list port d)
  reads_phase port phase.Open = reads_open list clips p (nat_eq port p.number)
  reads_phase port phase.Select = reads_select list clips p (nat_eq port p.number && is_open p)
  reads_phase port phase.Seen = reads_seen list clips p (is_selected p)
  reads_phase port (phase.Exists k) = reads_exists k (slice_get list k) refl
  reads_phase port (phase.Cue k) = reads_cue k (slice_get list k) refl
  reads_phase port (phase.Wait k) = reads_wait list clips p k (is_selected p) refl
  reads_phase port (phase.Play k) = reads_play k (is_selected p) refl
  reads_phase port (phase.Probe k) = reads_probe list clips p k (is_selected p) refl
  reads_phase port (phase.Check k) = reads_check k (is_selected p)
  reads_phase port phase.Drain = reads_drain list clips p (is_selected p)
  reads_phase port phase.Close = reads_close (nat_eq port p.number)
  reads_phase port phase.Halt = reads_halt (is_selected p)
  reads_phase port phase.HaltClose = reads_halt_close (nat_eq port p.number)

  pub reads : (port : ℕ) (d : Phase) (c : Command) → command_in list port d ≡ Some c
      → RowReads list clips d p (command_row clips p c)
  reads port d c is = subst (IfRow list clips d p) is (reads_phase port d)
