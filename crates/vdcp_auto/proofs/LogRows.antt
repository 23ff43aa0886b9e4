-- More small logs: what they settle, which cue may follow them, and where silences count.
use Rattle.std.specs.Prelude.{◌≡◌, ℕ, Bool, true, false, None, Some, List, slice_index, [], ◌∷◌, map, refl}
use Rattle.std.proofs.Common.{arith, ap, lit≤}
use Rattle.vdcp_value.specs.Ids.{id_bytes}
use Rattle.vdcp_words.specs.declared.command.Command.{Command}
use Rattle.vdcp_words.specs.declared.command.Command.TheVariants as command
use Rattle.vdcp_words.specs.declared.reply.Reply.{Reply}
use Rattle.vdcp_words.specs.declared.reply.Reply.TheVariants as reply
use Rattle.vdcp_auto.specs.declared.exchange.Exchange.{Exchange}
use Rattle.vdcp_auto.specs.declared.exchange.Heard.TheVariants as heard
use Rattle.vdcp_auto.specs.declared.phase.Mode.{Mode}
use Rattle.vdcp_auto.specs.declared.phase.Mode.TheVariants.{Plain, Confirming}
use Rattle.vdcp_auto.specs.Settled.{has_open_play, may_have_aired, settled}
use Rattle.vdcp_auto.specs.RuleBook.{May}
use Rattle.vdcp_auto.specs.Endings.{EndsUnanswered}
use Rattle.vdcp_auto.proofs.Examples.{clip_one, clip_two, two as list}

abbrev came : Command → Reply → Exchange
came c r = record { command = c; heard = Some (heard.Reply r) }

abbrev silent : Command → Exchange
silent c = record { command = c; heard = None }

abbrev granted : Exchange
granted = came (command.Open 1 1) (reply.Opened true)

abbrev cued : Exchange
cued = came (command.PlayCue clip_one) reply.Ack

abbrev status : ℕ → Exchange
status byte = came (command.Status 1) (reply.State 1 (Some byte))

abbrev lost_play : Exchange
lost_play = silent command.Play

-- Settled.

-- the number of events that the log settles in this mode, and whether one more may have aired
record Row : Type 0 where
  mode : Mode
  log : List Exchange
  count : ℕ
  one_more : Bool

abbrev row : Mode → List Exchange → ℕ → Bool → Row
row mode log count one_more = record { mode = mode; log = log; count = count; one_more = one_more }

abbrev rows : List Row
rows =
    -- a PLAY that heard ACK settles in plain mode alone
    row Plain (cued ∷ status 0x80 ∷ came command.Play reply.Ack ∷ []) 1 false
    ∷ row Confirming (cued ∷ status 0x80 ∷ came command.Play reply.Ack ∷ []) 0 true
    ∷ row Plain (cued ∷ status 0x80 ∷ came command.Play (reply.Nak 0x01) ∷ status 0x01 ∷ []) 0 true
    -- a lost PLAY settles by an empty status, once, and by nothing else
    ∷ row Plain (cued ∷ status 0x80 ∷ lost_play ∷ status 0x01 ∷ []) 1 false
    ∷ row Plain (cued ∷ status 0x80 ∷ lost_play ∷ status 0x04 ∷ []) 1 false
    ∷ row Confirming (cued ∷ status 0x80 ∷ lost_play ∷ status 0x01 ∷ []) 1 false
    ∷ row Plain (lost_play ∷ status 0x01 ∷ status 0x01 ∷ []) 1 false
    ∷ row Plain (lost_play ∷ status 0x80 ∷ lost_play ∷ status 0x01 ∷ []) 1 false
    ∷ row Plain (lost_play ∷ came (command.Status 2) (reply.State 0 None) ∷ []) 0 true
    ∷ row Plain (lost_play ∷ came command.ActiveId (reply.Active (Some clip_one)) ∷ []) 0 true
    -- after a STOP an empty status settles nothing
    ∷ row Plain (cued ∷ status 0x80 ∷ lost_play ∷ came command.Stop reply.Ack ∷ status 0x01 ∷ []) 0 true
    -- the second PLAY is refused, and the first one may have aired
    ∷ row Plain (cued ∷ status 0x80 ∷ lost_play ∷ status 0x80 ∷ came command.Play (reply.Nak 0x01) ∷ []) 0 true
    -- since the last event was settled, no PLAY, and one
    ∷ row Plain (came command.Play reply.Ack ∷ cued ∷ status 0x80 ∷ silent command.Stop ∷ []) 1 false
    ∷ row Plain (came command.Play reply.Ack ∷ cued ∷ status 0x80 ∷ lost_play ∷ []) 1 true
    ∷ []

rows_settle : map (λ r. settled r.mode r.log) rows ≡ map (λ r. r.count) rows
rows_settle = refl

one_more_may_have_aired : map (λ r. may_have_aired r.mode r.log) rows ≡ map (λ r. r.one_more) rows
one_more_may_have_aired = refl

fault_leaves_a_play_open : has_open_play (came command.Play (reply.Nak 0x04) ∷ status 0x02 ∷ []) ≡ true
fault_leaves_a_play_open = refl

-- The rule book.

-- the last byte of the clip that a command cues
abbrev cued_byte : Command → ℕ
cued_byte (command.PlayCue id) = slice_index (id_bytes id) 7
cued_byte _ = 0

no_cue_of_another_clip : ¬ May Plain list (granted ∷ []) (command.PlayCue clip_two)
no_cue_of_another_clip may =
    let same : command.PlayCue clip_two ≡ command.PlayCue clip_one = may.rule.cues_next in
    let byte : 0x32 ≡ cued_byte (command.PlayCue clip_one) = ap cued_byte same in
    absurd (omega arith)

no_cue_of_another_kind : ¬ May Plain (record { id = clip_one; part = Some (record { start = []; duration = [] }) } ∷ [])
    (granted ∷ [])
    (command.PlayCue clip_one)
no_cue_of_another_kind may = let row = may.rule.cues_next in cc

no_cue_after_the_last_item : ¬ May Plain [] (granted ∷ []) (command.PlayCue clip_one)
no_cue_after_the_last_item may = may.rule.cues_next

-- Silences in a row.

three_silences : EndsUnanswered Plain 3 (granted ∷ silent (command.Select 1) ∷ silent (command.Select 1)
    ∷ silent (command.Select 1) ∷ [])
three_silences = (lit≤ tt, refl)

an_answer_breaks_the_row : ¬ EndsUnanswered Plain 3 (silent (command.Open 1 1) ∷ granted ∷ silent (command.Select 1)
    ∷ silent (command.Select 1) ∷ [])
an_answer_breaks_the_row ends = let row = ends.1 in cc

commands_do_not_count_in_confirm_mode : ¬ EndsUnanswered Confirming 3
    (granted ∷ silent (command.Select 1) ∷ silent (command.Status 1) ∷ silent (command.Status 1) ∷ [])
commands_do_not_count_in_confirm_mode ends = let row = ends.1 in cc
