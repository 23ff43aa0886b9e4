-- Ends that rows show, computed.
use Rattle.std.proofs.Common.{◌≡◌, ℕ, None, Some, [], ◌∷◌, refl}
use Rattle.vdcp_auto.specs.declared.exchange.Heard.TheVariants as heard
use Rattle.vdcp_journal.specs.Airings.{end_in}
use Rattle.vdcp_journal.specs.declared.moment.Moment.{Moment}
use Rattle.vdcp_journal.specs.declared.row.Note.{Note}
use Rattle.vdcp_journal.specs.declared.row.Note.TheVariants as note
use Rattle.vdcp_journal.specs.declared.row.Row.{Row}
use Rattle.vdcp_words.specs.declared.command.Command.TheVariants as command
use Rattle.vdcp_words.specs.declared.reply.Reply.TheVariants as reply

abbrev row : Moment → Note → Row
row t n = record { time = t; note = n }

abbrev ack : Note
ack = note.Heard (heard.Reply reply.Ack)

abbrev state : ℕ → Note
state byte = note.Heard (heard.Reply (reply.State 1 (Some byte)))

-- it plays, then plays with the next cue done, and then that cue is done alone
plays_out : (a b c d e : Moment) → end_in
    (row a ack ∷ row b (note.Sent (command.Status 1)) ∷ row c (state 4) ∷ row d (state 132) ∷ row e (state 128) ∷ [])
    ≡ Some (row e (state 128))
plays_out a b c d e = refl

is_taken_off : (a b c d e : Moment) → end_in
    (row a ack ∷ row b (state 132) ∷ row c note.Take ∷ row d (note.Sent command.Play) ∷ row e (state 4) ∷ []) ≡ Some (row d (note.Sent command.Play))
is_taken_off a b c d e = refl

is_stopped : (a b c d : Moment) → end_in
    (row a ack ∷ row b (state 4) ∷ row c note.Stop ∷ row d (note.Sent command.Stop) ∷ []) ≡ Some (row d (note.Sent command.Stop))
is_stopped a b c d = refl

-- a short clip is over in the state that settles it
is_over_at_once : (a : Moment) → end_in (row a (state 0) ∷ []) ≡ Some (row a (state 0))
is_over_at_once a = refl

still_plays : (a b c : Moment) → end_in (row a ack ∷ row b (state 4) ∷ row c note.Silence ∷ []) ≡ None
still_plays a b c = refl
