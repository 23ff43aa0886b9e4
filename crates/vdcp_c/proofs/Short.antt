-- Part of a message is short, and how a burst ends in one.
use Rattle.std.proofs.Common.{ℕ, pos, ◌≡◌, ◌<◌, ◌≤◌, List, [], ◌∷◌, ◌++◌, length, take, refl, arith, length-append, of_z, w32}
use Rattle.std.proofs.lemmas.List.{length-take}
use Rattle.vdcp_frame.specs.declared.message.Fault.TheVariants.{BadStart, BadCount, BadSum, Long}
use Rattle.vdcp_frame.specs.Message.{Content, Spells}
use Rattle.vdcp_frame.specs.Progress.{reading}
use Rattle.vdcp_frame.specs.Reader.{Answer, message, more, wrong, Gives, ended_of}
use Rattle.vdcp_c.specs.Told.{code_of, end_code}

-- what is held of a piece after it brought nothing
pub more_short : ((m : Content) (bytes : List ℕ) → Spells m bytes → (0 < length bytes) × (length bytes ≤ 258))
    → (at n : ℕ) (piece : List ℕ) (answer : Answer) → of_z w32 (code_of answer) ≡ 0 → Gives (reading at []) piece n answer
    → (n ≤ 258) × (n ≤ length piece)
more_short size at n piece more e g =
    let b = g.unfinished.begins in (
      omega (
        arith,
        (size b.message (take n piece ++ b.more) b.spelt).1,
        length-append (take n piece) b.more,
        length-take n piece,
        g.all,
      ),
      omega (arith, g.all),
    )
more_short size at n piece (message m) e g = cc e
more_short size at n piece (wrong BadStart place) e g = cc e
more_short size at n piece (wrong (BadCount count) place) e g = cc e
more_short size at n piece (wrong BadSum place) e g = cc e
more_short size at n piece (wrong Long place) e g = cc e

pub clean_end : (taken : ℕ) (held : List ℕ) → length held < 1 → pos 0 ≡ end_code (ended_of (reading taken held))
clean_end taken [] less = refl
clean_end taken (byte ∷ bytes) less = absurd (omega (arith, less))

pub cut_end : (taken : ℕ) (held : List ℕ) → 1 ≤ length held → pos 1 ≡ end_code (ended_of (reading taken held))
cut_end taken [] some = absurd (omega (arith, some))
cut_end taken (byte ∷ bytes) some = refl
