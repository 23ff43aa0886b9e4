-- What the port reads of what is on the way down, and what is heard of its answer.
use Rattle.std.proofs.Common.{ℕ, ◌<◌, ◌≡◌, ◌≢◌, ◌⊎◌, inl, inr, Bool, true, false, nat_eq, List, [], ◌∷◌, ◌++◌, refl, arith, ap, ◌∙◌, lit<, append-nil, if◌then◌else◌}
use Rattle.std.proofs.lemmas.List.Elements.{All-cons, All-nil}
use Rattle.std.specs.Option.{option_to_list}
use Rattle.std.specs.Prelude.{Option, None, Some, Result, Ok}
use Rattle.vdcp_frame.specs.Burst.{messages_of, end_of}
use Rattle.vdcp_frame.specs.Message.{AreOctets, spelling}
use Rattle.vdcp_frame.specs.Reading.{End, clean, cut, fault}
use Rattle.vdcp_words.specs.Commands.{command_message, IsWritableCommand}
use Rattle.vdcp_words.specs.Replies.{reply_message, IsWritableReply}
use Rattle.vdcp_words.specs.declared.command.Command.{Command}
use Rattle.vdcp_words.specs.declared.fault.WordFault.{WordFault}
use Rattle.vdcp_words.specs.declared.reply.Reply.{Reply}
use Rattle.vdcp_words.specs.declared.reply.Reply.TheVariants as reply
use Rattle.vdcp_port.specs.Answers.{answer_bytes, reply_bytes, bytes_for, sent_for, end_answers}
use Rattle.vdcp_port.specs.Clock.{ClockedPort, after_change}
use Rattle.vdcp_port.specs.Row.{Row, on_air}
use Rattle.vdcp_auto.specs.Heard.{heard_by, heard_as, heard_first, heard_in}
use Rattle.vdcp_auto.specs.declared.exchange.Heard.TheVariants as heard
use Rattle.vdcp_world.specs.Below.{Below}
use Rattle.vdcp_world.proofs.OnTheWay.{ReadsNothing, ReadsCommand}

abbrev IsByte : ℕ → Type 0
IsByte byte = byte < 256

-- ---- what is heard of a reply

heard_if : (same : Bool) (o : Result Reply WordFault) (r : Reply) → same ≡ true → o ≡ Ok r
    → (if same then heard_by o else heard.Other) ≡ heard.Reply r
heard_if true o r s e = ap heard_by e
heard_if false o r s e = cc

same_unit : (unit : ℕ) → nat_eq unit unit ≡ true
same_unit unit = grind arith

heard_own : Below → (unit : ℕ) (r : Reply) → IsWritableReply r → heard_as unit (reply_message unit r) ≡ heard.Reply r
heard_own below unit reply.Ack w = refl
heard_own below unit (reply.Nak byte) w = refl
heard_own below unit (reply.State bitmap None) w =
    heard_if (nat_eq unit unit) _ _ (same_unit unit) (below.reply_read unit (reply.State bitmap None) w)
heard_own below unit (reply.Active None) w =
    heard_if (nat_eq unit unit) _ _ (same_unit unit) (below.reply_read unit (reply.Active None) w)
heard_own below unit q w = heard_if (nat_eq unit unit) _ _ (same_unit unit) (below.reply_read unit q w)

end_bytes : (unit : ℕ) (end : End) → AreOctets (answer_bytes unit (end_answers end))
end_bytes unit clean = All-nil IsByte
end_bytes unit (cut count) =
    All-cons IsByte 0x05 (0x80 ∷ []) (lit< tt) (All-cons IsByte 0x80 [] (lit< tt) (All-nil IsByte))
end_bytes unit (fault kind place) =
    All-cons IsByte 0x05 (0x04 ∷ []) (lit< tt) (All-cons IsByte 0x04 [] (lit< tt) (All-nil IsByte))

-- a reply is heard, whatever bytes stand after it
heard_reply : Below → (unit : ℕ) (r : Reply) (more : List ℕ) → unit < 16 → IsWritableReply r → AreOctets more
    → heard_in unit (spelling (reply_message unit r) ++ more) ≡ Some (heard.Reply r)
heard_reply below unit r more u w bytes =
    let first = below.before (reply_message unit r) more (below.reply_fits unit r (omega (arith, u)) w) bytes in
    ap (heard_first unit) first.1 ∙ ap Some (heard_own below unit r w)

-- ---- what the port reads

pub reads_nothing : Below → (p : ClockedPort) (down : List ℕ) → messages_of down ≡ [] → ReadsNothing p down
reads_nothing below p down e = record {
  stays = below.none_left p down e;
  airs = below.none_aired p down e;
  says = says (below.none_sent p down e);
}
  where
    Says : List ℕ → Type 0
    Says sent = (sent ≡ []) ⊎ ((byte : ℕ) × (byte ≢ 0x01) ×
        (heard_in p.state.unit sent ≡ Some (heard.Reply (reply.Nak byte))))

    says : ((sent_for p down ≡ []) ⊎ (sent_for p down ≡ 0x05 ∷ 0x04 ∷ []) ⊎ (sent_for p down ≡ 0x05 ∷ 0x80 ∷ []))
        → Says (sent_for p down)
    says (inl none) = inl none
    says (inr (inl bad)) = inr (0x04, grind arith, ap (heard_in p.state.unit) bad)
    says (inr (inr short)) = inr (0x80, grind arith, ap (heard_in p.state.unit) short)

pub reads_command : Below → (p : ClockedPort) (down : List ℕ) (c : Command) → p.state.unit < 16 → IsWritableCommand c
    → messages_of down ≡ command_message p.state.unit c ∷ [] → ReadsCommand p down c
reads_command below p down c u w e =
    let m = command_message p.state.unit c in
    let row_is = below.own_row p c w in
    let (answer, answers, writable) = below.answered p.clips p.state c in
    let own : bytes_for p m ≡ reply_bytes p.state.unit answer =
    ap (λ (x : Row). answer_bytes p.state.unit (option_to_list x.answer)) row_is
    ∙ ap (λ (o : Option Reply). answer_bytes p.state.unit (option_to_list o)) answers
    ∙ append-nil (reply_bytes p.state.unit answer) in
    let rest = answer_bytes p.state.unit (end_answers (end_of down)) in
    let sent : sent_for p down ≡ reply_bytes p.state.unit answer ++ rest =
    below.one_sent p m down e ∙ ap (λ (b : List ℕ). b ++ rest) own in
    record {
      answer = answer;
      answers = answers;
      leaves = below.one_left p m down e ∙ ap (λ (x : Row). after_change x.change p) row_is;
      airs = below.one_aired p m down e ∙ ap (λ (x : Row). option_to_list (on_air x.change)) row_is;
      heard = ap (heard_in p.state.unit) sent ∙ heard_reply below p.state.unit answer rest u writable
          (end_bytes p.state.unit (end_of down));
    }
