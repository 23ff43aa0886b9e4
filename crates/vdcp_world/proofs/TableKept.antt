-- The phase table, as a claim that each event keeps.
use Rattle.std.proofs.Common.{◌≡◌, ℕ, false, List, Option, Some, None, refl, sym, subst, ◌∙◌, arith}
use Rattle.vdcp_value.specs.declared.clip_id.ClipId.{ClipId}
use Rattle.vdcp_value.specs.declared.part.Item.{Item}
use Rattle.vdcp_value.specs.declared.timecode.Timecode.{Timecode}
use Rattle.vdcp_words.specs.declared.reply.Reply.TheVariants as reply
use Rattle.vdcp_port.specs.Port.{PortState}
use Rattle.vdcp_auto.specs.Replies.{is_refusal}
use Rattle.vdcp_auto.specs.Table.{command_in, names_other, on_reply}
use Rattle.vdcp_auto.specs.Turn.{on_unanswered, stage_after}
use Rattle.vdcp_auto.specs.declared.phase.Mode.{Mode}
use Rattle.vdcp_auto.specs.declared.phase.Phase.{Phase}
use Rattle.vdcp_world.specs.Channel.{Make}
use Rattle.vdcp_world.proofs.Claims.{ClosedFor, StandsIn, TellsIn}
use Rattle.vdcp_world.proofs.Exchanges.{hears_cue, refused_firm, refused_place, replied_firm, replied_place, silence_firm, silence_place, tick_firm, tick_place}
use Rattle.vdcp_world.proofs.PhaseTable.{FirmAt, FirmTells, Tells}
use Rattle.vdcp_world.proofs.Readings.{reads_place, reads_plays, reads_number, reads_firm, reads_tells, reads_firm_tells}
use Rattle.vdcp_world.proofs.Slots.{ready_place_at, ready_tells, ready_firm_at, ready_firm_tells, ended_firm_at, ended_firm_tells}

-- a NAK that is no refusal tells nothing
nak_tells : (list : List Item) (clips : List (ClipId × Timecode)) (p : PortState) (aired : List Item) (q : Phase)
    (byte : ℕ)
    → is_refusal (reply.Nak byte) ≡ false
    → Tells list clips p.cued aired q (reply.Nak byte) × FirmTells list clips p q (reply.Nak byte)
nak_tells list clips p aired q byte e = (plain, firm)
  where
    named : (o : Option Item) → names_other o (reply.Nak byte) ≡ false
    named None = refl
    named (Some item) = refl

    plain : Tells list clips p.cued aired q (reply.Nak byte)
    plain = grind (arith, named)

    firm : FirmTells list clips p q (reply.Nak byte)
    firm = grind arith

pub closed_table : (m : Make) → ClosedFor m (StandsIn m) (TellsIn m)
closed_table m = record {
  naks = λ p aired q byte e.
      let t = nak_tells list clips p aired q byte e in
      (t.0, λ _. t.1);
  ready = λ take p aired settled stage h. record {
    numbered = h.numbered;
    plays = h.plays;
    place = ready_place_at list clips p.cued aired settled stage h.place;
    firm = λ plain. ready_firm_at list clips p stage (h.firm plain);
  };
  ready_tells = λ p aired q r t. (
    ready_tells list clips p.cued aired q r t.0,
    λ plain. ready_firm_tells list clips p p.cued q r refl (t.1 plain),
  );
  ended = λ take p aired settled stage h. record {
    numbered = h.numbered;
    plays = tt;
    place = h.place;
    firm = λ plain. ended_firm_at list clips p stage (h.firm plain);
  };
  ended_tells = λ p aired q r t. (t.0, λ plain. ended_firm_tells list clips p q r (t.1 plain));
  sends = λ take stop p aired settled q h. record {
    numbered = h.numbered;
    plays = h.plays;
    place = tick_place list p.cued aired settled stop q h.place;
    firm = λ plain. tick_firm list clips p stop q (h.firm plain);
  };
  reads = λ take p aired settled q n h. record {
    numbered = reads_number clips p (command_in list m.plan.port q) ∙ h.numbered;
    plays = reads_plays list clips p aired settled m.plan.port q h.place h.plays;
    place = reads_place list clips p aired settled m.plan.port q h.place;
    firm = λ plain. reads_firm list clips p m.plan.port q n (h.firm plain);
  };
  reads_tell = λ take p aired settled q r n h a. (
    reads_tells list clips p aired settled m.plan.port q r n h.place h.plays a,
    λ plain. reads_firm_tells list clips p m.plan.port q r n (h.firm plain) a,
  );
  refused = λ take p aired settled q r plain e t h. record {
    numbered = h.numbered;
    plays = h.plays;
    place = refused_place list clips p aired settled q r h.place (h.firm plain) (t.1 plain) e;
    firm = λ _. refused_firm list clips p q r (h.firm plain) (t.1 plain) e;
  };
  replied = λ take p aired settled tries q r asked receipt t h. record {
    numbered = h.numbered;
    plays = h.plays;
    place = replied_place list clips p.cued aired m.plan.mode settled m.plan.limit tries take q r h.place t.0
        (hears_cue m.plan.mode list clips p q r t.1) asked;
    firm = λ plain. subst (λ (mode : Mode). FirmAt list clips p
        (stage_after (on_reply mode list m.plan.limit take tries q r))) (sym plain)
        (replied_firm list clips p aired m.plan.limit tries take q r (h.firm plain) t.0 (t.1 plain) asked);
  };
  silent = λ take p aired settled unanswered counts q h. record {
    numbered = h.numbered;
    plays = h.plays;
    place = silence_place list clips p.cued aired m.plan.mode settled m.plan.limit unanswered counts q h.place;
    firm = λ plain. subst (λ (mode : Mode). FirmAt list clips p
        (stage_after (on_unanswered mode m.plan.limit unanswered counts q))) (sym plain)
        (silence_firm list clips p m.plan.limit unanswered counts q (h.firm plain));
  };
}
  where
    list : List Item
    list = m.plan.list

    clips : List (ClipId × Timecode)
    clips = m.clips
