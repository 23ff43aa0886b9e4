-- What a late channel begins with: what is on the way has asked the port, or answers that.
use Rattle.std.proofs.Common.{◌≡◌, ℕ, inl, inr, Bool, true, false, not, ◌||◌, List, [], ◌∷◌, All, Option, Some, None, refl, arith, sym, ap, if◌then◌else◌}
use Rattle.std.proofs.lemmas.Bool.{or_from}
use Rattle.std.proofs.lemmas.List.Elements.{All-head, All-tail}
use Rattle.std.specs.List.{list_any}
use Rattle.std.specs.Prelude.{IsSome}
use Rattle.vdcp_value.specs.declared.clip_id.ClipId.{ClipId}
use Rattle.vdcp_value.specs.declared.part.Item.{Item}
use Rattle.vdcp_value.specs.declared.timecode.Timecode.{Timecode}
use Rattle.vdcp_words.specs.declared.command.Command.{Command}
use Rattle.vdcp_words.specs.declared.reply.Reply.{Reply}
use Rattle.vdcp_auto.specs.Commands.{fits}
use Rattle.vdcp_auto.specs.Heard.{heard_in}
use Rattle.vdcp_auto.specs.Log.{answer_to}
use Rattle.vdcp_auto.specs.Plan.{Plan}
use Rattle.vdcp_auto.specs.Replies.{is_refusal}
use Rattle.vdcp_auto.specs.Table.{command_in}
use Rattle.vdcp_auto.specs.declared.exchange.Heard.{Heard}
use Rattle.vdcp_auto.specs.declared.exchange.Heard.TheVariants as heard
use Rattle.vdcp_auto.specs.declared.phase.Mode.{Mode}
use Rattle.vdcp_auto.specs.declared.phase.Phase.{Phase}
use Rattle.vdcp_auto.specs.declared.phase.Phase.TheVariants as phase
use Rattle.vdcp_world.specs.LateLine.LateChannel.{AnswersOnly, AsksOnly, IsQuestion}
use Rattle.vdcp_world.specs.LateLine.Pipe.{Climbs, stretch, stretches}
use Rattle.vdcp_world.proofs.PhaseTable.{is_asked}
use Rattle.vdcp_world.proofs.Exchanges.{fits_asked}
use Rattle.vdcp_world.proofs.LateLine.Kept.{DownCarries, UpCarries}
use Rattle.vdcp_world.proofs.LateLine.Places.{Answer, misfits, pipe_of}
use Rattle.vdcp_world.proofs.LateLine.Reads.{misleads, misleads_at}

-- the phase that asks a question
record Asking (mode : Mode) (n : ℕ) (list : List Item) (clips : List (ClipId × Timecode)) (port : ℕ) (c : Command) :
    Type 0 where
  pub by : Phase
  pub sends : command_in list port by ≡ Some c
  pub is_first : stretch mode n by ≡ 1
  pub never_misleads : (r : Reply) → misleads_at list clips by r ≡ false

asking : (mode : Mode) (n : ℕ) (list : List Item) (clips : List (ClipId × Timecode)) (port : ℕ) (c : Command)
    → IsQuestion port c → Asking mode n list clips port c
asking mode n list clips port c (inl is) =
    record { by = phase.Open; sends = ap Some (sym is); is_first = refl; never_misleads = λ r. refl }
asking mode n list clips port c (inr (inl is)) =
    record { by = phase.Select; sends = ap Some (sym is); is_first = refl; never_misleads = λ r. refl }
asking mode n list clips port c (inr (inr is)) =
    record { by = phase.Seen; sends = ap Some (sym is); is_first = refl; never_misleads = λ r. refl }

-- one of the first stretch before others of it
climbs_first : (mode : Mode) (n : ℕ) (q : Phase) (pipe : List Phase) → stretch mode n q ≡ 1
    → Climbs 1 1 (stretches mode n pipe) → Climbs 1 1 (stretches mode n (q ∷ pipe))
climbs_first mode n q pipe is c = rw is (omega arith, omega arith, c)

-- on the way down
pub record Downs (mode : Mode) (n : ℕ) (plan : Plan) (unit : ℕ) (down : List (List ℕ)) : Type 0 where
  pub downs : List Phase
  pub down_is : DownCarries plan.list plan.port unit down downs
  pub climbs : Climbs 1 1 (stretches mode n downs)

pub asked_down : (mode : Mode) (n : ℕ) (clips : List (ClipId × Timecode)) (plan : Plan) (unit : ℕ)
    (down : List (List ℕ)) → All (AsksOnly plan unit) down → Downs mode n plan unit down
asked_down mode n clips plan unit [] h = record { downs = []; down_is = refl; climbs = tt }
asked_down mode n clips plan unit (b ∷ bs) h =
    let rest = asked_down mode n clips plan unit bs (All-tail (AsksOnly plan unit) b bs h) in
    by rest (All-head (AsksOnly plan unit) b bs h)
  where
    by : Downs mode n plan unit bs → AsksOnly plan unit b → Downs mode n plan unit (b ∷ bs)
    by rest (inl none) = record { downs = rest.downs; down_is = inl (none, rest.down_is); climbs = rest.climbs }
    by rest (inr (c, is, ms)) =
        let q = asking mode n plan.list clips plan.port c is in
        record {
          downs = q.by ∷ rest.downs;
          down_is = inr (q.by, rest.downs, refl, (c, q.sends, ms), rest.down_is);
          climbs = climbs_first mode n q.by rest.downs q.is_first rest.climbs;
        }

-- and up
pub record Ups (mode : Mode) (n : ℕ) (clips : List (ClipId × Timecode)) (plan : Plan) (unit : ℕ) (up : List (List ℕ))
    (downs : List Phase) : Type 0 where
  pub ups : List Answer
  pub up_is : UpCarries plan.mode unit up ups
  pub climbs : Climbs 1 1 (stretches mode n (pipe_of ups downs))
  pub fit : list_any misfits ups ≡ false
  pub true_told : list_any (misleads plan.list clips) ups ≡ false

-- what answers a command is its refusal, or a reply that fits it
answered : (c : Command) (h : Option Heard) → IsSome (answer_to c h)
    → (r : Reply) × (h ≡ Some (heard.Reply r)) × ((is_refusal r || fits c r) ≡ true)
answered c (Some (heard.Reply r)) e = (r, refl, by (is_refusal r || fits c r) e)
  where
    by : (b : Bool) → IsSome (if b then Some r else None) → b ≡ true
    by true e = refl
    by false e = cc
answered c _ e = cc

fitting : (refuses fit asked : Bool) → (fit ≡ true → asked ≡ true) → (refuses || fit) ≡ true
    → not (refuses || asked) ≡ false
fitting true fit asked f e = refl
fitting false fit asked f e = ap not (f e)

pub answered_up : (mode : Mode) (n : ℕ) (clips : List (ClipId × Timecode)) (plan : Plan) (unit : ℕ)
    (up : List (List ℕ)) (downs : List Phase) → All (AnswersOnly plan unit) up
    → Climbs 1 1 (stretches mode n downs) → Ups mode n clips plan unit up downs
answered_up mode n clips plan unit [] downs h climbs =
    record { ups = []; up_is = refl; climbs = climbs; fit = refl; true_told = refl }
answered_up mode n clips plan unit (b ∷ bs) downs h climbs =
    let rest = answered_up mode n clips plan unit bs downs (All-tail (AnswersOnly plan unit) b bs h) climbs in
    by rest (All-head (AnswersOnly plan unit) b bs h)
  where
    by : Ups mode n clips plan unit bs downs → AnswersOnly plan unit b → Ups mode n clips plan unit (b ∷ bs) downs
    by rest (inl junk) = record {
      ups = rest.ups;
      up_is = inl (junk, rest.up_is);
      climbs = rest.climbs;
      fit = rest.fit;
      true_told = rest.true_told;
    }
    by rest (inr (c, is, some)) =
        let q = asking mode n plan.list clips plan.port c is in
        let (r, hears, fit) = answered c (heard_in unit b) some in
        let x : Answer = record { to = q.by; reply = r } in
        record {
          ups = x ∷ rest.ups;
          up_is = inr (x, rest.ups, refl, hears, rest.up_is);
          climbs = climbs_first mode n q.by (pipe_of rest.ups downs) q.is_first rest.climbs;
          fit = or_from (misfits x) (list_any misfits rest.ups) (fitting (is_refusal r) (fits c r) (is_asked q.by r)
              (fits_asked plan.list plan.port q.by c r q.sends) fit) rest.fit;
          true_told =
              or_from (misleads plan.list clips x) (list_any (misleads plan.list clips) rest.ups) (q.never_misleads r)
              rest.true_told;
        }
