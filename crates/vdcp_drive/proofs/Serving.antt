-- The turns of a server, one after another.
use Rattle.std.proofs.Common.{ℕ, ◌≡◌, ◌<◌, ◌+◌, false, true, List, [], ◌∷◌, ◌++◌, length, refl, sym, ap, subst, ◌∙◌, append_assoc, append-nil, length-append, arith}
use Rattle.std.proofs.lemmas.List.Elements.{All-append, All-cons, All-nil}
use Rattle.std.specs.Option.{option_to_list}
use Rattle.std.specs.Prelude.{All, Bool, Option, Some, Result, Ok, Err, IsErr}
use Rattle.vdcp_value.specs.declared.part.Item.{Item}
use Rattle.vdcp_frame.specs.Burst.{end_of, messages_of}
use Rattle.vdcp_frame.specs.Message.{Content}
use Rattle.vdcp_frame.specs.Progress.{Progress, is_failed, reading, failed}
use Rattle.vdcp_frame.specs.Reader.{ReadsAs, ended_of}
use Rattle.vdcp_frame.specs.Reading.{End, Reads}
use Rattle.vdcp_frame.specs.declared.got.Ended.{Ended}
use Rattle.vdcp_port.specs.Answers.{end_answers, reply_at_end}
use Rattle.vdcp_port.specs.Clock.{ClockedPort, after_frame}
use Rattle.vdcp_wire.specs.Acts.{Act}
use Rattle.vdcp_drive.specs.Turns.{AreOctetsAt, IsMade, Turn, closes, listen, frame, are_closed, due_of, turned_of, until_closed}
use Rattle.vdcp_drive.specs.ServeLeaves.{HasTurned, ServeLeaves, Serves, ServesTo, by_itself, cut_short, due_by, end_steps}
use Rattle.vdcp_drive.specs.Below.{Below}
use Rattle.vdcp_drive.specs.Steps.{Chain}
use Rattle.vdcp_drive.specs.ServerEars.{ServerEar, HasRead, after_rest, in_burst, in_stream, rests, says}
use Rattle.vdcp_drive.specs.Serving.{HookStep, IsCutShort, Look, Service, Serving, acts_of, asked, broken_steps, hook_steps, left_by, lent, look_at, serves, turn_acts}
use Rattle.vdcp_drive.specs.declared.hearing.Hearing.{Hearing}
use Rattle.vdcp_drive.specs.declared.hearing.Hearing.TheVariants.{AtSilences, AtOnce}
use Rattle.vdcp_drive.specs.declared.line.DriveFault.{DriveFault}
use Rattle.vdcp_drive.specs.declared.line.DriveFault.TheVariants.{Device}
use Rattle.vdcp_drive.specs.declared.line.TurnsEnd.{TurnsEnd}
use Rattle.vdcp_drive.specs.declared.server_hooks.Due.{Due}
use Rattle.vdcp_drive.specs.declared.server_hooks.Due.TheVariants as due
use Rattle.vdcp_drive.specs.declared.server_hooks.Turned.{Turned}
use Rattle.vdcp_drive.proofs.Chains.{chain_both}
use Rattle.vdcp_drive.proofs.Turning.{closed_more, last_more}

-- One turn.

-- the wire failed
pub cut_so : {W F : Type 0} (does : Act → W → W → Type 0) (can : Bool) (hearing : Hearing) (s : Service) (wire : W)
    (result : Result Turned F) (port' : ClockedPort) (reader' : Progress) (aired' : Option Item) (wire' : W) → IsErr result
    → (done : List Act) → IsCutShort s done port' aired' → Chain does done wire wire'
    → HasTurned does can hearing s wire result port' reader' aired' wire'
cut_so does can hearing s wire (Ok t) port' reader' aired' wire' is done cut acted = absurd cc
cut_so does can hearing s wire (Err e) port' reader' aired' wire' is done cut acted = (done, cut, acted)

-- a reader's end is that of its burst
ends_alike : (law : Below) (one : (burst : List ℕ) (ms ns : List Content) (end : End) (ended : Ended)
    → Reads burst ms end → ReadsAs burst ns ended → end_answers end ≡ option_to_list (reply_at_end ended))
    → (ear : ServerEar) (reader : Progress) → HasRead AtSilences ear reader
    → option_to_list (reply_at_end (ended_of reader)) ≡ says ear
ends_alike law one (in_burst burst) reader h =
    sym (one burst (messages_of burst) (messages_of burst) (end_of burst) (ended_of reader) (law.some burst h.octets)
    (law.read burst (messages_of burst) reader h.follows))
ends_alike law one (in_stream held) reader h = absurd h

begins_burst : (law : Below) (ear : ServerEar) (reader : Progress) → HasRead AtSilences ear reader
    → HasRead AtSilences (rests ear) (reading 0 [])
begins_burst law (in_burst burst) reader h = record { octets = All-nil (λ b. b < 256); follows = law.start }
begins_burst law (in_stream held) reader h = absurd h

-- in a stream, after a fault and else
says_fault : (ear : ServerEar) (reader : Progress) → HasRead AtOnce ear reader → is_failed reader ≡ true
    → option_to_list (reply_at_end (ended_of reader)) ≡ says ear
says_fault (in_burst burst) reader h is = absurd h
says_fault (in_stream held) (reading taken bytes) h is = absurd cc
says_fault (in_stream held) failed h is = rw h.is refl

goes_anew : (law : Below) (ear : ServerEar) (reader : Progress) → HasRead AtOnce ear reader → is_failed reader ≡ true
    → HasRead AtOnce (rests ear) (reading 0 [])
goes_anew law (in_burst burst) reader h is = absurd h
goes_anew law (in_stream held) (reading taken bytes) h is = absurd cc
goes_anew law (in_stream held) failed h is = rw h.is (record { is = refl; afoot = (refl, law.start.unfinished) })

-- what a silence is answered, and the reader behind it
pub silenced : (law : Below) (one : (burst : List ℕ) (ms ns : List Content) (end : End) (ended : Ended)
    → Reads burst ms end → ReadsAs burst ns ended → end_answers end ≡ option_to_list (reply_at_end ended))
    → (hearing : Hearing) (ear : ServerEar) (reader : Progress) → (hearing ≡ AtOnce → is_failed reader ≡ true)
    → HasRead hearing ear reader
    → (option_to_list (reply_at_end (ended_of reader)) ≡ says ear) × HasRead hearing (rests ear) (reading 0 [])
silenced law one AtSilences ear reader fault h = (ends_alike law one ear reader h, begins_burst law ear reader h)
silenced law one AtOnce ear reader fault h =
    (says_fault ear reader h (fault refl), goes_anew law ear reader h (fault refl))

-- and the port
pub rested : (hearing : Hearing) (ear : ServerEar) (reader : Progress) (port port' : ClockedPort) → HasRead hearing ear reader
    → (hearing ≡ AtSilences → port' ≡ after_frame port) → (hearing ≡ AtOnce → port' ≡ port)
    → port' ≡ after_rest ear port
rested AtSilences (in_burst burst) reader port port' h a b = a refl
rested AtSilences (in_stream held) reader port port' h a b = absurd h
rested AtOnce (in_burst burst) reader port port' h a b = absurd h
rested AtOnce (in_stream held) reader port port' h a b = b refl

-- One after another.

pub left_both : (s : Service) (xs ys : List Turn) → left_by s (xs ++ ys) ≡ left_by (left_by s xs) ys
left_both s [] ys = refl
left_both s (x ∷ xs) ys = left_both (serves x s) xs ys

pub acts_both : (s : Service) (xs ys : List Turn) → acts_of s (xs ++ ys) ≡ acts_of s xs ++ acts_of (left_by s xs) ys
acts_both s [] ys = refl
acts_both s (x ∷ xs) ys = simp (append_assoc, acts_both (serves x s) xs ys)

pub steps_both : (s : Service) (xs ys : List Turn)
    → hook_steps s (xs ++ ys) ≡ hook_steps s xs ++ hook_steps (left_by s xs) ys
steps_both s [] ys = refl
steps_both s (x ∷ xs) ys =
    ap (λ (l : List HookStep). asked (due_of x) ∷ lent (look_at x s) ∷ l) (steps_both (serves x s) xs ys)

-- Turns that were made, after which a close is among what happened or not.

pub record Stands {W H : Type 0} (does : Act → W → W → Type 0) (can : Bool) (doing : HookStep → H → H → Type 0) (made : ℕ)
    (hearing : Hearing) (s : Service) (port : ClockedPort) (reader : Progress) (wire wire' : W) (hooks hooks' : H)
    (is_closed : Bool) : Type 0 where
  pub turns : List Turn
  pub count : length turns ≡ made
  pub closed_is : are_closed turns ≡ is_closed
  pub octets : All AreOctetsAt turns
  pub are_made : All (IsMade can) turns
  pub closes_last : until_closed turns ≡ turns
  pub port_is : port ≡ (left_by s turns).port
  pub has_read : HasRead hearing (left_by s turns).ear reader
  pub acted : Chain does (acts_of s turns) wire wire'
  pub steps : Chain doing (hook_steps s turns) hooks hooks'

-- the service that a port and an ear are
same_service : (port : ClockedPort) (s : Service) → port ≡ s.port → record { port = port; ear = s.ear } ≡ s
same_service port s is = ap (λ (p : ClockedPort). record { port = p; ear = s.ear }) is

-- what is asked of what was done is what was due
asks_for : (t : Turned) (what : Turn) → t ≡ turned_of what → due_by {F = DriveFault} (Some (Ok t)) ≡ due_of what
asks_for t (listen what) is = rw is refl
asks_for t frame is = rw is refl

one_turn : {W H : Type 0} (does : Act → W → W → Type 0) (can : Bool) (doing : HookStep → H → H → Type 0) (made : ℕ)
    (hearing : Hearing) (s : Service) (old new : Serving W) (wire : W) (hooks hooks₁ hooks₂ hooks₃ : H) (t : Turned)
    → (h : Stands does can doing made hearing s old.port old.reader wire old.wire hooks hooks₁ false)
    → Serves does can hearing (record { port = old.port; ear = (left_by s h.turns).ear }) old.wire t new.port new.reader
    new.aired new.wire
    → doing (asked (due_by {F = DriveFault} (Some (Ok t)))) hooks₁ hooks₂
    → doing (lent (record { port = new.port; aired = new.aired; turned = Ok t })) hooks₂ hooks₃
    → Stands does can doing (made + 1) hearing s new.port new.reader wire new.wire hooks hooks₃ (closes t)
one_turn {W} {H} does can doing made hearing s old new wire hooks hooks₁ hooks₂ hooks₃ t h o due seen =
    let b : Service = left_by s h.turns in
    let now : Service = record { port = old.port; ear = b.ear } in
    let is : now ≡ b = same_service old.port b h.port_is in
    let end : left_by s (h.turns ++ o.what ∷ []) ≡ serves o.what b = left_both s h.turns (o.what ∷ []) in
    let look : Look = record { port = new.port; aired = new.aired; turned = Ok t } in
    let looks : look ≡ look_at o.what b = rw (o.port_is, o.aired_is, o.turned_is) (ap (look_at o.what) is) in
    record {
      turns = h.turns ++ o.what ∷ [];
      count = omega (arith, h.count, length-append h.turns (o.what ∷ []));
      closed_is = closed_more h.turns o.what h.closed_is ∙ ap closes (sym o.turned_is);
      octets = All-append AreOctetsAt h.turns (o.what ∷ []) h.octets
          (All-cons AreOctetsAt o.what [] o.octets (All-nil AreOctetsAt));
      are_made = All-append (IsMade can) h.turns (o.what ∷ []) h.are_made
          (All-cons (IsMade can) o.what [] o.made (All-nil (IsMade can)));
      closes_last = last_more h.turns o.what h.closed_is;
      port_is = rw end (o.port_is ∙ ap (λ (x : Service). (serves o.what x).port) is);
      has_read = rw end (rw is at o.has_read);
      acted = rw (acts_both s h.turns (o.what ∷ [])) (chain_both does (acts_of s h.turns) (acts_of b (o.what ∷ []))
          wire old.wire new.wire h.acted (subst (λ (x : List Act). Chain does x old.wire new.wire)
          (sym (append-nil (turn_acts o.what b)))
          (subst (λ (x : Service). Chain does (turn_acts o.what x) old.wire new.wire) is o.done)));
      steps = rw (steps_both s h.turns (o.what ∷ [])) (chain_both doing (hook_steps s h.turns)
          (hook_steps b (o.what ∷ [])) hooks hooks₁ hooks₃ h.steps (
            hooks₂,
            subst (λ (d : Due). doing (asked d) hooks₁ hooks₂) (asks_for t o.what o.turned_is) due,
            (hooks₃, rw looks at seen, refl),
          ));
    }

-- Where turns have led a server and its hooks, whatever it had taken before.
pub record HasMade {W H : Type 0} (does : Act → W → W → Type 0) (can : Bool) (doing : HookStep → H → H → Type 0)
    (failures : W → ℕ) (made : ℕ) (old new : Serving W) (hooks hooks' : H) (is_closed : Bool) : Type 0 where
  pub works : failures new.wire ≡ 0
  pub hears : new.hearing ≡ old.hearing
  pub stands : (ear : ServerEar) → HasRead old.hearing ear old.reader
      → Stands does can doing made old.hearing (record { port = old.port; ear = ear }) new.port new.reader old.wire new.wire
      hooks hooks' is_closed

pub goes_on : {W H : Type 0} {does : Act → W → W → Type 0} {can : Bool} {doing : HookStep → H → H → Type 0} {failures : W → ℕ}
    {made : ℕ} {old new new' : Serving W} {hooks hooks₁ hooks₂ hooks₃ : H} (t : Turned)
    → HasMade does can doing failures made old new hooks hooks₁ false
    → ((ear : ServerEar) → HasRead new.hearing ear new.reader
    → Serves does can new.hearing (record { port = new.port; ear = ear }) new.wire t new'.port new'.reader new'.aired
    new'.wire)
    → doing (asked (due_by {F = DriveFault} (Some (Ok t)))) hooks₁ hooks₂ → new'.hearing ≡ new.hearing
    → failures new'.wire ≡ 0 → doing (lent (record { port = new'.port; aired = new'.aired; turned = Ok t })) hooks₂ hooks₃
    → HasMade does can doing failures (made + 1) old new' hooks hooks₃ (closes t)
goes_on {W} {H} {does} {can} {doing} {failures} {made} {old} {new} {new'} {hooks} {hooks₁} {hooks₂} {hooks₃} t h o due same
    works seen = record {
      works = works;
      hears = same ∙ h.hears;
      stands = λ ear read.
          let s : Service = record { port = old.port; ear = ear } in
          let st = h.stands ear read in
          one_turn does can doing made old.hearing s new new' old.wire hooks hooks₁ hooks₂ hooks₃ t st
          (rw h.hears at (o (left_by s st.turns).ear (rw h.hears st.has_read))) due seen;
    }

-- How the turns end, of a server whose wire had not failed before: by themselves, or since it fails now.

pub ends_so : {W H : Type 0} {does : Act → W → W → Type 0} {can : Bool} {doing : HookStep → H → H → Type 0} {failures : W → ℕ}
    {made : ℕ} {old new : Serving W} {hooks hooks₁ hooks' : H} {is_closed : Bool} (count : ℕ) (e : TurnsEnd)
    → HasMade does can doing failures made old new hooks hooks₁ is_closed → failures old.wire ≡ 0
    → ((turns : List Turn) → length turns ≡ made → are_closed turns ≡ is_closed → ServesTo can e count turns)
    → Chain doing (end_steps e) hooks₁ hooks'
    → ServeLeaves does can (λ steps. Chain doing steps hooks hooks') failures count old new (Ok e)
ends_so {W} {H} {does} {can} {doing} {failures} {made} {old} {new} {hooks} {hooks₁} {hooks'} count e h worked to last = record {
  serves = λ _ ear read.
      let s : Service = record { port = old.port; ear = ear } in
      let st = h.stands ear read in record {
        turns = st.turns;
        octets = st.octets;
        made = st.are_made;
        closes_last = st.closes_last;
        done = [];
        last = end_steps e;
        acted = subst (λ (l : List Act). Chain does l old.wire new.wire) (sym (append-nil (acts_of s st.turns))) st.acted;
        steps = chain_both doing (hook_steps s st.turns) (end_steps e) hooks hooks₁ hooks' st.steps last;
        ending = by_itself e refl (to st.turns st.count st.closed_is) refl refl st.port_is st.has_read;
      };
  hears = h.hears;
  works = h.works;
  device = tt;
  stays = λ failed. absurd (omega (arith, worked, failed));
}

pub breaks_so : {W H : Type 0} {does : Act → W → W → Type 0} {can : Bool} {doing : HookStep → H → H → Type 0}
    {failures : W → ℕ} {made : ℕ} {old new new' : Serving W} {hooks hooks₁ hooks₂ hooks₃ : H} (count : ℕ)
    (answer : Result TurnsEnd DriveFault) (f : DriveFault) → IsErr answer
    → HasMade does can doing failures made old new hooks hooks₁ false → failures old.wire ≡ 0
    → ((ear : ServerEar) → HasRead new.hearing ear new.reader
    → (done : List Act) × IsCutShort (record { port = new.port; ear = ear }) done new'.port new'.aired
    × Chain does done new.wire new'.wire)
    → doing (asked due.Listen) hooks₁ hooks₂ → new'.hearing ≡ new.hearing → failures new'.wire ≡ 1
    → doing (lent (record { port = new'.port; aired = new'.aired; turned = Err f })) hooks₂ hooks₃
    → ServeLeaves does can (λ steps. Chain doing steps hooks hooks₃) failures count old new' answer
breaks_so count (Ok e) f is h worked cut due same fails seen = absurd cc
breaks_so {W} {H} {does} {can} {doing} {failures} {made} {old} {new} {new'} {hooks} {hooks₁} {hooks₂} {hooks₃} count
    (Err Device) Device is h worked cut due same fails seen = record {
      serves = λ _ ear read.
          let s : Service = record { port = old.port; ear = ear } in
          let st = h.stands ear read in
          let b : Service = left_by s st.turns in
          let o = cut b.ear (rw h.hears st.has_read) in record {
            turns = st.turns;
            octets = st.octets;
            made = st.are_made;
            closes_last = st.closes_last;
            done = o.0;
            last = broken_steps new'.port new'.aired;
            acted = chain_both does (acts_of s st.turns) o.0 old.wire new.wire new'.wire st.acted o.2;
            steps = chain_both doing (hook_steps s st.turns) (broken_steps new'.port new'.aired) hooks hooks₁ hooks₃ st.steps
                (hooks₂, due, (hooks₃, seen, refl));
            ending = cut_short new'.aired refl st.closed_is
                (subst (λ (x : Service). IsCutShort x o.0 new'.port new'.aired) (same_service new.port b st.port_is) o.1) refl;
          };
      hears = same ∙ h.hears;
      works = tt;
      device = fails;
      stays = λ failed. absurd (omega (arith, worked, failed));
    }
