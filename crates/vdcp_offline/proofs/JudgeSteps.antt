-- What is found and told of a capture, piece by piece.
use Rattle.std.proofs.Common.{◌≡◌, ℕ, suc, ◌+◌, ◌<◌, ◌^◌, Bool, true, false, cond, List, [], ◌∷◌, ◌++◌, append_assoc, append-nil, get_or, length, refl, sym, ap, subst, take, Global, ◌∙◌, arith}
use Rattle.std.proofs.lemmas.Grind.{flat_map-append}
use Rattle.std.proofs.lemmas.List.{length-append, map-append, take_more}
use Rattle.std.proofs.lemmas.List.Folds.{list_any-append}
use Rattle.std.proofs.lemmas.List.Sums.{count_by-le-length, sum_by-append, sum_by_push}
use Rattle.std.specs.Option.{option_to_list}
use Rattle.std.specs.Prelude.{⊤, None, Option, Some, String, if◌then◌else◌, map, string_bytes, ◌||◌}
use Rattle.std.specs.Str.Lines.{lines}
use Rattle.vdcp_auto.specs.Settled.{settled, settles}
use Rattle.vdcp_auto.specs.Turn.{is_end}
use Rattle.vdcp_auto.specs.declared.exchange.Exchange.{Exchange}
use Rattle.vdcp_auto.specs.declared.exchange.Heard.{Heard}
use Rattle.vdcp_auto.specs.declared.phase.Mode.{Mode}
use Rattle.vdcp_files.specs.Lines.{TakesLine}
use Rattle.vdcp_auto.specs.Captures.{awaited_after, ended_at, exchanges_from, exchanges_in}
use Rattle.vdcp_auto.specs.Judging.{Knows}
use Rattle.vdcp_auto.specs.Rulings.{IsRuling}
use Rattle.vdcp_auto.specs.declared.capture.Captured.{Captured}
use Rattle.vdcp_auto.specs.declared.capture.Captured.TheVariants.{Sent, Came, Silence}
use Rattle.vdcp_offline.specs.Findings.{AreFindings, AreRuled, captured_of, command_lines, event_line, events_text, exchanges_of, forbidden_in, forbidden_line, forbidden_text, has_message, is_forbidden, is_message, line_of_command, one_more_finding, reported_in}
use Rattle.vdcp_offline.specs.Found.{AreMore, ShowFindings, Tells, awaited_lines, last_exchange, line_after, line_of_last}
use Rattle.vdcp_offline.specs.Rows.{IsCapture, IsCaptureOf, SayAll, Says, numbered}
use Rattle.vdcp_offline.specs.declared.judge.capture.Piece.{Piece}
use Rattle.vdcp_offline.specs.declared.judge.findings.Finding.{Finding}
use Rattle.vdcp_offline.specs.declared.judge.settings.JudgeSettings.{JudgeSettings}
use Rattle.vdcp_offline.specs.declared.judge.told.Told.{Told}
use Rattle.vdcp_value.specs.declared.part.Item.{Item}
use Rattle.vdcp_value.specs.declared.rate.Rate.{Rate}
use Rattle.vdcp_words.specs.declared.command.Command.{Command}

-- ---- what is told

abbrev SettledGrows : Type 0
SettledGrows = (mode : Mode) (log : List Exchange) (e : Exchange) → settled mode (log ++ e ∷ [])
    ≡ (if settles mode log e then settled mode log + 1 else settled mode log)

exchanges_push : (findings : List Finding) (f : Finding)
    → exchanges_of (findings ++ f ∷ []) ≡ exchanges_of findings ++ f.exchange ∷ []
exchanges_push findings f = map-append (λ (g : Finding). g.exchange) findings (f ∷ [])

one_if : (n : ℕ) (b : Bool) → n + cond b 1 0 ≡ (if b then n + 1 else n)
one_if n true = omega arith
one_if n false = omega arith

reported_push : (findings : List Finding) (f : Finding)
    → reported_in (findings ++ f ∷ []) ≡ (if f.ruling.settles then reported_in findings + 1 else reported_in findings)
reported_push findings f =
    sum_by_push (λ (g : Finding). cond {A = ℕ} g.ruling.settles 1 0) findings f
    ∙ one_if (reported_in findings) f.ruling.settles

forbidden_push : (findings : List Finding) (f : Finding)
    → forbidden_in (findings ++ f ∷ []) ≡ (if is_forbidden f then forbidden_in findings + 1 else forbidden_in findings)
forbidden_push findings f =
    sum_by_push (λ (g : Finding). cond {A = ℕ} (is_forbidden g) 1 0) findings f
    ∙ one_if (forbidden_in findings) (is_forbidden f)

forbidden_text_push : (findings : List Finding) (f : Finding) → forbidden_text (findings ++ f ∷ [])
    ≡ forbidden_text findings ++ (if is_forbidden f then forbidden_line f else [])
forbidden_text_push findings f =
    flat_map-append (λ (g : Finding). if is_forbidden g then forbidden_line g else []) findings (f ∷ [])
    ∙ ap (λ l. forbidden_text findings ++ l) (append-nil (if is_forbidden f then forbidden_line f else []))

reported_first : (g : Finding) (findings : List Finding)
    → reported_in (g ∷ findings) ≡ cond g.ruling.settles 1 0 + reported_in findings
reported_first g findings =
    sum_by-append (λ (q : Finding). cond {A = ℕ} q.ruling.settles 1 0) (g ∷ []) findings
    ∙ ap (λ n. n + reported_in findings) (zero_more (cond g.ruling.settles 1 0))
  where
    zero_more : (n : ℕ) → 0 + n ≡ n
    zero_more n = omega arith

abbrev text_if : Rate → List Item → ℕ → Finding → List ℕ
text_if rate items k f = if f.ruling.settles then event_line rate items k f else []

events_last : (rate : Rate) (items : List Item) (k : ℕ) (f : Finding) (b : Bool)
    → (if b then event_line rate items k f ++ [] else []) ≡ (if b then event_line rate items (k + 0) f else [])
events_last rate items k f true =
    let same : k ≡ k + 0 = omega arith in
    append-nil (event_line rate items k f) ∙ ap (λ n. event_line rate items n f) same
events_last rate items k f false = refl

events_next : (rate : Rate) (items : List Item) (k : ℕ) (f g : Finding) (findings : List Finding) (b : Bool)
    → ((n : ℕ) → events_text rate items n (findings ++ f ∷ [])
    ≡ events_text rate items n findings ++ text_if rate items (n + reported_in findings) f)
    → (if b then event_line rate items k g ++ events_text rate items (suc k) (findings ++ f ∷ [])
    else events_text rate items k (findings ++ f ∷ []))
    ≡ (if b then event_line rate items k g ++ events_text rate items (suc k) findings else events_text rate items k findings)
    ++ text_if rate items (k + (cond b 1 0 + reported_in findings)) f
events_next rate items k f g findings true more =
    let line = event_line rate items k g in
    let rest = events_text rate items (suc k) findings in
    let same : suc k + reported_in findings ≡ k + (1 + reported_in findings) = omega arith in
    ap (λ l. line ++ l) (more (suc k)) ∙ sym (append_assoc line rest (text_if rate items (suc k + reported_in findings) f))
    ∙ ap (λ n. (line ++ rest) ++ text_if rate items n f) same
events_next rate items k f g findings false more =
    let same : k + reported_in findings ≡ k + (0 + reported_in findings) = omega arith in
    more k ∙ ap (λ n. events_text rate items k findings ++ text_if rate items n f) same

events_push : (rate : Rate) (items : List Item) (f : Finding) (findings : List Finding) (k : ℕ)
    → events_text rate items k (findings ++ f ∷ [])
    ≡ events_text rate items k findings ++ text_if rate items (k + reported_in findings) f
events_push rate items f [] k = events_last rate items k f f.ruling.settles
events_push rate items f (g ∷ findings) k =
    events_next rate items k f g findings g.ruling.settles (events_push rate items f findings)
    ∙ ap (λ n. events_text rate items k (g ∷ findings) ++ text_if rate items (k + n) f) (sym (reported_first g findings))

module _ {S : Type 0} (items_of : S → List Item) where
  pub tells_more : SettledGrows → (settings : JudgeSettings) (items : List Item) (findings : List Finding) (f : Finding)
      (old new : Told S) → Tells items_of settings items findings old
      → IsRuling old.judge.mode (items_of old.judge.source.now) (exchanges_of findings) f.exchange f.ruling
      → new.settings ≡ old.settings → new.events ≡ old.events → new.exchanges ≡ old.exchanges + 1
      → old.exchanges + 1 < 2 ^ 64
      → (old.forbidden + 1 < 2 ^ 64 → new.forbidden ≡ (if is_forbidden f then old.forbidden + 1 else old.forbidden))
      → string_bytes new.forbidden_text
      ≡ string_bytes old.forbidden_text ++ (if is_forbidden f then forbidden_line f else [])
      → string_bytes new.reported_text ≡ string_bytes old.reported_text
      ++ text_if old.settings.rate (items_of old.events.now) old.judge.settled f
      → new.judge.source ≡ old.judge.source → new.judge.mode ≡ old.judge.mode
      → ((log : List Exchange) → length log + 1 < 2 ^ 64 → Knows (λ source. items_of source.now) log old.judge
      → Knows (λ source. items_of source.now) (log ++ f.exchange ∷ []) new.judge)
      → Tells items_of settings items (findings ++ f ∷ []) new
  tells_more law settings items findings f old new tells ruling settings_are events_are exchanges few_exchanges forbidden
      forbidden_is reported_is source mode knows =
      let m = settings.mode in
      let log = exchanges_of findings in
      let count_few : old.forbidden + 1 < 2 ^ 64 = omega (arith, tells.forbidden, count_by-le-length is_forbidden findings, tells.exchanges, few_exchanges) in
      let is_ruled : IsRuling m items log f.exchange f.ruling =
      subst (λ l. IsRuling m l log f.exchange f.ruling) tells.source_is
      (subst (λ x. IsRuling x (items_of old.judge.source.now) log f.exchange f.ruling) tells.mode_is ruling) in
      let log_few : length log + 1 < 2 ^ 64 =
      omega (arith, length_map findings, tells.exchanges, few_exchanges) in
      let settled_is : old.judge.settled ≡ reported_in findings =
      tells.knows.settled ∙ ap (λ x. settled x log) tells.mode_is ∙ sym tells.count in
      record {
        settings_are = settings_are ∙ tells.settings_are;
        events_are = ap (λ e. items_of e.now) events_are ∙ tells.events_are;
        source_is = ap (λ s. items_of s.now) source ∙ tells.source_is;
        mode_is = mode ∙ tells.mode_is;
        knows = subst (λ l. Knows (λ source. items_of source.now) l new.judge) (sym (exchanges_push findings f))
            (knows log log_few tells.knows);
        ruled = one_more_finding findings f tells.ruled is_ruled;
        count = reported_push findings f
            ∙ ap (λ b. if b then reported_in findings + 1 else reported_in findings) is_ruled.settles
            ∙ ap (λ n. if settles m log f.exchange then n + 1 else n) tells.count
            ∙ sym (law m log f.exchange) ∙ ap (settled m) (sym (exchanges_push findings f));
        exchanges = exchanges ∙ ap (λ n. n + 1) tells.exchanges ∙ sym (length-append findings (f ∷ []));
        forbidden = forbidden count_few ∙ ap (λ n. if is_forbidden f then n + 1 else n) tells.forbidden
            ∙ sym (forbidden_push findings f);
        forbidden_text_is = forbidden_is
            ∙ ap (λ l. l ++ (if is_forbidden f then forbidden_line f else [])) tells.forbidden_text_is
            ∙ sym (forbidden_text_push findings f);
        reported_text_is = reported_is
            ∙ ap (λ l. l ++ text_if old.settings.rate (items_of old.events.now) old.judge.settled f) tells.reported_text_is
            ∙ ap (λ (s : JudgeSettings). events_text settings.rate items 0 findings
            ++ text_if s.rate (items_of old.events.now) old.judge.settled f) tells.settings_are
            ∙ ap (λ l. events_text settings.rate items 0 findings ++ text_if settings.rate l old.judge.settled f)
            tells.events_are
            ∙ ap (λ n. events_text settings.rate items 0 findings ++ text_if settings.rate items n f)
            (settled_is ∙ zero_more (reported_in findings))
            ∙ sym (events_push settings.rate items f findings 0);
      }
    where
      length_map : (xs : List Finding) → length (exchanges_of xs) ≡ length xs
      length_map [] = refl
      length_map (x ∷ xs) = ap suc (length_map xs)

      zero_more : (n : ℕ) → n ≡ 0 + n
      zero_more n = omega arith

-- ---- what is found

abbrev result_lines : Option Exchange → ℕ → List ℕ
result_lines None number = []
result_lines (Some e) number = number ∷ []

lines_at_end : (c : Command) (h : Heard) (number : ℕ) (b : Bool) → awaited_lines (Some c) number ++ []
    ≡ result_lines (if b then Some (record { command = c; heard = Some h }) else None) number
    ++ awaited_lines (if b then None else Some c) number
lines_at_end c h number true = refl
lines_at_end c h number false = refl

lines_of : (mode : Mode) (asked : Option Command) (c : Captured) (number line : ℕ)
    → awaited_lines asked number ++ line_of_command c line ≡ result_lines (ended_at mode asked c) number
    ++ awaited_lines (awaited_after mode asked c) (line_of_last number line c)
lines_of mode None (Sent c) number line = refl
lines_of mode None (Came h) number line = refl
lines_of mode None Silence number line = refl
lines_of mode (Some a) (Sent c) number line = refl
lines_of mode (Some a) (Came h) number line = lines_at_end a h number (is_end mode a (Some h))
lines_of mode (Some a) Silence number line = refl

-- a piece ends this exchange, and then this command is awaited
abbrev pub Ends : Mode → Option Command → Captured → Option Exchange → Option Command → Type 0
Ends mode asked c result after = (result ≡ ended_at mode asked c) × (after ≡ awaited_after mode asked c)
    × ((more : List Captured)
    → exchanges_from mode asked (c ∷ more) ≡ option_to_list result ++ exchanges_from mode after more)

lines_push : (pieces : List Piece) (p : Piece)
    → command_lines (pieces ++ p ∷ []) ≡ command_lines pieces ++ line_of_command p.captured p.line
lines_push pieces p =
    flat_map-append (λ (q : Piece). line_of_command q.captured q.line) pieces (p ∷ [])
    ∙ ap (λ l. command_lines pieces ++ l) (append-nil (line_of_command p.captured p.line))

more_exchanges : (findings more : List Finding) (number : ℕ) (result : Option Exchange)
    → AreMore findings number result more → exchanges_of more ≡ exchanges_of findings ++ option_to_list result
more_exchanges findings more number None are = ap exchanges_of are ∙ sym (append-nil (exchanges_of findings))
more_exchanges findings more number (Some e) (f, line, is, are) =
    ap exchanges_of are ∙ exchanges_push findings f ∙ ap (λ x. exchanges_of findings ++ x ∷ []) is

abbrev finding_lines : List Finding → List ℕ
finding_lines findings = map (λ (f : Finding). f.line) findings

more_finding_lines : (findings more : List Finding) (number : ℕ) (result : Option Exchange)
    → AreMore findings number result more → finding_lines more ≡ finding_lines findings ++ result_lines result number
more_finding_lines findings more number None are = ap finding_lines are ∙ sym (append-nil (finding_lines findings))
more_finding_lines findings more number (Some e) (f, line, is, are) =
    ap finding_lines are ∙ map-append (λ (g : Finding). g.line) findings (f ∷ [])
    ∙ ap (λ n. finding_lines findings ++ n ∷ []) line

pub shows_more : (mode : Mode) (pieces : List Piece) (p : Piece) (findings more : List Finding)
    (asked after : Option Command) (result : Option Exchange) (number : ℕ)
    → ShowFindings mode pieces findings asked number → Ends mode asked p.captured result after
    → AreMore findings number result more
    → ShowFindings mode (pieces ++ p ∷ []) more after (line_after number p)
shows_more mode pieces p findings more asked after result number shows ends are = record {
  log = λ rest.
      ap (λ l. exchanges_in mode (l ++ rest)) (map-append (λ (q : Piece). q.captured) pieces (p ∷ []))
      ∙ ap (exchanges_in mode) (append_assoc (captured_of pieces) (p.captured ∷ []) rest)
      ∙ shows.log (p.captured ∷ rest) ∙ ap (λ l. exchanges_of findings ++ l) (ends.2 rest)
      ∙ sym (append_assoc (exchanges_of findings) (option_to_list result) (exchanges_from mode after rest))
      ∙ ap (λ l. l ++ exchanges_from mode after rest) (sym (more_exchanges findings more number result are));
  lines =
      lines_push pieces p ∙ ap (λ l. l ++ line_of_command p.captured p.line) shows.lines
      ∙ append_assoc (finding_lines findings) (awaited_lines asked number) (line_of_command p.captured p.line)
      ∙ ap (λ l. finding_lines findings ++ l) (rw (ends.0, ends.1) (lines_of mode asked p.captured number p.line))
      ∙ sym (append_assoc (finding_lines findings) (result_lines result number) (awaited_lines after (line_after number p)))
      ∙ ap (λ l. l ++ awaited_lines after (line_after number p)) (sym (more_finding_lines findings more number result are));
}

pub message_more : (pieces : List Piece) (p : Piece)
    → has_message (pieces ++ p ∷ []) ≡ (has_message pieces || is_message p.captured)
message_more pieces p =
    list_any-append (λ (q : Piece). is_message q.captured) pieces (p ∷ [])
    ∙ ap (λ b. has_message pieces || b) (or_false (is_message p.captured))
  where
    or_false : (b : Bool) → (b || false) ≡ b
    or_false true = refl
    or_false false = refl

last_left : (mode : Mode) (asked : Option Command) → exchanges_from mode asked [] ≡ option_to_list (last_exchange asked)
last_left mode None = refl
last_left mode (Some c) = refl

last_lines : (asked : Option Command) (number : ℕ)
    → awaited_lines asked number ≡ result_lines (last_exchange asked) number
last_lines None number = refl
last_lines (Some c) number = refl

pub are_findings : (settings : JudgeSettings) (items : List Item) (pieces : List Piece) (findings more : List Finding)
    (asked : Option Command) (number : ℕ) → ShowFindings settings.mode pieces findings asked number
    → AreMore findings number (last_exchange asked) more → AreRuled settings.mode items more
    → reported_in more ≡ settled settings.mode (exchanges_of more)
    → AreFindings settings.mode items pieces more
are_findings settings items pieces findings more asked number shows are ruled count =
    let mode = settings.mode in
    record {
      lines =
          more_finding_lines findings more number (last_exchange asked) are
          ∙ ap (λ l. finding_lines findings ++ l) (sym (last_lines asked number)) ∙ sym shows.lines;
      log =
          more_exchanges findings more number (last_exchange asked) are
          ∙ ap (λ l. exchanges_of findings ++ l) (sym (last_left mode asked)) ∙ sym (shows.log [])
          ∙ ap (exchanges_in mode) (append-nil (captured_of pieces));
      ruled = ruled;
      count = count;
    }

-- ---- lines

pub numbered_more : (pieces : List Piece) (number : ℕ) (said : List Captured) (k : ℕ) (x : Captured)
    → x ≡ get_or said k x → k < length said → (pieces ++ numbered number (take k said))
    ++ record { line = number; captured = x } ∷ [] ≡ pieces ++ numbered number (take (k + 1) said)
numbered_more pieces number said k x is below =
    let more : take (k + 1) said ≡ take k said ++ x ∷ [] = take_more said k x below
    ∙ ap (λ y. take k said ++ y ∷ []) (sym is) in
    append_assoc pieces (numbered number (take k said)) (record { line = number; captured = x } ∷ [])
    ∙ ap (λ l. pieces ++ l) (sym (map-append {A = Captured} (λ c. record { line = number; captured = c }) (take k said) (x ∷ [])))
    ∙ ap (λ l. pieces ++ numbered number l) (sym more)

-- the pieces are those of a text up to what is left of it, whose first line has this number; of a text that isn't known it
-- says nothing
abbrev pub AreUpTo : ℕ → Option (List ℕ) → Option (List ℕ) → ℕ → List Piece → Type 0
AreUpTo unit None left number pieces = ⊤
AreUpTo unit (Some text) left number pieces = (rest : List ℕ) × (left ≡ Some rest)
    × ((more : List Piece) → SayAll unit number (lines rest) more → IsCapture unit text (pieces ++ more))

pub none_read : (unit : ℕ) (all left : Option (List ℕ)) → left ≡ all → AreUpTo unit all left 1 []
none_read unit None left same = tt
none_read unit (Some text) left same = (text, same, λ more says. says)

-- what the next line says follows
pub one_line_more : (unit : ℕ) (all left left' : Option (List ℕ)) (number : ℕ) (pieces : List Piece) (line : String Global)
    (said : List Captured) → AreUpTo unit all left number pieces → TakesLine left left' (Some line)
    → Says unit (string_bytes line) said → AreUpTo unit all left' (number + 1) (pieces ++ numbered number said)
one_line_more unit None left left' number pieces line said are takes says = tt
one_line_more unit (Some text) left left' number pieces line said are takes says =
    let taken = subst (λ o. TakesLine o left' (Some line)) are.1 takes in (
      taken.0,
      taken.1,
      λ more rest. subst (IsCapture unit text) (sym (append_assoc pieces (numbered number said) more))
          (are.2 (numbered number said ++ more)
          (subst (λ l. SayAll unit number l (numbered number said ++ more)) (sym taken.2) (said, more, says, rest, refl))),
    )

-- all lines were read
pub is_capture : (unit : ℕ) (all left left' : Option (List ℕ)) (number : ℕ) (pieces : List Piece)
    → AreUpTo unit all left number pieces → TakesLine {A = Global} left left' None → IsCaptureOf unit all pieces
is_capture unit None left left' number pieces are none = tt
is_capture unit (Some text) left left' number pieces are none =
    let ended = subst (λ o. TakesLine {A = Global} o left' None) are.1 none in
    subst (IsCapture unit text) (append-nil pieces)
    (are.2 [] (subst (λ l. SayAll unit number l []) (sym ended) refl))
