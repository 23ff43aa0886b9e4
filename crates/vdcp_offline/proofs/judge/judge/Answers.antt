use Rattle.std.proofs.Common.{◌≡◌, Bool, inr, rules, sym, true, ◌∙◌}
use Rattle.vdcp_list.specs.List.{items_of}
use Rattle.vdcp_offline.proofs.judge.judge.Goals as goal

is_found : (found shown : Bool) → found ≡ shown → found ≡ true → shown ≡ true
is_found found shown same is = sym same ∙ is

pub returns-in-Ok-clause-judged : goal.returns-in-Ok-clause-judged
returns-in-Ok-clause-judged g c =
    let settings = c.args.settings in
    let read = c.in_ok-read_capture.ensures.found settings _ c.new-found.ensures in
    let told = c.in_ok-told.ensures settings _ read.0 read.2 in
    record {
      items = items_of c.in_ok-events.events;
      is_playlist = c.in_ok-events.ensures.events;
      pieces = read.0;
      is_capture = read.1;
      some_message = is_found _ _ read.2.some_message (search rules);
      findings = told.0;
      are_findings = told.2;
      gained = rw (c.as_bytes.ensures.value, c.in_ok-text.ensures settings _ told.0 told.1) at c.in-Ok.ensures;
      forbidden_are = told.1.forbidden;
    }

pub returns-in-Ok-clause-silent : goal.returns-in-Ok-clause-silent
returns-in-Ok-clause-silent g c =
    let read = c.in_ok-read_capture.ensures.found c.args.settings _ c.new-found.ensures in
    inr ((items_of c.in_ok-events.events, c.in_ok-events.ensures.events), read.0, read.1)

pub returns-clause-silent : goal.returns-clause-silent
returns-clause-silent g c =
    let read = c.in_ok-read_capture.ensures.found c.args.settings _ c.new-found.ensures in
    inr ((items_of c.in_ok-events.events, c.in_ok-events.ensures.events), read.0, read.1)
