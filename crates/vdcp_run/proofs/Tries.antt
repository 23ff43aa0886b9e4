-- One try after another.
use Rattle.std.proofs.Common.{◌≡◌, ◌⊎◌, ◌∙◌, List, ℕ, ap, inl, inr, refl, subst, sym}
use Rattle.std.specs.declared.fs.File.{File as StdFile}
use Rattle.vdcp_journal_file.specs.Recording.{Recording}
use Rattle.vdcp_auto.specs.declared.list_call.ListCall.{ListCall}
use Rattle.vdcp_operator.specs.OnList.{list_by, sparing_each}
use Rattle.vdcp_operator.specs.declared.on_list.OnList.{OnList}
use Rattle.vdcp_run.specs.Asking.{Start}
use Rattle.std.specs.Prelude.{IfErr, IfOk, None, Option, Result, Ok, Err, Some, length}
use Rattle.vdcp_run.specs.Session.{HasSession}
use Rattle.vdcp_run.specs.Run.{CameTo, HasAsrun, HasRecorder, IsBegun, keeps_line, line_left, IsTried, IsTry, IsUntried, SaysOfList, first, later, later_after, later_by, occupied, unconnected, once_occupied_by, once_unsure_by, unsure_event}
use Rattle.vdcp_run.specs.declared.run_end.RunEnd.{RunEnd}
use Rattle.vdcp_run.specs.declared.settings.RunSettings.{RunSettings}
use Rattle.vdcp_run.specs.declared.settings.Staying.{Staying}
use Rattle.vdcp_text.specs.declared.failure.Failure.{Failure}
use Rattle.vdcp_text.specs.declared.failure.Failure.TheVariants as failures
use Rattle.vdcp_value.specs.declared.part.Item.{Item}
use Rattle.vdcp_wire.specs.Streams.{Streamed}

-- how a session ended over these items, which are those of its source
pub tried_so : {Stream : Type 0} (settings : RunSettings) (items of : List Item) (before : Option Streamed) (end : RunEnd) (left : Option Streamed)
    (start : Start) (recorder : Option (Recording StdFile)) → IsBegun settings items settings.journal start recorder
    → HasRecorder settings.unit settings.journal start.state recorder → (last : Option Streamed)
    → (calls : List ListCall) → SaysOfList settings items settings.journal calls → (heeded : OnList)
    → HasSession Stream (λ file. None) settings start (list_by (sparing_each settings.wanted calls) heeded) recorder before end last
    → left ≡ line_left (keeps_line settings (length of) end) last → of ≡ items → HasAsrun settings of end
    → IsTried Stream settings items before end left
tried_so settings items of before end left start recorder begun kept last calls said heeded session left_is same asrun = record {
  start = start;
  recorder = recorder;
  begun = begun;
  kept = kept;
  last = last;
  calls = calls;
  said = said;
  heeded = heeded;
  session = session;
  left_is = subst (λ (list : List Item). left ≡ line_left (keeps_line settings (length list) end) last) same left_is;
  asrun = subst (λ (list : List Item). HasAsrun settings list end) same asrun;
}

-- a session that nobody takes, or whose port isn't empty
pub untried_so : (settings : RunSettings) (items : List Item) (end : Result RunEnd Failure) (left : Option Streamed)
    → IfErr end (λ failure. (failure ≡ failures.Connect) ⊎ (failure ≡ failures.NotEmpty)) → IfErr end (λ failure. left ≡ None)
    → IfErr end (λ failure. IsUntried settings items failure × (left ≡ None))
untried_so settings items (Ok end) left refused none = tt
untried_so settings items (Err failure) left (inl e) none = (unconnected e, none)
untried_so settings items (Err failure) left (inr e) none = (occupied e, none)

-- what a try came to, whether it has an end or not
pub came_so : (Stream : Type 0) (settings : RunSettings) (items : List Item) (before : Option Streamed) (end : Result RunEnd Failure)
    (left : Option Streamed) → IfOk end (λ e. IsTried Stream settings items before e left)
    → IfErr end (λ failure. IsUntried settings items failure × (left ≡ None)) → CameTo Stream settings items before end left
came_so Stream settings items before (Ok end) left tried untried = tried
came_so Stream settings items before (Err failure) left tried untried = untried

-- a run that doesn't stay

no_later : (settings : RunSettings) (count : ℕ) (end : Result RunEnd Failure) → settings.stay ≡ None
    → later_after settings count end ≡ None
no_later settings count (Ok end) alone = ap (λ (stay : Option Staying). later_by settings count stay settings.journal end) alone
no_later settings count (Err failures.NotEmpty) alone =
    ap (λ (stay : Option Staying). once_occupied_by settings stay settings.journal) alone
no_later settings count (Err failure) alone =
    ap (λ (stay : Option Staying). once_unsure_by settings count stay (unsure_event failure)) alone

pub one_try : {Stream : Type 0} (settings : RunSettings) (items : List Item) (last : RunSettings) (wire : Option Streamed) → settings.stay ≡ None
    → IsTry Stream settings items last wire → last ≡ settings
one_try settings items _ _ alone first = refl
one_try settings items _ _ alone (later {before} {next} {wire} tries end came e) =
    let same : before ≡ settings = one_try settings items before wire alone tries in
    let none = no_later before (length items) end (ap (λ (s : RunSettings). s.stay) same ∙ alone) in
    let wrong : Some next ≡ None = sym e ∙ none in cc
