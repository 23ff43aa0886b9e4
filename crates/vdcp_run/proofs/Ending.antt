-- How a run ends over all its tries.
use Rattle.std.proofs.Common.{◌≡◌, ℕ, List, refl, subst, sym}
use Rattle.std.specs.Prelude.{IfOk, IfSome, None, Option, Result, Ok, Err, Some, length}
use Rattle.vdcp_drive.specs.declared.hearing.Hearing.{Hearing}
use Rattle.vdcp_drive.specs.declared.hearing.Hearing.TheVariants as hears
use Rattle.vdcp_drive.specs.Ears.{Fold}
use Rattle.vdcp_drive.specs.Steps.{World}
use Rattle.vdcp_journal_file.specs.Recording.{Recording}
use Rattle.vdcp_operator.specs.declared.on_list.OnList.{OnList}
use Rattle.vdcp_run.specs.Asking.{Start}
use Rattle.vdcp_run.specs.Run.{CameTo, IsAsrunMade, IsEarlier, IsEnd, IsEndWith, IsTry, later_after, latest_end, name_of}
use Rattle.vdcp_run.specs.Session.{HasEnded, HasSession, Onset, TriesBy, had_ended, played, tried, unbegun, unwired}
use Rattle.vdcp_run.specs.declared.run_end.RunEnd.{RunEnd}
use Rattle.vdcp_run.specs.declared.saved.SavedText.{SavedText}
use Rattle.vdcp_run.specs.declared.settings.RunJournal.{RunJournal}
use Rattle.vdcp_run.specs.declared.settings.RunJournal.TheVariants as journals
use Rattle.vdcp_run.specs.declared.settings.RunSettings.{RunSettings}
use Rattle.vdcp_text.specs.declared.failure.Failure.{Failure}
use Rattle.vdcp_value.specs.declared.part.Item.{Item}
use Rattle.vdcp_wire.specs.Acts.{Act}
use Rattle.vdcp_wire.specs.Streams.{Streamed}

-- a session's end is of no later try
tried_unfailed : {E W F : Type 0} (does : Act → W → W → Type 0) (safe : F → Option (List ℕ)) (fold : Fold E)
    (settings : RunSettings) (x : Onset E W F) (last : W) (end : RunEnd) → HasEnded does safe fold settings x last end
    → end.failed ≡ None
tried_unfailed does safe fold settings x last end (played is_held ear wire left signs first plays) = plays.reports.unfailed
tried_unfailed does safe fold settings x last end (unbegun is_held ear left signs line first is reports) = reports.unfailed

tries_unfailed : {W F : Type 0} (hearing : Hearing) (does : Act → W → W → Type 0) (safe : F → Option (List ℕ))
    (settings : RunSettings) (start : Start) (list : OnList) (world : World W (Option (Recording F))) (last : W) (end : RunEnd)
    → TriesBy hearing does safe settings start list world last end → end.failed ≡ None
tries_unfailed hears.AtSilences does safe settings start list world last end h =
    tried_unfailed does safe _ settings h.onset last end h.ended
tries_unfailed hears.AtOnce does safe settings start list world last end h =
    tried_unfailed does safe _ settings h.onset last end h.ended

unfailed : {Stream F : Type 0} (safe : F → Option (List ℕ)) (settings : RunSettings) (start : Start) (list : OnList)
    (recorder : Option (Recording F)) (before : Option Streamed) (end : RunEnd) (last : Option Streamed)
    → HasSession Stream safe settings start list recorder before end last → end.failed ≡ None
unfailed safe settings start list recorder before end _ (had_ended ended line reports) = reports.unfailed
unfailed safe settings start list recorder before end _ (unwired line is so reports) = reports.unfailed
unfailed safe settings start list recorder before end _ (tried wire last is tries) =
    tries_unfailed settings.hearing _ safe settings start list _ last end tries

module _ {Stream : Type 0} (settings last : RunSettings) (items : List Item) (wire left : Option Streamed)
    (tries : IsTry Stream settings items last wire) where
  pub last_ends : (end : Result RunEnd Failure) → CameTo Stream last items wire end left
      → later_after last (length items) end ≡ None → IfOk end (IsEnd Stream settings items)
  last_ends (Ok end) came over =
      subst (λ (failed : Option Failure). IsEndWith Stream settings items failed end)
      (sym (unfailed _ last came.start _ came.recorder wire end came.last came.session)) (record {
        last = last;
        ends = record { wire = wire; tries = tries; left = left; tried = came };
        over = over;
      })
  last_ends (Err failure) came over = tt

  pub latest_is : (end : Result RunEnd Failure) (earlier : Option RunEnd) → CameTo Stream last items wire end left
      → IfSome earlier (IsEarlier Stream settings items)
      → IfSome (latest_end end earlier) (IsEarlier Stream settings items)
  latest_is (Ok end) earlier came before = (last, record { wire = wire; tries = tries; left = left; tried = came })
  latest_is (Err failure) earlier came before = before

  pub came_to_nothing : (failure : Failure) (before : RunEnd) (asrun : Option (Result SavedText Failure))
      → CameTo Stream last items wire (Err failure) left → later_after last (length items) (Err failure) ≡ None
      → IsEarlier Stream settings items before
      → IfSome last.journal (λ journal. (from reported : ℕ)
      → IsAsrunMade last.rate (Some (journals.Again (name_of journal))) items from reported last.asrun asrun)
      → IsEnd Stream settings items (record before { asrun = asrun; failed = Some failure })
  came_to_nothing failure before asrun came over earlier made = record {
    last = last;
    wire = wire;
    tries = tries;
    untried = came.0;
    over = over;
    before = before;
    earlier = earlier;
    end_is = refl;
    asrun = made_so last.journal made;
  } where
    made_so : (journal : Option RunJournal) → IfSome journal (λ j. (from reported : ℕ)
        → IsAsrunMade last.rate (Some (journals.Again (name_of j))) items from reported last.asrun asrun)
        → IfSome journal (λ j. IsAsrunMade last.rate (Some (journals.Again (name_of j))) items before.from before.reported last.asrun asrun)
    made_so None h = h
    made_so (Some j) h = h before.from before.reported
