use Rattle.std.proofs.Common.{◌≡◌, ◌∙◌, Bor, List, ℕ, ap, refl, subst, sym}
use Rattle.std.specs.Prelude.{length, None, Option, Result, Some}
use Rattle.vdcp_run.proofs.run_end.ended.Goals as goal
use Rattle.vdcp_run.specs.Run.{HasAsrun, IsAsrunMade, later_by, later_of, wanted_after, wanted_unless}
use Rattle.vdcp_run.specs.declared.run_end.RunEnd.{RunEnd}
use Rattle.vdcp_run.specs.declared.saved.SavedText.{SavedText}
use Rattle.vdcp_run.specs.declared.settings.RunJournal.{RunJournal}
use Rattle.vdcp_run.specs.declared.settings.RunJournal.TheVariants as journals
use Rattle.vdcp_run.specs.declared.settings.RunSettings.{RunSettings}
use Rattle.vdcp_run.specs.declared.settings.Staying.{Staying}
use Rattle.vdcp_text.specs.declared.failure.Failure.{Failure}
use Rattle.vdcp_value.specs.declared.part.Item.{Item}

-- whether a run tries again doesn't hang on its as-run file
later_so : (settings : RunSettings) (count : ℕ) (stay : Option Staying) (journal : Option RunJournal) (end : RunEnd)
    (asrun : Option (Result SavedText Failure))
    → later_by settings count stay journal (record end { asrun = asrun }) ≡ later_by settings count stay journal end
later_so settings count None journal end asrun = refl
later_so settings count (Some stay) None end asrun = refl
later_so settings count (Some stay) (Some (journals.New name)) end asrun = refl
later_so settings count (Some stay) (Some (journals.Older name)) end asrun = refl
later_so settings count (Some stay) (Some (journals.Again name)) end asrun = refl
later_so settings count (Some stay) (Some (journals.Left name)) end asrun = refl

-- a run that doesn't try again has its as-run file
made_so : (settings : RunSettings) (items : List Item) (end : RunEnd) (asrun : Option (Result SavedText Failure))
    (from reported : ℕ) → end.from ≡ from → end.reported ≡ reported → later_of settings (length items) end ≡ None
    → IsAsrunMade settings.rate settings.journal items from reported (wanted_after end.line settings.asrun) asrun
    → HasAsrun settings items (record end { asrun = asrun })
made_so settings items end asrun from reported from_is reported_is over made =
    let wanted : Option (Bor (List ℕ)) = wanted_after end.line settings.asrun in
    subst (λ (later : Option RunSettings). IsAsrunMade settings.rate settings.journal items end.from end.reported
    (wanted_unless later wanted) asrun) (sym (later_so settings (length items) settings.stay settings.journal end asrun ∙ over))
    (subst (λ (n : ℕ). IsAsrunMade settings.rate settings.journal items n end.reported wanted asrun) (sym from_is)
    (subst (λ (n : ℕ). IsAsrunMade settings.rate settings.journal items from n wanted asrun) (sym reported_is) made))

pub returns-clause-asrun : goal.returns-clause-asrun
returns-clause-asrun g c =
    let end : RunEnd = record {
      from = c.from-from.result;
      outcome = c.outcome_in_list.result;
      reported = c.reported_in_list.result;
      line = c.args.line;
      signs = c.args.signs;
      missing = c.missing_clip.result;
      asrun = None;
      unkept = c.args.unkept;
      left = c.args.left;
      failed = None;
    } in
    let count = c.len.ensures ∙ ap (λ r. length (g.S.Source.items r)) (c.whole.ensures ∙ ap (λ v. v.source) c.source-3.ensures) in
    let over = subst (λ n. later_of c.args.settings n end ≡ None) count (sym c.later_of.ensures.later ∙ c.in-None.is) in
    made_so c.args.settings (g.S.Source.items c.args.controller.now.source.source) end c.save_asrun.result _ _
    (c.from-from.ensures.from ∙ ap (λ v. v.from) c.source.ensures) c.reported_in_list.ensures over c.save_asrun.ensures
