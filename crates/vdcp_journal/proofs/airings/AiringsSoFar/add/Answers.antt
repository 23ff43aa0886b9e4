use Rattle.std.proofs.Common.{◌+◌, ◌<◌, ◌^◌, [], ◌∷◌, ◌++◌, None, false, length, arith, ap, refl, subst, sym, ◌∙◌}
use Rattle.vdcp_auto.specs.Judging.{Knows}
use Rattle.vdcp_auto.specs.Settled.{settled}
use Rattle.vdcp_journal.proofs.AiringSteps.{airings_more, announces_more, asked_on, end_more, ended_in, ended_more, fits, played_on}
use Rattle.vdcp_journal.proofs.airings.AiringsSoFar.add.Goals as goal
use Rattle.vdcp_journal.specs.Airings.{IsLastPlayIf, announces_after, is_play_row}
use Rattle.vdcp_journal.specs.Resume.{ended_at, open_after}
use Rattle.vdcp_journal.specs.declared.row.Row.{Row}

pub returns : goal.returns
returns g c = λ mode rows found few.
    let law = c.a_log_grows.ensures in
    let old = c.args.self.now in
    let row : Row = c.args.row.now in
    let all = rows ++ row ∷ [] in
    let room : length (ended_in rows) + length (ended_at old.asked row.note []) < 2 ^ 64 =
    omega (arith, fits old.asked rows row.note, few) in
    let knows = subst (λ log. Knows g.S.Source.items log c.follow.new.judge)
    (ended_more rows row old.asked found.asked_is) (c.follow.ensures.knows (ended_in rows) room found.knows) in
    let mode_is = c.follow.ensures.mode ∙ found.mode_is in
    let count = c.settled-settled.ensures.settled (ended_in all) knows ∙ ap (λ m. settled m (ended_in all)) mode_is in
    record {
      mode_is = mode_is;
      knows = knows;
      asked_is = c.follow.ensures.asked ∙ ap (λ asked. open_after asked row.note) found.asked_is ∙ sym (asked_on None rows row);
      announced_is = c.announces_after-self.ensures ∙ ap (λ b. announces_after b row.note) found.announced_is
          ∙ sym (announces_more false rows row);
      played = subst (IsLastPlayIf all) (sym c.last_play-self.ensures)
          (played_on rows row (is_play_row row) old.played refl found.played);
      first_end_is = let end = c.end_in-end.ensures in let first = found.first_end_is in cc (end_more rows row);
      are = airings_more law.settled law.open mode rows row old.played old.airings.items c.note_end.new.airings.items
          c.add_airing.new.airings.items c.settled-settled.result found.are found.played
          (record { last = rw c.end_in-end.ensures at c.note_end.ensures.last; none = c.note_end.ensures.none }) count
          (record { same = c.in_ok-add_airing.ensures.same; more = rw c.end_in-end.ensures at c.in_ok-add_airing.ensures.more });
    }
