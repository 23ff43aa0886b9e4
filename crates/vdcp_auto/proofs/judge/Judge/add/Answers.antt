use Rattle.std.proofs.Common.{Bool, ◌||◌, ap, ◌∙◌, [], ◌∷◌, ◌++◌}
use Rattle.vdcp_auto.specs.Log.{is_stop, is_close, is_grant}
use Rattle.vdcp_auto.proofs.Judged.{airing_after, any_after, knows_after, settled_after}
use Rattle.vdcp_auto.proofs.judge.Judge.add.Goals as goal

pub returns-clause-knows : goal.returns-clause-knows
returns-clause-knows g c log few knows =
    let e = c.args.exchange.now in
    let old = c.args.self.now in
    let view_is = c.self.view_is in
    let which = c.settles-has_settled.ensures log knows in
    knows_after g.S.Source.items (log ++ e ∷ []) old _ (ap (λ v. v.source) view_is) (ap (λ v. v.mode) view_is)
    (settled_after c.a_log_grows.ensures.settled old.mode log e old.settled c.settled_after-settled.result
    c.settles-has_settled.result knows.settled which few c.settled_after-settled.ensures)
    (c.has_open_play_after-has_open_play.ensures log knows)
    (airing_after c.a_log_grows.ensures.airing old.mode log e old.may_have_aired
    c.may_have_aired_after-may_have_aired.result c.settles-has_settled.result knows.airing which
    c.may_have_aired_after-may_have_aired.ensures)
    (ap (λ (b : Bool). c.self.inside.stopped || b) c.is_stop.ensures
    ∙ any_after is_stop log e c.self.inside.stopped (ap (λ v. v.stopped) view_is ∙ knows.stopped))
    (ap (λ (b : Bool). c.self.inside.closed || b) c.is_close.ensures
    ∙ any_after is_close log e c.self.inside.closed (ap (λ v. v.closed) view_is ∙ knows.closed))
    (ap (λ (b : Bool). c.self.inside.granted || b) c.is_grant.ensures
    ∙ any_after is_grant log e c.self.inside.granted (ap (λ v. v.granted) view_is ∙ knows.granted))
    (c.cue_after-last_cue.ensures.stands log knows which)
    (c.cue_after-last_cue.ensures.done log knows which)
