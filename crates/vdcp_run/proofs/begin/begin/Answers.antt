use Rattle.std.proofs.Common.{None, refl, subst, sym}
use Rattle.vdcp_run.proofs.Begun.{begun_new}
use Rattle.vdcp_run.proofs.begin.begin.Goals as goal
use Rattle.vdcp_run.specs.Run.{BeginsBy, new_controller}
use Rattle.vdcp_run.specs.Asking.{start_of}

pub returns-in-None-clause-begun : goal.returns-in-None-clause-begun
returns-in-None-clause-begun g c =
    let settings = c.args.settings in
    let items = g.S.Source.items c.args.source.now in
    let start = start_of (λ s. g.S.Source.items s.now) (new_controller settings c.args.source) in
    begun_new (λ s. g.S.Source.items s.now) c.args.source settings settings.journal c.new_controller.result None
    c.new_controller.ensures c.requires.some c.requires.few c.requires.listed
    (subst (λ journal. BeginsBy settings items journal start None) (sym c.in-None.is) (refl, refl, refl))
