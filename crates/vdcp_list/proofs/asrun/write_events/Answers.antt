use Rattle.std.proofs.Common.{◌+◌, refl}
use Rattle.std.proofs.lemmas.Result.{err_from_is_err_and}
use Rattle.vdcp_list.proofs.Events.{told, untold_device, untold_memory}
use Rattle.vdcp_list.proofs.asrun.write_events.Goals as goal

pub returns-in_err-among-clause-unlawful : goal.returns-in_err-among-clause-unlawful
returns-in_err-among-clause-unlawful g c =
    let p = err_from_is_err_and c.from_residual.result c.from_residual.ensures.1 in
    rw (p.1, p.2) (told c.args.rate (g.S.Source.items c.args.source.now) (c.args.from + c.args.count) _ c.in_err-among.field-0.0 refl
    c.in_err-among.ensures.unlawful)

pub returns-in_err-text-clause-unlawful : goal.returns-in_err-text-clause-unlawful
returns-in_err-text-clause-unlawful g c =
    let p = err_from_is_err_and c.from_residual-in_err-text.result c.from_residual-in_err-text.ensures.1 in
    rw (p.1, p.2) (untold_memory c.args.rate (g.S.Source.items c.args.source.now) (c.args.from + c.args.count)
    c.in_err-text.field-0.0 c.in_err-text.ensures.memory
    c.in_ok-among.ensures.lawful)

pub returns-clause-unlawful : goal.returns-clause-unlawful
returns-clause-unlawful g c =
    untold_device c.args.rate (g.S.Source.items c.args.source.now) (c.args.from + c.args.count) c.write_out.result
    c.write_out.ensures.device
    c.in_ok-among.ensures.lawful
