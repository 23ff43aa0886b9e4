use Rattle.std.proofs.Common.{arith, subst, ◌∷◌, []}
use Rattle.std.proofs.lemmas.Bool.Decides.{nat_tests}
use Rattle.std.specs.Io.KnownBytes.{Appends}
use Rattle.vdcp_journal_file.proofs.Mended.{gets_it, none_lacks}
use Rattle.vdcp_journal_file.proofs.mending.close_row.Goals as goal

pub returns-in-Ok-clause-closed : goal.returns-in-Ok-clause-closed
returns-in-Ok-clause-closed g c =
    none_lacks (g.F.Disk.written c.args.file.now) c.args.size c.in-Ok.written c.requires c.in-Ok.ensures
    (grind (arith, nat_tests, c.if-size-written.true))

pub returns-in-Ok-append_safely-clause-closed : goal.returns-in-Ok-append_safely-clause-closed
returns-in-Ok-append_safely-clause-closed g c =
    gets_it (g.F.Disk.written c.args.file.now) (g.F.Disk.written c.append_safely.new.disk) c.args.size c.in-Ok.written c.requires
    c.in-Ok.ensures (grind (arith, nat_tests, c.if-size-written.false))
    (subst (λ s. Appends (g.F.Disk.written c.args.file.now) s (10 ∷ [])) c.in-Ok-append_safely.ensures.synced c.in-Ok-append_safely.ensures.all)
