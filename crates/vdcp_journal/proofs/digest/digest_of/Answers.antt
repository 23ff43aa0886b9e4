use Rattle.vdcp_journal.proofs.digest.digest_of.Goals as goal

pub returns-in-Ok-clause-unlawful : goal.returns-in-Ok-clause-unlawful
returns-in-Ok-clause-unlawful g c =
    let unlawful = rw c.len.ensures at c.write_asrun.ensures.unlawful in
    λ k. (λ e. cc, λ u. let e = (unlawful k).1 u in cc)

pub returns-in-Err-Time-clause-unlawful : goal.returns-in-Err-Time-clause-unlawful
returns-in-Err-Time-clause-unlawful g c =
    let unlawful = rw c.len.ensures at c.write_asrun.ensures.unlawful in
    λ k. (λ e. (unlawful k).0 cc, λ u. let e = (unlawful k).1 u in cc)

pub returns-in-Err-Memory-clause-unlawful : goal.returns-in-Err-Memory-clause-unlawful
returns-in-Err-Memory-clause-unlawful g c =
    let unlawful = rw c.len.ensures at c.write_asrun.ensures.unlawful in
    λ k. (λ e. cc, λ u. let e = (unlawful k).1 u in cc)

pub returns-clause-unlawful : goal.returns-clause-unlawful
returns-clause-unlawful g c =
    let unlawful = rw c.len.ensures at c.write_asrun.ensures.unlawful in
    λ k. (λ e. cc, λ u. let e = (unlawful k).1 u in cc)
