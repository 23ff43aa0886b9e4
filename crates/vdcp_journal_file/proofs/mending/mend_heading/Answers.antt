use Rattle.std.proofs.Common.{◌<◌, ap, arith, length, refl}
use Rattle.std.proofs.lemmas.Result.{on_ok_weaker}
use Rattle.vdcp_journal_file.proofs.Mended.{torn_so}
use Rattle.vdcp_journal_file.proofs.mending.mend_heading.Goals as goal
use Rattle.vdcp_journal_file.specs.Mending.{anew, as_it_was}

pub returns-then-is_torn-clause-headed : goal.returns-then-is_torn-clause-headed
returns-then-is_torn-clause-headed g c =
    let old = g.F.Disk.written c.args.file.now in
    let text = c.read_to_end.new.buf.items in
    let read = rw (
      c.take-front.ensures.limit,
      c.take-front.ensures.inner,
      c.in_ok-reader_of.ensures.all,
      c.len.ensures,
      c.new-text.ensures.items,
    ) at c.in-Ok-read_to_end.ensures.bytes in
    let few : length text < c.in-Ok.row.len =
    omega (arith, c.is_torn.ensures.few c.if-is_torn.true, ap length c.as_slice.ensures.value, c.as_slice-2.ensures.len) in
    let torn = rw c.as_slice.ensures.value at (c.is_torn.ensures.torn c.if-is_torn.true) in
    on_ok_weaker c.replace_from.result (λ wrote. anew c.in-Ok.ensures.0 (torn_so old text c.in-Ok.row.len read few torn)
    (rw (c.as_slice-then-is_torn.ensures.value, c.in-Ok.ensures.1) at wrote)) c.replace_from.ensures.replaced

pub returns-clause-headed : goal.returns-clause-headed
returns-clause-headed g c = as_it_was refl
