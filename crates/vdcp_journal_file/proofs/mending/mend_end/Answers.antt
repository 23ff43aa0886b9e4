use Rattle.std.proofs.Common.{◌≡◌, ap, subst, ◌∙◌}
use Rattle.std.specs.Fmt.{option_append}
use Rattle.std.specs.Io.KnownBytes.{Appends}
use Rattle.std.specs.Prelude.{Some}
use Rattle.vdcp_journal.specs.Mending.{rows_at}
use Rattle.vdcp_journal.specs.Reading.{whole_lines}
use Rattle.vdcp_journal.specs.Rows.{rows_text}
use Rattle.vdcp_journal_file.proofs.Mended.{adds_so, mended_so, rows_so}
use Rattle.vdcp_journal_file.proofs.mending.mend_end.Goals as goal
use Rattle.vdcp_journal_file.specs.Mending.{lines_of}

pub returns-clause-mended : goal.returns-clause-mended
returns-clause-mended g c =
    let old = lines_of (g.F.Disk.written c.args.file.now) in
    let rows = c.in-Ok.rows.items in
    let on = c.in_ok-run.ensures.replayed in
    let (time, unclocked, is) = c.in-Ok.ensures in
    let whole : whole_lines rows ≡ rows = rows_so c.args.wanted.now.unit (rows_at time _) rows is in (
      option_append old (Some rows),
      record {
        journal = on.journal;
        reads = on.reads;
        run = on.run;
        last = on.last;
        time = time;
        unclocked = unclocked;
        adds = subst (Appends old (option_append old (Some rows)))
            (is ∙ ap (λ notes. rows_text c.args.wanted.now.unit (rows_at time notes))
            (mended_so (λ s. g.S.Source.items s.now) _ _ _ _ on)) (adds_so old rows);
      },
      rw c.as_slice-2.ensures.value at c.in_ok-end_with.ensures.ends,
      rw c.as_slice.ensures.value at (c.in_ok-run-2.ensures.on on (rw c.as_slice.ensures.value whole)),
    )
