use Rattle.csv.specs.Writing.{default_writer, fields_written, has_written, text_written, writer_setup}
use Rattle.std.proofs.Common.{◌≡◌, false, take, drop}
use Rattle.std.specs.Prelude.{Some}
use Rattle.vdcp_list.proofs.asrun.write_rows.Given as goal
use Rattle.vdcp_list.specs.Asrun.{events_text}

abbrev pub invariant-loop-k : goal.invariant-loop-k
invariant-loop-k g l = record {
  text : text_written (λ text. Some text.items) l.rows ≡ Some
      (events_text l.rate l.with_parts l.from (take l.k (drop l.from (g.S.Source.items l.source))));
  setup : writer_setup l.rows ≡ default_writer;
  ended : fields_written l.rows ≡ 0;
  clean : has_written l.rows ≡ false;
}
