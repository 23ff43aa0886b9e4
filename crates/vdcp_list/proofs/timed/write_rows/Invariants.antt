use Rattle.csv.specs.Writing.{default_writer, fields_written, has_written, text_written, writer_setup}
use Rattle.std.proofs.Common.{◌≡◌, false, take, drop}
use Rattle.std.specs.Prelude.{Some}
use Rattle.vdcp_list.proofs.timed.write_rows.Given as goal
use Rattle.vdcp_list.specs.Timed.{timed_rows, times_of}

abbrev pub invariant-loop-k : goal.invariant-loop-k
invariant-loop-k g l = record {
  text : text_written (λ text. Some text.items) l.rows ≡ Some
      (timed_rows (times_of g.T.Timed.played g.T.Timed.known g.T.Timed.ended g.T.Timed.end) l.rate l.with_parts l.from
      (drop l.from (g.S.Source.items l.source)) (take l.k l.times));
  setup : writer_setup l.rows ≡ default_writer;
  ended : fields_written l.rows ≡ 0;
  clean : has_written l.rows ≡ false;
}
