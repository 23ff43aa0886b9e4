use Rattle.std.proofs.Common.{ap, refl}
use Rattle.vdcp_offline.specs.Findings.{no_finding}
use Rattle.vdcp_offline.proofs.judge.told.Told.new.Goals as goal

pub returns : goal.returns
returns g c = record {
  settings_are = refl;
  events_are = refl;
  source_is = ap (λ source. g.S.Source.items source.now) c.new.ensures.source;
  mode_is = c.new.ensures.mode;
  knows = c.new.ensures.knows;
  ruled = no_finding;
  count = refl;
  exchanges = refl;
  forbidden = refl;
  forbidden_text_is = c.new-2.ensures.bytes;
  reported_text_is = c.new-3.ensures.bytes;
}
