use Rattle.std.proofs.Common.{◌≡◌, take}
use Rattle.std.specs.Io.KnownBytes.{Appends}
use Rattle.vdcp_files.specs.Playable.{are_playable, events_text}
use Rattle.vdcp_files.proofs.playable.write_events.Given as goal

-- the lines of the events so far are written
abbrev pub invariant-loop-k : goal.invariant-loop-k
invariant-loop-k g l = record {
  text :
      Appends (g.W.Write.contents l.initial.out) (g.W.Write.contents l.out)
      (events_text (g.C.Catalogue.clips l.clips) 0 (take l.k (g.S.Source.items l.events)));
  playable : l.playable ≡ are_playable (g.C.Catalogue.clips l.clips) (take l.k (g.S.Source.items l.events));
}
