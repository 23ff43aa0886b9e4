use Rattle.vdcp_files.proofs.PlayableLemmas.{appends_event, playable_after}
use Rattle.vdcp_files.proofs.playable.write_events.Goals as goal

pub loop-k-preserved : goal.loop-k-preserved
loop-k-preserved g c =
    let items = g.S.Source.items c.args.events.now in
    let clips = g.C.Catalogue.clips c.args.clips.now in
    let item = c.at-item.result in
    let fault = c.fault_of-fault.result in
    record {
      text =
          appends_event clips items c.loop-k.k item fault (g.W.Write.contents c.args.out.now)
          (g.W.Write.contents c.loop-k.out)
          (g.W.Write.contents c.write_event.new.out) c.at-item.ensures c.fault_of-fault.ensures c.loop-k.invariant.text
          c.in_ok-write_event.ensures;
      playable =
          playable_after clips items c.loop-k.k item c.loop-k.playable fault c.is_none-playable.result c.at-item.ensures
          c.loop-k.invariant.playable c.fault_of-fault.ensures c.is_none-playable.ensures;
    }
