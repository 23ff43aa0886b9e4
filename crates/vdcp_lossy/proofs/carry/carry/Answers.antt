use Rattle.vdcp_lossy.proofs.carry.carry.Goals as goal

pub bursts-preserved : goal.bursts-preserved
bursts-preserved g c = record {
  automation = c.in_ok-end.ensures.automation;
  server = c.in_ok-end.ensures.server;
}
