use Rattle.vdcp_list.proofs.CatalogueSteps.{no_clips}
use Rattle.vdcp_list.proofs.catalogue.read_catalogue.Goals as goal

pub made_of-requires : goal.made_of-requires
made_of-requires g c = rw c.new.ensures (no_clips c.args.rate)
