use Rattle.std.specs.Prelude.{[]}
use Rattle.vdcp_auto.specs.Course.{begun}
use Rattle.vdcp_auto.specs.Turn.{start}
use Rattle.vdcp_auto.proofs.Courses.{reached_after}
use Rattle.vdcp_auto.proofs.laws.a_course_is_reached.Goals as goal

pub returns : goal.returns
returns c plan inputs some few = reached_after plan inputs start [] (begun some few)
