use Rattle.std.specs.Prelude.{[], ◌∷◌}
use Rattle.vdcp_auto.proofs.Courses.{after_joined, course_joined, course_more}
use Rattle.vdcp_auto.proofs.laws.courses_follow_one_another.Goals as goal

pub returns-clause-course : goal.returns-clause-course
returns-clause-course c plan s xs ys = course_joined plan xs ys s

pub returns-clause-left : goal.returns-clause-left
returns-clause-left c plan s xs ys = after_joined plan xs ys s

pub returns-clause-one_more : goal.returns-clause-one_more
returns-clause-one_more c = course_more

pub returns-clause-left_by_one_more : goal.returns-clause-left_by_one_more
returns-clause-left_by_one_more c plan s xs x = after_joined plan xs (x ∷ []) s
