-- What was said so far was taken.
use Rattle.std.proofs.Common.{List, ◌++◌, take}
use Rattle.vdcp_offline.proofs.judge.capture.add.Given as goal
use Rattle.vdcp_offline.specs.Found.{HasFound}
use Rattle.vdcp_offline.specs.Rows.{numbered}
use Rattle.vdcp_offline.specs.declared.judge.capture.Piece.{Piece}
use Rattle.vdcp_offline.specs.declared.judge.settings.JudgeSettings.{JudgeSettings}
use Rattle.vdcp_value.specs.declared.part.Item.{Item}

abbrev pub invariant-loop-k : goal.invariant-loop-k
invariant-loop-k g l = (settings : JudgeSettings) (items : List Item) (pieces : List Piece)
    → HasFound g.S.Source.items settings items pieces l.initial.found
    → HasFound g.S.Source.items settings items (pieces ++ numbered l.number (take l.k l.said)) l.found
