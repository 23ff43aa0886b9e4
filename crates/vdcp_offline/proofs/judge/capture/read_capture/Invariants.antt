-- The lines so far were read, and what they say was taken.
use Rattle.std.proofs.Common.{◌+◌, List, []}
use Rattle.vdcp_files.specs.Lines.{text_left}
use Rattle.vdcp_offline.proofs.JudgeSteps.{AreUpTo}
use Rattle.vdcp_offline.proofs.judge.capture.read_capture.Given as goal
use Rattle.vdcp_offline.specs.Found.{HasFound}
use Rattle.vdcp_offline.specs.declared.judge.capture.Piece.{Piece}
use Rattle.vdcp_offline.specs.declared.judge.settings.JudgeSettings.{JudgeSettings}
use Rattle.vdcp_value.specs.declared.part.Item.{Item}

abbrev pub invariant-lines : goal.invariant-lines
invariant-lines g l = (pieces : List Piece)
    × AreUpTo l.unit (g.R.Read.remaining l.fn.capture.reader) (text_left g.R.Read.remaining l.lines) (l.before + 1) pieces
    × ((settings : JudgeSettings) (items : List Item) → HasFound g.S.Source.items settings items [] l.initial.found
    → HasFound g.S.Source.items settings items pieces l.found)
