-- What a judge rules on each exchange of a log.
use Rattle.std.specs.Prelude.{◌≡◌, ◌↔◌, IsTrue, List}
use Rattle.vdcp_auto.specs.RuleBook.{May}
use Rattle.vdcp_auto.specs.Settled.{settles}
use Rattle.vdcp_auto.specs.declared.exchange.Exchange.{Exchange}
use Rattle.vdcp_auto.specs.declared.phase.Mode.{Mode}
use Rattle.vdcp_auto.specs.declared.judge.Ruling.{Ruling}
use Rattle.vdcp_value.specs.declared.part.Item.{Item}

-- the ruling on an exchange, with these before it
pub record IsRuling (mode : Mode) (list : List Item) (before : List Exchange) (e : Exchange) (ruling : Ruling) : Type 0
  where
    pub allowed : IsTrue ruling.is_allowed ↔ May mode list before e.command
    pub settles : ruling.settles ≡ settles mode before e
