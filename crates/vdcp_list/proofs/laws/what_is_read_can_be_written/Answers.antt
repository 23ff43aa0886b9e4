use Rattle.vdcp_list.proofs.Writable.{can_be_written, none_unlawful}
use Rattle.vdcp_list.proofs.laws.what_is_read_can_be_written.Goals as goal

pub returns-clause-lawful : goal.returns-clause-lawful
returns-clause-lawful c rate rows items list = can_be_written rate _ items list.named.can_name

pub returns-clause-none : goal.returns-clause-none
returns-clause-none c rate file items (rows, are, list) reported k =
    none_unlawful rate _ items reported k list.named.can_name
