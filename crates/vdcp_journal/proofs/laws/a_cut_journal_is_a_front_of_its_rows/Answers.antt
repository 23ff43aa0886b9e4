use Rattle.vdcp_journal.proofs.Journals.{beginning_read, whole_read}
use Rattle.vdcp_journal.proofs.laws.a_cut_journal_is_a_front_of_its_rows.Goals as goal

pub returns-clause-whole : goal.returns-clause-whole
returns-clause-whole c = λ time heading rows h w. whole_read c.an_id_has_one_text.ensures.some time heading rows h w

pub returns-clause-cut : goal.returns-clause-cut
returns-clause-cut c = λ time heading rows n h w. beginning_read c.an_id_has_one_text.ensures.some time heading rows n h
    w
