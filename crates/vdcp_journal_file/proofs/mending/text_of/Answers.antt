use Rattle.vdcp_journal_file.proofs.mending.text_of.Goals as goal

pub returns : goal.returns
returns g c = (
  c.unclocked.result,
  c.unclocked.ensures,
  rw (c.new-text.ensures.items, c.as_slice.ensures.value, c.in_ok-notes.ensures) at c.in_ok-add_rows.ensures,
)
