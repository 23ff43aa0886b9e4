use Rattle.vdcp_panel.proofs.open.tell_where.Goals as goal

pub returns-then-takes_calls : goal.returns-then-takes_calls
returns-then-takes_calls g c =
    rw c.if-takes_calls.true
    (rw (c.as_str-address.ensures.value, c.as_str-token.ensures.value) at c.writeln.ensures.bytes)

pub returns : goal.returns
returns g c = rw c.if-takes_calls.false (rw c.as_str-address.ensures.value at c.writeln-2.ensures.bytes)
