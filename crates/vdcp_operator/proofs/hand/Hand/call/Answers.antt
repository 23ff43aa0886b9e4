use Rattle.std.proofs.Common.{◌∙◌, refl, sym}
use Rattle.vdcp_auto.specs.Plan.{plan_of}
use Rattle.vdcp_list.specs.Rests.{items_left}
use Rattle.vdcp_operator.proofs.Asked.{asked_last, nobody_calls, given_first, none_ended, none_given}
use Rattle.vdcp_operator.proofs.LeavingOut.{first_heeded}
use Rattle.vdcp_operator.proofs.hand.Hand.call.Goals as goal
use Rattle.vdcp_operator.specs.Hands.{unasked}
use Rattle.vdcp_operator.specs.LeftOut.{ahead_of}

pub returns-then-not-never_waits-clause-asks : goal.returns-then-not-never_waits-clause-asks
returns-then-not-never_waits-clause-asks g c =
    let none = c.is_alone.ensures.waiting c.if-is_alone.true in
    rw (c.note_sent.ensures.rest, none) unasked

pub returns-else-not-never_waits-clause-asks : goal.returns-else-not-never_waits-clause-asks
returns-else-not-never_waits-clause-asks g c =
    let none = c.is_alone.ensures.waiting c.if-is_alone.true in rw none unasked

pub returns-in-Some-clause-asks : goal.returns-in-Some-clause-asks
returns-in-Some-clause-asks g c = rw (c.first_call.ensures.rest, c.first_call.ensures.waiting, c.ahead_of-ahead.ensures) unasked

pub returns-in-Some-clause-leaves : goal.returns-in-Some-clause-leaves
returns-in-Some-clause-leaves g c =
    first_heeded (ahead_of g.S.Source.items c.args.controller.now) c.args.self.now.list c.first_call.new.self.waiting.items c.in-Some.call
    (given_first _ _ c.in-Some.call (rw c.ahead_of-ahead.ensures at (sym c.first_call.ensures.gives ∙ c.in-Some.is)))

pub returns-in-Some-first_call-clause-asks : goal.returns-in-Some-first_call-clause-asks
returns-in-Some-first_call-clause-asks g c =
    let asked = rw (c.first_call.ensures.rest, c.first_call.ensures.waiting, c.ahead_of-ahead.ensures, c.ender_while.ensures, c.awaits_state-awaiting.ensures) at c.ask_until.ensures.asks in
    let last = asked_last _ _ _ _ _ c.args.self.now.waiting.items _ _ _ _ _ _ asked
    (rw (c.ask_until.ensures.list, c.first_call.ensures.rest, c.ahead_of-ahead.ensures) at c.first_call-2.ensures.waiting) in
    rw (c.first_call-2.ensures.rest, last) asked

pub returns-in-Some-first_call-clause-leaves : goal.returns-in-Some-first_call-clause-leaves
returns-in-Some-first_call-clause-leaves g c =
    first_heeded (ahead_of g.S.Source.items c.args.controller.now) c.args.self.now.list c.first_call-2.new.self.waiting.items
    c.in-Some-first_call.call
    (given_first _ _ c.in-Some-first_call.call
    (rw (c.ask_until.ensures.list, c.first_call.ensures.rest, c.ahead_of-ahead.ensures) at (sym c.first_call-2.ensures.gives ∙ c.in-Some-first_call.is)))

pub returns-in-Some-first_call-clause-unattended : goal.returns-in-Some-first_call-clause-unattended
returns-in-Some-first_call-clause-unattended g c = λ none page typed.
    let asked = rw (c.first_call.ensures.rest, c.first_call.ensures.waiting, none) at c.ask_until.ensures.asks in
    let nobody = nobody_calls _ _ _ _ _ _ _ _ _ _ _ page typed asked in
    absurd (none_given _ _ _ c.ask_until.new.self.waiting.items c.first_call-2.new.self.waiting.items c.in-Some-first_call.call nobody.0
    c.first_call-2.ensures.waiting (sym c.in-Some-first_call.is ∙ c.first_call-2.ensures.gives))

pub returns-then-is_held-clause-asks : goal.returns-then-is_held-clause-asks
returns-then-is_held-clause-asks g c =
    let asked = rw (c.first_call.ensures.rest, c.first_call.ensures.waiting, c.ahead_of-ahead.ensures, c.ender_while.ensures, c.awaits_state-awaiting.ensures) at c.ask_until.ensures.asks in
    let last = asked_last _ _ _ _ _ c.args.self.now.waiting.items _ _ _ _ _ _ asked
    (rw (c.ask_until.ensures.list, c.first_call.ensures.rest, c.ahead_of-ahead.ensures) at c.first_call-2.ensures.waiting) in
    rw (c.first_call-2.ensures.rest, last) asked

pub returns-then-is_held-clause-unattended : goal.returns-then-is_held-clause-unattended
returns-then-is_held-clause-unattended g c = λ none page typed.
    let asked = rw (c.first_call.ensures.rest, c.first_call.ensures.waiting, none) at c.ask_until.ensures.asks in
    let nobody = nobody_calls _ _ _ _ _ _ _ _ _ _ _ page typed asked in
    (refl, rw c.first_call-2.ensures.rest nobody.1, rw c.first_call-2.ensures.rest nobody.2)

pub returns-clause-asks : goal.returns-clause-asks
returns-clause-asks g c =
    let asked = rw (c.first_call.ensures.rest, c.first_call.ensures.waiting, c.ahead_of-ahead.ensures, c.ender_while.ensures, c.awaits_state-awaiting.ensures) at c.ask_until.ensures.asks in
    let last = asked_last _ _ _ _ _ c.args.self.now.waiting.items _ _ _ _ _ _ asked
    (rw (c.ask_until.ensures.list, c.first_call.ensures.rest, c.ahead_of-ahead.ensures) at c.first_call-2.ensures.waiting) in
    rw (c.note_sent-2.ensures.rest, c.first_call-2.ensures.rest, last) asked

pub returns-clause-unattended : goal.returns-clause-unattended
returns-clause-unattended g c = λ none page typed.
    let asked = rw (c.first_call.ensures.rest, c.first_call.ensures.waiting, none) at c.ask_until.ensures.asks in
    let nobody = nobody_calls _ _ _ _ _ _ _ _ _ _ _ page typed asked in (
      refl,
      rw (c.note_sent-2.ensures.rest, c.first_call-2.ensures.rest) nobody.1,
      rw (c.note_sent-2.ensures.rest, c.first_call-2.ensures.rest) nobody.2,
    )

pub returns-clause-starts : goal.returns-clause-starts
returns-clause-starts g c = λ start quiet started plays free.
    let asked = rw (c.first_call.ensures.rest, c.first_call.ensures.waiting, c.ahead_of-ahead.ensures) at c.ask_until.ensures.asks in
    let is = rw (c.ask_until.ensures.list, c.first_call.ensures.rest, c.ahead_of-ahead.ensures) at c.first_call-2.ensures.waiting in
    let last = asked_last _ _ _ _ _ c.args.self.now.waiting.items _ _ _ _ _ _ asked is in
    let none = rw (c.ask_until.ensures.list, c.first_call.ensures.rest, c.ahead_of-ahead.ensures) at (sym c.first_call-2.ensures.gives ∙ c.in_default-first_call.is) in
    let command = c.to_send-command.ensures.command ∙ plays in
    let started' = (c.first_call.ensures.none c.in_default.is).0 ∙ started in
    rw (c.note_sent-2.ensures.rest, c.first_call-2.ensures.rest)
    (c.ask_until.ensures.waited start
    (c.until_for-until.ensures ∙ rw (c.if-is_held.false, command, started') refl)
    (rw c.ender_while.ensures
    (none_ended (plan_of (items_left g.S.Source.items) c.args.controller.now) c.args.controller.now.state _ c.awaits_state-awaiting.result
    c.args.self.now.list.left_out (ahead_of g.S.Source.items c.args.controller.now) c.ask_until.new.self.waiting.items
    c.first_call-2.new.self.waiting.items plays c.awaits_state-awaiting.ensures is last none)))
