use Rattle.std.proofs.Common.{◌≤◌, ◌∙◌, List, ℕ, [], ◌∷◌, take, refl, sym, ap, subst, rules, arith}
use Rattle.std.proofs.lemmas.List.{length-take-le}
use Rattle.std.specs.Prelude.{None}
use Rattle.vdcp_port.specs.Answers.{answer_bytes}
use Rattle.vdcp_words.specs.declared.reply.Reply.{Reply}
use Rattle.vdcp_wire.specs.Acts.{brings, fails, sends}
use Rattle.vdcp_wire.specs.Wires.{bytes, close, silence}
use Rattle.vdcp_wire.specs.declared.wire.Came.TheVariants as came
use Rattle.vdcp_drive.specs.Steps.{Chain}
use Rattle.vdcp_drive.specs.ServeLeaves.{listened}
use Rattle.vdcp_drive.specs.Serving.{Service, at_end, in_answer, in_listen, sending}
use Rattle.vdcp_drive.specs.Turns.{listen}
use Rattle.vdcp_drive.specs.declared.server_hooks.Turned.TheVariants as turned
use Rattle.vdcp_drive.proofs.Serving.{cut_so, rested}
use Rattle.vdcp_drive.proofs.server.Listener.hear.Goals as goal

pub returns-in_err-came-clause-serves : goal.returns-in_err-came-clause-serves
returns-in_err-came-clause-serves g c can ear h =
    let at : Service = record { port = c.args.self.now.port; ear = ear } in
    cut_so g.W.Wire.does can c.args.self.now.hearing at c.args.wire.now (listened c.from_residual.result) c.args.self.now.port
    c.args.self.now.reader None
    c.listen.new.self (search rules) (fails ∷ []) (in_listen refl refl refl) (c.listen.new.self, c.in_err-came.ensures.fails, refl)

pub returns-in_err-take_piece-in-Bytes-clause-serves : goal.returns-in_err-take_piece-in-Bytes-clause-serves
returns-in_err-take_piece-in-Bytes-clause-serves g c can ear h =
    let does = g.W.Wire.does in
    let at : Service = record { port = c.args.self.now.port; ear = ear } in
    let n : ℕ = c.in-Bytes.n in
    let piece : List ℕ = take n c.listen.new.buffer in
    let t = c.take_piece.new.self in
    let brought = rw c.in-Bytes.is at c.in_ok-came.ensures.brings in
    let b = c.in_err-take_piece-in-Bytes.ensures.broken ear h in
    cut_so does can c.args.self.now.hearing at c.args.wire.now (listened c.from_residual-in_err-take_piece-in-Bytes.result) t.port
    t.reader t.aired
    c.take_piece.new.wire (search rules) _
    (in_answer piece b.before b.last b.others b.sent.front b.sent.rest c.take_piece.ensures.fits b.messages b.sent.parts refl
    b.port_is b.aired_is)
    (c.listen.new.self, brought, b.sent.is_so)

pub returns-in_err-end_burst-in-Silence-clause-serves : goal.returns-in_err-end_burst-in-Silence-clause-serves
returns-in_err-end_burst-in-Silence-clause-serves g c can ear h =
    let does = g.W.Wire.does in
    let at : Service = record { port = c.args.self.now.port; ear = ear } in
    let said = c.rest-reply.ensures.says ear h in
    let brought = rw c.in-Silence.is at c.in_ok-came.ensures.brings in
    let t = c.end_burst.new in
    let e = c.in_err-end_burst-in-Silence.ensures in
    cut_so does can c.args.self.now.hearing at c.args.wire.now (listened c.from_residual-in_err-end_burst-in-Silence.result) t.port
    c.rest-reply.new.reader None t.wire (search rules) (brings silence ∷ sends e.front.front ∷ [])
    (at_end e.front.front e.front.rest
    (ap (answer_bytes c.args.self.now.port.state.unit) (sym said) ∙ e.front.parts) refl e.unended refl)
    (c.listen.new.self, brought, (t.wire, e.front.is_so, refl))

pub returns-in_ok-take_piece-in-Bytes-clause-serves : goal.returns-in_ok-take_piece-in-Bytes-clause-serves
returns-in_ok-take_piece-in-Bytes-clause-serves g c can ear h =
    let t = c.in_ok-take_piece-in-Bytes.ensures.taken ear h in
    let n : ℕ = c.in-Bytes.n in
    let fits : n ≤ 512 = rw c.in-Bytes.is at c.in_ok-came.ensures.fits in
    record {
      what = listen (bytes (take n c.listen.new.buffer));
      octets = c.take_piece.ensures.fits;
      made = tt;
      turned_is = ap (λ (count : ℕ). turned.Listen (came.Bytes count))
          (sym (length-take-le n c.listen.new.buffer (omega (arith, fits, c.listen.array_long))));
      done = (c.listen.new.self, rw c.in-Bytes.is at c.in_ok-came.ensures.brings, t.sent);
      port_is = t.port_is;
      aired_is = t.aired_is;
      has_read = t.has_read;
    }

pub returns-in_ok-end_burst-in-Silence-clause-serves : goal.returns-in_ok-end_burst-in-Silence-clause-serves
returns-in_ok-end_burst-in-Silence-clause-serves g c can ear h =
    let does = g.W.Wire.does in
    let said = c.rest-reply.ensures.says ear h in
    let e = c.in_ok-end_burst-in-Silence.ensures in
    record {
      what = listen silence;
      octets = tt;
      made = tt;
      turned_is = ap turned.Listen c.in-Silence.is;
      done = (
        c.listen.new.self,
        rw c.in-Silence.is at c.in_ok-came.ensures.brings,
        subst (λ (l : List Reply). Chain does (sending c.args.self.now.port.state.unit l) c.listen.new.self c.end_burst.new.wire)
            said e.sent,
      );
      port_is = rested c.args.self.now.hearing ear c.args.self.now.reader c.args.self.now.port c.end_burst.new.port h e.bursts e.streams;
      aired_is = refl;
      has_read = c.rest-reply.ensures.rests ear h;
    }

pub returns-in-Closed-clause-serves : goal.returns-in-Closed-clause-serves
returns-in-Closed-clause-serves g c can ear h =
    record {
      what = listen close;
      octets = tt;
      made = tt;
      turned_is = ap turned.Listen c.in-Closed.is;
      done = (c.listen.new.self, rw c.in-Closed.is at c.in_ok-came.ensures.brings, refl);
      port_is = refl;
      aired_is = refl;
      has_read = h;
    }
