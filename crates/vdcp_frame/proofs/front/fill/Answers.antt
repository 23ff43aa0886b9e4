-- As much of the piece is copied as the message may have.
use Rattle.std.proofs.Common.{◌≡◌, ◌+◌, ◌++◌, ◌<◌, ℕ, List, length, take, sym, ap, subst, ◌∙◌, arith, inl, inr, length-append}
use Rattle.std.proofs.lemmas.Bool.{cases_eq}
use Rattle.std.proofs.lemmas.List.{length-take, take-take, take_at}
use Rattle.std.proofs.lemmas.List.Elements.{All-append, All-take, All-from_get_or}
use Rattle.vdcp_frame.specs.Front.{CanHold}
use Rattle.vdcp_frame.specs.Head.{IsPart}
use Rattle.vdcp_frame.specs.Message.{AreOctets}
use Rattle.vdcp_frame.proofs.SizeLemmas.{size_enough}
use Rattle.vdcp_frame.proofs.front.fill.Goals as goal

pub returns : goal.returns
returns c =
    let piece : List ℕ = c.args.piece.now in
    let held : List ℕ = take c.args.held c.args.buffer.now in
    let n : ℕ = c.min-count.result in
    let size : length (take n piece) ≡ n = omega (arith, length-take n piece) in
    let copied : take (c.args.held + n) c.put.new.buffer ≡ held ++ take n piece =
    subst (λ (k : ℕ). take (c.args.held + k) c.put.new.buffer ≡ held ++ take n piece) size c.put.ensures in
    let held_fits : AreOctets held =
    All-take (λ b. b < 256) c.args.held c.args.buffer.now
    (All-from_get_or (λ b. b < 256) c.args.buffer.now 0 (λ i h. omega (arith, c.fits-buffer i))) in
    let piece_fits : AreOctets (take n piece) =
    All-take (λ b. b < 256) n piece
    (All-from_get_or (λ b. b < 256) piece 0 (λ i h. omega (arith, c.type_inv.piece i))) in
    let held_size : length held ≡ c.args.held = omega (arith, length-take c.args.held c.args.buffer.now) in
    let fits : AreOctets (held ++ take n piece) = All-append (λ b. b < 256) held (take n piece) held_fits piece_fits in
    let front : List ℕ = take (c.args.held + n) c.put.new.buffer in
    let begun : take c.args.held front ≡ held = ap (take c.args.held) copied ∙ take_at held (take n piece) c.args.held held_size in
    let kept : take c.args.held c.put.new.buffer ≡ held =
    sym (take-take c.args.held (c.args.held + n) c.put.new.buffer (omega arith)) ∙ begun in
    record {
      within = omega arith;
      kept = kept;
      front = record {
        can = subst (CanHold c.args.taken) (sym begun) c.requires.can;
        size = ap (length {A = ℕ}) copied ∙ omega (arith, length-append held (take n piece), held_size, size);
        within = omega arith;
        limit = omega (arith, c.requires.can.limit);
        all = λ needs part less. elim (cases_eq n (length piece)) [
          | inl whole ↦ whole
          | inr some ↦ absurd (size_enough held piece n needs fits
              (omega (
                arith,
                held_size,
                c.size_shown.ensures,
                part.short,
                part.most,
                less,
                some,
                ap (length {A = ℕ}) copied,
                length-append held (take n piece),
                size,
              ))
              (omega (
                arith,
                held_size,
                part.short,
                part.most,
                less,
                some,
                ap (length {A = ℕ}) copied,
                length-append held (take n piece),
                size,
              )) (omega (arith, some))
              (subst (λ (l : List ℕ). IsPart l needs) copied part))
        ];
        joined = copied ∙ ap (λ (l : List ℕ). l ++ take n piece) (sym begun);
      };
    }
