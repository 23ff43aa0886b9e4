-- The digits of the chunks, one after another, are the digits of all bytes.
use Rattle.std.proofs.Common.{◌≡◌, ℕ, List, ◌++◌, ap, ◌∙◌, sym, refl, true, rules, append_assoc, append-nil}
use Rattle.std.proofs.Output.{has_written_append, has_written_of_eq}
use Rattle.std.proofs.lemmas.List.{nil_from_length}
use Rattle.std.specs.Slice.Iter.{chunks_rest}
use Rattle.std.specs.Str.{IsUtf8}
use Rattle.hex.specs.Hex.{encode_lower, encode_with}
use Rattle.vdcp_text.proofs.TextLemmas.{digits_are_text, encode_lower-append}
use Rattle.vdcp_text.proofs.text.HexTextDisplay.fmt.Goals as goal

pub unwrap-requires-in-loop-chunk : goal.unwrap-requires-in-loop-chunk
unwrap-requires-in-loop-chunk g c =
    let shown : c.encode_to_slice.new.output ≡ encode_lower c.in-Some.chunk.now = search rules in
    let text : IsUtf8 c.encode_to_slice.new.output = rw shown (digits_are_text c.in-Some.chunk.now) in
    search rules

pub loop-chunk-preserved : goal.loop-chunk-preserved
loop-chunk-preserved g c =
    let steps = c.in-Some.ensures.steps in
    let chunk = c.in-Some.chunk.now in
    let rest = chunks_rest c.next.new.self in
    let shown : c.unwrap-in-loop-chunk.result.now ≡ encode_lower chunk = search rules in (
      search rules,
      tt,
      steps.0 ∙ c.loop-chunk.invariant.2,
      λ plain.
          let so_far = c.loop-chunk.invariant.3 plain in (
            so_far.0 ++ encode_lower chunk,
            has_written_append _ _ _ _ _ _ so_far.1
                (rw shown at c.in_ok-write_str.ensures.writes so_far.1.plain (refl {a = true})),
            append_assoc so_far.0 _ _
                ∙ ap (λ (text : List ℕ). so_far.0 ++ text)
                (sym (ap encode_lower steps.1.0 ∙ encode_lower-append chunk rest))
                ∙ so_far.2,
          ),
    )

pub returns-clause-writes : goal.returns-clause-writes
unfolding encode_with
returns-clause-writes g c = λ plain _.
    let so_far = c.loop-chunk.invariant.3 plain in
    let none = nil_from_length _ c.in-None.ensures.steps.1.0 in
    has_written_of_eq _ _ _ _ _ (sym (append-nil so_far.0) ∙ rw none at so_far.2) so_far.1
