use Rattle.std.proofs.Common.{◌≡◌, inr, sym, ◌∙◌, ap, drop}
use Rattle.std.specs.List.{flat_map}
use Rattle.std.proofs.lemmas.List.{take_rest}
use Rattle.vdcp_value.proofs.HexForm.{hex_read}
use Rattle.vdcp_value.proofs.IdText.{has_plain, has_no_plain}
use Rattle.vdcp_value.proofs.Ids.{length_of_id}
use Rattle.vdcp_value.proofs.clip_id.ClipId.from_hex.Goals as goal
use Rattle.vdcp_value.specs.IdText.{hex_pair}
use Rattle.vdcp_value.specs.Ids.{id_bytes}

pub returns-then-has_plain_form-clause-refused : goal.returns-then-has_plain_form-clause-refused
returns-then-has_plain_form-clause-refused c =
    let id = c.new-id.result in
    let digits : flat_map hex_pair (id_bytes id) ≡ drop 2 c.args.text.now =
    ap (flat_map hex_pair) c.new-id.ensures ∙ c.in-Some.ensures.read ∙ take_rest c.args.text.now 2 in (
      id_bytes id,
      id.eight,
      hex_read c.args.text.now (id_bytes id) c.requires digits,
      has_plain (id_bytes id) (length_of_id id) (sym c.has_plain_form.ensures ∙ c.if-has_plain_form.true),
    )

pub returns-clause-read : goal.returns-clause-read
returns-clause-read c =
    let id = c.new-id.result in
    let digits : flat_map hex_pair (id_bytes id) ≡ drop 2 c.args.text.now =
    ap (flat_map hex_pair) c.new-id.ensures ∙ c.in-Some.ensures.read ∙ take_rest c.args.text.now 2 in
    inr (
      has_no_plain (id_bytes id) (sym c.has_plain_form.ensures ∙ c.if-has_plain_form.false),
      hex_read c.args.text.now (id_bytes id) c.requires digits,
    )
