use Rattle.std.proofs.Common.{subst, sym}
use Rattle.std.specs.Prelude.{IsUtf8}
use Rattle.vdcp_list.proofs.Listings.{utf8_text}
use Rattle.vdcp_list.proofs.Texts.{ok_unless}
use Rattle.vdcp_list.proofs.list.List.text.Goals as goal

pub unwrap-requires : goal.unwrap-requires
unwrap-requires c =
    ok_unless c.from_utf8.result _ _ c.from_utf8.ensures.cases
    (λ error not_text. not_text.0 (subst IsUtf8 (sym c.as_slice.ensures.value)
    (utf8_text c.the_text_of_an_id_is_short.ensures.ascii c.args.self.now)))
