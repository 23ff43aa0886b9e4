use Rattle.std.proofs.Common.{sym, subst}
use Rattle.vdcp_list.proofs.fields.fields_say_values.Goals as goal
use Rattle.vdcp_value.specs.IdText.{IsTextOf}
use Rattle.vdcp_value.specs.Ids.{id_bytes, text_of_id}

pub returns : goal.returns
returns c = record {
  ids = record { some = c.an_id_has_one_text.ensures.some; says = c.a_text_says_its_id.ensures };
  one_id =
      λ a b same.
      c.a_text_is_of_one_id.ensures a b (text_of_id a) (c.an_id_has_one_text.ensures.some a)
      (subst (λ text. IsTextOf text (id_bytes b)) (sym same) (c.an_id_has_one_text.ensures.some b));
  times =
      record {
        four = c.a_time_code_has_lawful_bytes.ensures.four;
        lawful = c.a_time_code_has_lawful_bytes.ensures.lawful;
        label = c.a_time_code_has_lawful_bytes.ensures.label;
        number = c.a_time_code_has_lawful_bytes.ensures.number;
        of_bytes = c.lawful_bytes_are_a_time_codes.ensures;
      };
  one_time = c.a_time_code_is_one.ensures.by_text;
  eleven = c.the_text_of_a_time_code_is_eleven_bytes.ensures.eleven;
}
