-- The lines of the messages and of the end are those of the burst's one reading.
use Rattle.std.proofs.Common.{◌<◌, sym, subst, arith}
use Rattle.std.proofs.lemmas.List.Elements.{All-from_get_or}
use Rattle.vdcp_frame.specs.Burst.{messages_of}
use Rattle.vdcp_frame.specs.Reading.{End, Reads}
use Rattle.vdcp_text.proofs.ShowLemmas.{appends_both}
use Rattle.vdcp_text.proofs.show.write_reading.Goals as goal

pub returns : goal.returns
returns g c =
    let burst = c.args.burst.now in
    let octets = All-from_get_or (λ byte. byte < 256) burst 0 (λ i _. omega (arith, c.type_inv.burst i)) in
    record {
      messages = messages_of burst;
      reads =
          subst (λ (end : End). Reads burst (messages_of burst) end) (sym c.in_ok-end.ensures.end)
          (c.one_reading.ensures.some burst octets);
      gained = appends_both _ _ _ _ _ c.in_ok-end.ensures.text c.in_ok-write_end.ensures;
    }
