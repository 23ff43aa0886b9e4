use Rattle.std.proofs.Common.{◌≡◌, sym, ap, ◌∙◌}
use Rattle.vdcp_list.proofs.ItemRows.{own_text}
use Rattle.vdcp_list.proofs.asrun.show_time.Goals as goal
use Rattle.vdcp_list.specs.Playlists.{time_text}
use Rattle.vdcp_value.specs.Timecodes.{bcd_of, rate_of}

pub returns : goal.returns
returns c =
    let rate : rate_of c.unwrap.result ≡ c.args.rate = rw c.unwrap.ensures at c.from_bcd.ensures.same_rate in
    let bytes : bcd_of c.unwrap.result ≡ c.args.bytes = rw c.unwrap.ensures at c.from_bcd.ensures.read in
    c.show.ensures ∙ sym (own_text c.a_time_code_has_lawful_bytes.ensures.label c.args.rate c.unwrap.result rate)
    ∙ ap (time_text c.args.rate) bytes
