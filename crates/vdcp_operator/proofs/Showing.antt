-- No number that a page is told has a fraction; and what was shown is of the controller.
use Rattle.std.proofs.Common.{ℕ, ◌≡◌, ap, false, List, [], ◌∷◌, map, refl, subst}
use Rattle.std.specs.Prelude.{Option, None, Some}
use Rattle.vdcp_auto.specs.Plan.{View}
use Rattle.vdcp_auto.specs.declared.outcome.Outcome.{Outcome}
use Rattle.vdcp_list.specs.Rests.{FromEvent}
use Rattle.vdcp_panel.specs.Seen.{ServesSome}
use Rattle.vdcp_panel.specs.declared.call.Call.{Call}
use Rattle.vdcp_panel.specs.declared.panel.Names.{Names}
use Rattle.vdcp_value.specs.declared.part.Item.{Item}
use Rattle.serde_json.specs.View.{items_of}
use Rattle.serde_json.specs.Written.{has_float, items_have_float}
use Rattle.vdcp_operator.specs.LeftOut.{is_left_out}
use Rattle.vdcp_operator.specs.Seen.{IsSeen, Keeps, ShowsRun, about, ending_data, length_by, number_data, page_bytes, reason_data, record_data, row_data, seen_data, state_bytes, why_of}
use Rattle.vdcp_operator.specs.declared.ahead.Ahead.{Ahead}
use Rattle.vdcp_operator.specs.declared.left_out.LeftOut.{LeftOut}
use Rattle.vdcp_operator.specs.declared.seen.Ending.{Ending}
use Rattle.vdcp_operator.specs.declared.seen.EventSeen.{EventSeen}
use Rattle.vdcp_operator.specs.declared.seen.HandSeen.{HandSeen}
use Rattle.vdcp_operator.specs.declared.seen.Reason.{Reason}
use Rattle.vdcp_operator.specs.declared.seen.Record.{Record}
use Rattle.vdcp_operator.specs.declared.seen.RunSeen.{RunSeen}
use Rattle.vdcp_operator.specs.declared.shown.RunPage.{RunPage}
use Rattle.vdcp_value.specs.declared.clip_id.ClipId.{ClipId}
use Rattle.vdcp_value.specs.declared.rate.Rate.{Rate}
use Rattle.vdcp_value.specs.declared.timecode.Timecode.{Timecode}

number_whole : (n : Option ℕ) → has_float (number_data n) ≡ false
number_whole None = refl
number_whole (Some n) = refl

ending_whole : (e : Option Ending) → has_float (ending_data e) ≡ false
ending_whole None = refl
ending_whole (Some e) = refl

record_whole : (r : Option Record) → has_float (record_data r) ≡ false
record_whole None = refl
record_whole (Some r) = refl

reason_whole : (why : Option Reason) → has_float (reason_data why) ≡ false
reason_whole None = refl
reason_whole (Some why) = refl

rows_whole : (rate : Rate) (clips : Option (List (ClipId × Timecode))) (left : LeftOut) (ahead : Ahead) (events : List EventSeen)
    → items_have_float (items_of (map (row_data rate clips left ahead) events)) ≡ false
rows_whole rate clips left ahead [] = refl
rows_whole rate clips left ahead (e ∷ events) =
    rw (
      number_whole e.at,
      ending_whole e.ending,
      record_whole e.kept,
      number_whole (length_by clips e.item),
      number_whole e.until,
      reason_whole (why_of (is_left_out left e.number) e.why),
    )
    (rows_whole rate clips left ahead events)

pub seen_whole : (v : RunSeen) → has_float (seen_data v) ≡ false
seen_whole v = rw (rows_whole v.rate v.clips.now v.hand.left_out.now v.ahead v.rows.now, number_whole v.hand.start, number_whole v.down) refl

-- the page's own panel and calls answered
pub shows : {S : Type 0} (items : S → List Item) (c : View (FromEvent S)) (page followed page' : RunPage) (end : Option (Option Outcome))
    (hand : HandSeen) (view : RunSeen) → followed ≡ record page { rows = followed.rows; event = followed.event; standing = followed.standing }
    → IsSeen items c page end hand view → Keeps page view page'
    → ServesSome page_bytes state_bytes about followed.panel.names view followed.calls.items page'.calls.items
    → ShowsRun items c page end hand page'
shows items c page followed page' end hand view is seen keeps served = record {
  view = view;
  is_seen = seen;
  keeps = keeps;
  served =
      let panel : followed.panel.names ≡ page.panel.names = ap (λ (it : RunPage). it.panel.names) is in
      let calls : followed.calls.items ≡ page.calls.items = ap (λ (it : RunPage). it.calls.items) is in
      subst (λ (it : Names). ServesSome page_bytes state_bytes about it view page.calls.items page'.calls.items) panel
      (subst (λ (it : List Call). ServesSome page_bytes state_bytes about followed.panel.names view it page'.calls.items) calls served);
}
