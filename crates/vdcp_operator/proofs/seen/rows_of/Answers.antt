use Rattle.std.proofs.Common.{◌≡◌, ◌<◌, map, ℕ, ◌+◌, List, ◌∷◌, ◌++◌, [], take, get_or, ap, sym, ◌∙◌, length}
use Rattle.std.proofs.lemmas.List.{map_more, map_push, take_all}
use Rattle.serde_json.proofs.Views.{view-Array}
use Rattle.serde_json.specs.Data.{Data, array}
use Rattle.serde_json.specs.View.{items_of, view}
use Rattle.serde_json.specs.declared.value.Value.{Value}
use Rattle.vdcp_operator.specs.Seen.{row_data}
use Rattle.vdcp_operator.specs.declared.seen.EventSeen.{EventSeen}
use Rattle.vdcp_operator.proofs.seen.rows_of.Goals as goal

-- one row more
row_more : (f : EventSeen → Data) (rows : List Value) (row : Value) (events : List EventSeen) (k : ℕ) (event : EventSeen)
    → map view rows ≡ map f (take k events) → view row ≡ f event → event ≡ get_or events k event → k < length events
    → map view (rows ++ row ∷ []) ≡ map f (take (k + 1) events)
row_more f rows row events k event so_far is at below =
    map_push view rows row ∙ ap (λ xs. xs ++ view row ∷ []) so_far ∙ ap (λ it. map f (take k events) ++ it ∷ []) is
    ∙ ap (λ it. map f (take k events) ++ f it ∷ []) at ∙ sym (map_more f events k event below)

pub loop-k-preserved : goal.loop-k-preserved
loop-k-preserved c =
    ap (map view) c.in_ok-push.ensures.items
    ∙ row_more (row_data c.args.rate c.args.clips.now c.args.left_out.now c.args.ahead) c.loop-k.rows.items c.in_ok-row.row
    c.args.events.now c.loop-k.k c.index-events-k.result c.loop-k.invariant c.in_ok-row.ensures c.index-events-k.is c.loop-k-test.true

pub returns : goal.returns
returns c =
    view-Array c.loop-k.rows
    ∙ ap (λ xs. array (items_of xs)) (c.loop-k.invariant
    ∙ ap (map (row_data c.args.rate c.args.clips.now c.args.left_out.now c.args.ahead))
    (take_all c.loop-k.k c.args.events.now c.loop-k-test.false))
