use Rattle.csv.specs.Records.{fields_of}
use Rattle.std.proofs.Common.{◌≡◌, [], ◌∷◌, ◌++◌, arith}
use Rattle.std.proofs.lemmas.Grind.{common_steps}
use Rattle.vdcp_list.proofs.PlaylistSteps.{columns_now, named_now, names_push}
use Rattle.vdcp_list.proofs.playlist.PlaylistMadeOfRows.add_row.Goals as goal
use Rattle.vdcp_list.proofs.playlist.PlaylistMadeOfRows.add_row.Goals.{then-place-eq1, else-place-eq1}
use Rattle.vdcp_list.specs.List.{items_of}
use Rattle.vdcp_list.specs.Playlists.{columns_of, has_parts}

pub returns-in-Ok-clause-made : goal.returns-in-Ok-clause-made
returns-in-Ok-clause-made c before h e =
    let row = fields_of c.args.row.now in
    let columns : c.if-place-eq1.self.columns ≡ columns_of (before ++ row ∷ []) =
    elim c.if-place-eq1.branch [
      | then-place-eq1 w ↦ columns_now before row c.args.place c.args.self.now.columns c.if-place-eq1.self.columns e h.1
          (λ one. grind (arith, common_steps)) (λ ne. absurd (ne w.if-place-eq1.true))
      | else-place-eq1 w ↦ columns_now before row c.args.place c.args.self.now.columns c.if-place-eq1.self.columns e h.1
          (λ one. absurd (w.if-place-eq1.false one)) (λ ne. grind (arith, common_steps))
    ] in
    let list : items_of c.if-place-eq1.self.list ≡ items_of c.args.self.now.list =
    elim c.if-place-eq1.branch [
      | then-place-eq1 w ↦ grind (arith, common_steps)
      | else-place-eq1 w ↦ grind (arith, common_steps)
    ] in
    let pushed : items_of c.push.new.self ≡ items_of c.args.self.now.list ++ c.in_ok-item.item ∷ [] =
    grind (arith, common_steps, list) in (
      rw (pushed, ← columns)
          (names_push c.args.rate (has_parts c.if-place-eq1.self.columns) before (items_of c.args.self.now.list) row
          c.in_ok-item.item (rw columns (named_now c.args.rate before row (items_of c.args.self.now.list) h.0))
          c.in_ok-item.ensures.row c.in_ok-item.ensures.can_name),
      columns,
    )
