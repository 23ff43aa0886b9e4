-- What the law of vdcp_list says of the rows that were read: the lemmas of this crate take it from a body that calls it.
use Rattle.std.specs.Prelude.{ℕ, ◌≡◌, Option, option_map, true, false, List, [], ◌∷◌, ◌++◌}
use Rattle.vdcp_list.specs.Reading.{IsFront, TakesRow}
use Rattle.vdcp_list.specs.Rows.{AreRowsOf, FileRow, HasRows, rows_of}

pub record RowLaws : Type 0 where
  pub none : (all : Option (List FileRow)) → IsFront all all []
  pub more : (all left left' : Option (List FileRow)) (front : List FileRow) (row : FileRow) → IsFront all left front
      → TakesRow left left' true row
      → IsFront all left' (front ++ row ∷ [])
  pub all : (file : Option (List ℕ)) (left left' : Option (List FileRow)) (front : List FileRow) (row : FileRow)
      → IsFront (option_map rows_of file) left front
      → TakesRow left left' false row → AreRowsOf file front
  pub begins : (file : Option (List ℕ)) (left : Option (List FileRow)) (front : List FileRow)
      → IsFront (option_map rows_of file) left front
      → HasRows file (λ rows. (rest : List FileRow) × (rows ≡ front ++ rest))
