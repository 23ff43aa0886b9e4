-- A read takes the first of the rows that are left.
use Rattle.csv.specs.Machine.{Read, next_record}
use Rattle.csv.specs.Reading.{default_config, NextIs, ReadsNext, ReadRecord, source_of, pending_of}
use Rattle.csv.specs.declared.error.ErrorKind.TheVariants as kinds
use Rattle.csv.specs.declared.error.ErrorKind.{ErrorKind}
use Rattle.csv.specs.declared.parser.State.{State}
use Rattle.csv.specs.declared.reader.Reader.{Reader}
use Rattle.std.proofs.Common.{◌≡◌, ℕ, Bool, List, [], ◌∷◌, refl, sym, ap, ◌∙◌}
use Rattle.std.specs.Prelude.{Option, None, Some, option_map}
use Rattle.vdcp_list.proofs.RowsLeft.{rows_from-some, rows_from-none}
use Rattle.vdcp_list.specs.Reading.{IsReadFault, TakesRow, fault_of_kind, rows_left}
use Rattle.vdcp_list.specs.Rows.{FileRow, rows_from}
use Rattle.vdcp_list.specs.declared.bounded.Bounded.{Bounded}

takes_next : (s s2 : State) (xs ys : List ℕ) (o : Option Read) (found : Bool) (fields : FileRow)
    → next_record default_config s [] [] xs ≡ o → NextIs o found fields s2 ys
    → TakesRow (Some (rows_from s xs)) (Some (rows_from s2 ys)) found fields
takes_next s s2 xs ys None found fields e h = rw h (rows_from-none s xs e)
takes_next s s2 xs ys (Some p) found fields e h =
    rw h.0 (
      rows_from s2 ys,
      refl,
      rows_from-some s xs p e ∙ ap (λ t. t ∷ rows_from p.1 p.2) (sym h.1)
          ∙ rw (h.2, h.3) refl,
    )

takes : (s s2 : State) (a b : Option (List ℕ)) (found : Bool) (fields : FileRow)
    → ReadsNext default_config s a b found fields s2
    → TakesRow (option_map (rows_from s) a) (option_map (rows_from s2) b) found fields
takes s s2 None b found fields h = tt
takes s s2 (Some xs) None found fields h = absurd h
takes s s2 (Some xs) (Some ys) found fields h = takes_next s s2 xs ys (next_record default_config s [] [] xs) found
    fields refl h

-- what a read of a record takes of the rows left
pub takes_row : {R : Type 0} (remaining : R → Option (List ℕ)) (old new : Reader (Bounded R)) (found : Bool)
    (fields : FileRow)
    → old.config ≡ default_config → ReadRecord (λ (b : Bounded R). remaining b.source) old new found fields
    → TakesRow (rows_left remaining old) (rows_left remaining new) found fields
takes_row {R} remaining old new found fields config h =
    let given : Bounded R → Option (List ℕ) = λ b. remaining b.source in
    let known : source_of given new ≡ pending_of (given new.rdr) new = rw h.1 refl in
    rw known (takes old.state new.state (source_of given old) (pending_of (given new.rdr) new) found fields
    (rw config at h.0))

-- a failure of csv is one of the reader or of memory
pub is_read_fault : (kind : ErrorKind) → IsReadFault (fault_of_kind kind)
is_read_fault kinds.OutOfMemory = tt
is_read_fault other = tt
