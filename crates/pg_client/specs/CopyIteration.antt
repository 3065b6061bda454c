-- The rows of a binary COPY as an iterator.
use Rattle.std.specs.Prelude.{◌≡◌, ◌+◌, ℕ, List, ⊤, length, Option, Some, None, Result, Ok, Err}
use Rattle.pg_base.specs.Cells.{Cell}
use Rattle.pg_client.specs.CopyReading.{HasRead, ReadsNext, RefusesNext, columns_in, left_of}
use Rattle.pg_client.specs.declared.copy_rows.CopyFault.{CopyFault}
use Rattle.pg_client.specs.declared.copy_rows.CopyRows.{CopyRows}
use Rattle.pg_client.specs.declared.row.Row.{Row}
use Rattle.pg_tuples.specs.Tuples.{IsCopy}

-- more than the rows to come
abbrev pub most_rows : Option CopyRows → ℕ
most_rows None = 0
most_rows (Some copy) = length (left_of copy) + 1

-- the next item, and the rows after it: a row; a refusal, after which none comes; or none, at the trailer or after a
-- refusal
abbrev pub Gives : Option CopyRows → Option (Result Row CopyFault) → Option CopyRows → Type 0
Gives (Some old) (Some (Ok row)) (Some new) =
    (columns_in new ≡ columns_in old)
    × ((bytes : List ℕ) (rows : List (List Cell)) → HasRead bytes rows old → ReadsNext bytes rows (Some row) new)
Gives (Some old) (Some (Err fault)) None = RefusesNext old fault
Gives (Some old) None None = (bytes : List ℕ) (rows : List (List Cell)) → HasRead bytes rows old → IsCopy rows bytes
Gives None None None = ⊤
Gives old item new = ⊥
