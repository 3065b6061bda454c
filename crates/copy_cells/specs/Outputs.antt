-- What the program leaves, by its direction.
use Rattle.std.specs.Prelude.{◌≢◌, ℕ, List, Option}
use Rattle.streams.specs.Answers.{LinesAre}
use Rattle.pg_tuples.specs.Tuples.{IsNoCopy}
use Rattle.pg_copy.specs.Outputs.{EndsIn, WritesPart, WritesWhole}
use Rattle.pg_copy.specs.Refusals.{StopsAfter}
use Rattle.pg_copy.specs.Rows.{IsCopyOf, IsFaultLine, OfInput, StartsCopyOf}
use Rattle.pg_copy.specs.WrittenRows.{CopyOf, Stops}
use Rattle.pg_copy.specs.declared.columns.Column.{Column}
use Rattle.pg_copy.specs.declared.copy_fault.CopyFault.{CopyFault}
use Rattle.pg_copy.specs.declared.copy_fault.CopyFault.TheVariants as fault
use Rattle.copy_cells.specs.declared.Direction.{Direction}
use Rattle.copy_cells.specs.declared.Direction.TheVariants.{Read, Write}

-- the whole input is converted: the lines of a binary COPY, or a binary COPY of the lines
abbrev pub Converts : Direction → List Column → Option (List ℕ) → Option (List ℕ) → Option (List ℕ) → Type 0
Converts Read columns input old new = OfInput input (λ bytes. WritesWhole (IsCopyOf columns bytes) old new)
Converts Write columns input old new =
    (lines : List (List ℕ)) × LinesAre input lines × WritesWhole (CopyOf columns lines) old new

-- what is left where a fault stops it: the lines of the rows before the fault, and that of the fault; or what is no
-- binary COPY, with the tuples of the lines before it. A failed write leaves a prefix
abbrev pub Leaves : Direction → List Column → CopyFault → Option (List ℕ) → Option (List ℕ) → Option (List ℕ)
    → Option (List ℕ) → Type 0
Leaves Read columns e input left old new =
    OfInput input (λ bytes. WritesPart (EndsIn (StartsCopyOf columns bytes) IsFaultLine) old new)
    × (e ≢ fault.Write
    → OfInput input (λ bytes. WritesWhole (EndsIn (StartsCopyOf columns bytes) IsFaultLine) old new)
    × OfInput input (λ bytes. WritesWhole (EndsIn (λ lines. StopsAfter columns bytes lines e) IsFaultLine) old new))
Leaves Write columns e input left old new =
    Stops columns input left old new e
    × (e ≢ fault.TooManyColumns → e ≢ fault.Write → WritesWhole IsNoCopy old new)
