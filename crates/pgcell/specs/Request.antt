-- What a line asks for.
use Rattle.std.specs.Prelude.{ℕ, Bool, ◌==◌, ◌&&◌, ◌^◌, List, [], ◌∷◌, length, Option, Some, None, option_map, option_and_then}
use Rattle.std.specs.Prelude.{Result, Ok, Err, if◌then◌else◌, codes, nat_lt}
use Rattle.std.specs.Str.{all_ascii_digits, is_utf8}
use Rattle.std.specs.Str.Parse.{digits_value}
use Rattle.hex.specs.Hex.{decode_of}
use Rattle.hex.specs.declared.error.FromHexError.{FromHexError}
use Rattle.postgres_types.specs.Cells.{Cell, cell_of}
use Rattle.std.specs.Cmp.Lexicographic.{pointwise}
use Rattle.named_types.specs.Names.{name_of}
use Rattle.named_types.specs.declared.name.Name.{Name}
use Rattle.pgcell.specs.declared.request.Request.{Request}
use Rattle.pgcell.specs.declared.request.Request.TheVariants.{Norm, TypeOf, Lsn}

-- two words are the same
abbrev pub same_word : List ℕ → List ℕ → Bool
same_word = pointwise ◌==◌

-- the bytes before the first separator and those after it, if there is one
abbrev pub split : ℕ → List ℕ → Option (List ℕ × List ℕ)
split separator [] = None
split separator (byte ∷ bytes) =
    if byte == separator then Some ([], bytes) else option_map (λ parts. (byte ∷ parts.0, parts.1))
    (split separator bytes)

-- the bytes that digits spell
abbrev pub digits_cell : Result (List ℕ) FromHexError → Option Cell
digits_cell (Ok bytes) = Some (Some bytes)
digits_cell (Err e) = None

-- the cell that a word spells: `NULL`, `-` for no bytes, or an even, positive number of hexadecimal digits
abbrev pub cell_of_word : List ℕ → Option Cell
cell_of_word word =
    if same_word word (codes "NULL") then Some None
    else if same_word word (codes "-") then Some (Some [])
    else if length word == 0 then None
    else digits_cell (decode_of word)

-- the OID in 1 to 10 decimal digits, at most 4294967295
abbrev pub oid_of_word : List ℕ → Option ℕ
oid_of_word word =
    if all_ascii_digits word && (nat_lt 0 (length word) &&
    (nat_lt (length word) 11 && nat_lt (digits_value 10 word) (2 ^ 32)))
    then Some (digits_value 10 word)
    else None

-- what is asked for: to rewrite a cell, to print a type, to print a log sequence number
pub data Command : Type 0 where
  norm : Name → Cell → Command
  type_of : ℕ → Command
  lsn : List ℕ → Command

-- `norm NAME CELL`
abbrev pub norm_of : List ℕ → Option Command
norm_of words =
    option_and_then (λ parts. option_and_then (λ name. option_map (norm name) (cell_of_word parts.1))
    (name_of parts.0)) (split 32 words)

-- `lsn TEXT`, the whole rest of the line, which is UTF-8
abbrev pub lsn_of_text : List ℕ → Option Command
lsn_of_text text = if is_utf8 text then Some (lsn text) else None

-- what a command and the rest of its line ask for
abbrev pub command_of : List ℕ → List ℕ → Option Command
command_of command rest =
    if same_word command (codes "norm") then norm_of rest
    else if same_word command (codes "type") then option_map type_of (oid_of_word rest)
    else if same_word command (codes "lsn") then lsn_of_text rest
    else None

-- what a line asks for: the command ends at the first space
abbrev pub request_of : List ℕ → Option Command
request_of line = option_and_then (λ parts. command_of parts.0 parts.1) (split 32 line)

-- what a request asks for
abbrev pub view : Request → Command
view (Norm name cell) = norm name (cell_of cell)
view (TypeOf oid) = type_of oid
view (Lsn text) = lsn text.now
