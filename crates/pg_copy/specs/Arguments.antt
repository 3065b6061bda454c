-- What a command line asks for.
use Rattle.std.specs.Borrow.{Bor}
use Rattle.std.specs.Global.{Global}
use Rattle.std.specs.List.{AllZip, flat_map}
use Rattle.std.specs.Prelude.{◌≡◌, ◌≢◌, ◌⊎◌, ⊤, ◌==◌, ◌+◌, ◌<◌, ◌≤◌, ℕ, Bool, true, false, List, [], ◌∷◌, ◌++◌, Option}
use Rattle.std.specs.Prelude.{Some, None, String, codes, if◌then◌else◌, length, map, slice_index, string_bytes}
use Rattle.std.specs.Str.{trim}
use Rattle.pg_copy.specs.ColumnTypes.{IsColumnFault, IsColumnOf}
use Rattle.pg_copy.specs.Words.{pieces}
use Rattle.pg_copy.specs.declared.arguments.ArgumentFault.{ArgumentFault}
use Rattle.pg_copy.specs.declared.arguments.ArgumentFault.TheVariants as argument
use Rattle.pg_copy.specs.declared.arguments.RefusedType.{RefusedType}
use Rattle.pg_copy.specs.declared.arguments.Request.{Request}
use Rattle.pg_copy.specs.declared.arguments.Request.TheVariants as request
use Rattle.pg_copy.specs.declared.columns.Column.{Column}
use Rattle.pg_copy.specs.declared.columns.TypeFault.{TypeFault}
use Rattle.pg_copy.specs.declared.columns.TypeFault.TheVariants as refusal

-- whether a text is white space alone
abbrev pub is_blank : List ℕ → Bool
is_blank text = length (trim text) == 0

-- the parts of a word without a last one that is white space
abbrev pub without_blank_last : List (List ℕ) → List (List ℕ)
without_blank_last [] = []
without_blank_last (text ∷ []) = if is_blank text then [] else text ∷ []
without_blank_last (text ∷ other ∷ texts) = text ∷ without_blank_last (other ∷ texts)

-- the types in a word, which have commas between them; the last one may have a comma after it
abbrev pub types_of_word : List ℕ → List (List ℕ)
types_of_word word = without_blank_last (pieces word)

-- the types in the words of a command line
abbrev pub types_of_words : List (String Global) → List (List ℕ)
types_of_words words = flat_map (λ word. types_of_word (string_bytes word)) words

-- the texts
abbrev pub texts_of : List (Bor (List ℕ)) → List (List ℕ)
texts_of types = map (λ ty. ty.now) types

-- the greatest number of columns of a COPY: it is a signed number of two bytes
abbrev pub max_columns : ℕ
max_columns = 32767

-- a fault names a type by its column's number, without the white space around it
abbrev pub IsNamed : ℕ → List ℕ → Bool → RefusedType → Type 0
IsNamed number text is_nested refused =
    (refused.number ≡ number) × (string_bytes refused.name ≡ trim text) × (refused.is_nested ≡ is_nested)

-- why it is not taken
abbrev pub why : Bool → TypeFault
why true = refusal.Nested
why false = refusal.Unknown

-- the type with this number is not taken
abbrev pub IsRefusedType : ℕ → List ℕ → RefusedType → Type 0
IsRefusedType number text refused =
    (is_nested : Bool) × IsNamed number text is_nested refused × IsColumnFault text (why is_nested)

-- the type with this number is that of one more column, or is one more of those that are not taken
abbrev pub TakesType : ℕ → List ℕ → List Column → List RefusedType → List Column → List RefusedType → Type 0
TakesType number text columns refused new_columns new_refused =
    ((column : Column) × IsColumnOf text column × (new_columns ≡ columns ++ column ∷ []) × (new_refused ≡ refused))
    ⊎ ((ty : RefusedType) × IsRefusedType number text ty × (new_refused ≡ refused ++ ty ∷ []) × (new_columns ≡ columns))

-- the types from this number on are those of these columns, in order, but for those that are not taken
abbrev pub AreTypes : ℕ → List (List ℕ) → List Column → List RefusedType → Type 0
AreTypes number [] columns refused = (columns ≡ []) × (refused ≡ [])
AreTypes number (text ∷ texts) columns refused =
    ((column : Column) × (rest : List Column) × (columns ≡ column ∷ rest) × IsColumnOf text column
    × AreTypes (number + 1) texts rest refused)
    ⊎ ((ty : RefusedType) × (rest : List RefusedType) × (refused ≡ ty ∷ rest) × IsRefusedType number text ty
    × AreTypes (number + 1) texts columns rest)

-- why types are not those of columns: the fault names each that is not taken, in order; or an allocation failed
abbrev pub AreRefused : List (List ℕ) → ArgumentFault → Type 0
AreRefused texts argument.NoType = ⊥
AreRefused texts argument.TooManyTypes = ⊥
AreRefused texts (argument.Types refused) =
    ((columns : List Column) × AreTypes 1 texts columns refused.items) × (refused.items ≢ [])
AreRefused texts (argument.UnknownOption name) = ⊥
AreRefused texts argument.Memory = ⊤

-- the first word, which is empty if there is none
abbrev pub first_word : List (String Global) → List ℕ
first_word [] = []
first_word (word ∷ words) = string_bytes word

-- whether the first word is an option: it begins with a hyphen
abbrev pub has_option : List (String Global) → Bool
has_option words = slice_index (first_word words) 0 == 45

-- what words ask for: help, or a COPY with a column for each of their types
abbrev pub IsRequest : List (String Global) → Request → Type 0
IsRequest words request.Help = first_word words ≡ codes "--help"
IsRequest words (request.Copy columns) =
    (has_option words ≡ false) × AllZip IsColumnOf (types_of_words words) columns.items × (0 < length columns.items)
    × (length columns.items ≤ max_columns)

-- why words are refused: they begin with another option, have no type or too many, or some types are not taken
abbrev pub IsRefused : List (String Global) → ArgumentFault → Type 0
IsRefused words (argument.UnknownOption option) =
    (string_bytes option ≡ first_word words) × (has_option words ≡ true) × (first_word words ≢ codes "--help")
IsRefused words argument.NoType = (has_option words ≡ false) × (types_of_words words ≡ [])
IsRefused words argument.TooManyTypes = (has_option words ≡ false) × (max_columns < length (types_of_words words))
IsRefused words (argument.Types refused) =
    (has_option words ≡ false) × AreRefused (types_of_words words) (argument.Types refused)
IsRefused words argument.Memory = ⊤

-- what is left of a word to parse: nothing if it has no types, and else all of it
abbrev pub IsLeft : List ℕ → Option (Bor (List ℕ)) → Type 0
IsLeft text None = types_of_word text ≡ []
IsLeft text (Some rest) = (rest.now ≡ text) × (is_blank text ≡ false)
