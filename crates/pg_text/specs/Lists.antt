-- The texts of lists of values.
use Rattle.std.specs.Prelude.{◌≡◌, ◌⊎◌, ℕ, ◌==◌, List, [], ◌∷◌, ◌++◌, codes, map, Option, Some, None, if◌then◌else◌}
use Rattle.std.specs.List.{All, AllZip, join_with_byte, slice_split}
use Rattle.std.specs.Prelude.{IfSome}
use Rattle.std.specs.Str.{IsUtf8}
use Rattle.pg_text.specs.Items.{SaysItem}
use Rattle.pg_text.specs.Quotes.{element_text}
use Rattle.pg_text.specs.declared.items.Items.TheVariants.{OfArray}

-- the byte before each item but the first
abbrev pub separator : ℕ → ℕ → List ℕ
separator byte place = if place == 0 then [] else byte ∷ []

-- INT2VECTOR, OIDVECTOR (int2vectorout, oidvectorout): the numbers with spaces between
abbrev pub vector_text : {A : Type 0} → (A → List ℕ) → List A → List ℕ
vector_text text numbers = join_with_byte 32 (map text numbers)

-- what is parsed as a vector (int2vectorin, oidvectorin)
abbrev pub SaysVector : {A : Type 0} → (List ℕ → A → Type 0) → List ℕ → List A → Type 0
SaysVector says text numbers =
    (texts : List (List ℕ)) × (text ≡ join_with_byte 32 texts) × AllZip says texts numbers

-- there are no numbers, or what is between the spaces is parsed
abbrev pub ParsesVector : (List ℕ → Type 0) → List ℕ → Type 0
ParsesVector parses text = (text ≡ []) ⊎ All parses (slice_split (λ byte. byte == 32) text)

-- the text of an element, quoted if it has to be, and NULL for NULL (array_out)
abbrev pub ShowsElement : {A : Type 0} → (A → List ℕ → List ℕ → Type 0) → Option A → List ℕ → Type 0
ShowsElement shows None item = item ≡ codes "NULL"
ShowsElement shows (Some v) item = (text : List ℕ) × shows v [] text × (item ≡ element_text text)

-- an array of one dimension: the elements in braces, with commas between (array_out)
abbrev pub ShowsArray : {A : Type 0} → (A → List ℕ → List ℕ → Type 0) → List (Option A) → List ℕ → List ℕ → Type 0
ShowsArray shows elements old new =
    (items : List (List ℕ))
    × AllZip (ShowsElement shows) elements items
    × (new ≡ old ++ (123 ∷ (join_with_byte 44 items ++ 125 ∷ [])))

-- NULL stands for NULL, and a text for a value
abbrev pub SaysValue : {A : Type 0} → (List ℕ → A → Type 0) → Option (List ℕ) → Option A → Type 0
SaysValue says None None = Unit {0}
SaysValue says (Some text) (Some v) = says text v
SaysValue says said v = ⊥

-- what the text of an element stands for: NULL, or a text, which stands for the value (array_in)
abbrev pub SaysElement : {A : Type 0} → (List ℕ → A → Type 0) → List ℕ → Option A → Type 0
SaysElement says item v = (said : Option (List ℕ)) × SaysItem OfArray item said × SaysValue says said v

-- what is parsed as an array of one dimension (array_in)
abbrev pub SaysArray : {A : Type 0} → (List ℕ → A → Type 0) → List ℕ → List (Option A) → Type 0
SaysArray says text elements =
    (items : List (List ℕ))
    × (text ≡ 123 ∷ (join_with_byte 44 items ++ 125 ∷ []))
    × AllZip (SaysElement says) items elements

-- the text of an element is NULL, or stands for UTF-8 that is parsed
abbrev pub ParsesElement : (List ℕ → Type 0) → List ℕ → Type 0
ParsesElement parses item =
    (said : Option (List ℕ)) × SaysItem OfArray item said × IfSome said (λ text. IsUtf8 text × parses text)

-- an array of one dimension, each element of which is parsed
abbrev pub ParsesArray : (List ℕ → Type 0) → List ℕ → Type 0
ParsesArray parses text =
    (items : List (List ℕ))
    × (text ≡ 123 ∷ (join_with_byte 44 items ++ 125 ∷ []))
    × All (ParsesElement parses) items
