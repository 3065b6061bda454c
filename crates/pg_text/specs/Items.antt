-- What the text of an item of an array, or of a field of a composite value, stands for (array_in, record_in).
use Rattle.std.specs.Prelude.{◌≡◌, ◌<◌, ◌==◌, ◌||◌, ℕ, Bool, true, false, List, [], ◌∷◌, ◌++◌, length, if◌then◌else◌}
use Rattle.std.specs.Prelude.{Option, Some, None, option_map}
use Rattle.pg_text.specs.Quotes.{is_null_word, is_space}
use Rattle.pg_text.specs.declared.items.Items.{Items}
use Rattle.pg_text.specs.declared.items.Items.TheVariants.{OfArray, OfRecord}
use Rattle.pg_text.specs.declared.items.Place.{Place}
use Rattle.pg_text.specs.declared.items.Place.TheVariants.{Start, Plain, Quoted, Closed, PlainEscaped, QuotedEscaped}
use Rattle.pg_text.specs.declared.items.Step.{Step}
use Rattle.pg_text.specs.declared.items.Step.TheVariants.{Take, Pass, End, Refuse}

-- a byte that is allowed in an item only in quotes or after a backslash: a brace or white space in an array, and a
-- parenthesis in a composite value
abbrev pub needs_quotes : Items → ℕ → Bool
needs_quotes OfArray byte = byte == 123 || byte == 125 || is_space byte
needs_quotes OfRecord byte = byte == 40 || byte == 41

-- a byte before the text, if there is one
abbrev pub prepend : ℕ → Option (List ℕ) → Option (List ℕ)
prepend byte said = option_map (λ rest. byte ∷ rest) said

-- what a byte outside quotes and those after it stand for, given what they stand for after a quote, after a backslash,
-- and after any other byte, which stands for itself; but a comma and a byte that needs quotes are not allowed there
abbrev pub without_quotes : Items → ℕ → Option (List ℕ) → Option (List ℕ) → Option (List ℕ) → Option (List ℕ)
without_quotes items byte quoted escaped plain =
    if byte == 34 then quoted
    else if byte == 92 then escaped
    else if byte == 44 || needs_quotes items byte then None
    else prepend byte plain

-- what the rest of the text of an item stands for, if anything: at its start, after bytes outside quotes, within
-- quotes, after the quote that ended them, or after a backslash, which takes the next byte. An item of an array is
-- quoted as a whole, or not at all. In a composite value quotes begin anywhere, and two within quotes are one
abbrev pub said_from : Items → Place → List ℕ → Option (List ℕ)
said_from items Start [] = Some []
said_from items Plain [] = Some []
said_from items Closed [] = Some []
said_from items place [] = None
said_from items PlainEscaped (byte ∷ text) = prepend byte (said_from items Plain text)
said_from items QuotedEscaped (byte ∷ text) = prepend byte (said_from items Quoted text)
said_from items Quoted (byte ∷ text) =
    if byte == 34 then said_from items Closed text
    else if byte == 92 then said_from items QuotedEscaped text
    else prepend byte (said_from items Quoted text)
said_from items Start (byte ∷ text) =
    without_quotes items byte (said_from items Quoted text) (said_from items PlainEscaped text)
    (said_from items Plain text)
said_from OfArray Plain (byte ∷ text) =
    without_quotes OfArray byte None (said_from OfArray PlainEscaped text) (said_from OfArray Plain text)
said_from OfRecord Plain (byte ∷ text) =
    without_quotes OfRecord byte (said_from OfRecord Quoted text) (said_from OfRecord PlainEscaped text)
    (said_from OfRecord Plain text)
said_from OfArray Closed (byte ∷ text) = None
said_from OfRecord Closed (byte ∷ text) =
    without_quotes OfRecord byte (prepend byte (said_from OfRecord Quoted text))
    (said_from OfRecord PlainEscaped text) (said_from OfRecord Plain text)

-- whether the text of an item is NULL: in an array the word NULL without quotes or a backslash, and in a composite
-- value the empty text
abbrev pub is_null : Items → List ℕ → Bool
is_null OfArray text = is_null_word text
is_null OfRecord text = length text == 0

-- what the text of an item stands for; None is NULL, and only the text of NULL is empty
abbrev pub SaysItem : Items → List ℕ → Option (List ℕ) → Type 0
SaysItem items text None = is_null items text ≡ true
SaysItem items text (Some said) =
    (is_null items text ≡ false) × (0 < length text) × (said_from items Start text ≡ Some said)

-- what an item stands for: these bytes, or NULL
abbrev pub unless_null : Bool → List ℕ → Option (List ℕ)
unless_null is_null bytes = if is_null then None else Some bytes

-- the text of an item was at the front of the old text, followed by a comma and the new text, or by nothing
abbrev pub EndsItem : Bool → List ℕ → List ℕ → List ℕ → Type 0
EndsItem true text old new = old ≡ text ++ 44 ∷ new
EndsItem false text old new = (old ≡ text) × (new ≡ [])

-- an item that stands for this was taken from the front
abbrev pub TakesItem : Items → List ℕ → List ℕ → Bool → Option (List ℕ) → Type 0
TakesItem items old new has_comma said =
    (text : List ℕ) × SaysItem items text said × EndsItem has_comma text old new

-- no item is at the front
abbrev pub NoItem : Items → List ℕ → Type 0
NoItem items text =
    (rest : List ℕ) (has_comma : Bool) (said : Option (List ℕ)) → TakesItem items text rest has_comma said → ⊥

-- whether an item may end in this state
abbrev pub may_end : Place → Bool
may_end Start = true
may_end Plain = true
may_end Closed = true
may_end place = false

-- what the text stands for, if a byte comes next and means this
abbrev pub said_after : Items → ℕ → Step → List ℕ → Option (List ℕ)
said_after items byte (Take place) text = prepend byte (said_from items place text)
said_after items byte (Pass place) text = said_from items place text
said_after items byte End text = None
said_after items byte Refuse text = None

-- the item ends at a comma, and at each comma where it may
abbrev pub EndsAt : Place → ℕ → Step → Type 0
EndsAt place byte End = (byte ≡ 44) × (may_end place ≡ true)
EndsAt place byte step = byte ≡ 44 → may_end place ≡ true → ⊥
