-- What a name is.
use Rattle.std.specs.Prelude.{ℕ, ◌-◌, Bool, true, false, List, length, take, Option, Some, option_map}
use Rattle.std.specs.Prelude.{if◌then◌else◌, codes, nat_eq}
use Rattle.std.specs.List.{ends_with}
use Rattle.named_types.specs.BaseNames.{base_of}
use Rattle.named_types.specs.declared.name.Form.{Form}
use Rattle.named_types.specs.declared.name.Form.TheVariants.{Plain, Optional, Array, OptionalArray}
use Rattle.named_types.specs.declared.name.Name.{Name}

-- the bytes of the base name and the form of a name: `?`, `[]`, `?[]` or nothing follows the base name
abbrev pub form_of : List ℕ → List ℕ × Form
form_of word =
    if ends_with nat_eq word (codes "?[]") then (take (length word - 3) word, OptionalArray)
    else if ends_with nat_eq word (codes "[]") then (take (length word - 2) word, Array)
    else if ends_with nat_eq word (codes "?") then (take (length word - 1) word, Optional)
    else (word, Plain)

-- the base name and the form of a name
abbrev pub name_of : List ℕ → Option Name
name_of word = option_map (λ base. record { base = base; form = (form_of word).1 }) (base_of (form_of word).0)

-- a form of arrays
abbrev pub is_array : Form → Bool
is_array Plain = false
is_array Optional = false
is_array Array = true
is_array OptionalArray = true

-- the type for a form, given a type and the type of its arrays
abbrev pub picked : {A : Type 0} → Form → A → Option A → Option A
picked Plain own arrays = Some own
picked Optional own arrays = Some own
picked Array own arrays = arrays
picked OptionalArray own arrays = arrays
