-- The types of arrays, which lists are read from and written to.
use Rattle.std.specs.Prelude.{Option, Some, None, Bool, false}
use Rattle.pg_types.specs.Content.{Content, KindContent, SimpleKind, EnumKind, PseudoKind, ArrayKind, RangeKind}
use Rattle.pg_types.specs.Content.{MultirangeKind, DomainKind, CompositeKind, kind_of}

-- the element type of a kind
abbrev pub element_of_kind : KindContent → Option Content
element_of_kind SimpleKind = None
element_of_kind (EnumKind _) = None
element_of_kind PseudoKind = None
element_of_kind (ArrayKind element) = Some element
element_of_kind (RangeKind _) = None
element_of_kind (MultirangeKind _) = None
element_of_kind (DomainKind _) = None
element_of_kind (CompositeKind _) = None

-- the element type of an array; another type has none
abbrev pub element_of : Content → Option Content
element_of ty = element_of_kind (kind_of ty)

-- there is an element type, and it is accepted
abbrev pub accepted_element : (Content → Bool) → Option Content → Bool
accepted_element inside None = false
accepted_element inside (Some element) = inside element

-- lists accept an array whose element type their elements accept
abbrev pub accepted_list : (Content → Bool) → Content → Bool
accepted_list inside ty = accepted_element inside (element_of ty)
