-- What a view of a kind stands for.
use Rattle.std.specs.Prelude.{string_bytes, map}
use Rattle.std.specs.Cow.{cow_value}
use Rattle.pg_types.specs.declared.types.kind.KindRef.{KindRef}
use Rattle.pg_types.specs.declared.types.kind.KindRef.TheVariants.{Simple, Enum, Pseudo, Array, Range, Multirange}
use Rattle.pg_types.specs.declared.types.kind.KindRef.TheVariants.{Domain, Composite}
use Rattle.pg_types.specs.Content.{KindContent, SimpleKind, EnumKind, PseudoKind, ArrayKind, RangeKind}
use Rattle.pg_types.specs.Content.{MultirangeKind, DomainKind, CompositeKind, content, fields_content}

-- what the view stands for, whether its parts are borrowed or owned
abbrev pub kind_ref_view : KindRef → KindContent
kind_ref_view Simple = SimpleKind
kind_ref_view (Enum labels) = EnumKind (map string_bytes labels.now)
kind_ref_view Pseudo = PseudoKind
kind_ref_view (Array inner) = ArrayKind (content (cow_value inner))
kind_ref_view (Range inner) = RangeKind (content (cow_value inner))
kind_ref_view (Multirange inner) = MultirangeKind (content (cow_value inner))
kind_ref_view (Domain inner) = DomainKind (content (cow_value inner))
kind_ref_view (Composite fields) = CompositeKind (fields_content fields.now)
