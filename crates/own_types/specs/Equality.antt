-- When values of composite types are equal: in each field.
use Rattle.std.specs.Prelude.{◌&&◌, ◌==◌, ℤ, Bool}
use Rattle.std.specs.Bool.{beq}
use Rattle.std.specs.Cmp.Lexicographic.{pointwise}
use Rattle.std.specs.Option.{option_eq}
use Rattle.std.specs.Ordering.{int_cmp, is_eq}
use Rattle.std.specs.String.{string_eq}
use Rattle.own_types.specs.declared.composite.Purchase.{Purchase}
use Rattle.own_types.specs.declared.nested_composite.Address.{Address}
use Rattle.own_types.specs.declared.nested_composite.Parcel.{Parcel}
use Rattle.pg_record.specs.contracts.inventory_item.InventoryItemPartialEq.TheImpl.{ghosts as items}

-- whether two addresses have the same street and city
abbrev pub same_address : Address → Address → Bool
same_address a b = string_eq a.street b.street && string_eq a.city b.city

-- whether two parcels have the same label, and the same addresses in the same order
abbrev pub same_parcel : Parcel → Parcel → Bool
same_parcel a b =
    string_eq a.label b.label
    && (same_address a.bill_to.0 b.bill_to.0
    && pointwise (λ c d. same_address c.0 d.0) a.ship_to.items b.ship_to.items)

-- whether two integers are the same
abbrev same_integer : ℤ → ℤ → Bool
same_integer m n = is_eq (int_cmp m n)

-- whether two purchases have the same value in each field; of items `same_item` of pg_record says what that means
abbrev pub same_purchase : Purchase → Purchase → Bool
same_purchase a b =
    same_integer a.id b.id
    && (string_eq a.customer b.customer
    && (beq a.paid b.paid
    && ((same_integer a.placed.secs b.placed.secs && (a.placed.nanos == b.placed.nanos))
    && (option_eq same_integer a.discount b.discount
    && (pointwise string_eq a.tags.items b.tags.items
    && (items.eq a.gift b.gift && pointwise items.eq a.items.items b.items.items))))))
