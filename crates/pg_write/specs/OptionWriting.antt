-- Writing an option.
use Rattle.std.specs.Prelude.{Option, Some, None, Ok}
use Rattle.pg_types.specs.declared.format.Format.{Format}
use Rattle.pg_types.specs.declared.format.Format.TheVariants.{Binary}
use Rattle.pg_base.specs.Appending.{Wire}

-- None is written as NULL, and Some as the value inside
abbrev pub wire_option : {A : Type 0} → (A → Wire) → Option A → Wire
wire_option wire None = Ok None
wire_option wire (Some v) = wire v

-- the format of the value inside; that of None is binary
abbrev pub format_option : {A : Type 0} → (A → Format) → Option A → Format
format_option format None = Binary
format_option format (Some v) = format v
