-- What a conversion of a user's own cites, in one import; operators come from the Prelude of std.
use Rattle.std.specs.Prelude.{◌≡◌, ℤ}
use Rattle.std.specs.Int.{w16, w32, w64}
use Rattle.pg_base.proofs.FormatLaws.{int2_grammar, int4_grammar, int8_grammar}
use Rattle.pg_base.specs.Numbers.{FormSigned, ReadsSigned, first_fault_number, wire_signed}
use Rattle.pg_read.specs.Reading.{ReadsSingle}
use Rattle.pg_read.specs.Laws.Reading.{plain_single}
use Rattle.postgres_types.specs.Laws.NumberBack.{signed_lawful}
use Rattle.postgres_types.specs.ReadingBack.{BackKept, IsLawful}
pub use Rattle.std.specs.Prelude.{ℤ, Option, Some, None, Bool, codes, int_le, int_lt, negsuc, pos, refl}
pub use Rattle.std.proofs.Common.{ap}
pub use Rattle.std.specs.Int.{w16, w32, w64}
pub use Rattle.pg_types.specs.Content.{is_row}
pub use Rattle.pg_types.specs.Faults.{Outcome, Refusal, user}
pub use Rattle.pg_types.specs.declared.types.built_in.BuiltIn.TheVariants.{Date, Int2, Int4, Int8, Timestamp}
pub use Rattle.pg_base.proofs.SamenessLaws.{content_equivalence, equal_equivalence, inside_equivalence}
pub use Rattle.pg_base.proofs.SamenessLaws.{option_equivalence}
pub use Rattle.pg_base.specs.Appending.{Wire}
pub use Rattle.pg_base.specs.Cells.{Cell}
pub use Rattle.pg_base.specs.Formats.{ReadsPlain}
pub use Rattle.pg_base.specs.Numbers.{FormSigned, FormUnsigned, ReadsSigned, ReadsUnsigned, first_fault_number}
pub use Rattle.pg_base.specs.Numbers.{wire_signed, wire_unsigned}
pub use Rattle.pg_base.specs.Sameness.{SameOption}
pub use Rattle.pg_read.specs.OptionReading.{ReadsOption}
pub use Rattle.pg_read.specs.Reading.{EveryCell, NullAlone, ReadsSingle}
pub use Rattle.pg_read.specs.Laws.Reading.{constrained_single, option_single, plain_single, through_single}
pub use Rattle.pg_read.specs.Views.{Constrained, ReadsConstrained, ReadsThrough, Through}
pub use Rattle.pg_write.specs.OptionWriting.{wire_option}
pub use Rattle.pg_write.specs.Writing.{wire_constrained}
pub use Rattle.postgres_types.specs.Laws.NumberBack.{signed_finite, signed_lawful, signed_written, unsigned_lawful}
pub use Rattle.postgres_types.specs.Laws.OptionBack.{option_lawful}
pub use Rattle.postgres_types.specs.Laws.Plain.{plain_lawful, under_checks}
pub use Rattle.postgres_types.specs.ReadingBack.{BackKept, BackOption, IsLawful}
pub use Rattle.postgres_types.specs.Laws.ViewBack.{constrained_finite, constrained_lawful, refusing_finite}
pub use Rattle.postgres_types.specs.Laws.ViewBack.{refusing_lawful}
pub use Rattle.postgres_types.specs.Laws.ViewBack.{through_finite, through_lawful}

-- equal numbers
abbrev pub Equal : ℤ → ℤ → Type 0
Equal v w = v ≡ w

-- a cell of INT2, of INT4, of INT8 has at most one outcome
pub int2_single : ReadsSingle Equal (ReadsSigned w16)
int2_single = plain_single Equal (FormSigned w16) (first_fault_number 2) int2_grammar

pub int4_single : ReadsSingle Equal (ReadsSigned w32)
int4_single = plain_single Equal (FormSigned w32) (first_fault_number 4) int4_grammar

pub int8_single : ReadsSingle Equal (ReadsSigned w64)
int8_single = plain_single Equal (FormSigned w64) (first_fault_number 8) int8_grammar

-- a number is read back as itself
pub int2_lawful : IsLawful Equal (ReadsSigned w16) (wire_signed w16) (BackKept Equal)
int2_lawful = signed_lawful w16 int2_grammar

pub int4_lawful : IsLawful Equal (ReadsSigned w32) (wire_signed w32) (BackKept Equal)
int4_lawful = signed_lawful w32 int4_grammar

pub int8_lawful : IsLawful Equal (ReadsSigned w64) (wire_signed w64) (BackKept Equal)
int8_lawful = signed_lawful w64 int8_grammar
