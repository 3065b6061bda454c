-- Faults as plain data, and the results of calls.
use Rattle.std.specs.Prelude.{ℕ, List, Option, Some, None, Result, Ok, Err, IfSome, IsSome}
use Rattle.std.specs.Option.{option_map_or}
use Rattle.pg_types.specs.Content.{Content}
use Rattle.pg_types.specs.FaultTexts.{postgres_type, rust_name}
use Rattle.pg_types.specs.declared.fault.Fault.{Fault}
use Rattle.pg_types.specs.declared.fault.Fault.TheVariants.{Memory, WasNull, WrongType, Size, Utf8, Count}
use Rattle.pg_types.specs.declared.fault.Fault.TheVariants.{KeyLength, Dimensions, TooFew, Excess, Decode, Transmit}
use Rattle.pg_types.specs.declared.fault.Fault.TheVariants.{JsonVersion, TextVersion, JsonText, JsonNumber, Family}
use Rattle.pg_types.specs.declared.fault.Fault.TheVariants.{Netmask, AddressLength, HostBits, User, FieldCount, FieldOid}

-- a fault other than Memory, as plain data: which one it is, and the content of its fields
pub data Refusal : Type 0 where
  was_null : Refusal
  wrong_type : Content → List ℕ → Refusal
  size : Refusal
  utf8 : Refusal
  count : Refusal
  key_length : Refusal
  dimensions : Refusal
  too_few : ℕ → ℕ → Refusal
  excess : ℕ → Refusal
  decode : Refusal
  transmit : Refusal
  json_version : Refusal
  text_version : Refusal
  json_text : Refusal
  json_number : Refusal
  family : Refusal
  netmask : Refusal
  address_length : Refusal
  host_bits : Refusal
  user : List ℕ → Refusal
  field_count : Refusal
  field_oid : Refusal

-- the number of a fault
abbrev pub number_of : Refusal → ℕ
number_of was_null = 2
number_of (wrong_type ty rust) = 3
number_of size = 4
number_of utf8 = 5
number_of count = 6
number_of key_length = 7
number_of dimensions = 8
number_of (too_few expected got) = 9
number_of (excess expected) = 10
number_of decode = 11
number_of transmit = 12
number_of json_version = 13
number_of text_version = 14
number_of json_text = 15
number_of json_number = 16
number_of family = 17
number_of netmask = 18
number_of address_length = 19
number_of host_bits = 20
number_of (user text) = 21
number_of field_count = 22
number_of field_oid = 23

-- a fault as plain data; Memory is None, since it says nothing about the cell or the value
abbrev pub refusal_of : Fault → Option Refusal
refusal_of Memory = None
refusal_of WasNull = Some was_null
refusal_of (WrongType w) = Some (wrong_type (postgres_type w) (rust_name w))
refusal_of Size = Some size
refusal_of Utf8 = Some utf8
refusal_of Count = Some count
refusal_of KeyLength = Some key_length
refusal_of Dimensions = Some dimensions
refusal_of (TooFew expected got) = Some (too_few expected got)
refusal_of (Excess expected) = Some (excess expected)
refusal_of Decode = Some decode
refusal_of Transmit = Some transmit
refusal_of JsonVersion = Some json_version
refusal_of TextVersion = Some text_version
refusal_of JsonText = Some json_text
refusal_of JsonNumber = Some json_number
refusal_of Family = Some family
refusal_of Netmask = Some netmask
refusal_of AddressLength = Some address_length
refusal_of HostBits = Some host_bits
refusal_of (User text) = Some (user text)
refusal_of FieldCount = Some field_count
refusal_of FieldOid = Some field_oid

-- the number of a fault: that of its refusal, and 1 for Memory
abbrev pub code_of : Fault → ℕ
code_of fault = option_map_or number_of (refusal_of fault) 1

-- an outcome: a value, or a fault other than Memory
abbrev pub Outcome : Type 0 → Type 0
Outcome A = Result A Refusal

-- a result is an outcome that R allows, unless memory ran out
abbrev pub Answers : {A : Type 0} → (Outcome A → Type 0) → Result A Fault → Type 0
Answers R (Ok v) = R (Ok v)
Answers R (Err f) = IfSome (refusal_of f) (λ r. R (Err r))

-- a result is not Memory
abbrev pub NeverMemory : {A : Type 0} → Result A Fault → Type 0
NeverMemory (Ok v) = Unit {0}
NeverMemory (Err f) = IsSome (refusal_of f)
