-- Steps of rewriting a cell of one value.
use Rattle.std.specs.Prelude.{◌≡◌, ◌≢◌, ◌==◌, ◌≤◌, ℕ, List, [], ◌∷◌, ◌++◌, length, pos, Bool, true, false, not}
use Rattle.std.specs.Prelude.{Option, Some, None, Ok, Err, IfSome, IsSome, refl}
use Rattle.std.specs.Option.{option_map_or}
use Rattle.std.specs.Int.{w32}
use Rattle.std.proofs.Common.{arith, ap, sym, subst, cond, ◌∙◌, inl, inr}
use Rattle.std.proofs.lemmas.Bool.Decides.{nat_tests}
use Rattle.std.proofs.lemmas.Int.{ints}
use Rattle.pg_base.proofs.BitLemmas.{first_bits_len}
use Rattle.pg_base.proofs.BitsLaws.{bits_grammar}
use Rattle.pg_base.proofs.CountLaws.{number_then}
use Rattle.pg_base.proofs.FormatLaws.{bool_grammar, passes_number}
use Rattle.pg_base.specs.Bits.{SpellsBits, bytes_for, first_bits, packed}
use Rattle.pg_base.specs.Cells.{be, max_length}
use Rattle.pg_base.specs.Counts.{after_number}
use Rattle.pg_base.specs.Formats.{Decodes}
use Rattle.pg_base.specs.Network.{FormInet, Network}
use Rattle.pg_base.specs.Numbers.{FormBool}
use Rattle.pg_base.proofs.BitCells.{cell_within}
use Rattle.pg_cells_c.specs.Kinds.{WritesOutcome, bit_count, bytes_of_kind, fault_of_kind, rewritten}
use Rattle.pg_cells_c.specs.Readings.{ReadsInto}
use Rattle.pg_cells_c.specs.Writings.{WritesCell, WritesInto, wire_first_bits}
use Rattle.pg_cells_c.specs.declared.rewrite.kinds.Kind.{Kind}
use Rattle.pg_cells_c.specs.declared.rewrite.kinds.Kind.TheVariants as kind
use Rattle.pg_types.specs.Faults.{Outcome, Refusal, code_of, number_of, refusal_of, size, was_null}
use Rattle.pg_types.specs.declared.fault.Fault.{Fault}

-- a cell that fails no check is written anew
pub kind_written : (k : Kind) (b old new : List ℕ) (n : ℕ) → fault_of_kind k b ≡ None
    → WritesInto (bytes_of_kind k b) old new n → WritesOutcome (rewritten k b) old new (Ok n)
unfolding WritesOutcome
kind_written k b old new n sound h = rw sound h

-- and one that fails is refused
pub kind_fails : (k : Kind) (b old new : List ℕ) (n : ℕ) (r : Refusal) → fault_of_kind k b ≡ Some r → new ≡ old
    → n ≡ number_of r → WritesOutcome (rewritten k b) old new (Err n)
unfolding WritesOutcome
kind_fails k b old new n r fails same number = rw fails (same, number)

kind_refused_by : (k : Kind) (b old new : List ℕ) (n : ℕ) (fault : Option Refusal)
    → IfSome fault (λ r. fault_of_kind k b ≡ Some r) → IsSome fault → n ≡ option_map_or number_of fault 1 → new ≡ old
    → WritesOutcome (rewritten k b) old new (Err n)
kind_refused_by k b old new n (Some r) fails is number same = kind_fails k b old new n r fails same number
kind_refused_by k b old new n None fails is number same = absurd (cc)

pub kind_refused : (k : Kind) (b old new : List ℕ) (n : ℕ) (f : Fault)
    → IfSome (refusal_of f) (λ r. fault_of_kind k b ≡ Some r) → IsSome (refusal_of f) → n ≡ code_of f → new ≡ old
    → WritesOutcome (rewritten k b) old new (Err n)
kind_refused k b old new n f = kind_refused_by k b old new n (refusal_of f)

-- the byte of a boolean
abbrev pub one_or_zero : Bool → ℕ
one_or_zero t = cond t 1 0

bool_byte : (is_zero : Bool) → one_or_zero (not is_zero) ≡ cond is_zero 0 1
bool_byte true = refl
bool_byte false = refl

-- a boolean is written as 0 or 1
pub bool_written : (b old new : List ℕ) (v : Bool) (n : ℕ) → FormBool b v → WritesInto (one_or_zero v ∷ []) old new n
    → WritesOutcome (rewritten kind.Bool b) old new (Ok n)
bool_written b old new v n form h =
    let cell : one_or_zero v ∷ [] ≡ bytes_of_kind kind.Bool b =
    ap (λ x. x ∷ []) (ap one_or_zero form.2 ∙ bool_byte (form.0 == 0)) ∙ ap (bytes_of_kind kind.Bool) (sym form.1) in
    kind_written kind.Bool b old new n (bool_grammar.passes b v form) (subst (λ c. WritesInto c old new n) cell h)

-- bits are written with a pad of zeros
pub bits_rewritten : (b p old new : List ℕ) (m n : ℕ) → SpellsBits b (first_bits m p) → p ≡ after_number b
    → length p ≡ bytes_for m → WritesCell (wire_first_bits m p) old new n
    → WritesOutcome (rewritten kind.Bits b) old new (Ok n)
unfolding WritesCell
bits_rewritten b p old new m n form place whole h =
    let len : length (first_bits m p) ≡ m = first_bits_len m p in
    let number = number_then b form.count_prefix form.bits_bytes (pos (length (first_bits m p))) form.is form.counts in
    let few : m ≤ max_length = omega (arith, ints, len, form.counts.0) in
    let same : (length p == bytes_for m) ≡ true = grind (arith, nat_tests) in
    let bits : bit_count b ≡ m = (rw number.number refl) ∙ len in
    let cell : be w32 (pos m) ++ packed (first_bits m p) ≡ bytes_of_kind kind.Bits b =
    ap (λ x. be w32 (pos x) ++ packed (first_bits x p)) (sym bits)
    ∙ ap (λ x. be w32 (pos (bit_count b)) ++ packed (first_bits (bit_count b) x)) place in
    let written : WritesInto (be w32 (pos m) ++ packed (first_bits m p)) old new n =
    rw (same, cell_within m p few) at h in
    kind_written kind.Bits b old new n ((bits_grammar (λ v. v)).passes b (first_bits m p) form)
    (subst (λ c. WritesInto c old new n) cell written)

-- bytes of another length are refused
pub fixed_refused : (width : ℕ) (b old new : List ℕ) (n : ℕ) → length b ≢ width → new ≡ old → n ≡ number_of size
    → WritesOutcome (rewritten (kind.Fixed width) b) old new (Err n)
fixed_refused width b old new n other same number =
    let no : (length b == width) ≡ false = grind (arith, nat_tests) in
    kind_fails (kind.Fixed width) b old new n size (rw no refl) same number

-- bytes of that length are written as they are
pub fixed_written : (width : ℕ) (b old new : List ℕ) (n : ℕ) → length b ≡ width → WritesInto b old new n
    → WritesOutcome (rewritten (kind.Fixed width) b) old new (Ok n)
fixed_written width b old new n whole h = kind_written (kind.Fixed width) b old new n (passes_number width b whole) h

-- every fault has a number
number_positive : (r : Refusal) → 0 ≡ number_of r → ⊥
number_positive was_null e = cc
number_positive r e = cc

-- where a reader answers 0 a value was read
pub read_value : {A : Type 0} (R : Outcome A → Type 0) (old new : A) (code : ℕ) → ReadsInto R old new code → code ≡ 0
    → R (Ok new)
unfolding ReadsInto
read_value R old new code reads zero =
    elim reads [
      | inl h ↦ h.1
      | inr h ↦ absurd (number_positive h.0 (sym zero ∙ h.1))
    ]

-- and else the answer is the number of the fault
pub read_refused : {A : Type 0} (k : Kind) (form : List ℕ → A → Type 0) (b out : List ℕ) (old new : A) (code : ℕ)
    → ReadsInto (Decodes form (fault_of_kind k) b) old new code → code ≢ 0
    → WritesOutcome (rewritten k b) out out (Err code)
unfolding ReadsInto
read_refused k form b out old new code reads other =
    elim reads [
      | inl h ↦ absurd (other h.0)
      | inr h ↦ kind_fails k b out out code h.0 h.2 refl h.1
    ]

-- the cell of an address has a head
pub has_head : (b : List ℕ) (n : Network) → FormInet b n → 4 ≤ length b
has_head b n form =
    let len = ap length form.is in omega (arith, len)
