-- Steps of writers: bytes go to the front of a buffer.
use Rattle.std.specs.Prelude.{◌≡◌, ℕ, ◌+◌, ◌<◌, ◌≤◌, List, [], ◌∷◌, ◌++◌, length, drop, nat_le, true, false, refl}
use Rattle.std.specs.Prelude.{Bool, IsUtf8, Some, ℤ, pos}
use Rattle.std.specs.Int.{w32, w64}
use Rattle.std.specs.Str.{is_utf8}
use Rattle.pg_base.specs.Cells.{be, fits_prefix, frame, max_length, versioned_cell}
use Rattle.pg_base.specs.Appending.{wire_of}
use Rattle.pg_base.specs.Interval.{interval_bytes}
use Rattle.pg_base.specs.Network.{family_len}
use Rattle.pg_base.specs.Texts.{wire_text}
use Rattle.pg_base.proofs.TextLemmas.{wire_utf8, not_utf8}
use Rattle.std.proofs.Common.{arith, ap, sym, subst, ◌∙◌, append_assoc}
use Rattle.std.proofs.lemmas.List.{append-nil, drop-drop, length-append}
use Rattle.std.proofs.lemmas.Bool.Decides.{nat_tests}
use Rattle.pg_cells_c.specs.Networks.{is_inet, octets_in, wire_inet_parts}
use Rattle.pg_cells_c.specs.declared.network.Inet.{Inet}
use Rattle.pg_cells_c.specs.Writings.{WritesCell, WritesInto, no_cell}

-- there is room for the bytes
pub written : (b old new : List ℕ) (len : ℕ) → new ≡ b ++ drop (length b) old → length b ≤ length old → len ≡ length b
    → WritesInto b old new len
unfolding WritesInto
written b old new len is room count =
    let fits : nat_le (length b) (length old) ≡ true = grind (arith, nat_tests) in (rw fits is, count)

-- there is none
pub not_written : (b old new : List ℕ) (len : ℕ) → new ≡ old → length old < length b → len ≡ length b
    → WritesInto b old new len
unfolding WritesInto
not_written b old new len is no_room count =
    let long : nat_le (length b) (length old) ≡ false = grind (arith, nat_tests) in (rw long is, count)

-- bytes that are no text are not UTF-8
pub no_utf8 : (text : List ℕ) → (IsUtf8 text → ⊥) → is_utf8 text ≡ false
no_utf8 text = not_utf8 text (is_utf8 text) refl

-- how many bytes three parts have
parts_len : (a b c : List ℕ) → length (a ++ b ++ c) ≡ length a + length b + length c
parts_len a b c = rw (length-append, length-append) refl

-- three parts are written, one after another
pub parts_written : (a b c old new : List ℕ) (len : ℕ)
    → new ≡ a ++ (b ++ (c ++ drop (length c) (drop (length b) (drop (length a) old))))
    → length a + length b + length c ≤ length old → len ≡ length a + length b + length c
    → WritesInto (a ++ b ++ c) old new len
parts_written a b c old new len is room count =
    let sum : length a + (length b + length c) ≡ length (a ++ b ++ c) = omega (arith, parts_len a b c) in
    let rest : drop (length c) (drop (length b) (drop (length a) old)) ≡ drop (length (a ++ b ++ c)) old =
    drop-drop (length c) (length b) (drop (length a) old) ∙ drop-drop (length b + length c) (length a) old
    ∙ ap (λ n. drop n old) sum in
    let joined = is ∙ ap (λ r. a ++ (b ++ (c ++ r))) rest ∙ sym (append_assoc a b (c ++ drop (length (a ++ b ++ c)) old))
    ∙ sym (append_assoc (a ++ b) c (drop (length (a ++ b ++ c)) old)) in
    written (a ++ b ++ c) old new len joined (omega (arith, parts_len a b c)) (count ∙ sym (parts_len a b c))

-- there is no room for them
pub parts_not_written : (a b c old new : List ℕ) (len : ℕ) → new ≡ old
    → length old < length a + length b + length c → len ≡ length a + length b + length c
    → WritesInto (a ++ b ++ c) old new len
parts_not_written a b c old new len is no_room count =
    not_written (a ++ b ++ c) old new len is (omega (arith, parts_len a b c)) (count ∙ sym (parts_len a b c))

-- a text is written as its cell
pub text_written : (versioned : Bool) (text old new : List ℕ) (len : ℕ)
    → WritesInto (versioned_cell versioned text) old new len → IsUtf8 text
    → WritesCell (wire_text versioned text) old new len
unfolding WritesCell
text_written versioned text old new len written is_text = rw (wire_utf8 versioned text is_text) written

-- what is no UTF-8 has no cell
pub no_text : (versioned : Bool) (text old new : List ℕ) (len : ℕ) → (IsUtf8 text → ⊥) → new ≡ old → len ≡ no_cell
    → WritesCell (wire_text versioned text) old new len
unfolding WritesCell
no_text versioned text old new len not_text is count =
    let other : is_utf8 text ≡ false = no_utf8 text not_text in rw other (is, count)

-- the parts of an interval are written as its cell
pub interval_written : (a b c : List ℕ) (microseconds days months : ℤ) (old new : List ℕ) (len : ℕ)
    → WritesInto (a ++ b ++ c) old new len → a ≡ be w64 microseconds → b ≡ be w32 days → c ≡ be w32 months
    → WritesInto (interval_bytes microseconds days months) old new len
interval_written a b c microseconds days months old new len h first second third =
    subst (λ t. WritesInto t old new len)
    (ap (λ x. x ++ b ++ c) first ∙ ap (λ x. be w64 microseconds ++ x ++ c) second
    ∙ ap (λ x. be w64 microseconds ++ be w32 days ++ x) third) h

-- an address is written with its netmask
pub inet_written : (v : Inet) (old new : List ℕ) (len : ℕ) → is_inet v ≡ true
    → WritesInto (v.family ∷ v.netmask ∷ 0 ∷ family_len v.family ∷ octets_in v) old new len
    → WritesCell (wire_inet_parts v) old new len
unfolding WritesCell
inet_written v old new len is h = rw is h

-- what is no address has no cell
pub no_inet : (v : Inet) (old new : List ℕ) (len : ℕ) → is_inet v ≡ false → new ≡ old → len ≡ no_cell
    → WritesCell (wire_inet_parts v) old new len
unfolding WritesCell
no_inet v old new len other is count = rw other (is, count)

-- a cell is written after its length
pub framed : (b head old new : List ℕ) (len : ℕ) → length b ≤ max_length → head ≡ be w32 (pos (length b))
    → WritesInto (head ++ b ++ []) old new len → WritesCell (wire_of (frame (Some b))) old new len
unfolding WritesCell
framed b head old new len short number h =
    let fits : fits_prefix (length b) ≡ true = grind (arith, nat_tests) in
    let is : head ++ b ++ [] ≡ be w32 (pos (length b)) ++ b =
    append-nil (head ++ b) ∙ ap (λ x. x ++ b) number in
    rw fits (subst (λ x. WritesInto x old new len) is h)

-- a cell that is too long has no frame
pub not_framed : (b old new : List ℕ) (len : ℕ) → max_length < length b → new ≡ old → len ≡ no_cell
    → WritesCell (wire_of (frame (Some b))) old new len
unfolding WritesCell
not_framed b old new len long is count =
    let past : fits_prefix (length b) ≡ false = grind (arith, nat_tests) in rw past (is, count)
