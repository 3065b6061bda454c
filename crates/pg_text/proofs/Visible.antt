-- Texts without white space.
use Rattle.std.proofs.Common.{◌≡◌, ◌-◌, ◌<◌, ◌^◌, ℕ, ℤ, pos, negsuc, suc, List, [], ◌∷◌, false, length, ap, ◌∙◌, arith, tests, take}
use Rattle.std.specs.Char.{is_ascii_whitespace}
use Rattle.std.specs.Fmt.{decimal, signed_decimal}
use Rattle.std.specs.List.{All, prefix_len, suffix_len}
use Rattle.std.specs.Str.Parse.{AllDigits}
use Rattle.std.proofs.lemmas.Fmt.{decimal_is_IsNumeral}
use Rattle.std.proofs.lemmas.List.{take_all}
use Rattle.std.proofs.lemmas.List.Elements.{All-cons, All-get_or, All-nil}
use Rattle.std.proofs.lemmas.List.Sums.{prefix_len_is, suffix_len_is}
use Rattle.std.proofs.lemmas.Str.Parse.{digit_from_value}
use Rattle.pg_text.specs.Spaces.{trimmed}
use lib.Signed.{mag}

-- a byte after the space
abbrev pub IsVisible : ℕ → Type 0
IsVisible byte = 32 < byte

no_space : (byte : ℕ) → IsVisible byte → is_ascii_whitespace byte ≡ false
no_space byte visible = search (tests, arith)

-- a text of such bytes has no white space to take
pub trimmed_same : (text : List ℕ) → All IsVisible text → trimmed text ≡ text
trimmed_same text visible =
    let space = λ (i : ℕ) (inside : i < length text).
    no_space _ (All-get_or IsVisible text i 0 inside visible) in
    let front : prefix_len is_ascii_whitespace text ≡ 0 =
    prefix_len_is is_ascii_whitespace text 0 0 (omega arith) (λ k below. absurd (omega arith)) (space 0) in
    let back : suffix_len is_ascii_whitespace text ≡ length text - length text =
    suffix_len_is is_ascii_whitespace text (length text) 0 (omega arith) (λ k above below. absurd (omega arith))
    (λ some. space (length text - 1) (omega arith)) in
    let whole : length text - suffix_len is_ascii_whitespace text ≡ length text = omega (arith, back) in
    rw front (ap (λ n. take n text) whole ∙ take_all (length text) text (omega arith))

pub digits_visible : (digits : List ℕ) → AllDigits 10 digits → All IsVisible digits
digits_visible [] h = All-nil IsVisible
digits_visible (c ∷ cs) h =
    let digit = digit_from_value c h.0 in
    All-cons IsVisible c cs (omega (arith, digit.0)) (digits_visible cs h.1)

pub decimal_visible : (n : ℕ) → n < 2 ^ 64 → All IsVisible (decimal n)
decimal_visible n small = let own = decimal_is_IsNumeral n (omega arith) in digits_visible (decimal n) own.0.1

-- the text of an integer
pub signed_visible : (z : ℤ) → mag z < 2 ^ 63 → All IsVisible (signed_decimal z)
signed_visible (pos n) small = decimal_visible n (omega arith)
signed_visible (negsuc n) small =
    All-cons IsVisible 45 (decimal (suc n)) (omega arith) (decimal_visible (suc n) (omega arith))
