-- Laws of escaped texts.
use Rattle.std.proofs.Common.{◌≡◌, ◌==◌, ℕ, Bool, true, false, List, [], ◌∷◌, ◌++◌, Option, Some, None, is_none, refl, ap}
use Rattle.std.proofs.Common.{sym, ◌∙◌}
use Rattle.std.proofs.Common.{◌+◌, ◌<◌, length, take, get_or, append_assoc, append-nil, add-one}
use Rattle.std.proofs.Math.Seq.{take-suc}
use Rattle.std.proofs.Common.{◌&&◌, Result, Ok, Err, OnOk, is_ok, if◌then◌else◌}
use Rattle.std.specs.List.{list_all}
use Rattle.streams.specs.Lines.{IsOneLine}
use Rattle.pg_copy.specs.Escapes.{escaped, escaped_byte, is_plain, letter_of}

-- a byte that stands for itself is escaped by nothing
plain_byte : (byte : ℕ) (letter : Option ℕ) → is_none letter ≡ true → escaped_byte byte letter ≡ byte ∷ []
plain_byte byte None e = refl
plain_byte byte (Some letter) e = let bad : ⊥ = cc in absurd bad

first_plain : (a b : Bool) → (a && b) ≡ true → a ≡ true
first_plain true b e = refl
first_plain false b e = e

others_plain : (a b : Bool) → (a && b) ≡ true → b ≡ true
others_plain true b e = e
others_plain false b e = let bad : ⊥ = cc in absurd bad

-- a text of such bytes is its own escaped text
pub plain_text : (text : List ℕ) → list_all is_plain text ≡ true → escaped text ≡ text
plain_text [] e = refl
plain_text (byte ∷ text) e =
    ap (λ l. l ++ escaped text) (plain_byte byte (letter_of byte) (first_plain _ _ e))
    ∙ ap (λ l. byte ∷ l) (plain_text text (others_plain (is_plain byte) _ e))

pub appended : {T E : Type 0} (r : Result T E) (old text new : List ℕ) → new ≡ (if is_ok r then old ++ text else old)
    → escaped text ≡ text → OnOk r (new ≡ old ++ escaped text)
appended (Ok x) old text new is e = is ∙ ap (λ l. old ++ l) (sym e)
appended (Err x) old text new is e = tt

-- texts one after another are escaped one after another
pub escaped_append : (xs ys : List ℕ) → escaped (xs ++ ys) ≡ escaped xs ++ escaped ys
escaped_append [] ys = refl
escaped_append (x ∷ xs) ys =
    ap (λ l. escaped_byte x (letter_of x) ++ l) (escaped_append xs ys)
    ∙ sym (append_assoc (escaped_byte x (letter_of x)) (escaped xs) (escaped ys))

-- one byte more of a text is escaped
pub escaped_next : (text old mid new : List ℕ) (i x : ℕ) → i < length text → x ≡ get_or text i 0
    → mid ≡ old ++ escaped (take i text) → new ≡ mid ++ escaped_byte x (letter_of x)
    → new ≡ old ++ escaped (take (i + 1) text)
escaped_next text old mid new i x h is before after =
    let more : take (i + 1) text ≡ take i text ++ (x ∷ []) =
    ap (λ n. take n text) (add-one i) ∙ take-suc text i 0 h ∙ ap (λ y. take i text ++ (y ∷ [])) (sym is) in
    let last : escaped (x ∷ []) ≡ escaped_byte x (letter_of x) = append-nil (escaped_byte x (letter_of x)) in
    let all : escaped (take (i + 1) text) ≡ escaped (take i text) ++ escaped_byte x (letter_of x) =
    ap escaped more ∙ escaped_append (take i text) (x ∷ []) ∙ ap (λ l. escaped (take i text) ++ l) last in
    after ∙ ap (λ l. l ++ escaped_byte x (letter_of x)) before
    ∙ append_assoc old (escaped (take i text)) (escaped_byte x (letter_of x)) ∙ ap (λ l. old ++ l) (sym all)

-- an escaped text is one line

one_line_of_both : (xs ys : List ℕ) → IsOneLine xs → IsOneLine ys → IsOneLine (xs ++ ys)
one_line_of_both [] ys p q = q
one_line_of_both (x ∷ xs) ys p q = (p.0, one_line_of_both xs ys p.1 q)

-- whether the byte is each of those that have a letter
one_line_by : (b8 b9 b10 b11 b12 b13 b92 : Bool) (byte : ℕ) → (byte == 10) ≡ b10
    → IsOneLine (escaped_byte byte (if b8 then Some 98 else if b9 then Some 116 else if b10 then Some 110
    else if b11 then Some 118 else if b12 then Some 102 else if b13 then Some 114 else if b92 then Some 92 else None))
one_line_by true b9 b10 b11 b12 b13 b92 byte e = (refl, (refl, tt))
one_line_by false true b10 b11 b12 b13 b92 byte e = (refl, (refl, tt))
one_line_by false false true b11 b12 b13 b92 byte e = (refl, (refl, tt))
one_line_by false false false true b12 b13 b92 byte e = (refl, (refl, tt))
one_line_by false false false false true b13 b92 byte e = (refl, (refl, tt))
one_line_by false false false false false true b92 byte e = (refl, (refl, tt))
one_line_by false false false false false false true byte e = (refl, (refl, tt))
one_line_by false false false false false false false byte e = (e, tt)

pub escaped_one_line : (text : List ℕ) → IsOneLine (escaped text)
escaped_one_line [] = tt
escaped_one_line (byte ∷ text) =
    one_line_of_both (escaped_byte byte (letter_of byte)) (escaped text)
    (one_line_by (byte == 8) (byte == 9) (byte == 10) (byte == 11) (byte == 12) (byte == 13) (byte == 92) byte refl)
    (escaped_one_line text)
