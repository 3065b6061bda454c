-- Lemmas on the texts of MAC addresses.
use Rattle.std.proofs.Common.{◌≡◌, ℕ, zero, suc, ◌<◌, List, [], ◌∷◌, ◌++◌, Ok, length, map, drop, refl, ap}
use Rattle.std.proofs.Common.{sym, ◌∙◌, arith}
use Rattle.std.specs.List.{AllZip, join_with_byte}
use Rattle.hex.specs.Hex.{IsBytes, decode_of, encode_lower}
use Rattle.hex.proofs.HexLemmas.{decode_of-encode_lower, decode_of-ok, decode_of-same}
use Rattle.pg_base.proofs.Lists.{zip_length}
use Rattle.pg_text.specs.ReadBack.{IsReadBack}
use Rattle.pg_base.specs.NetworkTexts.{SaysMacaddr, macaddr_text}
use Rattle.pg_text.specs.Texts.{Shows}

-- the pair of digits is that of the byte
abbrev PairOf : List ℕ → ℕ → Type 0
PairOf pair byte = decode_of pair ≡ Ok (byte ∷ [])

abbrev TwoEach : List (List ℕ) → Type 0
TwoEach [] = Unit {0}
TwoEach (p ∷ ps) = (length p ≡ 2) × TwoEach ps

two_each : (ps : List (List ℕ)) (v : List ℕ) → AllZip PairOf ps v → TwoEach ps
two_each [] v all = tt
two_each (p ∷ ps) [] all = absurd all
two_each (p ∷ ps) (x ∷ xs) all = ((decode_of-ok p (x ∷ []) all.0).2, two_each ps xs all.1)

same_front : (p q s t : List ℕ) → length p ≡ length q → p ++ s ≡ q ++ t → (p ≡ q) × (s ≡ t)
same_front [] [] s t l e = (refl, e)
same_front [] (y ∷ ys) s t l e = absurd (omega arith)
same_front (x ∷ xs) [] s t l e = absurd (omega arith)
same_front (x ∷ xs) (y ∷ ys) s t l e =
    let here : x ≡ y = cc in
    let rest : xs ++ s ≡ ys ++ t = cc in
    let more = same_front xs ys s t (omega arith) rest in
    (λ i. here i ∷ more.0 i, more.1)

same_pairs : (ps qs : List (List ℕ)) → TwoEach ps → TwoEach qs → length ps ≡ length qs
    → join_with_byte 58 ps ≡ join_with_byte 58 qs → ps ≡ qs
same_pairs [] [] a b l e = refl
same_pairs [] (q ∷ qs) a b l e = absurd (omega arith)
same_pairs (p ∷ ps) [] a b l e = absurd (omega arith)
same_pairs (p ∷ []) (q ∷ []) a b l e = ap (λ x. x ∷ []) e
same_pairs (p ∷ []) (q ∷ r ∷ qs) a b l e = absurd (omega arith)
same_pairs (p ∷ o ∷ ps) (q ∷ []) a b l e = absurd (omega arith)
same_pairs (p ∷ o ∷ ps) (q ∷ r ∷ qs) a b l e =
    let parts = same_front p q (58 ∷ join_with_byte 58 (o ∷ ps)) (58 ∷ join_with_byte 58 (r ∷ qs)) (a.0 ∙ sym b.0) e in
    let more = same_pairs (o ∷ ps) (r ∷ qs) a.1 b.1 (omega arith) (ap (drop 1) parts.1) in
    λ i. parts.0 i ∷ more i

same_bytes : (ps : List (List ℕ)) (v w : List ℕ) → AllZip PairOf ps v → AllZip PairOf ps w → w ≡ v
same_bytes [] [] [] a b = refl
same_bytes [] [] (y ∷ ys) a b = absurd b
same_bytes [] (x ∷ xs) w a b = absurd a
same_bytes (p ∷ ps) [] w a b = absurd a
same_bytes (p ∷ ps) (x ∷ xs) [] a b = absurd b
same_bytes (p ∷ ps) (x ∷ xs) (y ∷ ys) a b =
    let both : y ∷ [] ≡ x ∷ [] = decode_of-same p (y ∷ []) (x ∷ []) b.0 a.0 in
    let here : y ≡ x = cc in
    let more = same_bytes ps xs ys a.1 b.1 in
    λ i. here i ∷ more i

one_byte : (b : ℕ) → b < 256 → IsBytes (b ∷ [])
one_byte b small zero = small
one_byte b small (suc i) = omega arith

own_pairs : (v : List ℕ) → IsBytes v → AllZip PairOf (map (λ byte. encode_lower (byte ∷ [])) v) v
own_pairs [] h = tt
own_pairs (b ∷ bs) h = (decode_of-encode_lower (b ∷ []) (one_byte b (h 0)), own_pairs bs (λ i. h (suc i)))

pub macaddr_back : IsReadBack (λ v. (length v ≡ 6) × IsBytes v) (Shows macaddr_text) SaysMacaddr
macaddr_back v text p e =
    let own = map (λ byte. encode_lower (byte ∷ [])) v in
    let pairs = own_pairs v p.1 in
    let says : SaysMacaddr text v = (own, e, pairs, p.0) in (
      says,
      λ w s.
          let as_long : length own ≡ length s.0 =
          zip_length PairOf own v pairs ∙ p.0 ∙ sym s.3 ∙ sym (zip_length PairOf s.0 w s.2) in
          let same : s.0 ≡ own =
          sym (same_pairs own s.0 (two_each own v pairs) (two_each s.0 w s.2) as_long (sym e ∙ s.1)) in
          same_bytes own v w pairs (rw same at s.2),
    )
