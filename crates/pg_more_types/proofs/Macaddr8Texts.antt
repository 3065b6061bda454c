-- Lemmas on the texts of MACADDR8.
use Rattle.std.proofs.Common.{◌≡◌, ℕ, zero, suc, ◌<◌, ◌/◌, ◌%◌, List, [], ◌∷◌, ◌++◌, true, false, Some, Option}
use Rattle.std.proofs.Common.{length, slice_index, refl, ap, subst, sym, ◌∙◌, arith, not, take, set, unwrap_or, None}
use Rattle.std.proofs.Common.{◌-◌}
use Rattle.std.specs.List.{find, join_with_byte}
use Rattle.std.specs.Prelude.{option_and_then, option_map}
use Rattle.std.proofs.lemmas.List.Sums.{AllPass-from_list_all}
use Rattle.std.proofs.Math.Seq.{take-suc-set}
use Rattle.std.proofs.lemmas.List.{append-nil, append_assoc, take_all}
use Rattle.std.proofs.lemmas.Bool.{not-true}
use Rattle.std.proofs.lemmas.List.Elements.{All-get_or}
use Rattle.hex.specs.Hex.{IsBytes, encode_with, lower_digits}
use Rattle.hex.proofs.HexLemmas.{decode_of-encode_lower}
use Rattle.pg_base.specs.NetworkTexts.{macaddr_text, pair_text}
use Rattle.pg_text.specs.ReadBack.{IsReadBack}
use Rattle.pg_text.specs.Texts.{Shows}
use Rattle.pg_more_types.specs.Macaddr8.{after_separator, byte_said, bytes_said, is_separator, only_byte, SaysMacaddr8}

one_byte : (b : ℕ) → b < 256 → IsBytes (b ∷ [])
one_byte b small zero = small
one_byte b small (suc i) = omega arith

-- the byte of its own digits
own_digits : (b : ℕ) (rest : List ℕ) → b < 256
    → byte_said (Some 58) (pair_text b ++ rest) ≡ Some (b, after_separator (Some 58) rest)
unfolding encode_with
own_digits b rest small =
    ap (λ r. option_map (λ byte. (byte, after_separator (Some 58) rest)) (only_byte r))
    (decode_of-encode_lower (b ∷ []) (one_byte b small))

own_bytes : (v : List ℕ) → IsBytes v → bytes_said (length v) (Some 58) (macaddr_text v) ≡ Some v
unfolding encode_with
own_bytes [] small = refl
own_bytes (b ∷ []) small =
    ap (option_and_then (λ r. option_map (λ bytes. r.0 ∷ bytes) (bytes_said 0 (Some 58) r.1)))
    (own_digits b [] (small 0))
own_bytes (b ∷ c ∷ cs) small =
    ap (option_and_then (λ r. option_map (λ bytes. r.0 ∷ bytes) (bytes_said (length (c ∷ cs)) (Some 58) r.1)))
    (own_digits b (58 ∷ macaddr_text (c ∷ cs)) (small 0))
    ∙ ap (option_map (λ bytes. b ∷ bytes)) (own_bytes (c ∷ cs) (λ i. small (suc i)))

-- eight bytes
eight : (v : List ℕ) → length v ≡ 8
    → v ≡ slice_index v 0 ∷ slice_index v 1 ∷ slice_index v 2 ∷ slice_index v 3 ∷ slice_index v 4 ∷ slice_index v 5
    ∷ slice_index v 6 ∷ slice_index v 7 ∷ []
eight (a ∷ b ∷ c ∷ d ∷ e ∷ f ∷ g ∷ h ∷ []) long = refl
eight (a ∷ b ∷ c ∷ d ∷ e ∷ f ∷ g ∷ h ∷ i ∷ more) long = absurd (omega arith)
eight (a ∷ b ∷ c ∷ d ∷ e ∷ f ∷ g ∷ []) long = absurd (omega arith)
eight (a ∷ b ∷ c ∷ d ∷ e ∷ f ∷ []) long = absurd (omega arith)
eight (a ∷ b ∷ c ∷ d ∷ e ∷ []) long = absurd (omega arith)
eight (a ∷ b ∷ c ∷ d ∷ []) long = absurd (omega arith)
eight (a ∷ b ∷ c ∷ []) long = absurd (omega arith)
eight (a ∷ b ∷ []) long = absurd (omega arith)
eight (a ∷ []) long = absurd (omega arith)
eight [] long = absurd (omega arith)

-- the text by the digits of each byte
pub text_of : (v : List ℕ) (a0 a1 b0 b1 c0 c1 d0 d1 e0 e1 f0 f1 g0 g1 h0 h1 : ℕ) → length v ≡ 8
    → pair_text (slice_index v 0) ≡ a0 ∷ a1 ∷ [] → pair_text (slice_index v 1) ≡ b0 ∷ b1 ∷ []
    → pair_text (slice_index v 2) ≡ c0 ∷ c1 ∷ [] → pair_text (slice_index v 3) ≡ d0 ∷ d1 ∷ []
    → pair_text (slice_index v 4) ≡ e0 ∷ e1 ∷ [] → pair_text (slice_index v 5) ≡ f0 ∷ f1 ∷ []
    → pair_text (slice_index v 6) ≡ g0 ∷ g1 ∷ [] → pair_text (slice_index v 7) ≡ h0 ∷ h1 ∷ []
    → a0 ∷ a1 ∷ 58 ∷ b0 ∷ b1 ∷ 58 ∷ c0 ∷ c1 ∷ 58 ∷ d0 ∷ d1 ∷ 58 ∷ e0 ∷ e1 ∷ 58 ∷ f0 ∷ f1 ∷ 58 ∷ g0 ∷ g1 ∷ 58 ∷ h0
    ∷ h1 ∷ [] ≡ macaddr_text v
text_of v a0 a1 b0 b1 c0 c1 d0 d1 e0 e1 f0 f1 g0 g1 h0 h1 long a b c d e f g h =
    (λ i. join_with_byte 58 (sym a i ∷ sym b i ∷ sym c i ∷ sym d i ∷ sym e i ∷ sym f i ∷ sym g i ∷ sym h i ∷ []))
    ∙ ap macaddr_text (sym (eight v long))

-- what a text says by the bytes at its front and by its rest

abbrev After : ℕ → Option ℕ → List ℕ → List ℕ → Option (List ℕ)
After n separator front rest = option_map (λ more. front ++ more) (bytes_said n separator rest)

pub begun : (said : Option (List ℕ)) → said ≡ option_map (λ more. [] ++ more) said
begun None = refl
begun (Some bytes) = refl

one_more : (n : ℕ) (separator : Option ℕ) (rest after front : List ℕ) (byte : ℕ)
    → byte_said separator rest ≡ Some (byte, after)
    → After (suc n) separator front rest ≡ After n separator (front ++ byte ∷ []) after
one_more n separator rest after front byte e =
    ap (λ o. option_map (λ more. front ++ more) (option_and_then (λ r. option_map (λ bytes. r.0 ∷ bytes)
    (bytes_said n separator r.1)) o)) e ∙ go (bytes_said n separator after)
  where
    go : (said : Option (List ℕ)) → option_map (λ more. front ++ more) (option_map (λ bytes. byte ∷ bytes) said)
        ≡ option_map (λ more. (front ++ byte ∷ []) ++ more) said
    go None = refl
    go (Some more) = ap Some (sym (append_assoc front (byte ∷ []) more))

module _ (whole : Option (List ℕ)) (separator : Option ℕ) (rest bytes : List ℕ) (place : ℕ)
    (said : whole ≡ After (8 - place) separator (take place bytes) rest) where
  pub byte_taken : (after : List ℕ) (byte next : ℕ) → place < 8 → length bytes ≡ 8 → next ≡ suc place
      → byte_said separator rest ≡ Some (byte, after)
      → whole ≡ After (8 - next) separator (take next (set bytes place byte)) after
  byte_taken after byte next inside long is e =
      let left : 8 - place ≡ suc (8 - suc place) = omega arith in
      said ∙ ap (λ n. After n separator (take place bytes) rest) left
      ∙ one_more (8 - suc place) separator rest after (take place bytes) byte e
      ∙ ap (λ front. After (8 - suc place) separator front after)
      (sym (take-suc-set bytes place byte (omega (arith, long))))
      ∙ ap (λ n. After (8 - n) separator (take n (set bytes place byte)) after) (sym is)

  pub no_byte : place < 8 → byte_said separator rest ≡ None → whole ≡ None
  no_byte inside e =
      let left : 8 - place ≡ suc (8 - suc place) = omega arith in
      said ∙ ap (λ n. After n separator (take place bytes) rest) left
      ∙ ap (λ o. option_map (λ more. take place bytes ++ more) (option_and_then (λ r. option_map (λ bytes. r.0 ∷ bytes)
      (bytes_said (8 - suc place) separator r.1)) o)) e

  all_said : place ≡ 8 → length bytes ≡ 8 → whole ≡ After 0 separator bytes rest
  all_said end long =
      let none : 8 - place ≡ 0 = omega arith in
      said ∙ (λ i. After (none i) separator (take_all place bytes (omega (arith, long)) i) rest)

  pub whole_said : place ≡ 8 → length bytes ≡ 8 → length rest ≡ 0 → whole ≡ Some bytes
  whole_said end long none = all_said end long ∙ go rest none
    where
      go : (rest : List ℕ) → length rest ≡ 0 → After 0 separator bytes rest ≡ Some bytes
      go [] none = ap Some (append-nil bytes)
      go (byte ∷ rest) none = absurd (omega arith)

  pub more_said : place ≡ 8 → length bytes ≡ 8 → (length rest ≡ 0 → ⊥) → whole ≡ None
  more_said end long some = all_said end long ∙ go rest some
    where
      go : (rest : List ℕ) → (length rest ≡ 0 → ⊥) → After 0 separator bytes rest ≡ None
      go [] some = absurd (some refl)
      go (byte ∷ rest) some = refl

-- no digit is a separator
no_separator : (k : ℕ) → k < 16 → is_separator (slice_index lower_digits k) ≡ false
no_separator k small =
    let none = AllPass-from_list_all (λ d. not (is_separator d)) lower_digits refl in
    not-true _ (All-get_or (λ d. not (is_separator d) ≡ true) lower_digits k 0 small none)

high : (b : ℕ) → b < 256 → is_separator (slice_index lower_digits (b / 16)) ≡ false
high b small = no_separator (b / 16) (omega arith)

low : (b : ℕ) → b < 256 → is_separator (slice_index lower_digits (b % 16)) ≡ false
low b small = no_separator (b % 16) (omega arith)

first_separator : (b c : ℕ) (cs : List ℕ) → b < 256 → find is_separator (macaddr_text (b ∷ c ∷ cs)) ≡ Some 58
unfolding encode_with
first_separator b c cs small = rw (high b small, low b small) refl

-- so many bytes are said of each text
abbrev AllLong : ℕ → Option ℕ → Type 0
AllLong n separator = (text bytes : List ℕ) → bytes_said n separator text ≡ Some bytes → length bytes ≡ n

said_length : (n : ℕ) (separator : Option ℕ) (text bytes : List ℕ) → bytes_said n separator text ≡ Some bytes
    → length bytes ≡ n
said_length zero separator [] bytes e = ap (λ o. length (unwrap_or o [])) (sym e)
said_length zero separator (byte ∷ text) bytes e = let bad : ⊥ = cc in absurd bad
said_length (suc n) separator text bytes e =
    first (byte_said separator text) (said_length n separator) e
  where
    more : (byte : ℕ) (rest : List ℕ) (said : Option (List ℕ)) → AllLong n separator
        → bytes_said n separator rest ≡ said → option_map (λ others. byte ∷ others) said ≡ Some bytes
        → length bytes ≡ suc n
    more byte rest None long is e = let bad : ⊥ = cc in absurd bad
    more byte rest (Some others) long is e =
        ap (λ o. length (unwrap_or o [])) (sym e) ∙ ap suc (long rest others is)

    first : (said : Option (ℕ × List ℕ)) → AllLong n separator
        → option_and_then (λ r. option_map (λ others. r.0 ∷ others) (bytes_said n separator r.1)) said ≡ Some bytes
        → length bytes ≡ suc n
    first None long e = let bad : ⊥ = cc in absurd bad
    first (Some r) long e = more r.0 r.1 (bytes_said n separator r.1) long refl e

pub eight_said : (text bytes : List ℕ) → bytes_said 8 (find is_separator text) text ≡ Some bytes
    → SaysMacaddr8 text bytes
eight_said text bytes e =
    let long = said_length 8 (find is_separator text) text bytes e in
    (subst (λ n. bytes_said n (find is_separator text) text ≡ Some bytes) (sym long) e, long)

pub says_eight : (text bytes : List ℕ) → SaysMacaddr8 text bytes
    → bytes_said 8 (find is_separator text) text ≡ Some bytes
says_eight text bytes says = subst (λ n. bytes_said n (find is_separator text) text ≡ Some bytes) says.1 says.0

-- a MAC address of eight bytes is what its text says
own_text : (v : List ℕ) → length v ≡ 8 → IsBytes v → SaysMacaddr8 (macaddr_text v) v
own_text [] long small = absurd (omega arith)
own_text (b ∷ []) long small = absurd (omega arith)
own_text (b ∷ c ∷ cs) long small =
    let v = b ∷ c ∷ cs in (
      ap (λ separator. bytes_said (length v) separator (macaddr_text v)) (first_separator b c cs (small 0))
          ∙ own_bytes v small,
      long,
    )

pub macaddr8_back : IsReadBack (λ v. (length v ≡ 8) × IsBytes v) (Shows macaddr_text) SaysMacaddr8
macaddr8_back v text p e =
    let says : SaysMacaddr8 text v = subst (λ t. SaysMacaddr8 t v) (sym e) (own_text v p.0 p.1) in
    (says, λ w other. ap (λ o. unwrap_or o []) (sym (says_eight text w other) ∙ says_eight text v says))
