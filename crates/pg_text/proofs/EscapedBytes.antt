-- Lemmas on the bytes of the two formats of BYTEA.
use Rattle.std.proofs.Common.{◌≡◌, ◌≢◌, ℕ, List, [], ◌∷◌, ◌++◌, Option, Some, None, Vec, Global, refl, sym, subst, ap, ◌∙◌}
use Rattle.std.proofs.Common.{inl, inr, ⊎_elim}
use Rattle.std.specs.Prelude.{MatchResult, Result, Ok, Err, codes}
use Rattle.std.proofs.lemmas.List.{append_cancel_left}
use Rattle.hex.specs.Hex.{decode_of}
use Rattle.pg_types.specs.declared.fault.Fault.{Fault}
use Rattle.pg_types.specs.declared.fault.Fault.TheVariants.{Memory}
use Rattle.std.proofs.lemmas.List.{append-nil, append_assoc}
use Rattle.pg_text.specs.Texts.{SaysAny, SaysBytes, SaysEscaped, escaped_byte}

-- what the rest says follows these bytes in what the text says
abbrev pub Follows : List ℕ → List ℕ → List ℕ → Type 0
Follows text rest bytes =
    ((more : List ℕ) → SaysEscaped rest more → SaysEscaped text (bytes ++ more))
    × ((all : List ℕ) → SaysEscaped text all → (more : List ℕ) × (all ≡ bytes ++ more) × SaysEscaped rest more)

-- the parts of a byte that is found, and what follows it
abbrev Found : Type 0
Found = Option (ℕ × List ℕ)

abbrev first_of : ℕ → Found → ℕ
first_of other None = other
first_of other (Some v) = v.0

abbrev rest_of : List ℕ → Found → List ℕ
rest_of other None = other
rest_of other (Some v) = v.1

pub follows_begin : (text rest bytes : List ℕ) → rest ≡ text → bytes ≡ [] → Follows text rest bytes
follows_begin text rest bytes e none =
    subst {A = List ℕ × List ℕ} (λ v. Follows text v.0 v.1) (λ i. (sym e i, sym none i))
    ((λ more says. says), λ all says. (all, refl, says))

module _ (text rest bytes : List ℕ) (follows : Follows text rest bytes) where
  pub follows_next : (after pushed : List ℕ) (byte : ℕ) → escaped_byte rest ≡ Some (byte, after)
      → pushed ≡ bytes ++ byte ∷ [] → Follows text after pushed
  follows_next after pushed byte e is =
      subst (Follows text after) (sym is) (
        λ more says.
            subst (SaysEscaped text) (sym (append_assoc bytes (byte ∷ []) more))
            (follows.0 (byte ∷ more) (after, e, says)),
        λ all says. let old = follows.1 all says in by all old.0 old.1 old.2,
      )
    where
      by : (all more : List ℕ) → all ≡ bytes ++ more → SaysEscaped rest more
          → (others : List ℕ) × (all ≡ (bytes ++ byte ∷ []) ++ others) × SaysEscaped after others
      by all [] same says =
          let none : escaped_byte rest ≡ None = ap escaped_byte says in
          absurd cc
      by all (b ∷ more) same says =
          let here : b ≡ byte = ap (first_of b) (sym says.1 ∙ e) in
          let there : says.0 ≡ after = ap (rest_of after) (sym says.1 ∙ e) in (
            more,
            same ∙ ap (λ x. bytes ++ x ∷ more) here ∙ sym (append_assoc bytes (byte ∷ []) more),
            subst (λ r. SaysEscaped r more) there says.2,
          )

  pub follows_end : rest ≡ [] → SaysEscaped text bytes
  follows_end e = subst (SaysEscaped text) (append-nil bytes) (follows.0 [] e)

  pub follows_none : escaped_byte rest ≡ None → rest ≢ [] → SaysAny SaysEscaped text → ⊥
  follows_none e some says = let old = follows.1 says.0 says.1 in by old.0 old.2
    where
      by : (more : List ℕ) → SaysEscaped rest more → ⊥
      by [] none = some none
      by (b ∷ more) said = let found : escaped_byte rest ≡ Some (b, said.0) = said.1 in absurd cc

-- a text of hexadecimal digits has no byte of the escape format
pub not_escaped : (digits bytes : List ℕ) → SaysEscaped (codes "\\x" ++ digits) bytes → ⊥
not_escaped digits [] h = cc
not_escaped [] (byte ∷ bytes) h = cc
not_escaped (a ∷ []) (byte ∷ bytes) h = cc
not_escaped (a ∷ b ∷ digits) (byte ∷ bytes) h = cc

-- a text says the bytes of one format, or is refused in it
abbrev pub Parses : (List ℕ → List ℕ → Type 0) → List ℕ → Result (Vec ℕ Global) Fault → Type 0
Parses says text result =
    MatchResult result (λ bytes. says text bytes.items) (λ fault. SaysAny says text → fault ≡ Memory)

abbrev pub SaysHex : List ℕ → List ℕ → Type 0
SaysHex digits bytes = decode_of digits ≡ Ok bytes

pub hex_parsed : (text digits : List ℕ) (result : Result (Vec ℕ Global) Fault) → text ≡ codes "\\x" ++ digits
    → Parses SaysHex digits result → Parses SaysBytes text result
hex_parsed text digits (Ok bytes) e says = inl (digits, e, says)
hex_parsed text digits (Err fault) e only = λ says.
    ⊎_elim
    (λ s. only (says.0, subst (λ d. decode_of d ≡ Ok says.0) (append_cancel_left (codes "\\x") s.0 digits (sym s.1 ∙ e)) s.2))
    (λ s. absurd (not_escaped digits says.0 (subst (λ t. SaysEscaped t says.0) e s))) says.1

pub escapes_parsed : (text : List ℕ) (result : Result (Vec ℕ Global) Fault)
    → ((digits : List ℕ) → text ≢ codes "\\x" ++ digits) → Parses SaysEscaped text result → Parses SaysBytes text result
escapes_parsed text (Ok bytes) none says = inr says
escapes_parsed text (Err fault) none only = λ says.
    ⊎_elim (λ s. absurd (none s.0 s.1)) (λ s. only (says.0, s)) says.1
