-- The types in the words of a command line.
use Rattle.std.proofs.Common.{◌≡◌, ◌==◌, ◌<◌, ◌≤◌, ◌+◌, ℕ, Bool, true, false, List, [], ◌∷◌, ◌++◌, Option}
use Rattle.std.proofs.Common.{Some, None, Err, Ok, append-nil, append_assoc}
use Rattle.std.proofs.Common.{add-one, ap, arith, drop, drop-cons, get_or, inl, inr, length, refl, subst, suc, sym}
use Rattle.std.proofs.Common.{take, ◌∙◌}
use Rattle.std.proofs.lemmas.Bool.{true≢false}
use Rattle.std.proofs.lemmas.Bool.Decides.{nat_tests}
use Rattle.std.proofs.lemmas.List.{drop_all, take-append-drop}
use Rattle.std.proofs.lemmas.Str.{NoCharPasses-append, NoCharPasses-byte}
use Rattle.std.specs.Borrow.{Bor}
use Rattle.std.specs.Char.{is_not_whitespace}
use Rattle.std.specs.List.{AllZip, onto_first}
use Rattle.std.specs.Global.{Global}
use Rattle.std.specs.Prelude.{⊤, IfNone, MatchOption, OnOk, Result, String, string_bytes}
use Rattle.std.specs.Prelude.{if◌then◌else◌}
use Rattle.std.specs.Str.{IsTrim, NoCharPasses, trim}
use Rattle.pg_copy.proofs.QuoteLaws.{Lacks, first, others}
use Rattle.pg_copy.specs.Arguments.{AreTypes, IsLeft, IsNamed, TakesType, is_blank, types_of_word, types_of_words, why}
use Rattle.pg_copy.specs.Arguments.{without_blank_last}
use Rattle.pg_copy.specs.ColumnTypes.{IsColumnFault, IsColumnOf}
use Rattle.pg_copy.specs.Words.{depth_after, divides, is_quoted_after, pieces, pieces_of_rest, pieces_within}
use Rattle.pg_copy.specs.declared.arguments.RefusedType.{RefusedType}
use Rattle.pg_copy.specs.declared.columns.Column.{Column}

-- white space

lacking : (text : List ℕ) (depth : ℕ) (is_quoted : Bool) → Lacks 44 text
    → pieces_within depth is_quoted text ≡ text ∷ []
lacking [] depth is_quoted lacks = refl
lacking (byte ∷ text) depth is_quoted lacks =
    let plain : (byte == 44) ≡ false = first 44 byte text lacks in
    let inner = divides byte depth is_quoted in
    let rest = lacking text (depth_after byte depth is_quoted) (is_quoted_after byte is_quoted)
    (others 44 byte text lacks) in
    let same : inner ≡ false = rw plain refl in
    rw (same, rest) refl

-- a text of white space alone has no comma, and so no type
pub blank_types : (text t : List ℕ) → IsTrim text t → t ≡ trim text → length t ≡ 0 → types_of_word text ≡ []
blank_types text (byte ∷ t) h is none = absurd (omega arith)
blank_types text [] h is none =
    let m = h.0 in
    let n = h.1 in
    let back = drop n (drop m text) in
    let late : back ≡ drop m text = ap (λ l. l ++ back) h.2 ∙ take-append-drop n (drop m text) in
    let whole : take m text ++ back ≡ text = ap (λ l. take m text ++ l) late ∙ take-append-drop m text in
    let white : NoCharPasses is_not_whitespace text =
    subst (λ l. NoCharPasses is_not_whitespace l) whole (NoCharPasses-append is_not_whitespace (take m text) back h.3
    h.4) in
    let lacks : Lacks 44 text =
    λ i l e.
    let passes = NoCharPasses-byte is_not_whitespace text i white l (omega (arith, e)) in
    true≢false (subst (λ b. is_not_whitespace b ≡ false) e passes) in
    let blank : is_blank text ≡ true = ap (λ l. length l == 0) (sym is) in
    let one : types_of_word text ≡ (if is_blank text then [] else text ∷ []) =
    ap without_blank_last (lacking text 0 false lacks) in
    one ∙ ap (λ t. if t then [] else text ∷ []) blank

pub is_zero : (n : ℕ) → (n == 0) ≡ true → n ≡ 0
is_zero n e = grind (arith, nat_tests)

-- the types that are left of a word

abbrev pub types_left : Option (Bor (List ℕ)) → List (List ℕ)
types_left None = []
types_left (Some rest) = types_of_word rest.now

pub left_types : (text : List ℕ) (left : Option (Bor (List ℕ))) → IsLeft text left → types_left left ≡ types_of_word
    text
left_types text None h = sym h
left_types text (Some rest) h = ap types_of_word h.0

abbrev pub IsNotBlank : Option (Bor (List ℕ)) → Type 0
IsNotBlank left = MatchOption left ⊤ (λ rest. is_blank rest.now ≡ false)

pub left_live : (text : List ℕ) (left : Option (Bor (List ℕ))) → IsLeft text left → IsNotBlank left
left_live text None h = tt
left_live text (Some rest) h = ap is_blank h.0 ∙ h.1

pub next_live : (after next : Option (Bor (List ℕ))) → MatchOption after (next ≡ None) (λ rest. IsLeft rest.now next)
    → IsNotBlank next
next_live None next h = subst IsNotBlank (sym h) tt
next_live (Some rest) next h = left_live rest.now next h

some_part : (byte : ℕ) (t : Bool) (rest : List (List ℕ))
    → (part : List ℕ) × (parts : List (List ℕ)) × ((if t then [] ∷ rest else onto_first byte rest) ≡ part ∷ parts)
some_part byte true rest = ([], rest, refl)
some_part byte false [] = (byte ∷ [], [], refl)
some_part byte false (part ∷ parts) = (byte ∷ part, parts, refl)

some_piece : (text : List ℕ) → (part : List ℕ) × (parts : List (List ℕ)) × (pieces text ≡ part ∷ parts)
some_piece [] = ([], [], refl)
some_piece (byte ∷ text) =
    some_part byte (divides byte 0 false) (pieces_within (depth_after byte 0 false) (is_quoted_after byte false) text)

-- a comma ends the first type
pub word_parts : (types text : List ℕ) (after : Option (Bor (List ℕ))) → is_blank types ≡ false
    → pieces types ≡ text ∷ pieces_of_rest after → IfNone after (text ≡ types)
    → types_of_word types ≡ text ∷ types_left after
word_parts types text None live parts whole =
    let some : is_blank text ≡ false = ap is_blank whole ∙ live in
    ap without_blank_last parts ∙ ap (λ t. if t then [] else text ∷ []) some
word_parts types text (Some rest) live parts whole =
    let more = some_piece rest.now in
    ap without_blank_last (parts ∙ ap (λ l. text ∷ l) more.2) ∙ ap (λ l. text ∷ without_blank_last l) (sym more.2)

pub next_types : (after next : Option (Bor (List ℕ))) → MatchOption after (next ≡ None) (λ rest. IsLeft rest.now next)
    → types_left after ≡ types_left next
next_types None next h = ap types_left (sym h)
next_types (Some rest) next h = sym (left_types rest.now next h)

-- the columns of types, and those that are not taken

-- a type that was appended to those that are not taken
pub appended : {E : Type 0} (r : Result (Unit {0}) E) (number : ℕ) (text : List ℕ) (is_nested : Bool)
    (columns : List Column) (refused new : List RefusedType) → IsColumnFault text (why is_nested)
    → OnOk r ((ty : RefusedType) × IsNamed number text is_nested ty × (new ≡ refused ++ ty ∷ []))
    → OnOk r (TakesType number text columns refused columns new)
appended (Ok done) number text is_nested columns refused new fault own =
    inr (own.0, (is_nested, own.1, fault), own.2, refl)
appended (Err failed) number text is_nested columns refused new fault own = own

-- the first of the types from a place on
first_left : (texts : List (List ℕ)) (i : ℕ) (text : List ℕ) → i < length texts → text ≡ get_or texts i text
    → drop i texts ≡ text ∷ drop (i + 1) texts
first_left texts i text l is =
    rw (add-one i) (drop-cons texts i text l ∙ ap (λ t. t ∷ drop (suc i) texts) (sym is))

-- one more type is taken, whatever follows it
pub one_more : (texts : List (List ℕ)) (i : ℕ) (text : List ℕ) (columns : List Column)
    (refused : List RefusedType) (new_columns : List Column) (new_refused : List RefusedType) → i < length texts
    → text ≡ get_or texts i text → TakesType (i + 1) text columns refused new_columns new_refused
    → ((more : List Column) (later : List RefusedType) → AreTypes (i + 1) (drop i texts) more later
    → AreTypes 1 texts (columns ++ more) (refused ++ later))
    → (more : List Column) (later : List RefusedType) → AreTypes (i + 1 + 1) (drop (i + 1) texts) more later
    → AreTypes 1 texts (new_columns ++ more) (new_refused ++ later)
one_more texts i text columns refused new_columns new_refused l is (inl own) before more later rest =
    let column = own.0 in
    let cut = first_left texts i text l is in
    let here : AreTypes (i + 1) (drop i texts) (column ∷ more) later =
    subst (λ t. AreTypes (i + 1) t (column ∷ more) later) (sym cut) (inl (column, more, refl, own.1, rest)) in
    let joined : columns ++ column ∷ more ≡ new_columns ++ more =
    sym (append_assoc columns (column ∷ []) more) ∙ ap (λ k. k ++ more) (sym own.2) in
    rw (own.3) (subst (λ k. AreTypes 1 texts k (refused ++ later)) joined (before (column ∷ more) later here))
one_more texts i text columns refused new_columns new_refused l is (inr own) before more later rest =
    let one = own.0 in
    let cut = first_left texts i text l is in
    let here : AreTypes (i + 1) (drop i texts) more (one ∷ later) =
    subst (λ t. AreTypes (i + 1) t more (one ∷ later)) (sym cut) (inr (one, later, refl, own.1, rest)) in
    let joined : refused ++ one ∷ later ≡ new_refused ++ later =
    sym (append_assoc refused (one ∷ []) later) ∙ ap (λ k. k ++ later) (sym own.2) in
    rw (own.3) (subst (λ k. AreTypes 1 texts (columns ++ more) k) joined (before more (one ∷ later) here))

-- nothing follows
pub no_more : (texts : List (List ℕ)) (i : ℕ) (columns : List Column) (refused : List RefusedType) → length texts ≤ i
    → ((more : List Column) (later : List RefusedType) → AreTypes (i + 1) (drop i texts) more later
    → AreTypes 1 texts (columns ++ more) (refused ++ later)) → AreTypes 1 texts columns refused
no_more texts i columns refused past before =
    let all = before [] [] (subst (λ t. AreTypes (i + 1) t [] []) (sym (drop_all i texts past)) (refl, refl)) in
    subst (λ k. AreTypes 1 texts k refused) (append-nil columns)
    (subst (λ k. AreTypes 1 texts (columns ++ []) k) (append-nil refused) all)

-- where none is refused, each has its column
pub all_taken : (number : ℕ) (texts : List (List ℕ)) (columns : List Column) (refused : List RefusedType)
    → refused ≡ [] → AreTypes number texts columns refused → AllZip IsColumnOf texts columns
all_taken number [] columns refused none h = rw h.0 tt
all_taken number (text ∷ texts) columns refused none (inl own) =
    rw own.2 (own.3, all_taken (number + 1) texts own.1 refused none own.4)
all_taken number (text ∷ texts) columns refused none (inr own) =
    let some : [] ≡ own.0 ∷ own.1 = sym none ∙ own.2 in absurd (omega (arith, ap length some))

-- words

-- the types of the first word that is left come before those of the others
pub words_step : (words : List (String Global)) (i : ℕ) (word : String Global) → i < length words
    → word ≡ get_or words i word
    → types_of_words (drop i words) ≡ types_of_word (string_bytes word) ++ types_of_words (drop (i + 1) words)
words_step words i word l is =
    rw (add-one i) (ap types_of_words (drop-cons words i word l ∙ ap (λ w. w ∷ drop (suc i) words) (sym is)))

-- there are as many columns as types
pub as_many : (texts : List (List ℕ)) (columns : List Column) → AllZip IsColumnOf texts columns
    → length columns ≡ length texts
as_many [] [] all = refl
as_many [] (column ∷ columns) all = absurd all
as_many (text ∷ texts) [] all = absurd all
as_many (text ∷ texts) (column ∷ columns) all = ap suc (as_many texts columns all.1)
