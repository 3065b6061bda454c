-- The laws of messages.
use Rattle.std.proofs.Common.{◌≡◌, ◌+◌, ◌-◌, ◌++◌, ℕ, pos, Bool, true, false, List, [], ◌∷◌, Ok, Err, length, take, drop, get_or}
use Rattle.std.proofs.Common.{◌==◌, codes, ap, refl, sym, ◌∙◌, arith, append_assoc, length-append, if◌then◌else◌}
use Rattle.std.proofs.lemmas.Bool.Decides.{nat_tests}
use Rattle.std.proofs.lemmas.List.{drop_at}
use Rattle.std.proofs.Math.Seq.{take-append_seam}
use Rattle.std.specs.Int.{w32}
use Rattle.std.specs.List.{list_any}
use Rattle.pg_base.specs.Cells.{be, fits_prefix}
use Rattle.pg_base.proofs.CountLaws.{number_then}
use Rattle.pg_base.proofs.FrameLaws.{fits_length}
use Rattle.pg_types.specs.Faults.{transmit, user}
use Rattle.pg_messages.specs.Fields.{Form, after, framed, sum}
use Rattle.pg_messages.specs.Laws.{EndedIsMessage, OneMessage, SentIsTaken, StringIsRead}
use Rattle.pg_messages.specs.Reading.{text_of}
use Rattle.pg_messages.proofs.Strings.{found, plain}
use Rattle.streams.specs.Lines.{Lacks}
use Rattle.std.proofs.lemmas.Bool.{or_parts}

pub one_message : OneMessage
one_message s tag other len more rest left a b =
    let first = number_then (drop 1 s) a.0 rest len (ap (drop 1) a.2) a.1 in
    let second = number_then (drop 1 s) b.0 left more (ap (drop 1) b.2) b.1 in (
      ap (λ s. get_or s 0 0) (sym a.2 ∙ b.2),
      sym first.number ∙ second.number,
      sym first.rest ∙ second.rest,
    )

-- the length and the body, where the length fits
sized : (tag : ℕ) (fits : Bool) (number body bytes : List ℕ)
    → after (tag ∷ []) (if fits then Ok (number ++ body) else Err transmit) ≡ Ok bytes
    → (fits ≡ true) × (bytes ≡ tag ∷ (number ++ body))
sized tag true number body bytes is = let same : bytes ≡ tag ∷ (number ++ body) = cc in (refl, same)
sized tag false number body bytes is = let no : ⊥ = cc in absurd no

taken : (tag : ℕ) (form : Form) (bytes : List ℕ) → after (tag ∷ []) (framed form) ≡ Ok bytes
    → (body : List ℕ) × (form ≡ Ok body) × (fits_prefix (4 + length body) ≡ true)
    × (bytes ≡ tag ∷ (be w32 (pos (4 + length body)) ++ body))
taken tag (Ok body) bytes is =
    let parts = sized tag (fits_prefix (4 + length body)) (be w32 (pos (4 + length body))) body bytes is in
    (body, refl, parts.0, parts.1)
taken tag (Err r) bytes is = let no : ⊥ = cc in absurd no

pub sent_is_taken : SentIsTaken
sent_is_taken tag fields bytes more is =
    let t = taken tag (sum fields) bytes is in
    let number = be w32 (pos (4 + length t.0)) in (
      t.0,
      t.1,
      (
        number,
        (fits_length (4 + length t.0) t.2, refl),
        ap (λ s. s ++ more) t.3 ∙ ap (λ s. tag ∷ s) (append_assoc number t.0 more),
      ),
    )

-- a text of which no byte is zero
lacks_zero : (text : List ℕ) → list_any (λ byte. byte == 0) text ≡ false → Lacks 0 text
lacks_zero [] none = tt
lacks_zero (byte ∷ text) none =
    let both = or_parts (byte == 0) (list_any (λ byte. byte == 0) text) none in (both.0, lacks_zero text both.1)

-- a text that has a form
formed : (any : Bool) (text bytes : List ℕ)
    → (if any then Err (user (codes "zero byte in a text")) else Ok (text ++ 0 ∷ [])) ≡ Ok bytes
    → (any ≡ false) × (bytes ≡ text ++ 0 ∷ [])
formed true text bytes is = let no : ⊥ = cc in absurd no
formed false text bytes is = let same : bytes ≡ text ++ 0 ∷ [] = cc in (refl, same)

pub string_is_read : StringIsRead
string_is_read text bytes more utf8 is =
    let parts = formed (list_any (λ byte. byte == 0) text) text bytes is in
    let first = found (bytes ++ more) text more (lacks_zero text parts.0)
    (ap (λ s. s ++ more) parts.1 ∙ append_assoc text (0 ∷ []) more) in
    ap text_of first ∙ plain text more utf8

pub ended_is_message : EndedIsMessage
ended_is_message before tag four body old new done four_long is ended =
    let front = before ++ tag ∷ [] in
    let whole : old.items ≡ front ++ (four ++ body) = is ∙ sym (append_assoc before (tag ∷ []) (four ++ body)) in
    let long : length front ≡ length before + 1 = length-append before (tag ∷ []) in
    let size : length old.items - length before - 1 ≡ 4 + length body =
    omega (arith, ap length whole, long, four_long, length-append front (four ++ body), length-append four body) in
    let first : take (length before + 1) old.items ≡ front =
    ap (take (length before + 1)) whole ∙ ap (λ n. take n (front ++ (four ++ body))) (sym long)
    ∙ take-append_seam front (four ++ body) in
    let last : drop (length before + 1 + 4) old.items ≡ body =
    ap (drop (length before + 1 + 4)) (whole ∙ sym (append_assoc front four body))
    ∙ drop_at (front ++ four) body (length before + 1 + 4)
    (omega (arith, long, four_long, length-append front four)) in
    let fits : fits_prefix (4 + length body) ≡ true = grind (arith, nat_tests, ended.1, size) in
    let bytes = be w32 (pos (4 + length body)) ++ body in (
      bytes,
      ap (λ b. if b then Ok bytes else Err transmit) fits,
      ended.2 ∙ rw (first, last, size) (append_assoc before (tag ∷ []) bytes),
    )
