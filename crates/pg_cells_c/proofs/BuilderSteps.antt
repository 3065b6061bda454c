-- Steps of builders.
use Rattle.std.specs.Prelude.{◌≡◌, ℕ, ◌+◌, List, ◌++◌, length, take, drop, true, false, refl}
use Rattle.std.proofs.Common.{arith, ap, sym, ◌∙◌, append_assoc}
use Rattle.std.proofs.lemmas.List.{drop-drop, length-append}
use Rattle.pg_cells_c.specs.Builders.{has_room, with_bytes_at}

-- how many bytes four parts have
pub parts_len : (a b c d : List ℕ) → length (a ++ b ++ c ++ d) ≡ length a + length b + length c + length d
parts_len a b c d = rw (length-append, length-append, length-append) refl

-- the rest of a buffer after four parts
rest_after : (at : ℕ) (a b c d old : List ℕ)
    → drop (length d) (drop (length c) (drop (length b) (drop (length a) (drop at old))))
    ≡ drop (at + length (a ++ b ++ c ++ d)) old
rest_after at a b c d old =
    drop-drop (length d) (length c) (drop (length b) (drop (length a) (drop at old)))
    ∙ drop-drop (length c + length d) (length b) (drop (length a) (drop at old))
    ∙ drop-drop (length b + (length c + length d)) (length a) (drop at old)
    ∙ drop-drop (length a + (length b + (length c + length d))) at old
    ∙ ap (λ n. drop n old) (omega (arith, parts_len a b c d))

-- four parts are one after another
parts_join : (a b c d e : List ℕ) → a ++ (b ++ (c ++ (d ++ e))) ≡ (a ++ b ++ c ++ d) ++ e
parts_join a b c d e =
    sym (append_assoc (a ++ b ++ c) d e ∙ append_assoc (a ++ b) c (d ++ e) ∙ append_assoc a b (c ++ (d ++ e)))

-- four parts are put at a place that has room for them
pub put : (at : ℕ) (a b c d old new : List ℕ)
    → has_room at (length a + length b + length c + length d) (length old) ≡ true
    → new ≡ take at old ++ (a ++ (b ++ (c ++ (d
    ++ drop (length d) (drop (length c) (drop (length b) (drop (length a) (drop at old))))))))
    → new ≡ with_bytes_at at (a ++ b ++ c ++ d) old
put at a b c d old new fits is =
    let room : has_room at (length (a ++ b ++ c ++ d)) (length old) ≡ true =
    ap (λ n. has_room at n (length old)) (parts_len a b c d) ∙ fits in
    rw room (is ∙ ap (λ e. take at old ++ (a ++ (b ++ (c ++ (d ++ e))))) (rest_after at a b c d old)
    ∙ ap (λ s. take at old ++ s) (parts_join a b c d (drop (at + length (a ++ b ++ c ++ d)) old)))

-- there is none
pub not_put : (at : ℕ) (a b c d old new : List ℕ)
    → has_room at (length a + length b + length c + length d) (length old) ≡ false → new ≡ old
    → new ≡ with_bytes_at at (a ++ b ++ c ++ d) old
not_put at a b c d old new long is =
    let room : has_room at (length (a ++ b ++ c ++ d)) (length old) ≡ false =
    ap (λ n. has_room at n (length old)) (parts_len a b c d) ∙ long in
    rw room is
