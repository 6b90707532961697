-- The lines of the normal matrix.
use Rattle.std.proofs.Common.{◌≡◌, ◌≤◌, ◌∷◌, ◌+◌, ◌-◌, ◌*◌, ◌++◌, ℕ, zero, suc, List, [], min, map, sym, ap, ◌∙◌, refl, arith, add-zero, zero-add, append-nil}
use Rattle.std.proofs.lemmas.Grind.{flat_map-append}
use Rattle.std.proofs.lemmas.List.FromFn.{map-range_with_len_more}
use Rattle.std.specs.List.{flat_map, range_with_len}
use Rattle.blanks.specs.Blanks.{right_justified}
use Rattle.neq_stack.specs.Neqs.{PlainNeq}
use Rattle.snx_write.specs.Combined.{text_of, line, element_text, matrix_line}
use Rattle.snx_write.proofs.Lines.{more_lines}

-- a line with three elements
pub three_elements : (neq : PlainNeq) (i k : ℕ) (row column a b d : List ℕ) → row ≡ right_justified (i + 1) 5 → column ≡ right_justified (3 * k + 1) 5
    → a ≡ element_text neq i (3 * k) → b ≡ element_text neq i (3 * k + 1) → d ≡ element_text neq i (3 * k + 2) → 3 * k + 2 ≤ i
    → line ([] ∷ row ∷ column ∷ a ∷ b ∷ d ∷ []) ≡ matrix_line neq i k
three_elements neq i k row column a b d e f g h j more =
    let count : min 3 (suc i - 3 * k) ≡ 3 = omega arith in
    let one : suc i ≡ i + 1 = omega arith in
    let first : suc (3 * k) ≡ 3 * k + 1 = omega arith in
    let third : 3 * k + 1 + 1 ≡ 3 * k + 2 = omega arith in
    rw (count, one, first, third, e, f, g, h, j) refl

-- the lines of the numbers so far, and one more
pub one_more_line : (f : ℕ → List ℕ) (k : ℕ) (old text more : List ℕ) → text ≡ old ++ text_of (map f (range_with_len 0 k)) → more ≡ text ++ text_of (f k ∷ []) → more ≡ old ++ text_of (map f (range_with_len 0 (k + 1)))
one_more_line f k old text more e g =
    more_lines (map f (range_with_len 0 k)) (f k ∷ []) old text more e g ∙ ap (λ l. old ++ text_of l) (sym (map-range_with_len_more f 0 k k (omega arith)))

-- the numbers from a on, and one more
range_more : (a n : ℕ) → range_with_len a (n + 1) ≡ range_with_len a n ++ (a + n) ∷ []
range_more a zero = rw add-zero refl
range_more a (suc n) =
    let count : suc n + 1 ≡ suc (n + 1) = omega arith in
    let last : a + 1 + n ≡ a + suc n = omega arith in
    rw count (ap (λ l. a ∷ l) (range_more (a + 1) n ∙ ap (λ m. range_with_len (a + 1) n ++ m ∷ []) last))

-- the lines that each number has, and those of one more
pub more_of_each : (f : ℕ → List (List ℕ)) (k : ℕ) (old text more : List ℕ) → text ≡ old ++ text_of (flat_map f (range_with_len 0 k)) → more ≡ text ++ text_of (f k)
    → more ≡ old ++ text_of (flat_map f (range_with_len 0 (k + 1)))
more_of_each f k old text more e g =
    let step : flat_map f (range_with_len 0 (k + 1)) ≡ flat_map f (range_with_len 0 k) ++ f k = rw (range_more 0 k, flat_map-append, zero-add, append-nil) refl in
    more_lines (flat_map f (range_with_len 0 k)) (f k) old text more e g ∙ ap (λ l. old ++ text_of l) (sym step)
