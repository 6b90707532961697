-- Square tables with equal numbers are equal, and what is said of a table is so of an equal one.
use Rattle.std.proofs.Common.{◌≡◌, ◌<◌, ◌+◌, ◌*◌, ◌/◌, ◌%◌, ◌∙◌, ℕ, zero, suc, pos, List, length, arith, sym, ap, subst}
use Rattle.std.proofs.Math.Nat.{div-lt_iff_lt-mul}
use Rattle.whole_numbers.specs.Intervals.{Interval}
use Rattle.whole_numbers.specs.Lists.{at}
use Rattle.whole_numbers.proofs.ListLaws.{equal_lists}
use Rattle.sym_blocks.specs.Tables.{SymTable}
use Rattle.enclosures.specs.Pilots.{PilotTable, pilot_entry}

-- what is said of a table and a right side is so of equal ones
pub of_equal : (P : SymTable → List Interval → Type 0) (a b : SymTable) (d e : List Interval) → a ≡ b → d ≡ e → P a d → P b e
of_equal P a b d e same equal h = subst (λ x. P x e) same (subst (P a) equal h)

-- ---- squares

row_of : (n k : ℕ) → k < n * n → k / n < n
row_of zero k l = absurd (omega arith)
row_of (suc n) k l = (div-lt_iff_lt-mul {k = suc n} {x = k} {y = suc n} (omega arith)).1 l

column_of : (n k : ℕ) → k < n * n → k % n < n
column_of zero k l = absurd (omega arith)
column_of (suc n) k l = omega arith

place_of : (n k : ℕ) → k < n * n → k / n * n + k % n ≡ k
place_of zero k l = absurd (omega arith)
place_of (suc n) k l = omega arith

pub equal_square : (n : ℕ) (p q : PilotTable) → p.size ≡ n → q.size ≡ n → length p.entries ≡ n * n → length q.entries ≡ n * n → p.g ≡ q.g
    → ((i c : ℕ) → i < n → c < n → pilot_entry p i c ≡ pilot_entry q i c) → p ≡ q
equal_square n p q one other few many scale same =
    let entries : p.entries ≡ q.entries = equal_lists (pos 0) (n * n) p.entries q.entries few many (λ k l. in_square k l) in
    ap (λ g. (let t : PilotTable = record { g = g; size = p.size; entries = p.entries } in t)) scale
    ∙ ap (λ m. (let t : PilotTable = record { g = q.g; size = m; entries = p.entries } in t)) (one ∙ sym other)
    ∙ ap (λ ws. (let t : PilotTable = record { g = q.g; size = q.size; entries = ws } in t)) entries
  where
    in_row : (t : PilotTable) (k : ℕ) → t.size ≡ n → k < n * n → at t.entries k ≡ pilot_entry t (k / n) (k % n)
    in_row t k size l = ap (λ m. at t.entries m) (sym (place_of n k l) ∙ ap (λ m. k / n * m + k % n) (sym size))

    in_square : (k : ℕ) → k < n * n → at p.entries k ≡ at q.entries k
    in_square k l = in_row p k one l ∙ same (k / n) (k % n) (row_of n k l) (column_of n k l) ∙ sym (in_row q k other l)
