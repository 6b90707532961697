-- What one more interval, row or exponent keeps.
use Rattle.std.proofs.Common.{◌≡◌, ◌≤◌, ◌<◌, ◌+◌, ◌∙◌, ◌++◌, ◌∷◌, [], ◌⊎◌, inl, inr, ℕ, ℤ, pos, List, Option, SomeIff, length, refl, sym, ap, subst, arith}
use Rattle.std.proofs.lemmas.List.{length_push}
use Rattle.whole_numbers.proofs.ListLaws.{each_push}
use Rattle.whole_numbers.specs.Intervals.{Interval, size}
use Rattle.whole_numbers.specs.Scaling.{interval_scale10}
use Rattle.whole_numbers.proofs.Cases.{last_or_before}
use Rattle.sym_blocks.specs.Tables.{SymTable, entry_at, IsPair}
use Rattle.equil.specs.Exponents.{IsInRange}
use Rattle.equil.specs.Rows.{AllInRange, AreScaled, IsRowScaled, KeepsRows}
use Rattle.equil.specs.Tables.{working_entry, EntryFits}

-- b is a with the interval w at the pair (i, j)
pub record IsSet (i j : ℕ) (w : Interval) (a b : SymTable) : Type 0 where
  pub here : (k l : ℕ) → IsPair i j k l → entry_at b k l ≡ w
  pub others : (k l : ℕ) → k < a.size → l < a.size → ¬ (IsPair i j k l) → entry_at b k l ≡ entry_at a k l

not_pair_before : (i j k l : ℕ) → k < i → l ≤ k → IsPair i j k l → ⊥
not_pair_before i j k l h g (inl p) = omega (arith, p)
not_pair_before i j k l h g (inr p) = omega (arith, p)

not_pair_left : (i j l : ℕ) → j ≤ i → l < j → IsPair i j i l → ⊥
not_pair_left i j l h g (inl p) = omega (arith, p)
not_pair_left i j l h g (inr p) = omega (arith, p)

pub kept_step : (i j : ℕ) (w : Interval) (o a b : SymTable) → i < a.size → IsSet i j w a b → KeepsRows i o a → KeepsRows i o b
kept_step i j w o a b row s kept k l h g = s.others k l (omega arith) (omega arith) (not_pair_before i j k l h g) ∙ kept k l h g

last_entry : (i j l : ℕ) (w : Interval) (a b : SymTable) (t : ℕ → ℕ → Interval) (e : ℕ → ℤ) → i < a.size → j ≤ i → IsSet i j w a b → IsRowScaled i j a t e → w ≡ working_entry t e i j → (l < j) ⊎ (l ≡ j) → entry_at b i l ≡ working_entry t e i l
last_entry i j l w a b t e row lower s d is (inl h) = s.others i l row (omega arith) (not_pair_left i j l lower h) ∙ d.entries l h
last_entry i j l w a b t e row lower s d is (inr h) = s.here i l (inl (refl, h)) ∙ is ∙ ap (working_entry t e i) (sym h)

last_fits : (i j l : ℕ) (a : SymTable) (t : ℕ → ℕ → Interval) (e : ℕ → ℤ) → IsRowScaled i j a t e → EntryFits t e i j → (l < j) ⊎ (l ≡ j) → EntryFits t e i l
last_fits i j l a t e d fits (inl h) = d.fit l h
last_fits i j l a t e d fits (inr h) = subst (EntryFits t e i) (sym h) fits

pub row_step : (i j : ℕ) (w : Interval) (a b : SymTable) (t : ℕ → ℕ → Interval) (e : ℕ → ℤ) → i < a.size → j ≤ i → IsSet i j w a b → IsRowScaled i j a t e → w ≡ working_entry t e i j → EntryFits t e i j → IsRowScaled i (j + 1) b t e
row_step i j w a b t e row lower s d is fits = record {
  entries = λ l h. last_entry i j l w a b t e row lower s d is (last_or_before l j h);
  fit = λ l h. last_fits i j l a t e d fits (last_or_before l j h);
}

next_entry : (n k l : ℕ) (a b : SymTable) (t : ℕ → ℕ → Interval) (e : ℕ → ℤ) → AreScaled n a t e → KeepsRows n a b → IsRowScaled n (n + 1) b t e → l ≤ k → (k < n) ⊎ (k ≡ n) → entry_at b k l ≡ working_entry t e k l
next_entry n k l a b t e d kept r h (inl p) = kept k l p h ∙ d.entries k l p h
next_entry n k l a b t e d kept r h (inr p) = subst (λ m. entry_at b m l ≡ working_entry t e m l) (sym p) (r.entries l (omega arith))

next_fits : (n k l : ℕ) (a b : SymTable) (t : ℕ → ℕ → Interval) (e : ℕ → ℤ) → AreScaled n a t e → IsRowScaled n (n + 1) b t e → l ≤ k → (k < n) ⊎ (k ≡ n) → EntryFits t e k l
next_fits n k l a b t e d r h (inl p) = d.fit k l p h
next_fits n k l a b t e d r h (inr p) = subst (λ m. EntryFits t e m l) (sym p) (r.fit l (omega arith))

pub rows_step : (n : ℕ) (a b : SymTable) (t : ℕ → ℕ → Interval) (e : ℕ → ℤ) → AreScaled n a t e → KeepsRows n a b → IsRowScaled n (n + 1) b t e → AreScaled (n + 1) b t e
rows_step n a b t e d kept r = record {
  entries = λ k l p h. next_entry n k l a b t e d kept r h (last_or_before k n p);
  fit = λ k l p h. next_fits n k l a b t e d r h (last_or_before k n p);
}

pub range_push : (xs : List ℤ) (x : ℤ) → AllInRange xs → IsInRange x → AllInRange (xs ++ x ∷ [])
range_push xs x before last = λ k h. each_push (λ k x. IsInRange x) xs (length xs) x (pos 0) refl before last k (omega (arith, length_push xs x))

-- the same answer, for equal intervals and powers
pub scaled_same : (r : Option Interval) (limit : ℕ) (w v : Interval) (k m : ℤ) → w ≡ v → k ≡ m → SomeIff r (size (interval_scale10 w k) ≤ limit) (interval_scale10 w k) → SomeIff r (size (interval_scale10 v m) ≤ limit) (interval_scale10 v m)
scaled_same r limit w v k m e f h = subst (λ m. SomeIff r (size (interval_scale10 v m) ≤ limit) (interval_scale10 v m)) f (subst (λ v. SomeIff r (size (interval_scale10 v k) ≤ limit) (interval_scale10 v k)) e h)
