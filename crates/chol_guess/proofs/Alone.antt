-- What determines the columns of an inverse: two columns of one factor at one scale are one, and a row that fails its
-- bounds is one of no column.
use Rattle.std.proofs.Common.{◌≡◌, ◌≤◌, ◌<◌, ◌+◌, ◌-◌, ◌^◌, ◌∙◌, ℕ, zero, suc, ℤ, pos, ◌-ℤ◌, arith, refl, sym, ap, subst, unsigned_abs}
use Rattle.std.proofs.Math.Decide.{dec_lt}
use Rattle.whole_numbers.proofs.ListLaws.{same_below, minus_same}
use Rattle.whole_numbers.specs.Lists.{SameBelow}
use Rattle.whole_numbers.specs.Sum.{unit}
use Rattle.whole_numbers.proofs.Sums.{sum_to_same}
use Rattle.chol_factor.specs.Factor.{fixed_product, fixed_quotient, HasColumns, IsPivot}
use Rattle.chol_factor.proofs.Alone.{equal_fixed_products, equal_fixed_quotients, factor_alone, no_pivot_below}
use Rattle.chol_guess.specs.Columns.{forward_left, back_left, IsForwardSolution, IsBackSolution, IsInverseColumn, StayInBounds}
use Rattle.chol_guess.specs.Pilots.{IsPilot, IsCondition, nearest}
use Rattle.enclosures.specs.Pilots.{PilotTable, pilot_entry}
use Rattle.chol_guess.specs.Rows.{QuotientFits, IsBackFrom}

-- two tables have the same numbers up to the diagonal, in the rows below n
abbrev pub SameLower : ℕ → (ℕ → ℕ → ℤ) → (ℕ → ℕ → ℤ) → Type 0
SameLower n f h = (i k : ℕ) → i < n → k ≤ i → f i k ≡ h i k

pub same_lower : (n : ℕ) (f : ℕ → ℕ → ℤ) → SameLower n f f
same_lower n f i k row lower = refl

-- ---- forward substitution
pub up_left_same : (f h : ℕ → ℕ → ℤ) (g c : ℕ) (u v : ℕ → ℤ) (n i : ℕ) → i < n → SameLower n f h → SameBelow i u v → forward_left f g c u i ≡ forward_left h g c v i
up_left_same f h g c u v n i row same below =
    ap (λ s. unit c (pos (2 ^ (g + 10))) i -ℤ s) (sum_to_same i (λ k. fixed_product (f i k) (u k)) (λ k. fixed_product (h i k) (v k)) (λ k l. equal_fixed_products (f i k) (h i k) (u k) (v k) (same i k row (omega arith)) (below k l)))

-- the same rows of another list, under another factor with the same lower numbers
pub up_same : (f h : ℕ → ℕ → ℤ) (g c : ℕ) (u v : ℕ → ℤ) (n m : ℕ) → m ≤ n → SameLower n f h → SameBelow m u v → IsForwardSolution m f g c u → IsForwardSolution m h g c v
up_same f h g c u v n m le same below up = record {
  rows = λ i row. sym (below i row) ∙ up.rows i row ∙ equal_fixed_quotients _ _ (f i i) (h i i) (up_left_same f h g c u v n i (omega arith) same (λ k l. below k (omega arith))) (same i i (omega arith) (omega arith));
  left_fits = λ i row. subst (λ z. unsigned_abs z ≤ 2 ^ 66) (up_left_same f h g c u v n i (omega arith) same (λ k l. below k (omega arith))) (up.left_fits i row);
  fits = λ i row. subst (λ z. unsigned_abs z ≤ 2 ^ 64) (below i row) (up.fits i row);
}

pub up_fewer : (f : ℕ → ℕ → ℤ) (g c : ℕ) (u : ℕ → ℤ) (n m : ℕ) → m ≤ n → IsForwardSolution n f g c u → IsForwardSolution m f g c u
up_fewer f g c u n m le up = record {
  rows = λ i row. up.rows i (omega arith);
  left_fits = λ i row. up.left_fits i (omega arith);
  fits = λ i row. up.fits i (omega arith);
}

-- one row more, below an end
more_same : (m : ℕ) (u v : ℕ → ℤ) → SameBelow m u v → u m ≡ v m → SameBelow (suc m) u v
more_same m u v before here k h =
    elim (dec_lt k m) [
      | yes l ↦ before k l
      | no l ↦ let e : m ≡ k = omega arith in subst (λ j. u j ≡ v j) e here
    ]

pub up_alone : (m : ℕ) (f : ℕ → ℕ → ℤ) (g c : ℕ) (u v : ℕ → ℤ) → IsForwardSolution m f g c u → IsForwardSolution m f g c v → SameBelow m u v
up_alone zero f g c u v a b = λ k h. absurd (omega arith)
up_alone (suc m) f g c u v a b =
    let before = up_alone m f g c u v (up_fewer f g c u (suc m) m (omega arith) a) (up_fewer f g c v (suc m) m (omega arith) b) in
    let left = up_left_same f f g c u v (suc m) m (omega arith) (same_lower (suc m) f) before in
    more_same m u v before (a.rows m (omega arith) ∙ ap (λ z. fixed_quotient z (f m m)) left ∙ sym (b.rows m (omega arith)))

-- where row i fails its bounds, there is no forward substitution
pub up_stops : (n i : ℕ) (f : ℕ → ℕ → ℤ) (g c : ℕ) (u v : ℕ → ℤ) → i < n → IsForwardSolution i f g c u → ¬ (QuotientFits (forward_left f g c u i) (f i i) (2 ^ 64)) → ¬ (IsForwardSolution n f g c v)
up_stops n i f g c u v row so_far fails up =
    let same = up_alone i f g c v u (up_fewer f g c v n i (omega arith) up) so_far in
    let left = up_left_same f f g c v u n i row (same_lower n f) same in
    fails (record {
      left_fits = subst (λ z. unsigned_abs z ≤ 2 ^ 66) left (up.left_fits i row);
      fits = subst (λ z. unsigned_abs z ≤ 2 ^ 64) (up.rows i row ∙ ap (λ z. fixed_quotient z (f i i)) left) (up.fits i row);
    })

-- ---- back substitution
abbrev pub SameFrom : ℕ → ℕ → (ℕ → ℤ) → (ℕ → ℤ) → Type 0
SameFrom n m x y = (k : ℕ) → m ≤ k → k < n → x k ≡ y k

pub down_left_same : (f h : ℕ → ℕ → ℤ) (u v x y : ℕ → ℤ) (n i : ℕ) → i < n → SameLower n f h → SameBelow n u v → SameFrom n (suc i) x y → back_left n f u x i ≡ back_left n h v y i
down_left_same f h u v x y n i row same above past =
    minus_same _ _ _ _ (above i row)
    (sum_to_same (n - suc i) (λ d. fixed_product (f (suc i + d) i) (x (suc i + d))) (λ d. fixed_product (h (suc i + d) i) (y (suc i + d)))
    (λ d l. equal_fixed_products (f (suc i + d) i) (h (suc i + d) i) (x (suc i + d)) (y (suc i + d)) (same (suc i + d) i (omega arith) (omega arith)) (past (suc i + d) (omega arith) (omega arith))))

pub down_same : (f h : ℕ → ℕ → ℤ) (u v x y : ℕ → ℤ) (n m : ℕ) → SameLower n f h → SameBelow n u v → SameFrom n m x y → IsBackFrom n m f u x → IsBackFrom n m h v y
down_same f h u v x y n m same above past down = record {
  rows = λ i from row. sym (past i from row) ∙ down.rows i from row ∙ equal_fixed_quotients _ _ (f i i) (h i i) (down_left_same f h u v x y n i row same above (λ k l lt. past k (omega arith) lt)) (same i i row (omega arith));
  left_fits = λ i from row. subst (λ z. unsigned_abs z ≤ 2 ^ 66) (down_left_same f h u v x y n i row same above (λ k l lt. past k (omega arith) lt)) (down.left_fits i from row);
  fits = λ i from row. subst (λ z. unsigned_abs z ≤ 2 ^ 60) (past i from row) (down.fits i from row);
}

pub down_from : (n m : ℕ) (f : ℕ → ℕ → ℤ) (u x : ℕ → ℤ) → IsBackSolution n f u x → IsBackFrom n m f u x
down_from n m f u x down = record {
  rows = λ i from row. down.rows i row;
  left_fits = λ i from row. down.left_fits i row;
  fits = λ i from row. down.fits i row;
}

pub down_whole : (n m : ℕ) (f : ℕ → ℕ → ℤ) (u x : ℕ → ℤ) → m ≡ 0 → IsBackFrom n m f u x → IsBackSolution n f u x
down_whole n m f u x none down = record {
  rows = λ i row. down.rows i (omega arith) row;
  left_fits = λ i row. down.left_fits i (omega arith) row;
  fits = λ i row. down.fits i (omega arith) row;
}

fewer_down : (n m : ℕ) (f : ℕ → ℕ → ℤ) (u x : ℕ → ℤ) → IsBackFrom n m f u x → IsBackFrom n (suc m) f u x
fewer_down n m f u x down = record {
  rows = λ i from row. down.rows i (omega arith) row;
  left_fits = λ i from row. down.left_fits i (omega arith) row;
  fits = λ i from row. down.fits i (omega arith) row;
}

earlier_same : (n m : ℕ) (x y : ℕ → ℤ) → SameFrom n (suc m) x y → (m < n → x m ≡ y m) → SameFrom n m x y
earlier_same n m x y past here k from row =
    elim (dec_lt m k) [
      | yes l ↦ past k l row
      | no l ↦ let e : m ≡ k = omega arith in subst (λ j. x j ≡ y j) e (here (omega arith))
    ]

-- by the number of rows from row m on
down_alone_by : (d n m : ℕ) (f : ℕ → ℕ → ℤ) (u x y : ℕ → ℤ) → n ≤ m + d → IsBackFrom n m f u x → IsBackFrom n m f u y → SameFrom n m x y
down_alone_by zero n m f u x y end a b = λ k from row. absurd (omega arith)
down_alone_by (suc d) n m f u x y end a b =
    let past = down_alone_by d n (suc m) f u x y (omega arith) (fewer_down n m f u x a) (fewer_down n m f u y b) in
    earlier_same n m x y past (λ row.
    let left = down_left_same f f u u x y n m row (same_lower n f) (same_below n u) past in
    a.rows m (omega arith) row ∙ ap (λ z. fixed_quotient z (f m m)) left ∙ sym (b.rows m (omega arith) row))

pub down_alone : (n m : ℕ) (f : ℕ → ℕ → ℤ) (u x y : ℕ → ℤ) → IsBackFrom n m f u x → IsBackFrom n m f u y → SameFrom n m x y
down_alone n m f u x y a b = down_alone_by n n m f u x y (omega arith) a b

-- where row i fails its bounds, there is no back substitution
pub down_stops : (n i : ℕ) (f : ℕ → ℕ → ℤ) (u x y : ℕ → ℤ) → i < n → IsBackFrom n (suc i) f u x → ¬ (QuotientFits (back_left n f u x i) (f i i) (2 ^ 60)) → ¬ (IsBackSolution n f u y)
down_stops n i f u x y row so_far fails down =
    let same = down_alone n (suc i) f u y x (down_from n (suc i) f u y down) so_far in
    let left = down_left_same f f u u y x n i row (same_lower n f) (same_below n u) same in
    fails (record {
      left_fits = subst (λ z. unsigned_abs z ≤ 2 ^ 66) left (down.left_fits i row);
      fits = subst (λ z. unsigned_abs z ≤ 2 ^ 60) (down.rows i row ∙ ap (λ z. fixed_quotient z (f i i)) left) (down.fits i row);
    })

-- ---- columns
-- two columns of one factor at one scale are one
pub column_alone : (n : ℕ) (f : ℕ → ℕ → ℤ) (g c : ℕ) (x y : ℕ → ℤ) → IsInverseColumn n f g c x → IsInverseColumn n f g c y → SameBelow n x y
column_alone n f g c x y a b =
    let ups = up_alone n f g c a.u b.u a.up b.up in
    let moved = down_same f f a.u b.u x x n 0 (same_lower n f) ups (λ k from row. refl) (down_from n 0 f a.u x a.down) in
    λ k h. down_alone n 0 f b.u x y moved (down_from n 0 f b.u y b.down) k (omega arith) h

-- a column of one factor is one of each with the same lower numbers
pub column_same : (n : ℕ) (f h : ℕ → ℕ → ℤ) (g c : ℕ) (x : ℕ → ℤ) → SameLower n f h → IsInverseColumn n f g c x → IsInverseColumn n h g c x
column_same n f h g c x same a = record {
  u = a.u;
  up = up_same f h g c a.u a.u n n (omega arith) same (same_below n a.u) a.up;
  down = down_whole n 0 h a.u x refl (down_same f h a.u a.u x x n 0 same (same_below n a.u) (λ k from row. refl) (down_from n 0 f a.u x a.down));
}

-- where there is no back substitution, there is no column
pub column_stops : (n : ℕ) (f : ℕ → ℕ → ℤ) (g c : ℕ) (u y : ℕ → ℤ) → IsForwardSolution n f g c u → ((x : ℕ → ℤ) → ¬ (IsBackSolution n f u x)) → ¬ (IsInverseColumn n f g c y)
column_stops n f g c u y up none a =
    let ups = up_alone n f g c a.u u a.up up in
    none y (down_whole n 0 f u y refl (down_same f f a.u u y y n 0 (same_lower n f) ups (λ k from row. refl) (down_from n 0 f a.u y a.down)))

-- ---- pilots
-- what one of two factors of a table has in its bounds, the other has too
factors_same : (n : ℕ) (m f h : ℕ → ℕ → ℤ) → HasColumns n m f n → HasColumns n m h n → SameLower n f h
factors_same n m f h a b i k row lower = factor_alone n m f h n a b i k (omega arith) lower row

stay_same : (n : ℕ) (f h : ℕ → ℕ → ℤ) (g c : ℕ) → SameLower n f h → StayInBounds n f g c → StayInBounds n h g c
stay_same n f h g c same stay k l = let x = stay k l in (x.0, column_same n f h g k x.0 same x.1)

pilot_stays : (n : ℕ) (m : ℕ → ℕ → ℤ) (p : PilotTable) (a : IsPilot n m p) → StayInBounds n a.f p.g n
pilot_stays n m p a k h = let x = a.columns k h in (x.0, x.1.0)

no_greater : (n : ℕ) (m : ℕ → ℕ → ℤ) (p q : PilotTable) → IsPilot n m p → IsPilot n m q → ¬ (p.g < q.g)
no_greater n m p q a b less = a.greatest q.g b.scale less (stay_same n b.f a.f q.g n (factors_same n m b.f a.f b.factor a.factor) (pilot_stays n m q b))

-- two pilots of one table have one scale
pub pilot_alone : (n : ℕ) (m : ℕ → ℕ → ℤ) (p q : PilotTable) → IsPilot n m p → IsPilot n m q → p.g ≡ q.g
pilot_alone n m p q a b = let low = no_greater n m p q a b in let high = no_greater n m q p b a in omega arith

-- and equal numbers
pub pilot_entries_alone : (n : ℕ) (m : ℕ → ℕ → ℤ) (p q : PilotTable) → IsPilot n m p → IsPilot n m q → (i c : ℕ) → i < n → c < n → pilot_entry p i c ≡ pilot_entry q i c
pilot_entries_alone n m p q a b i c row column =
    let x = a.columns c column in
    let y = b.columns c column in
    let moved = column_same n a.f b.f p.g c x.0 (factors_same n m a.f b.f a.factor b.factor) x.1.0 in
    let here = subst (λ g. IsInverseColumn n b.f g c x.0) (pilot_alone n m p q a b) moved in
    x.1.1 i row ∙ ap nearest (column_alone n b.f q.g c x.0 y.0 here y.1.0 i row) ∙ sym (y.1.1 i row)

-- a table with a pilot has each pivot
pub no_pivot : (n : ℕ) (m : ℕ → ℕ → ℤ) (p : PilotTable) (row : ℕ) → IsPilot n m p → ¬ (IsPivot n m row)
no_pivot n m p row a pivot = no_pivot_below n m a.f row n a.factor pivot pivot.within

fails_nowhere : (n : ℕ) (m : ℕ → ℕ → ℤ) (p : PilotTable) (c : ℕ) (a : IsPilot n m p) (b : IsCondition n m c) → StayInBounds n b.f p.g n → ¬ (p.g ≡ 0)
fails_nowhere n m p c a b stay least = b.here (λ k h. subst (λ g. (x : ℕ → ℤ) × IsInverseColumn n b.f g k x) least (stay k (let w = b.within in omega arith)))

-- and a scale at which all columns stay in bounds
pub no_condition : (n : ℕ) (m : ℕ → ℕ → ℤ) (p : PilotTable) (c : ℕ) → IsPilot n m p → ¬ (IsCondition n m c)
no_condition n m p c a b =
    let stay = stay_same n a.f b.f p.g n (factors_same n m a.f b.f a.factor b.factor) (pilot_stays n m p a) in
    let some = fails_nowhere n m p c a b stay in
    b.greater p.g a.scale (omega arith) stay

-- a table has at most one refusal
pub condition_alone : (n : ℕ) (m : ℕ → ℕ → ℤ) (c d : ℕ) → IsCondition n m c → IsCondition n m d → c ≡ d
condition_alone n m c d a b =
    let low : ¬ (c < d) = λ h. a.here (stay_same n b.f a.f 0 (suc c) (factors_same n m b.f a.f b.factor a.factor) (λ k l. b.before k (omega arith))) in
    let high : ¬ (d < c) = λ h. b.here (stay_same n a.f b.f 0 (suc d) (factors_same n m a.f b.f a.factor b.factor) (λ k l. a.before k (omega arith))) in
    omega arith

-- a table whose pilot is refused has a factor
pub condition_no_pivot : (n : ℕ) (m : ℕ → ℕ → ℤ) (c j : ℕ) → IsCondition n m c → IsPivot n m j → ⊥
condition_no_pivot n m c j a b = no_pivot_below n m a.f j n a.factor b b.within
