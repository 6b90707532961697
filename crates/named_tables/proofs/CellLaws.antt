-- Elements at the places of their names.
use Rattle.std.proofs.Common.{◌≡◌, ◌≤◌, ◌<◌, ◌+◌, ◌-◌, ◌∙◌, ◌⊎◌, inl, inr, ℕ, ℤ, true, false, cond, List, [], ◌∷◌, ◌++◌, Option, Some, None, length, map, drop, get_or, refl, sym, ap, subst, arith}
use Rattle.std.specs.List.{find}
use Rattle.std.specs.Net.Reader.{map_or}
use Rattle.std.proofs.Math.Decide.{ℕ_discrete}
use Rattle.std.proofs.lemmas.Bool.Decides.{nat_tests}
use Rattle.std.proofs.lemmas.Int.{ints}
use Rattle.std.proofs.lemmas.List.{drop_all, get_or_read}
use Rattle.whole_numbers.specs.Intervals.{Interval}
use Rattle.whole_numbers.proofs.ListLaws.{each_push}
use Rattle.decimal_e.specs.Decimals.{Decimal, product}
use Rattle.sym_blocks.specs.Tables.{SymTable, entry_at, zero_interval, IsPair}
use Rattle.snx_rows.specs.declared.rows.Row.{Row}
use Rattle.snx_matrices.specs.declared.elements.Cell.{Cell}
use Rattle.snx_matrices.specs.declared.elements.Content.{Content}
use Rattle.snx_matrices.specs.declared.elements.Content.TheVariants.{Cova, Corr, Info}
use Rattle.snx_rows.specs.Named.{zero_decimal}
use Rattle.snx_matrices.specs.Named.{is_at, given_at}
use Rattle.named_tables.specs.Parts.{StandsFor, ranked, ranked_number, right_number, pair_power, row_power, ShowsEntries}
use Rattle.named_tables.proofs.WeightLaws.{zero_stands}
use Rattle.named_tables.proofs.NameLaws.{drop_back}

-- ---- one more element in front
pair_cases : (cell : Cell) (i j : ℕ) → ((is_at i j cell ≡ true) × IsPair cell.row cell.col i j) ⊎ ((is_at i j cell ≡ false) × ¬ (IsPair cell.row cell.col i j))
pair_cases cell i j =
    elim (ℕ_discrete cell.row i) [
      | yes p ↦ elim (ℕ_discrete cell.col j) [
        | yes q ↦ inl (grind (arith, nat_tests), inl (sym p, sym q))
        | no q ↦ elim (ℕ_discrete cell.row j) [
          | yes r ↦ elim (ℕ_discrete cell.col i) [
            | yes s ↦ inl (grind (arith, nat_tests), inr (sym s, sym r))
            | no s ↦ inr (grind (arith, nat_tests), λ h. elim h [ inl f ↦ q (sym f.1) | inr f ↦ s (sym f.0) ])
          ]
          | no r ↦ inr (grind (arith, nat_tests), λ h. elim h [ inl f ↦ q (sym f.1) | inr f ↦ r (sym f.1) ])
        ]
      ]
      | no p ↦ elim (ℕ_discrete cell.row j) [
        | yes r ↦ elim (ℕ_discrete cell.col i) [
          | yes s ↦ inl (grind (arith, nat_tests), inr (sym s, sym r))
          | no s ↦ inr (grind (arith, nat_tests), λ h. elim h [ inl f ↦ p (sym f.0) | inr f ↦ s (sym f.0) ])
        ]
        | no r ↦ inr (grind (arith, nat_tests), λ h. elim h [ inl f ↦ p (sym f.0) | inr f ↦ r (sym f.1) ])
      ]
    ]

in_front : (cell : Cell) (cells : List Cell) (i j : ℕ) → is_at i j cell ≡ true → given_at (cell ∷ cells) i j ≡ cell.value
in_front cell cells i j at = ap (λ b. map_or (cond b (Some cell) (find (is_at i j) cells)) zero_decimal (λ (c : Cell). c.value)) at

pub behind : (cell : Cell) (cells : List Cell) (i j : ℕ) → is_at i j cell ≡ false → given_at (cell ∷ cells) i j ≡ given_at cells i j
behind cell cells i j apart = ap (λ b. map_or (cond b (Some cell) (find (is_at i j) cells)) zero_decimal (λ (c : Cell). c.value)) apart

-- the exponents of a pair, in either order
turned_power : (content : Content) (exponents : List ℤ) (i j : ℕ) → pair_power content exponents i j ≡ pair_power content exponents j i
turned_power Info exponents i j = omega (arith, ints)
turned_power Cova exponents i j = omega (arith, ints)
turned_power Corr exponents i j = refl

same_power : (content : Content) (exponents : List ℤ) (row col i j : ℕ) → IsPair row col i j → pair_power content exponents row col ≡ pair_power content exponents i j
same_power content exponents row col i j (inl p) = ap (λ r. pair_power content exponents r col) (sym p.0) ∙ ap (pair_power content exponents i) (sym p.1)
same_power content exponents row col i j (inr p) = turned_power content exponents row col ∙ ap (λ c. pair_power content exponents c row) (sym p.0) ∙ ap (pair_power content exponents i) (sym p.1)

module _ (content : Content) (weight : Decimal) (cells : List Cell) (ranks : List ℕ) (exponents : List ℤ) where
  pub none_shown : (k : ℕ) (table : SymTable) → length cells ≤ k → ((i j : ℕ) → i < length exponents → j < length exponents → entry_at table i j ≡ zero_interval) → ShowsEntries content weight (drop k cells) ranks exponents table
  none_shown k table all zeros i j li lj =
      let none : ranked_number weight (drop k cells) ranks i j ≡ product weight zero_decimal = ap (λ cs. ranked_number weight cs ranks i j) (drop_all k cells all) in
      subst (λ d. StandsFor d (pair_power content exponents i j) (entry_at table i j)) (sym none) (zero_stands weight (pair_power content exponents i j) (entry_at table i j) (zeros i j li lj))

  pub one_shown : (k : ℕ) (cell : Cell) (row col : ℕ) (scale : ℤ) (w : Interval) (a b : SymTable) → 1 ≤ k → k ≤ length cells → cell ≡ get_or cells (k - 1) cell → row ≡ get_or ranks cell.row 0 → col ≡ get_or ranks cell.col 0 → scale ≡ pair_power content exponents row col
      → StandsFor (product weight cell.value) scale w → ShowsEntries content weight (drop k cells) ranks exponents a
      → ((i j : ℕ) → IsPair row col i j → entry_at b i j ≡ w) → ((i j : ℕ) → i < length exponents → j < length exponents → ¬ (IsPair row col i j) → entry_at b i j ≡ entry_at a i j)
      → ShowsEntries content weight (drop (k - 1) cells) ranks exponents b
  one_shown k cell row col scale w a b some within is row_is col_is scale_is stands before here others i j li lj =
      let moved : Cell = ranked ranks cell in
      let rest : List Cell = map (ranked ranks) (drop k cells) in
      let front : drop (k - 1) cells ≡ cell ∷ drop k cells = drop_back cells k cell some within is in
      let split : ranked_number weight (drop (k - 1) cells) ranks i j ≡ product weight (given_at (moved ∷ rest) i j) = ap (λ cs. ranked_number weight cs ranks i j) front in
      elim (pair_cases moved i j) [
        | inl h ↦
            let pair : IsPair row col i j = subst (λ r. IsPair r col i j) (sym row_is) (subst (λ c. IsPair moved.row c i j) (sym col_is) h.1) in
            let value : ranked_number weight (drop (k - 1) cells) ranks i j ≡ product weight cell.value = split ∙ ap (product weight) (in_front moved rest i j h.0) in
            let power : scale ≡ pair_power content exponents i j = scale_is ∙ same_power content exponents row col i j pair in
            subst (λ d. StandsFor d (pair_power content exponents i j) (entry_at b i j)) (sym value)
            (subst (λ p. StandsFor (product weight cell.value) p (entry_at b i j)) power (subst (StandsFor (product weight cell.value) scale) (sym (here i j pair)) stands))
        | inr h ↦
            let apart : IsPair row col i j → ⊥ = λ p. h.1 (subst (λ r. IsPair r moved.col i j) row_is (subst (λ c. IsPair row c i j) col_is p)) in
            let value : ranked_number weight (drop (k - 1) cells) ranks i j ≡ ranked_number weight (drop k cells) ranks i j = split ∙ ap (product weight) (behind moved rest i j h.0) in
            subst (λ d. StandsFor d (pair_power content exponents i j) (entry_at b i j)) (sym value)
            (subst (StandsFor (ranked_number weight (drop k cells) ranks i j) (pair_power content exponents i j)) (sym (others i j li lj apart)) (before i j li lj))
      ]

-- ---- one more interval of the right side
pub right_more : (weight : Decimal) (rows : List (Option Row)) (exponents : List ℤ) (k : ℕ) (row : Option Row) (value : Decimal) (scale : ℤ) (w : Interval) (ds xs : List Interval) → length ds ≡ k → k < length rows → row ≡ get_or rows k row
    → value ≡ map_or row zero_decimal (λ row. row.value) → scale ≡ row_power exponents k → StandsFor (product weight value) scale w → xs ≡ ds ++ w ∷ []
    → ((i : ℕ) → i < k → StandsFor (right_number weight rows i) (row_power exponents i) (get_or ds i zero_interval)) → (i : ℕ) → i < k + 1 → StandsFor (right_number weight rows i) (row_power exponents i) (get_or xs i zero_interval)
right_more weight rows exponents k row value scale w ds xs len l is value_is scale_is stands pushed before i h =
    let read : row ≡ get_or rows k None = get_or_read rows k row l is None in
    let same : product weight value ≡ right_number weight rows k = ap (product weight) (value_is ∙ ap (λ o. map_or o zero_decimal (λ (r : Row). r.value)) read) in
    subst (λ l. StandsFor (right_number weight rows i) (row_power exponents i) (get_or l i zero_interval)) (sym pushed)
    (each_push (λ n v. StandsFor (right_number weight rows n) (row_power exponents n) v) ds k w zero_interval len before
    (subst (λ d. StandsFor d (row_power exponents k) w) same (subst (λ p. StandsFor (product weight value) p w) scale_is stands)) i h)
