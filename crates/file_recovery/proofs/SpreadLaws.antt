-- Tables over some of the names, spread over all of them.
use Rattle.std.proofs.Common.{◌≡◌, ◌≤◌, ◌<◌, ◌+◌, ◌^◌, ◌∙◌, ◌++◌, ◌∷◌, [], inl, inr, ℕ, List, Option, Some, None, Contains, IfSome, length, map, take, get_or, slice_get, slice_index_or, refl, sym, ap, subst, arith}
use Rattle.std.proofs.Math.Decide.{dec_lt}
use Rattle.std.proofs.lemmas.List.{length-map, get_or-map, map-append, take_more}
use Rattle.std.proofs.lemmas.Option.{slice_get_within, get_or_from_slice_get}
use Rattle.whole_numbers.specs.Intervals.{size}
use Rattle.sym_blocks.specs.Tables.{SymTable, entry_at, before, zero_interval}
use Rattle.sym_blocks.proofs.EqualTables.{equal_symmetric}
use Rattle.sym_blocks.proofs.Rows.{entry_sym}
use Rattle.sys_model.specs.Scaling.{HoldsTimes}
use Rattle.param_ids.specs.Plain.{PlainId}
use Rattle.param_ids.specs.Tables.{ScaleMap}
use Rattle.neq_stack.specs.ByName.{entry_at_places, place_in}
use Rattle.neq_stack.specs.Systems.{NamedSystem, name_at}
use Rattle.neq_stack.proofs.NameLaws.{place_cases, place_missing}
use Rattle.named_tables.specs.Tables.{LiesInTable}
use Rattle.named_tables.specs.Weighted.{entry_power}
use Rattle.named_tables.proofs.TableLaws.{name_here}
use Rattle.recover_solution.specs.Recovery.{IsModestTable}
use Rattle.recover_solution.proofs.ExactLaws.{everywhere}
use Rattle.file_recovery.specs.Solved.{IsSpread}
use Rattle.file_recovery.specs.Parts.{spread_entry, ArePlacesIn}

-- ---- places
-- the order of two places does not matter
turned : (table : SymTable) (p q : Option ℕ) → entry_at_places table p q ≡ entry_at_places table q p
turned table None None = refl
turned table None (Some j) = refl
turned table (Some i) None = refl
turned table (Some i) (Some j) = entry_sym table i j

no_row : (table : SymTable) (q : Option ℕ) → entry_at_places table None q ≡ zero_interval
no_row table None = refl
no_row table (Some j) = refl

no_column : (table : SymTable) (p : Option ℕ) → entry_at_places table p None ≡ zero_interval
no_column table None = refl
no_column table (Some i) = refl

-- ---- what loops show
pub place_more : (part names : List PlainId) (k : ℕ) (id : PlainId) (places pushed : List (Option ℕ)) (found : Option ℕ) → slice_get names k ≡ Some id → found ≡ place_in part id → places ≡ map (place_in part) (take k names) → pushed ≡ places ++ found ∷ []
    → pushed ≡ map (place_in part) (take (k + 1) names)
place_more part names k id places pushed found here is before push =
    push ∙ ap (λ l. l ++ found ∷ []) before ∙ ap (λ o. map (place_in part) (take k names) ++ o ∷ []) is
    ∙ sym (ap (map (place_in part)) (take_more names k id (slice_get_within names k id here) ∙ ap (λ x. take k names ++ x ∷ []) (get_or_from_slice_get names k id id here)) ∙ map-append (place_in part) (take k names) (id ∷ []))

-- the rows before one are spread
abbrev pub RowsSpread : SymTable → List (Option ℕ) → SymTable → ℕ → Type 0
RowsSpread small places table row = (i j : ℕ) → i < row → j ≤ i → entry_at table i j ≡ spread_entry small places i j

pub rows_next : (small old new : SymTable) (places : List (Option ℕ)) (row : ℕ) → row < old.size → RowsSpread small places old row → ((j : ℕ) → j ≤ row → entry_at new row j ≡ spread_entry small places row j)
    → ((i j : ℕ) → i < old.size → j ≤ i → (i ≡ row → ⊥) → entry_at new i j ≡ entry_at old i j) → RowsSpread small places new (row + 1)
rows_next small old new places row within done here others i j l low =
    elim (dec_lt i row) [
      | yes above ↦ others i j (omega arith) low (λ same. absurd (omega arith)) ∙ done i j above low
      | no below ↦ let same : row ≡ i = omega arith in subst (λ k. j ≤ k → entry_at new k j ≡ spread_entry small places k j) same (here j) low
    ]

-- what is spread up to the diagonal is spread everywhere
pub spread_each : (small table : SymTable) (places : List (Option ℕ)) (n : ℕ) → RowsSpread small places table n → (i j : ℕ) → i < n → j < n → entry_at table i j ≡ spread_entry small places i j
spread_each small table places n lower i j li lj =
    elim (dec_lt i j) [
      | yes above ↦ entry_sym table i j ∙ lower j i lj (omega arith) ∙ turned small (slice_index_or places j None) (slice_index_or places i None)
      | no below ↦ lower i j li (omega arith)
    ]

-- ---- names
-- the places of names are those of the table
found_within : (part : List PlainId) (id : PlainId) (small : SymTable) → small.size ≡ length part → IfSome (place_in part id) (λ k. k < small.size)
found_within part id small rows =
    elim (place_cases part id) [
      | inl h ↦ subst (λ o. IfSome o (λ k. k < small.size)) (sym h.2) (let l = slice_get_within part h.0 id h.1 in omega arith)
      | inr h ↦ subst (λ o. IfSome o (λ k. k < small.size)) (sym h.1) tt
    ]

place_there : (part names : List PlainId) (places : List (Option ℕ)) (i : ℕ) (id : PlainId) → places ≡ map (place_in part) names → slice_get names i ≡ Some id → slice_index_or places i None ≡ place_in part id
place_there part names places i id are here =
    ap (λ l. slice_index_or l i None) are ∙ get_or-map (place_in part) names i id None (slice_get_within names i id here) ∙ ap (place_in part) (get_or_from_slice_get names i id id here)

pub places_within : (part names : List PlainId) (places : List (Option ℕ)) (small : SymTable) → small.size ≡ length part → places ≡ map (place_in part) names → ArePlacesIn small places
places_within part names places small rows are i l =
    let within : i < length names = omega (arith, ap length are, length-map names (place_in part)) in
    subst (λ o. IfSome o (λ k. k < small.size)) (sym (place_there part names places i (name_at names i) are (name_here names i within))) (found_within part (name_at names i) small rows)

pub is_spread : (part names : List PlainId) (places : List (Option ℕ)) (small table : SymTable) → places ≡ map (place_in part) names → table.size ≡ length places → length table.entries ≡ before table.size
    → ((i j : ℕ) → i < table.size → j < table.size → entry_at table i j ≡ spread_entry small places i j) → IsSpread names part small table
is_spread part names places small table are rows lower each =
    let many : length places ≡ length names = ap length are ∙ length-map names (place_in part) in
    record {
      size = rows ∙ many;
      lower = lower;
      entries = λ i j one other here there.
          let li = slice_get_within names i one here in
          let lj = slice_get_within names j other there in
          each i j (omega arith) (omega arith) ∙ ap (λ p. entry_at_places small p (slice_index_or places j None)) (place_there part names places i one are here) ∙ ap (λ p. entry_at_places small (place_in part one) p) (place_there part names places j other are there);
    }

-- ---- what a spread table keeps
pub one_spread : (names part : List PlainId) (small one other : SymTable) → IsSpread names part small one → IsSpread names part small other → one ≡ other
one_spread names part small one other a b =
    equal_symmetric (length names) one other a.size b.size (a.lower ∙ ap before a.size) (b.lower ∙ ap before b.size) (λ i j li lj.
    let here = name_here names i li in
    let there = name_here names j lj in
    a.entries i j (name_at names i) (name_at names j) here there ∙ sym (b.entries i j (name_at names i) (name_at names j) here there))

module _ (names part : List PlainId) (small table : SymTable) (are : IsSpread names part small table) (rows : small.size ≡ length part) where
  small_entry : IsModestTable small → (one other : PlainId) → size (entry_at_places small (place_in part one) (place_in part other)) ≤ 10 ^ 34
  small_entry modest one other =
      elim (place_cases part one) [
        | inl h ↦ elim (place_cases part other) [
          | inl g ↦
              let li = slice_get_within part h.0 one h.1 in
              let lj = slice_get_within part g.0 other g.1 in
              subst (λ w. size w ≤ 10 ^ 34) (sym (ap (λ p. entry_at_places small p (place_in part other)) h.2 ∙ ap (entry_at_places small (Some h.0)) g.2)) (modest h.0 g.0 (omega arith) (omega arith))
          | inr g ↦ subst (λ w. size w ≤ 10 ^ 34) (sym (ap (entry_at_places small (place_in part one)) g.1 ∙ no_column small (place_in part one))) (omega arith)
        ]
        | inr h ↦ subst (λ w. size w ≤ 10 ^ 34) (sym (ap (λ p. entry_at_places small p (place_in part other)) h.1 ∙ no_row small (place_in part other))) (omega arith)
      ]

  pub spread_modest : IsModestTable small → IsModestTable table
  spread_modest modest i j li lj =
      let many = are.size in
      subst (λ w. size w ≤ 10 ^ 34) (sym (are.entries i j (name_at names i) (name_at names j) (name_here names i (omega arith)) (name_here names j (omega arith)))) (small_entry modest (name_at names i) (name_at names j))

  -- what lies in the table over some names lies in that over all, where these are among them
  pub spread_lies : ((id : PlainId) → Contains part id → Contains names id) → (scales : ScaleMap) (K : NamedSystem) → LiesInTable scales part small K → LiesInTable scales names table K
  spread_lies among scales K lies =
      everywhere names table (λ one other w. HoldsTimes w (K.a one other) K.q (entry_power scales one other))
      (λ i j one other here there. subst (λ w. HoldsTimes w (K.a one other) K.q (entry_power scales one other)) (sym (are.entries i j one other here there)) (lies one other))
      (λ one other none. subst (λ w. HoldsTimes w (K.a one other) K.q (entry_power scales one other))
      (ap (λ p. entry_at_places small p (place_in part other)) (place_missing part one (λ there. none (among one there))) ∙ no_row small (place_in part other)) (lies one other))
      (λ one other none. subst (λ w. HoldsTimes w (K.a one other) K.q (entry_power scales one other))
      (ap (entry_at_places small (place_in part one)) (place_missing part other (λ there. none (among other there))) ∙ no_column small (place_in part one)) (lies one other))
