-- What normal equations by the names of a right side have: names, a table, a right side, and the a priori values of their names.
use Rattle.std.proofs.Common.{◌≡◌, ◌^◌, ◌∙◌, Bool, true, false, cond, List, [], ◌∷◌, Option, Some, Ok, All, Contains, length, map, refl, sym, ap, subst, arith}
use Rattle.std.specs.List.{find}
use Rattle.std.specs.Net.Reader.{map_or}
use Rattle.std.proofs.lemmas.Int.{ints}
use Rattle.std.proofs.lemmas.List.{length-map}
use Rattle.std.proofs.lemmas.List.Elements.{All-head, All-tail, All-map}
use Rattle.stated_order.proofs.StepLaws.{ok_same, went_on}
use Rattle.decimal_e.specs.Decimals.{Decimal}
use Rattle.decimal_e.specs.Fractions.{IsAtMost}
use Rattle.param_ids.specs.Plain.{PlainId}
use Rattle.param_ids.specs.Tables.{ScaleMap, IsScale}
use Rattle.snx_rows.specs.Blocks.{AreSound}
use Rattle.snx_rows.specs.Named.{zero_decimal, is_row_of, row_of, value_of, unit_of}
use Rattle.snx_rows.specs.declared.rows.Row.{Row}
use Rattle.snx_rows.specs.declared.rows.Shape.TheVariants.{Value}
use Rattle.neq_stack.specs.ByName.{AreAtMost}
use Rattle.neq_stack.specs.Neqs.{PlainNeq, IsSound}
use Rattle.named_tables.specs.Naming.{AreNamesOf}
use Rattle.named_tables.specs.Tables.{IsTable, IsColumn, value_interval}
use Rattle.named_tables.specs.Weighted.{scale_of}
use Rattle.named_tables.proofs.EntryLaws.{table_at_most, column_at_most}
use Rattle.named_tables.proofs.MatchLaws.{has_row}
use Rattle.recover_neq.specs.Blocks.{Blocks}
use Rattle.recover_neq.specs.Recovery.{IsNamed, IsRecovered, equations_of}

-- normal equations of these blocks, part by part
pub record IsNeqOf (blocks : Blocks) (weight : Decimal) (scales : ScaleMap) (neq : PlainNeq) : Type 0 where
  pub names : AreNamesOf blocks.vector neq.names
  pub table : IsTable blocks.vector blocks.cells weight scales neq.names (Ok neq.table)
  pub right : IsColumn blocks.vector weight scales neq.names (Ok neq.right)
  pub apriori : neq.apriori ≡ map (value_of blocks.apriori) neq.names
  pub units : neq.units ≡ map (unit_of blocks.apriori) neq.names
  pub exponents : neq.scales ≡ map (scale_of scales) neq.names

-- ---- values by name
picked : (P : Decimal → Type 0) (b : Bool) (row : Row) (o : Option Row) → P row.value → P (map_or o zero_decimal (λ (r : Row). r.value)) → P (map_or (cond b (Some row) o) zero_decimal (λ (r : Row). r.value))
picked P true row o here there = here
picked P false row o here there = there

modest_value : (rows : List Row) (id : PlainId) → All (λ (row : Row). IsAtMost (10 ^ 12) row.value) rows → IsAtMost (10 ^ 12) (value_of rows id)
modest_value [] id all = omega (arith, ints)
modest_value (row ∷ rows) id all =
    picked (IsAtMost (10 ^ 12)) (is_row_of id row) row (find (is_row_of id) rows) (All-head (λ (r : Row). IsAtMost (10 ^ 12) r.value) row rows all) (modest_value rows id (All-tail (λ (r : Row). IsAtMost (10 ^ 12) r.value) row rows all))

-- ---- normal equations
module _ (blocks : Blocks) (weight : Decimal) (scales : ScaleMap) (neq : PlainNeq) where
  pub neq_parts : IsNamed blocks weight scales (Ok neq) → IsNeqOf blocks weight scales neq
  neq_parts h =
      let made = went_on _ _ neq h.made in
      let righted = went_on _ _ neq made.onward in
      let equations = equations_of blocks scales h.names made.gives righted.gives in
      let parts : IsNeqOf blocks weight scales equations = record { names = h.named; table = made.given; right = righted.given; apriori = refl; units = refl; exponents = refl } in
      subst (IsNeqOf blocks weight scales) (sym (ok_same neq equations righted.onward)) parts

  -- ---- they are sound
  pub neq_sound : IsNeqOf blocks weight scales neq → AreSound Value blocks.apriori → All IsScale neq.scales → IsSound neq
  neq_sound are apriori scaled = record {
    names = are.names.1;
    rows = are.table.0.size;
    entries = are.table.0.lower;
    rights = ap length are.right.0 ∙ length-map neq.names (value_interval blocks.vector weight scales);
    values = ap length are.apriori ∙ length-map neq.names (value_of blocks.apriori);
    named_units = ap length are.units ∙ length-map neq.names (unit_of blocks.apriori);
    exponents = ap length are.exponents ∙ length-map neq.names (scale_of scales);
    modest = subst (All (IsAtMost (10 ^ 12))) (sym are.apriori) (All-map (IsAtMost (10 ^ 12)) (value_of blocks.apriori) neq.names (λ k d l. modest_value blocks.apriori _ apriori.sized));
    scaled = scaled;
  }

  -- ---- none of their intervals passes the bound
  pub named_at_most : IsNamed blocks weight scales (Ok neq) → AreAtMost (10 ^ 34) neq
  named_at_most h =
      let are = neq_parts h in
      record {
        entries = table_at_most blocks.vector blocks.cells weight scales neq.names neq.table are.table;
        rights = column_at_most blocks.vector weight scales neq.names neq.right are.right;
      }

  -- ---- their names have the a priori rows that were given
  pub recovered_names : IsRecovered blocks weight scales (Ok neq) → AreNamesOf blocks.vector neq.names × (neq.apriori ≡ map (value_of blocks.apriori) neq.names) × (neq.units ≡ map (unit_of blocks.apriori) neq.names) × (neq.scales ≡ map (scale_of scales) neq.names)
      × ((id : PlainId) → Contains neq.names id → (row : Row) × (row_of blocks.apriori id ≡ Some row))
  recovered_names h =
      let found = went_on _ _ neq h in
      let some = went_on _ _ neq found.onward in
      let are = neq_parts some.onward in
      (are.names, are.apriori, are.units, are.exponents, λ id there. has_row blocks.apriori blocks.vector neq.names id found.given are.names there)
