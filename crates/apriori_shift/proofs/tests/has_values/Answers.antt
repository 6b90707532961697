use Rattle.std.proofs.Common.{◌≡◌, ◌^◌, ◌+◌, ℕ, List, Option, Some, All, slice_get, take, sym, subst, arith, rules}
use Rattle.std.specs.BTreeMap.{get}
use Rattle.std.specs.Net.Reader.{map_or}
use Rattle.std.proofs.lemmas.List.{take_all}
use Rattle.std.proofs.lemmas.List.Elements.{All-map, All-more}
use Rattle.std.proofs.lemmas.Option.{slice_get_within, get_or_from_slice_get}
use Rattle.decimal_e.specs.Fractions.{IsAtMost}
use Rattle.param_ids.specs.Plain.{PlainId}
use Rattle.param_ids.specs.Order.{id_cmp}
use Rattle.snx_rows.specs.declared.rows.Row.{Row}
use Rattle.snx_rows.specs.Named.{zero_decimal}
use Rattle.apriori_shift.specs.Answers.{RowMap, common_value}
use Rattle.apriori_shift.proofs.tests.has_values.Goals as goal

-- one more name with the property
one_more : (P : PlainId → Type 0) (names : List PlainId) (k : ℕ) (id : PlainId) → slice_get names k ≡ Some id → All P (take k names) → P id → All P (take (k + 1) names)
one_more P names k id is before here = All-more P names k id (slice_get_within names k id is) before (subst P (sym (get_or_from_slice_get names k id id is)) here)

modest_there : (base : RowMap) (id : PlainId) (row : Row) → Some row ≡ get id_cmp base id → IsAtMost (10 ^ 12) row.value → IsAtMost (10 ^ 12) (common_value base id)
modest_there base id row has small = subst (λ (o : Option Row). IsAtMost (10 ^ 12) (map_or o zero_decimal (λ (r : Row). r.value))) has small

pub loop-place-preserved : goal.loop-place-preserved
loop-place-preserved c =
    let base = c.args.base.now in
    let id = c.at.result.now in
    let row = c.in-Some.row.now in
    let has : Some row ≡ get id_cmp base id = search rules in
    one_more (λ id. IsAtMost (10 ^ 12) (common_value base id)) c.args.names.now c.loop-place.place id c.at.ensures c.loop-place.invariant (modest_there base id row has (c.is_modest.ensures.0 (search rules)))

pub returns : goal.returns
returns c = λ _.
    All-map (IsAtMost (10 ^ 12)) (common_value c.args.base.now) c.args.names.now
    (subst (λ (l : List PlainId). All (λ id. IsAtMost (10 ^ 12) (common_value c.args.base.now id)) l) (take_all c.loop-place.place c.args.names.now (omega arith)) c.loop-place.invariant)
