-- Recovered normal equations have as many rows, right sides, values, units and exponents as names.
use Rattle.std.proofs.Common.{◌≡◌, ◌∙◌, inl, inr, List, length, map, replicate, Ok, refl, ap, sym, subst}
use Rattle.std.proofs.lemmas.List.{length-map, length-replicate}
use Rattle.stated_order.proofs.StepLaws.{went_on, ok_same}
use Rattle.whole_numbers.specs.Intervals.{Interval}
use Rattle.sym_blocks.specs.Tables.{SymTable, before, zero_interval}
use Rattle.decimal_e.specs.Decimals.{Decimal}
use Rattle.param_ids.specs.Plain.{PlainId}
use Rattle.param_ids.specs.Order.{IsNames}
use Rattle.param_ids.specs.Tables.{ScaleMap}
use Rattle.snx_rows.specs.Named.{value_of}
use Rattle.snx_blocks.specs.Documents.{PlainDoc}
use Rattle.control_doc.specs.Plain.{PlainPlan}
use Rattle.difference_products.specs.Products.{IsProduct}
use Rattle.apriori_shift.specs.Shifts.{IsShift, IsLessBy, factors_in, moved_to}
use Rattle.apriori_shift.proofs.RightLaws.{products_length, less_length}
use Rattle.neq_stack.specs.Neqs.{PlainNeq}
use Rattle.recover_neq.specs.Blocks.{Blocks}
use Rattle.recover_neq.specs.Recovery as equations
use Rattle.recover_solution.specs.Solutions.{PlainSolution}
use Rattle.recover_solution.specs.Recovery.{at_estimates, IsWithout}
use Rattle.file_recovery.specs.Solved.{IsSolved}
use Rattle.file_recovery.specs.Files.{Source, Equations, Estimated, IsSource}
use Rattle.file_recovery.specs.Recovery.{IsRecoveredFrom, IsRecovered}
use Rattle.file_recovery.proofs.SolvedLaws.{solved_parts}

-- the names stand in order
pub record IsMade (neq : PlainNeq) : Type 0 where
  pub names : IsNames neq.names
  pub rows : neq.table.size ≡ length neq.names
  pub entries : length neq.table.entries ≡ before neq.table.size
  pub rights : length neq.right ≡ length neq.names
  pub values : length neq.apriori ≡ length neq.names
  pub named_units : length neq.units ≡ length neq.names
  pub exponents : length neq.scales ≡ length neq.names

-- ---- a shift keeps them so
moved_made : (values : List Decimal) (neq : PlainNeq) (products : List Interval) → length values ≡ length neq.names → length products ≡ neq.table.size → IsMade neq → IsMade (moved_to values neq products)
moved_made values neq products long many made = record {
  names = made.names;
  rows = made.rows;
  entries = made.entries;
  rights = less_length neq.right products (many ∙ made.rows ∙ sym made.rights) ∙ made.rights;
  values = long;
  named_units = made.named_units;
  exponents = made.exponents;
}

pub shifted_made : (values : List Decimal) (neq after : PlainNeq) → length values ≡ length neq.names → IsMade neq → IsShift values neq (Ok after) → IsMade after
shifted_made values neq after long made (inl kept) = let e = kept.1 in let same : after ≡ neq = cc in subst IsMade (sym same) made
shifted_made values neq after long made (inr moved) =
    let f = went_on (IsProduct (factors_in neq moved.1.0)) (IsLessBy values neq) after moved.1.2 in
    subst IsMade (sym f.onward.1) (moved_made values neq f.gives long (products_length (factors_in neq moved.1.0) f.gives f.given) made)

-- ---- of normal equations
equations_made : (blocks : Blocks) (weight : Decimal) (scales : ScaleMap) (neq : PlainNeq) → equations.IsRecovered blocks weight scales (Ok neq) → IsMade neq
equations_made blocks weight scales neq h =
    let matched = went_on _ _ neq h in
    let named = (went_on _ _ neq matched.onward).onward in
    let table = went_on _ _ neq named.made in
    let right = went_on _ _ neq table.onward in
    subst IsMade (sym (ok_same neq (equations.equations_of blocks scales named.names table.gives right.gives) right.onward)) (record {
      names = named.named.1;
      rows = table.given.0.size;
      entries = table.given.0.lower;
      rights = ap length right.given.0 ∙ length-map named.names _;
      values = length-map named.names _;
      named_units = length-map named.names _;
      exponents = length-map named.names _;
    })

-- ---- of a solution
estimates_made : (solution : PlainSolution) (scales : ScaleMap) (names : List PlainId) (table : SymTable) → IsNames names → table.size ≡ length names → length table.entries ≡ before table.size
    → IsMade (at_estimates solution scales names table)
estimates_made solution scales names table ordered size lower = record {
  names = ordered;
  rows = size;
  entries = lower;
  rights = length-replicate (length names) zero_interval;
  values = length-map names _;
  named_units = length-map names _;
  exponents = length-map names _;
}

without_made : (removed : SymTable) (neq after : PlainNeq) → IsWithout removed neq after → IsMade neq → IsMade after
without_made removed neq after is made = record {
  names = subst IsNames (sym is.names) made.names;
  rows = is.rows ∙ made.rows ∙ ap length (sym is.names);
  entries = is.lower;
  rights = ap length is.right ∙ made.rights ∙ ap length (sym is.names);
  values = ap length is.apriori ∙ made.values ∙ ap length (sym is.names);
  named_units = ap length is.units ∙ made.named_units ∙ ap length (sym is.names);
  exponents = ap length is.scales ∙ made.exponents ∙ ap length (sym is.names);
}

solution_made : (solution : PlainSolution) (weight : Decimal) (scales : ScaleMap) (neq : PlainNeq) → IsSolved solution weight scales (Ok neq) → IsMade neq
solution_made solution weight scales neq h =
    let p = solved_parts solution weight scales neq h in
    let freed = went_on _ _ neq p.freed in
    without_made p.removed freed.gives neq freed.onward (shifted_made (map (value_of solution.apriori) p.names) (at_estimates solution scales p.names p.table) freed.gives (length-map p.names _)
    (estimates_made solution scales p.names p.table p.pairs.named.1 p.size p.lower) freed.given)

-- ---- of a file
made_from : (weight : Decimal) (scales : ScaleMap) (source : Source) (neq : PlainNeq) → IsRecoveredFrom weight scales source (Ok neq) → IsMade neq
made_from weight scales (Equations blocks) neq h = equations_made blocks weight scales neq h
made_from weight scales (Estimated solution) neq h = solution_made solution weight scales neq h

pub recovered_is_made : (plan : PlainPlan) (doc : PlainDoc) (scales : ScaleMap) (neq : PlainNeq) → IsRecovered plan doc scales (Ok neq) → IsMade neq
recovered_is_made plan doc scales neq h =
    let from = went_on (IsSource plan doc) (IsRecoveredFrom plan.weight scales) neq h in
    made_from plan.weight scales from.gives neq from.onward
