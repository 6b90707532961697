-- The exact systems of blocks lie in their normal equations, there is one, and their multiples are exact.
use Rattle.std.proofs.Common.{◌≡◌, ◌*◌, pos, ◌*ℤ◌, Ok, length, sym, subst, arith}
use Rattle.std.proofs.Math.Nat.{mul-pos}
use Rattle.decimal_e.specs.Decimals.{Decimal}
use Rattle.decimal_e.specs.Fractions.{Means}
use Rattle.sys_model.specs.Scaling.{HoldsTimes}
use Rattle.param_ids.specs.Tables.{ScaleMap}
use Rattle.snx_rows.specs.Blocks.{AreSound}
use Rattle.snx_rows.specs.declared.rows.Shape.TheVariants.{Vector}
use Rattle.snx_matrices.specs.Elements.{AreElementsOf}
use Rattle.neq_stack.specs.Neqs.{PlainNeq}
use Rattle.neq_stack.specs.Systems.{NamedSystem, LiesInNeq}
use Rattle.neq_stack.proofs.MeaningLaws.{means_holds, means_multiple}
use Rattle.named_tables.specs.Weighted.{weighted_element, weighted_value, entry_power, right_power, scale_of}
use Rattle.named_tables.proofs.EntryLaws.{table_everywhere, column_everywhere}
use Rattle.named_tables.proofs.MatchLaws.{names_cover}
use Rattle.named_tables.proofs.MeaningLaws.{element_means, value_means}
use Rattle.recover_neq.specs.Blocks.{Blocks}
use Rattle.recover_neq.specs.Exact.{IsExact, ExactExists, MultiplesAreExact}
use Rattle.recover_neq.specs.Recovery.{IsNamed}
use Rattle.recover_neq.proofs.NamedLaws.{neq_parts}

pub exact_lies : (blocks : Blocks) (weight : Decimal) (scales : ScaleMap) (neq : PlainNeq) → AreSound Vector blocks.vector → AreElementsOf (length blocks.vector) blocks.cells → IsNamed blocks weight scales (Ok neq)
    → (S : NamedSystem) → IsExact blocks weight S → LiesInNeq (scale_of scales) neq S
exact_lies blocks weight scales neq sound elements h S exact =
    let are = neq_parts blocks weight scales neq h in
    let has = names_cover blocks.vector neq.names blocks.cells are.names elements in
    record {
      some = exact.some;
      entries = λ one other.
          subst (λ w. HoldsTimes w (S.a one other) S.q (entry_power scales one other)) (sym (table_everywhere blocks.vector blocks.cells weight scales neq.names neq.table are.table.0 sound.names elements are.names.1 has one other))
          (means_holds (weighted_element blocks.vector blocks.cells weight one other) (S.a one other) S.q (entry_power scales one other) exact.some (exact.matrix one other));
      rights = λ id.
          subst (λ w. HoldsTimes w (S.c id) S.q (right_power scales id)) (sym (column_everywhere blocks.vector weight scales neq.names neq.right are.right.0 are.names id))
          (means_holds (weighted_value blocks.vector weight id) (S.c id) S.q (right_power scales id) exact.some (exact.right id));
    }

pub multiples_are_exact : MultiplesAreExact
multiples_are_exact blocks weight S k some exact = record {
  some = mul-pos some exact.some;
  matrix = λ one other. means_multiple (weighted_element blocks.vector blocks.cells weight one other) (S.a one other) S.q k (exact.matrix one other);
  right = λ id. means_multiple (weighted_value blocks.vector weight id) (S.c id) S.q k (exact.right id);
}

-- the matrix has one denominator, the right side another: their product serves both
pub exact_exists : ExactExists
exact_exists blocks weight =
    let m = element_means blocks.vector blocks.cells weight in
    let r = value_means blocks.vector weight in
    let turned : m.0 * r.0 ≡ r.0 * m.0 = omega arith in (
      record { q = r.0 * m.0; a = λ one other. pos r.0 *ℤ (m.2 one other).0; c = λ id. pos m.0 *ℤ (r.2 id).0 },
      record {
        some = mul-pos r.1 m.1;
        matrix = λ one other. means_multiple (weighted_element blocks.vector blocks.cells weight one other) (m.2 one other).0 m.0 r.0 (m.2 one other).1;
        right = λ id. subst (Means (weighted_value blocks.vector weight id) (pos m.0 *ℤ (r.2 id).0)) turned (means_multiple (weighted_value blocks.vector weight id) (r.2 id).0 r.0 m.0 (r.2 id).1);
      },
    )
