-- The exact systems of a worked solution without its constraints.
use Rattle.std.proofs.Common.{◌≡◌, ◌∙◌, ◌∷◌, ◌*◌, ◌*ℤ◌, ◌+ℤ◌, ℕ, ℤ, pos, [], Some, Ok, refl, sym, ap, subst, arith}
use Rattle.std.proofs.Math.IntN.{◌-ℤ◌}
use Rattle.std.proofs.lemmas.Int.{ints}
use Rattle.std.proofs.lemmas.List.Elements.{All-head, All-tail}
use Rattle.stated_order.proofs.StepLaws.{then_gives}
use Rattle.decimal_e.specs.Decimals.{Decimal}
use Rattle.snx_rows.specs.Named.{value_of}
use Rattle.neq_stack.specs.Systems.{NamedSystem}
use Rattle.snx_matrices.specs.declared.elements.Content.TheVariants.{Info}
use Rattle.recover_solution.specs.Solutions.{PlainSolution, Sigmas}
use Rattle.file_recovery.specs.Files.{Source, Estimated, IsSource}
use Rattle.file_recovery.specs.Recovery.{IsExactFrom, IsExact}
use Rattle.file_recovery.specs.Solved.{IsExactSolution}
use Rattle.file_recovery.proofs.SourceLaws.{same_source}
use Rattle.combine_cli.specs.Worked.{one, half, whole, one_and_half, worked_name, worked_row, worked_solution, freed_of_sigmas}
use Rattle.combine_cli.proofs.WorkedLaws.{counted, alone_permuted, entry_moved, right_moved}

abbrev solution : PlainSolution
solution = record {
  apriori = record (worked_row one) { dev = Some half } ∷ [];
  estimates = worked_row one_and_half ∷ [];
  content = Info;
  cells = record { row = 0; col = 0; value = whole 5 } ∷ [];
  constraint = Sigmas;
}

solution_there : IsSource freed_of_sigmas worked_solution (Ok (Estimated solution))
solution_there =
    then_gives _ _ solution.apriori _ refl (then_gives _ _ solution.estimates _ refl (then_gives _ _ _ _ refl (then_gives _ _ Sigmas _ refl refl)))

from_solution : (S : NamedSystem) → IsExact freed_of_sigmas worked_solution S → IsExactSolution solution one S
from_solution S h = subst (λ source. IsExactFrom one source S) (same_source freed_of_sigmas worked_solution h.source (Estimated solution) h.has solution_there) h.exact

-- ---- every exact system
module _ (S : NamedSystem) (h : IsExactSolution solution one S) where
  names_alone : h.names ≡ worked_name ∷ []
  names_alone = alone_permuted worked_name h.names h.named.0

  information : h.E.a worked_name worked_name ≡ pos 5 *ℤ pos h.E.q
  information = counted (h.E.a worked_name worked_name) 5 h.E.q (h.information.elements worked_name worked_name)

  nothing : h.E.c worked_name ≡ pos 0 *ℤ pos h.E.q
  nothing = h.information.right worked_name ∙ omega (arith, ints)

  moved_matrix : h.freed.moved.a worked_name worked_name ≡ pos 5 *ℤ pos h.freed.moved.q
  moved_matrix = entry_moved h.names (value_of solution.estimates) (value_of solution.apriori) one_and_half one 5 0 h.E h.freed.moved names_alone refl refl information nothing h.freed.moves

  moved_right : h.freed.moved.c worked_name *ℤ pos 10 ≡ pos 25 *ℤ pos h.freed.moved.q
  moved_right = right_moved h.names (value_of solution.estimates) (value_of solution.apriori) one_and_half one 5 0 h.E h.freed.moved names_alone refl refl information nothing h.freed.moves

  -- 1 / .25
  constraint : h.K.a worked_name worked_name ≡ pos 4 *ℤ pos h.K.q
  constraint = let e : (h.K.a worked_name worked_name *ℤ pos 1) *ℤ pos 25 ≡ pos 1 *ℤ pos (h.K.q * 100) = h.constraints.matrix worked_name worked_name in omega (arith, ints)

  first_q : S.q ≡ h.freed.moved.q
  first_q = All-head (λ (part : NamedSystem). part.q ≡ h.freed.moved.q) S (h.K ∷ []) h.freed.sum.denominators

  second_q : h.K.q ≡ h.freed.moved.q
  second_q = All-head (λ (part : NamedSystem). part.q ≡ h.freed.moved.q) h.K [] (All-tail (λ (part : NamedSystem). part.q ≡ h.freed.moved.q) S (h.K ∷ []) h.freed.sum.denominators)

  matrix_left : S.a worked_name worked_name ≡ pos S.q
  matrix_left =
      let whole : h.freed.moved.a worked_name worked_name ≡ S.a worked_name worked_name +ℤ (h.K.a worked_name worked_name +ℤ pos 0) = h.freed.sum.matrix worked_name worked_name in
      let moved = moved_matrix in
      let held = constraint in
      let one_q = first_q in
      let two_q = second_q in
      omega (arith, ints)

  vector_left : S.c worked_name *ℤ pos 2 ≡ pos 5 *ℤ pos S.q
  vector_left =
      let whole : h.freed.moved.c worked_name ≡ S.c worked_name +ℤ (h.K.c worked_name +ℤ pos 0) = h.freed.sum.right worked_name in
      let moved = moved_right in
      let held = h.constraints.right worked_name in
      let one_q = first_q in
      omega (arith, ints)

pub freed_matrix : (S : NamedSystem) → IsExact freed_of_sigmas worked_solution S → S.a worked_name worked_name ≡ pos S.q
freed_matrix S h = matrix_left S (from_solution S h)

pub freed_vector : (S : NamedSystem) → IsExact freed_of_sigmas worked_solution S → S.c worked_name *ℤ pos 2 ≡ pos 5 *ℤ pos S.q
freed_vector S h = vector_left S (from_solution S h)
