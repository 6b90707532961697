use Rattle.std.proofs.Common.{◌∙◌, ◌≡◌, ◌<◌, ◌^◌, ℤ, pos, ◌≤ℤ◌, refl, arith, rules, subst, sym, FitsSigned, w64}
use Rattle.std.specs.Int.{w128}
use Rattle.std.proofs.lemmas.Int.{to_z-of_z}
use Rattle.whole_numbers.specs.Squares.{square_at}
use Rattle.chol_factor.specs.Factor.{left_of, IsColumn}
use Rattle.chol_factor.specs.Making.{IsDiagonal}
use Rattle.chol_factor.proofs.ColumnLaws.{bounded_small, left_same, agree_self, agree_set, waiting_set, rest_set, column_started, column_more, stuck_diagonal, stuck_below, positive_at}
use Rattle.chol_factor.proofs.columns.make_column.Goals as goal

pub returns-in_default-clause-stuck : goal.returns-in_default-clause-stuck
returns-in_default-clause-stuck c =
    let wide : FitsSigned w128 c.left.result = search rules in
    let left = to_z-of_z w128 c.left.result wide ∙ c.left.ensures in
    stuck_diagonal c.args.f.now.size (square_at c.args.f.now) (square_at c.args.f.now) c.args.j (omega arith) (subst (λ a. (r : ℤ) → ¬ (IsDiagonal a r)) left c.in_default.ensures.none)

pub loop-i-init : goal.loop-i-init
loop-i-init c =
    let n = c.args.f.now.size in
    let old = square_at c.args.f.now in
    let wide : FitsSigned w128 c.left.result = search rules in
    let left = to_z-of_z w128 c.left.result wide ∙ c.left.ensures in
    let fits : FitsSigned w64 c.in-Some.root = search rules in
    let root = sym (to_z-of_z w64 c.in-Some.root fits) in
    let diagonal = subst (IsDiagonal (left_of old old c.args.j c.args.j)) root (subst (λ a. IsDiagonal a c.in-Some.root) left c.in-Some.ensures.found) in
    record {
      same = c.set.ensures.size;
      small = c.set.ensures.small (2 ^ 61) c.requires.small diagonal.fits;
      kept = agree_self n c.args.f.now c.set.new.self c.args.j c.args.j _ (omega arith) c.set.ensures;
      waiting = waiting_set n old c.args.f.now c.set.new.self c.args.j c.args.j _ (omega arith) (λ a b h l r. refl) c.set.ensures;
      rest = rest_set n old c.args.f.now c.set.new.self c.args.j c.args.j _ (omega arith) (omega arith) (λ a h r. refl) c.set.ensures;
      root = c.set.ensures.here;
      made = column_started old c.args.f.now c.set.new.self c.args.j _ c.requires.column diagonal c.set.ensures;
    }

pub quotient-requires : goal.quotient-requires
quotient-requires c = subst (λ r. pos 1 ≤ℤ r) c.loop-i.invariant.root (positive_at c.loop-i.i (square_at c.args.f.now) (square_at c.loop-i.f) c.args.j c.loop-i.invariant.made)

pub returns-in_default-quotient-clause-stuck : goal.returns-in_default-quotient-clause-stuck
returns-in_default-quotient-clause-stuck c =
    let n = c.args.f.now.size in
    let old = square_at c.args.f.now in
    let made = square_at c.loop-i.f in
    let i = c.loop-i.i in
    let j = c.args.j in
    let wide : FitsSigned w128 c.left-in-loop-i.result = search rules in
    let row : i < n = omega arith in
    let left = to_z-of_z w128 c.left-in-loop-i.result wide ∙ c.left-in-loop-i.ensures ∙ left_same old made made i j (c.loop-i.invariant.rest i (omega arith) row) in
    stuck_below n old old made i j _ _ (omega arith) row c.loop-i.invariant.kept c.loop-i.invariant.made left c.loop-i.invariant.root c.in_default-quotient.ensures

pub loop-i-preserved : goal.loop-i-preserved
loop-i-preserved c =
    let n = c.args.f.now.size in
    let old = square_at c.args.f.now in
    let made = square_at c.loop-i.f in
    let new = c.set-in-loop-i.new.self in
    let i = c.loop-i.i in
    let j = c.args.j in
    let wide : FitsSigned w128 c.left-in-loop-i.result = search rules in
    let fits : FitsSigned w64 c.in-Some-quotient.entry = search rules in
    let entry = to_z-of_z w64 c.in-Some-quotient.entry fits ∙ c.in-Some-quotient.ensures.1 in
    let lower : j < i = omega arith in
    let row : i < c.loop-i.f.size = omega (arith, c.loop-i.invariant.same) in
    let size : c.loop-i.f.size ≡ n = c.loop-i.invariant.same in
    let left = to_z-of_z w128 c.left-in-loop-i.result wide ∙ c.left-in-loop-i.ensures ∙ left_same old made made i j (c.loop-i.invariant.rest i (omega arith) (omega arith)) in
    record {
      same = c.set-in-loop-i.ensures.size ∙ size;
      small = c.set-in-loop-i.ensures.small (2 ^ 61) c.loop-i.invariant.small (bounded_small _ _ _ c.in-Some-quotient.ensures.0 entry);
      kept = agree_set n c.args.f.now c.loop-i.f new i j _ size c.loop-i.invariant.kept c.set-in-loop-i.ensures;
      waiting = waiting_set n old c.loop-i.f new i j _ (omega arith) c.loop-i.invariant.waiting c.set-in-loop-i.ensures;
      rest = rest_set n old c.loop-i.f new i j _ (omega arith) (omega arith) c.loop-i.invariant.rest c.set-in-loop-i.ensures;
      root = c.set-in-loop-i.ensures.others j j (omega arith) (omega arith) (λ e. let p = e.0 in absurd (omega arith)) ∙ c.loop-i.invariant.root;
      made = column_more old c.loop-i.f new i j _ _ _ lower row c.loop-i.invariant.made left c.loop-i.invariant.root c.in-Some-quotient.ensures.0 entry c.set-in-loop-i.ensures;
    }

pub returns-clause-made : goal.returns-clause-made
returns-clause-made c =
    let end : c.loop-i.i ≡ c.args.f.now.size = omega arith in
    subst (λ n. IsColumn n (square_at c.args.f.now) (square_at c.loop-i.f) c.args.j) end c.loop-i.invariant.made
