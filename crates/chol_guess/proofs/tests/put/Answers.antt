use Rattle.std.proofs.Common.{◌≡◌, ◌≤◌, ◌<◌, ◌^◌, ◌⊎◌, inl, inr, ℕ, arith, subst, sym, rules, FitsSigned}
use Rattle.std.specs.Int.{w128}
use Rattle.std.proofs.Math.Decide.{ℕ_discrete}
use Rattle.std.proofs.lemmas.Int.{to_z-of_z}
use Rattle.whole_numbers.specs.Intervals.{Interval, size}
use Rattle.sym_blocks.specs.Tables.{SymTable, entry_at, IsPair}
use Rattle.chol_guess.proofs.tests.put.Goals as goal

pair_or_not : (i j k l : ℕ) → IsPair i j k l ⊎ (¬ (IsPair i j k l))
pair_or_not i j k l =
    elim (ℕ_discrete k i) [
      | yes a ↦ elim (ℕ_discrete l j) [
        | yes b ↦ inl (inl (a, b))
        | no b ↦ turned i j k l (λ p. b p.1)
      ]
      | no a ↦ turned i j k l (λ p. a p.0)
    ]
  where
    neither : (i j k l : ℕ) → ¬ ((k ≡ i) × (l ≡ j)) → ¬ ((k ≡ j) × (l ≡ i)) → ¬ (IsPair i j k l)
    neither i j k l a b (inl p) = a p
    neither i j k l a b (inr p) = b p

    turned : (i j k l : ℕ) → ¬ ((k ≡ i) × (l ≡ j)) → IsPair i j k l ⊎ (¬ (IsPair i j k l))
    turned i j k l a =
        elim (ℕ_discrete k j) [
          | yes b ↦ elim (ℕ_discrete l i) [
            | yes d ↦ inl (inr (b, d))
            | no d ↦ inr (neither i j k l a (λ p. d p.1))
          ]
          | no b ↦ inr (neither i j k l a (λ p. b p.0))
        ]

small_after : (i j k l : ℕ) (w : Interval) (a b : SymTable) → size w ≤ 2 ^ 61 → size (entry_at a k l) ≤ 2 ^ 61 → (IsPair i j k l → entry_at b k l ≡ w) → (¬ (IsPair i j k l) → entry_at b k l ≡ entry_at a k l) → size (entry_at b k l) ≤ 2 ^ 61
small_after i j k l w a b here before set kept =
    elim (pair_or_not i j k l) [
      | inl pair ↦ subst (λ x. size x ≤ 2 ^ 61) (sym (set pair)) here
      | inr other ↦ subst (λ x. size x ≤ 2 ^ 61) (sym (kept other)) before
    ]

pub returns-clause-small : goal.returns-clause-small
returns-clause-small g c = λ k l row column.
    let in_row : k < c.args.a.now.size = omega (arith, c.set.ensures.size) in
    let in_column : l < c.args.a.now.size = omega (arith, c.set.ensures.size) in
    let fits : FitsSigned w128 c.cut.result = search rules in
    let small : size c.point.result ≤ 2 ^ 61 = subst (λ x. size x ≤ 2 ^ 61) (sym c.point.ensures) (rw (to_z-of_z w128 c.cut.result fits) (omega arith)) in
    small_after c.args.i c.args.j k l c.point.result c.args.a.now c.set.new.self small (c.requires.small k l in_row in_column) (c.set.ensures.here k l) (c.set.ensures.others k l in_row in_column)
