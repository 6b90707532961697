-- The number one.
use Rattle.std.proofs.Common.{◌≡◌, refl, sym, subst, arith}
use Rattle.std.proofs.lemmas.Int.{ints}
use Rattle.decimal_e.specs.Decimals.{Decimal, IsCanonicalOf, IsBounded}
use Rattle.decimal_e.proofs.Values.{one_form}
use Rattle.named_tables.specs.Weighted.{one_decimal}

one_canonical : IsCanonicalOf one_decimal one_decimal
one_canonical = record { same = record { same = refl }; canonical = record { zero = λ e. absurd (omega (arith, ints)); other = λ _ e. absurd (omega (arith, ints)) } }

pub one_is : (d : Decimal) → IsCanonicalOf d one_decimal → d ≡ one_decimal
one_is d h = one_form d one_decimal one_decimal h one_canonical

one_bounded : IsBounded one_decimal
one_bounded = record { mant = omega (arith, ints); low = omega (arith, ints); high = omega (arith, ints) }

pub one_not_none : (d : Decimal) → IsCanonicalOf d one_decimal → (IsBounded d → ⊥) → ⊥
one_not_none d form out = out (subst IsBounded (sym (one_is d form)) one_bounded)
