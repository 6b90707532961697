-- There is one shift, or one first place past its bound, and never both.
use Rattle.std.proofs.Common.{◌≡◌, ◌∙◌, ◌∷◌, inl, inr, List, [], length, Ok, Err, refl, sym, ap, subst}
use Rattle.stated_order.specs.Steps.{IsOne, Then}
use Rattle.stated_order.proofs.FirstLaws.{first_failure_is_one, first_failure_fails}
use Rattle.stated_order.proofs.StepLaws.{then_is_one}
use Rattle.whole_numbers.specs.Intervals.{Interval}
use Rattle.decimal_e.specs.Decimals.{Decimal}
use Rattle.neq_stack.specs.Neqs.{PlainNeq}
use Rattle.difference_products.specs.Products.{Place, IsProduct}
use Rattle.difference_products.proofs.Alone.{one_product}
use Rattle.apriori_shift.specs.Shifts.{IsDifference, AreDifferences, factors_in, RightFits, IsLessBy, OneShift}

-- ---- differences
one_difference : (to from : Decimal) (w v : Interval) → IsDifference to from w → IsDifference to from v → w ≡ v
one_difference to from w v a b =
    elim a [
      | inl x ↦ elim b [ inl y ↦ x.1 ∙ sym y.1 | inr y ↦ absurd (y.0 x.0) ]
      | inr x ↦ elim b [ inl y ↦ absurd (x.0 y.0) | inr y ↦ x.1 ∙ sym y.1 ]
    ]

one_list : (values olds : List Decimal) (ws vs : List Interval) → AreDifferences values olds ws → AreDifferences values olds vs → ws ≡ vs
one_list [] [] [] [] a b = refl
one_list [] [] [] (v ∷ vs) a b = absurd b
one_list [] [] (w ∷ ws) vs a b = absurd a
one_list [] (from ∷ olds) ws vs a b = absurd a
one_list (to ∷ values) [] ws vs a b = absurd a
one_list (to ∷ values) (from ∷ olds) [] vs a b = absurd a
one_list (to ∷ values) (from ∷ olds) (w ∷ ws) [] a b = absurd b
one_list (to ∷ values) (from ∷ olds) (w ∷ ws) (v ∷ vs) a b =
    ap (λ z. z ∷ ws) (one_difference to from w v a.0 b.0) ∙ ap (λ l. v ∷ l) (one_list values olds ws vs a.1 b.1)

-- ---- right sides
place_is : (p q : Place) → p.row ≡ q.row → p.col ≡ q.col → p ≡ q
place_is p q row col = λ i. record { row = row i; col = col i }

one_less : (values : List Decimal) (neq : PlainNeq) (products : List Interval) → IsOne (IsLessBy values neq products)
one_less values neq products (Ok one) (Ok other) a b = ap Ok (a.1 ∙ sym b.1)
one_less values neq products (Ok one) (Err q) a b = absurd (first_failure_fails (length neq.names) (RightFits neq products) q.row a.0 b.1)
one_less values neq products (Err p) (Ok other) a b = absurd (first_failure_fails (length neq.names) (RightFits neq products) p.row b.0 a.1)
one_less values neq products (Err p) (Err q) a b =
    let row = first_failure_is_one (length neq.names) (RightFits neq products) p.row q.row a.1 b.1 in
    ap Err (place_is p q row (sym a.0 ∙ row ∙ b.0))

pub one_shift : OneShift
one_shift values neq r s a b =
    elim a [
      | inl x ↦ elim b [ inl y ↦ x.1 ∙ sym y.1 | inr y ↦ absurd (y.0 x.0) ]
      | inr x ↦ elim b [
        | inl y ↦ absurd (x.0 y.0)
        | inr y ↦
            let same = one_list values neq.apriori y.1.0 x.1.0 y.1.1 x.1.1 in
            then_is_one (IsProduct (factors_in neq x.1.0)) (IsLessBy values neq) (one_product (factors_in neq x.1.0)) (λ products given. one_less values neq products) r s x.1.2
            (subst (λ l. Then (IsProduct (factors_in neq l)) (IsLessBy values neq) s) same y.1.2)
      ]
    ]
