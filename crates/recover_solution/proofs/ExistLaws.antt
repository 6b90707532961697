-- There are constraints of standard deviations, and systems that are left without constraints; and with each its multiples.
use Rattle.std.proofs.Common.{◌≡◌, ◌<◌, ◌*◌, ◌∙◌, ◌∷◌, ℕ, ℤ, pos, ◌+ℤ◌, ◌*ℤ◌, Bool, true, false, cond, List, [], Option, Some, None, All, unsigned_abs, refl, sym, ap, arith}
use Rattle.std.specs.List.{find}
use Rattle.std.specs.Option.{option_and_then}
use Rattle.std.proofs.Math.IntN.{◌-ℤ◌, zero-*ℤ}
use Rattle.std.proofs.Math.Nat.{mul-pos, mul_comm}
use Rattle.std.proofs.lemmas.Int.{ints}
use Rattle.std.proofs.lemmas.List.Elements.{All-nil, All-cons}
use Rattle.whole_numbers.specs.Scaling.{ten_above}
use Rattle.whole_numbers.proofs.Ring.{*ℤ_assoc, *ℤ_left_comm, *ℤ_comm, *ℤ-+ℤ}
use Rattle.decimal_e.specs.Decimals.{Decimal}
use Rattle.decimal_e.specs.Fractions.{numerator, denominator}
use Rattle.sys_model.proofs.ScalingLaws.{ten_above_some, ten_below_some}
use Rattle.param_ids.specs.Plain.{PlainId}
use Rattle.param_ids.specs.Order.{is_same_id}
use Rattle.snx_rows.specs.Named.{is_row_of, value_of}
use Rattle.snx_rows.specs.declared.rows.Row.{Row}
use Rattle.neq_stack.specs.Systems.{NamedSystem, IsSumOf, multiple}
use Rattle.apriori_shift.proofs.MoveLaws.{systems_move, multiples_move}
use Rattle.named_tables.specs.Deviations.{sigma_in, sigma_of, sigma_at}
use Rattle.recover_solution.specs.Exact.{IsOverSigma, SigmasConstrain, MultiplesConstrain, SystemsAreFreed, MultiplesAreFreed}
use Rattle.recover_solution.proofs.EstimateLaws.{positive_in}
use Rattle.recover_solution.proofs.SigmaLaws.{numerator_square, gathered}

-- ---- products of squares
-- the square of a standard deviation's numerator, and 1 where there is none
square_of : Option Decimal → ℕ
square_of None = 1
square_of (Some s) = (unsigned_abs s.mant * ten_above s.exp) * (unsigned_abs s.mant * ten_above s.exp)

square_some : (row : Row) (o : Option Decimal) → sigma_in row ≡ o → 0 < square_of o
unfolding square_of
square_some row None is = omega arith
square_some row (Some s) is =
    let above = positive_in row.dev s is in
    let one : 0 < unsigned_abs s.mant = omega (arith, ints) in
    let side = mul-pos one (ten_above_some s.exp) in
    mul-pos side side

-- the product of those of some rows, and of all but the first row of a name
squares : List Row → ℕ
squares [] = 1
squares (row ∷ rows) = square_of (sigma_in row) * squares rows

other_squares : List Row → PlainId → ℕ
other_squares [] id = 1
other_squares (row ∷ rows) id = cond (is_row_of id row) (squares rows) (square_of (sigma_in row) * other_squares rows id)

squares_some : (rows : List Row) → 0 < squares rows
unfolding squares
squares_some [] = omega arith
squares_some (row ∷ rows) = mul-pos (square_some row (sigma_in row) refl) (squares_some rows)

parted : (rows : List Row) (id : PlainId) → squares rows ≡ square_of (sigma_of rows id) * other_squares rows id
unfolding squares other_squares square_of
parted [] id = refl
parted (row ∷ rows) id = by_test (is_row_of id row) (parted rows id)
  where
    by_test : (b : Bool) → squares rows ≡ square_of (sigma_of rows id) * other_squares rows id → square_of (sigma_in row) * squares rows ≡ square_of (option_and_then sigma_in (cond b (Some row) (find (is_row_of id) rows))) * cond b (squares rows) (square_of (sigma_in row) * other_squares rows id)
    by_test true is = refl
    by_test false is =
        let rest = ap (λ n. square_of (sigma_in row) * n) is in
        let turned : square_of (sigma_in row) * (square_of (sigma_of rows id) * other_squares rows id) ≡ square_of (sigma_of rows id) * (square_of (sigma_in row) * other_squares rows id) = omega arith in
        rest ∙ turned

-- ---- the constraints
-- the weight over the square of a standard deviation, over the weight's denominator times all squares
sigma_part : Decimal → Option Decimal → ℕ → ℤ
sigma_part weight None rest = pos 0
sigma_part weight (Some s) rest = numerator weight *ℤ pos (rest * (denominator s * denominator s))

over_sigma : (weight : Decimal) (dev : Option Decimal) (rest all : ℕ) → all ≡ square_of dev * rest → IsOverSigma weight dev (sigma_part weight dev rest) (denominator weight * all)
unfolding sigma_part square_of
over_sigma weight None rest all is = refl
over_sigma weight (Some s) rest all is =
    let square = (unsigned_abs s.mant * ten_above s.exp) * (unsigned_abs s.mant * ten_above s.exp) in
    let turned : ((rest * (denominator s * denominator s)) * denominator weight) * square ≡ (denominator weight * (square * rest)) * (denominator s * denominator s) = turn rest (denominator s * denominator s) (denominator weight) square in
    ap (λ z. ((numerator weight *ℤ pos (rest * (denominator s * denominator s))) *ℤ pos (denominator weight)) *ℤ z) (numerator_square s)
    ∙ ap (λ z. z *ℤ pos square) (gathered (numerator weight) (rest * (denominator s * denominator s)) (denominator weight))
    ∙ gathered (numerator weight) ((rest * (denominator s * denominator s)) * denominator weight) square
    ∙ ap (λ n. numerator weight *ℤ pos n) (turned ∙ ap (λ n. (denominator weight * n) * (denominator s * denominator s)) (sym is))
  where
    turn : (a b c d : ℕ) → ((a * b) * c) * d ≡ (c * (d * a)) * b
    turn a b c d = omega arith

sigma_element : (apriori : List Row) (weight : Decimal) (one other : PlainId) → (x : ℤ) × IsOverSigma weight (sigma_at apriori one other) x (denominator weight * squares apriori)
sigma_element apriori weight one other = by_test (is_same_id one other)
  where
    by_test : (b : Bool) → (x : ℤ) × IsOverSigma weight (cond b (sigma_of apriori one) None) x (denominator weight * squares apriori)
    by_test true = (sigma_part weight (sigma_of apriori one) (other_squares apriori one), over_sigma weight (sigma_of apriori one) (other_squares apriori one) (squares apriori) (parted apriori one))
    by_test false = (pos 0, refl)

pub sigmas_constrain : SigmasConstrain
sigmas_constrain apriori weight = (
  record { q = denominator weight * squares apriori; a = λ one other. (sigma_element apriori weight one other).0; c = λ id. pos 0 },
  record { some = mul-pos (ten_below_some weight.exp) (squares_some apriori); matrix = λ one other. (sigma_element apriori weight one other).1; right = λ id. refl },
)

-- ---- multiples
over_multiple : (weight : Decimal) (dev : Option Decimal) (x : ℤ) (q k : ℕ) → IsOverSigma weight dev x q → IsOverSigma weight dev (pos k *ℤ x) (k * q)
over_multiple weight None x q k is = ap (λ z. pos k *ℤ z) is ∙ *ℤ_comm (pos k) (pos 0) ∙ zero-*ℤ (pos k)
over_multiple weight (Some s) x q k is =
    let square = numerator s *ℤ numerator s in
    let below = denominator s * denominator s in
    let turned : k * (q * below) ≡ (k * q) * below = omega arith in
    ap (λ z. z *ℤ square) (*ℤ_assoc (pos k) x (pos (denominator weight))) ∙ *ℤ_assoc (pos k) (x *ℤ pos (denominator weight)) square ∙ ap (λ z. pos k *ℤ z) is
    ∙ *ℤ_left_comm (pos k) (numerator weight) (pos (q * below)) ∙ ap (λ n. numerator weight *ℤ pos n) turned

pub multiples_constrain : MultiplesConstrain
multiples_constrain apriori weight K k some is = record {
  some = mul-pos some is.some;
  matrix = λ one other. over_multiple weight (sigma_at apriori one other) (K.a one other) K.q k (is.matrix one other);
  right = λ id. ap (λ z. pos k *ℤ z) (is.right id) ∙ *ℤ_comm (pos k) (pos 0) ∙ zero-*ℤ (pos k);
}

-- k times a sum of two
two_multiple : (k : ℕ) (x y z : ℤ) → z ≡ x +ℤ (y +ℤ pos 0) → pos k *ℤ z ≡ pos k *ℤ x +ℤ (pos k *ℤ y +ℤ pos 0)
two_multiple k x y z is =
    let plain : x +ℤ (y +ℤ pos 0) ≡ x +ℤ y = omega (arith, ints) in
    let whole = *ℤ-+ℤ (pos k) x y in
    ap (λ u. pos k *ℤ u) (is ∙ plain) ∙ whole ∙ omega (arith, ints)

pub multiples_are_freed : MultiplesAreFreed
multiples_are_freed solution names E K S k some freed = record {
  moved = multiple k freed.moved;
  moves = multiples_move names (value_of solution.estimates) (value_of solution.apriori) E freed.moved k some freed.moves;
  sum = record {
    some = mul-pos some freed.sum.some;
    denominators = one_denominator (k * freed.moved.q) (multiple k S) (multiple k K) (ap (λ n. k * n) (freed.sum.denominators 0 S (omega arith))) (ap (λ n. k * n) (freed.sum.denominators 1 K (omega arith)));
    matrix = λ one other. two_multiple k (S.a one other) (K.a one other) (freed.moved.a one other) (freed.sum.matrix one other);
    right = λ id. two_multiple k (S.c id) (K.c id) (freed.moved.c id) (freed.sum.right id);
  };
}
  where
    one_denominator : (q : ℕ) (S K : NamedSystem) → S.q ≡ q → K.q ≡ q → All (λ (part : NamedSystem). part.q ≡ q) (S ∷ K ∷ [])
    one_denominator q S K one other = All-cons (λ (part : NamedSystem). part.q ≡ q) S (K ∷ []) one (All-cons (λ (part : NamedSystem). part.q ≡ q) K [] other (All-nil (λ (part : NamedSystem). part.q ≡ q)))

-- ---- a system
-- what is left of one system less another, over one denominator
left_of : NamedSystem → NamedSystem → NamedSystem
left_of moved K = record { q = moved.q; a = λ one other. moved.a one other -ℤ K.a one other; c = λ id. moved.c id -ℤ K.c id }

left_sum : (moved K : NamedSystem) → 0 < moved.q → K.q ≡ moved.q → IsSumOf (left_of moved K ∷ K ∷ []) moved
unfolding left_of
left_sum moved K some same = record {
  some = some;
  denominators = All-cons (λ (part : NamedSystem). part.q ≡ moved.q) (left_of moved K) (K ∷ []) refl (All-cons (λ (part : NamedSystem). part.q ≡ moved.q) K [] same (All-nil (λ (part : NamedSystem). part.q ≡ moved.q)));
  matrix = λ one other. back (moved.a one other) (K.a one other);
  right = λ id. back (moved.c id) (K.c id);
}
  where
    back : (x y : ℤ) → x ≡ (x -ℤ y) +ℤ (y +ℤ pos 0)
    back x y = omega (arith, ints)

pub systems_are_freed : SystemsAreFreed
systems_are_freed solution names E K E_some K_some =
    let T = systems_move names (value_of solution.estimates) (value_of solution.apriori) E E_some in
    let moved = multiple K.q T.0 in
    let taken = multiple T.0.q K in
    let moves = multiples_move names (value_of solution.estimates) (value_of solution.apriori) E T.0 K.q K_some T.1 in (
      T.0.q,
      T.1.some,
      (left_of moved taken, record { moved = moved; moves = moves; sum = left_sum moved taken moves.some (mul_comm T.0.q K.q) }),
    )
