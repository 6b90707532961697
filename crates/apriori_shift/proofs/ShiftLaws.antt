-- What the parts of a shift give together.
use Rattle.std.proofs.Common.{◌≡◌, ◌≤◌, ◌<◌, ◌+◌, ◌^◌, ◌∙◌, inl, inr, ℕ, ℤ, List, length, Ok, Err, Result, sym, ap, subst, arith}
use Rattle.std.specs.Prelude.{slice_index_or, All, IfOk}
use Rattle.std.proofs.lemmas.Option.{slice_get_within}
use Rattle.stated_order.proofs.StepLaws.{then_gives, then_stops}
use Rattle.whole_numbers.specs.Intervals.{Interval, size}
use Rattle.whole_numbers.proofs.Sizes.{size_sub}
use Rattle.sym_blocks.specs.Tables.{zero_interval}
use Rattle.decimal_e.specs.Decimals.{Decimal}
use Rattle.decimal_e.specs.Fractions.{IsAtMost}
use Rattle.param_ids.specs.Plain.{PlainId}
use Rattle.neq_stack.specs.Neqs.{PlainNeq, IsSound}
use Rattle.neq_stack.specs.ByName.{AreAtMost, right_in}
use Rattle.neq_stack.proofs.NameLaws.{place_cases}
use Rattle.neq_stack.proofs.PlacedLaws.{right_there, no_right}
use Rattle.difference_products.specs.Answers.{factors_of}
use Rattle.difference_products.specs.Products.{Place, IsProduct}
use Rattle.apriori_shift.specs.Shifts.{AreDifferences, factors_in, less_by, IsLessBy}
use Rattle.apriori_shift.specs.Answers.{IfRange}
use Rattle.apriori_shift.specs.Parts.{NoneIsPast, IsFirstPast, AreModest, IsMovedRight, IsPast}
use Rattle.apriori_shift.specs.declared.shifting.ShiftError.{ShiftError}
use Rattle.apriori_shift.specs.declared.shifting.ShiftError.TheVariants as shifts
use Rattle.apriori_shift.proofs.RightLaws.{products_length, products_modest, less_length, less_at, right_small}

pub range_weaker : (P Q : Place → Type 0) → ((p : Place) → P p → Q p) → (e : ShiftError) → IfRange P e → IfRange Q e
range_weaker P Q weaker (shifts.Range row col) h = weaker (record { row = row; col = col }) h
range_weaker P Q weaker shifts.Memory h = tt

-- what follows from two things that are said of an answer
pub both_ok : {X E : Type 0} (P Q R : X → Type 0) → ((x : X) → P x → Q x → R x) → (r : Result X E) → IfOk r P → IfOk r Q → IfOk r R
both_ok P Q R both (Ok x) p q = both x p q
both_ok P Q R both (Err e) p q = tt

-- ---- what is multiplied
module _ (values : List Decimal) (neq : PlainNeq) (olds : List Decimal) (ws ds : List Interval) (ts : List ℤ) (olds_are : olds ≡ neq.apriori) (are : AreDifferences values olds ws) (ds_are : ds ≡ ws) (ts_are : ts ≡ neq.scales) where
  differ : AreDifferences values neq.apriori ws
  differ = subst (λ l. AreDifferences values l ws) olds_are are

  product_in : (r : Result (List Interval) Place) → IsProduct (factors_of neq.table ds ts) r → IsProduct (factors_in neq ws) r
  product_in r h = subst (λ l. IsProduct (factors_of neq.table ws l) r) ts_are (subst (λ l. IsProduct (factors_of neq.table l ts) r) ds_are h)

  pub product_refused : (p : Place) → IsProduct (factors_of neq.table ds ts) (Err p) → IsPast values neq p
  product_refused p h = record { differences = ws; differ = differ; past = then_stops (IsProduct (factors_in neq ws)) (IsLessBy values neq) p (product_in (Err p) h) }

  -- ---- what it is taken from
  module _ (ps qs : List Interval) (rights : List Interval) (sound : IsSound neq) (multiplied : IsProduct (factors_of neq.table ds ts) (Ok ps)) (qs_are : qs ≡ ps) (rights_are : rights ≡ neq.right) where
    given : IsProduct (factors_in neq ws) (Ok ps)
    given = product_in (Ok ps) multiplied

    pub products_many : length qs ≡ length rights
    products_many = ap length qs_are ∙ products_length (factors_in neq ws) ps given ∙ sound.rows ∙ sym sound.rights ∙ ap length (sym rights_are)

    pub products_small : AreModest qs
    products_small = subst AreModest (sym qs_are) (products_modest (factors_in neq ws) ps given)

    pub right_refused : (p : Place) → IsFirstPast rights qs p → IsPast values neq p
    right_refused p h =
        let there : IsFirstPast neq.right ps p = subst (λ l. IsFirstPast l ps p) rights_are (subst (λ l. IsFirstPast rights l p) qs_are h) in
        let all = sound.rights in
        let within = there.1.within in
        record {
          differences = ws;
          differ = differ;
          past = then_gives (IsProduct (factors_in neq ws)) (IsLessBy values neq) ps (Err p) given (there.0, record { within = omega arith; before = there.1.before; fails = there.1.fails });
        }

    pub right_moved : (less : List Interval) → less ≡ less_by rights qs → NoneIsPast rights qs → IsMovedRight values neq less
    right_moved less is fit =
        let fits : NoneIsPast neq.right ps = subst (λ l. NoneIsPast l ps) rights_are (subst (λ l. NoneIsPast rights l) qs_are fit) in
        let all = sound.rights in
        record {
          differences = ws;
          products = ps;
          differ = differ;
          multiplied = given;
          fit = λ i row. fits i (omega arith);
          is = is ∙ ap (λ l. less_by l qs) rights_are ∙ ap (λ l. less_by neq.right l) qs_are;
          many = products_length (factors_in neq ws) ps given ∙ sound.rows;
          modest = products_modest (factors_in neq ws) ps given;
        }

-- ---- the normal equations at other values
abbrev pub placed_in : PlainNeq → List Decimal → List Interval → PlainNeq
placed_in neq values right = record { names = neq.names; table = neq.table; right = right; apriori = values; units = neq.units; scales = neq.scales }

module _ (values others : List Decimal) (neq : PlainNeq) (right : List Interval) (sound : IsSound neq) (moved : IsMovedRight values neq right) where
  right_many : length right ≡ length neq.names
  right_many =
      let many : length moved.products ≡ length neq.right = moved.many ∙ sym sound.rights in
      ap length moved.is ∙ less_length neq.right moved.products many ∙ sound.rights

  pub placed_sound : length others ≡ length neq.names → All (IsAtMost (10 ^ 12)) others → IsSound (placed_in neq others right)
  placed_sound many modest = record {
    names = sound.names;
    rows = sound.rows;
    entries = sound.entries;
    rights = right_many;
    values = many;
    named_units = sound.named_units;
    exponents = sound.exponents;
    modest = modest;
    scaled = sound.scaled;
  }

  row_small : (most i : ℕ) → AreAtMost most neq → i < length neq.names → size (slice_index_or right i zero_interval) ≤ most + 10 ^ 34
  row_small most i small row =
      let rows = sound.rights in
      let many = moved.many in
      let at = less_at neq.right moved.products i (omega arith) (omega arith) in
      subst (λ w. size w ≤ most + 10 ^ 34) (sym (ap (λ l. slice_index_or l i zero_interval) moved.is ∙ at))
      (size_sub (slice_index_or neq.right i zero_interval) (slice_index_or moved.products i zero_interval) most (10 ^ 34) (right_small neq most sound small i (omega arith)) (moved.modest i (omega arith)))

  name_small : (most : ℕ) (id : PlainId) → AreAtMost most neq → size (right_in (placed_in neq others right) id) ≤ most + 10 ^ 34
  name_small most id small =
      elim (place_cases neq.names id) [
        | inl h ↦ subst (λ w. size w ≤ most + 10 ^ 34) (sym (right_there (placed_in neq others right) h.0 id h.2)) (row_small most h.0 small (slice_get_within neq.names h.0 id h.1))
        | inr h ↦ subst (λ w. size w ≤ most + 10 ^ 34) (sym (no_right (placed_in neq others right) id h.0)) (omega arith)
      ]

  pub placed_small : (most : ℕ) → AreAtMost most neq → AreAtMost (most + 10 ^ 34) (placed_in neq others right)
  placed_small most small = record {
    entries = λ one other. let h = small.entries one other in omega arith;
    rights = λ id. name_small most id small;
  }
