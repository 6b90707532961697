-- The a priori rows of files that count.
use Rattle.std.proofs.Common.{◌≡◌, ◌∷◌, ◌++◌, ◌^◌, ◌∙◌, zero, suc, ℕ, Bool, true, false, cond, List, [], Option, Some, None, Ok, IfSome, refl, sym, ap, subst, arith}
use Rattle.std.specs.Prelude.{All}
use Rattle.std.specs.List.{filter, find, flat_map}
use Rattle.std.specs.Net.Reader.{map_or}
use Rattle.std.proofs.lemmas.Int.{ints}
use Rattle.std.proofs.lemmas.List.Elements.{All-nil, All-head, All-tail, All-append, All-filter, All-weaker}
use Rattle.decimal_e.specs.Decimals.{Decimal}
use Rattle.decimal_e.specs.Fractions.{IsAtMost}
use Rattle.param_ids.specs.Plain.{PlainId}
use Rattle.snx_rows.specs.Blocks.{AreSound}
use Rattle.snx_rows.specs.declared.rows.Shape.TheVariants.{Value}
use Rattle.snx_rows.specs.Named.{zero_decimal, is_row_of, value_of}
use Rattle.snx_rows.specs.declared.rows.Row.{Row}
use Rattle.snx_blocks.specs.Documents.{IsValid}
use Rattle.apriori_shift.specs.Common.{HasTwoUnits, IsCommon}
use Rattle.apriori_shift.specs.Answers.{RowMap, HasFirstRows, common_value}
use Rattle.run_inputs.specs.Inputs.{PlainInput}
use Rattle.combine_cli.specs.Combination.{apriori_rows, is_reference, counted_rows}

-- ---- the rows of some files
abbrev pub rows_of : List PlainInput → List Row
rows_of inputs = flat_map (λ (input : PlainInput). apriori_rows input.doc.apriori) inputs

flat_all : {X A : Type 0} (f : X → List A) (P : A → Type 0) (xs : List X) → All (λ x. All P (f x)) xs → All P (flat_map f xs)
flat_all f P [] all = All-nil P
flat_all f P (first ∷ rest) all =
    All-append P (f first) (flat_map f rest) (All-head (λ x. All P (f x)) first rest all) (flat_all f P rest (All-tail (λ x. All P (f x)) first rest all))

-- what each row of each file keeps, each row that counts keeps
all_counted : (P : Row → Type 0) (reference : List ℕ) (inputs : List PlainInput) → All (λ (input : PlainInput). All P (apriori_rows input.doc.apriori)) inputs → All P (counted_rows reference inputs)
all_counted P reference inputs all =
    let Q : PlainInput → Type 0 = λ (input : PlainInput). All P (apriori_rows input.doc.apriori) in
    flat_all (λ (input : PlainInput). apriori_rows input.doc.apriori) P (filter (is_reference reference) inputs ++ inputs)
    (All-append Q (filter (is_reference reference) inputs) inputs (All-filter (is_reference reference) Q inputs all) all)

-- ---- sizes
picked : (P : Decimal → Type 0) (b : Bool) (row : Row) (o : Option Row) → P row.value → P (map_or o zero_decimal (λ (r : Row). r.value)) → P (map_or (cond b (Some row) o) zero_decimal (λ (r : Row). r.value))
picked P true row o here there = here
picked P false row o here there = there

value_modest : (rows : List Row) (id : PlainId) → All (λ (row : Row). IsAtMost (10 ^ 12) row.value) rows → IsAtMost (10 ^ 12) (value_of rows id)
value_modest [] id all = omega (arith, ints)
value_modest (row ∷ rows) id all =
    let P : Row → Type 0 = λ (r : Row). IsAtMost (10 ^ 12) r.value in
    picked (IsAtMost (10 ^ 12)) (is_row_of id row) row (find (is_row_of id) rows) (All-head P row rows all) (value_modest rows id (All-tail P row rows all))

rows_modest : (apriori : Option (List Row)) → IfSome apriori (AreSound Value) → All (λ (row : Row). IsAtMost (10 ^ 12) row.value) (apriori_rows apriori)
rows_modest None sound = All-nil (λ (row : Row). IsAtMost (10 ^ 12) row.value)
rows_modest (Some rows) sound = sound.sized

-- a common value is one of a row of a file, or zero
pub common_modest : (base : RowMap) (reference : List ℕ) (inputs : List PlainInput) → HasFirstRows base (counted_rows reference inputs) → All (λ (input : PlainInput). IsValid input.doc) inputs
    → (id : PlainId) → IsAtMost (10 ^ 12) (common_value base id)
common_modest base reference inputs first valid id =
    let P : Row → Type 0 = λ (row : Row). IsAtMost (10 ^ 12) row.value in
    let each = All-weaker (λ (input : PlainInput). IsValid input.doc) (λ (input : PlainInput). All P (apriori_rows input.doc.apriori)) (λ (input : PlainInput) valid. rows_modest input.doc.apriori valid.apriori) inputs valid in
    subst (λ (o : Option Row). IsAtMost (10 ^ 12) (map_or o zero_decimal (λ (row : Row). row.value))) (sym (first id)) (value_modest (counted_rows reference inputs) id (all_counted P reference inputs each))

-- ---- common values
-- what stands of the rows as they were given stands of the rows that count
pub counted_common : (base : RowMap) (given counted : List Row) → given ≡ counted → (rows : List Row) × IsCommon given (Ok rows) × HasFirstRows base rows → IsCommon counted (Ok counted) × HasFirstRows base counted
counted_common base given counted same h = ((refl, subst (λ l. (id : PlainId) → ¬ (HasTwoUnits l id)) same h.1.1), subst (HasFirstRows base) (h.1.0 ∙ same) h.2)
