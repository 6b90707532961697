-- A control file says one control at most, or has one first fault.
use Rattle.std.proofs.Common.{◌≡◌, ◌∙◌, ℕ, List, [], Bool, true, false, Option, Some, None, Ok, Err, sym, ap}
use Rattle.stated_order.specs.Steps.{IsOne}
use Rattle.stated_order.proofs.StepLaws.{then_is_one, in_turn_is_one, ok_same}
use Rattle.toml.specs.Data.{Data, Members}
use Rattle.decimal_e.proofs.Outcomes.{one_answer_of}
use Rattle.control_doc.specs.Plain.{PlainPlan}
use Rattle.control_doc.specs.Tables.{Entry}
use Rattle.control_doc.specs.Control.{Is, IsDecimalIn, IsDecimalAt, IsWeight, IsSigma, IsPlan, IsDatumIn, IsDatum, reduction_in, IsControlOf, OneControl, is_positive_and_short}

is_one : {X : Type 0} (answer : X) → IsOne (Is answer)
is_one answer r s a b = a ∙ sym b

short_or_not : (b : Bool) → b ≡ true → b ≡ false → ⊥
short_or_not b p q = let h : true ≡ false = sym p ∙ q in cc

in_is_one : (path text : List ℕ) → IsOne (IsDecimalIn path text)
in_is_one path text (Ok d) (Ok e) p q = ap Ok (ok_same d e (one_answer_of text (Ok d) (Ok e) p.0 q.0))
in_is_one path text (Ok d) (Err y) p q = absurd (short_or_not (is_positive_and_short d) p.1 (q.1 d p.0))
in_is_one path text (Err x) (Ok e) p q = absurd (short_or_not (is_positive_and_short e) q.1 (p.1 e q.0))
in_is_one path text (Err x) (Err y) p q = ap Err (p.0 ∙ sym q.0)

at_is_one : (path : List ℕ) (given : Data) → IsOne (IsDecimalAt path given)
at_is_one path given = then_is_one _ _ (is_one _) (λ text has. in_is_one path text)

weight_is_one : (path : List ℕ) (given : Option Data) → IsOne (IsWeight path given)
weight_is_one path None = λ r s a b. a ∙ sym b
weight_is_one path (Some given) = at_is_one path given

sigma_is_one : (path : List ℕ) (given : Option Data) → IsOne (IsSigma path given)
sigma_is_one path None = λ r s a b. a ∙ sym b
sigma_is_one path (Some given) = then_is_one _ _ (at_is_one path given) (λ d has r s a b. a ∙ sym b)

plan_is_one : (before : List PlainPlan) (entry : Entry) → IsOne (IsPlan before entry)
plan_is_one before entry =
    then_is_one _ _ (is_one _) (λ name has_name.
    then_is_one _ _ (weight_is_one _ _) (λ weight has_weight.
    then_is_one _ _ (is_one _) (λ group has_group.
    then_is_one _ _ (is_one _) (λ form has_form.
    then_is_one _ _ (is_one _) (λ constraints has_held. is_one _)))))

datum_in_is_one : (members : Members) → IsOne (IsDatumIn members)
datum_in_is_one table =
    then_is_one _ _ (is_one _) (λ sites has_sites.
    then_is_one _ _ (sigma_is_one _ _) (λ translation has_translation.
    then_is_one _ _ (sigma_is_one _ _) (λ rotation has_rotation.
    then_is_one _ _ (sigma_is_one _ _) (λ scale has_scale.
    then_is_one _ _ (is_one _) (λ datum has_datum. is_one _)))))

datum_is_one : (given : Option Members) → IsOne (IsDatum given)
datum_is_one None = λ r s a b. a ∙ sym b
datum_is_one (Some members) = datum_in_is_one members

control_of_is_one : (top : Members) → IsOne (IsControlOf top)
control_of_is_one top =
    then_is_one _ _ (is_one _) (λ parts has_parts.
    then_is_one _ _ (is_one _) (λ header has_header.
    then_is_one _ _ (is_one _) (λ run has_run.
    then_is_one _ _ (in_turn_is_one IsPlan plan_is_one [] _) (λ files has_files.
    then_is_one _ _ (datum_is_one _) (λ datum has_datum.
    then_is_one _ _ (in_turn_is_one _ (λ before entry. is_one (reduction_in before entry)) [] _) (λ reductions has_reductions.
    then_is_one _ _ (is_one _) (λ scales has_scales.
    then_is_one _ _ (is_one _) (λ referred has_referred.
    then_is_one _ _ (is_one _) (λ known has_known. is_one _)))))))))

pub one_control_of : OneControl
one_control_of None = λ r s a b. a ∙ sym b
one_control_of (Some top) = control_of_is_one top
