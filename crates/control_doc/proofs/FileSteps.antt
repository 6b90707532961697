-- The plan of a file, up to the first key that is refused.
use Rattle.std.proofs.Common.{List, [], Result, Ok, Err, String, Global, string_bytes, codes, refl}
use Rattle.toml.specs.Data.{get_member}
use Rattle.decimal_e.specs.Decimals.{Decimal}
use Rattle.control_doc.specs.Control.{Is, IsPlan, IsWeight, file_name}
use Rattle.control_doc.specs.Faults.{key_path}
use Rattle.control_doc.specs.Plain.{PlainPlan}
use Rattle.control_doc.specs.Tables.{Entry, given_or}
use Rattle.control_doc.specs.Texts.{group_text, form_text, held_text}
use Rattle.control_doc.specs.Views.{Answers, plan_view}
use Rattle.control_doc.specs.declared.faults.ControlError.{ControlError}
use Rattle.control_doc.specs.declared.plans.FilePlan.{FilePlan}
use Rattle.control_doc.specs.declared.plans.Form.{Form}
use Rattle.control_doc.specs.declared.plans.Form.TheVariants as forms
use Rattle.control_doc.specs.declared.plans.Held.{Held}
use Rattle.control_doc.specs.declared.plans.Held.TheVariants as held
use Rattle.control_doc.proofs.Chain.{goes_on, stops}

abbrev pub HasName : List PlainPlan → Entry → Result (String Global) ControlError → Type 0
HasName before entry = Answers (λ (s : String Global). string_bytes s) (Is (file_name before entry))

abbrev pub HasWeight : Entry → Result Decimal ControlError → Type 0
HasWeight entry = Answers (λ d. d) (IsWeight (key_path entry.path (codes "weight")) (get_member (codes "weight") entry.members))

abbrev pub HasGroup : Entry → Result (String Global) ControlError → Type 0
HasGroup entry = Answers (λ (s : String Global). string_bytes s) (Is (given_or [] group_text entry.path (codes "group") entry.members))

abbrev pub HasForm : Entry → Result Form ControlError → Type 0
HasForm entry = Answers (λ x. x) (Is (given_or forms.Auto form_text entry.path (codes "form") entry.members))

abbrev pub HasHeld : Entry → Result Held ControlError → Type 0
HasHeld entry = Answers (λ x. x) (Is (given_or held.Auto held_text entry.path (codes "constraints") entry.members))

abbrev pub HasPlan : List PlainPlan → Entry → Result FilePlan ControlError → Type 0
HasPlan before entry = Answers plan_view (IsPlan before entry)

module _ (before : List PlainPlan) (entry : Entry) where
  pub no_name : (e : ControlError) → HasName before entry (Err e) → HasPlan before entry (Err e)
  no_name e h = stops (λ (s : String Global). string_bytes s) plan_view (Is (file_name before entry)) _ e h

  module _ (name : String Global) (has_name : HasName before entry (Ok name)) where
    pub no_weight : (e : ControlError) → HasWeight entry (Err e) → HasPlan before entry (Err e)
    no_weight e h = goes_on (λ (s : String Global). string_bytes s) plan_view (Is (file_name before entry)) _ name (Err e) has_name (stops (λ (d : Decimal). d) plan_view _ _ e h)

    module _ (weight : Decimal) (has_weight : HasWeight entry (Ok weight)) where
      pub no_group : (e : ControlError) → HasGroup entry (Err e) → HasPlan before entry (Err e)
      no_group e h = goes_on (λ (s : String Global). string_bytes s) plan_view (Is (file_name before entry)) _ name (Err e) has_name (goes_on (λ (d : Decimal). d) plan_view (IsWeight (key_path entry.path (codes "weight")) (get_member (codes "weight") entry.members)) _ weight (Err e) has_weight (stops (λ (s : String Global). string_bytes s) plan_view _ _ e h))

      module _ (group : String Global) (has_group : HasGroup entry (Ok group)) where
        pub no_form : (e : ControlError) → HasForm entry (Err e) → HasPlan before entry (Err e)
        no_form e h = goes_on (λ (s : String Global). string_bytes s) plan_view (Is (file_name before entry)) _ name (Err e) has_name (goes_on (λ (d : Decimal). d) plan_view (IsWeight (key_path entry.path (codes "weight")) (get_member (codes "weight") entry.members)) _ weight (Err e) has_weight (goes_on (λ (s : String Global). string_bytes s) plan_view (Is (given_or [] group_text entry.path (codes "group") entry.members)) _ group (Err e) has_group (stops (λ (x : Form). x) plan_view _ _ e h)))

        module _ (form : Form) (has_form : HasForm entry (Ok form)) where
          pub no_held : (e : ControlError) → HasHeld entry (Err e) → HasPlan before entry (Err e)
          no_held e h = goes_on (λ (s : String Global). string_bytes s) plan_view (Is (file_name before entry)) _ name (Err e) has_name (goes_on (λ (d : Decimal). d) plan_view (IsWeight (key_path entry.path (codes "weight")) (get_member (codes "weight") entry.members)) _ weight (Err e) has_weight (goes_on (λ (s : String Global). string_bytes s) plan_view (Is (given_or [] group_text entry.path (codes "group") entry.members)) _ group (Err e) has_group (goes_on (λ (x : Form). x) plan_view (Is (given_or forms.Auto form_text entry.path (codes "form") entry.members)) _ form (Err e) has_form (stops (λ (x : Held). x) plan_view _ _ e h))))

          pub whole_plan : (constraints : Held) → HasHeld entry (Ok constraints) → HasPlan before entry (Ok (record { name = name; weight = weight; group = group; form = form; held = constraints }))
          whole_plan constraints has_held = goes_on (λ (s : String Global). string_bytes s) plan_view (Is (file_name before entry)) _ name (Ok (record { name = name; weight = weight; group = group; form = form; held = constraints })) has_name (goes_on (λ (d : Decimal). d) plan_view (IsWeight (key_path entry.path (codes "weight")) (get_member (codes "weight") entry.members)) _ weight (Ok (record { name = name; weight = weight; group = group; form = form; held = constraints })) has_weight (goes_on (λ (s : String Global). string_bytes s) plan_view (Is (given_or [] group_text entry.path (codes "group") entry.members)) _ group (Ok (record { name = name; weight = weight; group = group; form = form; held = constraints })) has_group (goes_on (λ (x : Form). x) plan_view (Is (given_or forms.Auto form_text entry.path (codes "form") entry.members)) _ form (Ok (record { name = name; weight = weight; group = group; form = form; held = constraints })) has_form (goes_on (λ (x : Held). x) plan_view (Is (given_or held.Auto held_text entry.path (codes "constraints") entry.members)) _ constraints (Ok (record { name = name; weight = weight; group = group; form = form; held = constraints })) has_held (refl)))))
