-- The coefficients of a motion depend on the names and the a priori values alone.
use Rattle.std.proofs.Common.{◌≡◌, ◌∙◌, inl, inr, ℕ, ℤ, pos, List, Option, Some, None, refl, sym, ap, slice_index_or}
use Rattle.std.specs.List.{find, position_or_len}
use Rattle.decimal_e.specs.Decimals.{Decimal}
use Rattle.decimal_e.specs.Scales.{decimal_interval}
use Rattle.param_ids.specs.Plain.{PlainId}
use Rattle.control_doc.specs.declared.plans.Site.{Site}
use Rattle.neq_stack.specs.Neqs.{PlainNeq}
use Rattle.neq_stack.specs.ByName.{place_in}
use Rattle.neq_stack.proofs.NameLaws.{place_cases}
use Rattle.datum_rows.specs.Conditions.{Motion, Axis, AxisX, AxisY, AxisZ, along, coefficients}
use Rattle.datum_rows.specs.Sites.{is_of_site, is_at, axis_of, zero_decimal, metres, position, coefficient_along, coefficient_of, coefficient_in}

-- ---- at a name that is there, and at one that is not
pub coefficient_there : (sites : List Site) (neq : PlainNeq) (motion : Motion) (id : PlainId) (i : ℕ) → place_in neq.names id ≡ Some i → coefficient_in sites neq motion id ≡ coefficient_of sites neq motion id
coefficient_there sites neq motion id i is = rw is refl

pub coefficient_missing : (sites : List Site) (neq : PlainNeq) (motion : Motion) (id : PlainId) → place_in neq.names id ≡ None → coefficient_in sites neq motion id ≡ pos 0
coefficient_missing sites neq motion id is = rw is refl

-- ---- normal equations with the same names and values
abbrev metres_by : List PlainId → List Decimal → Site → Axis → ℤ
metres_by names apriori site axis = (decimal_interval (slice_index_or apriori (position_or_len (is_at site axis) names) zero_decimal) (pos 0)).lo

module _ (one other : PlainNeq) (names : one.names ≡ other.names) (apriori : one.apriori ≡ other.apriori) where
  metres_same : (site : Site) (axis : Axis) → metres one site axis ≡ metres other site axis
  metres_same site axis = ap (λ ns. metres_by ns one.apriori site axis) names ∙ ap (λ xs. metres_by other.names xs site axis) apriori

  position_same : (site : Site) → position one site ≡ position other site
  position_same site = λ i. record { x = metres_same site AxisX i; y = metres_same site AxisY i; z = metres_same site AxisZ i }

  along_same : (motion : Motion) (site : Option Site) (axis : Option Axis) → coefficient_along one motion site axis ≡ coefficient_along other motion site axis
  along_same motion (Some site) (Some axis) = ap (λ p. along axis (coefficients motion p)) (position_same site)
  along_same motion (Some site) None = refl
  along_same motion None axis = refl

  pub coefficient_same : (sites : List Site) (motion : Motion) (id : PlainId) → coefficient_of sites one motion id ≡ coefficient_of sites other motion id
  coefficient_same sites motion id = along_same motion (find (is_of_site id) sites) (axis_of id.kind)

  pub named_same : (sites : List Site) (motion : Motion) (id : PlainId) → coefficient_in sites one motion id ≡ coefficient_in sites other motion id
  named_same sites motion id =
      elim (place_cases one.names id) [
        | inl h ↦ coefficient_there sites one motion id h.0 h.2 ∙ coefficient_same sites motion id ∙ sym (coefficient_there sites other motion id h.0 (ap (λ ns. place_in ns id) (sym names) ∙ h.2))
        | inr h ↦ coefficient_missing sites one motion id h.1 ∙ sym (coefficient_missing sites other motion id (ap (λ ns. place_in ns id) (sym names) ∙ h.1))
      ]
