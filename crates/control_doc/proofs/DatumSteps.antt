-- The datum, up to the first key that is refused.
use Rattle.std.proofs.Common.{Option, Some, Result, Ok, Err, Vec, Global, codes, refl, option_map}
use Rattle.toml.specs.Data.{Members, get_member}
use Rattle.decimal_e.specs.Decimals.{Decimal}
use Rattle.control_doc.specs.Control.{Is, IsSigma, IsDatumIn, sites_in, with_sigma}
use Rattle.control_doc.specs.Views.{Answers, datum_view}
use Rattle.control_doc.specs.declared.faults.ControlError.{ControlError}
use Rattle.control_doc.specs.declared.plans.Datum.{Datum}
use Rattle.control_doc.specs.declared.plans.Site.{Site}
use Rattle.control_doc.proofs.Chain.{goes_on, stops}

abbrev pub Whole : Members → Result (Option Datum) ControlError → Type 0
Whole members = Answers (option_map datum_view) (IsDatumIn members)

module _ (members : Members) where
  pub no_sites : (e : ControlError) → Answers (λ (v : Vec Site Global). v.items) (Is (sites_in members)) (let r : Result (Vec Site Global) ControlError = Err e in r) → Whole members (Err e)
  no_sites e h = stops (λ (v : Vec Site Global). v.items) (option_map datum_view) (Is (sites_in members)) _ e h

  module _ (sites : Vec Site Global) (has_sites : Answers (λ (v : Vec Site Global). v.items) (Is (sites_in members)) (let r : Result (Vec Site Global) ControlError = Ok sites in r)) where
    pub no_translation : (e : ControlError) → Answers (λ (x : Option Decimal). x) (IsSigma (codes "datum.translation") (get_member (codes "translation") members)) (let r : Result (Option Decimal) ControlError = Err e in r) → Whole members (Err e)
    no_translation e h = goes_on (λ (v : Vec Site Global). v.items) (option_map datum_view) (Is (sites_in members)) _ sites (Err e) has_sites (stops (λ (x : Option Decimal). x) (option_map datum_view) (IsSigma (codes "datum.translation") (get_member (codes "translation") members)) _ e h)

    module _ (translation : Option Decimal) (has_translation : Answers (λ (x : Option Decimal). x) (IsSigma (codes "datum.translation") (get_member (codes "translation") members)) (let r : Result (Option Decimal) ControlError = Ok translation in r)) where
      pub no_rotation : (e : ControlError) → Answers (λ (x : Option Decimal). x) (IsSigma (codes "datum.rotation") (get_member (codes "rotation") members)) (let r : Result (Option Decimal) ControlError = Err e in r) → Whole members (Err e)
      no_rotation e h = goes_on (λ (v : Vec Site Global). v.items) (option_map datum_view) (Is (sites_in members)) _ sites (Err e) has_sites (goes_on (λ (x : Option Decimal). x) (option_map datum_view) (IsSigma (codes "datum.translation") (get_member (codes "translation") members)) _ translation (Err e) has_translation (stops (λ (x : Option Decimal). x) (option_map datum_view) (IsSigma (codes "datum.rotation") (get_member (codes "rotation") members)) _ e h))

      module _ (rotation : Option Decimal) (has_rotation : Answers (λ (x : Option Decimal). x) (IsSigma (codes "datum.rotation") (get_member (codes "rotation") members)) (let r : Result (Option Decimal) ControlError = Ok rotation in r)) where
        pub no_scale : (e : ControlError) → Answers (λ (x : Option Decimal). x) (IsSigma (codes "datum.scale") (get_member (codes "scale") members)) (let r : Result (Option Decimal) ControlError = Err e in r) → Whole members (Err e)
        no_scale e h = goes_on (λ (v : Vec Site Global). v.items) (option_map datum_view) (Is (sites_in members)) _ sites (Err e) has_sites (goes_on (λ (x : Option Decimal). x) (option_map datum_view) (IsSigma (codes "datum.translation") (get_member (codes "translation") members)) _ translation (Err e) has_translation (goes_on (λ (x : Option Decimal). x) (option_map datum_view) (IsSigma (codes "datum.rotation") (get_member (codes "rotation") members)) _ rotation (Err e) has_rotation (stops (λ (x : Option Decimal). x) (option_map datum_view) (IsSigma (codes "datum.scale") (get_member (codes "scale") members)) _ e h)))

        module _ (scale : Option Decimal) (has_scale : Answers (λ (x : Option Decimal). x) (IsSigma (codes "datum.scale") (get_member (codes "scale") members)) (let r : Result (Option Decimal) ControlError = Ok scale in r)) where
          pub no_sigma : (e : ControlError) → Answers datum_view (Is (with_sigma (record { sites = sites.items; translation = translation; rotation = rotation; scale = scale }))) (let r : Result (Datum) ControlError = Err e in r) → Whole members (Err e)
          no_sigma e h = goes_on (λ (v : Vec Site Global). v.items) (option_map datum_view) (Is (sites_in members)) _ sites (Err e) has_sites (goes_on (λ (x : Option Decimal). x) (option_map datum_view) (IsSigma (codes "datum.translation") (get_member (codes "translation") members)) _ translation (Err e) has_translation (goes_on (λ (x : Option Decimal). x) (option_map datum_view) (IsSigma (codes "datum.rotation") (get_member (codes "rotation") members)) _ rotation (Err e) has_rotation (goes_on (λ (x : Option Decimal). x) (option_map datum_view) (IsSigma (codes "datum.scale") (get_member (codes "scale") members)) _ scale (Err e) has_scale (stops datum_view (option_map datum_view) (Is (with_sigma (record { sites = sites.items; translation = translation; rotation = rotation; scale = scale }))) _ e h))))

          pub whole_datum : (datum : Datum) → Answers datum_view (Is (with_sigma (record { sites = sites.items; translation = translation; rotation = rotation; scale = scale }))) (let r : Result (Datum) ControlError = Ok datum in r) → Whole members (Ok (Some datum))
          whole_datum datum has_datum = goes_on (λ (v : Vec Site Global). v.items) (option_map datum_view) (Is (sites_in members)) _ sites (Ok (Some datum)) has_sites (goes_on (λ (x : Option Decimal). x) (option_map datum_view) (IsSigma (codes "datum.translation") (get_member (codes "translation") members)) _ translation (Ok (Some datum)) has_translation (goes_on (λ (x : Option Decimal). x) (option_map datum_view) (IsSigma (codes "datum.rotation") (get_member (codes "rotation") members)) _ rotation (Ok (Some datum)) has_rotation (goes_on (λ (x : Option Decimal). x) (option_map datum_view) (IsSigma (codes "datum.scale") (get_member (codes "scale") members)) _ scale (Ok (Some datum)) has_scale (goes_on datum_view (option_map datum_view) (Is (with_sigma (record { sites = sites.items; translation = translation; rotation = rotation; scale = scale }))) _ datum (Ok (Some datum)) has_datum (refl)))))
