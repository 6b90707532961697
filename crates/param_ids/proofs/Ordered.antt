-- The order of names is total, and tells apart all names that differ.
use Rattle.std.proofs.Common.{◌≡◌, ◌+◌, List, get_or, sym, ap, ◌∙◌, refl, false, arith}
use Rattle.std.specs.Ordering.{is_lt, ordering_then, ordering_reverse}
use Rattle.std.specs.Cmp.{IsTotalOrder}
use Rattle.std.specs.List.Sorted.{IsSorted}
use Rattle.std.specs.declared.cmp.Ordering.{Ordering}
use Rattle.std.specs.declared.cmp.Ordering.TheVariants.{Less, Equal, Greater}
use Rattle.std.proofs.lemmas.Map.Keys.{Less-from_sorted}
use Rattle.std.proofs.lemmas.Map.Lookups.{exact_bytes, exact_signed, exact_unsigned}
use Rattle.snx_epoch.specs.Moments.{epoch_cmp}
use Rattle.snx_epoch.specs.declared.Epoch.{Epoch}
use Rattle.snx_epoch.specs.declared.Epoch.TheVariants.{Never, At}
use Rattle.param_ids.specs.Plain.{PlainId}
use Rattle.param_ids.specs.Order.{id_cmp, IsRising}
use Rattle.param_ids.specs.contracts.ids.ParamIdOrd.TheImpl.Laws.{total-law}
use Rattle.param_ids.proofs.Derived.{id_same}

same_total : {K : Type 0} (R S : K → K → Ordering) → ((x y : K) → S x y ≡ R x y) → IsTotalOrder S → IsTotalOrder R
same_total R S same o = record {
  antisymm = λ x y. sym (same x y) ∙ (o.antisymm x y ∙ ap ordering_reverse (same y x));
  trans = λ x y z p q. sym (same x z) ∙ o.trans x y z (same x y ∙ p) (same y z ∙ q);
  congr = λ x y z p. sym (same x z) ∙ (o.congr x y z (same x y ∙ p) ∙ same y z);
}

pub id_total : IsTotalOrder id_cmp
id_total = same_total id_cmp _ id_same total-law

first_equal : (o p : Ordering) → ordering_then o p ≡ Equal → o ≡ Equal
first_equal Less p e = e
first_equal Equal p e = refl
first_equal Greater p e = e

second_equal : (o p : Ordering) → ordering_then o p ≡ Equal → p ≡ Equal
second_equal Less p e = let f : Less ≡ Equal = e in cc
second_equal Equal p e = e
second_equal Greater p e = let f : Greater ≡ Equal = e in cc

epoch_exact : (e f : Epoch) → epoch_cmp e f ≡ Equal → e ≡ f
epoch_exact Never Never is = refl
epoch_exact Never (At e t) is = let f : Less ≡ Equal = is in cc
epoch_exact (At d s) Never is = let f : Greater ≡ Equal = is in cc
epoch_exact (At d s) (At e t) is =
    let day : d ≡ e = exact_signed d e (first_equal _ _ is) in
    let second : s ≡ t = exact_unsigned s t (second_equal _ _ is) in
    λ i. At (day i) (second i)

-- names of which neither is below the other are equal
pub id_exact : (a b : PlainId) → id_cmp a b ≡ Equal → a ≡ b
id_exact a b e =
    let kind = exact_bytes a.kind b.kind (first_equal _ _ e) in
    let from_code = second_equal _ _ e in
    let code = exact_bytes a.code b.code (first_equal _ _ from_code) in
    let from_point = second_equal _ _ from_code in
    let point = exact_bytes a.point b.point (first_equal _ _ from_point) in
    let from_soln = second_equal _ _ from_point in
    let soln = exact_bytes a.soln b.soln (first_equal _ _ from_soln) in
    let epoch = epoch_exact a.epoch b.epoch (second_equal _ _ from_soln) in
    λ i. record { kind = kind i; code = code i; point = point i; soln = soln i; epoch = epoch i }

below_back : (o p : Ordering) → p ≡ ordering_reverse o → o ≡ Less → is_lt p ≡ false
below_back o p back less = let same : p ≡ Greater = back ∙ ap ordering_reverse less in rw same refl

pub sorted_from_rising : (ids : List PlainId) → IsRising ids → IsSorted id_cmp ids
sorted_from_rising ids rising k d low lt =
    below_back (id_cmp (get_or ids k d) (get_or ids (k + 1) d)) (id_cmp (get_or ids (k + 1) d) (get_or ids k d)) (id_total.antisymm (get_or ids (k + 1) d) (get_or ids k d))
    (Less-from_sorted id_cmp ids k (k + 1) d rising (omega arith) lt)
