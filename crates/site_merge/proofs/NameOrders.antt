-- The orders of names, rows and moments are total, and tell apart all that differ.
use Rattle.std.proofs.Common.{◌≡◌, refl, subst}
use Rattle.std.specs.Cmp.{IsTotalOrder}
use Rattle.std.specs.Ordering.{ordering_then}
use Rattle.std.specs.declared.cmp.Ordering.{Ordering}
use Rattle.std.specs.declared.cmp.Ordering.TheVariants.{Less, Equal, Greater}
use Rattle.std.proofs.lemmas.Cmp.{nat_list_cmp_total, on_total, then_total}
use Rattle.std.proofs.lemmas.Map.Lookups.{exact_bytes, exact_signed, exact_unsigned}
use Rattle.snx_epoch.specs.Moments.{epoch_cmp}
use Rattle.snx_epoch.specs.declared.Epoch.{Epoch}
use Rattle.snx_epoch.specs.declared.Epoch.TheVariants.{Never, At}
use Rattle.snx_epoch.specs.contracts.EpochOrd.TheImpl as epoch_impl
use Rattle.snx_epoch.specs.contracts.EpochOrd.TheImpl.Laws.{total-law}
use Rattle.site_merge.specs.Keyed.{site_name, site_name_cmp, solution_name, solution_name_cmp}
use Rattle.site_merge.specs.Merged.{site_cmp, solution_cmp}
use Rattle.site_merge.specs.declared.names.SiteName.{SiteName}
use Rattle.site_merge.specs.declared.names.SolutionName.{SolutionName}

first_equal : (o p : Ordering) → ordering_then o p ≡ Equal → o ≡ Equal
first_equal Less p e = e
first_equal Equal p e = refl
first_equal Greater p e = e

second_equal : (o p : Ordering) → ordering_then o p ≡ Equal → p ≡ Equal
second_equal Less p e = let f : Less ≡ Equal = e in cc
second_equal Equal p e = e
second_equal Greater p e = let f : Greater ≡ Equal = e in cc

-- ---- names
pub site_name_total : IsTotalOrder site_name_cmp
site_name_total = then_total (on_total (λ (a : SiteName). a.code) nat_list_cmp_total) (on_total (λ (a : SiteName). a.point) nat_list_cmp_total)

pub site_name_exact : (a b : SiteName) → site_name_cmp a b ≡ Equal → a ≡ b
site_name_exact a b e =
    let code = exact_bytes a.code b.code (first_equal _ _ e) in
    let point = exact_bytes a.point b.point (second_equal _ _ e) in
    λ i. record { code = code i; point = point i }

pub solution_name_total : IsTotalOrder solution_name_cmp
solution_name_total =
    then_total (on_total (λ (a : SolutionName). a.code) nat_list_cmp_total)
    (then_total (on_total (λ (a : SolutionName). a.point) nat_list_cmp_total) (on_total (λ (a : SolutionName). a.soln) nat_list_cmp_total))

pub solution_name_exact : (a b : SolutionName) → solution_name_cmp a b ≡ Equal → a ≡ b
solution_name_exact a b e =
    let code = exact_bytes a.code b.code (first_equal _ _ e) in
    let rest = second_equal _ _ e in
    let point = exact_bytes a.point b.point (first_equal _ _ rest) in
    let soln = exact_bytes a.soln b.soln (second_equal _ _ rest) in
    λ i. record { code = code i; point = point i; soln = soln i }

-- ---- rows
pub site_total : IsTotalOrder site_cmp
site_total = on_total site_name site_name_total

pub solution_total : IsTotalOrder solution_cmp
solution_total = on_total solution_name solution_name_total

-- ---- moments
epoch_same : (e f : Epoch) → (epoch_impl.ghosts).cmp e f ≡ epoch_cmp e f
epoch_same Never Never = refl
epoch_same Never (At d s) = refl
epoch_same (At d s) Never = refl
epoch_same (At d s) (At e t) = refl

pub epoch_total : IsTotalOrder epoch_cmp
epoch_total =
    let same : (epoch_impl.ghosts).cmp ≡ epoch_cmp = λ i a b. epoch_same a b i in
    subst (λ (R : Epoch → Epoch → Ordering). IsTotalOrder R) same total-law

pub epoch_exact : (e f : Epoch) → epoch_cmp e f ≡ Equal → e ≡ f
epoch_exact Never Never is = refl
epoch_exact Never (At e t) is = let f : Less ≡ Equal = is in cc
epoch_exact (At d s) Never is = let f : Greater ≡ Equal = is in cc
epoch_exact (At d s) (At e t) is =
    let day = exact_signed d e (first_equal _ _ is) in
    let second = exact_unsigned s t (second_equal _ _ is) in
    λ i. At (day i) (second i)
