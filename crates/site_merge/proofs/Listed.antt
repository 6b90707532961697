-- The values of a map in the order of its keys, where each key names its value: in order, and as many as the keys.
use Rattle.std.proofs.Common.{◌≡◌, ◌∷◌, ◌∙◌, zero, suc, List, [], Some, map, refl, sym, ap, subst, arith}
use Rattle.std.specs.Prelude.{◌↔◌, All, Contains}
use Rattle.std.specs.BTreeMap.{BTreeMap, IsOrdered, get, values}
use Rattle.std.specs.Cmp.{IsTotalOrder}
use Rattle.std.specs.List.{AllByRecursion}
use Rattle.std.specs.List.Sorted.{IsStrictlySortedBy}
use Rattle.std.specs.Map.{keys_of, values_of}
use Rattle.std.specs.declared.cmp.Ordering.{Ordering}
use Rattle.std.specs.declared.cmp.Ordering.TheVariants.{Less, Equal}
use Rattle.std.proofs.lemmas.List.Elements.{All-head, All-tail, All-weaker}
use Rattle.std.proofs.lemmas.Map.Made.{Contains-from_values_of, Contains-values_of}
use Rattle.std.proofs.lemmas.Map.Views.{All-found, btree_map_get_iff}
use Rattle.site_merge.proofs.OneSortedList.{head_there, tail_there}

-- ---- members of a `map`
pub there_mapped : {X Y : Type 0} (f : X → Y) (xs : List X) (x : X) → Contains xs x → Contains (map f xs) (f x)
there_mapped f [] x there = absurd (omega (arith, there.1))
there_mapped f (y ∷ xs) x (zero, lt, at) = (0, omega arith, ap f at)
there_mapped f (y ∷ xs) x (suc k, lt, at) = tail_there (f y) (map f xs) (f x) (there_mapped f xs x (k, omega arith, at))

pub mapped_from : {X Y : Type 0} (f : X → Y) (xs : List X) (y : Y) → Contains (map f xs) y → (x : X) × Contains xs x × (f x ≡ y)
mapped_from f [] y there = absurd (omega (arith, there.1))
mapped_from f (x ∷ xs) y (zero, lt, at) = (x, head_there x xs, at)
mapped_from f (x ∷ xs) y (suc k, lt, at) =
    let behind = mapped_from f xs y (k, omega arith, at) in
    (behind.0, tail_there x xs behind.0 behind.1, behind.2)

-- ---- an order by names
module _ {K Y : Type 0} (R : K → K → Ordering) (name : Y → K) where
  all_below : (k : K) (ys : List Y) → AllByRecursion (λ q. R k q ≡ Less) (map name ys) → AllByRecursion (λ y. R k (name y) ≡ Less) ys
  all_below k [] h = h
  all_below k (y ∷ ys) h = (h.0, all_below k ys h.1)

  pub sorted_by_name : (ys : List Y) → IsStrictlySortedBy R (map name ys) → IsStrictlySortedBy (λ a b. R (name a) (name b)) ys
  unfolding IsStrictlySortedBy
  sorted_by_name [] sorted = tt
  sorted_by_name (y ∷ ys) sorted = (all_below (name y) ys sorted.0, sorted_by_name ys sorted.1)

module _ {K X Y : Type 0} (R : K → K → Ordering) (total : IsTotalOrder R) (exact : (a b : K) → R a b ≡ Equal → a ≡ b) (m : BTreeMap K X) (ordered : IsOrdered R m) (show : X → Y) (name : Y → K) (P : Y → Type 0)
    (holds : (k : K) (v : X) → get R m k ≡ Some v → (name (show v) ≡ k) × P (show v)) (found : (y : Y) → P y → (v : X) × (get R m (name y) ≡ Some v) × (show v ≡ y)) where
  names_are : (es : List (K × X)) → All (λ e. name (show e.1) ≡ e.0) es → map name (map show (values_of es)) ≡ keys_of es
  names_are [] h = refl
  names_are (e ∷ es) h =
      ap (λ k. k ∷ map name (map show (values_of es))) (All-head (λ (e : K × X). name (show e.1) ≡ e.0) e es h)
      ∙ ap (λ l. e.0 ∷ l) (names_are es (All-tail (λ (e : K × X). name (show e.1) ≡ e.0) e es h))

  pub listed_in_order : IsStrictlySortedBy (λ a b. R (name a) (name b)) (map show (values m))
  listed_in_order =
      let each = All-weaker (λ (e : K × X). get R m e.0 ≡ Some e.1) (λ (e : K × X). name (show e.1) ≡ e.0) (λ e is. (holds e.0 e.1 is).0) m.entries (All-found total m ordered) in
      sorted_by_name R name (map show (values m)) (subst (λ ks. IsStrictlySortedBy R ks) (sym (names_are m.entries each)) ordered)

  pub listed_all : (y : Y) → Contains (map show (values m)) y ↔ P y
  listed_all y = (
    λ there.
        let shown = mapped_from show (values m) y there in
        let entry = Contains-from_values_of m.entries shown.0 shown.1 in
        subst P shown.2 (holds entry.0 shown.0 ((btree_map_get_iff total exact m ordered entry.0 shown.0).1 entry.1)).1,
    λ is.
        let value = found y is in
        let entry = (btree_map_get_iff total exact m ordered (name y) value.0).0 value.1 in
        subst (λ z. Contains (map show (values m)) z) value.2 (there_mapped show (values m) value.0 (Contains-values_of m.entries (name y) value.0 entry)),
  )
