-- Files in the order of their names.
use Rattle.std.proofs.Common.{◌≡◌, ◌≢◌, ◌⊎◌, ◌∷◌, ◌+◌, ◌<◌, ℕ, zero, suc, true, false, List, [], length, get_or, map, refl, sym, ap, ◌∙◌, subst, arith, inl, inr}
use Rattle.std.specs.Str.{bytes_eq}
use Rattle.std.specs.List.{AllPairs, Contains}
use Rattle.std.specs.List.Sorted.{IsPermutation, IsSortedBy, IsSortedByClosure}
use Rattle.std.specs.Ordering.{nat_cmp, is_lt, is_eq, ordering_reverse}
use Rattle.std.specs.Fn.{Called, Mut}
use Rattle.std.specs.Cmp.Lexicographic.{slice_cmp}
use Rattle.std.specs.declared.cmp.Ordering.{Ordering}
use Rattle.std.specs.declared.cmp.Ordering.TheVariants.{Less, Equal, Greater}
use Rattle.std.proofs.lemmas.Fn.{always_returns_same}
use Rattle.std.proofs.lemmas.Cmp.{nat_list_cmp_total, nat_list_eq_equiv, tied_itself}
use Rattle.std.proofs.lemmas.List.{get_or-map, length-map}
use Rattle.std.proofs.lemmas.List.Sorted.{ranks_by, IsPermutation-map, length_permutation, list_any-IsPermutation, Contains-permutation, IsPermutation-sym}
use Rattle.std.proofs.lemmas.Map.Made.{IsDistinct-from_AllPairs, AllPairs-from_IsDistinct, IsDistinct-from_count, length-from_keys}
use Rattle.std.proofs.lemmas.Map.Text.{is_eq-slice_cmp}
use Rattle.std.proofs.lemmas.Slice.Eq.{bytes_eq-Decides}
use denote.Ref.{Bor}
use Rattle.stated_order.specs.Lists.{Ascends}
use Rattle.control_doc.specs.Plain.{PlainPlan}
use Rattle.run_inputs.specs.Inputs.{ComesBefore, AreApart, AreInNameOrder}

-- ---- names
tied_names : (a b : List ℕ) → slice_cmp nat_cmp a b ≡ Equal → a ≡ b
tied_names a b e = (bytes_eq-Decides a b).0 (sym (is_eq-slice_cmp a b) ∙ ap is_eq e)

before_by : (a b : List ℕ) (o : Ordering) → slice_cmp nat_cmp a b ≡ o → is_lt (slice_cmp nat_cmp b a) ≡ false → a ≢ b → slice_cmp nat_cmp a b ≡ Less
before_by a b Less e not_back apart = e
before_by a b Equal e not_back apart = absurd (apart (tied_names a b e))
before_by a b Greater e not_back apart =
    let back : slice_cmp nat_cmp b a ≡ Less = nat_list_cmp_total.antisymm b a ∙ ap ordering_reverse e in
    let f : true ≡ false = sym (ap is_lt back) ∙ not_back in
    absurd (cc)

abbrev Differ : List (List ℕ) → Type 0
Differ names = AllPairs (λ (one : List ℕ) (other : List ℕ). one ≢ other) names

differ_moved : (xs ys : List (List ℕ)) → IsPermutation xs ys → Differ xs → Differ ys
differ_moved xs ys p apart =
    let distinct = IsDistinct-from_AllPairs bytes_eq-Decides xs apart in
    let count = length-from_keys nat_list_eq_equiv xs ys distinct (λ q. list_any-IsPermutation (bytes_eq q) xs ys p) in
    AllPairs-from_IsDistinct bytes_eq-Decides ys (IsDistinct-from_count nat_list_eq_equiv ys (sym count ∙ sym (length_permutation xs ys p)))

-- ---- files with names
abbrev name_of : PlainPlan → List ℕ
name_of plan = plan.name

names_differ : (xs : List PlainPlan) → AreApart xs → Differ (map name_of xs)
names_differ [] apart = λ i j d lt below. absurd (omega arith)
names_differ (x ∷ xs) apart = λ i j d lt below same.
    let len = length-map (x ∷ xs) name_of in
    let within : j < length (x ∷ xs) = omega (arith, len) in
    apart i j x lt within (sym (get_or-map name_of (x ∷ xs) i x d (omega arith)) ∙ same ∙ get_or-map name_of (x ∷ xs) j x d within)

apart_by_names : (xs : List PlainPlan) → Differ (map name_of xs) → AreApart xs
apart_by_names xs differ = λ i j d lt below same.
    let len = length-map xs name_of in
    differ i j d.name lt (omega (arith, len)) (get_or-map name_of xs i d d.name (omega arith) ∙ same ∙ sym (get_or-map name_of xs j d d.name below))

apart_moved : (xs ys : List PlainPlan) → IsPermutation xs ys → AreApart xs → AreApart ys
apart_moved xs ys p apart = apart_by_names ys (differ_moved (map name_of xs) (map name_of ys) (IsPermutation-map name_of xs ys p) (names_differ xs apart))

rises_from : (xs : List PlainPlan) → ((k : ℕ) (d : PlainPlan) → k + 1 < length xs → ComesBefore (get_or xs k d) (get_or xs (k + 1) d)) → Ascends ComesBefore xs
rises_from [] h = tt
rises_from (a ∷ []) h = tt
rises_from (a ∷ b ∷ rest) h = (
  h 0 a (omega arith),
  rises_from (b ∷ rest) (λ k d lt. let e : suc k + 1 ≡ suc (k + 1) = omega arith in subst (λ n. ComesBefore (get_or (b ∷ rest) k d) (get_or (a ∷ b ∷ rest) n d)) e (h (suc k) d (omega arith))),
)

sorted_rises : (xs : List PlainPlan) → AreApart xs → IsSortedBy (λ (a : PlainPlan) (b : PlainPlan). is_lt (slice_cmp nat_cmp a.name b.name)) xs → Ascends ComesBefore xs
sorted_rises xs apart sorted =
    rises_from xs (λ k d lt.
    before_by (get_or xs k d).name (get_or xs (k + 1) d).name (slice_cmp nat_cmp (get_or xs k d).name (get_or xs (k + 1) d).name) refl (sorted k d (omega arith) lt) (apart k (k + 1) d (omega arith) lt))

-- ---- what a sort leaves, where each call of its closure compares the names
module _ {X : Type 0} (view : X → PlainPlan) where
  sorted_by : {F : Type 0} {g : Mut F (Bor X × (Bor X × Unit {0})) Ordering} {f : F} (xs : List X) → IsSortedByClosure g f xs
      → ((a : Bor X × (Bor X × Unit {0})) (r : Ordering) (f' : F) → Called g f a r f' → (r ≡ slice_cmp nat_cmp (view a.0.now).name (view a.1.0.now).name) × (f' ≡ f))
      → IsSortedBy (λ x y. is_lt (slice_cmp nat_cmp (view x).name (view y).name)) xs
  sorted_by {g = g} {f = f} xs up h =
      up (λ x y. is_lt (slice_cmp nat_cmp (view x).name (view y).name)) (ranks_by nat_list_cmp_total (λ x. (view x).name))
      (always_returns_same g (λ a r. is_lt r ≡ is_lt (slice_cmp nat_cmp (view a.0.now).name (view a.1.0.now).name)) f (λ a r f' k. (ap is_lt (h a r f' k).0, (h a r f' k).1)))

  sorted_map : (xs : List X) → IsSortedBy (λ x y. is_lt (slice_cmp nat_cmp (view x).name (view y).name)) xs
      → IsSortedBy (λ (a : PlainPlan) (b : PlainPlan). is_lt (slice_cmp nat_cmp a.name b.name)) (map view xs)
  sorted_map [] h = λ k d least lt. absurd (omega arith)
  sorted_map (x ∷ xs) h = λ k d least lt.
      let len = length-map (x ∷ xs) view in
      let within : k + 1 < length (x ∷ xs) = omega (arith, len) in
      let here = get_or-map view (x ∷ xs) k x d (omega arith) in
      let next = get_or-map view (x ∷ xs) (k + 1) x d within in
      subst (λ a. is_lt (slice_cmp nat_cmp a.name (get_or (map view (x ∷ xs)) k d).name) ≡ false) (sym next)
      (subst (λ a. is_lt (slice_cmp nat_cmp (view (get_or (x ∷ xs) (k + 1) x)).name a.name) ≡ false) (sym here) (h k x least within))

  pub in_order : {F : Type 0} {g : Mut F (Bor X × (Bor X × Unit {0})) Ordering} {f : F} (files : List PlainPlan) (listed sorted : List X) → map view listed ≡ files → AreApart files → IsPermutation listed sorted
      → IsSortedByClosure g f sorted → ((a : Bor X × (Bor X × Unit {0})) (r : Ordering) (f' : F) → Called g f a r f' → (r ≡ slice_cmp nat_cmp (view a.0.now).name (view a.1.0.now).name) × (f' ≡ f))
      → AreInNameOrder files (map view sorted)
  in_order files listed sorted is apart p up h =
      let moved : IsPermutation files (map view sorted) = subst (λ l. IsPermutation l (map view sorted)) is (IsPermutation-map view listed sorted p) in
      record { same = moved; ascends = sorted_rises (map view sorted) (apart_moved files (map view sorted) moved apart) (sorted_map sorted (sorted_by sorted up h)) }

-- ---- two lists in the order of the names that have the same files are equal
not_itself : (p : PlainPlan) → ComesBefore p p → ⊥
not_itself p h = let e : Less ≡ Equal = sym h ∙ tied_itself nat_list_cmp_total p.name in cc

head_before : (a : PlainPlan) (xs : List PlainPlan) (k : ℕ) (p : PlainPlan) → Ascends ComesBefore (a ∷ xs) → k < length xs → get_or xs k p ≡ p → ComesBefore a p
head_before a [] k p up lt is = absurd (omega arith)
head_before a (x ∷ xs) zero p up lt is = subst (ComesBefore a) is up.0
head_before a (x ∷ xs) (suc k) p up lt is = nat_list_cmp_total.trans a.name x.name p.name up.0 (head_before x xs k p up.1 (omega arith) is)

after_head : (a : PlainPlan) (xs : List PlainPlan) → Ascends ComesBefore (a ∷ xs) → Ascends ComesBefore xs
after_head a [] up = tt
after_head a (x ∷ xs) up = up.1

head_or_later : (x : PlainPlan) (xs : List PlainPlan) (k : ℕ) (p : PlainPlan) → k < length (x ∷ xs) → get_or (x ∷ xs) k p ≡ p → (x ≡ p) ⊎ Contains xs p
head_or_later x xs zero p lt is = inl is
head_or_later x xs (suc k) p lt is = inr (k, omega arith, is)

abbrev Within : List PlainPlan → List PlainPlan → Type 0
Within xs ys = (p : PlainPlan) → Contains xs p → Contains ys p

same_heads : (x y : PlainPlan) (xs ys : List PlainPlan) → Ascends ComesBefore (x ∷ xs) → Ascends ComesBefore (y ∷ ys) → Within (x ∷ xs) (y ∷ ys) → Within (y ∷ ys) (x ∷ xs) → x ≡ y
same_heads x y xs ys up more there back =
    let in_ys = there x (0, omega arith, refl) in
    let in_xs = back y (0, omega arith, refl) in
    elim (head_or_later y ys in_ys.0 x in_ys.1 in_ys.2) [
      | inl e ↦ sym e
      | inr h ↦ elim (head_or_later x xs in_xs.0 y in_xs.1 in_xs.2) [
        | inl e ↦ e
        | inr k ↦ absurd (not_itself x (nat_list_cmp_total.trans x.name y.name x.name (head_before x xs k.0 y up k.1 k.2) (head_before y ys h.0 x more h.1 h.2)))
      ]
    ]

later_within : (x y : PlainPlan) (xs ys : List PlainPlan) → Ascends ComesBefore (x ∷ xs) → x ≡ y → Within (x ∷ xs) (y ∷ ys) → Within xs ys
later_within x y xs ys up same there p h =
    let in_ys = there p (suc h.0, (let lt = h.1 in omega arith), h.2) in
    elim (head_or_later y ys in_ys.0 p in_ys.1 in_ys.2) [
      | inl e ↦ absurd (not_itself p (subst (λ q. ComesBefore q p) (same ∙ e) (head_before x xs h.0 p up h.1 h.2)))
      | inr k ↦ k
    ]

one_rising : (xs ys : List PlainPlan) → Ascends ComesBefore xs → Ascends ComesBefore ys → Within xs ys → Within ys xs → xs ≡ ys
one_rising [] [] up more there back = refl
one_rising [] (y ∷ ys) up more there back = let h = back y (0, omega arith, refl) in let lt = h.1 in absurd (omega arith)
one_rising (x ∷ xs) [] up more there back = let h = there x (0, omega arith, refl) in let lt = h.1 in absurd (omega arith)
one_rising (x ∷ xs) (y ∷ ys) up more there back =
    let same : x ≡ y = same_heads x y xs ys up more there back in
    ap (λ p. p ∷ xs) same
    ∙ ap (λ l. y ∷ l) (one_rising xs ys (after_head x xs up) (after_head y ys more) (later_within x y xs ys up same there) (later_within y x ys xs more (sym same) back))

pub one_order : (files one other : List PlainPlan) → AreInNameOrder files one → AreInNameOrder files other → one ≡ other
one_order files one other a b =
    one_rising one other a.ascends b.ascends (λ p h. Contains-permutation files other p b.same (Contains-permutation one files p (IsPermutation-sym files one a.same) h))
    (λ p h. Contains-permutation files one p a.same (Contains-permutation other files p (IsPermutation-sym files other b.same) h))
