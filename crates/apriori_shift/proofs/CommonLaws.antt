-- Common values: the first row of each name, the least name with two units, and that there is one answer.
use Rattle.std.proofs.Common.{◌≡◌, ◌≢◌, ◌∷◌, ◌++◌, ◌⊎◌, ◌∙◌, inl, inr, zero, suc, Bool, true, false, cond, List, [], Option, Some, None, Result, Ok, Err, OnOk, refl, sym, ap, subst, arith}
use Rattle.std.specs.Prelude.{Contains}
use Rattle.std.specs.List.{find}
use Rattle.std.specs.Option.{option_or, option_map}
use Rattle.std.specs.Result.{is_err}
use Rattle.std.specs.BTreeMap.{get, Updates}
use Rattle.std.specs.Ordering.{ordering_reverse}
use Rattle.std.specs.declared.cmp.Ordering.{Ordering}
use Rattle.std.specs.declared.cmp.Ordering.TheVariants.{Less, Equal, Greater}
use Rattle.std.proofs.lemmas.Cmp.{tied_itself}
use Rattle.std.proofs.lemmas.List.Elements.{Contains-append_left, Contains-push, Contains-push_cases}
use Rattle.std.proofs.lemmas.List.Folds.{find-append}
use Rattle.param_ids.specs.Plain.{PlainId}
use Rattle.param_ids.specs.Order.{id_cmp, is_same_id}
use Rattle.param_ids.proofs.Ordered.{id_total, id_exact}
use Rattle.param_ids.proofs.SameIds.{same_id}
use Rattle.param_ids.proofs.Scaled.{at_ok}
use Rattle.snx_rows.specs.declared.rows.Row.{Row}
use Rattle.snx_rows.specs.Named.{is_row_of, row_of}
use Rattle.apriori_shift.specs.Common.{HasTwoUnits, IsLeastClash, OneCommon}
use Rattle.apriori_shift.specs.Answers.{RowMap, HasFirstRows}
use Rattle.apriori_shift.specs.Firsts.{IsLesser, IsClashOf, Stands}

-- ---- the first row of a name
-- where none is found, none is there
find_none : {X : Type 0} (p : X → Bool) (xs : List X) (x : X) → find p xs ≡ None → Contains xs x → p x ≡ true → ⊥
find_none p [] x none there passes = absurd (omega (arith, there.1))
find_none p (first ∷ rest) x none there passes = by_test (p first) refl none there (λ h c. find_none p rest x h c passes)
  where
    by_test : (b : Bool) → p first ≡ b → cond b (Some first) (find p rest) ≡ None → Contains (first ∷ rest) x → (find p rest ≡ None → Contains rest x → ⊥) → ⊥
    by_test true e h c later = absurd (cc)
    by_test false e h (zero, lt, at) later = let no : true ≡ false = sym passes ∙ ap p (sym at) ∙ e in cc
    by_test false e h (suc k, lt, at) later = later h (k, omega arith, at)

-- what is found is there, and passes
find_there : {X : Type 0} (p : X → Bool) (xs : List X) (x : X) → find p xs ≡ Some x → Contains xs x × (p x ≡ true)
find_there p [] x found = absurd (cc)
find_there p (first ∷ rest) x found = by_test (p first) refl found (find_there p rest x)
  where
    by_test : (b : Bool) → p first ≡ b → cond b (Some first) (find p rest) ≡ Some x → (find p rest ≡ Some x → Contains rest x × (p x ≡ true)) → Contains (first ∷ rest) x × (p x ≡ true)
    by_test true e h later = let same : first ≡ x = cc in ((0, omega arith, same), ap p (sym same) ∙ e)
    by_test false e h later = let there = later h in ((suc there.0.0, omega (arith, there.0.1), there.0.2), there.1)

or_none : {X : Type 0} (o : Option X) → option_or o None ≡ o
or_none None = refl
or_none (Some x) = refl

-- one more row behind the others
row_push : (rows : List Row) (row : Row) (id : PlainId) → row_of (rows ++ row ∷ []) id ≡ option_or (row_of rows id) (cond (is_row_of id row) (Some row) None)
row_push rows row id = find-append (is_row_of id) rows (row ∷ [])

module _ (before : List Row) (row : Row) (q : PlainId) where
  push_apart : is_same_id row.id q ≡ false → row_of (before ++ row ∷ []) q ≡ row_of before q
  push_apart e = row_push before row q ∙ ap (λ b. option_or (row_of before q) (cond b (Some row) None)) e ∙ or_none (row_of before q)

  push_known : (first : Row) → row_of before q ≡ Some first → row_of (before ++ row ∷ []) q ≡ Some first
  push_known first known = row_push before row q ∙ ap (λ o. option_or o (cond (is_row_of q row) (Some row) None)) known

  push_new : is_same_id row.id q ≡ true → row_of before q ≡ None → row_of (before ++ row ∷ []) q ≡ Some row
  push_new e none = row_push before row q ∙ ap (λ o. option_or o (cond (is_row_of q row) (Some row) None)) none ∙ ap (λ b. cond b (Some row) None) e

module _ (base : RowMap) (before : List Row) (row : Row) (firsts : HasFirstRows base before) where
  firsts_stay : (first : Row) → get id_cmp base row.id ≡ Some first → HasFirstRows base (before ++ row ∷ [])
  firsts_stay first known q = by_test (is_same_id row.id q) refl
    where
      by_test : (b : Bool) → is_same_id row.id q ≡ b → get id_cmp base q ≡ row_of (before ++ row ∷ []) q
      by_test true e =
          let had : get id_cmp base q ≡ Some first = ap (get id_cmp base) (sym ((same_id row.id q).0 e)) ∙ known in
          had ∙ sym (push_known before row q first (sym (firsts q) ∙ had))
      by_test false e = firsts q ∙ sym (push_apart before row q e)

  firsts_more : (after : RowMap) → get id_cmp base row.id ≡ None → ((q : PlainId) → get id_cmp after q ≡ cond (is_same_id row.id q) (Some row) (get id_cmp base q)) → HasFirstRows after (before ++ row ∷ [])
  firsts_more after none puts q = by_test (is_same_id row.id q) refl
    where
      by_test : (b : Bool) → is_same_id row.id q ≡ b → get id_cmp after q ≡ row_of (before ++ row ∷ []) q
      by_test true e =
          let had : get id_cmp base q ≡ None = ap (get id_cmp base) (sym ((same_id row.id q).0 e)) ∙ none in
          puts q ∙ ap (λ b. cond b (Some row) (get id_cmp base q)) e ∙ sym (push_new before row q e (sym (firsts q) ∙ had))
      by_test false e = puts q ∙ ap (λ b. cond b (Some row) (get id_cmp base q)) e ∙ firsts q ∙ sym (push_apart before row q e)

-- ---- two units
-- a row of this name before another row has another unit
record Opposes (before : List Row) (row : Row) (id : PlainId) : Type 0 where
  earlier : Row
  there : Contains before earlier
  named : earlier.id ≡ id
  own : row.id ≡ id
  apart : earlier.unit ≢ row.unit

module _ (before : List Row) (row : Row) where
  units_more : (id : PlainId) → HasTwoUnits before id → HasTwoUnits (before ++ row ∷ []) id
  units_more id h = record {
    one = h.one;
    other = h.other;
    here = Contains-append_left before (row ∷ []) h.one h.here;
    there = Contains-append_left before (row ∷ []) h.other h.there;
    named = h.named;
    likewise = h.likewise;
    apart = h.apart;
  }

  units_cases : (id : PlainId) → HasTwoUnits (before ++ row ∷ []) id → HasTwoUnits before id ⊎ Opposes before row id
  units_cases id h =
      elim (Contains-push_cases before row h.one h.here) [
        | inl a ↦ elim (Contains-push_cases before row h.other h.there) [
          | inl b ↦ inl (record { one = h.one; other = h.other; here = a; there = b; named = h.named; likewise = h.likewise; apart = h.apart })
          | inr s ↦ inr (record { earlier = h.one; there = a; named = h.named; own = ap (λ (r : Row). r.id) s ∙ h.likewise; apart = λ e. h.apart (e ∙ ap (λ (r : Row). r.unit) s) })
        ]
        | inr s ↦ elim (Contains-push_cases before row h.other h.there) [
          | inl b ↦ inr (record { earlier = h.other; there = b; named = h.likewise; own = ap (λ (r : Row). r.id) s ∙ h.named; apart = λ e. h.apart (sym (e ∙ ap (λ (r : Row). r.unit) s)) })
          | inr t ↦ absurd (h.apart (ap (λ (r : Row). r.unit) (sym s ∙ t)))
        ]
      ]

  module _ (base : RowMap) (firsts : HasFirstRows base before) where
    -- the first row of the name
    first_there : (first : Row) → get id_cmp base row.id ≡ Some first → Contains before first × (first.id ≡ row.id)
    first_there first known =
        let found = find_there (is_row_of row.id) before first (sym (firsts row.id) ∙ known) in
        (found.0, (same_id first.id row.id).0 found.1)

    units_as_before : (first : Row) → get id_cmp base row.id ≡ Some first → first.unit ≡ row.unit → (id : PlainId) → HasTwoUnits (before ++ row ∷ []) id → HasTwoUnits before id
    units_as_before first known same id h =
        let there = first_there first known in
        elim (units_cases id h) [
          | inl old ↦ old
          | inr o ↦ record { one = o.earlier; other = first; here = o.there; there = there.0; named = o.named; likewise = there.1 ∙ o.own; apart = λ e. o.apart (e ∙ same) }
        ]

    units_of_new : get id_cmp base row.id ≡ None → (id : PlainId) → HasTwoUnits (before ++ row ∷ []) id → HasTwoUnits before id
    units_of_new none id h =
        elim (units_cases id h) [
          | inl old ↦ old
          | inr o ↦ absurd (find_none (is_row_of row.id) before o.earlier (sym (firsts row.id) ∙ none) o.there ((same_id o.earlier.id row.id).1 (o.named ∙ sym o.own)))
        ]

    units_apart : (first : Row) → get id_cmp base row.id ≡ Some first → first.unit ≢ row.unit → HasTwoUnits (before ++ row ∷ []) row.id
    units_apart first known apart =
        let there = first_there first known in
        record { one = first; other = row; here = Contains-append_left before (row ∷ []) first there.0; there = Contains-push before row; named = there.1; likewise = refl; apart = apart }

-- ---- the least
not_below_itself : (id : PlainId) → id_cmp id id ≡ Less → ⊥
not_below_itself id less = let e : Less ≡ Equal = sym less ∙ tied_itself id_total id in cc

module _ (before : List Row) (row : Row) where
  clash_kept : ((id : PlainId) → HasTwoUnits (before ++ row ∷ []) id → HasTwoUnits before id) → (clash : Option PlainId) → IsClashOf before clash → IsClashOf (before ++ row ∷ []) clash
  clash_kept back None none = λ id h. none id (back id h)
  clash_kept back (Some id) is = record { clash = units_more before row id is.clash; least = λ other less h. is.least other less (back other h) }

  -- the name of the row, where none below it had two units
  clash_here : HasTwoUnits (before ++ row ∷ []) row.id → ((other : PlainId) → id_cmp other row.id ≡ Less → ¬ (HasTwoUnits before other)) → IsLeastClash (before ++ row ∷ []) row.id
  clash_here here none = record {
    clash = here;
    least = λ other less h. elim (units_cases before row other h) [
      | inl old ↦ none other less old
      | inr o ↦ not_below_itself row.id (subst (λ id. id_cmp id row.id ≡ Less) (sym o.own) less)
    ];
  }

  -- the name before, where that of the row is not below it
  clash_there : (old : PlainId) → IsLeastClash before old → ¬ (id_cmp row.id old ≡ Less) → IsLeastClash (before ++ row ∷ []) old
  clash_there old is above = record {
    clash = units_more before row old is.clash;
    least = λ other less h. elim (units_cases before row other h) [
      | inl older ↦ is.least other less older
      | inr o ↦ above (subst (λ id. id_cmp id old ≡ Less) (sym o.own) less)
    ];
  }

  clash_lesser : (clash : Option PlainId) (least : PlainId) → IsLesser clash row.id least → HasTwoUnits (before ++ row ∷ []) row.id → IsClashOf before clash → IsClashOf (before ++ row ∷ []) (Some least)
  clash_lesser None least is here none = subst (IsLeastClash (before ++ row ∷ [])) (sym is) (clash_here here (λ other less. none other))
  clash_lesser (Some old) least is here known = by_order (id_cmp row.id old) refl
    where
      not_less : (o : Ordering) → id_cmp row.id old ≡ o → ¬ (o ≡ Less) → IsLeastClash (before ++ row ∷ []) least
      not_less o e apart =
          let above : ¬ (id_cmp row.id old ≡ Less) = λ less. apart (sym e ∙ less) in
          subst (IsLeastClash (before ++ row ∷ [])) (sym (is.1 above)) (clash_there old known above)

      by_order : (o : Ordering) → id_cmp row.id old ≡ o → IsLeastClash (before ++ row ∷ []) least
      by_order Less e = subst (IsLeastClash (before ++ row ∷ [])) (sym (is.0 e)) (clash_here here (λ other less. known.least other (id_total.trans other row.id old less e)))
      by_order Equal e = not_less Equal e (λ f. absurd (cc))
      by_order Greater e = not_less Greater e (λ f. absurd (cc))

-- ---- one more row
known_unit : (o : Option Row) (unit : _) → Some unit ≡ option_map (λ (row : Row). row.unit) o → (first : Row) × (o ≡ Some first) × (first.unit ≡ unit)
known_unit None unit e = absurd (cc)
known_unit (Some first) unit e = (first, refl, (let same : first.unit ≡ unit = cc in same))

not_known : (o : Option Row) → None ≡ option_map (λ (row : Row). row.unit) o → o ≡ None
not_known None e = refl
not_known (Some first) e = absurd (cc)

module _ (base : RowMap) (clash : Option PlainId) (before : List Row) (row : Row) (stands : Stands base clash before) where
  pub stands_alike : (unit : _) → Some unit ≡ option_map (λ (row : Row). row.unit) (get id_cmp base row.id) → unit ≡ row.unit → Stands base clash (before ++ row ∷ [])
  stands_alike unit has same =
      let known = known_unit (get id_cmp base row.id) unit has in
      record {
        first = firsts_stay base before row stands.first known.0 known.1;
        least = clash_kept before row (units_as_before before row base stands.first known.0 known.1 (known.2 ∙ same)) clash stands.least;
      }

  pub stands_apart : (unit : _) (least : PlainId) → Some unit ≡ option_map (λ (row : Row). row.unit) (get id_cmp base row.id) → unit ≢ row.unit → IsLesser clash row.id least → Stands base (Some least) (before ++ row ∷ [])
  stands_apart unit least has apart lesser =
      let known = known_unit (get id_cmp base row.id) unit has in
      record {
        first = firsts_stay base before row stands.first known.0 known.1;
        least = clash_lesser before row clash least lesser (units_apart before row base stands.first known.0 known.1 (λ e. apart (sym known.2 ∙ e))) stands.least;
      }

  pub stands_new : (after : RowMap) → None ≡ option_map (λ (row : Row). row.unit) (get id_cmp base row.id) → ((q : PlainId) → get id_cmp after q ≡ cond (is_same_id row.id q) (Some row) (get id_cmp base q)) → Stands after clash (before ++ row ∷ [])
  stands_new after has puts =
      let none = not_known (get id_cmp base row.id) has in
      record {
        first = firsts_more base before row stands.first after none puts;
        least = clash_kept before row (units_of_new before row base stands.first none) clash stands.least;
      }

-- an insertion that did not fail, where the keys' order is that of names
pub puts_after : {X E : Type 0} (R : PlainId → PlainId → Ordering) → ((a b : PlainId) → R a b ≡ id_cmp a b) → (r : Result X E) (base after : RowMap) (row : Row) → OnOk r (Updates R base after row.id (Some row)) → is_err r ≡ false
    → (q : PlainId) → get id_cmp after q ≡ cond (is_same_id row.id q) (Some row) (get id_cmp base q)
puts_after R same r base after row updates fine q =
    let orders : R ≡ id_cmp = λ i a b. same a b i in
    let done = at_ok r (Updates R base after row.id (Some row)) updates fine in
    (subst (λ (S : PlainId → PlainId → Ordering). Updates S base after row.id (Some row)) orders done).0 q

-- ---- one answer
back_order : (o p : Ordering) → p ≡ ordering_reverse o → o ≡ Greater → p ≡ Less
back_order o p back greater = back ∙ ap ordering_reverse greater

least_is_one : (rows : List Row) (a b : PlainId) → IsLeastClash rows a → IsLeastClash rows b → a ≡ b
least_is_one rows a b x y = by_order (id_cmp a b) refl
  where
    by_order : (o : Ordering) → id_cmp a b ≡ o → a ≡ b
    by_order Less e = absurd (y.least a e x.clash)
    by_order Equal e = id_exact a b e
    by_order Greater e = absurd (x.least b (back_order (id_cmp a b) (id_cmp b a) (id_total.antisymm b a) e) y.clash)

pub one_common : OneCommon
one_common rows (Ok a) (Ok b) x y = ap Ok (x.0 ∙ sym y.0)
one_common rows (Ok a) (Err d) x y = absurd (x.1 d y.clash)
one_common rows (Err c) (Ok b) x y = absurd (y.1 c x.clash)
one_common rows (Err c) (Err d) x y = ap Err (least_is_one rows c d x y)
