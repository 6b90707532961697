-- What all rows of each solution make, row by row, and the list of these.
use Rattle.std.proofs.Common.{◌≡◌, ◌∷◌, ◌++◌, ◌∙◌, Bool, true, false, cond, List, [], Option, Some, None, refl, sym, ap, subst}
use Rattle.std.specs.Prelude.{filter, find}
use Rattle.std.specs.BTreeMap.{IsOrdered, get, values}
use Rattle.std.specs.Option.{option_or}
use Rattle.std.specs.Ordering.{is_eq}
use Rattle.std.proofs.lemmas.Cmp.{eq_by_cmp_equiv, tied_itself}
use Rattle.std.proofs.lemmas.List.{append-nil, map-append, map-id}
use Rattle.std.proofs.lemmas.List.Elements.{All-nil, filter-append}
use Rattle.std.proofs.lemmas.List.Folds.{find-append}
use Rattle.std.proofs.lemmas.Map.Views.{tells_apart}
use Rattle.snx_epoch.specs.Moments.{IsMiddleOf}
use Rattle.snx_epoch.specs.declared.Epoch.{Epoch}
use Rattle.snx_epoch.specs.declared.Epoch.TheVariants.{Never}
use Rattle.snx_sites.specs.Plain.{PlainEpochRow}
use Rattle.site_merge.specs.Keyed.{EpochMap, HasMergedRows, IsMergedAt, IsWithMean, is_row_of, joined_to, solution_name, solution_name_cmp}
use Rattle.site_merge.specs.Merged.{AreMergedEpochs, IsEarliest, IsLatest, IsMergedOf, earlier, ends, is_same_solution, later, rows_like, starts}
use Rattle.site_merge.specs.declared.names.SolutionName.{SolutionName}
use Rattle.site_merge.proofs.Listed.{listed_in_order, listed_all}
use Rattle.site_merge.proofs.MiddleLaws.{one_middle}
use Rattle.site_merge.proofs.MomentLaws.{earliest_more, latest_more, later_never, one_earliest, one_latest}
use Rattle.site_merge.proofs.NameOrders.{solution_name_total, solution_name_exact}

-- ---- names of rows
ties : (a b : SolutionName) → is_eq (solution_name_cmp a b) ≡ true → a ≡ b
ties a b e = tells_apart solution_name_exact a b e

tied : (a : SolutionName) → is_eq (solution_name_cmp a a) ≡ true
tied a = ap is_eq (tied_itself solution_name_total a)

turned : (a b : SolutionName) → is_eq (solution_name_cmp a b) ≡ is_eq (solution_name_cmp b a)
turned a b = (eq_by_cmp_equiv solution_name_total).symm a b

-- ---- one more row
-- where none is found, none passes
none_pass : {X : Type 0} (p : X → Bool) (xs : List X) → find p xs ≡ None → filter p xs ≡ []
none_pass p [] none = refl
none_pass p (x ∷ xs) none = by_test (p x) refl none (none_pass p xs)
  where
    by_test : (b : Bool) → p x ≡ b → cond b (Some x) (find p xs) ≡ None → (find p xs ≡ None → filter p xs ≡ []) → cond b (x ∷ filter p xs) (filter p xs) ≡ []
    by_test true e h later = absurd (cc)
    by_test false e h later = later h

module _ (before : List PlainEpochRow) (x : PlainEpochRow) where
  first_push : (p : PlainEpochRow → Bool) → find p (before ++ x ∷ []) ≡ option_or (find p before) (cond (p x) (Some x) None)
  first_push p = find-append p before (x ∷ [])

  first_stays : (p : PlainEpochRow → Bool) (first : PlainEpochRow) → find p before ≡ Some first → find p (before ++ x ∷ []) ≡ Some first
  first_stays p first is = first_push p ∙ ap (λ o. option_or o (cond (p x) (Some x) None)) is

  first_new : (p : PlainEpochRow → Bool) → find p before ≡ None → (b : Bool) → p x ≡ b → find p (before ++ x ∷ []) ≡ cond b (Some x) None
  first_new p none b e = first_push p ∙ ap (λ o. option_or o (cond (p x) (Some x) None)) none ∙ ap (λ c. cond c (Some x) None) e

  rows_apart : (p : PlainEpochRow → Bool) → p x ≡ false → filter p (before ++ x ∷ []) ≡ filter p before
  rows_apart p e = filter-append p before (x ∷ []) ∙ ap (λ b. filter p before ++ cond b (x ∷ []) []) e ∙ append-nil (filter p before)

  rows_push : (p : PlainEpochRow → Bool) → p x ≡ true → filter p (before ++ x ∷ []) ≡ filter p before ++ x ∷ []
  rows_push p e = filter-append p before (x ∷ []) ∙ ap (λ b. filter p before ++ cond b (x ∷ []) []) e

  -- of another solution
  merged_apart : (row : PlainEpochRow) → is_same_solution row x ≡ false → IsMergedOf before row → IsMergedOf (before ++ x ∷ []) row
  merged_apart row e h =
      let same = rows_apart (is_same_solution row) e in
      record {
        first = h.first;
        is_first = first_stays (is_same_solution row) h.first h.is_first;
        technique = h.technique;
        start = subst (λ l. IsEarliest (starts l) row.start) (sym same) h.start;
        end = subst (λ l. IsLatest (ends l) row.end) (sym same) h.end;
        mean = h.mean;
      }

  -- of a solution with rows before it
  merged_more : (old : PlainEpochRow) (mean : Epoch) → is_same_solution old x ≡ true → IsMergedOf before old → IsMiddleOf (earlier old.start x.start) (later old.end x.end) mean
      → IsMergedOf (before ++ x ∷ []) (record old { start = earlier old.start x.start; end = later old.end x.end; mean = mean })
  merged_more old mean e h middle =
      let rows = filter (is_same_solution old) before in
      let same = rows_push (is_same_solution old) e in
      record {
        first = h.first;
        is_first = first_stays (is_same_solution old) h.first h.is_first;
        technique = h.technique;
        start = subst (λ l. IsEarliest l (earlier old.start x.start)) (sym (map-append (λ row. row.start) rows (x ∷ [])) ∙ ap starts (sym same)) (earliest_more (starts rows) old.start x.start h.start);
        end = subst (λ l. IsLatest l (later old.end x.end)) (sym (map-append (λ row. row.end) rows (x ∷ [])) ∙ ap ends (sym same)) (latest_more (ends rows) old.end x.end h.end);
        mean = middle;
      }

  -- of a solution without
  merged_new : (mean : Epoch) → find (is_same_solution x) before ≡ None → IsMiddleOf x.start x.end mean → IsMergedOf (before ++ x ∷ []) (record x { mean = mean })
  merged_new mean none middle =
      let here = tied (solution_name x) in
      let alone : x ∷ [] ≡ filter (is_same_solution x) (before ++ x ∷ []) = ap (λ l. l ++ x ∷ []) (sym (none_pass (is_same_solution x) before none)) ∙ sym (rows_push (is_same_solution x) here) in
      record {
        first = x;
        is_first = first_new (is_same_solution x) none true here;
        technique = refl;
        start = subst (λ l. IsEarliest (starts l) x.start) alone (earliest_more [] Never x.start (All-nil (λ other. other ≡ Never)));
        end = subst (λ m. IsLatest (ends (filter (is_same_solution x) (before ++ x ∷ []))) m) (later_never x.end) (subst (λ l. IsLatest (ends l) (later Never x.end)) alone (latest_more [] Never x.end (All-nil (λ other. other ≡ Never))));
        mean = middle;
      }

  -- what the rows of another name make
  others_stay : (name : SolutionName) (o : Option PlainEpochRow) → is_eq (solution_name_cmp (solution_name x) name) ≡ false → IsMergedAt before name o → IsMergedAt (before ++ x ∷ []) name o
  others_stay name None e h = first_new (is_row_of name) h false (turned name (solution_name x) ∙ e)
  others_stay name (Some row) e h = (h.0, merged_apart row (turned (solution_name row) (solution_name x) ∙ ap (λ n. is_eq (solution_name_cmp (solution_name x) n)) h.0 ∙ e) h.1)

  -- what those of its own make
  own_more : (o : Option PlainEpochRow) (merged : PlainEpochRow) → IsMergedAt before (solution_name x) o → IsWithMean (joined_to o x) merged → IsMergedAt (before ++ x ∷ []) (solution_name x) (Some merged)
  own_more None merged h is =
      subst (λ row. IsMergedAt (before ++ x ∷ []) (solution_name x) (Some row)) (sym is.is) (refl, merged_new merged.mean h is.middle)
  own_more (Some old) merged h is =
      subst (λ row. IsMergedAt (before ++ x ∷ []) (solution_name x) (Some row)) (sym is.is)
      (h.0, merged_more old merged.mean (ap (λ n. is_eq (solution_name_cmp n (solution_name x))) h.0 ∙ tied (solution_name x)) h.1 is.middle)

pub rows_more : (table after : EpochMap) (before : List PlainEpochRow) (x merged : PlainEpochRow) → HasMergedRows table before → IsWithMean (joined_to (get solution_name_cmp table (solution_name x)) x) merged
    → ((q : SolutionName) → get solution_name_cmp after q ≡ cond (is_eq (solution_name_cmp (solution_name x) q)) (Some merged) (get solution_name_cmp table q)) → HasMergedRows after (before ++ x ∷ [])
rows_more table after before x merged has is puts name = by_test (is_eq (solution_name_cmp (solution_name x) name)) refl
  where
    by_test : (b : Bool) → is_eq (solution_name_cmp (solution_name x) name) ≡ b → IsMergedAt (before ++ x ∷ []) name (get solution_name_cmp after name)
    by_test true e =
        let now : get solution_name_cmp after name ≡ Some merged = puts name ∙ ap (λ b. cond b (Some merged) (get solution_name_cmp table name)) e in
        subst (λ o. IsMergedAt (before ++ x ∷ []) name o) (sym now)
        (subst (λ n. IsMergedAt (before ++ x ∷ []) n (Some merged)) (ties (solution_name x) name e) (own_more before x (get solution_name_cmp table (solution_name x)) merged (has (solution_name x)) is))
    by_test false e =
        let as_before : get solution_name_cmp after name ≡ get solution_name_cmp table name = puts name ∙ ap (λ b. cond b (Some merged) (get solution_name_cmp table name)) e in
        subst (λ o. IsMergedAt (before ++ x ∷ []) name o) (sym as_before) (others_stay before x name (get solution_name_cmp table name) e (has name))

-- ---- one row
some_same : {X : Type 0} (o : Option X) (x y : X) → o ≡ Some x → o ≡ Some y → x ≡ y
some_same o x y e f = let h : Some x ≡ Some y = sym e ∙ f in cc

one_merged : (all : List PlainEpochRow) (a b : PlainEpochRow) → solution_name a ≡ solution_name b → IsMergedOf all a → IsMergedOf all b → a ≡ b
one_merged all a b name x y =
    let first = some_same (find (is_row_of (solution_name b)) all) x.first y.first (subst (λ n. find (is_row_of n) all ≡ Some x.first) name x.is_first) y.is_first in
    let technique = x.technique ∙ ap (λ (row : PlainEpochRow). row.technique) first ∙ sym y.technique in
    let start = one_earliest (starts (rows_like b all)) a.start b.start (subst (λ n. IsEarliest (starts (filter (is_row_of n) all)) a.start) name x.start) y.start in
    let end = one_latest (ends (rows_like b all)) a.end b.end (subst (λ n. IsLatest (ends (filter (is_row_of n) all)) a.end) name x.end) y.end in
    let mean = one_middle b.start b.end a.mean b.mean (subst (λ e. IsMiddleOf b.start e a.mean) end (subst (λ s. IsMiddleOf s a.end a.mean) start x.mean)) y.mean in
    λ i. record { code = (name i).code; point = (name i).point; soln = (name i).soln; technique = technique i; start = start i; end = end i; mean = mean i }

-- ---- the rows of the map
module _ (all : List PlainEpochRow) (table : EpochMap) (ordered : IsOrdered solution_name_cmp table) (has : HasMergedRows table all) where
  of_key : (name : SolutionName) (row : PlainEpochRow) → get solution_name_cmp table name ≡ Some row → (solution_name row ≡ name) × IsMergedOf all row
  of_key name row is = subst (λ o. IsMergedAt all name o) is (has name)

  of_row : (row : PlainEpochRow) → IsMergedOf all row → (v : PlainEpochRow) × (get solution_name_cmp table (solution_name row) ≡ Some v) × (v ≡ row)
  of_row row h = by_option (get solution_name_cmp table (solution_name row)) refl (has (solution_name row))
    where
      by_option : (o : Option PlainEpochRow) → get solution_name_cmp table (solution_name row) ≡ o → IsMergedAt all (solution_name row) o → (v : PlainEpochRow) × (get solution_name_cmp table (solution_name row) ≡ Some v) × (v ≡ row)
      by_option None e none = let f : None ≡ Some h.first = sym none ∙ h.is_first in absurd (cc)
      by_option (Some v) e is = (v, e, one_merged all v row is.0 is.1 h)

  pub rows_listed : AreMergedEpochs all (values table)
  rows_listed = subst (λ rows. AreMergedEpochs all rows) (map-id (values table)) (record {
    rising = listed_in_order solution_name_cmp solution_name_total solution_name_exact table ordered (λ row. row) solution_name (IsMergedOf all) of_key of_row;
    merged = listed_all solution_name_cmp solution_name_total solution_name_exact table ordered (λ row. row) solution_name (IsMergedOf all) of_key of_row;
  })
