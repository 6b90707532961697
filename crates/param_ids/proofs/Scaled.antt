-- What a table of scales holds after a change, as a map.
use Rattle.std.proofs.Common.{◌≡◌, ◌≤◌, ◌<◌, ◌+◌, ℕ, ℤ, pos, List, [], ◌∷◌, Bool, true, false, cond, Option, Some, None, Result, Ok, Err, OnOk, IfSome, IsNone, is_some, arith, refl, sym, ap, ◌∙◌, subst}
use Rattle.std.proofs.lemmas.Int.{ints}
use Rattle.std.specs.Prelude.{unwrap_or, codes}
use Rattle.std.specs.Result.{is_err}
use Rattle.std.specs.Ordering.{nat_cmp, eq_by_cmp}
use Rattle.std.specs.Cmp.Lexicographic.{slice_cmp}
use Rattle.std.specs.BTreeMap.{BTreeMap, get, Updates, IsEmpty, is_at}
use Rattle.std.specs.Map.{lookup}
use Rattle.std.proofs.lemmas.Cmp.{eq_by_cmp_equiv}
use Rattle.std.specs.FinMap as map
use Rattle.std.proofs.lemmas.Bool.{both_ways, cond_both, cond-false}
use Rattle.std.proofs.lemmas.Cmp.{nat_list_cmp_total}
use Rattle.param_ids.specs.Tables.{ScaleMap, IsScaleMap, IsScale, scale_in, standard_scales}

-- a table as the map that it shows
abbrev pub shown : BTreeMap (List ℕ) ℤ → ScaleMap
shown table = map.from_entries table.entries

find_is : (q : List ℕ) (es : List (List ℕ × ℤ)) → map.find (slice_cmp nat_cmp) q es ≡ lookup (is_at (slice_cmp nat_cmp q)) es
find_is q [] = refl
find_is q (e ∷ es) = ap (λ o. cond (eq_by_cmp (slice_cmp nat_cmp) q e.0) (Some e.1) o) (find_is q es)

pub get_shown : (table : BTreeMap (List ℕ) ℤ) (q : List ℕ) → map.get (shown table) q ≡ get (slice_cmp nat_cmp) table q
get_shown table q = map.get-from_entries nat_list_cmp_total table.entries q ∙ find_is q table.entries

-- a map that has the new pair, and else what the old one has, is the old one with the pair inserted
pub shown_inserted : (old new : BTreeMap (List ℕ) ℤ) (kind : List ℕ) (t : ℤ) → Updates (slice_cmp nat_cmp) old new kind (Some t) → shown new ≡ map.insert (shown old) kind t
shown_inserted old new kind t updates =
    map.same_map nat_list_cmp_total (map.slice_cmp-IsAntisymmetric map.nat_cmp-IsAntisymmetric) (shown new) (map.insert (shown old) kind t) (λ q.
    get_shown new q ∙ (updates.0 q ∙ sym (map.get-insert nat_list_cmp_total (shown old) kind t q
    ∙ (ap (λ b. cond b (Some t) (map.get (shown old) q)) ((eq_by_cmp_equiv nat_list_cmp_total).symm q kind) ∙ ap (λ o. cond (eq_by_cmp (slice_cmp nat_cmp) kind q) (Some t) o) (get_shown old q)))))

pub shown_empty : (table : BTreeMap (List ℕ) ℤ) → IsEmpty table → shown table ≡ map.empty
shown_empty table none = ap (λ es. map.from_entries es) none

-- a pair more, where there is room for it
pub is_scale_map_after : (scales : ScaleMap) (kind : List ℕ) (t : ℤ) → IsScaleMap scales → (IsNone (map.get scales kind) → map.len scales < 64) → IsScale t → IsScaleMap (map.insert scales kind t)
is_scale_map_after scales kind t before room range = record {
  few = rw (map.len-insert nat_list_cmp_total scales kind t) (by_room (map.get scales kind) room);
  in_range = λ q. subst (λ o. IfSome o IsScale) (sym (map.get-insert nat_list_cmp_total scales kind t q)) (by_test (eq_by_cmp (slice_cmp nat_cmp) q kind) (map.get scales q) (before.in_range q));
}
  where
    by_room : (o : Option ℤ) → (IsNone o → map.len scales < 64) → cond (is_some o) (map.len scales) (map.len scales + 1) ≤ 64
    by_room None some = let lt : map.len scales < 64 = some refl in omega arith
    by_room (Some v) some = before.few

    by_test : (b : Bool) (o : Option ℤ) → IfSome o IsScale → IfSome (cond b (Some t) o) IsScale
    by_test true o h = range
    by_test false o h = h

-- the number of a type is in range too where it has none
pub scale_in_range : (scales : ScaleMap) (kind : List ℕ) → IsScaleMap scales → IsScale (scale_in scales kind)
scale_in_range scales kind is = by_found (map.get scales kind) (is.in_range kind)
  where
    by_found : (o : Option ℤ) → IfSome o IsScale → IsScale (unwrap_or o (pos 0))
    by_found None h = (omega (arith, ints), omega (arith, ints))
    by_found (Some t) h = h

pub at_ok : {X E : Type 0} (r : Result X E) (P : Type 0) → OnOk r P → is_err r ≡ false → P
at_ok (Ok x) P p e = p
at_ok (Err y) P p e = absurd (both_ways true e refl)

-- what an insertion that did not fail shows
pub shown_after : {X E : Type 0} (r : Result X E) (old new : BTreeMap (List ℕ) ℤ) (kind : List ℕ) (s t : ℤ) → s ≡ t → OnOk r (Updates (slice_cmp nat_cmp) old new kind (Some s)) → is_err r ≡ false → shown new ≡ map.insert (shown old) kind t
shown_after r old new kind s t same updates fine =
    shown_inserted old new kind t (subst (λ v. Updates (slice_cmp nat_cmp) old new kind (Some v)) same (at_ok r (Updates (slice_cmp nat_cmp) old new kind (Some s)) updates fine))

-- the standard has two types
pub standard_len : map.len standard_scales ≡ 2
standard_len =
    map.len-insert nat_list_cmp_total (map.insert map.empty (codes "RS_RA ") (pos 6)) (codes "RS_DE ") (pos 6) ∙ (cond-false _ _ _ other ∙ (ap (λ n. n + 1) (map.len-insert nat_list_cmp_total map.empty (codes "RS_RA ") (pos 6) ∙ (cond-false _ _ _ none ∙ ap (λ n. n + 1) (map.len-empty (slice_cmp nat_cmp) ℤ)))))
  where
    none : map.contains_key (map.empty {X = ℤ} {R = slice_cmp nat_cmp}) (codes "RS_RA ") ≡ false
    none = ap is_some (map.get-empty (slice_cmp nat_cmp) (codes "RS_RA "))

    other : map.contains_key (map.insert (map.empty {X = ℤ} {R = slice_cmp nat_cmp}) (codes "RS_RA ") (pos 6)) (codes "RS_DE ") ≡ false
    other = ap is_some (map.get-insert nat_list_cmp_total map.empty (codes "RS_RA ") (pos 6) (codes "RS_DE ") ∙ map.get-empty (slice_cmp nat_cmp) (codes "RS_DE "))

-- the standard holds what a table of scales may
pub standard_is_scale_map : IsScaleMap standard_scales
standard_is_scale_map =
    is_scale_map_after (map.insert map.empty (codes "RS_RA ") (pos 6)) (codes "RS_DE ") (pos 6)
    (is_scale_map_after map.empty (codes "RS_RA ") (pos 6) none_is (λ _. rw (map.len-empty (slice_cmp nat_cmp) ℤ) (omega arith)) six)
    (λ _. rw (map.len-insert nat_list_cmp_total map.empty (codes "RS_RA ") (pos 6)) (rw (map.len-empty (slice_cmp nat_cmp) ℤ) (cond_both _ 0 (0 + 1) (λ n. n < 64) (λ _. omega arith) (λ _. omega arith)))) six
  where
    six : IsScale (pos 6)
    six = (omega (arith, ints), omega (arith, ints))

    none_is : IsScaleMap map.empty
    none_is = record {
      few = rw (map.len-empty (slice_cmp nat_cmp) ℤ) (omega arith);
      in_range = λ kind. rw (map.get-empty (slice_cmp nat_cmp) kind) tt;
    }
