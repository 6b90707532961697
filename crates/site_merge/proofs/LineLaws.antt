-- The first line of each site, line by line, and the list of these lines.
use Rattle.std.proofs.Common.{◌≡◌, ◌∷◌, ◌++◌, ◌∙◌, Bool, true, false, cond, List, [], Option, Some, None, map, refl, sym, ap, subst}
use Rattle.std.specs.Prelude.{find}
use Rattle.std.specs.Borrow.{Bor}
use Rattle.std.specs.BTreeMap.{IsOrdered, get, values}
use Rattle.std.specs.Option.{is_some, option_or, option_map}
use Rattle.std.specs.Ordering.{is_eq}
use Rattle.std.proofs.lemmas.Cmp.{eq_by_cmp_equiv, tied_itself}
use Rattle.std.proofs.lemmas.List.Folds.{find-append}
use Rattle.std.proofs.lemmas.Map.Views.{tells_apart}
use Rattle.snx_sites.specs.Plain.{PlainSite}
use Rattle.snx_sites.specs.Views.{site_view}
use Rattle.snx_sites.specs.declared.sites.SiteRow.{SiteRow}
use Rattle.site_merge.specs.Keyed.{LineMap, HasFirstLines, site_name, site_name_cmp, is_line_of}
use Rattle.site_merge.specs.Merged.{AreMergedSites, IsFirstLine}
use Rattle.site_merge.specs.declared.names.SiteName.{SiteName}
use Rattle.site_merge.proofs.Listed.{listed_in_order, listed_all}
use Rattle.site_merge.proofs.NameOrders.{site_name_total, site_name_exact}

abbrev pub shown : Bor SiteRow → PlainSite
shown line = site_view line.now

-- what is found passes
pub found_passes : {X : Type 0} (p : X → Bool) (xs : List X) (x : X) → find p xs ≡ Some x → p x ≡ true
found_passes p [] x found = absurd (cc)
found_passes p (first ∷ rest) x found = by_test (p first) refl found (found_passes p rest x)
  where
    by_test : (b : Bool) → p first ≡ b → cond b (Some first) (find p rest) ≡ Some x → (find p rest ≡ Some x → p x ≡ true) → p x ≡ true
    by_test true e h later = let same : first ≡ x = cc in ap p (sym same) ∙ e
    by_test false e h later = later h

-- ---- one more line
or_none : {X : Type 0} (o : Option X) → option_or o None ≡ o
or_none None = refl
or_none (Some x) = refl

module _ (before : List PlainSite) (line : PlainSite) (name : SiteName) where
  push : find (is_line_of name) (before ++ line ∷ []) ≡ option_or (find (is_line_of name) before) (cond (is_line_of name line) (Some line) None)
  push = find-append (is_line_of name) before (line ∷ [])

  push_apart : is_line_of name line ≡ false → find (is_line_of name) (before ++ line ∷ []) ≡ find (is_line_of name) before
  push_apart e = push ∙ ap (λ b. option_or (find (is_line_of name) before) (cond b (Some line) None)) e ∙ or_none (find (is_line_of name) before)

  push_known : (first : PlainSite) → find (is_line_of name) before ≡ Some first → find (is_line_of name) (before ++ line ∷ []) ≡ Some first
  push_known first known = push ∙ ap (λ o. option_or o (cond (is_line_of name line) (Some line) None)) known

  push_new : is_line_of name line ≡ true → find (is_line_of name) before ≡ None → find (is_line_of name) (before ++ line ∷ []) ≡ Some line
  push_new e none = push ∙ ap (λ o. option_or o (cond (is_line_of name line) (Some line) None)) none ∙ ap (λ b. cond b (Some line) None) e

named : (name : SiteName) (line : PlainSite) → is_line_of name line ≡ true → name ≡ site_name line
named name line e = tells_apart site_name_exact name (site_name line) e

module _ (table : LineMap) (before : List PlainSite) (firsts : HasFirstLines table before) where
  -- the site has a line
  stays : (line : PlainSite) (o : Option (Bor SiteRow)) → get site_name_cmp table (site_name line) ≡ o → is_some o ≡ true → HasFirstLines table (before ++ line ∷ [])
  stays line None is some name = let f : false ≡ true = some in cc
  stays line (Some known) is some name = by_test (is_line_of name line) refl
    where
      by_test : (b : Bool) → is_line_of name line ≡ b → option_map shown (get site_name_cmp table name) ≡ find (is_line_of name) (before ++ line ∷ [])
      by_test true e =
          let had : option_map shown (get site_name_cmp table name) ≡ Some (shown known) = ap (λ n. option_map shown (get site_name_cmp table n)) (named name line e) ∙ ap (option_map shown) is in
          had ∙ sym (push_known before line name (shown known) (sym (firsts name) ∙ had))
      by_test false e = firsts name ∙ sym (push_apart before line name e)

  pub lines_stay : (line : PlainSite) → is_some (get site_name_cmp table (site_name line)) ≡ true → HasFirstLines table (before ++ line ∷ [])
  lines_stay line some = stays line (get site_name_cmp table (site_name line)) refl some

  -- the site has none, and the map is given this one
  adds : (line : Bor SiteRow) (after : LineMap) (o : Option (Bor SiteRow)) → get site_name_cmp table (site_name (shown line)) ≡ o → is_some o ≡ false
      → ((q : SiteName) → get site_name_cmp after q ≡ cond (is_eq (site_name_cmp (site_name (shown line)) q)) (Some line) (get site_name_cmp table q)) → HasFirstLines after (before ++ shown line ∷ [])
  adds line after (Some known) is none puts name = let f : true ≡ false = none in cc
  adds line after None is none puts name = by_test (is_eq (site_name_cmp (site_name (shown line)) name)) refl
    where
      by_test : (b : Bool) → is_eq (site_name_cmp (site_name (shown line)) name) ≡ b → option_map shown (get site_name_cmp after name) ≡ find (is_line_of name) (before ++ shown line ∷ [])
      by_test true e =
          let same : site_name (shown line) ≡ name = tells_apart site_name_exact (site_name (shown line)) name e in
          let here : is_line_of name (shown line) ≡ true = subst (λ n. is_line_of n (shown line) ≡ true) same (ap is_eq (tied_itself site_name_total (site_name (shown line)))) in
          let had : option_map shown (get site_name_cmp table name) ≡ None = ap (λ n. option_map shown (get site_name_cmp table n)) (sym same) ∙ ap (option_map shown) is in
          ap (option_map shown) (puts name ∙ ap (λ b. cond b (Some line) (get site_name_cmp table name)) e) ∙ sym (push_new before (shown line) name here (sym (firsts name) ∙ had))
      by_test false e =
          let apart : is_line_of name (shown line) ≡ false = (eq_by_cmp_equiv site_name_total).symm name (site_name (shown line)) ∙ e in
          ap (option_map shown) (puts name ∙ ap (λ b. cond b (Some line) (get site_name_cmp table name)) e) ∙ firsts name ∙ sym (push_apart before (shown line) name apart)

  pub lines_more : (line : Bor SiteRow) (after : LineMap) → is_some (get site_name_cmp table (site_name (shown line))) ≡ false
      → ((q : SiteName) → get site_name_cmp after q ≡ cond (is_eq (site_name_cmp (site_name (shown line)) q)) (Some line) (get site_name_cmp table q)) → HasFirstLines after (before ++ shown line ∷ [])
  lines_more line after none puts = adds line after (get site_name_cmp table (site_name (shown line))) refl none puts

-- ---- the lines of the map
module _ (all : List PlainSite) (table : LineMap) (ordered : IsOrdered site_name_cmp table) (firsts : HasFirstLines table all) where
  of_key : (name : SiteName) (line : Bor SiteRow) → get site_name_cmp table name ≡ Some line → (site_name (shown line) ≡ name) × IsFirstLine all (shown line)
  of_key name line is =
      let found : find (is_line_of name) all ≡ Some (shown line) = sym (firsts name) ∙ ap (option_map shown) is in
      let same = named name (shown line) (found_passes (is_line_of name) all (shown line) found) in
      (sym same, subst (λ n. find (is_line_of n) all ≡ Some (shown line)) same found)

  of_line : (line : PlainSite) → IsFirstLine all line → (known : Bor SiteRow) × (get site_name_cmp table (site_name line) ≡ Some known) × (shown known ≡ line)
  of_line line is = by_option (get site_name_cmp table (site_name line)) refl (firsts (site_name line) ∙ is)
    where
      by_option : (o : Option (Bor SiteRow)) → get site_name_cmp table (site_name line) ≡ o → option_map shown o ≡ Some line → (known : Bor SiteRow) × (get site_name_cmp table (site_name line) ≡ Some known) × (shown known ≡ line)
      by_option None e same = absurd (cc)
      by_option (Some known) e same = (known, e, cc)

  pub lines_listed : AreMergedSites all (map shown (values table))
  lines_listed = record {
    rising = listed_in_order site_name_cmp site_name_total site_name_exact table ordered shown site_name (IsFirstLine all) of_key of_line;
    firsts = listed_all site_name_cmp site_name_total site_name_exact table ordered shown site_name (IsFirstLine all) of_key of_line;
  }
