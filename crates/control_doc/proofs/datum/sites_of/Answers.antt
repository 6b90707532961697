use Rattle.std.proofs.Common.{◌≡◌, ◌∷◌, ◌++◌, ◌+◌, ◌∙◌, map, drop, get_or, List, [], ℕ, Some, Bor, Vec, Global, sym, ap, arith}
use Rattle.std.proofs.lemmas.Grind.{common_steps}
use Rattle.std.proofs.lemmas.List.{drop_more}
use Rattle.control_doc.specs.Control as spec
use Rattle.control_doc.proofs.Items.{before}
use Rattle.control_doc.proofs.SiteLists.{sites_more}
use Rattle.control_doc.proofs.datum.sites_of.Goals as goal

abbrev see : Vec (Bor (List ℕ)) Global → List (List ℕ)
see texts = map (λ text. text.now) texts.items

pub lists-preserved : goal.lists-preserved
lists-preserved c =
    let ts = c.args.lists.now in
    let i = c.lists.texts-index in
    let texts = c.texts-item.result in
    let at : get_or ts i texts ≡ texts = grind (arith, common_steps) in
    let whole : drop i ts ≡ texts ∷ drop (i + 1) ts = drop_more ts i texts c.lists-test.true ∙ ap (λ x. x ∷ drop (i + 1) ts) at in
    let found : spec.site_of (see texts) ≡ Some c.in-Some.site = grind (arith, common_steps) in
    let grown : c.push.new.self.items ≡ c.lists.sites.items ++ (c.in-Some.site ∷ []) = c.in_ok-push.ensures.items in
    ap (λ items. before items (spec.sites_of (map see (drop (i + 1) ts)))) grown ∙ sym (sites_more c.lists.sites.items (see texts) c.in-Some.site (map see (drop (i + 1) ts)) found)
    ∙ ap (λ l. before c.lists.sites.items (spec.sites_of (map see l))) (sym whole) ∙ c.lists.invariant
