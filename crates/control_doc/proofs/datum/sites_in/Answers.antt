use Rattle.std.proofs.Common.{◌≡◌, map, List, ℕ, Result, codes, Bor, Vec, Global, subst, arith}
use Rattle.std.proofs.lemmas.Grind.{common_steps}
use Rattle.toml.specs.Data.{get_member}
use Rattle.toml.specs.View.{table_view}
use Rattle.control_doc.specs.Control as spec
use Rattle.control_doc.specs.Faults.{PlainFault, and_then, or_fault}
use Rattle.control_doc.specs.Tables.{there, text_lists_at}
use Rattle.control_doc.specs.Views.{Answers}
use Rattle.control_doc.specs.declared.faults.ControlCause.TheVariants as causes
use Rattle.control_doc.specs.declared.plans.Site.{Site}
use Rattle.control_doc.proofs.datum.sites_in.Goals as goal

abbrev see : List (Vec (Bor (List ℕ)) Global) → List (List (List ℕ))
see lists = map (λ (texts : Vec (Bor (List ℕ)) Global). map (λ text. text.now) texts.items) lists

abbrev rest : List (List (List ℕ)) → Result (List Site) PlainFault
rest lists = and_then (or_fault causes.Value spec.sites_path (spec.sites_of lists)) spec.without_twice

abbrev view : Vec Site Global → List Site
view sites = sites.items

pub returns : goal.returns
returns c =
    let r = c.without_twice.result in
    let seen : c.deref.result.now ≡ c.in_ok-lists.lists.items = grind (arith, common_steps) in
    let texts : Result (List (List (List ℕ))) PlainFault = and_then (and_then (there spec.sites_path (get_member (codes "sites") (table_view c.args.table.now))) (text_lists_at spec.sites_path)) spec.site_count in
    subst (λ f. Answers view (spec.Is (and_then f (λ known. and_then texts rest))) r) c.in_ok-only_keys.ensures
    (subst (λ f. Answers view (spec.Is (and_then f rest)) r) c.in_ok-lists.ensures
    (subst (λ ls. Answers view (spec.Is (rest (see ls))) r) seen
    (subst (λ f. Answers view (spec.Is (and_then f spec.without_twice)) r) c.in_ok-sites.ensures c.without_twice.ensures)))
