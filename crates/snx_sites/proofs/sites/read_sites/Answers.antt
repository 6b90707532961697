use Rattle.std.proofs.Common.{[], ◌∷◌, ◌∙◌, Vec, Global, get_or, map, ap, refl}
use Rattle.std.proofs.lemmas.List.{map-append}
use Rattle.std.proofs.lemmas.Result.{err_from_is_err_and}
use Rattle.snx_lines.specs.Views.{line_view}
use Rattle.snx_lines.specs.declared.columns.Kind.TheVariants.{Header}
use Rattle.snx_lines.specs.declared.columns.Line.{Line}
use Rattle.snx_rows.proofs.Loops.{loop_more, loop_stops}
use Rattle.snx_sites.specs.Sites.{IsSite, AreSites}
use Rattle.snx_sites.specs.Views.{site_view}
use Rattle.snx_sites.specs.declared.sites.SiteRow.{SiteRow}
use Rattle.snx_sites.proofs.Chain.{answer_stops}
use Rattle.snx_sites.proofs.sites.read_sites.Goals as goal

pub returns-in_err-site : goal.returns-in_err-site
returns-in_err-site c =
    let from = err_from_is_err_and c.from_residual.result c.from_residual.ensures.1 in
    let lines = c.args.body.now in
    let none : Line = record { number = 0; kind = Header; text = record { ref_ptr = (0, 0); now = [] } } in
    let items = map site_view c.loop-line.sites.items in
    rw (from.1, from.2)
    (answer_stops site_view (λ (sites : Vec SiteRow Global). map site_view sites.items) (IsSite (line_view (get_or lines c.loop-line.line-index none))) (AreSites (map line_view lines)) c.in_err-site.field-0.0 c.in_err-site.ensures
    (loop_stops (λ before. IsSite) line_view lines c.loop-line.line-index none items c.loop-line-test.true c.loop-line.invariant items refl))

pub loop-line-preserved : goal.loop-line-preserved
loop-line-preserved c =
    let items = map site_view c.loop-line.sites.items in
    let same = ap (map site_view) c.in_ok-push.ensures.items ∙ map-append site_view c.loop-line.sites.items (c.in_ok-site.site ∷ []) in
    rw same
    (loop_more (λ before. IsSite) line_view c.args.body.now c.loop-line.line-index _ items c.loop-line-test.true c.loop-line.invariant items refl (site_view c.in_ok-site.site) c.in_ok-site.ensures)
