use Rattle.std.proofs.Common.{◌++◌, ◌∷◌, [], codes, map, length}
use Rattle.control_doc.specs.Views.{control_view}
use Rattle.neq_stack.specs.Neqs.{neq_view}
use Rattle.site_merge.specs.Answers.{sites_view}
use Rattle.snx_write.specs.Combined.{first_line, reference_block, comment_block, site_block, moments_block, statistics_block, estimate_block, apriori_block, vector_block, matrix_block}
use Rattle.snx_write.proofs.Lines.{more_lines}
use Rattle.snx_write.proofs.whole.combined.Goals as goal

pub returns : goal.returns
returns g c =
    let control = control_view c.args.control.now in
    let sites = sites_view c.args.sites.now in
    let neq = neq_view c.args.free.now in
    let count = length neq.names in
    let first = first_line control sites.epochs count ∷ [] in
    let references = reference_block control.header in
    let comments = comment_block (map (λ file. file.now) c.args.files.now) in
    let lines = site_block sites.lines in
    let moments = moments_block sites.epochs in
    let statistics = statistics_block count in
    let estimates = estimate_block control.datum neq c.args.rows.now in
    let apriori = apriori_block control.datum neq in
    let vector = vector_block control.datum neq in
    let matrix = matrix_block neq in
    let end = codes "%ENDSNX" ∷ [] in
    let after_vector = matrix ++ end in
    let after_apriori = vector ++ after_vector in
    let after_estimates = apriori ++ after_apriori in
    let after_statistics = estimates ++ after_estimates in
    let after_moments = statistics ++ after_statistics in
    let after_sites = moments ++ after_moments in
    let after_comments = lines ++ after_sites in
    let after_references = comments ++ after_comments in
    more_lines first (references ++ after_references) [] _ _ (rw (c.in_ok-text.ensures.items, c.deref.ensures.value, c.len-count.ensures.value) at c.in_ok-push_first_line.ensures)
    (more_lines references after_references _ _ _ c.in_ok-push_references.ensures
    (more_lines comments after_comments _ _ _ c.in_ok-push_comments.ensures
    (more_lines lines after_sites _ _ _ (rw c.deref-2.ensures.value at c.in_ok-push_sites.ensures)
    (more_lines moments after_moments _ _ _ (rw c.deref-3.ensures.value at c.in_ok-push_moments.ensures)
    (more_lines statistics after_statistics _ _ _ (rw c.len-count.ensures.value at c.in_ok-push_statistics.ensures)
    (more_lines estimates after_estimates _ _ _ c.in_ok-push_estimates.ensures
    (more_lines apriori after_apriori _ _ _ c.in_ok-push_apriori.ensures
    (more_lines vector after_vector _ _ _ c.in_ok-push_vector.ensures
    (more_lines matrix end _ _ _ c.in_ok-push_matrix.ensures c.in_ok-push_line.ensures)))))))))
