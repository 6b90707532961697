-- A line of sites or of moments says one thing at most or has one fault, and never both; so has a block of them.
use Rattle.std.proofs.Common.{◌≡◌, ◌∙◌, ℕ, List, [], sym}
use Rattle.stated_order.specs.Steps.{IsOne}
use Rattle.stated_order.proofs.StepLaws.{then_is_one, renamed_is_one, in_turn_is_one}
use Rattle.snx_lines.specs.Lines.{PlainLine, columns}
use Rattle.snx_epoch.specs.Moments.{epoch_in}
use Rattle.snx_rows.specs.Rows.{fault_at}
use Rattle.snx_rows.specs.declared.causes.Cause.TheVariants as causes
use Rattle.snx_sites.specs.Sites.{IsMomentIn, IsSiteOn, IsSite, AreMomentsOn, IsEpochRow, OneSites, OneEpochs}

-- ---- sites
site_on_is_one : (text : List ℕ) → IsOne (IsSiteOn text)
site_on_is_one text = then_is_one _ _ (λ r s a b. a ∙ sym b) (λ code of_code. then_is_one _ _ (λ r s a b. a ∙ sym b) (λ point of_point r s a b. a ∙ sym b))

site_is_one : (line : PlainLine) → IsOne (IsSite line)
site_is_one line = renamed_is_one (fault_at line.number) (IsSiteOn line.text) (site_on_is_one line.text)

pub sites_are_one : OneSites
sites_are_one lines = in_turn_is_one (λ before. IsSite) (λ before. site_is_one) [] lines

-- ---- moments
moment_is_one : (first last : ℕ) (text : List ℕ) → IsOne (IsMomentIn first last text)
moment_is_one first last text = renamed_is_one (λ fault. causes.Epoch fault) (λ moment. moment ≡ epoch_in (columns text first last)) (λ r s a b. a ∙ sym b)

moments_on_are_one : (text : List ℕ) → IsOne (AreMomentsOn text)
moments_on_are_one text =
    then_is_one _ _ (λ r s a b. a ∙ sym b) (λ code of_code.
    then_is_one _ _ (λ r s a b. a ∙ sym b) (λ point of_point.
    then_is_one _ _ (λ r s a b. a ∙ sym b) (λ soln of_soln.
    then_is_one _ _ (λ r s a b. a ∙ sym b) (λ technique of_technique.
    then_is_one _ _ (moment_is_one 17 28 text) (λ start of_start.
    then_is_one _ _ (moment_is_one 30 41 text) (λ end of_end.
    then_is_one _ _ (moment_is_one 43 54 text) (λ mean of_mean r s a b. a ∙ sym b)))))))

epoch_row_is_one : (line : PlainLine) → IsOne (IsEpochRow line)
epoch_row_is_one line = renamed_is_one (fault_at line.number) (AreMomentsOn line.text) (moments_on_are_one line.text)

pub epochs_are_one : OneEpochs
epochs_are_one lines = in_turn_is_one (λ before. IsEpochRow) (λ before. epoch_row_is_one) [] lines
