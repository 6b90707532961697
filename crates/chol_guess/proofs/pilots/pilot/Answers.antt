use Rattle.std.proofs.lemmas.Result.{IfOk-weaker, IfErr-weaker, err_from_is_err_and}
use Rattle.whole_numbers.specs.Squares.{square_at}
use Rattle.chol_guess.specs.Midpoints.{midpoints}
use Rattle.chol_guess.proofs.Makings.{pilot_of_square, refused_of_square, factor_refused}
use Rattle.chol_guess.proofs.pilots.pilot.Goals as goal

pub returns-in_err-f-clause-refused : goal.returns-in_err-f-clause-refused
returns-in_err-f-clause-refused g c =
    let a = c.args.w.now.a in
    let s = c.in_ok-midpoints.midpoints in
    let same = err_from_is_err_and c.from_residual-in_err-f.result c.from_residual-in_err-f.ensures.1 in
    rw (same.1, same.2) (factor_refused a.size s.size (midpoints a) (square_at s) c.in_err-f.field-0.0 c.in_ok-midpoints.ensures.size c.in_ok-midpoints.ensures.numbers c.in_err-f.ensures.refused)

pub returns-clause-value : goal.returns-clause-value
returns-clause-value g c =
    let a = c.args.w.now.a in
    let s = c.in_ok-midpoints.midpoints in
    let f = c.in_ok-f.f in
    IfOk-weaker c.pilot_of.result _ _ (λ p. pilot_of_square a.size s.size f.size (midpoints a) (square_at s) (square_at f) p c.in_ok-midpoints.ensures.size c.in_ok-f.ensures.size c.in_ok-midpoints.ensures.numbers c.in_ok-f.ensures.columns) c.pilot_of.ensures.value

pub returns-clause-refused : goal.returns-clause-refused
returns-clause-refused g c =
    let a = c.args.w.now.a in
    let s = c.in_ok-midpoints.midpoints in
    let f = c.in_ok-f.f in
    IfErr-weaker c.pilot_of.result _ _ (λ e. refused_of_square a.size s.size f.size (midpoints a) (square_at s) (square_at f) e c.in_ok-midpoints.ensures.size c.in_ok-f.ensures.size c.in_ok-midpoints.ensures.numbers c.in_ok-f.ensures.columns) c.pilot_of.ensures.refused
