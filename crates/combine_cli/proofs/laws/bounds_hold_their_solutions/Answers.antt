use Rattle.combine_cli.proofs.laws.bounds_hold_their_solutions.Goals as goal

pub returns-clause-rows : goal.returns-clause-rows
returns-clause-rows c = λ n t scale x0 p S v i certified lies solves below. certified.between S v lies solves i below

pub returns-clause-solvable : goal.returns-clause-solvable
returns-clause-solvable c = λ n t scale x0 p S certified lies. certified.solvable S lies
