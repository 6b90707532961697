-- Worked values, at which the laws of src/laws.rt tie the definitions.
use Rattle.std.specs.Prelude.{◌∷◌, ℕ, ℤ, pos, negsuc, [], Some, None, List, codes, if◌then◌else◌}
use Rattle.decimal_e.specs.Decimals.{Decimal}
use Rattle.snx_epoch.specs.declared.Epoch.TheVariants.{Never}
use Rattle.param_ids.specs.Plain.{PlainId}
use Rattle.param_ids.specs.Order.{is_same_id}
use Rattle.snx_rows.specs.declared.rows.Row.{Row}
use Rattle.snx_matrices.specs.declared.elements.Content.TheVariants.{Info}
use Rattle.snx_blocks.specs.Documents.{PlainDoc, empty_doc}
use Rattle.control_doc.specs.Plain.{PlainPlan}
use Rattle.control_doc.specs.Single.{alone_plan}
use Rattle.control_doc.specs.declared.plans.Held.TheVariants.{Sigma}
use Rattle.neq_stack.specs.Systems.{NamedSystem}
use Rattle.run_inputs.specs.Inputs.{PlainInput}
use Rattle.bounds_report.specs.declared.numbers.Printed.{Printed}

-- .1E+01, .4E+04 and .25
abbrev pub one : Decimal
one = record { mant = pos 1; exp = pos 0 }

abbrev pub four_thousand : Decimal
four_thousand = record { mant = pos 4; exp = pos 3 }

abbrev pub quarter : Decimal
quarter = record { mant = pos 25; exp = negsuc 1 }

-- STAX of the station ABCD, point A, solution 1, of no moment
abbrev pub worked_name : PlainId
worked_name = record { kind = codes "STAX  "; code = codes "ABCD"; point = codes "A "; soln = codes "1   "; epoch = Never }

-- the row of that name with this value
abbrev pub worked_row : Decimal → Row
worked_row value = record { index = 1; id = worked_name; unit = codes "m   "; value = value; dev = None; line = 3 }

-- .5, and a whole number
abbrev pub half : Decimal
half = record { mant = pos 5; exp = negsuc 0 }

abbrev pub whole : ℕ → Decimal
whole n = record { mant = pos n; exp = pos 0 }

-- 1.3
abbrev pub one_and_three_tenths : Decimal
one_and_three_tenths = record { mant = pos 13; exp = negsuc 0 }

-- a normal equation N (x - value) = b
abbrev pub equation : Decimal → Decimal → Decimal → PlainDoc
equation value matrix vector = record empty_doc {
  apriori = Some (worked_row value ∷ []);
  vector = Some (worked_row vector ∷ []);
  normal_matrix = Some (record { content = Info; cells = record { row = 0; col = 0; value = matrix } ∷ [] });
}

-- the normal equation .4E+04 (x - .1E+01) = .25
abbrev pub worked_document : PlainDoc
worked_document = equation one four_thousand quarter

-- a file that is taken with this weight, and of which nothing else is said
abbrev pub weighing : Decimal → PlainPlan
weighing weight = record (alone_plan (codes "in")) { weight = weight }

-- the same as whole numbers over 4, by name
abbrev pub at_worked : PlainId → ℤ → ℤ
at_worked id value = if is_same_id worked_name id then value else pos 0

abbrev pub worked_system : NamedSystem
worked_system = record { q = 4; a = λ one other. at_worked one (at_worked other (pos 16000)); c = λ id. at_worked id (pos 1) }

-- a file of this name with the normal equation matrix (x - value) = vector
abbrev pub worked_file : List ℕ → Decimal → ℕ → ℕ → PlainInput
worked_file name value matrix vector = record { plan = alone_plan name; size = 0; doc = equation value (whole matrix) (whole vector) }

-- 1.5
abbrev pub one_and_half : Decimal
one_and_half = record { mant = pos 15; exp = negsuc 0 }

-- a solution with the estimate 1.5, the information matrix 5 and the a priori value .1E+01, of the standard deviation .5; and a file of
-- which the constraints of the standard deviations are removed
abbrev pub worked_solution : PlainDoc
worked_solution = record empty_doc {
  apriori = Some (record (worked_row one) { dev = Some half } ∷ []);
  estimates = Some (worked_row one_and_half ∷ []);
  estimate_matrix = Some (record { content = Info; cells = record { row = 0; col = 0; value = whole 5 } ∷ [] });
}

abbrev pub freed_of_sigmas : PlainPlan
freed_of_sigmas = record (alone_plan (codes "in")) { held = Sigma }

-- a printed row with these bounds, in units of 10^-16
abbrev pub bounded_by : ℤ → ℤ → Printed
bounded_by lower upper = record { estimate = lower; lower = lower; upper = upper; residual = 0; place = pos 0; deviation = 0; deviation_place = pos 0 }
