-- The report of bounds.
use Rattle.std.specs.Prelude.{◌++◌, ◌∷◌, ◌/◌, ◌%◌, ◌-◌, ◌^◌, ℕ, ℤ, pos, negsuc, suc, List, [], length, codes, replicate, flat_map}
use Rattle.std.specs.Fmt.{decimal, signed_decimal}
use Rattle.param_ids.specs.Plain.{PlainId}
use Rattle.param_ids.specs.Labels.{label_text}
use Rattle.bounds_report.specs.declared.numbers.Printed.{Printed}
use Rattle.stack_rules.specs.Rules.{Numbers}

-- a number below 10^16 in 16 digits
abbrev pub sixteen_digits : ℕ → List ℕ
sixteen_digits n = replicate (16 - length (decimal n)) 48 ++ decimal n

-- n units of 10^-16: the whole part, a point and 16 digits
abbrev pub units_text : ℕ → List ℕ
units_text n = decimal (n / 10 ^ 16) ++ (46 ∷ sixteen_digits (n % 10 ^ 16))

abbrev pub bound_text : ℤ → List ℕ
bound_text (pos n) = units_text n
bound_text (negsuc n) = 45 ∷ units_text (suc n)

-- the line of a row: columns 1 to 44 of the parameter's row, its bounds, and the residual with its place
abbrev pub bounds_line : ℕ → PlainId → List ℕ → Printed → List ℕ
bounds_line index id unit n =
    label_text index id unit ++ (32 ∷ (bound_text n.lower ++ (32 ∷ (bound_text n.upper ++ (32 ∷ (decimal n.residual ++ (69 ∷ (signed_decimal n.place ++ codes "\n"))))))))

-- the line of the certificate: the pilot's g, the greatest defect, the greatest error, the number of rows
abbrev pub certificate_line : ℕ → ℕ → ℕ → ℕ → List ℕ
certificate_line g parts error rows =
    codes "CERT g=" ++ (decimal g ++ (codes " B=" ++ (decimal parts ++ (codes " M=" ++ (decimal error ++ (codes " N=" ++ (decimal rows ++ codes "\n")))))))

-- the lines of the rows of these names, units and numbers, from an index on
abbrev pub bounds_lines : ℕ → List PlainId → List (List ℕ) → List Printed → List (List ℕ)
bounds_lines index (id ∷ ids) (unit ∷ units) (n ∷ ns) = bounds_line index id unit n ∷ bounds_lines (suc index) ids units ns
bounds_lines index ids units ns = []

-- the whole report
abbrev pub report_text : ℕ → ℕ → ℕ → List (List ℕ) → List ℕ
report_text g parts error lines =
    codes "SNXCOMB BOUNDS 1\n" ++ (certificate_line g parts error (length lines) ++ (flat_map (λ line. line) lines ++ codes "END\n"))

-- the report of these names in order, their units and the rules' numbers
abbrev pub numbers_report : List PlainId → List (List ℕ) → Numbers → List ℕ
numbers_report names units n = report_text n.g n.parts n.error (bounds_lines 1 names units n.rows)
