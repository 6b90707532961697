-- The combined file: a sum of normal equations, its solution, and the sites and moments of all files (SINEX 2.02 format description).
use Rattle.std.specs.Prelude.{◌++◌, ◌-◌, ◌*◌, ◌&&◌, ℕ, suc, ℤ, pos, negsuc, ◌+ℤ◌, ◌-ℤ◌, Bool, false, if◌then◌else◌, List, [], ◌∷◌, length, map, min, replicate, codes, Option, Some, None, is_some, unsigned_abs, nat_lt}
use Rattle.std.specs.List.{flat_map, join_with_byte, list_any, range_with_len, zip}
use Rattle.blanks.specs.Blanks.{trimmed, right_aligned, right_justified}
use Rattle.whole_numbers.specs.Intervals.{Interval, midpoint}
use Rattle.whole_numbers.specs.Lists.{at}
use Rattle.whole_numbers.specs.Quotients.{up_over}
use Rattle.whole_numbers.specs.Scaling.{ten_above, ten_below}
use Rattle.sym_blocks.specs.Tables.{entry_at}
use Rattle.decimal_e.specs.Decimals.{Decimal}
use Rattle.decimal_text.specs.Texts.{e_text, zero_padded}
use Rattle.snx_epoch.specs.Moments.{epoch_text}
use Rattle.param_ids.specs.Plain.{PlainId}
use Rattle.param_ids.specs.Labels.{label_text}
use Rattle.snx_sites.specs.Plain.{PlainSite, PlainEpochRow}
use Rattle.control_doc.specs.Plain.{PlainOutput, PlainDatum, PlainControl}
use Rattle.neq_stack.specs.Neqs.{PlainNeq}
use Rattle.datum_rows.specs.Sites.{axis_of, is_of_site}
use Rattle.site_merge.specs.Merged.{PlainSites, first_start, last_end}
use Rattle.bounds_report.specs.declared.numbers.Printed.{Printed}

-- ---- lines
-- a line: its fields, one blank apart; an empty first field leaves column 1 blank
abbrev pub line : List (List ℕ) → List ℕ
line fields = join_with_byte 32 fields

-- a text: its lines, each ended by a line feed
abbrev pub text_of : List (List ℕ) → List ℕ
text_of lines = flat_map (λ l. l ++ (10 ∷ [])) lines

-- a block: `+` and its title, its lines, `-` and its title
abbrev pub block : List ℕ → List (List ℕ) → List (List ℕ)
block title lines = (43 ∷ title) ∷ (lines ++ ((45 ∷ title) ∷ []))

-- a text at the left of so many columns, with spaces behind it
abbrev pub left_aligned : ℕ → List ℕ → List ℕ
left_aligned width text = text ++ replicate (width - length text) 32

-- the constraint code: 1 for what is held by a datum, else 2
abbrev pub constraint_code : Bool → List ℕ
constraint_code held = if held then codes "1" else codes "2"

-- ---- the first line
-- format and version, the agency with the time at which it makes the file, the agency of the data with the time from their start to
-- their end, the technique, the number of parameters, the constraint code of the whole, and what the solution contains
abbrev pub first_line : PlainControl → List PlainEpochRow → ℕ → List ℕ
first_line control moments count =
    line (
    codes "%=SNX" ∷ codes "2.02" ∷ control.header.agency ∷ epoch_text control.header.created
    ∷ control.header.agency ∷ epoch_text (first_start moments) ∷ epoch_text (last_end moments)
    ∷ (control.header.technique ∷ []) ∷ zero_padded 5 count ∷ constraint_code (is_some control.datum) ∷ (control.header.content ∷ [])
    ∷ [])

-- ---- FILE/REFERENCE: what is said in columns 2 to 19, its text from column 21 on; an empty text is not given
abbrev pub given_line : List ℕ → List ℕ → List (List ℕ)
given_line what [] = []
given_line what (byte ∷ text) = line ([] ∷ left_aligned 18 what ∷ (byte ∷ text) ∷ []) ∷ []

abbrev pub reference_block : PlainOutput → List (List ℕ)
reference_block header =
    block (codes "FILE/REFERENCE") (
    given_line (codes "DESCRIPTION") header.description
    ++ (given_line (codes "OUTPUT") header.output
    ++ (given_line (codes "CONTACT") header.contact
    ++ given_line (codes "SOFTWARE") (codes "snxcomb"))))

-- ---- FILE/COMMENT: the names of the files
abbrev pub comment_line : List ℕ → List ℕ
comment_line name = line ([] ∷ codes "INPUT" ∷ name ∷ [])

abbrev pub comment_block : List (List ℕ) → List (List ℕ)
comment_block files = block (codes "FILE/COMMENT") (map comment_line files)

-- ---- SITE/ID: the lines of the sites as they stand in their files
abbrev pub site_block : List PlainSite → List (List ℕ)
site_block sites = block (codes "SITE/ID") (map (λ (site : PlainSite). site.text) sites)

-- ---- SOLUTION/EPOCHS: code in columns 2 to 5, point in 7 to 8 and solution in 10 to 13, both at the right, technique in 15, start
-- in 17 to 28, end in 30 to 41 and mean in 43 to 54
abbrev pub moments_line : PlainEpochRow → List ℕ
moments_line row =
    line (
    [] ∷ row.code ∷ right_aligned 2 (trimmed row.point) ∷ right_aligned 4 (trimmed row.soln) ∷ (row.technique ∷ [])
    ∷ epoch_text row.start ∷ epoch_text row.end ∷ epoch_text row.mean ∷ [])

abbrev pub moments_block : List PlainEpochRow → List (List ℕ)
moments_block rows = block (codes "SOLUTION/EPOCHS") (map moments_line rows)

-- ---- SOLUTION/STATISTICS: what is counted in columns 2 to 31, the number at the right of 33 to 54
abbrev pub statistics_block : ℕ → List (List ℕ)
statistics_block count =
    block (codes "SOLUTION/STATISTICS") (line ([] ∷ left_aligned 30 (codes "NUMBER OF UNKNOWNS") ∷ right_justified count 22 ∷ []) ∷ [])

-- ---- parameters
-- a parameter is a coordinate of a site of the datum
abbrev pub is_held : Option PlainDatum → PlainId → Bool
is_held None id = false
is_held (Some datum) id = is_some (axis_of id.kind) && list_any (is_of_site id) datum.sites

-- the line of a parameter: its label in columns 1 to 44, the constraint code in 46, and its numbers from column 48 on
abbrev pub parameter_line : Option PlainDatum → ℕ → PlainId → List ℕ → List (List ℕ) → List ℕ
parameter_line datum index id unit numbers = line (label_text index id unit ∷ constraint_code (is_held datum id) ∷ numbers)

-- the lines of parameters in order, counted from an index on
abbrev pub parameter_lines : Option PlainDatum → ℕ → List PlainId → List (List ℕ) → List (List (List ℕ)) → List (List ℕ)
parameter_lines datum index (id ∷ ids) (unit ∷ units) (numbers ∷ rest) =
    parameter_line datum index id unit numbers ∷ parameter_lines datum (suc index) ids units rest
parameter_lines datum index ids units rest = []

-- those of all parameters, with these numbers
abbrev pub all_parameters : Option PlainDatum → PlainNeq → List (List (List ℕ)) → List (List ℕ)
all_parameters datum neq numbers = parameter_lines datum 1 neq.names neq.units numbers

-- mant * 10^exp with 15 digits, at the right of columns 48 to 68
abbrev pub value_text : ℤ → ℤ → List ℕ
value_text mant exp = right_aligned 21 (e_text 15 mant exp)

-- a standard deviation with 6 digits, at the right of columns 70 to 80
abbrev pub deviation_text : ℤ → ℤ → List ℕ
deviation_text mant exp = right_aligned 11 (e_text 6 mant exp)

-- ---- SOLUTION/ESTIMATE: the estimates in units of 10^-16, and their deviations
abbrev pub estimate_numbers : Printed → List (List ℕ)
estimate_numbers row = value_text row.estimate (negsuc 15) ∷ deviation_text (pos row.deviation) row.deviation_place ∷ []

abbrev pub estimate_lines : Option PlainDatum → PlainNeq → List Printed → List (List ℕ)
estimate_lines datum neq rows = all_parameters datum neq (map estimate_numbers rows)

abbrev pub estimate_block : Option PlainDatum → PlainNeq → List Printed → List (List ℕ)
estimate_block datum neq rows = block (codes "SOLUTION/ESTIMATE") (estimate_lines datum neq rows)

-- ---- SOLUTION/APRIORI: the a priori values, with deviation zero; a value below 10^-99 in size is written as zero
abbrev pub is_tiny : Decimal → Bool
is_tiny d = nat_lt (unsigned_abs d.mant * ten_above (d.exp +ℤ pos 99)) (ten_below (d.exp +ℤ pos 99))

abbrev pub apriori_text : Decimal → List ℕ
apriori_text d = if is_tiny d then value_text (pos 0) (pos 0) else value_text d.mant d.exp

abbrev pub apriori_numbers : Decimal → List (List ℕ)
apriori_numbers d = apriori_text d ∷ deviation_text (pos 0) (pos 0) ∷ []

abbrev pub apriori_lines : Option PlainDatum → PlainNeq → List (List ℕ)
apriori_lines datum neq = all_parameters datum neq (map apriori_numbers neq.apriori)

abbrev pub apriori_block : Option PlainDatum → PlainNeq → List (List ℕ)
apriori_block datum neq = block (codes "SOLUTION/APRIORI") (apriori_lines datum neq)

-- ---- SOLUTION/NORMAL_EQUATION_VECTOR: the midpoints of the right side, in units of 10^(t - 18) with the scale exponent t
abbrev pub vector_numbers : Interval × ℤ → List (List ℕ)
vector_numbers p = value_text (midpoint p.0) (p.1 -ℤ pos 18) ∷ []

abbrev pub vector_lines : Option PlainDatum → PlainNeq → List (List ℕ)
vector_lines datum neq = all_parameters datum neq (map vector_numbers (zip neq.right neq.scales))

abbrev pub vector_block : Option PlainDatum → PlainNeq → List (List ℕ)
vector_block datum neq = block (codes "SOLUTION/NORMAL_EQUATION_VECTOR") (vector_lines datum neq)

-- ---- SOLUTION/NORMAL_EQUATION_MATRIX L: the lower triangle. Rows and columns are counted from 0 here and from 1 in the file
-- the midpoint of the interval in row i and column j, in units of 10^(t_i + t_j - 18), with 14 digits, at the right of 21 columns
abbrev pub element_text : PlainNeq → ℕ → ℕ → List ℕ
element_text neq i j = right_aligned 21 (e_text 14 (midpoint (entry_at neq.table i j)) (at neq.scales i +ℤ at neq.scales j -ℤ pos 18))

-- line k of row i: the row at the right of columns 2 to 6, the first of its columns at the right of 8 to 12, and its elements, of which
-- there are three, or as many as the row has left: at the right of columns 14 to 34, 36 to 56 and 58 to 78
abbrev pub matrix_line : PlainNeq → ℕ → ℕ → List ℕ
matrix_line neq i k =
    line (
    [] ∷ right_justified (suc i) 5 ∷ right_justified (suc (3 * k)) 5
    ∷ map (element_text neq i) (range_with_len (3 * k) (min 3 (suc i - 3 * k))))

-- the lines of row i, which ends at its diagonal
abbrev pub row_lines : PlainNeq → ℕ → List (List ℕ)
row_lines neq i = map (matrix_line neq i) (range_with_len 0 (up_over (suc i) 3))

abbrev pub matrix_lines : PlainNeq → List (List ℕ)
matrix_lines neq = flat_map (row_lines neq) (range_with_len 0 neq.table.size)

abbrev pub matrix_block : PlainNeq → List (List ℕ)
matrix_block neq = block (codes "SOLUTION/NORMAL_EQUATION_MATRIX L") (matrix_lines neq)

-- ---- the whole file
abbrev pub combined_lines : PlainControl → List (List ℕ) → PlainSites → PlainNeq → List Printed → List (List ℕ)
combined_lines control files sites neq rows =
    (first_line control sites.epochs (length neq.names) ∷ [])
    ++ (reference_block control.header
    ++ (comment_block files
    ++ (site_block sites.lines
    ++ (moments_block sites.epochs
    ++ (statistics_block (length neq.names)
    ++ (estimate_block control.datum neq rows
    ++ (apriori_block control.datum neq
    ++ (vector_block control.datum neq
    ++ (matrix_block neq
    ++ (codes "%ENDSNX" ∷ []))))))))))

-- the combined file of this control, the names of its files, their sites and moments, the normal equations before the rows of the datum,
-- and the printed numbers
abbrev pub combined_text : PlainControl → List (List ℕ) → PlainSites → PlainNeq → List Printed → List ℕ
combined_text control files sites neq rows = text_of (combined_lines control files sites neq rows)
