-- The texts of the report.
use Rattle.std.proofs.Common.{◌≡◌, ◌++◌, ◌∷◌, ◌+◌, ◌-◌, ◌^◌, ℕ, zero, suc, List, [], length, replicate, flat_map, false, refl, arith, append-nil, add-one, append_assoc, drop, slice_get, Some, codes, ap, sym, ◌∙◌, subst, Result, IfOk, String, string_bytes, Vec}
use Rattle.std.specs.Fmt.{decimal, padded_integral, format_spec, char_count}
use Rattle.param_ids.specs.Plain.{PlainId}
use Rattle.bounds_report.specs.declared.numbers.Printed.{Printed}
use Rattle.bounds_text.specs.Report.{sixteen_digits, certificate_line, bounds_line, bounds_lines, report_text}

-- what `{:016}` writes
pub sixteen : (n : ℕ) → padded_integral (format_spec 32 0 4 16 (2 ^ 64 - 1)) false [] (decimal n) ≡ sixteen_digits n
unfolding padded_integral char_count
sixteen n = let pad : 16 - length (decimal n) - 0 - 0 ≡ 16 - length (decimal n) = omega arith in rw (pad, append-nil) refl

-- the text, if there is one, is also what equals it
pub string_is : {A E : Type 0} (r : Result (String A) E) (text same : List ℕ) → text ≡ same → IfOk r (λ s. string_bytes s ≡ text) → IfOk r (λ s. string_bytes s ≡ same)
string_is r text same e h = subst (λ t. IfOk r (λ s. string_bytes s ≡ t)) e h

pub vec_is : {A E : Type 0} (r : Result (Vec ℕ A) E) (text same : List ℕ) → text ≡ same → IfOk r (λ v. v.items ≡ text) → IfOk r (λ v. v.items ≡ same)
vec_is r text same e h = subst (λ t. IfOk r (λ v. v.items ≡ t)) e h

-- there are as many lines as names
pub length-bounds_lines : (k : ℕ) (ids : List PlainId) (units : List (List ℕ)) (ns : List Printed) → length units ≡ length ids → length ns ≡ length ids → length (bounds_lines k ids units ns) ≡ length ids
length-bounds_lines k [] units ns e f = refl
length-bounds_lines k (id ∷ ids) [] ns e f = absurd (omega arith)
length-bounds_lines k (id ∷ ids) (unit ∷ units) [] e f = absurd (omega arith)
length-bounds_lines k (id ∷ ids) (unit ∷ units) (n ∷ ns) e f = ap suc (length-bounds_lines (suc k) ids units ns (omega arith) (omega arith))

-- the report of these lines
pub report_is : (g parts error rows : ℕ) (certificate text : List ℕ) (lines : List (List ℕ)) → certificate ≡ certificate_line g parts error rows → text ≡ flat_map (λ line. line) lines
    → length lines ≡ rows → codes "SNXCOMB BOUNDS 1\n" ++ (certificate ++ (text ++ codes "END\n")) ≡ report_text g parts error lines
report_is g parts error rows certificate text lines head body count =
    ap (λ c. codes "SNXCOMB BOUNDS 1\n" ++ (c ++ (text ++ codes "END\n"))) (head ∙ ap (certificate_line g parts error) (sym count))
    ∙ ap (λ l. codes "SNXCOMB BOUNDS 1\n" ++ (certificate_line g parts error (length lines) ++ (l ++ codes "END\n"))) body

-- the lines from row k on are its line and those after it
from_row : (index k : ℕ) (ids : List PlainId) (units : List (List ℕ)) (ns : List Printed) (id : PlainId) (unit : List ℕ) (n : Printed) → slice_get ids k ≡ Some id → slice_get units k ≡ Some unit → slice_get ns k ≡ Some n
    → bounds_lines index (drop k ids) (drop k units) (drop k ns) ≡ bounds_line index id unit n ∷ bounds_lines (suc index) (drop (suc k) ids) (drop (suc k) units) (drop (suc k) ns)
from_row index zero (a ∷ ids) (b ∷ units) (d ∷ ns) id unit n here there last = let e : a ≡ id = cc in let f : b ≡ unit = cc in let g : d ≡ n = cc in cc
from_row index (suc k) (a ∷ ids) (b ∷ units) (d ∷ ns) id unit n here there last = from_row index k ids units ns id unit n here there last
from_row index k [] units ns id unit n here there last = absurd (cc)
from_row index k (a ∷ ids) [] ns id unit n here there last = absurd (cc)
from_row index k (a ∷ ids) (b ∷ units) [] id unit n here there last = absurd (cc)

-- the lines of the rows so far, and one more
pub one_more : (text line : List ℕ) (k : ℕ) (ids : List PlainId) (units : List (List ℕ)) (ns : List Printed) (id : PlainId) (unit : List ℕ) (n : Printed) (all : List ℕ)
    → slice_get ids k ≡ Some id → slice_get units k ≡ Some unit → slice_get ns k ≡ Some n → line ≡ bounds_line (k + 1) id unit n
    → text ++ flat_map (λ line. line) (bounds_lines (k + 1) (drop k ids) (drop k units) (drop k ns)) ≡ all
    → (text ++ line) ++ flat_map (λ line. line) (bounds_lines (k + 1 + 1) (drop (k + 1) ids) (drop (k + 1) units) (drop (k + 1) ns)) ≡ all
one_more text line k ids units ns id unit n all here there last is so_far =
    let later = λ (m : ℕ). flat_map (λ line. line) (bounds_lines (suc m) (drop m ids) (drop m units) (drop m ns)) in
    let step : later k ≡ bounds_line (suc k) id unit n ++ later (suc k) = ap (flat_map (λ line. line)) (from_row (suc k) k ids units ns id unit n here there last) in
    let is_suc : line ≡ bounds_line (suc k) id unit n = is ∙ ap (λ m. bounds_line m id unit n) (add-one k) in
    let before : text ++ later k ≡ all = ap (λ m. text ++ flat_map (λ line. line) (bounds_lines m (drop k ids) (drop k units) (drop k ns))) (sym (add-one k)) ∙ so_far in
    let after : (text ++ line) ++ later (suc k) ≡ all = append_assoc text line (later (suc k)) ∙ ap (λ l. text ++ (l ++ later (suc k))) is_suc ∙ ap (λ l. text ++ l) (sym step) ∙ before in
    rw (add-one (k + 1), add-one k) after
