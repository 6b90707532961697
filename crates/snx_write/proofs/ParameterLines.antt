-- The lines of parameters, one after another.
use Rattle.std.proofs.Common.{◌≡◌, ◌++◌, ◌∷◌, ◌+◌, ℕ, zero, suc, List, [], drop, map, slice_get, Option, Some, refl, sym, ap, ◌∙◌, add-one}
use Rattle.std.proofs.lemmas.Option.{slice_get-map}
use Rattle.std.specs.List.{zip}
use Rattle.std.specs.Option.{option_map}
use Rattle.control_doc.specs.Plain.{PlainDatum}
use Rattle.param_ids.specs.Plain.{PlainId}
use Rattle.snx_write.specs.Combined.{text_of, parameter_line, parameter_lines}
use Rattle.snx_write.proofs.Lines.{more_lines}

-- the lines from parameter k on are its line and those after it
from_parameter : (datum : Option PlainDatum) (index k : ℕ) (ids : List PlainId) (units : List (List ℕ)) (numbers : List (List (List ℕ))) (id : PlainId) (unit : List ℕ) (number : List (List ℕ))
    → slice_get ids k ≡ Some id → slice_get units k ≡ Some unit → slice_get numbers k ≡ Some number
    → parameter_lines datum index (drop k ids) (drop k units) (drop k numbers) ≡ parameter_line datum index id unit number ∷ parameter_lines datum (suc index) (drop (suc k) ids) (drop (suc k) units) (drop (suc k) numbers)
from_parameter datum index zero (a ∷ ids) (b ∷ units) (d ∷ numbers) id unit number here there last = let e : a ≡ id = cc in let f : b ≡ unit = cc in let g : d ≡ number = cc in cc
from_parameter datum index (suc k) (a ∷ ids) (b ∷ units) (d ∷ numbers) id unit number here there last = from_parameter datum index k ids units numbers id unit number here there last
from_parameter datum index k [] units numbers id unit number here there last = absurd (cc)
from_parameter datum index k (a ∷ ids) [] numbers id unit number here there last = absurd (cc)
from_parameter datum index k (a ∷ ids) (b ∷ units) [] id unit number here there last = absurd (cc)

-- the lines of the parameters so far, and one more
pub one_more : (datum : Option PlainDatum) (k : ℕ) (ids : List PlainId) (units : List (List ℕ)) (numbers : List (List (List ℕ))) (id : PlainId) (unit : List ℕ) (number : List (List ℕ)) (text more all : List ℕ)
    → slice_get ids k ≡ Some id → slice_get units k ≡ Some unit → slice_get numbers k ≡ Some number → more ≡ text ++ text_of (parameter_line datum (k + 1) id unit number ∷ [])
    → text ++ text_of (parameter_lines datum (k + 1) (drop k ids) (drop k units) (drop k numbers)) ≡ all
    → more ++ text_of (parameter_lines datum (k + 1 + 1) (drop (k + 1) ids) (drop (k + 1) units) (drop (k + 1) numbers)) ≡ all
one_more datum k ids units numbers id unit number text more all here there last is so_far =
    let line = parameter_line datum (k + 1) id unit number in
    let rest = parameter_lines datum (k + 1 + 1) (drop (k + 1) ids) (drop (k + 1) units) (drop (k + 1) numbers) in
    let step : parameter_lines datum (k + 1) (drop k ids) (drop k units) (drop k numbers) ≡ (line ∷ []) ++ rest =
    rw (add-one (k + 1), add-one k) (from_parameter datum (suc k) k ids units numbers id unit number here there last) in
    more_lines (line ∷ []) rest text more (more ++ text_of rest) is refl ∙ ap (λ l. text ++ text_of l) (sym step) ∙ so_far

-- element k of a mapped list
pub mapped : {A B : Type 0} (f : A → B) (xs : List A) (k : ℕ) (x : A) (y : B) → slice_get xs k ≡ Some x → y ≡ f x → slice_get (map f xs) k ≡ Some y
mapped f xs k x y e g = slice_get-map f xs k ∙ ap (option_map f) e ∙ ap Some (sym g)

-- element k of two lists together
pub zipped : {A B : Type 0} (xs : List A) (ys : List B) (k : ℕ) (x : A) (y : B) → slice_get xs k ≡ Some x → slice_get ys k ≡ Some y → slice_get (zip xs ys) k ≡ Some (x, y)
zipped [] ys k x y e f = absurd (cc)
zipped (a ∷ xs) [] k x y e f = absurd (cc)
zipped (a ∷ xs) (b ∷ ys) zero x y e f = let g : a ≡ x = cc in let h : b ≡ y = cc in cc
zipped (a ∷ xs) (b ∷ ys) (suc k) x y e f = zipped xs ys k x y e f
