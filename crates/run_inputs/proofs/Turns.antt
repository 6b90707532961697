-- Files that are read one after another.
use Rattle.std.proofs.Common.{◌≡◌, ◌∷◌, ◌++◌, ◌+◌, ◌-◌, ◌<◌, ◌≤◌, ℕ, List, [], length, get_or, take, drop, map, Option, Result, Ok, Err, sym, ap, ◌∙◌, subst, arith, append_assoc}
use Rattle.std.specs.Prelude.{min, sum}
use Rattle.std.specs.List.{sum_by}
use Rattle.std.proofs.lemmas.List.{take_more, map-append, take-append-drop}
use Rattle.std.proofs.lemmas.List.Sums.{sum-map, sum_by-append}
use Rattle.stated_order.specs.Steps.{Then}
use Rattle.stated_order.proofs.StepLaws.{then_gives, then_stops, in_turn_more, in_turn_stops}
use Rattle.desk_io.specs.Content.{File}
use Rattle.control_doc.specs.Plain.{PlainPlan}
use Rattle.refusal_lines.specs.declared.refusal.Refusal.{Refusal}
use Rattle.snx_blocks.specs.Documents.{PlainDoc}
use Rattle.run_inputs.specs.Files.{ReadsFile, ReadsText, file_limit, total_limit}
use Rattle.run_inputs.specs.Inputs.{PlainInput, IsInputWithin, IsInput, AreInputs}

-- how many bytes files have together
abbrev pub bytes_of : List PlainInput → ℕ
bytes_of inputs = sum (map (λ (input : PlainInput). input.size) inputs)

here : (files : List ℕ → Option File) (before : List PlainInput) (plan : PlainPlan) (limit left : ℕ) (r : Result PlainInput Refusal) → limit ≡ min file_limit left → left + bytes_of before ≡ total_limit
    → IsInputWithin limit files plan r → IsInput files before plan r
here files before plan limit left r is together h =
    let rest : left ≡ total_limit - bytes_of before = omega arith in
    subst (λ n. IsInputWithin n files plan r) (is ∙ ap (min file_limit) rest) h

-- a list up to a member, and with it; and the whole from it on
pub upto_more : {X Y : Type 0} (view : X → Y) (xs : List X) (i : ℕ) (x : X) → i < length xs → x ≡ get_or xs i x → map view (take i xs) ++ (view x ∷ []) ≡ map view (take (i + 1) xs)
upto_more view xs i x lt is =
    sym (map-append view (take i xs) (x ∷ [])) ∙ ap (λ y. map view (take i xs ++ (y ∷ []))) is ∙ sym (ap (map view) (take_more xs i x lt))

whole_from : {X Y : Type 0} (view : X → Y) (xs : List X) (i : ℕ) (x : X) → i < length xs → x ≡ get_or xs i x → map view (take i xs) ++ (view x ∷ map view (drop (i + 1) xs)) ≡ map view xs
whole_from view xs i x lt is =
    sym (append_assoc (map view (take i xs)) (view x ∷ []) (map view (drop (i + 1) xs))) ∙ ap (λ l. l ++ map view (drop (i + 1) xs)) (upto_more view xs i x lt is)
    ∙ sym (map-append view (take (i + 1) xs) (drop (i + 1) xs)) ∙ ap (map view) (take-append-drop (i + 1) xs)

module _ {X : Type 0} (view : X → PlainPlan) (files : List ℕ → Option File) (plans : List X) (i : ℕ) (plan : X) (limit left : ℕ) (before : List PlainInput) where
  -- one more file
  pub one_more : (input : PlainInput) → i < length plans → plan ≡ get_or plans i plan → limit ≡ min file_limit left → left + bytes_of before ≡ total_limit
      → AreInputs files (map view (take i plans)) (Ok before) → IsInputWithin limit files (view plan) (Ok input) → AreInputs files (map view (take (i + 1) plans)) (Ok (before ++ (input ∷ [])))
  one_more input lt is limited together so_far h =
      subst (λ l. AreInputs files l (Ok (before ++ (input ∷ [])))) (upto_more view plans i plan lt is)
      (in_turn_more (IsInput files) [] before (map view (take i plans)) (view plan) input so_far (here files before (view plan) limit left (Ok input) limited together h))

  -- the first that is refused
  pub one_stops : (refusal : Refusal) → i < length plans → plan ≡ get_or plans i plan → limit ≡ min file_limit left → left + bytes_of before ≡ total_limit
      → AreInputs files (map view (take i plans)) (Ok before) → IsInputWithin limit files (view plan) (Err refusal) → AreInputs files (map view plans) (Err refusal)
  one_stops refusal lt is limited together so_far h =
      subst (λ l. AreInputs files l (Err refusal)) (whole_from view plans i plan lt is)
      (in_turn_stops (IsInput files) [] before (map view (take i plans)) (map view (drop (i + 1) plans)) (view plan) refusal so_far (here files before (view plan) limit left (Err refusal) limited together h))

-- what is left after one more
pub left_after : (left : ℕ) (before : List PlainInput) (input : PlainInput) → input.size ≤ left → left + bytes_of before ≡ total_limit → (left - input.size) + bytes_of (before ++ (input ∷ [])) ≡ total_limit
left_after left before input short together =
    let size : PlainInput → ℕ = λ (i : PlainInput). i.size in
    let whole = sum-map size (before ++ (input ∷ [])) in
    let parts = sum_by-append size before (input ∷ []) in
    let first = sum-map size before in
    let last : sum_by size (input ∷ []) ≡ input.size = grind arith in
    omega (arith, whole, parts, first, last)

-- ---- one file, by the step that refuses it
abbrev Made : PlainPlan → List ℕ → PlainDoc → Result PlainInput Refusal → Type 0
Made plan text doc r = r ≡ Ok (record { plan = plan; size = length text; doc = doc })

pub file_refused : (limit : ℕ) (files : List ℕ → Option File) (plan : PlainPlan) (refusal : Refusal) → ReadsFile limit plan.name (files plan.name) (Err refusal) → IsInputWithin limit files plan (Err refusal)
file_refused limit files plan refusal h = then_stops (ReadsFile limit plan.name (files plan.name)) (λ text. Then (ReadsText plan.name text) (Made plan text)) refusal h

pub text_refused : (limit : ℕ) (files : List ℕ → Option File) (plan : PlainPlan) (text : List ℕ) (refusal : Refusal) → ReadsFile limit plan.name (files plan.name) (Ok text)
    → ReadsText plan.name text (Err refusal) → IsInputWithin limit files plan (Err refusal)
text_refused limit files plan text refusal read h =
    then_gives (ReadsFile limit plan.name (files plan.name)) (λ text. Then (ReadsText plan.name text) (Made plan text)) text (Err refusal) read (then_stops (ReadsText plan.name text) (Made plan text) refusal h)
