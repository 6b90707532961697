-- What a command reads is one thing: its words, its control file, and the files of its control.
use Rattle.std.proofs.Common.{◌≡◌, ◌∷◌, ℕ, List, [], length, Option, Some, None, Result, Ok, Err, codes, sym, ap, subst, ◌∙◌, inl, inr, arith}
use Rattle.stated_order.specs.Steps.{IsOne, Then}
use Rattle.stated_order.proofs.StepLaws.{then_is_one, in_turn_is_one, renamed_is_one}
use Rattle.desk_io.specs.Content.{File}
use Rattle.snx_blocks.specs.Documents.{PlainDoc, IsDocument}
use Rattle.snx_blocks.proofs.Single.{document_is_one}
use Rattle.control_doc.specs.Control.{IsRead, table_in}
use Rattle.control_doc.specs.Plain.{PlainPlan, PlainControl}
use Rattle.refusal_lines.specs.declared.refusal.Refusal.{Refusal}
use Rattle.refusal_lines.specs.declared.refusal.Refusal.TheVariants.{Line}
use Rattle.run_inputs.specs.Words.{PlainCommand, Solve, Combine, SolvedFiles, CombinedFiles, AreSolve, AreCombine, AreCommand, ReadsWords}
use Rattle.run_inputs.specs.Files.{ReadsFile, ReadsText, control_limit}
use Rattle.run_inputs.specs.Controls.{refusal_of_fault, SaysControl, SaysRun, ReadsControl, apart, built}
use Rattle.run_inputs.specs.Inputs.{PlainInput, IsInputWithin, IsInput, AreInputs, ReadsInputs, limit_after}
use Rattle.run_inputs.proofs.NameOrder.{one_order}
use Rattle.control_doc.proofs.OneAnswer.{one_control_of}

-- ---- words
same_solved : (words : List (List ℕ)) (a b : SolvedFiles) → AreSolve words a → AreSolve words b → a ≡ b
same_solved words a b h k =
    let e : codes "solve" ∷ a.from ∷ a.to ∷ [] ≡ codes "solve" ∷ b.from ∷ b.to ∷ [] = sym h.words_are ∙ k.words_are in
    let from : a.from ≡ b.from = cc in
    let to : a.to ≡ b.to = cc in
    let into : List ℕ → List ℕ → SolvedFiles = λ from to. record { from = from; to = to } in
    ap (λ f. into f a.to) from ∙ ap (λ t. into b.from t) to

same_combined : (words : List (List ℕ)) (a b : CombinedFiles) → AreCombine words a → AreCombine words b → a ≡ b
same_combined words a b h k =
    let e : codes "combine" ∷ a.control ∷ a.out ∷ a.report ∷ [] ≡ codes "combine" ∷ b.control ∷ b.out ∷ b.report ∷ [] = sym h.words_are ∙ k.words_are in
    let control : a.control ≡ b.control = cc in
    let out : a.out ≡ b.out = cc in
    let report : a.report ≡ b.report = cc in
    let into : List ℕ → List ℕ → List ℕ → CombinedFiles = λ control out report. record { control = control; out = out; report = report } in
    ap (λ c. into c a.out a.report) control ∙ ap (λ o. into b.control o a.report) out ∙ ap (λ r. into b.control b.out r) report

not_both : (words : List (List ℕ)) (a : SolvedFiles) (b : CombinedFiles) → AreSolve words a → AreCombine words b → ⊥
not_both words a b h k =
    let e : codes "solve" ∷ a.from ∷ a.to ∷ [] ≡ codes "combine" ∷ b.control ∷ b.out ∷ b.report ∷ [] = sym h.words_are ∙ k.words_are in
    let n = ap length e in
    omega arith

same_command : (words : List (List ℕ)) (a b : PlainCommand) → AreCommand words a → AreCommand words b → a ≡ b
same_command words (Solve a) (Solve b) h k = ap Solve (same_solved words a b h k)
same_command words (Combine a) (Combine b) h k = ap Combine (same_combined words a b h k)
same_command words (Solve a) (Combine b) h k = absurd (not_both words a b h k)
same_command words (Combine a) (Solve b) h k = absurd (not_both words b a k h)

pub words_are_one : (words : List (List ℕ)) → IsOne (ReadsWords words)
words_are_one words (Ok a) (Ok b) h k = ap Ok (same_command words a b h k)
words_are_one words (Ok a) (Err d) h k = absurd (k.0 a h)
words_are_one words (Err c) (Ok b) h k = absurd (h.0 b k)
words_are_one words (Err c) (Err d) h k = ap Err (h.1 ∙ sym k.1)

-- ---- files and texts
pub file_is_one : (limit : ℕ) (name : List ℕ) (file : Option File) → IsOne (ReadsFile limit name file)
file_is_one limit name None one other h k = h ∙ sym k
file_is_one limit name (Some file) one other (inl h) (inl k) = h.1 ∙ sym k.1
file_is_one limit name (Some file) one other (inl h) (inr k) = let a = h.0 in let b = k.0 in absurd (omega arith)
file_is_one limit name (Some file) one other (inr h) (inl k) = let a = h.0 in let b = k.0 in absurd (omega arith)
file_is_one limit name (Some file) one other (inr h) (inr k) = h.1 ∙ sym k.1

pub text_is_one : (name text : List ℕ) → IsOne (ReadsText name text)
text_is_one name text = renamed_is_one (λ fault. Line name fault) (IsDocument text) (document_is_one text)

-- ---- the control file, where a table says one control at most
abbrev IsApart : CombinedFiles → PlainControl → Result (Unit {0}) Refusal → Type 0
IsApart names control r = r ≡ apart names control

abbrev IsBuilt : CombinedFiles → PlainControl → Result (Unit {0}) Refusal → Type 0
IsBuilt names control r = r ≡ built names control

run_is_one : (names : CombinedFiles) (text : List ℕ) → IsOne (SaysRun names text)
run_is_one names text =
    then_is_one (SaysControl text) (λ control. Then (IsApart names control) (λ kept_apart. Then (IsBuilt names control) (λ all_built r. r ≡ Ok control))) (renamed_is_one refusal_of_fault (IsRead text) (one_control_of (table_in text))) (λ control says.
    then_is_one (IsApart names control) (λ kept_apart. Then (IsBuilt names control) (λ all_built r. r ≡ Ok control)) (λ r s a b. a ∙ sym b) (λ kept_apart kept.
    then_is_one (IsBuilt names control) (λ all_built r. r ≡ Ok control) (λ r s a b. a ∙ sym b) (λ all_built all r s a b. a ∙ sym b)))

pub control_is_one : (names : CombinedFiles) (files : List ℕ → Option File) → IsOne (ReadsControl names files)
control_is_one names files =
    then_is_one (ReadsFile control_limit names.control (files names.control)) (SaysRun names) (file_is_one control_limit names.control (files names.control)) (λ text read. run_is_one names text)

-- ---- the files of a control
abbrev Made : PlainPlan → List ℕ → PlainDoc → Result PlainInput Refusal → Type 0
Made plan text doc r = r ≡ Ok (record { plan = plan; size = length text; doc = doc })

input_is_one : (limit : ℕ) (files : List ℕ → Option File) (plan : PlainPlan) → IsOne (IsInputWithin limit files plan)
input_is_one limit files plan =
    then_is_one (ReadsFile limit plan.name (files plan.name)) (λ text. Then (ReadsText plan.name text) (Made plan text)) (file_is_one limit plan.name (files plan.name)) (λ text read.
    then_is_one (ReadsText plan.name text) (Made plan text) (text_is_one plan.name text) (λ doc reads r s a b. a ∙ sym b))

turns_are_one : (files : List ℕ → Option File) (plans : List PlainPlan) → IsOne (AreInputs files plans)
turns_are_one files plans = in_turn_is_one (IsInput files) (λ before plan. input_is_one (limit_after before) files plan) [] plans

pub inputs_are_one : (plans : List PlainPlan) (files : List ℕ → Option File) → IsOne (ReadsInputs plans files)
inputs_are_one plans files one other h k =
    turns_are_one files k.0 one other (subst (λ (l : List PlainPlan). AreInputs files l one) (one_order plans h.0 k.0 h.1 k.1) h.2) k.2
