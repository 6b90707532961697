-- What a run leaves, by how far it came.
use Rattle.std.proofs.Common.{◌≡◌, ◌≢◌, ◌⊎◌, ◌++◌, ◌∷◌, ◌<◌, ◌||◌, ℕ, zero, suc, Bool, cond, List, [], length, get_or, map, Option, Some, None, true, false, Result, Ok, Err, OnErr, IsErrOf, refl, sym, ◌∙◌, ap, subst, inl, inr, append-nil, append_assoc, arith}
use Rattle.std.specs.Prelude.{Contains, All}
use Rattle.std.specs.List.{Any, find}
use Rattle.std.specs.Str.{bytes_eq}
use Rattle.std.proofs.lemmas.Slice.Eq.{bytes_eq-Decides}
use Rattle.std.proofs.lemmas.List.Elements.{All-nil, All-cons, All-head, All-tail}
use Rattle.desk_io.specs.Content.{File, Content, KeepsAll, IsFront}
use Rattle.desk_io.specs.Desk.{Says}
use Rattle.desk_io.specs.Whole.{HoldsPart}
use Rattle.desk_io.specs.declared.outputs.Output.{Output}
use Rattle.desk_io.specs.Outputs.{NamedText, named_text, HoldsWhole, Writing, NamesNone, NamesDiffer, StandsWhole, StandsCut}
use Rattle.desk_io.specs.declared.desk.DeskError.{DeskError}
use Rattle.desk_io.specs.declared.desk.DeskError.TheVariants as desk
use Rattle.stated_order.specs.Steps.{GoesOn, Then}
use Rattle.control_doc.specs.Plain.{PlainPlan, PlainControl}
use Rattle.control_doc.specs.Single.{alone_plan, alone_control}
use Rattle.refusal_lines.specs.Refusals.{status_of, line_of}
use Rattle.refusal_lines.specs.declared.refusal.Refusal.{Refusal}
use Rattle.refusal_lines.specs.declared.refusal.Refusal.TheVariants.{Memory, Desk}
use Rattle.run_inputs.specs.Words.{PlainCommand, Solve, Combine, CombinedFiles, AreCommand, NamesOutput, outputs_of}
use Rattle.run_inputs.specs.Controls.{is_named, apart_from, ReadsControl}
use Rattle.combine_cli.specs.Combination.{Texts}
use Rattle.combine_cli.specs.Verdict.{Outcome, IsVerdict, HasControl, outputs_with}
use Rattle.combine_cli.specs.Headline.{AreWritten, IsCertifiedRun}
use Rattle.combine_cli.specs.Runs.{HasVerdict, Leaves, SaysPart, StoppedAt, StoppedThen, Excuses, named_input, ReadsName}
use Rattle.combine_cli.specs.Plan.{IsPlanned}
use Rattle.run_inputs.proofs.Alone.{words_are_one}
use Rattle.combine_cli.proofs.Verdicts.{one_verdict, planned_verdict, planned_run}

-- a fact is what an error needs
pub on_err : {T E : Type 0} (r : Result T E) {P : Type 0} → P → OnErr r P
on_err (Ok x) p = tt
on_err (Err e) p = p

-- the bytes that were passed are the text's
pub says_text : (bytes text : List ℕ) (old new : Content) (result : Result (Unit {0}) DeskError) → bytes ≡ text → Says bytes old new result → Says text old new result
says_text bytes text old new result e s = subst (λ t. Says t old new result) e s

-- ---- said bytes only grow

pub grown_by : (part : List ℕ) (old new : Content) → new.said ≡ old.said ++ part → IsFront old.said new.said
grown_by part old new e = (part, e)

pub not_grown : (old new : Content) → new.said ≡ old.said → IsFront old.said new.said
not_grown old new e = ([], e ∙ sym (append-nil old.said))

pub grown_twice : (old mid new : Content) → IsFront old.said mid.said → IsFront mid.said new.said → IsFront old.said new.said
grown_twice old mid new h k = (h.0 ++ k.0, k.1 ∙ ap (λ b. b ++ k.0) h.1 ∙ append_assoc old.said h.0 k.0)

-- a call of say, whatever it answered, said a prefix
pub said_part : (bytes : List ℕ) (old new : Content) (result : Result (Unit {0}) DeskError) → Says bytes old new result → SaysPart bytes old new
said_part bytes old new (Ok u) h = record { files = h.files; said = (bytes, ([], sym (append-nil bytes)), h.appended) }
said_part bytes old new (Err e) h = record { files = h.files; said = h.appended }

pub part_grows : (bytes : List ℕ) (old new : Content) → SaysPart bytes old new → IsFront old.said new.said
part_grows bytes old new h = (h.said.0, h.said.2)

pub says_nothing : (bytes : List ℕ) (content : Content) → SaysPart bytes content content
says_nothing bytes content = record { files = refl; said = ([], (bytes, refl), sym (append-nil content.said)) }

-- ---- whole runs

pub done_writing : (words : List (List ℕ)) (outputs : List NamedText) (old mid new : Content) → IsPlanned words old.files outputs → KeepsAll old mid
    → StandsWhole outputs mid new → HasVerdict words old.files (λ o. Leaves 0 o old new)
done_writing words outputs old mid new p keeps w = record {
  outcome = Ok outputs;
  verdict = planned_verdict words old.files outputs p;
  holds = (refl, record { read = mid; keeps = keeps; onward = w });
}

pub done_saying : (words : List (List ℕ)) (refusal : Refusal) (status : ℕ) (old mid new : Content) (u : Unit {0}) → status ≡ status_of refusal → IsVerdict words old.files (Err refusal) → KeepsAll old mid
    → Says (line_of refusal) mid new (Ok u) → HasVerdict words old.files (λ o. Leaves status o old new)
done_saying words refusal status old mid new u is v keeps s = record {
  outcome = Err refusal;
  verdict = v;
  holds = (
    is,
    record {
      files = s.files ∙ keeps.files;
      said = s.appended ∙ ap (λ b. b ++ line_of refusal) keeps.said;
    },
  );
}

-- a run whose verdict is outputs has status 0
pub writes_outputs : (words : List (List ℕ)) (files : List ℕ → Option File) (status : ℕ) (outputs : List NamedText) (old new : Content) → IsVerdict words files (Ok outputs)
    → HasVerdict words files (λ o. Leaves status o old new) → status ≡ 0
writes_outputs words files status outputs old new v h =
    let leaves = subst (λ o. Leaves status o old new) (one_verdict words files h.outcome (Ok outputs) h.verdict v) h.holds in leaves.0

-- whether an output has another name
abbrev Differs : List ℕ → NamedText → Type 0
Differs name output = name ≢ output.name

-- the names of a command's outputs differ
outputs_differ : (words : List (List ℕ)) (command : PlainCommand) (texts : Texts) → AreCommand words command → NamesDiffer (outputs_with command texts)
outputs_differ words (Solve names) texts are = (All-nil (Differs names.to), tt)
outputs_differ words (Combine names) texts are =
    (All-cons (Differs names.out) (record { name = names.report; text = texts.report }) [] are.out_and_report (All-nil (Differs names.out)), (All-nil (Differs names.report), tt))

pub planned_differ : (words : List (List ℕ)) (files : List ℕ → Option File) (outputs : List NamedText) → IsPlanned words files outputs → NamesDiffer outputs
planned_differ words files outputs p = subst NamesDiffer (sym p.outputs_are) (outputs_differ words p.command p.texts p.are)

-- what is planned, of the slice that is written
pub planned_slice : (words : List (List ℕ)) (files : List ℕ → Option File) (items slice : List Output) → slice ≡ items → IsPlanned words files (map named_text items)
    → IsPlanned words files (map named_text slice)
planned_slice words files items slice e p = subst (λ (os : List Output). IsPlanned words files (map named_text os)) (sym e) p

all_written : (outputs : List NamedText) (new : Content) → All (λ output. HoldsWhole output new) outputs → AreWritten outputs new.files
all_written [] new whole = tt
all_written (output ∷ later) new whole =
    (All-head (λ (o : NamedText). HoldsWhole o new) output later whole, all_written later new (All-tail (λ (o : NamedText). HoldsWhole o new) output later whole))

pub certified_writing : (words : List (List ℕ)) (outputs : List NamedText) (old mid new : Content) → IsPlanned words old.files outputs
    → StandsWhole outputs mid new → IsCertifiedRun words old.files new.files
certified_writing words outputs old mid new p w = planned_run words old.files new.files outputs p (all_written outputs new w.whole)

-- ---- runs that were cut short

pub cut_before : (outcome : Outcome) (old new : Content) → KeepsAll old new → StoppedAt outcome old new
cut_before (Ok outputs) old new keeps = record { read = new; keeps = keeps; onward = inl refl }
cut_before (Err refusal) old new keeps = record {
  files = keeps.files;
  said = ([], (line_of refusal, refl), keeps.said ∙ sym (append-nil old.said));
}

pub cut_writing : (words : List (List ℕ)) (outcome : Outcome) (outputs : List NamedText) (old mid new : Content) → IsVerdict words old.files outcome → IsPlanned words old.files outputs → KeepsAll old mid
    → StandsCut outputs mid new → StoppedAt outcome old new
cut_writing words outcome outputs old mid new v p keeps w =
    let same : Ok outputs ≡ outcome = one_verdict words old.files (Ok outputs) outcome (planned_verdict words old.files outputs p) v in
    let cut : StoppedAt (Ok outputs) old new = record { read = mid; keeps = keeps; onward = inr w } in
    subst (λ o. StoppedAt o old new) same cut

pub cut_saying : (words : List (List ℕ)) (outcome : Outcome) (refusal : Refusal) (old mid new : Content) → IsVerdict words old.files outcome → IsVerdict words old.files (Err refusal) → KeepsAll old mid
    → SaysPart (line_of refusal) mid new → StoppedAt outcome old new
cut_saying words outcome refusal old mid new v r keeps part =
    let same : Err refusal ≡ outcome = one_verdict words old.files (Err refusal) outcome r v in
    let cut : StoppedAt (Err refusal) old new = record {
      files = part.files ∙ keeps.files;
      said = (part.said.0, part.said.1, part.said.2 ∙ ap (λ b. b ++ part.said.0) keeps.said);
    } in
    subst (λ o. StoppedAt o old new) same cut

pub then_says : (outcome : Outcome) (status : ℕ) (old mid new : Content) → StoppedAt outcome old mid → Excuses status mid new → StoppedThen outcome (Excuses status) old new
then_says outcome status old mid new stopped says = record { at = mid; stopped = stopped; onward = says }

-- ---- what is said of it

pub excuses_memory : (old new : Content) (answer : Result (Unit {0}) DeskError) → ¬ (IsErrOf answer desk.Fault) → Says (line_of Memory) old new answer → Excuses 4 old new
excuses_memory old new answer none says = inl (refl, record { answer = answer; no_fault = none; says = says })

pub excuses_fault : (old new : Content) → SaysPart (line_of Desk) old new → Excuses 5 old new
excuses_fault old new says = inr (refl, record { between = old; memory = says_nothing (line_of Memory) old; fault = says })

pub excuses_both : (old mid new : Content) (answer : Result (Unit {0}) DeskError) → Says (line_of Memory) old mid answer → SaysPart (line_of Desk) mid new → Excuses 5 old new
excuses_both old mid new answer memory says = inr (refl, record { between = mid; memory = said_part (line_of Memory) old mid answer memory; fault = says })

pub excuses_files : (status : ℕ) (old new : Content) → Excuses status old new → new.files ≡ old.files
excuses_files status old new (inl h) = h.1.says.files
excuses_files status old new (inr h) = h.1.fault.files ∙ h.1.memory.files

pub excuses_grow : (status : ℕ) (old new : Content) → Excuses status old new → IsFront old.said new.said
excuses_grow status old new (inl h) = part_grows (line_of Memory) old new (said_part (line_of Memory) old new h.1.answer h.1.says)
excuses_grow status old new (inr h) =
    grown_twice old h.1.between new (part_grows (line_of Memory) old h.1.between h.1.memory) (part_grows (line_of Desk) h.1.between new h.1.fault)

-- ---- files that are no output

others_kept : (outputs : List NamedText) (old new : Content) (result : Result (Unit {0}) DeskError) (name : List ℕ) → NamesNone outputs name → Writing outputs old new result
    → new.files name ≡ old.files name
others_kept [] old new (Ok u) name none w = ap (λ content. content.files name) w
others_kept [] old new (Err e) name none w = absurd w
others_kept (output ∷ later) old new (Ok u) name none w =
    others_kept later w.0 new (Ok u) name (All-tail (Differs name) output later none) w.2 ∙ w.1.only.others name (All-head (Differs name) output later none)
others_kept (output ∷ later) old new (Err e) name none (inl one) = one.only.others name (All-head (Differs name) output later none)
others_kept (output ∷ later) old new (Err e) name none (inr w) =
    others_kept later w.0 new (Err e) name (All-tail (Differs name) output later none) w.2 ∙ w.1.only.others name (All-head (Differs name) output later none)

said_kept : (outputs : List NamedText) (old new : Content) (result : Result (Unit {0}) DeskError) → Writing outputs old new result → new.said ≡ old.said
said_kept [] old new (Ok u) w = ap (λ content. content.said) w
said_kept [] old new (Err e) w = absurd w
said_kept (output ∷ later) old new (Ok u) w = said_kept later w.0 new (Ok u) w.2 ∙ w.1.only.said
said_kept (output ∷ later) old new (Err e) (inl one) = one.only.said
said_kept (output ∷ later) old new (Err e) (inr w) = said_kept later w.0 new (Err e) w.2 ∙ w.1.only.said

-- what is planned names outputs of the words alone
command_names : (words : List (List ℕ)) (command : PlainCommand) (texts : Texts) (name : List ℕ) → AreCommand words command → ¬ (NamesOutput words name)
    → NamesNone (outputs_with command texts) name
command_names words (Solve names) texts name are none =
    All-cons (Differs name) (record { name = names.to; text = texts.report }) [] (λ same. none (Solve names, are, (0, omega arith, sym same))) (All-nil (Differs name))
command_names words (Combine names) texts name are none =
    All-cons (Differs name) (record { name = names.out; text = texts.out }) (record { name = names.report; text = texts.report } ∷ []) (λ same. none (Combine names, are, (0, omega arith, sym same)))
    (All-cons (Differs name) (record { name = names.report; text = texts.report }) [] (λ same. none (Combine names, are, (1, omega arith, sym same))) (All-nil (Differs name)))

planned_names : (words : List (List ℕ)) (files : List ℕ → Option File) (outputs : List NamedText) (name : List ℕ) → IsPlanned words files outputs → ¬ (NamesOutput words name)
    → NamesNone outputs name
planned_names words files outputs name p none = subst (λ (os : List NamedText). NamesNone os name) (sym p.outputs_are) (command_names words p.command p.texts name p.are none)

pub untouched_by_writing : (words : List (List ℕ)) (outputs : List NamedText) (old mid new : Content) (result : Result (Unit {0}) DeskError) (name : List ℕ) → IsPlanned words old.files outputs → KeepsAll old mid
    → Writing outputs mid new result → ¬ (NamesOutput words name) → new.files name ≡ old.files name
untouched_by_writing words outputs old mid new result name p keeps w none =
    others_kept outputs mid new result name (planned_names words old.files outputs name p none) w ∙ ap (λ f. f name) keeps.files

pub said_by_writing : (outputs : List NamedText) (old mid new : Content) (result : Result (Unit {0}) DeskError) → KeepsAll old mid → Writing outputs mid new result → IsFront old.said new.said
said_by_writing outputs old mid new result keeps w = not_grown old new (said_kept outputs mid new result w ∙ keeps.said)

pub said_by_saying : (bytes : List ℕ) (old mid new : Content) (result : Result (Unit {0}) DeskError) → KeepsAll old mid → Says bytes mid new result → IsFront old.said new.said
said_by_saying bytes old mid new result keeps s =
    grown_twice old mid new (not_grown old mid keeps.said) (part_grows bytes mid new (said_part bytes mid new result s))

-- ---- files that are read

same_command : (words : List (List ℕ)) (a b : PlainCommand) → AreCommand words a → AreCommand words b → a ≡ b
same_command words a b h k = let e = words_are_one words (Ok a) (Ok b) h k in cc

only_at : (x name : List ℕ) (k : ℕ) → k < length (x ∷ []) → get_or (x ∷ []) k name ≡ name → x ≡ name
only_at x name zero lt e = e
only_at x name (suc k) lt e = absurd (omega arith)

either_at : (x y name : List ℕ) (k : ℕ) → k < length (x ∷ y ∷ []) → get_or (x ∷ y ∷ []) k name ≡ name → (x ≡ name) ⊎ (y ≡ name)
either_at x y name zero lt e = inl e
either_at x y name (suc zero) lt e = inr e
either_at x y name (suc (suc k)) lt e = absurd (omega arith)

goes_on : {X Y : Type 0} (first : Result X Refusal → Type 0) (next : X → Result Y Refusal → Type 0) (y : Y) → Then first next (Ok y) → GoesOn first next (Ok y)
goes_on first next y (inl f) = f
goes_on first next y (inr f) = let e = f.is_cause in absurd (cc)

-- no listed file is also the control file or an output
pub not_found : (found : Option PlainPlan) (kept : Unit {0}) → Ok kept ≡ apart_from found → found ≡ None
not_found None kept e = refl
not_found (Some plan) kept e = absurd (cc)

control_apart : (names : CombinedFiles) (files : List ℕ → Option File) (control : PlainControl) → ReadsControl names files (Ok control) → find (is_named names) control.files ≡ None
control_apart names files control reads =
    let text = goes_on _ _ control reads in
    let says = goes_on _ _ control text.onward in
    let kept = goes_on _ _ control says.onward in
    let all = goes_on _ _ control kept.onward in
    let same : says.gives ≡ control = let e = all.onward in cc in
    subst (λ (c : PlainControl). find (is_named names) c.files ≡ None) same (not_found (find (is_named names) says.gives.files) kept.gives kept.given)

none_found : (test : PlainPlan → Bool) (plans : List PlainPlan) (k : ℕ) (plan : PlainPlan) → find test plans ≡ None → k < length plans → get_or plans k plan ≡ plan → test plan ≡ false
none_found test [] k plan none lt e = absurd (omega arith)
none_found test (first ∷ rest) k plan none lt e = by_first (test first) refl none k lt e (λ k none lt e. none_found test rest k plan none lt e)
  where
    by_first : (passes : Bool) → test first ≡ passes → cond passes (Some first) (find test rest) ≡ None → (k : ℕ) → k < length (first ∷ rest) → get_or (first ∷ rest) k plan ≡ plan
        → ((k : ℕ) → find test rest ≡ None → k < length rest → get_or rest k plan ≡ plan → test plan ≡ false) → test plan ≡ false
    by_first true is none k lt e later = absurd (cc)
    by_first false is none zero lt e later = ap test (sym e) ∙ is
    by_first false is none (suc k) lt e later = later k none (omega arith) e

neither : (a b c : Bool) → (a || b || c) ≡ false → (b ≡ false) × (c ≡ false)
neither true b c e = absurd (cc)
neither false true c e = absurd (cc)
neither false false c e = (refl, e)

not_same : (one other : List ℕ) → bytes_eq one other ≡ false → one ≢ other
not_same one other e same = let f : true ≡ false = sym ((bytes_eq-Decides one other).1 same) ∙ e in cc

listed_apart : (names : CombinedFiles) (plan : PlainPlan) → is_named names plan ≡ false → (plan.name ≢ names.out) × (plan.name ≢ names.report)
listed_apart names plan e =
    let f = neither (bytes_eq plan.name names.control) (bytes_eq plan.name names.out) (bytes_eq plan.name names.report) e in
    (not_same plan.name names.out f.0, not_same plan.name names.report f.1)

abbrev Lists : PlainControl → List ℕ → Type 0
Lists control name = Any (λ (plan : PlainPlan). plan.name ≡ name) control.files

listed_alone : (from name : List ℕ) → Lists (alone_control from) name → from ≡ name
listed_alone from name (k, plan, lt, e, is) = at_first k lt e
  where
    at_first : (k : ℕ) → k < length (alone_plan from ∷ []) → get_or (alone_plan from ∷ []) k plan ≡ plan → from ≡ name
    at_first zero lt e = ap (λ (p : PlainPlan). p.name) e ∙ is
    at_first (suc k) lt e = absurd (omega arith)

not_output : (words : List (List ℕ)) (files : List ℕ → Option File) (command : PlainCommand) (name : List ℕ) → AreCommand words command
    → (name ≡ named_input command) ⊎ ((control : PlainControl) × HasControl command files (Ok control) × Lists control name) → Contains (outputs_of command) name → ⊥
not_output words files (Solve names) name are (inl same) output = are.differ (sym same ∙ sym (only_at names.to name output.0 output.1 output.2))
not_output words files (Solve names) name are (inr listed) output =
    let alone : listed.0 ≡ alone_control names.from = let e = listed.1 in cc in
    let from = listed_alone names.from name (subst (λ control. Lists control name) alone listed.2) in
    are.differ (from ∙ sym (only_at names.to name output.0 output.1 output.2))
not_output words files (Combine names) name are (inl same) output =
    elim (either_at names.out names.report name output.0 output.1 output.2) [
      | inl out ↦ are.control_and_out (sym same ∙ sym out)
      | inr report ↦ are.control_and_report (sym same ∙ sym report)
    ]
not_output words files (Combine names) name are (inr listed) output =
    let plan = listed.2.1 in
    let is : plan.name ≡ name = listed.2.4 in
    let apart = listed_apart names plan (none_found (is_named names) listed.0.files listed.2.0 plan (control_apart names files listed.0 listed.1) listed.2.2 listed.2.3) in
    elim (either_at names.out names.report name output.0 output.1 output.2) [
      | inl out ↦ apart.0 (is ∙ sym out)
      | inr report ↦ apart.1 (is ∙ sym report)
    ]

-- a file that is read is no output
pub reads_is_none : (words : List (List ℕ)) (files : List ℕ → Option File) (name : List ℕ) → ReadsName words files name → ¬ (NamesOutput words name)
reads_is_none words files name reads named =
    let same = same_command words named.0 reads.command named.1 reads.are in
    not_output words files reads.command name reads.are reads.reads (subst (λ command. Contains (outputs_of command) name) same named.2)

-- ---- where a run stopped, by one output

-- a file that stands where none was before
stands_now : (name : List ℕ) (file : Option File) (there : File) → file ≡ None → file ≡ Some there → ⊥
stands_now name file there none some = let e : Some there ≡ None = sym some ∙ none in cc

part_stands : (name text : List ℕ) (old new : Content) (file : File) → old.files name ≡ None → new.files name ≡ Some file
    → (new.files name ≡ old.files name) ⊎ HoldsPart name text new → IsFront file.bytes text
part_stands name text old new file none some (inl same) = absurd (stands_now name (new.files name) file (same ∙ none) some)
part_stands name text old new file none some (inr part) =
    let e : Some file ≡ Some (record { bytes = part.0; finished = false }) = sym some ∙ part.2 in
    let bytes : part.0 ≡ file.bytes = bytes_same file part.0 e in
    subst (λ b. IsFront b text) bytes part.1
  where
    bytes_same : (file : File) (bytes : List ℕ) → Some file ≡ Some (record { bytes = bytes; finished = false }) → bytes ≡ file.bytes
    bytes_same file bytes e = let same : file ≡ record { bytes = bytes; finished = false } = cc in ap (λ (f : File). f.bytes) (sym same)

-- the one output of a list that was cut
only_cut : (output : NamedText) (earlier : List NamedText) (cut : NamedText) (later : List NamedText) → output ∷ [] ≡ earlier ++ cut ∷ later → (earlier ≡ []) × (cut ≡ output)
only_cut output [] cut later e = (refl, cc)
only_cut output (first ∷ []) cut later e = absurd (cc)
only_cut output (first ∷ second ∷ rest) cut later e = absurd (cc)

cut_front : (output : NamedText) (old new : Content) (file : File) → StandsCut (output ∷ []) old new → old.files output.name ≡ None → new.files output.name ≡ Some file → IsFront file.bytes output.text
cut_front output old new file h none some =
    let one = only_cut output h.earlier h.cut h.later h.in_order in
    part_stands output.name output.text old new file none some
    (subst (λ (o : NamedText). (new.files o.name ≡ old.files o.name) ⊎ HoldsPart o.name o.text new) one.1 h.stands)

cut_others : (output : NamedText) (old new : Content) (name : List ℕ) → StandsCut (output ∷ []) old new → name ≢ output.name → new.files name ≡ old.files name
cut_others output old new name h differs =
    let one = only_cut output h.earlier h.cut h.later h.in_order in
    let alone : NamesNone (output ∷ []) name = All-cons (Differs name) output [] differs (All-nil (Differs name)) in
    let cut : h.earlier ++ h.cut ∷ [] ≡ output ∷ [] = ap (λ (e : List NamedText). e ++ h.cut ∷ []) one.0 ∙ ap (λ (o : NamedText). o ∷ []) one.1 in
    h.others name (subst (λ (os : List NamedText). NamesNone os name) (sym cut) alone)

pub stopped_front : (output : NamedText) (old new : Content) (file : File) → StoppedAt (Ok (output ∷ [])) old new → old.files output.name ≡ None → new.files output.name ≡ Some file
    → IsFront file.bytes output.text
stopped_front output old new file h none some =
    let before : h.read.files output.name ≡ None = ap (λ f. f output.name) h.keeps.files ∙ none in
    elim h.onward [
      | inl same ↦ absurd (stands_now output.name (new.files output.name) file (ap (λ (content : Content). content.files output.name) same ∙ before) some)
      | inr cut ↦ cut_front output h.read new file cut before some
    ]

pub stopped_others : (output : NamedText) (old new : Content) (name : List ℕ) → StoppedAt (Ok (output ∷ [])) old new → name ≢ output.name → new.files name ≡ old.files name
stopped_others output old new name h differs =
    let before = ap (λ (f : List ℕ → Option File). f name) h.keeps.files in
    elim h.onward [
      | inl same ↦ ap (λ (content : Content). content.files name) same ∙ before
      | inr cut ↦ cut_others output h.read new name cut differs ∙ before
    ]

-- ---- where a run stopped, by two outputs

first_of_two : (one two cut : NamedText) (earlier later : List NamedText) → one ∷ two ∷ [] ≡ earlier ++ cut ∷ later → (earlier ≡ []) × (later ≡ two ∷ []) ⊎ (head : List NamedText) × (earlier ≡ one ∷ head)
first_of_two one two cut [] later e = inl (refl, cc)
first_of_two one two cut (first ∷ rest) later e = inr (rest, cc)

cut_second : (one two : NamedText) (old new : Content) (file : File) → StandsCut (one ∷ two ∷ []) old new → old.files two.name ≡ None → new.files two.name ≡ Some file → HoldsWhole one new
cut_second one two old new file h none some =
    elim (first_of_two one two h.cut h.earlier h.later h.in_order) [
      | inl at ↦
          let kept = subst (λ (os : List NamedText). All (λ (o : NamedText). new.files o.name ≡ old.files o.name) os) at.1 h.untouched in
          absurd (stands_now two.name (new.files two.name) file (All-head (λ (o : NamedText). new.files o.name ≡ old.files o.name) two [] kept ∙ none) some)
      | inr at ↦ All-head (λ (o : NamedText). HoldsWhole o new) one at.0 (subst (λ (os : List NamedText). All (λ (o : NamedText). HoldsWhole o new) os) at.1 h.whole)
    ]

pub stopped_second : (one two : NamedText) (old new : Content) (file : File) → StoppedAt (Ok (one ∷ two ∷ [])) old new → old.files two.name ≡ None → new.files two.name ≡ Some file
    → HoldsWhole one new
stopped_second one two old new file h none some =
    let before : h.read.files two.name ≡ None = ap (λ f. f two.name) h.keeps.files ∙ none in
    elim h.onward [
      | inl same ↦ absurd (stands_now two.name (new.files two.name) file (ap (λ (content : Content). content.files two.name) same ∙ before) some)
      | inr cut ↦ cut_second one two h.read new file cut before some
    ]
