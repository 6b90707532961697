-- What stands after several files of different names were written.
use Rattle.std.proofs.Common.{◌≡◌, ◌≢◌, ◌⊎◌, ◌++◌, ◌∷◌, ℕ, List, [], None, Ok, Err, Result, refl, sym, ap, ◌∙◌, subst, inl, inr, arith}
use Rattle.std.specs.List.{All}
use Rattle.std.proofs.lemmas.List.Elements.{All-nil, All-cons, All-head, All-tail, All-append}
use Rattle.desk_io.specs.Content.{Content, KeepsAll, SameBut}
use Rattle.desk_io.specs.Whole.{HoldsPart, WritesFile}
use Rattle.desk_io.specs.Outputs.{NamedText, HoldsWhole, CutsOne, AllWritten, CutAmong, Writing, NamesNone, NamesDiffer, StandsWhole, StandsCut, Stands}
use Rattle.desk_io.specs.declared.desk.DeskError.{DeskError}

-- what holds of each element of two lists, one after the other, holds of each of both
All-parts : {X : Type 0} (P : X → Type 0) (xs ys : List X) → All P (xs ++ ys) → All P xs × All P ys
All-parts P [] ys all = (All-nil P, all)
All-parts P (x ∷ xs) ys all =
    let rest = All-parts P xs ys (All-tail P x (xs ++ ys) all) in
    (All-cons P x xs (All-head P x (xs ++ ys) all) rest.0, rest.1)

-- whether an output of the list has this name
abbrev Differs : List ℕ → NamedText → Type 0
Differs name output = name ≢ output.name

pub stands_whole : (outputs : List NamedText) (old new : Content) → NamesDiffer outputs → AllWritten outputs old new → StandsWhole outputs old new
stands_whole [] old new differ same = record {
  whole = All-nil (λ output. HoldsWhole output new);
  others = λ name none. ap (λ content. content.files name) same;
  said = ap (λ content. content.said) same;
  left = ap (λ content. content.left) same;
}
stands_whole (output ∷ later) old new differ written =
    let one = written.1 in
    let rest = stands_whole later (written.0) new differ.1 written.2 in
    record {
      whole = All-cons (λ output. HoldsWhole output new) output later (rest.others output.name differ.0 ∙ one.whole) rest.whole;
      others = λ name none. rest.others name (All-tail (Differs name) output later none) ∙ one.only.others name (All-head (Differs name) output later none);
      said = rest.said ∙ one.only.said;
      left = rest.left ∙ one.only.left;
    }

kept_or_part : (output : NamedText) (old new : Content) → KeepsAll old new ⊎ HoldsPart output.name output.text new → (new.files output.name ≡ old.files output.name) ⊎ HoldsPart output.name output.text new
kept_or_part output old new (inl keeps) = inl (ap (λ files. files output.name) keeps.files)
kept_or_part output old new (inr part) = inr part

kept_before : (output : NamedText) (old next new : Content) → next.files output.name ≡ old.files output.name
    → (new.files output.name ≡ next.files output.name) ⊎ HoldsPart output.name output.text new → (new.files output.name ≡ old.files output.name) ⊎ HoldsPart output.name output.text new
kept_before output old next new before (inl same) = inl (same ∙ before)
kept_before output old next new before (inr part) = inr part

pub stands_cut : (outputs : List NamedText) (old new : Content) → NamesDiffer outputs → CutAmong outputs old new → StandsCut outputs old new
stands_cut [] old new differ none = absurd none
stands_cut (output ∷ later) old new differ (inl one) = record {
  earlier = [];
  cut = output;
  later = later;
  in_order = refl;
  whole = All-nil (λ output. HoldsWhole output new);
  stands = kept_or_part output old new one.stands;
  untouched = λ k d within. one.only.others _ (λ same. differ.0 k d within (sym same));
  others = λ name none. one.only.others name (All-head (Differs name) output [] none);
  said = one.only.said;
  left = one.only.left;
}
stands_cut (output ∷ later) old new differ (inr written) =
    let one = written.1 in
    let rest = stands_cut later (written.0) new differ.1 written.2 in
    let apart = All-parts (Differs output.name) rest.earlier (rest.cut ∷ rest.later) (subst (λ outputs. NamesNone outputs output.name) rest.in_order differ.0) in
    let from_cut = All-head (Differs output.name) rest.cut rest.later apart.1 in
    let from_later = All-tail (Differs output.name) rest.cut rest.later apart.1 in
    let from_these = All-append (Differs output.name) rest.earlier (rest.cut ∷ []) apart.0 (All-cons (Differs output.name) rest.cut [] from_cut (All-nil (Differs output.name))) in
    record {
      earlier = output ∷ rest.earlier;
      cut = rest.cut;
      later = rest.later;
      in_order = ap (λ outputs. output ∷ outputs) rest.in_order;
      whole = All-cons (λ output. HoldsWhole output new) output rest.earlier (rest.others output.name from_these ∙ one.whole) rest.whole;
      stands = kept_before rest.cut old (written.0) new (one.only.others rest.cut.name (λ same. from_cut (sym same))) rest.stands;
      untouched = λ k d within. rest.untouched k d within ∙ one.only.others _ (λ same. from_later k d within (sym same));
      others = λ name none. rest.others name (All-tail (Differs name) output (rest.earlier ++ rest.cut ∷ []) none) ∙ one.only.others name (All-head (Differs name) output (rest.earlier ++ rest.cut ∷ []) none);
      said = rest.said ∙ one.only.said;
      left = rest.left ∙ one.only.left;
    }

pub stands : (outputs : List NamedText) (old new : Content) (result : Result (Unit {0}) DeskError) → NamesDiffer outputs → Writing outputs old new result → Stands outputs old new result
stands outputs old new (Ok u) differ written = stands_whole outputs old new differ written
stands outputs old new (Err e) differ cut = stands_cut outputs old new differ cut

-- ---- lists of one and two

pub one_is_a_file : (output : NamedText) (old new : Content) (result : Result (Unit {0}) DeskError) → Writing (output ∷ []) old new result → WritesFile output.name output.text old new result
one_is_a_file output old new (Ok u) written =
    let all = stands_whole (output ∷ []) old new ((λ k d none. absurd (omega arith)), tt) written in
    record {
      said = all.said;
      left = all.left;
      others = λ name differs. all.others name (All-cons (Differs name) output [] differs (All-nil (Differs name)));
      whole = All-head (λ output. HoldsWhole output new) output [] all.whole;
      part = tt;
    }
one_is_a_file output old new (Err e) (inl one) = record { said = one.only.said; left = one.only.left; others = one.only.others; whole = tt; part = one.stands }
one_is_a_file output old new (Err e) (inr written) = absurd (written.2)

cut_is_not_whole : (output : NamedText) (next new : Content) → next.files output.name ≡ None → CutsOne output next new → ¬ (HoldsWhole output new)
cut_is_not_whole output next new none one whole = not_whole one.stands
  where
    not_whole : KeepsAll next new ⊎ HoldsPart output.name output.text new → ⊥
    not_whole (inl keeps) = let same = ap (λ files. files output.name) keeps.files in grind arith
    not_whole (inr part) = let held = part.2 in grind arith

cut_alone_is_not_whole : (output : NamedText) (next new : Content) → next.files output.name ≡ None → CutAmong (output ∷ []) next new → ¬ (HoldsWhole output new)
cut_alone_is_not_whole output next new none (inl one) = cut_is_not_whole output next new none one
cut_alone_is_not_whole output next new none (inr written) = absurd (written.2)

pub second_is_not_whole : (first second : NamedText) (old new : Content) → first.name ≢ second.name → old.files second.name ≡ None → CutAmong (first ∷ second ∷ []) old new → ¬ (HoldsWhole second new)
second_is_not_whole first second old new differ none (inl one) whole =
    let same = one.only.others second.name (λ e. differ (sym e)) in
    grind arith
second_is_not_whole first second old new differ none (inr written) whole =
    cut_alone_is_not_whole second (written.0) new ((written.1).only.others second.name (λ e. differ (sym e)) ∙ none) written.2 whole
