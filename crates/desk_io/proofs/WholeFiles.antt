-- A file that is written piece by piece.
use Rattle.std.proofs.Common.{◌≡◌, ◌≤◌, ◌+◌, ◌++◌, ℕ, List, [], length, take, drop, Some, Ok, Err, Result, refl, ap, ◌∙◌, sym, append_assoc, append-nil, ◌-◌, arith, subst, false, inr}
use Rattle.std.proofs.Math.Seq.{take-add}
use Rattle.std.proofs.lemmas.List.{take-append-drop, take_all}
use Rattle.desk_io.specs.Content.{Content, SameBut}
use Rattle.desk_io.specs.Desk.{Creates, Writes, Finishes}
use Rattle.desk_io.specs.Whole.{WritesFile}
use Rattle.desk_io.specs.declared.desk.DeskError.{DeskError}

-- the file that is written holds this, and all else is as before
pub record HasWritten (name part : List ℕ) (old new : Content) : Type 0 where
  pub said : new.said ≡ old.said
  pub left : new.left ≡ old.left
  pub current : new.current ≡ name
  pub others : SameBut name old new
  pub file : new.files name ≡ Some (record { bytes = part; finished = false })

pub created : (name : List ℕ) (old new : Content) (u : Unit {0}) → Creates name old new (Ok u) → HasWritten name [] old new
created name old new u h = record { said = h.said; left = h.left; current = h.current; others = h.others; file = h.empty }

pub written : (name part piece : List ℕ) (old now new : Content) (u : Unit {0}) → HasWritten name part old now → Writes piece now new (Ok u) → HasWritten name (part ++ piece) old new
written name part piece old now new u so h = record {
  said = h.said ∙ so.said;
  left = h.left ∙ so.left;
  current = h.current ∙ so.current;
  others = λ other differs. h.others other (λ same. differs (same ∙ so.current)) ∙ so.others other differs;
  file = ap new.files (sym so.current) ∙ h.appended (record { bytes = part; finished = false }) (ap now.files so.current ∙ so.file);
}

-- a refused write leaves a part of the text
pub cut_short : (name part piece rest text : List ℕ) (old now new : Content) (e : DeskError) → HasWritten name part old now → text ≡ (part ++ piece) ++ rest → Writes piece now new (Err e) → WritesFile name text old new (Err e)
cut_short name part piece rest text old now new e so split h =
    let left = h.appended (record { bytes = part; finished = false }) (ap now.files so.current ∙ so.file) in
    let whole : text ≡ (part ++ left.0) ++ (((left.1).0) ++ rest) = rw (split, (left.1).1, append_assoc, append_assoc, append_assoc) refl in
    record {
      said = h.said ∙ so.said;
      left = h.left ∙ so.left;
      others = λ other differs. h.others other (λ same. differs (same ∙ so.current)) ∙ so.others other differs;
      whole = tt;
      part = inr (part ++ left.0, ((left.1).0 ++ rest, whole), ap new.files (sym so.current) ∙ left.2);
    }

-- the end of the file
pub ended : (name text : List ℕ) (old now new : Content) (result : Result (Unit {0}) DeskError) → HasWritten name text old now → Finishes now new result → WritesFile name text old new result
ended name text old now new (Ok u) so h = record {
  said = h.said ∙ so.said;
  left = h.left ∙ so.left;
  others = λ other differs. h.others other (λ same. differs (same ∙ so.current)) ∙ so.others other differs;
  whole = ap new.files (sym so.current) ∙ h.done (record { bytes = text; finished = false }) (ap now.files so.current ∙ so.file);
  part = tt;
}
ended name text old now new (Err e) so h = record {
  said = h.said ∙ so.said;
  left = h.left ∙ so.left;
  others = λ other differs. h.others other (λ same. differs (same ∙ so.current)) ∙ so.others other differs;
  whole = tt;
  part = inr (text, ([], sym (append-nil text)), ap (λ f. f name) h.refused.files ∙ so.file);
}

-- the first bytes up to an end, in two parts
pub up_to : (text : List ℕ) (at end : ℕ) → at ≤ end → take at text ++ take (end - at) (drop at text) ≡ take end text
up_to text at end le = let sum : at + (end - at) ≡ end = omega arith in sym (take-add at (end - at) text) ∙ ap (λ n. take n text) sum

-- a text is its first bytes, a piece, and the rest
pub three_parts : (text : List ℕ) (at end : ℕ) → at ≤ end → text ≡ (take at text ++ take (end - at) (drop at text)) ++ drop end text
three_parts text at end le = sym (ap (λ p. p ++ drop end text) (up_to text at end le) ∙ take-append-drop end text)

pub written_to : (name text : List ℕ) (at end : ℕ) (old now new : Content) (u : Unit {0}) → at ≤ end → HasWritten name (take at text) old now → Writes (take (end - at) (drop at text)) now new (Ok u) → HasWritten name (take end text) old new
written_to name text at end old now new u le so h = subst (λ p. HasWritten name p old new) (up_to text at end le) (written name (take at text) (take (end - at) (drop at text)) old now new u so h)

pub ended_at : (name text : List ℕ) (at : ℕ) (old now new : Content) (result : Result (Unit {0}) DeskError) → length text ≤ at → HasWritten name (take at text) old now → Finishes now new result → WritesFile name text old new result
ended_at name text at old now new result le so h = ended name text old now new result (subst (λ p. HasWritten name p old now) (take_all at text le) so) h
