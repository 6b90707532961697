-- What the calls of a column answer is the column.
use Rattle.std.proofs.Common.{◌≡◌, ◌≤◌, ◌<◌, ◌^◌, ◌∙◌, inl, inr, ℕ, ℤ, pos, List, length, unsigned_abs, refl, sym, ap, subst, arith}
use Rattle.std.proofs.Math.Decide.{ℕ_discrete}
use Rattle.stated_order.proofs.StepLaws.{then_gives}
use Rattle.whole_numbers.specs.Intervals.{Interval, size, point_interval}
use Rattle.whole_numbers.specs.Lists.{at}
use Rattle.whole_numbers.specs.Sum.{unit}
use Rattle.whole_numbers.proofs.Powers.{ten_le}
use Rattle.whole_numbers.proofs.Sums.{unit_here, unit_other, le-total_to}
use Rattle.sym_blocks.specs.Tables.{SymTable}
use Rattle.sys_model.specs.Systems.{Encloses}
use Rattle.equil.specs.Tables.{table_of}
use Rattle.enclosures.specs.Pilots.{PilotTable}
use Rattle.enclosures.specs.Radii.{radius_at}
use Rattle.enclosures.specs.Vectors.{IsSmall}
use Rattle.enclosures.specs.declared.Radius.{Radius}
use Rattle.enclosure_check.specs.Answers.{IsCheckRefused}
use Rattle.enclosure_check.specs.Certificates.{IsCertified}
use Rattle.enclosure_check.specs.Inputs.{IsRightSide}
use Rattle.enclosure_check.specs.Steps.{certificate_of, IsVectorOf, IsCertificateStep}
use Rattle.enclosure_check.specs.Vectors.{IsStartVector}
use Rattle.enclosure_check.specs.declared.CheckError.{CheckError}
use Rattle.enclosure_check.specs.declared.CheckError.TheVariants as check
use Rattle.enclosure_check.proofs.StepCalls.{is_vector, is_certificate, check_refused}
use Rattle.inv_enclose.specs.Refusals.{of_check}
use Rattle.inv_enclose.specs.Columns.{IsUnitSide, IsColumn}
use Rattle.inv_enclose.specs.Parts.{IsEnclosedColumn}
use Rattle.inv_enclose.proofs.StepLaws.{MemoryOr, renamed_or, stops_or, goes_or}

-- ---- right sides
unit_small : (v c i : ℕ) → v ≤ 34 → size (point_interval (unit c (pos (10 ^ v)) i)) ≤ 10 ^ 37
unit_small v c i few =
    let t = ten_le v 37 (omega arith) in
    elim (ℕ_discrete i c) [
      | yes is ↦ let u : unit c (pos (10 ^ v)) i ≡ pos (10 ^ v) = ap (unit c (pos (10 ^ v))) is ∙ unit_here c (pos (10 ^ v)) in subst (λ z. size (point_interval z) ≤ 10 ^ 37) (sym u) (omega arith)
      | no other ↦ subst (λ z. size (point_interval z) ≤ 10 ^ 37) (sym (unit_other c (pos (10 ^ v)) i other)) (omega arith)
    ]

pub unit_right : (n v c : ℕ) (d : List Interval) → v ≤ 34 → IsUnitSide n v c d → IsRightSide n d
unit_right n v c d few is = record { len = is.len; small = λ i row. subst (λ w. size w ≤ 10 ^ 37) (sym (is.each i row)) (unit_small v c i few) }

-- a number of a small vector
pub number_small : (n : ℕ) (y : List ℤ) (i : ℕ) → IsSmall n (at y) → i < n → unsigned_abs (at y i) ≤ 2 ^ 64
number_small n y i small row = let l = le-total_to n (λ k. unsigned_abs (at y k)) i row in omega arith

-- ---- columns
module _ (n : ℕ) (a : SymTable) (p : PilotTable) (v c : ℕ) (d : List Interval) (is_unit : IsUnitSide n v c d) (y : List ℤ) (len : length y ≡ n) (start : IsStartVector n (table_of a d) p (at y)) where
  of_y : IsVectorOf n (table_of a d) p y
  of_y = is_vector n n refl (table_of a d) p y len start

  pub check_refuses : (x : CheckError) → IsCheckRefused n (table_of a d) p (at y) x → MemoryOr (IsColumn n a p v c) (of_check x)
  check_refuses x refused =
      elim (goes_or _ _ y (of_check x) of_y (stops_or _ _ (of_check x) (renamed_or of_check check.Memory (IsCertificateStep n (table_of a d) p y) x refl (check_refused n n refl (table_of a d) p y x refused)))) [
        | inl e ↦ inl e
        | inr r ↦ inr (d, is_unit, r)
      ]

  pub encloses_column : (radius : Radius) → IsCertified n (table_of a d) p (at y) radius → Encloses n (table_of a d) (at y) (radius_at radius) → IsEnclosedColumn n a p v c (record { vector = y; certificate = certificate_of radius })
  encloses_column radius certified encloses = record {
    right = d;
    is_unit = is_unit;
    is_column = then_gives _ _ y _ of_y (then_gives _ _ (certificate_of radius) _ (is_certificate n n refl (table_of a d) p y radius certified) refl);
    encloses = encloses;
  }
