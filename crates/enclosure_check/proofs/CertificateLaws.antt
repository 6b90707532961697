-- The greatest of a list, and what the numbers of a certificate say.
use Rattle.std.proofs.Common.{◌≡◌, ◌∙◌, ◌≤◌, ◌<◌, ◌+◌, ◌*◌, ◌^◌, ℕ, zero, suc, ℤ, max, slice_index, List, length, ap, refl, sym, subst, arith, add-one}
use Rattle.std.proofs.Math.Decide.{dec_lt}
use Rattle.whole_numbers.specs.Quotients.{up_over}
use Rattle.whole_numbers.specs.Intervals.{Holds}
use Rattle.sys_model.specs.Systems.{Table, Encloses, around, rho, radius}
use Rattle.sys_model.proofs.Exist.{encloses}
use Rattle.enclosures.specs.Pilots.{PilotTable, pilot_entry}
use Rattle.enclosures.specs.Radii.{radius_at}
use Rattle.enclosure_check.specs.declared.CheckError.{CheckError}
use Rattle.enclosure_check.specs.declared.CheckError.TheVariants.{Residual, Defect, Memory}
use Rattle.enclosures.specs.declared.Radius.{Radius}
use Rattle.enclosure_check.specs.Answers.{IsCheckRefused}
use Rattle.enclosure_check.specs.CertificateLists.{greatest_of, IsFirstGreatest, HasRadii, IsLarge, IsErrorRefused, IsWhole, IsDefectRefused, IsRefusedOf, Certifies}
use Rattle.whole_numbers.specs.Lists.{NonePast}
use Rattle.enclosure_check.specs.Certificates.{parts_of, error_of, IsCertified, IsResidual, IsDefect, AreErrors, AreDefects}
use Rattle.whole_numbers.specs.Least.{greatest_to}

pub greatest_to_le : (n : ℕ) (f : ℕ → ℕ) (a : ℕ) → ((k : ℕ) → k < n → f k ≤ a) → greatest_to n f ≤ a
greatest_to_le zero f a h = omega arith
greatest_to_le (suc n) f a h = omega (arith, h n (omega arith), greatest_to_le n f a (λ k l. h k (omega arith)))

pub le-greatest_to : (n : ℕ) (f : ℕ → ℕ) (k : ℕ) → k < n → f k ≤ greatest_to n f
le-greatest_to zero f k h = absurd (omega arith)
le-greatest_to (suc n) f k h =
    elim (dec_lt k n) [
      | yes l ↦ omega (arith, le-greatest_to n f k l)
      | no l ↦ let e : k ≡ n = omega arith in omega (arith, ap f e)
    ]

pub greatest_to_same : (n : ℕ) (f h : ℕ → ℕ) → ((k : ℕ) → k < n → f k ≡ h k) → greatest_to n f ≡ greatest_to n h
greatest_to_same zero f h e = refl
greatest_to_same (suc n) f h e = omega (arith, e n (omega arith), greatest_to_same n f h (λ k l. e k (omega arith)))

greatest_to_more : (n : ℕ) (f : ℕ → ℕ) → greatest_to (n + 1) f ≡ max (greatest_to n f) (f n)
greatest_to_more n f = rw add-one refl

-- the greatest of the first row numbers and where it stands first, with one number more
pub record AreGreatest (xs : List ℕ) (row place most : ℕ) : Type 0 where
  pub greatest : most ≡ greatest_to row (slice_index xs)
  pub first : 0 < most → IsFirstGreatest xs place most

pub greatest_moves : (xs : List ℕ) (row most : ℕ) → row < length xs → most ≡ greatest_to row (slice_index xs) → most < slice_index xs row → AreGreatest xs (row + 1) row (slice_index xs row)
greatest_moves xs row most within e past = record {
  greatest = omega (arith, greatest_to_more row (slice_index xs));
  first = λ s. record { within = within; here = refl; before = λ k l. omega (arith, le-greatest_to row (slice_index xs) k l) };
}

pub greatest_stays : (xs : List ℕ) (row first most : ℕ) → AreGreatest xs row first most → slice_index xs row ≤ most → AreGreatest xs (row + 1) first most
greatest_stays xs row first most g past = record { greatest = omega (arith, g.greatest, greatest_to_more row (slice_index xs)); first = g.first }

-- ---- from the lists to the rows
greatest_is : (n : ℕ) (xs : List ℕ) (f : ℕ → ℕ) → length xs ≡ n → ((k : ℕ) → k < n → slice_index xs k ≡ f k) → greatest_of xs ≡ greatest_to n f
greatest_is n xs f len each = ap (λ m. greatest_to m (slice_index xs)) len ∙ greatest_to_same n (slice_index xs) f each

-- these are the errors and the defects, and no error passes its bound
pub record Found (n : ℕ) (t : Table) (p : PilotTable) (y : ℕ → ℤ) (errors defects : List ℕ) : Type 0 where
  pub are_errors : AreErrors n t p y errors
  pub are_defects : AreDefects n t p defects
  pub small : NonePast (2 ^ 66) errors

pub is_certified : (n : ℕ) (t : Table) (p : PilotTable) (y : ℕ → ℤ) (errors defects : List ℕ) (v : Radius) → Found n t p y errors defects → HasRadii errors defects v → IsCertified n t p y v
is_certified n t p y errors defects v f r = let e = f.are_errors in let d = f.are_defects in record {
  h = e.h;
  shift = e.shift;
  parts = r.parts ∙ greatest_is n defects (parts_of n t p) d.len d.each;
  error = r.error ∙ greatest_is n errors (error_of n t p y e.h) e.len e.each;
  error_fits = omega (arith, r.error, greatest_to_le (length errors) (slice_index errors) (2 ^ 66) f.small);
  parts_fit = r.parts_fit;
  len = r.len ∙ e.len;
  radii = λ i l.
      r.radii i (omega (arith, e.len))
      ∙ ap (λ m. m + up_over (slice_index defects i * rho v.b v.m) (2 ^ 30)) (e.each i l)
      ∙ ap (λ b. error_of n t p y e.h i + up_over (b * rho v.b v.m) (2 ^ 30)) (d.each i l);
}

pub is_defect : (n : ℕ) (t : Table) (p : PilotTable) (y : ℕ → ℤ) (errors defects : List ℕ) (row parts : ℕ) → Found n t p y errors defects → IsWhole defects row parts → IsDefect n t p y row parts
is_defect n t p y errors defects row parts f w =
    let e = f.are_errors in
    let d = f.are_defects in
    let inside : row < n = omega (arith, w.first.within, d.len) in
    record {
      h = e.h;
      shift = e.shift;
      errors = λ i l. omega (arith, f.small i (omega (arith, e.len)), e.each i l);
      within = inside;
      here = sym w.first.here ∙ d.each row inside;
      greatest = w.greatest ∙ greatest_is n defects (parts_of n t p) d.len d.each;
      before = λ i l. omega (arith, w.first.before i l, d.each i (omega arith));
      past = w.past;
    }

is_residual : (n : ℕ) (t : Table) (p : PilotTable) (y : ℕ → ℤ) (errors : List ℕ) (row error : ℕ) → AreErrors n t p y errors → IsLarge errors row error → IsResidual n t p y row error
is_residual n t p y errors row error e l =
    let inside : row < n = omega (arith, l.within, e.len) in
    record {
      h = e.h;
      shift = e.shift;
      within = inside;
      before = λ i k. omega (arith, l.before i k, e.each i (omega arith));
      here = sym l.here ∙ e.each row inside;
      past = l.past;
    }

-- a refusal of the errors is one of the certificate
pub error_refused : (n : ℕ) (t : Table) (p : PilotTable) (y : ℕ → ℤ) (errors : List ℕ) (r : CheckError) → AreErrors n t p y errors → IsErrorRefused errors r → IsCheckRefused n t p y r
error_refused n t p y errors (Residual row size) e l = is_residual n t p y errors row size e l
error_refused n t p y errors (Defect row parts) e l = absurd l
error_refused n t p y errors Memory e l = absurd l

-- so is one of the lists of both
pub lists_refused : (n : ℕ) (t : Table) (p : PilotTable) (y : ℕ → ℤ) (errors defects : List ℕ) (r : CheckError) → AreErrors n t p y errors → AreDefects n t p defects → IsRefusedOf errors defects r → IsCheckRefused n t p y r
lists_refused n t p y errors defects (Residual row size) e d l = is_residual n t p y errors row size e l
lists_refused n t p y errors defects (Defect row parts) e d l = is_defect n t p y errors defects row parts (record { are_errors = e; are_defects = d; small = l.0 }) l.1
lists_refused n t p y errors defects Memory e d l = tt

-- a refusal of the defects, where no error passes its bound, is one of both lists
pub defect_refused : (errors defects : List ℕ) (r : CheckError) → NonePast (2 ^ 66) errors → IsDefectRefused defects r → IsRefusedOf errors defects r
defect_refused errors defects (Residual row size) small l = absurd l
defect_refused errors defects (Defect row parts) small l = (small, l)
defect_refused errors defects Memory small l = tt

-- an error alone refuses both lists
pub large_refused : (errors defects : List ℕ) (r : CheckError) → IsErrorRefused errors r → IsRefusedOf errors defects r
large_refused errors defects (Residual row size) l = l
large_refused errors defects (Defect row parts) l = absurd l
large_refused errors defects Memory l = absurd l

-- ---- the law
-- radii that are the same on the rows enclose the same
same_radii : (n : ℕ) (t : Table) (y : ℕ → ℤ) (w u : ℕ → ℕ) → ((i : ℕ) → i < n → u i ≡ w i) → Encloses n t y w → Encloses n t y u
same_radii n t y w u same e = record {
  contains = λ S v lies sol i l. subst (λ r. Holds (around (y i) r) (v.x i) v.s) (sym (same i l)) (e.contains S v lies sol i l);
  same = e.same;
  solvable = e.solvable;
}

certified_encloses : (n : ℕ) (t : Table) (p : PilotTable) (y : ℕ → ℤ) (v : Radius) (c : IsCertified n t p y v) → c.h ≤ 60 → Encloses n t y (radius_at v)
certified_encloses n t p y v c few =
    same_radii n t y (radius n p.g c.h (pilot_entry p) t y v.b v.m) (radius_at v) c.radii
    (encloses n p.g c.h (pilot_entry p) t y v.b v.m (record {
      shift = few;
      parts = λ i l. omega (arith, c.parts, le-greatest_to n (parts_of n t p) i l);
      errors = λ i l. omega (arith, c.error, le-greatest_to n (error_of n t p y c.h) i l);
      below = c.parts_fit;
    }))

pub certifies : (errors defects : List ℕ) (v : Radius) → NonePast (2 ^ 66) errors → HasRadii errors defects v → Certifies errors defects v
certifies errors defects v small r n t p y e d =
    let c = is_certified n t p y errors defects v (record { are_errors = e; are_defects = d; small = small }) r in
    (c, certified_encloses n t p y v c (unfold is_certified in e.few))
