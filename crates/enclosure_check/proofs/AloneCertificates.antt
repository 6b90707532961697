-- The certificate is determined by the table, its pilot and the vector, and so is where it does not pass. It passes nowhere
-- where it does not.
use Rattle.std.proofs.Common.{◌≡◌, ◌<◌, ◌+◌, ◌*◌, ◌^◌, ◌∙◌, ℕ, ℤ, arith, sym, ap}
use Rattle.whole_numbers.specs.Quotients.{up_over}
use Rattle.whole_numbers.specs.Least.{greatest_to}
use Rattle.stated_order.specs.First.{IsLeast}
use Rattle.stated_order.proofs.FirstLaws.{neither_less, least_is_one}
use Rattle.whole_numbers.proofs.ListLaws.{equal_lists}
use Rattle.sys_model.specs.Systems.{Table, rho}
use Rattle.enclosures.specs.Pilots.{PilotTable}
use Rattle.enclosure_check.specs.Certificates.{ResidualFitsAfter, parts_of, error_of, IsCertified, IsResidual, IsDefect}
use Rattle.enclosures.specs.declared.Radius.{Radius}
use Rattle.enclosure_check.proofs.CertificateLaws.{le-greatest_to}

module _ (n : ℕ) (t : Table) (p : PilotTable) (y : ℕ → ℤ) where
  -- two least shifts leave equal errors
  errors_alone : (h k : ℕ) → IsLeast (ResidualFitsAfter n t y) h → IsLeast (ResidualFitsAfter n t y) k → error_of n t p y h ≡ error_of n t p y k
  errors_alone h k a b = ap (error_of n t p y) (least_is_one (ResidualFitsAfter n t y) h k a b)

  error_alone : (h k i : ℕ) → IsLeast (ResidualFitsAfter n t y) h → IsLeast (ResidualFitsAfter n t y) k → error_of n t p y h i ≡ error_of n t p y k i
  error_alone h k i a b = ap (λ f. f i) (errors_alone h k a b)

  -- ---- one certificate
  pub certified_parts : (v w : Radius) → IsCertified n t p y v → IsCertified n t p y w → v.b ≡ w.b
  certified_parts v w a b = a.parts ∙ sym b.parts

  pub certified_error : (v w : Radius) → IsCertified n t p y v → IsCertified n t p y w → v.m ≡ w.m
  certified_error v w a b = a.error ∙ ap (greatest_to n) (errors_alone a.h b.h a.shift b.shift) ∙ sym b.error

  radius_parts : (e d b c m k x : ℕ) → e ≡ d → b ≡ c → m ≡ k → e + up_over (x * rho b m) (2 ^ 30) ≡ d + up_over (x * rho c k) (2 ^ 30)
  radius_parts e d b c m k x f g h = cc

  pub certified_radii : (v w : Radius) → IsCertified n t p y v → IsCertified n t p y w → v.w.items ≡ w.w.items
  certified_radii v w a b =
      equal_lists 0 n v.w.items w.w.items a.len b.len (λ i row.
      a.radii i row ∙ radius_parts _ _ v.b w.b v.m w.m (parts_of n t p i) (error_alone a.h b.h i a.shift b.shift) (certified_parts v w a b) (certified_error v w a b) ∙ sym (b.radii i row))

  -- ---- or one refusal
  pub certified_no_residual : (v : Radius) (row error : ℕ) → IsCertified n t p y v → IsResidual n t p y row error → ⊥
  certified_no_residual v row error a b =
      let e = error_alone a.h b.h row a.shift b.shift in
      let l = le-greatest_to n (error_of n t p y a.h) row b.within in
      omega (arith, e, l, a.error, a.error_fits, b.here, b.past)

  pub certified_no_defect : (v : Radius) (row parts : ℕ) → IsCertified n t p y v → IsDefect n t p y row parts → ⊥
  certified_no_defect v row parts a b = omega (arith, a.parts, a.parts_fit, b.greatest, b.past)

  pub residual_no_defect : (row error col parts : ℕ) → IsResidual n t p y row error → IsDefect n t p y col parts → ⊥
  residual_no_defect row error col parts a b =
      let e = error_alone a.h b.h row a.shift b.shift in
      let l = b.errors row a.within in
      omega (arith, e, l, a.here, a.past)

  residual_in_order : (row error col other : ℕ) → IsResidual n t p y row error → IsResidual n t p y col other → row < col → ⊥
  residual_in_order row error col other a b l =
      let e = error_alone a.h b.h row a.shift b.shift in
      let f = b.before row l in
      omega (arith, e, f, a.here, a.past)

  pub residual_row : (row error col other : ℕ) → IsResidual n t p y row error → IsResidual n t p y col other → row ≡ col
  residual_row row error col other a b = neither_less row col (residual_in_order row error col other a b) (residual_in_order col other row error b a)

  pub residual_error : (row error col other : ℕ) → IsResidual n t p y row error → IsResidual n t p y col other → error ≡ other
  residual_error row error col other a b = a.here ∙ error_alone a.h b.h row a.shift b.shift ∙ ap (error_of n t p y b.h) (residual_row row error col other a b) ∙ sym b.here

  pub defect_parts : (row parts col other : ℕ) → IsDefect n t p y row parts → IsDefect n t p y col other → parts ≡ other
  defect_parts row parts col other a b = a.greatest ∙ sym b.greatest

  defect_in_order : (row parts col other : ℕ) → IsDefect n t p y row parts → IsDefect n t p y col other → row < col → ⊥
  defect_in_order row parts col other a b l =
      let f = b.before row l in
      omega (arith, f, a.here, defect_parts row parts col other a b)

  pub defect_row : (row parts col other : ℕ) → IsDefect n t p y row parts → IsDefect n t p y col other → row ≡ col
  defect_row row parts col other a b = neither_less row col (defect_in_order row parts col other a b) (defect_in_order col other row parts b a)
