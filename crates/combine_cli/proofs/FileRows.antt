-- The a priori rows of a file.
use Rattle.std.proofs.Common.{◌≡◌, ◌∷◌, ◌∙◌, suc, Bool, true, false, cond, List, [], Some, refl, sym, ap, arith}
use Rattle.std.specs.Prelude.{Contains}
use Rattle.std.specs.List.{find}
use Rattle.param_ids.specs.Plain.{PlainId}
use Rattle.param_ids.proofs.SameIds.{same_id}
use Rattle.snx_rows.specs.Named.{is_row_of, row_of}
use Rattle.snx_rows.specs.declared.rows.Row.{Row}

-- ---- rows
pub later : {X : Type 0} (x : X) (xs : List X) (y : X) → Contains xs y → Contains (x ∷ xs) y
later x xs y (k, lt, e) = (suc k, omega arith, e)

-- the row of a name is one of the rows, and has the name
pub found_row : (rows : List Row) (id : PlainId) (row : Row) → row_of rows id ≡ Some row → Contains rows row × (row.id ≡ id)
found_row [] id row found = absurd (cc)
found_row (first ∷ rows) id row found = by_test (is_row_of id first) refl found (found_row rows id row)
  where
    by_test : (is : Bool) → is_row_of id first ≡ is → cond is (Some first) (find (is_row_of id) rows) ≡ Some row → (row_of rows id ≡ Some row → Contains rows row × (row.id ≡ id))
        → Contains (first ∷ rows) row × (row.id ≡ id)
    by_test true e is rest = let same : first ≡ row = cc in ((0, omega arith, same), ap (λ (r : Row). r.id) (sym same) ∙ (same_id first.id id).0 e)
    by_test false e is rest = let there = rest is in (later first rows row there.0, there.1)
