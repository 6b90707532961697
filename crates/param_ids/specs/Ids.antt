-- The name of a parameter on a row, and its text.
use Rattle.std.specs.Prelude.{◌≡◌, ◌⊎◌, ℕ, List, [], ◌∷◌, Some, IsSome, IsNone, Result, Ok, Err}
use Rattle.std.specs.List.{join_with_byte}
use Rattle.blanks.specs.Blanks.{trimmed}
use Rattle.snx_lines.specs.Lines.{columns}
use Rattle.snx_epoch.specs.Moments.{epoch_in, epoch_text}
use Rattle.param_ids.specs.Texts.{kind_text, code_text, point_text, soln_text}
use Rattle.param_ids.specs.Plain.{PlainId}
use Rattle.param_ids.specs.declared.ids.IdFault.{IdFault}
use Rattle.param_ids.specs.declared.ids.IdFault.TheVariants as faults

-- the name that five texts give: type, code, point, solution and moment
pub record IsNameOf (kind code point soln epoch : List ℕ) (id : PlainId) : Type 0 where
  pub kind_is : kind_text kind ≡ Some id.kind
  pub code_is : code_text code ≡ Some id.code
  pub point_is : point_text point ≡ Some id.point
  pub soln_is : soln_text soln ≡ Some id.soln
  pub epoch_is : epoch_in epoch ≡ Ok id.epoch

-- what five texts name: first the four are tested, then the moment
abbrev pub IsNamed : List ℕ → List ℕ → List ℕ → List ℕ → List ℕ → Result PlainId IdFault → Type 0
IsNamed kind code point soln epoch (Ok id) = IsNameOf kind code point soln epoch id
IsNamed kind code point soln epoch (Err faults.Field) = IsNone (kind_text kind) ⊎ IsNone (code_text code) ⊎ IsNone (point_text point) ⊎ IsNone (soln_text soln)
IsNamed kind code point soln epoch (Err (faults.Epoch fault)) = IsSome (kind_text kind) × IsSome (code_text code) × IsSome (point_text point) × IsSome (soln_text soln) × (epoch_in epoch ≡ Err fault)

-- the name on a row: columns 8 to 13, 15 to 18, 20 to 21, 23 to 26 and 28 to 39 (SINEX 2.02 format description)
abbrev pub IsReadAs : List ℕ → Result PlainId IdFault → Type 0
IsReadAs row result = IsNamed (columns row 8 13) (columns row 15 18) (columns row 20 21) (columns row 23 26) (columns row 28 39) result

-- a name's texts without blanks and the text of a time, joined by `/`
abbrev pub joined_text : PlainId → List ℕ → List ℕ
joined_text id time = join_with_byte 47 (trimmed id.kind ∷ trimmed id.code ∷ trimmed id.point ∷ trimmed id.soln ∷ time ∷ [])

-- the text of a name
abbrev pub id_text : PlainId → List ℕ
id_text id = joined_text id (epoch_text id.epoch)
