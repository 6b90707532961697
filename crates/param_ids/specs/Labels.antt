-- What a row of a block says of its parameter before the number (SINEX 2.02 format description).
use Rattle.std.specs.Prelude.{ℕ, List, [], ◌∷◌}
use Rattle.std.specs.List.{join_with_byte}
use Rattle.std.specs.Fmt.{decimal}
use Rattle.blanks.specs.Blanks.{trimmed, right_aligned}
use Rattle.snx_epoch.specs.Moments.{epoch_text}
use Rattle.param_ids.specs.Plain.{PlainId}

-- columns 1 to 44: the index in 1 to 6, the type in 8 to 13, the code in 15 to 18, the point in 20 to 21, the solution in 23 to 26,
-- the moment in 28 to 39 and the unit in 41 to 44, with a blank between each two. The index, the point and the solution stand at the right
abbrev pub label_text : ℕ → PlainId → List ℕ → List ℕ
label_text index id unit =
    join_with_byte 32 (
    right_aligned 6 (decimal index) ∷ id.kind ∷ id.code ∷ right_aligned 2 (trimmed id.point) ∷ right_aligned 4 (trimmed id.soln)
    ∷ epoch_text id.epoch ∷ unit ∷ [])
