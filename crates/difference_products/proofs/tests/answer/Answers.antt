use Rattle.std.proofs.Common.{◌≡◌, ◌<◌, ◌∷◌, [], ◌∙◌, ℕ, zero, suc, ℤ, pos, slice_index_or, arith, sym}
use Rattle.std.proofs.lemmas.Int.{ints}
use Rattle.param_ids.specs.Tables.{IsScale}
use Rattle.difference_products.proofs.tests.answer.Goals as goal

none_and_six : (k : ℕ) (d : ℤ) → k < 2 → IsScale (slice_index_or (pos 0 ∷ pos 6 ∷ []) k d)
none_and_six zero d h = (omega (arith, ints), omega (arith, ints))
none_and_six (suc zero) d h = (omega (arith, ints), omega (arith, ints))
none_and_six (suc (suc k)) d h = absurd (omega arith)

pub product-requires : goal.product-requires
product-requires g c =
    let size : c.set-3.new.self.size ≡ 2 = c.set-3.ensures.size ∙ c.set-2.ensures.size ∙ c.set.ensures.size ∙ c.in-Ok.ensures.size in
    (omega arith, (omega (arith, size, c.requires), (sym size, none_and_six)))
