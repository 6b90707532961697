use Rattle.std.proofs.Common.{◌≡◌, ◌*◌, ◌^◌, ◌∙◌, length, sym, subst}
use Rattle.whole_numbers.specs.Lists.{AllAtMost}
use Rattle.whole_numbers.specs.Squares.{square_at}
use Rattle.chol_guess.proofs.Makings.{pilot_made}
use Rattle.chol_guess.proofs.pilots.pilot_of.Goals as goal

pub new-requires : goal.new-requires
new-requires c = record {
  scale = c.in-Ok.ensures.scale.scale;
  square = subst (λ n. length c.into_numbers.result.items ≡ n * n) (c.greatest_scale.ensures.size ∙ sym c.size-n.ensures.value) c.into_numbers.ensures.square;
  small = subst (AllAtMost (2 ^ 50)) (sym c.into_numbers.ensures.numbers) c.greatest_scale.ensures.small;
}

pub returns-in-Ok-clause-value : goal.returns-in-Ok-clause-value
returns-in-Ok-clause-value c =
    pilot_made c.args.f.now.size (square_at c.args.f.now) c.new.result c.in-Ok.g c.size-n.result c.into_numbers.result.items c.greatest_scale.new.r c.new.ensures c.size-n.ensures.value c.greatest_scale.ensures.size c.into_numbers.ensures.numbers c.in-Ok.ensures.scale
