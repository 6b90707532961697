use Rattle.std.proofs.Common.{◌≡◌, ◌+◌, List, ℤ, ◌∙◌, ap, length, pos, arith, rules, subst, sym, FitsSigned, w32}
use Rattle.std.specs.Int.{w128}
use Rattle.std.proofs.lemmas.Int.{to_z-of_z}
use Rattle.sym_blocks.specs.Tables.{entry_at}
use Rattle.equil.specs.Exponents.{IsExponent}
use Rattle.equil.specs.Rows.{AllInRange}
use Rattle.equil.specs.Tables.{exponent_of, AreExponents}
use Rattle.equil.proofs.RowLaws.{range_push}
use Rattle.whole_numbers.proofs.ListLaws.{each_push}
use Rattle.equil.proofs.scaling.exponents.Goals as goal

pub loop-i-preserved : goal.loop-i-preserved
loop-i-preserved g c =
    let few : FitsSigned w32 c.exponent.result = search rules in
    let wide : FitsSigned w128 c.hi.result = search rules in
    let items = simp to_z-of_z at c.in_ok-push.ensures.items in
    let value = simp to_z-of_z at c.exponent.ensures.value in
    let high = c.hi.ensures.value ∙ ap (λ w. w.hi) c.get.ensures in
    let last : IsExponent (entry_at c.args.table.now c.loop-i.i c.loop-i.i).hi c.exponent.result = subst (λ h. IsExponent h c.exponent.result) high value in
    let before : length c.loop-i.e.items ≡ c.loop-i.i = omega (arith, c.loop-i.invariant.len, c.loop-i.e.ok.0) in
    record {
      len = omega (arith, c.in_ok-push.ensures.len, c.loop-i.invariant.len);
      are = subst (λ xs. AreExponents (c.loop-i.i + 1) (entry_at c.args.table.now) (exponent_of xs)) (sym {A = List ℤ} items) (each_push (λ k x. IsExponent (entry_at c.args.table.now k k).hi x) c.loop-i.e.items c.loop-i.i c.exponent.result (pos 0) before c.loop-i.invariant.are last);
      range = subst AllInRange (sym {A = List ℤ} items) (range_push c.loop-i.e.items c.exponent.result c.loop-i.invariant.range c.exponent.ensures.range);
    }
