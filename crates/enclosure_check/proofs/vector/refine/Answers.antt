use Rattle.std.proofs.lemmas.Result.{MatchResult-weaker}
use Rattle.equil.specs.Tables.{table_of}
use Rattle.enclosure_check.proofs.VectorLaws.{IsMade, made_numbers, made_refined, made_refused}
use Rattle.enclosure_check.proofs.vector.refine.Goals as goal

pub corrected-requires-clause-numbers : goal.corrected-requires-clause-numbers
corrected-requires-clause-numbers g c =
    let a = c.args.rows.now.table.now in
    let t = table_of a c.args.d.now in
    let qs = c.in_ok-numbers.numbers.items in
    let vs = c.in_ok-shifted.shifted.items in
    let h = c.least_shift-h.result in
    let made : IsMade a.size t c.args.p.now c.args.y.now qs vs h = record {
      size = c.requires.sizes;
      left = c.in_ok-numbers.ensures;
      least = rw c.deref.ensures.value at c.least_shift-h.ensures.least;
      floors = rw c.deref-2.ensures.value at c.in_ok-shifted.ensures;
    } in
    rw c.deref-3.ensures.value (made_numbers a.size t c.args.p.now c.args.y.now qs vs h c.args.rows.now.working.few made)

pub returns : goal.returns
returns g c =
    let a = c.args.rows.now.table.now in
    let t = table_of a c.args.d.now in
    let p = c.args.p.now in
    let y = c.args.y.now in
    let qs = c.in_ok-numbers.numbers.items in
    let vs = c.in_ok-shifted.shifted.items in
    let h = c.least_shift-h.result in
    let made : IsMade a.size t p y qs vs h = record {
      size = c.requires.sizes;
      left = c.in_ok-numbers.ensures;
      least = rw c.deref.ensures.value at c.least_shift-h.ensures.least;
      floors = rw c.deref-2.ensures.value at c.in_ok-shifted.ensures;
    } in
    let moved = rw c.deref-3.ensures.value at c.corrected.ensures in
    MatchResult-weaker c.corrected.result moved (λ z. made_refined a.size t p y qs vs h made z.items) (made_refused a.size t p y qs vs h made)
