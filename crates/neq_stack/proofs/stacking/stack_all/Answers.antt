use Rattle.std.proofs.Common.{◌≡◌, ◌<◌, ◌*◌, ◌^◌, ◌∙◌, ℕ, List, Bor, length, map, take, get_or, sym, ap, subst, arith}
use Rattle.std.proofs.lemmas.List.{length-map, get_or-map, take_all}
use Rattle.neq_stack.specs.declared.Neq.{Neq}
use Rattle.neq_stack.specs.Neqs.{PlainNeq, IsSound, neq_view}
use Rattle.neq_stack.specs.Stacks.{IsStackOf}
use Rattle.neq_stack.proofs.GrowLaws.{stack_more, refused_more, agrees, room}
use Rattle.neq_stack.proofs.stacking.stack_all.Goals as goal

-- the part at a place
module _ {N : ℕ} (list : List (Bor (Neq N))) (k : ℕ) (part : Bor (Neq N)) (within : k < length list) (is : part ≡ get_or list k part) where
  views : List PlainNeq
  views = map (λ (part : Bor (Neq N)). neq_view part.now) list

  inside : k < length views
  unfolding views
  inside = omega (arith, length-map list (λ (part : Bor (Neq N)). neq_view part.now))

  at : get_or views k (neq_view part.now) ≡ neq_view part.now
  unfolding views
  at = get_or-map (λ (part : Bor (Neq N)). neq_view part.now) list k part (neq_view part.now) within ∙ ap (λ (part : Bor (Neq N)). neq_view part.now) (sym is)

pub joined-requires : goal.joined-requires
unfolding views
joined-requires g c =
    let list = c.args.parts.now in
    let k = c.loop-k.k in
    let part = c.index-parts-k.result in
    let within : k < length list = omega arith in
    let parts = map (λ (part : Bor (Neq g.row.N)). neq_view part.now) list in
    let here = inside list k part within c.index-parts-k.is in
    let read = at list k part within c.index-parts-k.is in
    let fit = c.requires.fit in (
      omega arith,
      (
        c.loop-k.invariant.sound,
        (
          subst IsSound read (c.requires.sound k (neq_view part.now) here),
          (
            agrees parts k (neq_view part.now) here read (neq_view c.loop-k.sum) c.loop-k.invariant c.requires.agree,
            room parts k (neq_view part.now) here read (neq_view c.loop-k.sum) fit.0 c.loop-k.invariant fit.1 (subst (λ n. n * fit.0 < 10 ^ 38) (sym (length-map list (λ (part : Bor (Neq g.row.N)). neq_view part.now))) fit.2),
          ),
        ),
      ),
    )

pub returns-in-Err-joined-clause-refused : goal.returns-in-Err-joined-clause-refused
unfolding views
returns-in-Err-joined-clause-refused g c =
    let list = c.args.parts.now in
    let k = c.loop-k.k in
    let part = c.index-parts-k.result in
    let within : k < length list = omega arith in
    let parts = map (λ (part : Bor (Neq g.row.N)). neq_view part.now) list in
    let here = inside list k part within c.index-parts-k.is in
    let read = at list k part within c.index-parts-k.is in
    refused_more parts k (neq_view part.now) here read (neq_view c.loop-k.sum) c.in-Err-joined.cause (subst IsSound read (c.requires.sound k (neq_view part.now) here)) c.loop-k.invariant c.in-Err-joined.ensures.refused

pub loop-k-preserved : goal.loop-k-preserved
unfolding views
loop-k-preserved g c =
    let list = c.args.parts.now in
    let k = c.loop-k.k in
    let part = c.index-parts-k.result in
    let within : k < length list = omega arith in
    let parts = map (λ (part : Bor (Neq g.row.N)). neq_view part.now) list in
    let here = inside list k part within c.index-parts-k.is in
    let read = at list k part within c.index-parts-k.is in
    stack_more parts k (neq_view part.now) here read (neq_view c.loop-k.sum) (neq_view c.in-Ok-joined.neq) (subst IsSound read (c.requires.sound k (neq_view part.now) here)) c.loop-k.invariant c.in-Ok-joined.ensures.stacked

pub returns-clause-stacked : goal.returns-clause-stacked
returns-clause-stacked g c =
    let parts = map (λ (part : Bor (Neq g.row.N)). neq_view part.now) c.args.parts.now in
    let all : take c.loop-k.k parts ≡ parts = take_all c.loop-k.k parts (omega (arith, length-map c.args.parts.now (λ (part : Bor (Neq g.row.N)). neq_view part.now))) in
    subst (λ l. IsStackOf l (neq_view c.loop-k.sum)) all c.loop-k.invariant
