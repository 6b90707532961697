-- A stack that takes one more part.
use Rattle.std.proofs.Common.{◌≡◌, ◌≤◌, ◌<◌, ◌+◌, ◌*◌, ◌^◌, ◌∙◌, ◌⊎◌, ◌++◌, inl, inr, ℕ, List, [], ◌∷◌, All, Contains, length, take, get_or, refl, sym, ap, subst, arith}
use Rattle.std.specs.List.{Any}
use Rattle.std.specs.List.Sorted.{IsPermutation}
use Rattle.std.proofs.lemmas.List.{take_more, get_or-take, length-take, length-take-le, nil_from_length}
use Rattle.std.proofs.lemmas.List.Elements.{All-take}
use Rattle.std.proofs.Math.Nat.{mul-le-mul_left}
use Rattle.std.proofs.lemmas.List.Sorted.{length_permutation}
use Rattle.param_ids.specs.Plain.{PlainId}
use Rattle.neq_stack.specs.Neqs.{PlainNeq, IsSound}
use Rattle.neq_stack.specs.ByName.{Agree, AllAgree, AreAtMost}
use Rattle.neq_stack.specs.Stacks.{AreNamesOf, IsStackOf, HaveTooMany, IsRefused}
use Rattle.neq_stack.specs.Joining.{HaveMany}
use Rattle.neq_stack.specs.declared.stacking.StackError.{StackError}
use Rattle.neq_stack.specs.declared.stacking.StackError.TheVariants.{TooMany, Memory}
use Rattle.neq_stack.proofs.AtMostLaws.{stack_is_at_most}
use Rattle.neq_stack.proofs.FewerLaws.{fewer_names}
use Rattle.neq_stack.proofs.RegroupLaws.{alone, names_regroup, stacks_regroup}

-- ---- fewer parts
any_of_fewer : (P : PlainNeq → Type 0) (parts : List PlainNeq) (few many : ℕ) → few ≤ many → Any P (take few parts) → Any P (take many parts)
any_of_fewer P parts few many le any =
    let below : any.0 < few = let h = any.2 in omega (arith, length-take few parts) in
    let within : any.0 < length parts = let h = any.2 in omega (arith, length-take few parts) in
    (any.0, any.1, omega (arith, length-take many parts), get_or-take many parts any.0 any.1 (omega arith) ∙ sym (get_or-take few parts any.0 any.1 below) ∙ any.3, any.4)

pub fewer_parts : (parts : List PlainNeq) (few many : ℕ) (ids more : List PlainId) → few ≤ many → AreNamesOf (take few parts) ids → AreNamesOf (take many parts) more → length ids ≤ length more
fewer_parts parts few many ids more le of others =
    fewer_names ids more of.rising others.rising (λ id there. (others.same id).1 (any_of_fewer (λ part. Contains part.names id) parts few many le ((of.same id).0 there)))

-- ---- one more part
module _ (parts : List PlainNeq) (k : ℕ) (part : PlainNeq) (within : k < length parts) (is : get_or parts k part ≡ part) where
  taken : take (k + 1) parts ≡ take k parts ++ part ∷ []
  taken = take_more parts k part within ∙ ap (λ p. take k parts ++ p ∷ []) is

  pub stack_more : (before after : PlainNeq) → IsSound part → IsStackOf (take k parts) before → IsStackOf (before ∷ part ∷ []) after → IsStackOf (take (k + 1) parts) after
  stack_more before after sound of more =
      subst (λ l. IsStackOf l after) (sym taken) (stacks_regroup (take k parts ∷ (part ∷ []) ∷ []) (before ∷ part ∷ []) after (of, (alone part sound, tt)) more)

  pub names_more : (before : PlainNeq) (ids : List PlainId) → IsSound part → IsStackOf (take k parts) before → AreNamesOf (before ∷ part ∷ []) ids → AreNamesOf (take (k + 1) parts) ids
  names_more before ids sound of more =
      subst (λ l. AreNamesOf l ids) (sym taken) (names_regroup (take k parts ∷ (part ∷ []) ∷ []) (before ∷ part ∷ []) ids (of, (alone part sound, tt)) more)

  -- where the stack so far has few names, and one more part gives too many
  pub too_many : (before : PlainNeq) (count : ℕ) → IsSound part → IsStackOf (take k parts) before → HaveMany (before ∷ part ∷ []) count → HaveTooMany parts count
  too_many before count sound of many = record {
    added = k + 1;
    names = many.names;
    together = names_more before many.names sound of many.together;
    count_is = many.count_is;
    many = many.many;
    before = λ fewer ids lt names. omega (arith, fewer_parts parts fewer k ids before.names (omega arith) names of.names, of.sound.names.1);
  }

  pub refused_more : (before : PlainNeq) (cause : StackError) → IsSound part → IsStackOf (take k parts) before
      → (cause ≡ Memory) ⊎ ((count : ℕ) × (cause ≡ TooMany count) × HaveMany (before ∷ part ∷ []) count) → IsRefused parts cause
  refused_more before cause sound of (inl memory) = inl memory
  refused_more before cause sound of (inr h) = inr (h.0, h.1, too_many before h.0 sound of h.2)

  -- the stack so far agrees with the part
  pub agrees : (before : PlainNeq) → IsStackOf (take k parts) before → AllAgree parts → Agree before part
  agrees before of agree id p q first second =
      let any = (of.parameters id p).0 first in
      let lt : any.0 < length parts = let h = any.2 in omega (arith, length-take k parts) in
      let below : any.0 < k = let h = any.2 in omega (arith, length-take k parts) in
      agree any.1 part (any.0, lt, sym (get_or-take k parts any.0 any.1 below) ∙ any.3) (k, within, is) id p q any.4 second

  -- the sums with one more part have room
  pub room : (before : PlainNeq) (most : ℕ) → IsStackOf (take k parts) before → All (AreAtMost most) parts → length parts * most < 10 ^ 38 → (x : ℕ) × (y : ℕ) × AreAtMost x before × AreAtMost y part × (x + y < 10 ^ 38)
  room before most of small fit =
      let some : AreAtMost (length (take k parts) * most) before = stack_is_at_most most (take k parts) before (All-take (AreAtMost most) k parts small) of in
      let len : length (take k parts) ≡ k = length-take-le k parts (omega arith) in (
        k * most,
        most,
        subst (λ n. AreAtMost (n * most) before) len some,
        subst (AreAtMost most) is (small k part within),
        omega (arith, mul-le-mul_left most (let next : k + 1 ≤ length parts = omega arith in next)),
      )

-- two parts
pub pair_refused : (one other : PlainNeq) (cause : StackError) → IsSound one → IsSound other
    → (cause ≡ Memory) ⊎ ((count : ℕ) × (cause ≡ TooMany count) × HaveMany (one ∷ other ∷ []) count) → IsRefused (one ∷ other ∷ []) cause
pair_refused one other cause first second refused = refused_more (one ∷ other ∷ []) 1 other (omega arith) refl one cause second (alone one first) refused

-- no names are in order of an empty list
pub none_listed : (ids : List PlainId) → IsPermutation [] ids → ids ≡ []
none_listed ids moved = nil_from_length ids (length_permutation [] ids moved)
