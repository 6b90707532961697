-- Parts have one stack at most, or one number of names that is too many, and never both.
use Rattle.std.proofs.Common.{◌≡◌, ◌<◌, ◌+◌, ◌∙◌, inl, inr, ℕ, suc, List, [], ◌∷◌, Ok, Err, Some, length, take, slice_get, sym, ap, subst, refl, arith}
use Rattle.std.proofs.lemmas.Bool.{cases_lt}
use Rattle.std.proofs.lemmas.List.{take_all}
use Rattle.std.proofs.lemmas.Option.{same_Some}
use Rattle.stated_order.specs.Steps.{IsOne}
use Rattle.whole_numbers.proofs.ListLaws.{equal_lists}
use Rattle.sym_blocks.specs.Tables.{before, zero_interval}
use Rattle.sym_blocks.proofs.EqualTables.{equal_symmetric}
use Rattle.param_ids.specs.Plain.{PlainId}
use Rattle.param_ids.proofs.Unions.{one_rising}
use Rattle.neq_stack.specs.Neqs.{PlainNeq}
use Rattle.neq_stack.specs.ByName.{Parameter}
use Rattle.neq_stack.specs.Stacks.{AreNamesOf, IsStackOf, HaveTooMany, IsStacked}
use Rattle.neq_stack.proofs.GrowLaws.{fewer_parts}
use Rattle.neq_stack.proofs.NameLaws.{one_rank, place_found}
use Rattle.neq_stack.proofs.ParameterLaws.{StandsAt, has_there, stands_there, some_stands}
use Rattle.neq_stack.proofs.PlaceLaws.{name_there}
use Rattle.neq_stack.proofs.PlacedLaws.{entry_there, right_there}

-- lists with the same members at each place are equal
same_members : {X : Type 0} (n : ℕ) (xs ys : List X) → length xs ≡ n → length ys ≡ n → ((k : ℕ) → k < n → slice_get xs k ≡ slice_get ys k) → xs ≡ ys
same_members n [] [] one other same = refl
same_members n [] (y ∷ ys) one other same = absurd (omega arith)
same_members n (x ∷ xs) [] one other same = absurd (omega arith)
same_members n (x ∷ xs) (y ∷ ys) one other same =
    let first : x ≡ y = same_Some x y (same 0 (omega arith)) in
    let rest : xs ≡ ys = same_members (length xs) xs ys refl (omega arith) (λ k lt. same (suc k) (omega arith)) in
    cc

equal_neqs : (n m : PlainNeq) → n.names ≡ m.names → n.table ≡ m.table → n.right ≡ m.right → n.apriori ≡ m.apriori → n.units ≡ m.units → n.scales ≡ m.scales → n ≡ m
equal_neqs n m names table right apriori units scales = λ i. record { names = names i; table = table i; right = right i; apriori = apriori i; units = units i; scales = scales i }

-- parts have one list of names
names_alone : (parts : List PlainNeq) (ids more : List PlainId) → AreNamesOf parts ids → AreNamesOf parts more → ids ≡ more
names_alone parts ids more a b = one_rising ids more a.rising b.rising (λ id. (λ there. (b.same id).1 ((a.same id).0 there), λ there. (a.same id).1 ((b.same id).0 there)))

-- ---- two stacks of the same parts
module _ (parts : List PlainNeq) (n m : PlainNeq) (a : IsStackOf parts n) (b : IsStackOf parts m) where
  names_same : n.names ≡ m.names
  names_same = names_alone parts n.names m.names a.names b.names

  as_many : length m.names ≡ length n.names
  as_many = ap length (sym names_same)

  there_too : (k : ℕ) (id : PlainId) → slice_get n.names k ≡ Some id → slice_get m.names k ≡ Some id
  there_too k id is = subst (λ l. slice_get l k ≡ Some id) names_same is

  table_same : n.table ≡ m.table
  table_same =
      equal_symmetric (length n.names) n.table m.table a.sound.rows (b.sound.rows ∙ as_many) (a.sound.entries ∙ ap before a.sound.rows) (b.sound.entries ∙ ap before (b.sound.rows ∙ as_many)) (λ i j li lj.
      let row = name_there n.names i li in
      let col = name_there n.names j lj in
      sym (entry_there n i j row.0 col.0 (place_found n.names row.0 i a.names.rising row.1) (place_found n.names col.0 j a.names.rising col.1))
      ∙ a.entries row.0 col.0
      ∙ sym (b.entries row.0 col.0)
      ∙ entry_there m i j row.0 col.0 (place_found m.names row.0 i b.names.rising (there_too i row.0 row.1)) (place_found m.names col.0 j b.names.rising (there_too j col.0 col.1)))

  right_same : n.right ≡ m.right
  right_same =
      equal_lists zero_interval (length n.names) n.right m.right a.sound.rights (b.sound.rights ∙ as_many) (λ k lt.
      let row = name_there n.names k lt in
      sym (right_there n k row.0 (place_found n.names row.0 k a.names.rising row.1))
      ∙ a.rights row.0
      ∙ sym (b.rights row.0)
      ∙ right_there m k row.0 (place_found m.names row.0 k b.names.rising (there_too k row.0 row.1)))

  -- each place has one parameter in both
  parameter_same : (k : ℕ) → k < length n.names → (p : Parameter) × StandsAt n k p × StandsAt m k p
  parameter_same k lt =
      let row = name_there n.names k lt in
      let p = some_stands n k a.sound lt in
      let has = (b.parameters row.0 p.0).1 ((a.parameters row.0 p.0).0 (has_there n k row.0 p.0 row.1 p.1)) in
      (p.0, p.1, subst (λ i. StandsAt m i p.0) (one_rank m.names row.0 has.place k b.names.rising has.name (there_too k row.0 row.1)) (stands_there m row.0 p.0 has))

  neqs_same : n ≡ m
  neqs_same =
      equal_neqs n m names_same table_same right_same
      (same_members (length n.names) n.apriori m.apriori a.sound.values (b.sound.values ∙ as_many) (λ k lt. let p = parameter_same k lt in p.1.value_is ∙ sym p.2.value_is))
      (same_members (length n.names) n.units m.units a.sound.named_units (b.sound.named_units ∙ as_many) (λ k lt. let p = parameter_same k lt in p.1.unit_is ∙ sym p.2.unit_is))
      (same_members (length n.names) n.scales m.scales a.sound.exponents (b.sound.exponents ∙ as_many) (λ k lt. let p = parameter_same k lt in p.1.exponent_is ∙ sym p.2.exponent_is))

-- ---- too many names
module _ (parts : List PlainNeq) where
  not_before : (a b : ℕ) → (h : HaveTooMany parts a) → (g : HaveTooMany parts b) → h.added < g.added → ⊥
  not_before a b h g lt = let few = g.before h.added h.names lt h.together in omega (arith, h.many, h.count_is)

  counts_same : (a b : ℕ) → HaveTooMany parts a → HaveTooMany parts b → a ≡ b
  counts_same a b h g =
      elim (cases_lt h.added g.added) [
        | inl lt ↦ absurd (not_before a b h g lt)
        | inr le ↦ elim (cases_lt g.added h.added) [
          | inl lt ↦ absurd (not_before b a g h lt)
          | inr ge ↦
              let same : g.added ≡ h.added = omega arith in
              h.count_is ∙ ap length (names_alone (take h.added parts) h.names g.names h.together (subst (λ k. AreNamesOf (take k parts) g.names) same g.together)) ∙ sym g.count_is
        ]
      ]

  few_against : (n : PlainNeq) (count : ℕ) → IsStackOf parts n → HaveTooMany parts count → ⊥
  few_against n count of h =
      let all : take (h.added + length parts) parts ≡ parts = take_all (h.added + length parts) parts (omega arith) in
      let most = fewer_parts parts h.added (h.added + length parts) h.names n.names (omega arith) h.together (subst (λ l. AreNamesOf l n.names) (sym all) of.names) in
      omega (arith, h.many, h.count_is, of.sound.names.1)

pub stack_is_one : (parts : List PlainNeq) → IsOne (IsStacked parts)
stack_is_one parts (Ok n) (Ok m) a b = ap Ok (neqs_same parts n m a b)
stack_is_one parts (Ok n) (Err count) a b = absurd (few_against parts n count a b)
stack_is_one parts (Err count) (Ok n) a b = absurd (few_against parts n count b a)
stack_is_one parts (Err a) (Err b) h g = ap Err (counts_same parts a b h g)
