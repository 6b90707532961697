-- Alike controls read the same files.
use Rattle.std.proofs.Common.{◌≡◌, ◌∷◌, ◌-◌, ℕ, min, List, [], length, map, sum, Option, Ok, refl, ap, sym, subst}
use Rattle.std.specs.List.Sorted.{IsPermutation}
use Rattle.std.specs.Ordering.{nat_cmp}
use Rattle.std.specs.Cmp.Lexicographic.{slice_cmp}
use Rattle.std.specs.declared.cmp.Ordering.TheVariants.{Less}
use Rattle.std.proofs.lemmas.List.Sorted.{IsPermutation-trans, IsPermutation-sym, IsPermutation-map}
use Rattle.stated_order.specs.Lists.{AreEach, Ascends}
use Rattle.stated_order.proofs.StepLaws.{then_gives}
use Rattle.desk_io.specs.Content.{File}
use Rattle.control_doc.specs.Plain.{PlainPlan, PlainControl}
use Rattle.run_inputs.specs.Files.{ReadsFile, ReadsText, file_limit, total_limit}
use Rattle.run_inputs.specs.Inputs.{PlainInput, ComesBefore, AreInNameOrder, limit_after, IsInput, ReadsInputs}
use Rattle.combine_cli.specs.Alike.{ungrouped, AreAlike}
use Rattle.combine_cli.proofs.EachLaws.{maps_from_each, each_from_maps, went_on, in_turn_alike, lifted}

-- the same file, whatever its group
abbrev pub SamePlan : PlainPlan → PlainPlan → Type 0
SamePlan one other = ungrouped one ≡ ungrouped other

pub same_name : (one other : PlainPlan) → SamePlan one other → one.name ≡ other.name
same_name one other same = ap (λ (plan : PlainPlan). plan.name) same

-- what was read of it
pub record SameInput (one other : PlainInput) : Type 0 where
  pub plan : SamePlan one.plan other.plan
  pub size : one.size ≡ other.size
  pub doc : one.doc ≡ other.doc

-- ---- in the order of the names
order_kept : (a b c d : PlainPlan) → SamePlan a c → SamePlan b d → ComesBefore a b → ComesBefore c d
order_kept a b c d first second below =
    subst (λ (name : List ℕ). slice_cmp nat_cmp c.name name ≡ Less) (same_name b d second) (subst (λ (name : List ℕ). slice_cmp nat_cmp name b.name ≡ Less) (same_name a c first) below)

ascends_kept : (plans others : List PlainPlan) → AreEach SamePlan plans others → Ascends ComesBefore plans → Ascends ComesBefore others
ascends_kept [] [] each ascends = tt
ascends_kept [] (b ∷ others) each ascends = absurd each
ascends_kept (a ∷ plans) [] each ascends = absurd each
ascends_kept (a ∷ []) (b ∷ []) each ascends = tt
ascends_kept (a ∷ []) (b ∷ d ∷ others) each ascends = absurd each.1
ascends_kept (a ∷ c ∷ plans) (b ∷ []) each ascends = absurd each.1
ascends_kept (a ∷ c ∷ plans) (b ∷ d ∷ others) each ascends = (order_kept a c b d each.0 each.1.0 ascends.0, ascends_kept (c ∷ plans) (d ∷ others) each.1 ascends.1)

-- the files of an alike control in the order of their names
sorted_alike : (plans others sorted : List PlainPlan) → IsPermutation (map ungrouped plans) (map ungrouped others) → AreInNameOrder plans sorted
    → (moved : List PlainPlan) × AreInNameOrder others moved × AreEach SamePlan sorted moved
sorted_alike plans others sorted p order =
    let back = IsPermutation-sym (map ungrouped plans) (map ungrouped others) p in
    let along = IsPermutation-trans (map ungrouped others) (map ungrouped plans) (map ungrouped sorted) back (IsPermutation-map ungrouped plans sorted order.same) in
    let found = lifted ungrouped others (map ungrouped sorted) along in
    let each = each_from_maps ungrouped sorted found.0 (sym found.2) in
    (found.0, record { same = found.1; ascends = ascends_kept sorted found.0 each order.ascends }, each)

-- ---- read in turn
abbrev size_of : PlainInput → ℕ
size_of input = input.size

limit_kept : (before others : List PlainInput) → AreEach SameInput before others → limit_after before ≡ limit_after others
limit_kept before others each = ap (λ (sizes : List ℕ). min file_limit (total_limit - sum sizes)) (maps_from_each SameInput size_of size_of (λ one other same. same.size) before others each)

module _ (files : List ℕ → Option File) where
  file_kept : (before others : List PlainInput) (one other : PlainPlan) (text : List ℕ) → AreEach SameInput before others → SamePlan one other
      → ReadsFile (limit_after before) one.name (files one.name) (Ok text) → ReadsFile (limit_after others) other.name (files other.name) (Ok text)
  file_kept before others one other text each same h =
      subst (λ (name : List ℕ). ReadsFile (limit_after others) name (files name) (Ok text)) (same_name one other same)
      (subst (λ (limit : ℕ). ReadsFile limit one.name (files one.name) (Ok text)) (limit_kept before others each) h)

  input_kept : (before others : List PlainInput) (one other : PlainPlan) (input : PlainInput) → AreEach SameInput before others → SamePlan one other
      → IsInput files before one (Ok input) → (read : PlainInput) × IsInput files others other (Ok read) × SameInput input read
  input_kept before others one other input each same h =
      let f = went_on (ReadsFile (limit_after before) one.name (files one.name)) _ input h in
      let g = went_on (ReadsText one.name f.gives) _ input f.onward in
      let is : input ≡ record { plan = one; size = length f.gives; doc = g.gives } = let e = g.onward in cc in
      let read : PlainInput = record { plan = other; size = length f.gives; doc = g.gives } in (
        read,
        then_gives (ReadsFile (limit_after others) other.name (files other.name)) _ f.gives (Ok read) (file_kept before others one other f.gives each same f.given)
            (then_gives (ReadsText other.name f.gives) _ g.gives (Ok read) g.given refl),
        subst (λ (i : PlainInput). SameInput i read) (sym is) (record { plan = same; size = refl; doc = refl }),
      )

  pub inputs_alike : (one other : PlainControl) (inputs : List PlainInput) → AreAlike one other → ReadsInputs one.files files (Ok inputs)
      → (read : List PlainInput) × ReadsInputs other.files files (Ok read) × AreEach SameInput inputs read
  inputs_alike one other inputs alike reads =
      let order = sorted_alike one.files other.files reads.0 alike.files reads.1 in
      let turn = in_turn_alike (IsInput files) (IsInput files) SamePlan SameInput (λ before others a b input each same h. input_kept before others a b input each same h) [] [] reads.0 order.0 inputs tt order.2 reads.2 in
      (turn.0, (order.0, order.1, turn.1), turn.2)
