-- Values and units of names, and scale exponents, one by one.
use Rattle.std.proofs.Common.{◌≡◌, ◌+◌, ◌∙◌, ◌++◌, ◌∷◌, ℕ, ℤ, pos, negsuc, ◌≤ℤ◌, to_z, of_z, w32, List, [], Option, Some, Result, Ok, Err, Vec, IfOk, All, codes, map, take, slice_get, refl, sym, ap, subst, arith}
use Rattle.std.specs.Net.Reader.{map_or}
use Rattle.std.proofs.lemmas.Int.{ints, to_z-of_z}
use Rattle.std.proofs.lemmas.List.{map_more}
use Rattle.std.proofs.lemmas.List.Elements.{All-push}
use Rattle.std.proofs.lemmas.Option.{slice_get_within, get_or_from_slice_get}
use Rattle.decimal_e.specs.Decimals.{Decimal}
use Rattle.param_ids.specs.Plain.{PlainId}
use Rattle.param_ids.specs.Tables.{ScaleMap, IsScale}
use Rattle.snx_rows.specs.Named.{zero_decimal}
use Rattle.snx_rows.specs.declared.rows.Row.{Row}
use Rattle.named_tables.specs.Weighted.{scale_of}

-- ---- values and units
abbrev pub value_or : Option Row → Decimal
value_or row = map_or row zero_decimal (λ (r : Row). r.value)

abbrev pub unit_or : Option Row → List ℕ
unit_or row = map_or row (codes "    ") (λ (r : Row). r.unit)

map_twice : {A B C : Type 0} (f : A → B) (g : B → C) (xs : List A) → map g (map f xs) ≡ map (λ x. g (f x)) xs
map_twice f g [] = refl
map_twice f g (x ∷ xs) = ap (λ l. g (f x) ∷ l) (map_twice f g xs)

-- what f gives of found rows, by the names
pub if_named : {A B C Z E : Type 0} (g : B → C) (f : A → B) (names : List A) (found : List B) (result : Result (Vec C Z) E) → found ≡ map f names
    → IfOk result (λ list. list.items ≡ map g found) → IfOk result (λ list. list.items ≡ map (λ id. g (f id)) names)
if_named g f names found (Ok list) are h = h ∙ ap (map g) are ∙ map_twice f g names
if_named g f names found (Err e) are h = tt

-- ---- scale exponents

-- a small number is what it is in 32 bits
pub small_kept : (t : ℤ) → negsuc 99 ≤ℤ t → t ≤ℤ pos 100 → to_z w32 (of_z w32 t) ≡ t
small_kept t low high = to_z-of_z w32 t (omega (arith, ints))

pub exponent_more : (scales : ScaleMap) (names : List PlainId) (k : ℕ) (id : PlainId) (t : ℤ) (ds xs : List ℤ) → slice_get names k ≡ Some id → t ≡ scale_of scales id → ds ≡ map (scale_of scales) (take k names) → xs ≡ ds ++ t ∷ [] → xs ≡ map (scale_of scales) (take (k + 1) names)
exponent_more scales names k id t ds xs here value before pushed =
    pushed ∙ ap (λ l. l ++ t ∷ []) before ∙ ap (λ z. map (scale_of scales) (take k names) ++ z ∷ []) (value ∙ ap (scale_of scales) (sym (get_or_from_slice_get names k id id here)))
    ∙ sym (map_more (scale_of scales) names k id (slice_get_within names k id here))

pub scaled_more : (t : ℤ) (ds xs : List ℤ) → xs ≡ ds ++ t ∷ [] → IsScale t → All IsScale ds → All IsScale xs
scaled_more t ds xs pushed range before = subst (All IsScale) (sym pushed) (All-push IsScale ds t before range)
