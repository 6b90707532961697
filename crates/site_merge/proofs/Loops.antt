-- What an insertion that did not fail has put into a map.
use Rattle.std.proofs.Common.{◌≡◌, ◌<◌, ◌+◌, ◌∷◌, ◌++◌, ◌∙◌, ℕ, true, false, cond, List, [], Some, Result, Ok, Err, OnOk, get_or, length, map, take, sym, ap}
use Rattle.std.specs.BTreeMap.{BTreeMap, Updates, get}
use Rattle.std.specs.Ordering.{is_eq}
use Rattle.std.specs.Result.{is_err}
use Rattle.std.specs.List.{flat_map}
use Rattle.std.specs.declared.cmp.Ordering.{Ordering}
use Rattle.std.proofs.lemmas.List.{flat_map_more, map-append, take_more}

at_ok : {X E : Type 0} (r : Result X E) (P : Type 0) → OnOk r P → is_err r ≡ false → P
at_ok (Ok x) P h fine = h
at_ok (Err e) P h fine = let f : true ≡ false = fine in cc

pub puts_after : {K V X E : Type 0} (R : K → K → Ordering) (r : Result X E) (base after : BTreeMap K V) (key : K) (value : V) → OnOk r (Updates R base after key (Some value)) → is_err r ≡ false
    → (q : K) → get R after q ≡ cond (is_eq (R key q)) (Some value) (get R base q)
puts_after R r base after key value updates fine = (at_ok r (Updates R base after key (Some value)) updates fine).0

-- ---- members in turn
-- one member more, of which each stands for another
pub mapped_more : {D P : Type 0} (view : D → P) (docs : List D) (i : ℕ) (doc : D) → i < length docs → doc ≡ get_or docs i doc → map view (take i docs) ++ view doc ∷ [] ≡ map view (take (i + 1) docs)
mapped_more view docs i doc lt is = sym (map-append view (take i docs) (doc ∷ [])) ∙ ap (map view) (ap (λ d. take i docs ++ d ∷ []) is ∙ sym (take_more docs i doc lt))

-- the rows of one document more
pub rows_more : {D P Y : Type 0} (view : D → P) (rows : P → List Y) (docs : List D) (i : ℕ) (doc : D) → i < length docs → doc ≡ get_or docs i doc
    → flat_map rows (map view (take i docs)) ++ rows (view doc) ≡ flat_map rows (map view (take (i + 1) docs))
rows_more view rows docs i doc lt is = flat_map_more rows [] (map view (take i docs)) (view doc) ∙ ap (flat_map rows) (mapped_more view docs i doc lt is)
