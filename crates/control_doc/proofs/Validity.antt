-- What every control keeps: its files, their names and weights, the standard deviations of its datum, its scale exponents, and its
-- time of creation.
use Rattle.std.proofs.Common.{◌≡◌, ◌≢◌, ◌≤◌, ◌<◌, ◌+◌, ◌∙◌, ◌++◌, ◌∷◌, ℕ, zero, suc, ℤ, pos, negsuc, List, [], Bool, true, false, ◌&&◌, ◌||◌, cond, if◌then◌else◌, length, get_or, Option, Some, None, Result, Ok, Err, IfOk, IfSome, codes, refl, sym, ap, subst, arith, length-append}
use Rattle.std.specs.Prelude.{nat_le, int_le}
use Rattle.std.specs.List.{All, AllPairs, list_all}
use Rattle.std.specs.Str.{bytes_eq}
use Rattle.std.specs.FinMap as map
use Rattle.std.proofs.lemmas.Int.{ints}
use Rattle.std.proofs.lemmas.Bool.{leb-true}
use Rattle.std.proofs.lemmas.Cmp.{nat_list_cmp_total}
use Rattle.std.proofs.lemmas.List.Elements.{All-append}
use Rattle.std.proofs.lemmas.List.Quantifiers.{all_pairs_push}
use Rattle.std.proofs.lemmas.Slice.Eq.{bytes_eq-Decides}
use Rattle.stated_order.proofs.StepLaws.{went_on, ok_same}
use Rattle.stated_order.specs.Steps.{InTurn}
use Rattle.toml.specs.Data.{Data, Members, no_members, get_member}
use Rattle.snx_epoch.specs.Moments.{IsMoment}
use Rattle.decimal_e.specs.Decimals.{Decimal}
use Rattle.param_ids.specs.Tables.{ScaleMap, IsScaleMap, IsScale, standard_scales}
use Rattle.param_ids.specs.Texts.{in_6}
use Rattle.param_ids.proofs.Scaled.{is_scale_map_after, standard_is_scale_map, standard_len}
use Rattle.control_doc.specs.Control.{Is, IsRead, IsControl, IsControlOf, IsPlan, IsWeight, IsSigma, IsDatum, IsDecimalIn, IsDecimalAt, with_sigma, Parts, parts_in, output_in, output_path, top_keys, file_count, no_more_than, file_name, new_name, is_listed, one, is_positive_and_short, scale_keys, scales_from, with_scale, exponent_of, table_in}
use Rattle.control_doc.specs.Faults.{PlainFault, fault, or_fault, and_then, key_path}
use Rattle.control_doc.specs.Plain.{PlainPlan, PlainDatum, PlainOutput, PlainControl}
use Rattle.control_doc.specs.Tables.{Entry, entries, entries_from, keys_of, only_keys, there, if_there, needed, given_or, text_needed, text_at, integer_at, table_at, tables_at}
use Rattle.control_doc.specs.Texts.{agency_text, created_text, letter, header_text, file_text, shown, is_shown}
use Rattle.control_doc.specs.Valid.{IsValidControl, IsFileName, AreNamed, IsPositiveAndShort, HasPositiveSigmas}
use Rattle.control_doc.specs.Single.{alone_plan, alone_control}
use Rattle.std.specs.declared.alloc.AllocError.{AllocError}
use Rattle.control_doc.specs.Views.{Answers, control_view}
use Rattle.control_doc.proofs.Created.{created_value}
use Rattle.control_doc.specs.declared.faults.ControlCause.{ControlCause}
use Rattle.control_doc.specs.declared.faults.ControlError.{ControlError}
use Rattle.control_doc.specs.declared.plans.Control.{Control}
use Rattle.control_doc.specs.declared.faults.ControlCause.TheVariants as causes

-- ---- what a value says of the steps before it
and_value : {X Y : Type 0} (f : Result X PlainFault) (next : X → Result Y PlainFault) (y : Y) → and_then f next ≡ Ok y → (x : X) × (f ≡ Ok x) × (next x ≡ Ok y)
and_value (Ok x) next y h = (x, refl, h)
and_value (Err e) next y h = absurd (cc)

or_value : {X : Type 0} (cause : ControlCause) (path : List ℕ) (o : Option X) (x : X) → or_fault cause path o ≡ Ok x → o ≡ Some x
or_value cause path None x h = absurd (cc)
or_value cause path (Some z) x h = ap Some (ok_same z x h)

-- ---- names
shown_value : (least most : ℕ) (text value : List ℕ) → shown least most text ≡ Some value → (least ≤ length value) × (length value ≤ most)
shown_value least most text value h = by_test (nat_le least (length text)) (nat_le (length text) most) (list_all is_shown text) refl refl h
  where
    by_test : (a b c : Bool) → nat_le least (length text) ≡ a → nat_le (length text) most ≡ b → (if a && b && c then Some text else None) ≡ Some value → (least ≤ length value) × (length value ≤ most)
    by_test true true true p q e = let same : text ≡ value = cc in subst (λ v. (least ≤ length v) × (length v ≤ most)) same (leb-true least (length text) p, leb-true (length text) most q)
    by_test true true false p q e = absurd (cc)
    by_test true false c p q e = absurd (cc)
    by_test false b c p q e = absurd (cc)

fresh_value : (before : List PlainPlan) (path name value : List ℕ) → new_name before path name ≡ Ok value → (is_listed before value ≡ false) × (name ≡ value)
fresh_value before path name value h = by_test (is_listed before name) refl h
  where
    by_test : (b : Bool) → is_listed before name ≡ b → (let r : Result (List ℕ) PlainFault = if b then fault causes.Repeated path else Ok name in r ≡ Ok value) → (is_listed before value ≡ false) × (name ≡ value)
    by_test true p e = absurd (cc)
    by_test false p e = let same : name ≡ value = ok_same name value e in (subst (λ n. is_listed before n ≡ false) same p, same)

named_value : (before : List PlainPlan) (entry : Entry) (name : List ℕ) → file_name before entry ≡ Ok name → (is_listed before name ≡ false) × ((1 ≤ length name) × (length name ≤ 60))
named_value before entry name h =
    let path = key_path entry.path (codes "name") in
    let a = and_value (only_keys entry.path (codes "name" ∷ codes "weight" ∷ codes "group" ∷ codes "form" ∷ codes "constraints" ∷ []) entry.members)
    (λ known. and_then (needed file_text entry.path (codes "name") entry.members) (new_name before path)) name h in
    let b = and_value (needed file_text entry.path (codes "name") entry.members) (new_name before path) name a.2 in
    let c = and_value (text_needed entry.path (codes "name") entry.members) (λ text. or_fault causes.Value path (file_text text)) b.0 b.1 in
    let new = fresh_value before path b.0 name b.2 in
    (new.0, subst (λ n. (1 ≤ length n) × (length n ≤ 60)) new.1 (shown_value 1 60 c.0 b.0 (or_value causes.Value path (file_text c.0) b.0 c.2)))

weight_value : (path : List ℕ) (given : Option Data) (d : Decimal) → IsWeight path given (Ok d) → is_positive_and_short d ≡ true
weight_value path None d h = let same : d ≡ one = ok_same d one h in subst (λ x. is_positive_and_short x ≡ true) (sym same) refl
weight_value path (Some given) d h = let g = went_on (Is (text_at path given)) (IsDecimalIn path) d h in g.onward.1

-- ---- files
abbrev Fine : PlainPlan → Type 0
Fine plan = IsFileName plan × (is_positive_and_short plan.weight ≡ true)

abbrev Apart : PlainPlan → PlainPlan → Type 0
Apart one other = one.name ≢ other.name

plan_value : (before : List PlainPlan) (entry : Entry) (plan : PlainPlan) → IsPlan before entry (Ok plan) → (is_listed before plan.name ≡ false) × Fine plan
plan_value before entry plan h =
    let a = went_on _ _ plan h in
    let b = went_on _ _ plan a.onward in
    let c = went_on _ _ plan b.onward in
    let d = went_on _ _ plan c.onward in
    let e = went_on _ _ plan d.onward in
    let named = named_value before entry a.gives (sym a.given) in
    let weighed = weight_value (key_path entry.path (codes "weight")) (get_member (codes "weight") entry.members) b.gives b.given in
    let whole : PlainPlan = record { name = a.gives; weight = b.gives; group = c.gives; form = d.gives; held = e.gives } in
    let same : plan ≡ whole = ok_same plan whole e.onward in
    subst (λ (p : PlainPlan). (is_listed before p.name ≡ false) × Fine p) (sym same) (named.0, (named.1, weighed))

not_listed : (plans : List PlainPlan) (name : List ℕ) → is_listed plans name ≡ false → (k : ℕ) (d : PlainPlan) → k < length plans → (get_or plans k d).name ≢ name
not_listed [] name h k d lt = absurd (omega arith)
not_listed (x ∷ plans) name h zero d lt = λ e. first_false (bytes_eq x.name name) (is_listed plans name) ((bytes_eq-Decides x.name name).1 e) h
  where
    first_false : (a b : Bool) → a ≡ true → (a || b) ≡ false → ⊥
    first_false true b p q = absurd (cc)
    first_false false b p q = absurd (cc)
not_listed (x ∷ plans) name h (suc k) d lt = not_listed plans name (second_false (bytes_eq x.name name) (is_listed plans name) h) k d (omega arith)
  where
    second_false : (a b : Bool) → (a || b) ≡ false → b ≡ false
    second_false true b q = absurd (cc)
    second_false false b q = q

plans_value : (before : List PlainPlan) (list : List Entry) (plans : List PlainPlan) → AllPairs Apart before → All Fine before → InTurn IsPlan before list (Ok plans)
    → AllPairs Apart plans × (All Fine plans × (length plans ≡ length before + length list))
plans_value before [] plans apart fine h =
    let same : plans ≡ before = ok_same plans before h in
    let count : length before ≡ length before + 0 = omega arith in
    subst (λ p. AllPairs Apart p × (All Fine p × (length p ≡ length before + 0))) (sym same) (apart, (fine, count))
plans_value before (entry ∷ rest) plans apart fine h =
    let g = went_on (IsPlan before entry) (λ plan. InTurn IsPlan (before ++ (plan ∷ [])) rest) plans h in
    let v = plan_value before entry g.gives g.given in
    let one_fine : All Fine (g.gives ∷ []) = all_one g.gives v.1 in
    let next = plans_value (before ++ (g.gives ∷ [])) rest plans (all_pairs_push Apart before g.gives apart (not_listed before g.gives.name v.0)) (All-append Fine before (g.gives ∷ []) fine one_fine) g.onward in
    let grown : length (before ++ (g.gives ∷ [])) ≡ length before + 1 = length-append before (g.gives ∷ []) in
    let count : length before + 1 + length rest ≡ length before + suc (length rest) = omega arith in
    (next.0, (next.1.0, next.1.1 ∙ ap (λ n. n + length rest) grown ∙ count))
  where
    all_one : (x : PlainPlan) → Fine x → All Fine (x ∷ [])
    all_one x fine zero d lt = fine
    all_one x fine (suc k) d lt = absurd (omega arith)

entry_count : (k : ℕ) (path : List ℕ) (files : List Members) → length (entries_from k path files) ≡ length files
entry_count k path [] = refl
entry_count k path (first ∷ rest) = ap suc (entry_count (k + 1) path rest)

-- ---- the parts of the top table
count_value : (files counted : List Members) → file_count files ≡ Ok counted → (1 ≤ length counted) × (length counted ≤ 64)
count_value [] counted h = absurd (cc)
count_value (first ∷ rest) counted h = by_test (nat_le (length (first ∷ rest)) 64) refl h
  where
    by_test : (b : Bool) → nat_le (length (first ∷ rest)) 64 ≡ b → (let r : Result (List Members) PlainFault = if b then Ok (first ∷ rest) else fault causes.TooMany (codes "file") in r ≡ Ok counted) → (1 ≤ length counted) × (length counted ≤ 64)
    by_test true p e =
        let same : first ∷ rest ≡ counted = ok_same (first ∷ rest) counted e in
        subst (λ l. (1 ≤ length l) × (length l ≤ 64)) same (omega arith, leb-true (length (first ∷ rest)) 64 p)
    by_test false p e = absurd (cc)

more_value : (most : ℕ) (path : List ℕ) (members found : Members) → no_more_than most path members ≡ Ok found → length (keys_of found) ≤ most
more_value most path members found h = by_test (nat_le (length (keys_of members)) most) refl h
  where
    by_test : (b : Bool) → nat_le (length (keys_of members)) most ≡ b → (let r : Result Members PlainFault = if b then Ok members else fault causes.Value path in r ≡ Ok found) → length (keys_of found) ≤ most
    by_test true p e = let same : members ≡ found = ok_same members found e in subst (λ m. length (keys_of m) ≤ most) same (leb-true (length (keys_of members)) most p)
    by_test false p e = absurd (cc)

parts_value : (top : Members) (parts : Parts) → parts_in top ≡ Ok parts → (1 ≤ length parts.files) × ((length parts.files ≤ 64) × (length (keys_of parts.scale) ≤ 60))
parts_value top parts h =
    let a = and_value (top_keys top) _ parts h in
    let b = and_value (and_then (there (codes "output") (get_member (codes "output") top)) (table_at (codes "output"))) _ parts a.2 in
    let c = and_value (if_there no_members (table_at (codes "run")) (get_member (codes "run") top)) _ parts b.2 in
    let d = and_value (and_then (and_then (there (codes "file") (get_member (codes "file") top)) (tables_at (codes "file"))) file_count) _ parts c.2 in
    let e = and_value (if_there None (λ value. and_then (table_at (codes "datum") value) (λ members. Ok (Some members))) (get_member (codes "datum") top)) _ parts d.2 in
    let f = and_value (if_there [] (tables_at (codes "reduce")) (get_member (codes "reduce") top)) _ parts e.2 in
    let g = and_value (and_then (if_there no_members (table_at (codes "scale")) (get_member (codes "scale") top)) (no_more_than 60 (codes "scale"))) _ parts f.2 in
    let files = and_value (and_then (there (codes "file") (get_member (codes "file") top)) (tables_at (codes "file"))) file_count d.0 d.1 in
    let scale = and_value (if_there no_members (table_at (codes "scale")) (get_member (codes "scale") top)) (no_more_than 60 (codes "scale")) g.0 g.1 in
    let counted = count_value files.0 d.0 files.2 in
    let whole : Parts = record { output = b.0; run = c.0; files = d.0; datum = e.0; reductions = f.0; scale = g.0 } in
    let same : whole ≡ parts = ok_same whole parts g.2 in
    subst (λ (p : Parts). (1 ≤ length p.files) × ((length p.files ≤ 64) × (length (keys_of p.scale) ≤ 60))) same (counted.0, (counted.1, more_value 60 (codes "scale") scale.0 g.0 scale.2))

-- ---- the time of creation
output_value : (members : Members) (header : PlainOutput) → output_in members ≡ Ok header → IsMoment header.created
output_value members header h =
    let path = key_path output_path (codes "created") in
    let a = and_value (only_keys output_path (codes "agency" ∷ codes "created" ∷ codes "technique" ∷ codes "content" ∷ codes "description" ∷ codes "output" ∷ codes "contact" ∷ []) members) _ header h in
    let b = and_value (needed agency_text output_path (codes "agency") members) _ header a.2 in
    let c = and_value (needed created_text output_path (codes "created") members) _ header b.2 in
    let d = and_value (given_or 67 letter output_path (codes "technique") members) _ header c.2 in
    let e = and_value (given_or 83 letter output_path (codes "content") members) _ header d.2 in
    let f = and_value (given_or [] header_text output_path (codes "description") members) _ header e.2 in
    let g = and_value (given_or [] header_text output_path (codes "output") members) _ header f.2 in
    let i = and_value (given_or [] header_text output_path (codes "contact") members) _ header g.2 in
    let whole : PlainOutput = record { agency = b.0; created = c.0; technique = d.0; content = e.0; description = f.0; output = g.0; contact = i.0 } in
    let same : whole ≡ header = ok_same whole header i.2 in
    let text = and_value (text_needed output_path (codes "created") members) (λ text. or_fault causes.Value path (created_text text)) c.0 c.1 in
    subst (λ (o : PlainOutput). IsMoment o.created) same (created_value text.0 c.0 (or_value causes.Value path (created_text text.0) c.0 text.2))

-- ---- standard deviations
sigma_value : (path : List ℕ) (given : Option Data) (sigma : Option Decimal) → IsSigma path given (Ok sigma) → IfSome sigma IsPositiveAndShort
sigma_value path None sigma h = let same : sigma ≡ None = ok_same sigma None h in subst (λ o. IfSome o IsPositiveAndShort) (sym same) tt
sigma_value path (Some given) sigma h =
    let g = went_on (IsDecimalAt path given) (λ d r. r ≡ Ok (Some d)) sigma h in
    let d = went_on (Is (text_at path given)) (IsDecimalIn path) g.gives g.given in
    let same : sigma ≡ Some g.gives = ok_same sigma (Some g.gives) g.onward in
    subst (λ o. IfSome o IsPositiveAndShort) (sym same) d.onward.1

-- what is answered where one at least is given is the datum itself
some_value : (datum found : PlainDatum) → with_sigma datum ≡ Ok found → datum ≡ found
some_value datum found h = by_case datum.translation datum.rotation datum.scale refl refl refl h
  where
    by_case : (a b c : Option Decimal) → datum.translation ≡ a → datum.rotation ≡ b → datum.scale ≡ c → with_sigma datum ≡ Ok found → datum ≡ found
    by_case None None None p q r e = absurd (cc)
    by_case (Some a) b c p q r e = cc
    by_case None (Some b) c p q r e = cc
    by_case None None (Some c) p q r e = cc

datum_value : (given : Option Members) (datum : Option PlainDatum) → IsDatum given (Ok datum) → IfSome datum HasPositiveSigmas
datum_value None datum h = let same : datum ≡ None = ok_same datum None h in subst (λ o. IfSome o HasPositiveSigmas) (sym same) tt
datum_value (Some members) datum h =
    let a = went_on _ _ datum h in
    let b = went_on _ _ datum a.onward in
    let c = went_on _ _ datum b.onward in
    let d = went_on _ _ datum c.onward in
    let e = went_on _ _ datum d.onward in
    let whole : PlainDatum = record { sites = a.gives; translation = b.gives; rotation = c.gives; scale = d.gives } in
    let same : whole ≡ e.gives = some_value whole e.gives (sym e.given) in
    let fine : HasPositiveSigmas whole = record {
      translation = sigma_value (codes "datum.translation") (get_member (codes "translation") members) b.gives b.given;
      rotation = sigma_value (codes "datum.rotation") (get_member (codes "rotation") members) c.gives c.given;
      scale = sigma_value (codes "datum.scale") (get_member (codes "scale") members) d.gives d.given;
    } in
    let last : datum ≡ Some e.gives = ok_same datum (Some e.gives) e.onward in
    subst (λ o. IfSome o HasPositiveSigmas) (sym last) (subst HasPositiveSigmas same fine)

-- ---- scale exponents
exponent_value : (path : List ℕ) (z t : ℤ) → exponent_of path z ≡ Ok t → IsScale t
exponent_value path z t h = by_test (int_le (negsuc 3) z) (int_le z (pos 6)) refl refl h
  where
    by_test : (a b : Bool) → int_le (negsuc 3) z ≡ a → int_le z (pos 6) ≡ b → (let r : Result ℤ PlainFault = if a && b then Ok z else fault causes.Value path in r ≡ Ok t) → IsScale t
    by_test true true p q e = let same : z ≡ t = ok_same z t e in subst IsScale same (omega (arith, ints), omega (arith, ints))
    by_test true false p q e = absurd (cc)
    by_test false b p q e = absurd (cc)

one_longer : (scales : ScaleMap) (kind : List ℕ) (t : ℤ) → map.len (map.insert scales kind t) ≤ map.len scales + 1
one_longer scales kind t = rw (map.len-insert nat_list_cmp_total scales kind t) (by_test (map.contains_key scales kind))
  where
    by_test : (b : Bool) → cond b (map.len scales) (map.len scales + 1) ≤ map.len scales + 1
    by_test true = omega arith
    by_test false = omega arith

scales_value : (members : Members) (keys : List (List ℕ)) (scales found : ScaleMap) → IsScaleMap scales → map.len scales + length keys ≤ 64 → scales_from members scales keys ≡ Ok found → IsScaleMap found
scales_value table [] scales found is room h = subst IsScaleMap (ok_same scales found h) is
scales_value table (key ∷ rest) scales found is room h =
    let a = and_value (with_scale table scales key) (λ more. scales_from table more rest) found h in
    let path = key_path (codes "scale") key in
    let t = and_value (and_then (and_then (there path (get_member key table)) (integer_at path)) (exponent_of path)) (λ t. Ok (map.insert scales (in_6 key) t)) a.0 a.1 in
    let z = and_value (and_then (there path (get_member key table)) (integer_at path)) (exponent_of path) t.0 t.1 in
    let range = exponent_value path z.0 t.0 z.2 in
    let more : ScaleMap = map.insert scales (in_6 key) t.0 in
    let same : more ≡ a.0 = ok_same more a.0 t.2 in
    let longer = one_longer scales (in_6 key) t.0 in
    let after : IsScaleMap more = is_scale_map_after scales (in_6 key) t.0 is (λ _. omega arith) range in
    let few : map.len more + length rest ≤ 64 = omega arith in
    scales_value table rest a.0 found (subst IsScaleMap same after) (subst (λ s. map.len s + length rest ≤ 64) same few) a.2

-- ---- the whole
control_value : (top : Members) (control : PlainControl) → IsControlOf top (Ok control) → IsValidControl control × AreNamed control
control_value top control h =
    let a = went_on _ _ control h in
    let b = went_on _ _ control a.onward in
    let c = went_on _ _ control b.onward in
    let d = went_on _ _ control c.onward in
    let e = went_on _ _ control d.onward in
    let f = went_on _ _ control e.onward in
    let g = went_on _ _ control f.onward in
    let i = went_on _ _ control g.onward in
    let k = went_on _ _ control i.onward in
    let parts = parts_value top a.gives (sym a.given) in
    let files = plans_value [] (entries (codes "file") a.gives.files) d.gives none_apart none_fine d.given in
    let each : length (entries (codes "file") a.gives.files) ≡ length a.gives.files = entry_count 0 (codes "file") a.gives.files in
    let whole_count : length d.gives ≡ 0 + length (entries (codes "file") a.gives.files) = files.1.1 in
    let count : length d.gives ≡ length a.gives.files = omega (arith, whole_count, each) in
    let known = and_value (scale_keys a.gives.scale) (λ known. scales_from a.gives.scale standard_scales (keys_of a.gives.scale)) g.gives (sym g.given) in
    let least : length (keys_of a.gives.scale) ≤ 60 = parts.1.1 in
    let room : map.len standard_scales + length (keys_of a.gives.scale) ≤ 64 = rw standard_len (omega (arith, least)) in
    let scales = scales_value a.gives.scale (keys_of a.gives.scale) standard_scales g.gives standard_is_scale_map room known.2 in
    let whole : PlainControl = record { header = b.gives; run = c.gives; files = d.gives; datum = e.gives; reductions = f.gives; scales = g.gives } in
    let same : control ≡ whole = ok_same control whole k.onward in
    subst (λ (p : PlainControl). IsValidControl p × AreNamed p) (sym same) (
      record {
        some = subst (λ n. 1 ≤ n) (sym count) parts.0;
        few = subst (λ n. n ≤ 64) (sym count) parts.1.0;
        apart = files.0;
        weights = λ n d lt. (files.1.0 n d lt).1;
        sigmas = datum_value a.gives.datum e.gives e.given;
        scales = scales;
        created = output_value a.gives.output b.gives (sym b.given);
      },
      λ n d lt. (files.1.0 n d lt).0,
    )
  where
    none_apart : AllPairs Apart []
    none_apart i j d lt within = absurd (omega arith)

    none_fine : All Fine []
    none_fine k d lt = absurd (omega arith)

of_table : (top : Option Members) (control : PlainControl) → IsControl top (Ok control) → IsValidControl control × AreNamed control
of_table None control h = absurd (cc)
of_table (Some top) control h = control_value top control h

pub read_valid : (text : List ℕ) (control : PlainControl) → IsRead text (Ok control) → IsValidControl control
read_valid text control h = (of_table (table_in text) control h).0

pub read_named : (text : List ℕ) (control : PlainControl) → IsRead text (Ok control) → AreNamed control
read_named text control h = (of_table (table_in text) control h).1

-- ---- the control of a single file
pub alone_valid : (name : List ℕ) → IsValidControl (alone_control name)
alone_valid name = record {
  some = omega arith;
  few = omega arith;
  apart = λ i j d lt within. absurd (omega arith);
  weights = λ k d lt. by_place k d lt;
  sigmas = tt;
  scales = standard_is_scale_map;
  created = refl;
}
  where
    by_place : (k : ℕ) (d : PlainPlan) → k < 1 → is_positive_and_short (get_or (alone_plan name ∷ []) k d).weight ≡ true
    by_place zero d lt = refl
    by_place (suc k) d lt = absurd (omega arith)

pub alone_kept : (r : Result Control AllocError) (name : List ℕ) → IfOk r (λ control. control_view control ≡ alone_control name) → IfOk r (λ control. IsValidControl (control_view control))
alone_kept (Ok control) name h = subst IsValidControl (sym h) (alone_valid name)
alone_kept (Err e) name h = tt

-- ---- what is answered to a text
pub read_kept : (r : Result Control ControlError) (text : List ℕ) → Answers control_view (IsRead text) r → IfOk r (λ control. IsValidControl (control_view control))
read_kept (Ok control) text h = read_valid text (control_view control) h
read_kept (Err e) text h = tt

pub read_names : (r : Result Control ControlError) (text : List ℕ) → Answers control_view (IsRead text) r → IfOk r (λ control. AreNamed (control_view control))
read_names (Ok control) text h = read_named text (control_view control) h
read_names (Err e) text h = tt
