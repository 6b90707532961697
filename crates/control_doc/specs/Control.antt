-- The control file: which table of keys is which control, or its first fault. That the file is TOML is `toml`'s; its keys are this
-- program's own (docs/FORMATS.md).
--
-- The faults are tested in this order: the top table, then the tables output, run, each file, datum, each reduction, scale. In a
-- table the least unknown key comes first, and then each key in the order in which it is written here: whether it is there, its
-- kind, its value. What speaks of another table, the reference and what a reduction is of, is tested after all others.
use Rattle.std.specs.Prelude.{◌≡◌, ◌∷◌, ℕ, suc, ℤ, pos, negsuc, nat_le, int_le, int_lt, Bool, true, false, ◌&&◌, ◌||◌, not, if◌then◌else◌, List, [], length, Option, Some, None, Result, Ok, Err, codes}
use Rattle.std.specs.List.{find, list_any}
use Rattle.std.specs.Option.{option_and_then}
use Rattle.std.specs.Str.{bytes_eq, is_utf8}
use Rattle.std.specs.FinMap as finmap
use Rattle.stated_order.specs.Steps.{IsOne, Then, InTurn}
use Rattle.toml.specs.Data.{Data, Members, no_members, get_member}
use Rattle.toml.specs.Parse.{parse_document}
use Rattle.decimal_e.specs.Decimals.{Decimal}
use Rattle.decimal_e.specs.Answers.{IsAnswer}
use Rattle.param_ids.specs.Plain.{PlainId}
use Rattle.param_ids.specs.Order.{is_same_id}
use Rattle.param_ids.specs.Texts.{in_6, is_plain}
use Rattle.param_ids.specs.Tables.{ScaleMap, standard_scales}
use Rattle.blanks.specs.Blanks.{trimmed}
use Rattle.snx_epoch.specs.declared.Epoch.{Epoch}
use Rattle.control_doc.specs.Faults.{PlainFault, fault, or_fault, and_then, key_path, entry_path}
use Rattle.control_doc.specs.Texts.{agency_text, file_text, group_text, header_text, letter, created_text, epoch_text_of_name, kind_of_name, code_of_name, point_of_name, soln_of_name, form_text, held_text, place_text}
use Rattle.control_doc.specs.Tables.{keys_of, is_other, only_keys, there, if_there, text_at, integer_at, table_at, tables_at, texts_at, text_lists_at, needed, given_or, Entry, entries}
use Rattle.control_doc.specs.Plain.{PlainPlan, PlainDatum, PlainReduction, PlainOutput, PlainRun, PlainControl}
use Rattle.control_doc.specs.declared.faults.ControlCause.TheVariants as causes
use Rattle.control_doc.specs.declared.plans.Form.TheVariants as forms
use Rattle.control_doc.specs.declared.plans.Held.TheVariants as held
use Rattle.control_doc.specs.declared.plans.Place.{Place}
use Rattle.control_doc.specs.declared.plans.Place.TheVariants as places
use Rattle.control_doc.specs.declared.plans.Site.{Site}

-- a step that a function says
abbrev pub Is : {X : Type 0} → X → X → Type 0
Is answer result = result ≡ answer

-- ---- decimals: positive, and of at most 9 digits from the first that is not 0 to the last
abbrev pub is_positive_and_short : Decimal → Bool
is_positive_and_short d = int_lt (pos 0) d.mant && int_lt d.mant (pos 1000000000)

abbrev pub IsDecimalIn : List ℕ → List ℕ → Result Decimal PlainFault → Type 0
IsDecimalIn path text (Ok d) = IsAnswer text (Ok d) × (is_positive_and_short d ≡ true)
IsDecimalIn path text (Err e) = (e ≡ record { cause = causes.Value; path = path }) × ((d : Decimal) → IsAnswer text (Ok d) → is_positive_and_short d ≡ false)

abbrev pub IsDecimalAt : List ℕ → Data → Result Decimal PlainFault → Type 0
IsDecimalAt path given = Then (Is (text_at path given)) (IsDecimalIn path)

abbrev pub one : Decimal
one = record { mant = pos 1; exp = pos 0 }

abbrev pub IsWeight : List ℕ → Option Data → Result Decimal PlainFault → Type 0
IsWeight path None result = result ≡ Ok one
IsWeight path (Some given) result = IsDecimalAt path given result

abbrev pub IsSigma : List ℕ → Option Data → Result (Option Decimal) PlainFault → Type 0
IsSigma path None result = result ≡ Ok None
IsSigma path (Some given) result = Then (IsDecimalAt path given) (λ d r. r ≡ Ok (Some d)) result

-- ---- the top table
pub record Parts : Type 0 where
  pub output : Members
  pub run : Members
  pub files : List Members
  pub datum : Option Members
  pub reductions : List Members
  pub scale : Members

-- a table has so many keys at most
abbrev pub no_more_than : ℕ → List ℕ → Members → Result Members PlainFault
no_more_than most path members = if nat_le (length (keys_of members)) most then Ok members else fault causes.Value path

-- one file at least, and 64 at most
abbrev pub file_count : List Members → Result (List Members) PlainFault
file_count [] = fault causes.Value (codes "file")
file_count (first ∷ rest) = if nat_le (length (first ∷ rest)) 64 then Ok (first ∷ rest) else fault causes.TooMany (codes "file")

-- the keys of the top table; another one is its own path
abbrev pub no_other_top : Option (List ℕ) → Result (Unit {0}) PlainFault
no_other_top None = Ok tt
no_other_top (Some key) = fault causes.Key key

abbrev pub top_keys : Members → Result (Unit {0}) PlainFault
top_keys top = no_other_top (find (is_other (codes "output" ∷ codes "run" ∷ codes "file" ∷ codes "datum" ∷ codes "reduce" ∷ codes "scale" ∷ [])) (keys_of top))

abbrev pub parts_in : Members → Result Parts PlainFault
parts_in top =
    and_then (top_keys top) (λ known.
    and_then (and_then (there (codes "output") (get_member (codes "output") top)) (table_at (codes "output"))) (λ output.
    and_then (if_there no_members (table_at (codes "run")) (get_member (codes "run") top)) (λ run.
    and_then (and_then (and_then (there (codes "file") (get_member (codes "file") top)) (tables_at (codes "file"))) file_count) (λ files.
    and_then (if_there None (λ value. and_then (table_at (codes "datum") value) (λ members. Ok (Some members))) (get_member (codes "datum") top)) (λ datum.
    and_then (if_there [] (tables_at (codes "reduce")) (get_member (codes "reduce") top)) (λ reductions.
    and_then (and_then (if_there no_members (table_at (codes "scale")) (get_member (codes "scale") top)) (no_more_than 60 (codes "scale"))) (λ scale.
    Ok (record { output = output; run = run; files = files; datum = datum; reductions = reductions; scale = scale }))))))))

-- ---- output
abbrev pub output_path : List ℕ
output_path = codes "output"

abbrev pub output_in : Members → Result PlainOutput PlainFault
output_in members =
    and_then (only_keys output_path (codes "agency" ∷ codes "created" ∷ codes "technique" ∷ codes "content" ∷ codes "description" ∷ codes "output" ∷ codes "contact" ∷ []) members) (λ known.
    and_then (needed agency_text output_path (codes "agency") members) (λ agency.
    and_then (needed created_text output_path (codes "created") members) (λ created.
    and_then (given_or 67 letter output_path (codes "technique") members) (λ technique.
    and_then (given_or 83 letter output_path (codes "content") members) (λ content.
    and_then (given_or [] header_text output_path (codes "description") members) (λ description.
    and_then (given_or [] header_text output_path (codes "output") members) (λ output.
    and_then (given_or [] header_text output_path (codes "contact") members) (λ contact.
    Ok (record { agency = agency; created = created; technique = technique; content = content; description = description; output = output; contact = contact })))))))))

-- ---- run
abbrev pub run_path : List ℕ
run_path = codes "run"

-- from 1 to 16 work
abbrev pub worker_count : ℤ → Result ℕ PlainFault
worker_count (pos n) = if nat_le 1 n && nat_le n 16 then Ok n else fault causes.Value (codes "run.workers")
worker_count (negsuc n) = fault causes.Value (codes "run.workers")

-- a text that names something of another table; what it may name is tested after all else
abbrev pub any_text : List ℕ → Option (List ℕ)
any_text text = Some text

abbrev pub run_in : Members → Result PlainRun PlainFault
run_in members =
    and_then (only_keys run_path (codes "reference" ∷ codes "workers" ∷ []) members) (λ known.
    and_then (given_or [] any_text run_path (codes "reference") members) (λ reference.
    and_then (if_there 1 (λ value. and_then (integer_at (codes "run.workers") value) worker_count) (get_member (codes "workers") members)) (λ workers.
    Ok (record { reference = reference; workers = workers }))))

-- ---- files
-- the name of a file is none that an entry before it has
abbrev pub new_name : List PlainPlan → List ℕ → List ℕ → Result (List ℕ) PlainFault
new_name before path name = if list_any (λ (plan : PlainPlan). bytes_eq plan.name name) before then fault causes.Repeated path else Ok name

abbrev pub file_name : List PlainPlan → Entry → Result (List ℕ) PlainFault
file_name before entry =
    and_then (only_keys entry.path (codes "name" ∷ codes "weight" ∷ codes "group" ∷ codes "form" ∷ codes "constraints" ∷ []) entry.members) (λ known.
    and_then (needed file_text entry.path (codes "name") entry.members) (new_name before (key_path entry.path (codes "name"))))

abbrev pub IsPlan : List PlainPlan → Entry → Result PlainPlan PlainFault → Type 0
IsPlan before entry =
    Then (Is (file_name before entry)) (λ name.
    Then (IsWeight (key_path entry.path (codes "weight")) (get_member (codes "weight") entry.members)) (λ weight.
    Then (Is (given_or [] group_text entry.path (codes "group") entry.members)) (λ group.
    Then (Is (given_or forms.Auto form_text entry.path (codes "form") entry.members)) (λ form.
    Then (Is (given_or held.Auto held_text entry.path (codes "constraints") entry.members)) (λ constraints.
    Is (Ok (record { name = name; weight = weight; group = group; form = form; held = constraints })))))))

abbrev pub ArePlans : List Members → Result (List PlainPlan) PlainFault → Type 0
ArePlans files = InTurn IsPlan [] (entries (codes "file") files)

-- ---- datum
abbrev pub sites_path : List ℕ
sites_path = codes "datum.sites"

-- a site has three texts: code, point and solution
abbrev pub site_of : List (List ℕ) → Option Site
site_of (code ∷ point ∷ soln ∷ []) = site_in (code_of_name code) (point_of_name point) (soln_of_name soln)
  where
    site_in : Option (List ℕ) → Option (List ℕ) → Option (List ℕ) → Option Site
    site_in (Some code) (Some point) (Some soln) = Some (record { code = code; point = point; soln = soln })
    site_in code point soln = None
site_of other = None

abbrev pub is_same_site : Site → Site → Bool
is_same_site a b = bytes_eq a.code b.code && bytes_eq a.point b.point && bytes_eq a.soln b.soln

-- all sites, if all have three texts that they may have
abbrev pub sites_of : List (List (List ℕ)) → Option (List Site)
sites_of [] = Some []
sites_of (texts ∷ rest) = option_and_then (λ site. option_and_then (λ others. Some (site ∷ others)) (sites_of rest)) (site_of texts)

-- a site stands twice
abbrev pub has_twice : List Site → Bool
has_twice [] = false
has_twice (site ∷ rest) = list_any (is_same_site site) rest || has_twice rest

abbrev pub without_twice : List Site → Result (List Site) PlainFault
without_twice sites = if has_twice sites then fault causes.Repeated sites_path else Ok sites

-- from 1 to 100 of them
abbrev pub site_count : List (List (List ℕ)) → Result (List (List (List ℕ))) PlainFault
site_count lists = if nat_le 1 (length lists) && nat_le (length lists) 100 then Ok lists else fault causes.Value sites_path

abbrev pub sites_in : Members → Result (List Site) PlainFault
sites_in members =
    and_then (only_keys (codes "datum") (codes "sites" ∷ codes "translation" ∷ codes "rotation" ∷ codes "scale" ∷ []) members) (λ known.
    and_then (and_then (and_then (there sites_path (get_member (codes "sites") members)) (text_lists_at sites_path)) site_count) (λ lists.
    and_then (or_fault causes.Value sites_path (sites_of lists)) without_twice))

-- one standard deviation at least
abbrev pub with_sigma : PlainDatum → Result PlainDatum PlainFault
with_sigma datum = some_sigma datum.translation datum.rotation datum.scale
  where
    some_sigma : Option Decimal → Option Decimal → Option Decimal → Result PlainDatum PlainFault
    some_sigma None None None = fault causes.Value (codes "datum")
    some_sigma translation rotation scale = Ok datum

abbrev pub IsDatumIn : Members → Result (Option PlainDatum) PlainFault → Type 0
IsDatumIn members =
    Then (Is (sites_in members)) (λ sites.
    Then (IsSigma (codes "datum.translation") (get_member (codes "translation") members)) (λ translation.
    Then (IsSigma (codes "datum.rotation") (get_member (codes "rotation") members)) (λ rotation.
    Then (IsSigma (codes "datum.scale") (get_member (codes "scale") members)) (λ scale.
    Then (Is (with_sigma (record { sites = sites; translation = translation; rotation = rotation; scale = scale }))) (λ datum.
    Is (Ok (Some datum)))))))

abbrev pub IsDatum : Option Members → Result (Option PlainDatum) PlainFault → Type 0
IsDatum None result = result ≡ Ok None
IsDatum (Some members) result = IsDatumIn members result

-- ---- reductions
-- what a reduction is of; at the end it is of nothing, and the key is passed over
abbrev pub of_text : Place → Entry → Result (List ℕ) PlainFault
of_text places.File entry = needed any_text entry.path (codes "of") entry.members
of_text places.Group entry = needed any_text entry.path (codes "of") entry.members
of_text places.End entry = Ok []

-- the name that five parts make, if all are there
abbrev pub id_in : Option (List ℕ) → Option (List ℕ) → Option (List ℕ) → Option (List ℕ) → Option Epoch → Option PlainId
id_in (Some kind) (Some code) (Some point) (Some soln) (Some epoch) = Some (record { kind = kind; code = code; point = point; soln = soln; epoch = epoch })
id_in kind code point soln epoch = None

-- the name of five texts: type, code, point, solution and moment
abbrev pub id_of : List (List ℕ) → Option PlainId
id_of (kind ∷ code ∷ point ∷ soln ∷ epoch ∷ []) = id_in (kind_of_name kind) (code_of_name code) (point_of_name point) (soln_of_name soln) (epoch_text_of_name epoch)
id_of other = None

-- the parameter of a reduction is none that one before it names
abbrev pub new_id : List PlainReduction → List ℕ → PlainId → Result PlainId PlainFault
new_id before path id = if list_any (λ (reduction : PlainReduction). is_same_id reduction.id id) before then fault causes.Repeated path else Ok id

abbrev pub reduction_in : List PlainReduction → Entry → Result PlainReduction PlainFault
reduction_in before entry =
    and_then (only_keys entry.path (codes "at" ∷ codes "of" ∷ codes "param" ∷ []) entry.members) (λ known.
    and_then (needed place_text entry.path (codes "at") entry.members) (λ place.
    and_then (of_text place entry) (λ named.
    and_then (and_then (and_then (there param (get_member (codes "param") entry.members)) (texts_at param)) (λ texts. and_then (or_fault causes.Value param (id_of texts)) (new_id before param))) (λ id.
    Ok (record { place = place; of = named; id = id })))))
  where
    param : List ℕ
    param = key_path entry.path (codes "param")

abbrev pub AreReductions : List Members → Result (List PlainReduction) PlainFault → Type 0
AreReductions tables = InTurn (λ before entry. Is (reduction_in before entry)) [] (entries (codes "reduce") tables)

-- ---- scales
-- a type of parameters: 1 to 6 bytes from 32 to 126, without a blank at either end
abbrev pub is_type : List ℕ → Bool
is_type key = nat_le 1 (length key) && nat_le (length key) 6 && is_plain key && bytes_eq (trimmed key) key

abbrev pub scale_keys : Members → Result (Unit {0}) PlainFault
scale_keys members = no_bad_type (find (λ key. not (is_type key)) (keys_of members))
  where
    no_bad_type : Option (List ℕ) → Result (Unit {0}) PlainFault
    no_bad_type None = Ok tt
    no_bad_type (Some key) = fault causes.Key (key_path (codes "scale") key)

-- an exponent from -4 to 6
abbrev pub exponent_of : List ℕ → ℤ → Result ℤ PlainFault
exponent_of path t = if int_le (negsuc 3) t && int_le t (pos 6) then Ok t else fault causes.Value path

-- the exponent of a type, in the place of the one that it had
abbrev pub with_scale : Members → ScaleMap → List ℕ → Result ScaleMap PlainFault
with_scale members scales key =
    and_then (and_then (and_then (there path (get_member key members)) (integer_at path)) (exponent_of path)) (λ t. Ok (finmap.insert scales (in_6 key) t))
  where
    path : List ℕ
    path = key_path (codes "scale") key

-- the standard exponents, and those of the table in the order of its keys
abbrev pub scales_from : Members → ScaleMap → List (List ℕ) → Result ScaleMap PlainFault
scales_from table scales [] = Ok scales
scales_from table scales (key ∷ rest) = and_then (with_scale table scales key) (λ more. scales_from table more rest)

abbrev pub scales_in : Members → Result ScaleMap PlainFault
scales_in members = and_then (scale_keys members) (λ known. scales_from members standard_scales (keys_of members))

-- ---- what speaks of other tables
abbrev pub is_listed : List PlainPlan → List ℕ → Bool
is_listed files name = list_any (λ (plan : PlainPlan). bytes_eq plan.name name) files

-- a file without a group is in none that could be named
abbrev pub is_group : List PlainPlan → List ℕ → Bool
is_group files [] = false
is_group files (byte ∷ rest) = list_any (λ (plan : PlainPlan). bytes_eq plan.group (byte ∷ rest)) files

-- the reference is a listed file, if it is given
abbrev pub listed_text : List PlainPlan → List ℕ → Option (Unit {0})
listed_text files name = if is_listed files name then Some tt else None

abbrev pub reference_in : List PlainPlan → Members → Result (Unit {0}) PlainFault
reference_in files run = given_or tt (listed_text files) run_path (codes "reference") run

-- a reduction at a file is of a listed one, and one at a group is of a group that a file has
abbrev pub is_known : List PlainPlan → PlainReduction → Bool
is_known files reduction = known_at reduction.place
  where
    known_at : Place → Bool
    known_at places.File = is_listed files reduction.of
    known_at places.Group = is_group files reduction.of
    known_at places.End = true

abbrev pub known_from : ℕ → List PlainPlan → List PlainReduction → Result (Unit {0}) PlainFault
known_from k files [] = Ok tt
known_from k files (reduction ∷ rest) =
    if is_known files reduction then known_from (suc k) files rest else fault causes.Value (key_path (entry_path (codes "reduce") k) (codes "of"))

-- ---- the whole file
abbrev pub IsControlOf : Members → Result PlainControl PlainFault → Type 0
IsControlOf top =
    Then (Is (parts_in top)) (λ parts.
    Then (Is (output_in parts.output)) (λ header.
    Then (Is (run_in parts.run)) (λ run.
    Then (ArePlans parts.files) (λ files.
    Then (IsDatum parts.datum) (λ datum.
    Then (AreReductions parts.reductions) (λ reductions.
    Then (Is (scales_in parts.scale)) (λ scales.
    Then (Is (reference_in files parts.run)) (λ referred.
    Then (Is (known_from 0 files reductions)) (λ known.
    Is (Ok (record { header = header; run = run; files = files; datum = datum; reductions = reductions; scales = scales })))))))))))

-- the table that a text writes in TOML, if it writes one; TOML is UTF-8
abbrev pub table_in : List ℕ → Option Members
table_in text = if is_utf8 text then parse_document text else None

-- The control of a table, or its first fault.
abbrev pub IsControl : Option Members → Result PlainControl PlainFault → Type 0
IsControl None result = result ≡ fault causes.Syntax []
IsControl (Some top) result = IsControlOf top result

-- The control that a text says, or its first fault.
abbrev pub IsRead : List ℕ → Result PlainControl PlainFault → Type 0
IsRead text = IsControl (table_in text)

-- a control file says one control at most, or has one first fault, and never both
abbrev pub OneControl : Type 0
OneControl = (top : Option Members) → IsOne (IsControl top)
