-- What stands at the keys of a table, by the kinds that TOML has.
use Rattle.std.specs.Prelude.{◌+◌, ℕ, ℤ, Bool, not, List, [], ◌∷◌, Option, Some, None, Result, Ok}
use Rattle.std.specs.List.{find, list_any}
use Rattle.std.specs.Option.{option_and_then}
use Rattle.std.specs.Str.{bytes_eq}
use Rattle.toml.specs.Data.{Data, as_str, as_integer, as_array, as_table, Items, no_items, item, Members, no_members, member, get_member}
use Rattle.control_doc.specs.Faults.{PlainFault, fault, or_fault, and_then, key_path, entry_path}
use Rattle.control_doc.specs.declared.faults.ControlCause.TheVariants as causes

-- ---- keys
-- the keys of a table, in the order of their bytes
abbrev pub keys_of : Members → List (List ℕ)
keys_of no_members = []
keys_of (member key value rest) = key ∷ keys_of rest

-- a table has these keys alone; else the least other key is the fault
abbrev pub is_other : List (List ℕ) → List ℕ → Bool
is_other known key = not (list_any (bytes_eq key) known)

abbrev pub no_other : List ℕ → Option (List ℕ) → Result (Unit {0}) PlainFault
no_other path None = Ok tt
no_other path (Some key) = fault causes.Key (key_path path key)

abbrev pub only_keys : List ℕ → List (List ℕ) → Members → Result (Unit {0}) PlainFault
only_keys path known members = no_other path (find (is_other known) (keys_of members))

-- what stands at a key that must be there
abbrev pub there : List ℕ → Option Data → Result Data PlainFault
there path = or_fault causes.Key path

-- what a key that need not be there gives, and what stands for it where it is not there
abbrev pub if_there : {X : Type 0} → X → (Data → Result X PlainFault) → Option Data → Result X PlainFault
if_there otherwise read None = Ok otherwise
if_there otherwise read (Some value) = read value

-- ---- kinds
abbrev pub text_at : List ℕ → Data → Result (List ℕ) PlainFault
text_at path value = or_fault causes.Kind path (as_str value)

abbrev pub integer_at : List ℕ → Data → Result ℤ PlainFault
integer_at path value = or_fault causes.Kind path (as_integer value)

abbrev pub table_at : List ℕ → Data → Result Members PlainFault
table_at path value = or_fault causes.Kind path (as_table value)

-- what each item is, if each is of a kind
abbrev pub each_as : {X : Type 0} → (Data → Option X) → Items → Option (List X)
each_as kind no_items = Some []
each_as kind (item value rest) = option_and_then (λ x. option_and_then (λ others. Some (x ∷ others)) (each_as kind rest)) (kind value)

-- a list of tables, a list of texts, and a list of lists of texts
abbrev pub as_tables : Data → Option (List Members)
as_tables value = option_and_then (each_as as_table) (as_array value)

abbrev pub as_texts : Data → Option (List (List ℕ))
as_texts value = option_and_then (each_as as_str) (as_array value)

abbrev pub as_text_lists : Data → Option (List (List (List ℕ)))
as_text_lists value = option_and_then (each_as as_texts) (as_array value)

-- the same at a key: the kind of the whole value is tested, its inner items too
abbrev pub tables_at : List ℕ → Data → Result (List Members) PlainFault
tables_at path value = or_fault causes.Kind path (as_tables value)

abbrev pub texts_at : List ℕ → Data → Result (List (List ℕ)) PlainFault
texts_at path value = or_fault causes.Kind path (as_texts value)

abbrev pub text_lists_at : List ℕ → Data → Result (List (List (List ℕ))) PlainFault
text_lists_at path value = or_fault causes.Kind path (as_text_lists value)

-- ---- values
-- the text at a key of a table, which must be there; and one that need not
abbrev pub text_needed : List ℕ → List ℕ → Members → Result (List ℕ) PlainFault
text_needed table_path key members = and_then (there (key_path table_path key) (get_member key members)) (text_at (key_path table_path key))

abbrev pub text_given : List ℕ → List ℕ → Members → Result (Option (List ℕ)) PlainFault
text_given table_path key members = if_there None (λ value. and_then (text_at (key_path table_path key) value) (λ text. Ok (Some text))) (get_member key members)

-- the value of a text, if it has the one that is asked for; and what stands for it where there is none
abbrev pub value_or : {X : Type 0} → X → (List ℕ → Option X) → List ℕ → Option (List ℕ) → Result X PlainFault
value_or otherwise value path None = Ok otherwise
value_or otherwise value path (Some text) = or_fault causes.Value path (value text)

-- the value of a key of a table, whose text must be there; and of one whose text need not
abbrev pub needed : {X : Type 0} → (List ℕ → Option X) → List ℕ → List ℕ → Members → Result X PlainFault
needed value table_path key members = and_then (text_needed table_path key members) (λ text. or_fault causes.Value (key_path table_path key) (value text))

abbrev pub given_or : {X : Type 0} → X → (List ℕ → Option X) → List ℕ → List ℕ → Members → Result X PlainFault
given_or otherwise value table_path key members = and_then (text_given table_path key members) (value_or otherwise value (key_path table_path key))

-- the tables of an array with their paths
pub record Entry : Type 0 where
  pub path : List ℕ
  pub members : Members

abbrev pub entries_from : ℕ → List ℕ → List Members → List Entry
entries_from k path [] = []
entries_from k path (members ∷ rest) = record { path = entry_path path k; members = members } ∷ entries_from (k + 1) path rest

abbrev pub entries : List ℕ → List Members → List Entry
entries = entries_from 0
