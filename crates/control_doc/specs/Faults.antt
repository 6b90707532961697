-- Faults of a control file: a cause, and the path of the key at which it is found.
use Rattle.std.specs.Prelude.{◌++◌, ℕ, List, Option, Some, None, Result, Ok, Err, codes}
use Rattle.std.specs.Fmt.{decimal}
use Rattle.control_doc.specs.declared.faults.ControlCause.{ControlCause}

pub record PlainFault : Type 0 where
  pub cause : ControlCause
  pub path : List ℕ

abbrev pub fault : {X : Type 0} → ControlCause → List ℕ → Result X PlainFault
fault cause path = Err (record { cause = cause; path = path })

-- what is there, or the cause at this path where nothing is
abbrev pub or_fault : {X : Type 0} → ControlCause → List ℕ → Option X → Result X PlainFault
or_fault cause path None = fault cause path
or_fault cause path (Some x) = Ok x

-- one step and then the next, where each has a value or a fault
abbrev pub and_then : {X Y : Type 0} → Result X PlainFault → (X → Result Y PlainFault) → Result Y PlainFault
and_then (Ok x) next = next x
and_then (Err e) next = Err e

-- the path of a key in a table, and of entry k of an array of tables, counted from 0
abbrev pub key_path : List ℕ → List ℕ → List ℕ
key_path table key = table ++ (codes "." ++ key)

abbrev pub entry_path : List ℕ → ℕ → List ℕ
entry_path array k = key_path array (decimal k)
