-- Arrays whose items are all of a kind, item by item.
use Rattle.std.proofs.Common.{◌≡◌, ◌++◌, ◌∷◌, List, [], suc, length, Option, Some, None, refl, ap, sym, append_assoc, append-nil}
use Rattle.std.specs.Option.{option_and_then}
use Rattle.toml.specs.Data.{Data, Items, no_items, item}
use Rattle.toml.specs.View.{members_view}
use Rattle.toml.proofs.Views.{Entry}
use Rattle.control_doc.specs.Tables.{each_as, keys_of}

-- those before, and the rest
abbrev pub before : {X : Type 0} → List X → Option (List X) → Option (List X)
before done None = None
before done (Some rest) = Some (done ++ rest)

pub before_nothing : {X : Type 0} (rest : Option (List X)) → before [] rest ≡ rest
before_nothing None = refl
before_nothing (Some rest) = refl

one_more : {X : Type 0} (done : List X) (x : X) (rest : Option (List X)) → before done (option_and_then (λ others. Some (x ∷ others)) rest) ≡ before (done ++ (x ∷ [])) rest
one_more done x None = refl
one_more done x (Some rest) = ap Some (sym (append_assoc done (x ∷ []) rest))

-- an item that is of the kind
pub before_more : {X : Type 0} (kind : Data → Option X) (done : List X) (d : Data) (x : X) (rest : Items) → kind d ≡ Some x → before done (each_as kind (item d rest)) ≡ before (done ++ (x ∷ [])) (each_as kind rest)
before_more kind done d x rest is = rw is (one_more done x (each_as kind rest))

-- one that is not
pub before_none : {X : Type 0} (kind : Data → Option X) (done : List X) (d : Data) (rest : Items) → kind d ≡ None → before done (each_as kind (item d rest)) ≡ None
before_none kind done d rest is = rw is refl

pub before_end : {X : Type 0} (kind : Data → Option X) (done : List X) → before done (each_as kind no_items) ≡ Some done
before_end kind done = ap Some (append-nil done)

-- a table has as many keys as entries
pub keys_count : (es : List Entry) → length (keys_of (members_view es)) ≡ length es
keys_count [] = refl
keys_count (e ∷ es) = ap suc (keys_count es)
