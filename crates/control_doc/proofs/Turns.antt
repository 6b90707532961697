-- Tables of an array in turn, as a loop over them shows it.
use Rattle.std.proofs.Common.{◌≡◌, ◌++◌, ◌∷◌, ◌+◌, ◌<◌, ◌≤◌, ◌∙◌, ℕ, zero, suc, List, [], Result, Ok, Err, map, length, take, drop, get_or, refl, ap, sym, subst, arith}
use Rattle.stated_order.specs.Steps.{InTurn}
use Rattle.stated_order.proofs.StepLaws.{in_turn_more, in_turn_stops}
use Rattle.toml.specs.Data.{Members}
use Rattle.control_doc.specs.Faults.{PlainFault, entry_path}
use Rattle.control_doc.specs.Tables.{Entry, entries_from, entries}
use Rattle.control_doc.specs.Views.{Answers, fault_view}
use Rattle.control_doc.specs.declared.faults.ControlError.{ControlError}
use Rattle.control_doc.specs.declared.faults.ControlError.TheVariants as errors

module _ {T : Type 0} (path : List ℕ) (see : T → Members) where
  abbrev entry_of : ℕ → T → Entry
  entry_of k t = record { path = entry_path path k; members = see t }

  -- the entries up to one, it, and those after it
  split_from : (n : ℕ) (ts : List T) (k : ℕ) (t : T) → k < length ts
      → entries_from n path (map see ts) ≡ entries_from n path (map see (take k ts)) ++ (entry_of (n + k) (get_or ts k t) ∷ entries_from (n + k + 1) path (map see (drop (suc k) ts)))
  split_from n [] k t lt = absurd (omega arith)
  split_from n (x ∷ ts) zero t lt = let e : n + 0 ≡ n = omega arith in rw e refl
  split_from n (x ∷ ts) (suc k) t lt =
      let e : n + 1 + k ≡ n + suc k = omega arith in
      ap (λ rest. entry_of n x ∷ rest)
      (subst (λ j. entries_from (n + 1) path (map see ts) ≡ entries_from (n + 1) path (map see (take k ts)) ++ (entry_of j (get_or ts k t) ∷ entries_from (j + 1) path (map see (drop (suc k) ts)))) e
      (split_from (n + 1) ts k t (omega arith)))

  more_from : (n : ℕ) (ts : List T) (k : ℕ) (t : T) → k < length ts
      → entries_from n path (map see (take (suc k) ts)) ≡ entries_from n path (map see (take k ts)) ++ (entry_of (n + k) (get_or ts k t) ∷ [])
  more_from n [] k t lt = absurd (omega arith)
  more_from n (x ∷ ts) zero t lt = let e : n + 0 ≡ n = omega arith in rw e refl
  more_from n (x ∷ ts) (suc k) t lt =
      let e : n + 1 + k ≡ n + suc k = omega arith in
      ap (λ rest. entry_of n x ∷ rest)
      (subst (λ j. entries_from (n + 1) path (map see (take (suc k) ts)) ≡ entries_from (n + 1) path (map see (take k ts)) ++ (entry_of j (get_or ts k t) ∷ [])) e
      (more_from (n + 1) ts k t (omega arith)))

  module _ {B : Type 0} (step : List B → Entry → Result B PlainFault → Type 0) (ts : List T) (k : ℕ) (t here : T) (name : List ℕ) (given : List B) where
    at_entry : (r : Result B PlainFault) → get_or ts k t ≡ here → name ≡ entry_path path k → step given (record { path = name; members = see here }) r → step given (entry_of (0 + k) (get_or ts k t)) r
    at_entry r at is now =
        let z : k ≡ 0 + k = omega arith in
        subst (λ (x : T). step given (entry_of (0 + k) x) r) (sym at) (subst (λ (p : List ℕ). step given (record { path = p; members = see here }) r) (is ∙ ap (entry_path path) z) now)

    pub turn_more : (b : B) → k < length ts → get_or ts k t ≡ here → name ≡ entry_path path k → InTurn step [] (entries path (map see (take k ts))) (Ok given)
        → step given (record { path = name; members = see here }) (Ok b) → InTurn step [] (entries path (map see (take (k + 1) ts))) (Ok (given ++ (b ∷ [])))
    turn_more b lt at is so_far now =
        let e : suc k ≡ k + 1 = omega arith in
        subst (λ j. InTurn step [] (entries path (map see (take j ts))) (Ok (given ++ (b ∷ [])))) e
        (subst (λ l. InTurn step [] l (Ok (given ++ (b ∷ [])))) (sym (more_from 0 ts k t lt))
        (in_turn_more step [] given (entries path (map see (take k ts))) (entry_of (0 + k) (get_or ts k t)) b so_far (at_entry (Ok b) at is now)))

    turn_fails : (c : PlainFault) → k < length ts → get_or ts k t ≡ here → name ≡ entry_path path k → InTurn step [] (entries path (map see (take k ts))) (Ok given)
        → step given (record { path = name; members = see here }) (Err c) → InTurn step [] (entries path (map see ts)) (Err c)
    turn_fails c lt at is so_far now =
        subst (λ l. InTurn step [] l (Err c)) (sym (split_from 0 ts k t lt))
        (in_turn_stops step [] given (entries path (map see (take k ts))) (entries_from (0 + k + 1) path (map see (drop (suc k) ts))) (entry_of (0 + k) (get_or ts k t)) c so_far (at_entry (Err c) at is now))

    pub turn_stops : {U V : Type 0} (v : U → B) (w : V → List B) (e : ControlError) → k < length ts → get_or ts k t ≡ here → name ≡ entry_path path k → InTurn step [] (entries path (map see (take k ts))) (Ok given)
        → Answers v (step given (record { path = name; members = see here })) (let r : Result U ControlError = Err e in r)
        → Answers w (InTurn step [] (entries path (map see ts))) (let r : Result V ControlError = Err e in r)
    turn_stops v w (errors.Fault fault) lt at is so_far now = turn_fails (fault_view fault) lt at is so_far now
    turn_stops v w errors.Memory lt at is so_far now = tt

pub all_taken : {T : Type 0} (ts : List T) (k : ℕ) → length ts ≤ k → take k ts ≡ ts
all_taken [] zero le = refl
all_taken [] (suc k) le = refl
all_taken (x ∷ ts) zero le = absurd (omega arith)
all_taken (x ∷ ts) (suc k) le = ap (λ rest. x ∷ rest) (all_taken ts k (omega arith))

pub map_last : {A B : Type 0} (f : A → B) (xs : List A) (x : A) → map f (xs ++ (x ∷ [])) ≡ map f xs ++ (f x ∷ [])
map_last f [] x = refl
map_last f (y ∷ xs) x = ap (λ rest. f y ∷ rest) (map_last f xs x)
