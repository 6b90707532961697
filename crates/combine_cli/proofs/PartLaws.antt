-- The parts of files, one after another.
use Rattle.std.proofs.Common.{◌≡◌, ◌≢◌, ◌⊎◌, ◌∷◌, ◌++◌, ◌+◌, ◌<◌, ◌∙◌, inl, inr, ℕ, List, [], length, get_or, map, take, false, if◌then◌else◌, Result, Ok, Err, refl, sym, ap, subst, arith}
use Rattle.std.specs.Result.{is_ok, is_err}
use Rattle.std.specs.Prelude.{All}
use Rattle.std.proofs.Math.ListN.{get_or-map}
use Rattle.std.proofs.lemmas.List.{length-map, map-append}
use Rattle.std.proofs.lemmas.List.Elements.{All-contains}
use Rattle.stated_order.specs.Lists.{AreEach}
use Rattle.param_ids.specs.Tables.{ScaleMap}
use Rattle.snx_rows.specs.declared.rows.Row.{Row}
use Rattle.file_recovery.specs.declared.faults.FileFault.{FileFault}
use Rattle.file_recovery.specs.declared.faults.FileError.TheVariants.{Memory, Fault}
use Rattle.run_inputs.specs.Inputs.{PlainInput}
use Rattle.combine_cli.specs.Combination.{Part, IsPart, AreParts}
use Rattle.combine_cli.specs.Parts.{IsPartOf}
use Rattle.combine_cli.proofs.TurnLaws.{turn_more, pair_more}

-- ---- why a file has no part
-- the cause that a recovery answers, where it is not want of memory
pub fault_told : (fault : FileFault) (P : FileFault → Type 0) → (Fault fault ≡ Memory) ⊎ ((other : FileFault) × (Fault fault ≡ Fault other) × P other) → P fault
fault_told fault P (inl e) = absurd (cc)
fault_told fault P (inr (other, e, h)) = let same : other ≡ fault = cc in subst P same h

-- ---- one more part
pub pushed_whole : {T E X : Type 0} (r : Result T E) (xs whole front : List X) → is_err r ≡ false → xs ≡ (if is_ok r then whole else front) → xs ≡ whole
pushed_whole (Ok done) xs whole front e h = h
pushed_whole (Err cause) xs whole front e h = absurd (cc)

module _ {X Y : Type 0} (view : X → PlainInput) (see : Y → Part) (scales : ScaleMap) (base : List Row) (inputs : List X) (i n : ℕ) (x : X) (parts pushed : List Y) (part : Y)
    (lt : i < length inputs) (is : x ≡ get_or inputs i x) (n_is : n ≡ i + 1) (pushed_is : pushed ≡ parts ++ part ∷ []) where
  seen : map see parts ++ see part ∷ [] ≡ map see pushed
  seen = sym (ap (map see) pushed_is ∙ map-append see parts (part ∷ []))

  pub part_more : AreParts scales base (map view (take i inputs)) (Ok (map see parts)) → IsPart scales base [] (view x) (Ok (see part)) → AreParts scales base (map view (take n inputs)) (Ok (map see pushed))
  part_more so_far here =
      subst (λ (k : ℕ). AreParts scales base (map view (take k inputs)) (Ok (map see pushed))) (sym n_is)
      (subst (λ (l : List Part). AreParts scales base (map view (take (i + 1) inputs)) (Ok l)) seen (turn_more view inputs i x lt is (IsPart scales base) (map see parts) (see part) so_far here))

  pub known_more : AreEach (IsPartOf scales base) (map view (take i inputs)) (map see parts) → IsPartOf scales base (view x) (see part) → AreEach (IsPartOf scales base) (map view (take n inputs)) (map see pushed)
  known_more each here =
      subst (λ (k : ℕ). AreEach (IsPartOf scales base) (map view (take k inputs)) (map see pushed)) (sym n_is)
      (subst (λ (l : List Part). AreEach (IsPartOf scales base) (map view (take (i + 1) inputs)) l) seen (pair_more view inputs i x lt is (IsPartOf scales base) (map see parts) (see part) each here))
