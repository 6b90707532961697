-- The columns at a scale, one more at a time, and the scales from the greatest down.
use Rattle.std.proofs.Common.{◌≡◌, ◌<◌, ◌+◌, ◌-◌, ◌∙◌, ℕ, ℤ, arith, subst, below_more}
use Rattle.std.proofs.Math.Decide.{dec_lt}
use Rattle.whole_numbers.specs.Squares.{SquareTable}
use Rattle.chol_guess.specs.Columns.{IsInverseColumn, StayInBounds}
use Rattle.enclosures.specs.Pilots.{IsPilotScale}
use Rattle.chol_guess.specs.Rows.{HasColumn, PlacesColumns, KeepsColumns, IsFirstFailing, FailAbove}

pub placed_stay : (n : ℕ) (f : ℕ → ℕ → ℤ) (g : ℕ) (ws : SquareTable) (c : ℕ) → PlacesColumns n f g ws c → StayInBounds n f g c
placed_stay n f g ws c placed k h = let p = placed k h in (p.0, p.1.0)

pub first_failing : (n : ℕ) (f : ℕ → ℕ → ℤ) (g : ℕ) (ws : SquareTable) (c : ℕ) → c < n → PlacesColumns n f g ws c → ((y : ℕ → ℤ) → ¬ (IsInverseColumn n f g c y)) → IsFirstFailing n f g c
first_failing n f g ws c within placed none = record {
  within = within;
  before = placed_stay n f g ws c placed;
  here = λ all. let p = all c (omega arith) in none p.0 p.1;
}

pub placed_more : (n : ℕ) (f : ℕ → ℕ → ℤ) (g : ℕ) (ws new : SquareTable) (c : ℕ) → c < n → PlacesColumns n f g ws c → KeepsColumns n c ws new → HasColumn n f g new c → PlacesColumns n f g new (c + 1)
placed_more n f g ws new c within placed kept here =
    below_more (λ k. HasColumn n f g new k) c (λ k l. let p = placed k l in (p.0, (p.1.0, λ i row. kept i k row (omega arith) (omega arith) ∙ p.1.1 i row))) here

not_all_stay : (n : ℕ) (f : ℕ → ℕ → ℤ) (g c : ℕ) → IsFirstFailing n f g c → ¬ (StayInBounds n f g n)
not_all_stay n f g c first all = first.here (λ k h. all k (let w = first.within in omega arith))

pub next_scale : (g : ℕ) → IsPilotScale g → ¬ (g ≡ 0) → IsPilotScale (g - 10)
next_scale g scale some = record { most = let m = scale.most in omega arith; tens = let t = scale.tens in omega arith }

-- a scale above the next one is this one or above it
fails_at : (n : ℕ) (f : ℕ → ℕ → ℤ) (g c h : ℕ) → IsPilotScale g → IsFirstFailing n f g c → FailAbove n f g → IsPilotScale h → g - 10 < h → ¬ (StayInBounds n f h n)
fails_at n f g c h scale first greater other above =
    elim (dec_lt g h) [
      | yes l ↦ greater h other l
      | no le ↦
          let e : g ≡ h = let t = scale.tens in let u = other.tens in omega arith in
          subst (λ m. ¬ (StayInBounds n f m n)) e (not_all_stay n f g c first)
    ]

pub fail_next : (n : ℕ) (f : ℕ → ℕ → ℤ) (g c : ℕ) → IsPilotScale g → IsFirstFailing n f g c → FailAbove n f g → FailAbove n f (g - 10)
fail_next n f g c scale first greater h other above = fails_at n f g c h scale first greater other above
