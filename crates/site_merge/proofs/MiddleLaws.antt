-- Two moments have one middle.
use Rattle.std.proofs.Common.{◌≡◌, ◌≤◌, ◌∙◌, ℕ, ℤ, pos, ◌+ℤ◌, ◌≤ℤ◌, arith, sym}
use Rattle.std.proofs.lemmas.Int.{ints}
use Rattle.snx_epoch.specs.Moments.{instant, IsMomentAt, IsHalfOf, IsMiddleOf}
use Rattle.snx_epoch.specs.declared.Epoch.{Epoch}
use Rattle.snx_epoch.specs.declared.Epoch.TheVariants.{Never, At}

same_half : (sum h k : ℤ) → (h +ℤ h) ≤ℤ sum → sum ≤ℤ (h +ℤ h +ℤ pos 1) → (k +ℤ k) ≤ℤ sum → sum ≤ℤ (k +ℤ k +ℤ pos 1) → h ≡ k
same_half sum h k a b c d = omega (arith, ints)

same_day : (d e : ℤ) (s t : ℕ) → s ≤ 86399 → t ≤ 86399 → instant d s ≡ instant e t → d ≡ e
same_day d e s t ls lt same = omega (arith, ints)

same_second : (d e : ℤ) (s t : ℕ) → s ≤ 86399 → t ≤ 86399 → instant d s ≡ instant e t → s ≡ t
same_second d e s t ls lt same = omega (arith, ints)

one_moment : (h k : ℤ) (m n : Epoch) → h ≡ k → IsMomentAt h m → IsMomentAt k n → m ≡ n
one_moment h k Never n same a b = absurd a
one_moment h k (At d s) Never same a b = absurd b
one_moment h k (At d s) (At e t) same a b =
    let both : instant d s ≡ instant e t = a.1 ∙ same ∙ sym b.1 in
    let day = same_day d e s t a.0 b.0 both in
    let second = same_second d e s t a.0 b.0 both in
    λ i. At (day i) (second i)

one_half : (sum : ℤ) (m n : Epoch) → IsHalfOf sum m → IsHalfOf sum n → m ≡ n
one_half sum m n a b = one_moment a.0 b.0 m n (same_half sum a.0 b.0 a.2 a.3 b.2 b.3) a.1 b.1

pub one_middle : (a b m n : Epoch) → IsMiddleOf a b m → IsMiddleOf a b n → m ≡ n
one_middle Never b m n x y = x ∙ sym y
one_middle (At d s) Never m n x y = x ∙ sym y
one_middle (At d s) (At e t) m n x y = one_half (instant d s +ℤ instant e t) m n x y
