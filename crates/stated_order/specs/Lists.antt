-- Lists that are related or ordered member by member.
use Rattle.std.specs.Prelude.{List, [], ◌∷◌, ⊤}

-- two lists are related member by member
abbrev pub AreEach : {A B : Type 0} → (A → B → Type 0) → List A → List B → Type 0
AreEach R [] [] = ⊤
AreEach R (x ∷ xs) (y ∷ ys) = R x y × AreEach R xs ys
AreEach R [] (y ∷ ys) = ⊥
AreEach R (x ∷ xs) [] = ⊥

-- each member is before the next
abbrev pub Ascends : {A : Type 0} → (A → A → Type 0) → List A → Type 0
Ascends B [] = ⊤
Ascends B (a ∷ []) = ⊤
Ascends B (a ∷ b ∷ rest) = B a b × Ascends B (b ∷ rest)
