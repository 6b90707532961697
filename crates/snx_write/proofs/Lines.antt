-- Lines, and texts of lines.
use Rattle.std.proofs.Common.{◌≡◌, ◌++◌, ◌∷◌, ℕ, List, [], map, flat_map, sym, ap, ◌∙◌, subst, append-nil, append_assoc, Bor, Result, Ok, Err, OnOk}
use Rattle.std.proofs.lemmas.Grind.{flat_map-append}
use Rattle.snx_write.specs.Combined.{line, text_of, block}

-- a line is its first field and the others, each behind a blank
pub line-now : (first : List ℕ) (others : List (Bor (List ℕ))) → line (first ∷ map (λ f. f.now) others) ≡ first ++ flat_map (λ f. 32 ∷ f.now) others
line-now first [] = sym (append-nil first)
line-now first (next ∷ others) = ap (λ l. first ++ (32 ∷ l)) (line-now next.now others)

-- what a field, others each behind a blank, and a line feed make of a text
pub pushed_line : (old first : List ℕ) (others : List (Bor (List ℕ))) (one two three : List ℕ) → one ≡ old ++ first → two ≡ one ++ flat_map (λ f. 32 ∷ f.now) others → three ≡ two ++ (10 ∷ [])
    → three ≡ old ++ text_of (line (first ∷ map (λ f. f.now) others) ∷ [])
pushed_line old first others one two three e f g =
    let whole : three ≡ (old ++ first) ++ flat_map (λ f. 32 ∷ f.now) others ++ (10 ∷ []) = g ∙ ap (λ t. t ++ (10 ∷ [])) (f ∙ ap (λ t. t ++ flat_map (λ f. 32 ∷ f.now) others) e) in
    whole ∙ simp (append_assoc, append-nil, line-now)

-- the text of two lists of lines
pub text_of-append : (a b : List (List ℕ)) → text_of (a ++ b) ≡ text_of a ++ text_of b
text_of-append a b = flat_map-append (λ l. l ++ (10 ∷ [])) a b

-- lines behind others
pub more_lines : (a b : List (List ℕ)) (old one two : List ℕ) → one ≡ old ++ text_of a → two ≡ one ++ text_of b → two ≡ old ++ text_of (a ++ b)
more_lines a b old one two e f = f ∙ ap (λ t. t ++ text_of b) e ∙ append_assoc old (text_of a) (text_of b) ∙ ap (λ t. old ++ t) (sym (text_of-append a b))

-- the title of a block, its lines, and its end
pub pushed_block : {T E : Type 0} (title : List ℕ) (lines : List (List ℕ)) (old one two three : List ℕ) (r : Result T E) → one ≡ old ++ text_of ((43 ∷ title) ∷ []) → two ≡ one ++ text_of lines
    → OnOk r (three ≡ two ++ text_of ((45 ∷ title) ∷ [])) → OnOk r (three ≡ old ++ text_of (block title lines))
pushed_block title lines old one two three (Ok x) e f g = more_lines ((43 ∷ title) ∷ []) (lines ++ ((45 ∷ title) ∷ [])) old one three e (more_lines lines ((45 ∷ title) ∷ []) one two three f g)
pushed_block title lines old one two three (Err x) e f g = g

-- what a label, a code and numbers, each behind a blank, and a line feed make of a text
pub pushed_parameter : (old label code same : List ℕ) (numbers : List (Bor (List ℕ))) (one two three four : List ℕ) → one ≡ old ++ label → two ≡ one ++ ((32 ∷ code) ++ []) → code ≡ same
    → three ≡ two ++ flat_map (λ f. 32 ∷ f.now) numbers → four ≡ three ++ (10 ∷ []) → four ≡ old ++ text_of (line (label ∷ same ∷ map (λ f. f.now) numbers) ∷ [])
pushed_parameter old label code same numbers one two three four e f g h i =
    let coded : two ≡ (old ++ label) ++ ((32 ∷ same) ++ []) = f ∙ ap (λ t. t ++ ((32 ∷ code) ++ [])) e ∙ ap (λ t. (old ++ label) ++ ((32 ∷ t) ++ [])) g in
    let whole : four ≡ (((old ++ label) ++ ((32 ∷ same) ++ [])) ++ flat_map (λ f. 32 ∷ f.now) numbers) ++ (10 ∷ []) = i ∙ ap (λ t. t ++ (10 ∷ [])) (h ∙ ap (λ t. t ++ flat_map (λ f. 32 ∷ f.now) numbers) coded) in
    whole ∙ simp (append_assoc, append-nil, line-now)

-- an equal line
pub same_line : {T E : Type 0} (old new one other : List ℕ) (r : Result T E) → one ≡ other → OnOk r (new ≡ old ++ text_of (one ∷ [])) → OnOk r (new ≡ old ++ text_of (other ∷ []))
same_line old new one other r e h = subst (λ l. OnOk r (new ≡ old ++ text_of (l ∷ []))) e h
