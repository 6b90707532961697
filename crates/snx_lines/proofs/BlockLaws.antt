-- The blocks of some lines, and those of the lines with more at their end.
use Rattle.std.proofs.Common.{◌≡◌, Bool, true, false, cond, ◌||◌, not, List, [], ◌∷◌, ◌++◌, refl, sym, ap, ◌∙◌, inl, inr, append-nil}
use Rattle.std.specs.Prelude.{filter, take_while}
use Rattle.std.specs.List.{list_all}
use Rattle.std.proofs.lemmas.List.Sums.{take_while-cons}
use Rattle.std.proofs.lemmas.Bool.{cases_Bool, and_parts}
use Rattle.snx_lines.specs.Lines.{PlainLine}
use Rattle.snx_lines.specs.Framing.{is_title, is_mark, is_body, data_lines, PlainBlock, block_of, blocks_of}

abbrev pub is_unmarked : PlainLine → Bool
is_unmarked line = not (is_mark line)

data_lines-cons : (line : PlainLine) (rest : List PlainLine) → data_lines (line ∷ rest) ≡ filter is_body (cond (is_unmarked line) (line ∷ take_while is_unmarked rest) [])
data_lines-cons line rest = ap (filter is_body) (take_while-cons is_unmarked line rest)

-- no data before a line that opens or ends a block
pub data_marked : (line : PlainLine) (rest : List PlainLine) → is_mark line ≡ true → data_lines (line ∷ rest) ≡ []
data_marked line rest m = data_lines-cons line rest ∙ ap (λ b. filter is_body (cond (not b) (line ∷ take_while is_unmarked rest) [])) m

data_unmarked : (line : PlainLine) (rest : List PlainLine) → is_mark line ≡ false → data_lines (line ∷ rest) ≡ cond (is_body line) (line ∷ data_lines rest) (data_lines rest)
data_unmarked line rest m = data_lines-cons line rest ∙ ap (λ b. filter is_body (cond (not b) (line ∷ take_while is_unmarked rest) [])) m

pub data_body : (line : PlainLine) (rest : List PlainLine) → is_mark line ≡ false → is_body line ≡ true → data_lines (line ∷ rest) ≡ line ∷ data_lines rest
data_body line rest m b = data_unmarked line rest m ∙ ap (λ t. cond t (line ∷ data_lines rest) (data_lines rest)) b

pub data_other : (line : PlainLine) (rest : List PlainLine) → is_mark line ≡ false → is_body line ≡ false → data_lines (line ∷ rest) ≡ data_lines rest
data_other line rest m b = data_unmarked line rest m ∙ ap (λ t. cond t (line ∷ data_lines rest) (data_lines rest)) b

-- lists of lines that hold the same data at their front do so with a further line before both
same_data : (line : PlainLine) (one other : List PlainLine) → data_lines one ≡ data_lines other → data_lines (line ∷ one) ≡ data_lines (line ∷ other)
same_data line one other e =
    elim (cases_Bool (is_mark line)) [
      | inl m ↦ data_marked line one m ∙ sym (data_marked line other m)
      | inr m ↦ data_unmarked line one m ∙ (ap (λ d. cond (is_body line) (line ∷ d) d) e ∙ sym (data_unmarked line other m))
    ]

-- data end before a line that opens or ends a block
pub data_seam : (before : List PlainLine) (mark : PlainLine) (more : List PlainLine) → is_mark mark ≡ true → data_lines (before ++ mark ∷ more) ≡ data_lines before
data_seam [] mark more m = data_marked mark more m
data_seam (line ∷ before) mark more m = same_data line (before ++ mark ∷ more) before (data_seam before mark more m)

-- a line that is no data adds none
pub data_skipped : (lines : List PlainLine) (line : PlainLine) → is_body line ≡ false → data_lines (lines ++ line ∷ []) ≡ data_lines lines
data_skipped [] line b =
    elim (cases_Bool (is_mark line)) [
      | inl m ↦ data_marked line [] m
      | inr m ↦ data_other line [] m b
    ]
data_skipped (first ∷ lines) line b = same_data first (lines ++ line ∷ []) lines (data_skipped lines line b)

not_mark : (b : Bool) → not b ≡ true → b ≡ false
not_mark true e = cc
not_mark false e = refl

-- a line of data after lines that neither open nor end a block
pub data_added : (between : List PlainLine) (line : PlainLine) → list_all is_unmarked between ≡ true → is_mark line ≡ false → is_body line ≡ true → data_lines (between ++ line ∷ []) ≡ data_lines between ++ line ∷ []
data_added [] line u m b = data_body line [] m b
data_added (first ∷ between) line u m b =
    let here : is_mark first ≡ false = not_mark _ (and_parts _ _ u).0 in
    let more = data_added between line (and_parts _ _ u).1 m b in
    elim (cases_Bool (is_body first)) [
      | inl f ↦ data_body first (between ++ line ∷ []) here f ∙ (ap (λ d. first ∷ d) more ∙ ap (λ d. d ++ line ∷ []) (sym (data_body first between here f)))
      | inr f ↦ data_other first (between ++ line ∷ []) here f ∙ (more ∙ ap (λ d. d ++ line ∷ []) (sym (data_other first between here f)))
    ]

pub blocks_title : (line : PlainLine) (rest : List PlainLine) → is_title line ≡ true → blocks_of (line ∷ rest) ≡ block_of line rest ∷ blocks_of rest
blocks_title line rest t = ap (λ b. cond b (block_of line rest ∷ blocks_of rest) (blocks_of rest)) t

pub blocks_other : (line : PlainLine) (rest : List PlainLine) → is_title line ≡ false → blocks_of (line ∷ rest) ≡ blocks_of rest
blocks_other line rest t = ap (λ b. cond b (block_of line rest ∷ blocks_of rest) (blocks_of rest)) t

-- one more line before: the blocks are those after it, and its own
blocks_before : (line : PlainLine) (lines other : List PlainLine) (more : List PlainBlock) → data_lines lines ≡ data_lines other → blocks_of lines ≡ blocks_of other ++ more → blocks_of (line ∷ lines) ≡ blocks_of (line ∷ other) ++ more
blocks_before line lines other more d e =
    ap (λ body. cond (is_title line) (record { name = (block_of line lines).name; title = line; body = body } ∷ blocks_of lines) (blocks_of lines)) d
    ∙ (ap (λ blocks. cond (is_title line) (block_of line other ∷ blocks) blocks) e ∙ by (is_title line))
  where
    by : (b : Bool) → cond b (block_of line other ∷ (blocks_of other ++ more)) (blocks_of other ++ more) ≡ cond b (block_of line other ∷ blocks_of other) (blocks_of other) ++ more
    by true = refl
    by false = refl

-- the blocks before a line that opens or ends a block, and those from it on
pub blocks_seam : (before : List PlainLine) (mark : PlainLine) (more : List PlainLine) → is_mark mark ≡ true → blocks_of (before ++ mark ∷ more) ≡ blocks_of before ++ blocks_of (mark ∷ more)
blocks_seam [] mark more m = refl
blocks_seam (line ∷ before) mark more m = blocks_before line (before ++ mark ∷ more) before (blocks_of (mark ∷ more)) (data_seam before mark more m) (blocks_seam before mark more m)

-- a line that is neither a title nor data changes no block
pub blocks_skipped : (lines : List PlainLine) (line : PlainLine) → is_title line ≡ false → is_body line ≡ false → blocks_of (lines ++ line ∷ []) ≡ blocks_of lines
blocks_skipped [] line t b = blocks_other line [] t
blocks_skipped (first ∷ lines) line t b =
    blocks_before first (lines ++ line ∷ []) lines [] (data_skipped lines line b) (blocks_skipped lines line t b ∙ sym (append-nil (blocks_of lines)))
    ∙ append-nil (blocks_of (first ∷ lines))

or_left_false : (b c : Bool) → (b || c) ≡ false → b ≡ false
or_left_false true c e = cc
or_left_false false c e = refl

-- no block without a title
pub blocks_none : (between : List PlainLine) → list_all is_unmarked between ≡ true → blocks_of between ≡ []
blocks_none [] u = refl
blocks_none (line ∷ between) u = blocks_other line between (or_left_false _ _ (not_mark _ (and_parts _ _ u).0)) ∙ blocks_none between (and_parts _ _ u).1

pub title_marks : (line : PlainLine) → is_title line ≡ true → is_mark line ≡ true
title_marks line t = rw t refl

-- the blocks of lines whose last block is open
pub blocks_open : (before : List PlainLine) (title : PlainLine) (between : List PlainLine) → is_title title ≡ true → list_all is_unmarked between ≡ true → blocks_of (before ++ title ∷ between) ≡ blocks_of before ++ block_of title between ∷ []
blocks_open before title between t u =
    blocks_seam before title between (title_marks title t)
    ∙ ap (λ blocks. blocks_of before ++ blocks) (blocks_title title between t ∙ ap (λ blocks. block_of title between ∷ blocks) (blocks_none between u))
