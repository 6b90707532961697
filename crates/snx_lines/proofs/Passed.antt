-- What the pass keeps is what `Framing` says of the lines before, and stays so with a further line that is not bad.
use Rattle.std.proofs.Common.{◌≡◌, ◌<◌, ◌≤◌, ◌+◌, ◌==◌, ℕ, suc, zero, Bool, true, false, cond, ◌||◌, List, [], ◌∷◌, ◌++◌, length, take, map, Option, Some, None, refl, sym, ap, ◌∙◌, subst, inl, inr, arith, length-append, append_assoc, append-nil}
use Rattle.std.specs.Prelude.{slice_get}
use Rattle.std.specs.List.{list_all, find}
use Rattle.std.specs.Option.{option_map}
use Rattle.std.proofs.lemmas.List.{reverse-append, take-append-le, take_at, take_all, length_push}
use Rattle.std.proofs.lemmas.List.Folds.{list_any-append, list_all-append}
use Rattle.std.proofs.lemmas.Option.{slice_get_past}
use Rattle.std.proofs.lemmas.Bool.{cases_Bool, cases_lt, and_from, not_from_false, and_parts, or_cases, eqb-true, false_from_ne_true}
use Rattle.blanks.specs.Blanks.{is_blank_text}
use Rattle.stated_order.specs.First.{HoldsBelow}
use Rattle.snx_lines.specs.Lines.{kind_of, kind_by, PlainLine, line_at, numbered, cut, name_on}
use Rattle.snx_lines.specs.Framing.{is_footer, is_header, is_title, is_end, is_mark, is_body, is_closed, last_mark, title_name, open_name, first_cause, later_cause, kind_cause, last_cause, frame_cause, cause_at, IsGoodAt, PlainBlock, block_of, blocks_of, IsFraming, is_kind_title, is_kind_end}
use Rattle.snx_lines.specs.Passing.{State, start, with_line, blocks_with, current_after, blocks_after, kept, name_open, next_cause, text_end_cause, framed}
use Rattle.snx_lines.proofs.BlockLaws.{is_unmarked, data_skipped, data_added, blocks_open, blocks_skipped}
use Rattle.snx_lines.specs.declared.columns.Kind.{Kind}
use Rattle.snx_lines.specs.declared.columns.Kind.TheVariants as kinds
use Rattle.snx_lines.specs.declared.blocks.FrameCause.{FrameCause}
use Rattle.snx_lines.specs.declared.blocks.FrameCause.TheVariants as causes

-- the last block of these lines, which has no end yet, and the blocks before it
pub record IsOpenOf (lines : List PlainLine) (blocks : List PlainBlock) (block : PlainBlock) : Type 0 where
  pub before : List PlainLine
  pub title : PlainLine
  pub between : List PlainLine
  pub whole : lines ≡ before ++ (title ∷ between)
  pub opens : is_title title ≡ true
  pub unmarked : list_all is_unmarked between ≡ true
  pub ended : blocks_of before ≡ blocks
  pub is : block ≡ block_of title between

abbrev pub CurrentOf : List PlainLine → List PlainBlock → Option PlainBlock → Type 0
CurrentOf lines blocks None = blocks_of lines ≡ blocks
CurrentOf lines blocks (Some block) = IsOpenOf lines blocks block

pub record Describes (lines : List PlainLine) (state : State) : Type 0 where
  pub number : state.number ≡ length lines
  pub good : HoldsBelow (length lines) (IsGoodAt lines)
  pub closed : state.closed ≡ is_closed lines
  pub name : name_open state.current ≡ open_name lines
  pub current : CurrentOf lines state.blocks state.current

-- the blocks that have ended, and the one that is open
pub blocks_now : (lines : List PlainLine) (blocks : List PlainBlock) (current : Option PlainBlock) → CurrentOf lines blocks current → blocks_of lines ≡ blocks_with current blocks
blocks_now lines blocks None c = c
blocks_now lines blocks (Some block) c = ap blocks_of c.whole ∙ (blocks_open c.before c.title c.between c.opens c.unmarked ∙ (ap (λ b. b ++ block_of c.title c.between ∷ []) c.ended ∙ ap (λ b. blocks ++ b ∷ []) (sym c.is)))

-- the element after some others
slice_get_next : {X : Type 0} (xs ys : List X) (y : X) → slice_get (xs ++ y ∷ ys) (length xs) ≡ Some y
slice_get_next [] ys y = refl
slice_get_next (x ∷ xs) ys y = slice_get_next xs ys y

slice_get_before : {X : Type 0} (xs ys : List X) (n : ℕ) → n < length xs → slice_get (xs ++ ys) n ≡ slice_get xs n
slice_get_before [] ys n lt = absurd (omega arith)
slice_get_before (x ∷ xs) ys zero lt = refl
slice_get_before (x ∷ xs) ys (suc n) lt = slice_get_before xs ys n (omega arith)

-- what is said of a place does not rest on the lines after it
pub cause_before : (lines more : List PlainLine) (n : ℕ) → n < length lines → cause_at (lines ++ more) n ≡ cause_at lines n
cause_before lines more n lt =
    let le : n ≤ length lines = omega arith in
    ap (λ line. frame_cause (take n (lines ++ more)) line) (slice_get_before lines more n lt) ∙ ap (λ before. frame_cause before (slice_get lines n)) (take-append-le n lines more le)

pub cause_next : (lines more : List PlainLine) (line : PlainLine) → cause_at (lines ++ line ∷ more) (length lines) ≡ frame_cause lines (Some line)
cause_next lines more line = ap (λ l. frame_cause (take (length lines) (lines ++ line ∷ more)) l) (slice_get_next lines more line) ∙ ap (λ before. frame_cause before (Some line)) (take_at lines (line ∷ more) (length lines) refl)

pub cause_end : (lines : List PlainLine) → cause_at lines (length lines) ≡ frame_cause lines None
cause_end lines = ap (λ l. frame_cause (take (length lines) lines) l) (slice_get_past lines (length lines) (omega arith)) ∙ ap (λ before. frame_cause before None) (take_all (length lines) lines (omega arith))

-- after some lines the number of lines is not 0
some_number : (first : PlainLine) (before : List PlainLine) (state : State) → Describes (first ∷ before) state → (state.number == 0) ≡ false
some_number first before state d =
    let n = d.number in
    false_from_ne_true _ (λ e. let z : state.number ≡ 0 = eqb-true _ _ e in omega arith)

-- the cause that the pass finds is the one that is said
cause_of_next : (lines : List PlainLine) (state : State) (line : PlainLine) → Describes lines state → frame_cause lines (Some line) ≡ next_cause state line.text
cause_of_next [] state line d = sym (ap (λ n. cond (n == 0) (first_cause line.text) (later_cause state.closed (name_open state.current) line.text)) d.number)
cause_of_next (first ∷ before) state line d =
    sym (ap (λ b. cond b (first_cause line.text) (later_cause state.closed (name_open state.current) line.text)) (some_number first before state d)
    ∙ (ap (λ b. later_cause b (name_open state.current) line.text) d.closed ∙ ap (λ n. later_cause (is_closed (first ∷ before)) n line.text) d.name))

cause_of_end : (lines : List PlainLine) (state : State) → Describes lines state → frame_cause lines None ≡ text_end_cause state
cause_of_end [] state d = sym (ap (λ n. cond (n == 0) (Some causes.NoHeader) (last_cause state.closed (name_open state.current))) d.number)
cause_of_end (first ∷ before) state d =
    sym (ap (λ b. cond b (Some causes.NoHeader) (last_cause state.closed (name_open state.current))) (some_number first before state d)
    ∙ (ap (λ b. last_cause b (name_open state.current)) d.closed ∙ ap (λ n. last_cause (is_closed (first ∷ before)) n) d.name))

-- a line of blanks is data
blank_kind : (text : List ℕ) → is_blank_text text ≡ true → kind_of text ≡ Some kinds.Data
blank_kind [] e = refl
blank_kind (b ∷ rest) e =
    elim (or_cases (b == 32) (b == 9) (and_parts _ _ e).0) [
      | inl h ↦ subst (λ n. kind_by n ≡ Some kinds.Data) (sym (eqb-true b 32 h)) refl
      | inr h ↦ subst (λ n. kind_by n ≡ Some kinds.Data) (sym (eqb-true b 9 h)) refl
    ]

pub header_kind : (text : List ℕ) → is_header text ≡ true → kind_of text ≡ Some kinds.Header
header_kind [] e = cc
header_kind (b ∷ rest) e = let same : 37 ≡ b = eqb-true 37 b (and_parts _ _ e).0 in subst (λ n. kind_by n ≡ Some kinds.Header) same refl

-- a good line 1 is a header
pub first_kind : (text : List ℕ) → first_cause text ≡ None → kind_of text ≡ Some kinds.Header
first_kind text e =
    elim (cases_Bool (is_header text)) [
      | inl h ↦ header_kind text h
      | inr h ↦ let f = rw h at e in cc
    ]

-- a good line that is neither a header nor blank is good by what its first column says
good_by_kind : (state : State) (text : List ℕ) (kind : Option Kind) → kind_of text ≡ kind → (kind ≡ Some kinds.Header → ⊥) → is_blank_text text ≡ false → next_cause state text ≡ None → kind_cause kind (name_open state.current) text ≡ None
good_by_kind state text kind k other b e =
    elim (cases_Bool (state.number == 0)) [
      | inl first ↦ let f : first_cause text ≡ None = rw first at e in absurd (other (sym k ∙ first_kind text f))
      | inr later ↦
          let f : cond state.closed (Some causes.AfterFooter) (kind_cause (kind_of text) (name_open state.current) text) ≡ None = rw (later, b) at e in
          elim (cases_Bool state.closed) [
            | inl c ↦ let g = rw c at f in cc
            | inr c ↦ let g : kind_cause (kind_of text) (name_open state.current) text ≡ None = rw c at f in ap (λ kind. kind_cause kind (name_open state.current) text) (sym k) ∙ g
          ]
    ]

start_not_blank : (text : List ℕ) → kind_of text ≡ Some kinds.Start → is_blank_text text ≡ false
start_not_blank text k =
    elim (cases_Bool (is_blank_text text)) [
      | inl b ↦ let f : Some kinds.Start ≡ Some kinds.Data = sym k ∙ blank_kind text b in cc
      | inr b ↦ b
    ]

-- where a block opens, none is open
none_at_start : (state : State) (text : List ℕ) → kind_of text ≡ Some kinds.Start → next_cause state text ≡ None → state.current ≡ None
none_at_start state text k e = by state.current refl
  where
    is_good : kind_cause (Some kinds.Start) (name_open state.current) text ≡ None
    is_good = good_by_kind state text (Some kinds.Start) k (λ f. cc) (start_not_blank text k) e

    by : (current : Option PlainBlock) → state.current ≡ current → state.current ≡ None
    by None same = same
    by (Some block) same = let f : kind_cause (Some kinds.Start) (name_open (Some block)) text ≡ None = ap (λ c. kind_cause (Some kinds.Start) (name_open c) text) (sym same) ∙ is_good in cc

-- where data stand, one is
none_at_data : (state : State) (text : List ℕ) → kind_of text ≡ Some kinds.Data → is_blank_text text ≡ false → next_cause state text ≡ None → state.current ≡ None → ⊥
none_at_data state text k b e none =
    let good : kind_cause (Some kinds.Data) (name_open state.current) text ≡ None = good_by_kind state text (Some kinds.Data) k (λ f. cc) b e in
    let f : kind_cause (Some kinds.Data) (name_open None) text ≡ None = ap (λ c. kind_cause (Some kinds.Data) (name_open c) text) (sym none) ∙ good in
    cc

-- a line that neither opens nor ends a block and is no data
current_skipped : (lines : List PlainLine) (line : PlainLine) (blocks : List PlainBlock) (current : Option PlainBlock) → is_mark line ≡ false → is_title line ≡ false → is_body line ≡ false → CurrentOf lines blocks current → CurrentOf (lines ++ line ∷ []) blocks current
current_skipped lines line blocks None m t b c = blocks_skipped lines line t b ∙ c
current_skipped lines line blocks (Some block) m t b c = record {
  before = c.before;
  title = c.title;
  between = c.between ++ line ∷ [];
  whole = ap (λ l. l ++ line ∷ []) c.whole ∙ append_assoc c.before (c.title ∷ c.between) (line ∷ []);
  opens = c.opens;
  unmarked = list_all-append is_unmarked c.between (line ∷ []) ∙ and_from _ _ c.unmarked (and_from _ _ (not_from_false _ m) refl);
  ended = c.ended;
  is = c.is ∙ ap (λ body. record { name = name_on c.title.text; title = c.title; body = body }) (sym (data_skipped c.between line b));
}

-- a line of data of the open block
current_added : (lines : List PlainLine) (line : PlainLine) (blocks : List PlainBlock) (block : PlainBlock) → is_mark line ≡ false → is_body line ≡ true → IsOpenOf lines blocks block → IsOpenOf (lines ++ line ∷ []) blocks (with_line line block)
current_added lines line blocks block m b c = record {
  before = c.before;
  title = c.title;
  between = c.between ++ line ∷ [];
  whole = ap (λ l. l ++ line ∷ []) c.whole ∙ append_assoc c.before (c.title ∷ c.between) (line ∷ []);
  opens = c.opens;
  unmarked = list_all-append is_unmarked c.between (line ∷ []) ∙ and_from _ _ c.unmarked (and_from _ _ (not_from_false _ m) refl);
  ended = c.ended;
  is = ap (with_line line) c.is ∙ ap (λ body. record { name = name_on c.title.text; title = c.title; body = body }) (sym (data_added c.between line c.unmarked m b));
}

-- the open block after a further good line, by what its first column says
current_more : (lines : List PlainLine) (state : State) (n : ℕ) (text : List ℕ) (kind : Option Kind) → Describes lines state → kind_of text ≡ kind → next_cause state text ≡ None → CurrentOf (lines ++ line_at n text ∷ []) (blocks_after kind state.current state.blocks) (current_after kind state.current (line_at n text))
current_more lines state n text (Some kinds.Start) d k e =
    let none = none_at_start state text k e in
    record {
      before = lines;
      title = line_at n text;
      between = [];
      whole = refl;
      opens = ap is_kind_title k;
      unmarked = refl;
      ended = subst (CurrentOf lines state.blocks) none d.current;
      is = refl;
    }
current_more lines state n text (Some kinds.End) d k e =
    let title : is_title (line_at n text) ≡ false = ap is_kind_title k in
    let body : is_body (line_at n text) ≡ false = rw k refl in
    blocks_skipped lines (line_at n text) title body ∙ blocks_now lines state.blocks state.current d.current
current_more lines state n text (Some kinds.Data) d k e =
    let title : is_title (line_at n text) ≡ false = ap is_kind_title k in
    let mark : is_mark (line_at n text) ≡ false = rw k refl in
    elim (cases_Bool (is_blank_text text)) [
      | inl blank ↦
          let body : is_body (line_at n text) ≡ false = rw (k, blank) refl in
          subst (λ b. CurrentOf (lines ++ line_at n text ∷ []) state.blocks (cond b state.current (option_map (with_line (line_at n text)) state.current))) (sym blank) (current_skipped lines (line_at n text) state.blocks state.current mark title body d.current)
      | inr full ↦
          let body : is_body (line_at n text) ≡ true = rw (k, full) refl in
          subst (λ b. CurrentOf (lines ++ line_at n text ∷ []) state.blocks (cond b state.current (option_map (with_line (line_at n text)) state.current))) (sym full) (added mark body (none_at_data state text k full e) state.current refl d.current)
    ]
  where
    added : is_mark (line_at n text) ≡ false → is_body (line_at n text) ≡ true → (state.current ≡ None → ⊥) → (current : Option PlainBlock) → state.current ≡ current → CurrentOf lines state.blocks current → CurrentOf (lines ++ line_at n text ∷ []) state.blocks (option_map (with_line (line_at n text)) current)
    added mark body some None same c = absurd (some same)
    added mark body some (Some block) same c = current_added lines (line_at n text) state.blocks block mark body c
current_more lines state n text (Some kinds.Header) d k e = current_skipped lines (line_at n text) state.blocks state.current (rw k refl) (ap is_kind_title k) (rw k refl) d.current
current_more lines state n text (Some kinds.Comment) d k e = current_skipped lines (line_at n text) state.blocks state.current (rw k refl) (ap is_kind_title k) (rw k refl) d.current
current_more lines state n text None d k e = current_skipped lines (line_at n text) state.blocks state.current (rw k refl) (ap is_kind_title k) (rw k refl) d.current

last_more : (lines : List PlainLine) (line : PlainLine) → last_mark (lines ++ line ∷ []) ≡ cond (is_mark line) (Some line) (last_mark lines)
last_more lines line = ap (find is_mark) (reverse-append lines (line ∷ []))

name_with : (line : PlainLine) (blank : Bool) (current : Option PlainBlock) → name_open (cond blank current (option_map (with_line line) current)) ≡ name_open current
name_with line true current = refl
name_with line false None = refl
name_with line false (Some block) = refl

-- its name
name_more : (lines : List PlainLine) (line : PlainLine) (kind : Option Kind) (current : Option PlainBlock) → kind_of line.text ≡ kind → name_open current ≡ open_name lines → name_open (current_after kind current line) ≡ open_name (lines ++ line ∷ [])
name_more lines line kind current k e = by kind k ∙ sym (ap title_name (last_more lines line))
  where
    by : (kind : Option Kind) → kind_of line.text ≡ kind → name_open (current_after kind current line) ≡ title_name (cond (is_mark line) (Some line) (last_mark lines))
    by (Some kinds.Start) k = let t : is_title line ≡ true = ap is_kind_title k in rw t (rw t refl)
    by (Some kinds.End) k = let t : is_title line ≡ false = ap is_kind_title k in let f : is_end line ≡ true = ap is_kind_end k in rw (t, f) (rw t refl)
    by (Some kinds.Data) k = let m : is_mark line ≡ false = rw k refl in rw m (name_with line (is_blank_text line.text) current ∙ e)
    by (Some kinds.Header) k = let m : is_mark line ≡ false = rw k refl in rw m e
    by (Some kinds.Comment) k = let m : is_mark line ≡ false = rw k refl in rw m e
    by None k = let m : is_mark line ≡ false = rw k refl in rw m e

or_false : (b : Bool) → (b || false) ≡ b
or_false true = refl
or_false false = refl

closed_more : (lines : List PlainLine) (line : PlainLine) → is_closed (lines ++ line ∷ []) ≡ (is_closed lines || is_footer line.text)
closed_more lines line = list_any-append (λ l. is_footer l.text) lines (line ∷ []) ∙ ap (λ t. is_closed lines || t) (or_false (is_footer line.text))

good_more : (lines : List PlainLine) (line : PlainLine) → HoldsBelow (length lines) (IsGoodAt lines) → frame_cause lines (Some line) ≡ None → HoldsBelow (length (lines ++ line ∷ [])) (IsGoodAt (lines ++ line ∷ []))
good_more lines line good e n below =
    elim (cases_lt n (length lines)) [
      | inl lt ↦ cause_before lines (line ∷ []) n lt ∙ good n lt
      | inr le ↦
          let same : length lines ≡ n = omega (arith, length_push lines line) in
          subst (IsGoodAt (lines ++ line ∷ [])) same (cause_next lines [] line ∙ e)
    ]

-- a good line leads on
pub advance : (lines : List PlainLine) (state : State) (text : List ℕ) → Describes lines state → next_cause state text ≡ None → Describes (lines ++ line_at (state.number + 1) text ∷ []) (kept state text)
advance lines state text d e = record {
  number = ap (λ n. n + 1) d.number ∙ sym (length_push lines (line_at (state.number + 1) text));
  good = good_more lines (line_at (state.number + 1) text) d.good (cause_of_next lines state (line_at (state.number + 1) text) d ∙ e);
  closed = ap (λ b. b || is_footer text) d.closed ∙ sym (closed_more lines (line_at (state.number + 1) text));
  name = name_more lines (line_at (state.number + 1) text) (kind_of text) state.current refl d.name;
  current = current_more lines state (state.number + 1) text (kind_of text) d refl e;
}

-- how far the pass has come: the lines so far are described, and the rest is left
pub record SoFar (all : List PlainLine) (state : State) (rest : List (List ℕ)) : Type 0 where
  pub lines : List PlainLine
  pub whole : all ≡ lines ++ numbered (state.number + 1) (map cut rest)
  pub described : Describes lines state

pub begun : (rest : List (List ℕ)) → SoFar (numbered 1 (map cut rest)) start rest
begun rest = record { lines = []; whole = refl; described = record { number = refl; good = λ n lt. absurd (omega arith); closed = refl; name = refl; current = refl } }

pub one_more : (all : List PlainLine) (state : State) (text : List ℕ) (rest : List (List ℕ)) → SoFar all state (text ∷ rest) → next_cause state (cut text) ≡ None → SoFar all (kept state (cut text)) rest
one_more all state text rest s e =
    let line = line_at (state.number + 1) (cut text) in
    record {
      lines = s.lines ++ line ∷ [];
      whole = s.whole ∙ sym (append_assoc s.lines (line ∷ []) (numbered (state.number + 1 + 1) (map cut rest)));
      described = advance s.lines state (cut text) s.described e;
    }

-- the next line is bad
pub stopped : (all : List PlainLine) (state : State) (text : List ℕ) (rest : List (List ℕ)) (cause : FrameCause) → SoFar all state (text ∷ rest) → next_cause state (cut text) ≡ Some cause → IsFraming all (framed state (Some cause))
stopped all state text rest cause s e = subst (λ l. IsFraming l (framed state (Some cause))) (sym s.whole) (record {
  place = length s.lines;
  before = λ n lt. cause_before s.lines more n lt ∙ s.described.good n lt;
  stop = (omega (arith, length-append s.lines more), cause_next s.lines after line ∙ (cause_of_next s.lines state line s.described ∙ e), ap (λ n. n + 1) s.described.number);
  blocks = sym (ap blocks_of (take_at s.lines more (length s.lines) refl) ∙ blocks_now s.lines state.blocks state.current s.described.current);
})
  where
    line : PlainLine
    line = line_at (state.number + 1) (cut text)

    after : List PlainLine
    after = numbered (state.number + 1 + 1) (map cut rest)

    more : List PlainLine
    more = line ∷ after

-- the end of the text, where it is bad and where it is not
pub ended : (all : List PlainLine) (state : State) → SoFar all state [] → IsFraming all (framed state (text_end_cause state))
ended all state s = subst (λ l. IsFraming l (framed state (text_end_cause state))) (sym (s.whole ∙ append-nil s.lines)) (by (text_end_cause state) refl)
  where
    d : Describes s.lines state
    d = s.described

    by : (o : Option FrameCause) → text_end_cause state ≡ o → IsFraming s.lines (framed state o)
    by (Some cause) e = record {
      place = length s.lines;
      before = d.good;
      stop = (omega arith, cause_end s.lines ∙ (cause_of_end s.lines state d ∙ e), ap (λ n. n + 1) d.number);
      blocks = sym (ap blocks_of (take_all (length s.lines) s.lines (omega arith)) ∙ blocks_now s.lines state.blocks state.current d.current);
    }
    by None e = record {
      place = length s.lines + 1;
      before = good e;
      stop = omega arith;
      blocks = sym (ap blocks_of (take_all (length s.lines + 1) s.lines (omega arith)) ∙ blocks_now s.lines state.blocks state.current d.current);
    }
      where
        good : text_end_cause state ≡ None → HoldsBelow (length s.lines + 1) (IsGoodAt s.lines)
        good e n below =
            elim (cases_lt n (length s.lines)) [
              | inl lt ↦ d.good n lt
              | inr le ↦
                  let same : length s.lines ≡ n = omega arith in
                  subst (IsGoodAt s.lines) same (cause_end s.lines ∙ (cause_of_end s.lines state d ∙ e))
            ]

-- the same at the code's own names
pub one_more_line : (all : List PlainLine) (state next : State) (text now : List ℕ) (left rest : List (List ℕ)) → SoFar all state left → left ≡ text ∷ rest → now ≡ cut text → next_cause state now ≡ None → next ≡ kept state now → SoFar all next rest
one_more_line all state next text now left rest s e is good k =
    subst (λ n. SoFar all n rest) (sym (k ∙ ap (kept state) is)) (one_more all state text rest (subst (SoFar all state) e s) (ap (next_cause state) (sym is) ∙ good))

pub stopped_line : (all : List PlainLine) (state : State) (text now : List ℕ) (left rest : List (List ℕ)) (cause : FrameCause) → SoFar all state left → left ≡ text ∷ rest → now ≡ cut text → next_cause state now ≡ Some cause → IsFraming all (framed state (Some cause))
stopped_line all state text now left rest cause s e is bad = stopped all state text rest cause (subst (SoFar all state) e s) (ap (next_cause state) (sym is) ∙ bad)

pub ended_text : (all : List PlainLine) (state : State) (left : List (List ℕ)) (cause : Option FrameCause) → SoFar all state left → left ≡ [] → cause ≡ text_end_cause state → IsFraming all (framed state cause)
ended_text all state left cause s nil is = subst (λ c. IsFraming all (framed state c)) (sym is) (ended all state (subst (SoFar all state) nil s))
