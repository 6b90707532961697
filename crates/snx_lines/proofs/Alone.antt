-- A text has one framing and no other, and the lines of its blocks stand in their order before its first bad line.
use Rattle.std.proofs.Common.{◌≡◌, ◌<◌, ◌≤◌, ◌+◌, ℕ, suc, zero, true, false, List, [], ◌∷◌, ◌++◌, length, take, Option, Some, None, refl, sym, ap, ◌∙◌, subst, inl, inr, arith, All, map, Ok, Err}
use Rattle.std.specs.Prelude.{Result, IfOk}
use Rattle.std.specs.declared.alloc.AllocError.{AllocError}
use Rattle.bstr.specs.Text.{lines_of, without_terminator}
use Rattle.std.proofs.lemmas.List.{take_all}
use Rattle.std.proofs.lemmas.List.Elements.{All-nil, All-cons}
use Rattle.std.proofs.lemmas.Bool.{cases_Bool}
use Rattle.stated_order.specs.First.{HoldsBelow}
use Rattle.stated_order.specs.Steps.{HasOne}
use Rattle.stated_order.specs.Lists.{Ascends}
use Rattle.stated_order.proofs.FirstLaws.{neither_less}
use Rattle.snx_lines.specs.Lines.{PlainLine, line_at, numbered, cut, lines_in}
use Rattle.snx_lines.specs.Framing.{is_title, is_end, is_mark, is_body, cause_at, IsGoodAt, data_lines, PlainBlock, PlainFraming, blocks_of, IsFraming, StopsAt, lines_held, StandsBefore, StandBelow}
use Rattle.snx_lines.proofs.BlockLaws.{data_marked, data_body, data_other, blocks_title, blocks_other, title_marks}
use Rattle.snx_lines.specs.Views.{framing_view}
use Rattle.snx_lines.specs.Passing.{State, start, kept, next_cause, text_end_cause, framed, fault_at}
use Rattle.snx_lines.proofs.Passed.{SoFar, begun, one_more, stopped, ended}
use Rattle.snx_lines.specs.declared.blocks.Framing.{Framing}
use Rattle.snx_lines.specs.declared.blocks.FrameFault.{FrameFault}
use Rattle.snx_lines.specs.declared.blocks.FrameCause.{FrameCause}

none_and_some : (lines : List PlainLine) (m n : ℕ) (fault : FrameFault) → HoldsBelow m (IsGoodAt lines) → StopsAt lines m None → StopsAt lines n (Some fault) → ⊥
none_and_some lines m n fault good past stop = let e : None ≡ Some fault.cause = sym (good n (omega (arith, past, stop.0))) ∙ stop.1 in cc

-- reading stops at one place, for one cause
same_stop : (lines : List PlainLine) (m n : ℕ) (one other : Option FrameFault) → HoldsBelow m (IsGoodAt lines) → HoldsBelow n (IsGoodAt lines) → StopsAt lines m one → StopsAt lines n other → (one ≡ other) × (take m lines ≡ take n lines)
same_stop lines m n None None good fine past after = (refl, take_all m lines (omega (arith, past)) ∙ sym (take_all n lines (omega (arith, after))))
same_stop lines m n None (Some fault) good fine past stop = absurd (none_and_some lines m n fault good past stop)
same_stop lines m n (Some fault) None good fine stop past = absurd (none_and_some lines n m fault fine past stop)
same_stop lines m n (Some fault) (Some other) good fine stop halt =
    let place : m ≡ n = neither_less m n (λ lt. let e : None ≡ Some fault.cause = sym (fine m lt) ∙ stop.1 in cc) (λ lt. let e : None ≡ Some other.cause = sym (good n lt) ∙ halt.1 in cc) in
    let cause : Some fault.cause ≡ Some other.cause = sym stop.1 ∙ (ap (cause_at lines) place ∙ halt.1) in
    let line : fault.line ≡ other.line = stop.2 ∙ (ap (λ k. k + 1) place ∙ sym halt.2) in
    (same_fault fault.line other.line fault.cause other.cause line cause, ap (λ k. take k lines) place)
  where
    same_fault : (n m : ℕ) (c d : FrameCause) → n ≡ m → Some c ≡ Some d → Some (fault_at n c) ≡ Some (fault_at m d)
    same_fault n m c d e f = cc

pub one_framing : (lines : List PlainLine) (one other : PlainFraming) → IsFraming lines one → IsFraming lines other → one ≡ other
one_framing lines one other a b =
    let same = same_stop lines a.place b.place one.stop other.stop a.before b.before a.stop b.stop in
    parts one.blocks other.blocks one.stop other.stop (a.blocks ∙ (ap blocks_of same.1 ∙ sym b.blocks)) same.0
  where
    framing : List PlainBlock → Option FrameFault → PlainFraming
    framing blocks stop = record { blocks = blocks; stop = stop }

    parts : (b c : List PlainBlock) (s t : Option FrameFault) → b ≡ c → s ≡ t → framing b s ≡ framing c t
    parts b c s t e f = cc

-- numbers ascend from n on, and stay below m
abbrev pub AscendWithin : ℕ → ℕ → List PlainLine → Type 0
AscendWithin n m [] = Unit {0}
AscendWithin n m (line ∷ rest) = (n ≤ line.number) × (line.number < m) × AscendWithin (line.number + 1) m rest

lower : (n k m : ℕ) (lines : List PlainLine) → k ≤ n → AscendWithin n m lines → AscendWithin k m lines
lower n k m [] le a = tt
lower n k m (line ∷ rest) le a = (omega (arith, a.0), a.1, a.2)

ascends_by : (n m : ℕ) (lines : List PlainLine) → AscendWithin n m lines → Ascends StandsBefore lines
ascends_by n m [] a = tt
ascends_by n m (line ∷ []) a = tt
ascends_by n m (line ∷ next ∷ rest) a = (omega (arith, a.2.0), ascends_by (line.number + 1) m (next ∷ rest) a.2)

below_by : (n m k : ℕ) (lines : List PlainLine) → m ≤ k → AscendWithin n m lines → All (λ (line : PlainLine). line.number < k) lines
below_by n m k [] le a = All-nil _
below_by n m k (line ∷ rest) le a = All-cons (λ (line : PlainLine). line.number < k) line rest (let lt = a.1 in omega arith) (below_by (line.number + 1) m k rest le a.2)

-- the lines of the blocks, and the same after the data at the front
abbrev pub HeldWithin : ℕ → ℕ → List PlainLine → Type 0
HeldWithin n m lines = AscendWithin n m (lines_held (blocks_of lines)) × AscendWithin n m (data_lines lines ++ lines_held (blocks_of lines))

held_more : (n m : ℕ) (text : List ℕ) (rest : List PlainLine) → n < m → HeldWithin (n + 1) m rest → HeldWithin n m (line_at n text ∷ rest)
held_more n m text rest lt next =
    elim (cases_Bool (is_title line)) [
      | inl t ↦ marked (title_marks line t) (subst (λ b. AscendWithin n m (lines_held b)) (sym (blocks_title line rest t)) (omega arith, lt, next.1))
      | inr t ↦
          let held : AscendWithin n m (lines_held (blocks_of (line ∷ rest))) = subst (λ b. AscendWithin n m (lines_held b)) (sym (blocks_other line rest t)) (lower (n + 1) n m _ (omega arith) next.0) in
          elim (cases_Bool (is_end line)) [
            | inl f ↦ marked (rw (t, f) refl) held
            | inr f ↦ (held, subst (λ b. AscendWithin n m (data_lines (line ∷ rest) ++ lines_held b)) (sym (blocks_other line rest t)) (unmarked (rw (t, f) refl)))
          ]
    ]
  where
    line : PlainLine
    line = line_at n text

    marked : is_mark line ≡ true → AscendWithin n m (lines_held (blocks_of (line ∷ rest))) → HeldWithin n m (line ∷ rest)
    marked mark held = (held, subst (λ d. AscendWithin n m (d ++ lines_held (blocks_of (line ∷ rest)))) (sym (data_marked line rest mark)) held)

    unmarked : is_mark line ≡ false → AscendWithin n m (data_lines (line ∷ rest) ++ lines_held (blocks_of rest))
    unmarked mark =
        elim (cases_Bool (is_body line)) [
          | inl b ↦ subst (λ d. AscendWithin n m (d ++ lines_held (blocks_of rest))) (sym (data_body line rest mark b)) (omega arith, lt, next.1)
          | inr b ↦ subst (λ d. AscendWithin n m (d ++ lines_held (blocks_of rest))) (sym (data_other line rest mark b)) (lower (n + 1) n m _ (omega arith) next.1)
        ]

held_within : (n m : ℕ) (texts : List (List ℕ)) → n + length texts ≤ m → HeldWithin n m (numbered n texts)
held_within n m [] le = (tt, tt)
held_within n m (text ∷ texts) le = held_more n m text (numbered (n + 1) texts) (omega (arith, le)) (held_within (n + 1) m texts (omega (arith, le)))

take_numbered : (k n : ℕ) (texts : List (List ℕ)) → take k (numbered n texts) ≡ numbered n (take k texts)
take_numbered zero n texts = refl
take_numbered (suc k) n [] = refl
take_numbered (suc k) n (text ∷ texts) = ap (λ l. line_at n text ∷ l) (take_numbered k (n + 1) texts)

length_taken : {X : Type 0} (k : ℕ) (xs : List X) → length (take k xs) ≤ k
length_taken zero xs = omega arith
length_taken (suc k) [] = omega arith
length_taken (suc k) (x ∷ xs) = omega (arith, length_taken k xs)

framed_within : (texts : List (List ℕ)) (framing : PlainFraming) (f : IsFraming (numbered 1 texts) framing) → AscendWithin 1 (1 + f.place) (lines_held framing.blocks)
framed_within texts framing f =
    subst (λ b. AscendWithin 1 (1 + f.place) (lines_held b)) (sym (f.blocks ∙ ap blocks_of (take_numbered f.place 1 texts))) (held_within 1 (1 + f.place) (take f.place texts) (omega (arith, length_taken f.place texts))).0

pub framed_ascend : (texts : List (List ℕ)) (framing : PlainFraming) → IsFraming (numbered 1 texts) framing → Ascends StandsBefore (lines_held framing.blocks)
framed_ascend texts framing f = ascends_by 1 (1 + f.place) _ (framed_within texts framing f)

pub framed_below : (texts : List (List ℕ)) (framing : PlainFraming) → IsFraming (numbered 1 texts) framing → StandBelow framing.stop (lines_held framing.blocks)
framed_below texts framing f = by framing.stop f.stop
  where
    by : (stop : Option FrameFault) → StopsAt (numbered 1 texts) f.place stop → StandBelow stop (lines_held framing.blocks)
    by None s = tt
    by (Some fault) s = below_by 1 (1 + f.place) fault.line _ (omega (arith, s.2)) (framed_within texts framing f)

-- each text has a framing
has_by : (all : List PlainLine) (rest : List (List ℕ)) (state : State) → SoFar all state rest → HasOne (IsFraming all)
has_by all [] state s = (framed state (text_end_cause state), ended all state s)
has_by all (text ∷ rest) state s = by (next_cause state (cut text)) refl (has_by all rest)
  where
    by : (o : Option FrameCause) → next_cause state (cut text) ≡ o → ((next : State) → SoFar all next rest → HasOne (IsFraming all)) → HasOne (IsFraming all)
    by None e more = more (kept state (cut text)) (one_more all state text rest s e)
    by (Some cause) e more = (framed state (Some cause), stopped all state text rest cause s e)

pub has_framing : (text : List ℕ) → HasOne (IsFraming (lines_in text))
has_framing text = has_by (lines_in text) (map without_terminator (lines_of text)) start (begun (map without_terminator (lines_of text)))

-- what the call answers
pub framed_by : (r : Result Framing AllocError) (lines : List PlainLine) (framing : PlainFraming) → IfOk r (λ f. framing_view f ≡ framing) → IsFraming lines framing → IfOk r (λ f. IsFraming lines (framing_view f))
framed_by (Ok f) lines framing e h = subst (IsFraming lines) (sym e) h
framed_by (Err f) lines framing e h = tt

pub alone_by : (r : Result Framing AllocError) (lines : List PlainLine) → IfOk r (λ f. IsFraming lines (framing_view f)) → IfOk r (λ f. (other : PlainFraming) → IsFraming lines other → other ≡ framing_view f)
alone_by (Ok f) lines h = λ other o. one_framing lines other (framing_view f) o h
alone_by (Err f) lines h = tt

pub ascend_by : (r : Result Framing AllocError) (text : List ℕ) → IfOk r (λ f. IsFraming (lines_in text) (framing_view f)) → IfOk r (λ f. Ascends StandsBefore (lines_held (framing_view f).blocks))
ascend_by (Ok f) text h = framed_ascend (map cut (map without_terminator (lines_of text))) (framing_view f) h
ascend_by (Err f) text h = tt

pub below_stop_by : (r : Result Framing AllocError) (text : List ℕ) → IfOk r (λ f. IsFraming (lines_in text) (framing_view f)) → IfOk r (λ f. StandBelow f.stop (lines_held (framing_view f).blocks))
below_stop_by (Ok f) text h = framed_below (map cut (map without_terminator (lines_of text))) (framing_view f) h
below_stop_by (Err f) text h = tt
