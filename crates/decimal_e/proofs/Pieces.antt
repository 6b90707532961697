-- What a text cut into its pieces tells: the pieces are the only ones.
use Rattle.std.proofs.Common.{◌≡◌, ◌≢◌, ℕ, List, [], ◌∷◌, ◌++◌, refl, ap, sym, subst, ◌∙◌, arith}
use Rattle.decimal_e.specs.declared.cut.Kind.{Kind}
use Rattle.decimal_e.specs.declared.cut.Kind.TheVariants.{Blank, Sign, Digit, Point, Letter}
use Rattle.decimal_e.specs.Grammar.{Is, IsRun, IsOptional, Mantissa, Power, Numeral, mantissa_text, power_text, IsMantissa, IsPower, Spells}
use Rattle.decimal_e.specs.Cuts.{Begins, CutsRun, CutsOptional, CutsMantissa, CutsPower}

abbrev pub index : Kind → ℕ
index Blank = 0
index Sign = 1
index Digit = 2
index Point = 3
index Letter = 4

-- a byte is of one kind
pub apart : (j k : Kind) (b : ℕ) → index j ≢ index k → Is j b → Is k b → ⊥
apart Blank Blank b ne p q = absurd (ne refl)
apart Blank Sign b ne p q = grind arith
apart Blank Digit b ne p q = grind arith
apart Blank Point b ne p q = grind arith
apart Blank Letter b ne p q = grind arith
apart Sign Blank b ne p q = grind arith
apart Sign Sign b ne p q = absurd (ne refl)
apart Sign Digit b ne p q = grind arith
apart Sign Point b ne p q = grind arith
apart Sign Letter b ne p q = grind arith
apart Digit Blank b ne p q = grind arith
apart Digit Sign b ne p q = grind arith
apart Digit Digit b ne p q = absurd (ne refl)
apart Digit Point b ne p q = grind arith
apart Digit Letter b ne p q = grind arith
apart Point Blank b ne p q = grind arith
apart Point Sign b ne p q = grind arith
apart Point Digit b ne p q = grind arith
apart Point Point b ne p q = absurd (ne refl)
apart Point Letter b ne p q = grind arith
apart Letter Blank b ne p q = grind arith
apart Letter Sign b ne p q = grind arith
apart Letter Digit b ne p q = grind arith
apart Letter Point b ne p q = grind arith
apart Letter Letter b ne p q = absurd (ne refl)

-- ---- runs
pub run_append : (k : Kind) (xs ys : List ℕ) → IsRun k xs → IsRun k ys → IsRun k (xs ++ ys)
run_append k [] ys r s = s
run_append k (x ∷ xs) ys r s = (r.0, run_append k xs ys r.1 s)

pub run_left : (k : Kind) (xs ys : List ℕ) → IsRun k (xs ++ ys) → IsRun k xs
run_left k [] ys r = tt
run_left k (x ∷ xs) ys r = (r.0, run_left k xs ys r.1)

pub run_right : (k : Kind) (xs ys : List ℕ) → IsRun k (xs ++ ys) → IsRun k ys
run_right k [] ys r = r
run_right k (x ∷ xs) ys r = run_right k xs ys r.1

-- what begins with a run of one kind begins with another only where the run is empty
pub not_begun : (j k : Kind) (xs ys : List ℕ) → index j ≢ index k → IsRun j xs → (xs ≡ [] → Begins k ys → ⊥) → Begins k (xs ++ ys) → ⊥
not_begun j k [] ys ne r n h = n refl h
not_begun j k (x ∷ xs) ys ne r n h = apart j k x ne r.0 h

pub cut_run_same : (k : Kind) (xs ys us vs : List ℕ) → IsRun k xs → (Begins k us → ⊥) → IsRun k ys → (Begins k vs → ⊥) → xs ++ us ≡ ys ++ vs → (xs ≡ ys) × (us ≡ vs)
cut_run_same k [] [] us vs r n s m e = (refl, e)
cut_run_same k [] (y ∷ ys) us vs r n s m e = absurd (n (subst (Begins k) (sym e) s.0))
cut_run_same k (x ∷ xs) [] us vs r n s m e = absurd (m (subst (Begins k) e r.0))
cut_run_same k (x ∷ xs) (y ∷ ys) us vs r n s m e =
    let heads : x ≡ y = cc in
    let tails : xs ++ us ≡ ys ++ vs = cc in
    let rest = cut_run_same k xs ys us vs r.1 n s.1 m tails in
    (cc, rest.1)

pub cut_optional_same : (k : Kind) (xs ys us vs : List ℕ) → IsOptional k xs → (xs ≡ [] → Begins k us → ⊥) → IsOptional k ys → (ys ≡ [] → Begins k vs → ⊥) → xs ++ us ≡ ys ++ vs → (xs ≡ ys) × (us ≡ vs)
cut_optional_same k [] [] us vs r n s m e = (refl, e)
cut_optional_same k [] (y ∷ ys) us vs r n s m e = absurd (n refl (subst (Begins k) (sym e) s.1.0))
cut_optional_same k (x ∷ xs) [] us vs r n s m e = absurd (m refl (subst (Begins k) e r.1.0))
cut_optional_same k (x ∷ []) (y ∷ []) us vs r n s m e = (cc, cc)
cut_optional_same k (x ∷ x' ∷ xs) (y ∷ ys) us vs r n s m e = absurd (omega (arith, r.0))
cut_optional_same k (x ∷ []) (y ∷ y' ∷ ys) us vs r n s m e = absurd (omega (arith, s.0))

pub run_same : (k : Kind) (text xs ys us vs : List ℕ) → CutsRun k text xs us → CutsRun k text ys vs → (xs ≡ ys) × (us ≡ vs)
run_same k text xs ys us vs c d = cut_run_same k xs ys us vs c.run c.stop d.run d.stop (sym c.whole ∙ d.whole)

pub optional_same : (k : Kind) (text xs ys us vs : List ℕ) → CutsOptional k text xs us → CutsOptional k text ys vs → (xs ≡ ys) × (us ≡ vs)
optional_same k text xs ys us vs c d = cut_optional_same k xs ys us vs c.optional c.stop d.optional d.stop (sym c.whole ∙ d.whole)

mantissa_by : (m n : Mantissa) → m.sign ≡ n.sign → m.whole ≡ n.whole → m.point ≡ n.point → m.fraction ≡ n.fraction → m ≡ n
mantissa_by m n s w p f =
    let made : List ℕ → List ℕ → List ℕ → List ℕ → Mantissa = λ a b c d. record { sign = a; whole = b; point = c; fraction = d } in
    ap (λ x. made x m.whole m.point m.fraction) s ∙ ap (λ x. made n.sign x m.point m.fraction) w ∙ ap (λ x. made n.sign n.whole x m.fraction) p ∙ ap (λ x. made n.sign n.whole n.point x) f

power_by : (p q : Power) → p.letter ≡ q.letter → p.sign ≡ q.sign → p.digits ≡ q.digits → p ≡ q
power_by p q l s d =
    let made : List ℕ → List ℕ → List ℕ → Power = λ a b c. record { letter = a; sign = b; digits = c } in
    ap (λ x. made x p.sign p.digits) l ∙ ap (λ x. made q.letter x p.digits) s ∙ ap (λ x. made q.letter q.sign x) d

numeral_by : (n m : Numeral) → n.mantissa ≡ m.mantissa → n.power ≡ m.power → n ≡ m
numeral_by n m a b =
    let made : Mantissa → Power → Numeral = λ x y. record { mantissa = x; power = y } in
    ap (λ x. made x n.power) a ∙ ap (λ y. made m.mantissa y) b

pub mantissa_same : (text : List ℕ) (m n : Mantissa) (us vs : List ℕ) → CutsMantissa text m us → CutsMantissa text n vs → (m ≡ n) × (us ≡ vs)
mantissa_same text m n us vs c d =
    let s = optional_same Sign text m.sign n.sign _ _ c.sign d.sign in
    let w = cut_run_same Digit m.whole n.whole _ _ c.whole.run c.whole.stop d.whole.run d.whole.stop s.1 in
    let p = cut_optional_same Point m.point n.point _ _ c.point.optional c.point.stop d.point.optional d.point.stop w.1 in
    let f = cut_run_same Digit m.fraction n.fraction us vs c.fraction.run c.fraction.stop d.fraction.run d.fraction.stop p.1 in
    (mantissa_by m n s.0 w.0 p.0 f.0, f.1)

pub power_same : (text : List ℕ) (p q : Power) (us vs : List ℕ) → CutsPower text p us → CutsPower text q vs → (p ≡ q) × (us ≡ vs)
power_same text p q us vs c d =
    let l = optional_same Letter text p.letter q.letter _ _ c.letter d.letter in
    let s = cut_optional_same Sign p.sign q.sign _ _ c.sign.optional c.sign.stop d.sign.optional d.sign.stop l.1 in
    let f = cut_run_same Digit p.digits q.digits us vs c.digits.run c.digits.stop d.digits.run d.digits.stop s.1 in
    (power_by p q l.0 s.0 f.0, f.1)

-- ---- a spelled text is cut as far as can be
list_some : (xs : List ℕ) → xs ≢ [] → (x : ℕ) × (ys : List ℕ) × (xs ≡ x ∷ ys)
list_some [] ne = absurd (ne refl)
list_some (x ∷ xs) ne = (x, xs, refl)

pub left_nil : (xs ys : List ℕ) → xs ≡ [] → ys ≡ [] → xs ++ ys ≡ []
left_nil xs ys p q = rw (p, q) refl

blanks_begin_not : (k : Kind) (after : List ℕ) → IsRun Blank after → index Blank ≢ index k → Begins k after → ⊥
blanks_begin_not k [] r ne b = b
blanks_begin_not k (x ∷ xs) r ne b = apart Blank k x ne r.0 b

-- a power and blanks begin with no byte of kind k, if k is none of these
pub power_begins_not : (k : Kind) (p : Power) (after : List ℕ) → IsPower p → IsRun Blank after → index Letter ≢ index k → index Sign ≢ index k → index Blank ≢ index k → Begins k (power_text p after) → ⊥
power_begins_not k p after h r l s b =
    not_begun Letter k p.letter (p.sign ++ (p.digits ++ after)) l h.letter.1
    (λ e. not_begun Sign k p.sign (p.digits ++ after) s h.sign.1 (λ f. let d = h.none (left_nil p.letter p.sign e f) in
    rw d (blanks_begin_not k after r b)))

pub power_cuts : (p : Power) (after : List ℕ) → IsPower p → IsRun Blank after → CutsPower (power_text p after) p after
power_cuts p after h r = record {
  letter = record {
    whole = refl;
    optional = h.letter;
    stop = λ e. not_begun Sign Letter p.sign (p.digits ++ after) (omega arith) h.sign.1 (λ f. let d = h.none (left_nil p.letter p.sign e f) in
        rw d (blanks_begin_not Letter after r (omega arith)));
  };
  sign = record {
    whole = refl;
    optional = h.sign;
    stop = λ e. not_begun Digit Sign p.digits after (omega arith) h.digits (λ f. blanks_begin_not Sign after r (omega arith));
  };
  digits = record { whole = refl; run = h.digits; stop = blanks_begin_not Digit after r (omega arith) };
}

pub mantissa_cuts : (m : Mantissa) (rest : List ℕ) → IsMantissa m → (Begins Digit rest → ⊥) → (Begins Point rest → ⊥) → CutsMantissa (mantissa_text m rest) m rest
mantissa_cuts m rest h digit point = record {
  sign = record {
    whole = refl;
    optional = h.sign;
    stop = λ _. not_begun Digit Sign m.whole (m.point ++ (m.fraction ++ rest)) (omega arith) h.whole (λ e.
        not_begun Point Sign m.point (m.fraction ++ rest) (omega arith) h.point.1 (λ f. absurd (h.some (left_nil m.whole m.fraction e (h.behind f)))));
  };
  whole = record {
    whole = refl;
    run = h.whole;
    stop = not_begun Point Digit m.point (m.fraction ++ rest) (omega arith) h.point.1 (λ f. rw (h.behind f) digit);
  };
  point = record { whole = refl; optional = h.point; stop = λ f. rw (h.behind f) point };
  fraction = record { whole = refl; run = h.fraction; stop = digit };
}

-- a mantissa begins with no blank
pub mantissa_begins_not : (m : Mantissa) (rest : List ℕ) → IsMantissa m → Begins Blank (mantissa_text m rest) → ⊥
mantissa_begins_not m rest h =
    not_begun Sign Blank m.sign (m.whole ++ (m.point ++ (m.fraction ++ rest))) (omega arith) h.sign.1
    (λ _. not_begun Digit Blank m.whole (m.point ++ (m.fraction ++ rest)) (omega arith) h.whole
    (λ e. not_begun Point Blank m.point (m.fraction ++ rest) (omega arith) h.point.1 (λ f. absurd (h.some (left_nil m.whole m.fraction e (h.behind f))))))

-- the cuts of a spelled text
pub record Cuts (n : Numeral) (text before after : List ℕ) : Type 0 where
  pub blanks : CutsRun Blank text before (mantissa_text n.mantissa (power_text n.power after))
  pub mantissa : CutsMantissa (mantissa_text n.mantissa (power_text n.power after)) n.mantissa (power_text n.power after)
  pub power : CutsPower (power_text n.power after) n.power after

pub spelled_cuts : (n : Numeral) (text : List ℕ) (s : Spells n text) → Cuts n text s.before s.after
spelled_cuts n text s = record {
  blanks = record { whole = s.whole; run = s.blank_before; stop = mantissa_begins_not n.mantissa (power_text n.power s.after) s.mantissa };
  mantissa = mantissa_cuts n.mantissa (power_text n.power s.after) s.mantissa
      (power_begins_not Digit n.power s.after s.power s.blank_after (omega arith) (omega arith) (omega arith))
      (power_begins_not Point n.power s.after s.power s.blank_after (omega arith) (omega arith) (omega arith));
  power = power_cuts n.power s.after s.power s.blank_after;
}

-- the text of a cut may be given by another of the same bytes
pub cuts_mantissa_of : (text other : List ℕ) (m : Mantissa) (rest : List ℕ) → text ≡ other → CutsMantissa text m rest → CutsMantissa other m rest
cuts_mantissa_of text other m rest e c = subst (λ (t : List ℕ). CutsMantissa t m rest) e c

pub cuts_power_of : (text other : List ℕ) (p : Power) (rest : List ℕ) → text ≡ other → CutsPower text p rest → CutsPower other p rest
cuts_power_of text other p rest e c = subst (λ (t : List ℕ). CutsPower t p rest) e c

pub one_numeral_of : (text : List ℕ) (n m : Numeral) → Spells n text → Spells m text → n ≡ m
one_numeral_of text n m s t =
    let c = spelled_cuts n text s in
    let d = spelled_cuts m text t in
    let b = run_same Blank text s.before t.before _ _ c.blanks d.blanks in
    let a = mantissa_same _ n.mantissa m.mantissa _ _ c.mantissa (cuts_mantissa_of _ _ m.mantissa _ (sym b.1) d.mantissa) in
    let p = power_same _ n.power m.power s.after t.after c.power (cuts_power_of _ _ m.power t.after (sym a.1) d.power) in
    numeral_by n m a.0 p.0
