-- Where a text leaves the grammar.
use Rattle.std.proofs.Common.{◌≡◌, ◌≢◌, ℕ, zero, suc, ◌-◌, ◌≤◌, ◌<◌, List, [], ◌∷◌, ◌++◌, length, take, refl, ap, sym, subst, ◌∙◌, arith, append_assoc, length-append}
use Rattle.std.proofs.lemmas.List.{append-nil, take_at}
use Rattle.decimal_e.specs.declared.cut.Kind.{Kind}
use Rattle.decimal_e.specs.declared.cut.Kind.TheVariants.{Blank, Sign, Digit, Point}
use Rattle.decimal_e.specs.declared.read.DecFault.TheVariants.{Char}
use Rattle.decimal_e.specs.Grammar.{IsRun, IsOptional, Mantissa, Power, Numeral, mantissa_text, power_text, IsMantissa, IsPower, Spells, IsMember, IsBeginning}
use Rattle.decimal_e.specs.Cuts.{Begins, CutsRun, CutsOptional, CutsMantissa, CutsPower}
use Rattle.decimal_e.specs.Answers.{IsFault}
use Rattle.decimal_e.proofs.Pieces.{run_same, mantissa_same, power_same, spelled_cuts, run_right, cuts_mantissa_of, cuts_power_of}

-- the tail begins as the rest does: with no other kind of byte, and with one if the rest does
pub record Follows (rest tail : List ℕ) : Type 0 where
  pub kinds : (k : Kind) → Begins k tail → Begins k rest
  pub some : tail ≡ [] → rest ≡ []

pub follows_behind : (xs rest tail : List ℕ) → Follows rest tail → Follows (xs ++ rest) (xs ++ tail)
follows_behind [] rest tail f = f
follows_behind (x ∷ xs) rest tail f = record { kinds = λ k h. h; some = λ e. cc }

-- ---- a cut text is cut in the same way with another tail
run_with : (k : Kind) (text xs rest tail : List ℕ) → CutsRun k text xs rest → Follows rest tail → CutsRun k (xs ++ tail) xs tail
run_with k text xs rest tail c f = record { whole = refl; run = c.run; stop = λ h. c.stop (f.kinds k h) }

optional_with : (k : Kind) (text xs rest tail : List ℕ) → CutsOptional k text xs rest → Follows rest tail → CutsOptional k (xs ++ tail) xs tail
optional_with k text xs rest tail c f = record { whole = refl; optional = c.optional; stop = λ e h. c.stop e (f.kinds k h) }

mantissa_with : (text : List ℕ) (m : Mantissa) (rest tail : List ℕ) → CutsMantissa text m rest → Follows rest tail → CutsMantissa (mantissa_text m tail) m tail
mantissa_with text m rest tail c f =
    let a = follows_behind m.fraction rest tail f in
    let b = follows_behind m.point (m.fraction ++ rest) (m.fraction ++ tail) a in
    let d = follows_behind m.whole (m.point ++ (m.fraction ++ rest)) (m.point ++ (m.fraction ++ tail)) b in
    record { sign = optional_with _ _ _ _ _ c.sign d; whole = run_with _ _ _ _ _ c.whole b; point = optional_with _ _ _ _ _ c.point a; fraction = run_with _ _ _ _ _ c.fraction f }

power_with : (text : List ℕ) (p : Power) (rest tail : List ℕ) → CutsPower text p rest → Follows rest tail → CutsPower (power_text p tail) p tail
power_with text p rest tail c f =
    let a = follows_behind p.digits rest tail f in
    let b = follows_behind p.sign (p.digits ++ rest) (p.digits ++ tail) a in
    record { letter = optional_with _ _ _ _ _ c.letter b; sign = optional_with _ _ _ _ _ c.sign a; digits = run_with _ _ _ _ _ c.digits f }

-- ---- a fault at a place
behind : (xs ys : List ℕ) (k : ℕ) → length xs < k → k ≤ length (xs ++ ys) → (j : ℕ) × ((0 < j) × (j ≤ length ys) × (take k (xs ++ ys) ≡ xs ++ take j ys))
behind [] ys k l h = (k, (l, h, refl))
behind (x ∷ xs) ys zero l h = absurd (omega arith)
behind (x ∷ xs) ys (suc k) l h = let r = behind xs ys k (omega arith) (omega arith) in (r.0, (r.1.0, r.1.1, ap (λ zs. x ∷ zs) r.1.2))

follows_front : (rest more : List ℕ) (j : ℕ) → 0 < j → j ≤ length rest → Follows rest (take j rest ++ more)
follows_front [] more j l h = absurd (omega arith)
follows_front (x ∷ xs) more zero l h = absurd (omega arith)
follows_front (x ∷ xs) more (suc j) l h = record { kinds = λ k b. b; some = λ e. cc }

-- if no tail that begins as the rest does makes a text of the grammar, the text leaves it at the rest
pub char_fault : (text front rest : List ℕ) (n : ℕ) → text ≡ front ++ rest → n ≡ length text - length rest → (IsRun Blank text → ⊥) → IsBeginning front
    → ((tail : List ℕ) → Follows rest tail → IsMember (front ++ tail) → ⊥) → IsFault text (Char n)
char_fault text front rest n whole place some begins stuck =
    let at : length front ≡ n = omega (arith, ap length whole, length-append front rest) in (
      some,
      λ m. stuck rest (record { kinds = λ k h. h; some = λ e. e }) (subst IsMember whole m),
      record {
        within = omega arith;
        begins = subst IsBeginning (sym (ap (take n) whole ∙ take_at front rest n at)) begins;
        longest = λ k l h b.
            let r = behind front rest k (omega arith) (omega (arith, ap length whole)) in
            let same = ap (take k) whole ∙ r.1.2 in
            stuck (take r.0 rest ++ b.0) (follows_front rest b.0 r.0 r.1.0 r.1.1) (subst IsMember (ap (λ t. t ++ b.0) same ∙ append_assoc front (take r.0 rest) b.0) b.1);
      },
    )

-- ---- the pieces of a text that has been cut so far
pub mantissa_text_append : (m : Mantissa) (xs ys : List ℕ) → mantissa_text m xs ++ ys ≡ mantissa_text m (xs ++ ys)
mantissa_text_append m xs ys = simp append_assoc

pub power_text_append : (p : Power) (xs ys : List ℕ) → power_text p xs ++ ys ≡ power_text p (xs ++ ys)
power_text_append p xs ys = simp append_assoc

mantissa_whole : (text : List ℕ) (m : Mantissa) (rest : List ℕ) → CutsMantissa text m rest → text ≡ mantissa_text m rest
mantissa_whole text m rest c = c.sign.whole

power_whole : (text : List ℕ) (p : Power) (rest : List ℕ) → CutsPower text p rest → text ≡ power_text p rest
power_whole text p rest c = c.letter.whole

-- a run that does not begin is empty
no_run : (k : Kind) (xs ys : List ℕ) → IsRun k xs → (Begins k (xs ++ ys) → ⊥) → xs ≡ []
no_run k [] ys r n = refl
no_run k (x ∷ xs) ys r n = absurd (n r.0)

-- what is cut with a digit is a mantissa
pub cut_is_mantissa : (text : List ℕ) (m : Mantissa) (rest : List ℕ) → CutsMantissa text m rest → m.whole ++ m.fraction ≢ [] → IsMantissa m
cut_is_mantissa text m rest c some = record {
  sign = c.sign.optional;
  whole = c.whole.run;
  point = c.point.optional;
  fraction = c.fraction.run;
  behind = λ e. no_run Digit m.fraction rest c.fraction.run (subst (λ (p : List ℕ). Begins Digit (p ++ (m.fraction ++ rest)) → ⊥) e c.whole.stop);
  some = some;
}

-- what is cut behind a mantissa is a power, if it has digits where it has begun
pub cut_is_power : (text : List ℕ) (p : Power) (rest : List ℕ) → CutsPower text p rest → (Begins Digit text → ⊥) → (p.letter ++ p.sign ≢ [] → p.digits ≢ []) → IsPower p
cut_is_power text p rest c none some = record {
  letter = c.letter.optional;
  sign = c.sign.optional;
  digits = c.digits.run;
  none = λ e. no_run Digit p.digits rest c.digits.run (subst (λ (t : List ℕ). Begins Digit t → ⊥) (c.letter.whole ∙ sym (append_assoc p.letter p.sign (p.digits ++ rest)) ∙ ap (λ t. t ++ (p.digits ++ rest)) e) none);
  some = some;
}

-- a text whose first blanks do not reach its end is not blank
pub some_left : (text before rest : List ℕ) → CutsRun Blank text before rest → rest ≢ [] → IsRun Blank text → ⊥
some_left text before rest c ne r = begun rest (run_right Blank before rest (subst (IsRun Blank) c.whole r)) ne c.stop
  where
    begun : (rest : List ℕ) → IsRun Blank rest → rest ≢ [] → (Begins Blank rest → ⊥) → ⊥
    begun [] r ne n = ne refl
    begun (x ∷ xs) r ne n = n r.0

follows_mantissa : (m : Mantissa) (rest tail : List ℕ) → Follows rest tail → Follows (mantissa_text m rest) (mantissa_text m tail)
follows_mantissa m rest tail f = follows_behind m.sign _ _ (follows_behind m.whole _ _ (follows_behind m.point _ _ (follows_behind m.fraction rest tail f)))

follows_power : (p : Power) (rest tail : List ℕ) → Follows rest tail → Follows (power_text p rest) (power_text p tail)
follows_power p rest tail f = follows_behind p.letter _ _ (follows_behind p.sign _ _ (follows_behind p.digits rest tail f))

-- the bytes before a text that is put behind a mantissa
front_text : (f : List ℕ) (m : Mantissa) (xs ys : List ℕ) → (f ++ mantissa_text m xs) ++ ys ≡ f ++ mantissa_text m (xs ++ ys)
front_text f m xs ys = append_assoc f (mantissa_text m xs) ys ∙ ap (λ t. f ++ t) (mantissa_text_append m xs ys)

-- of a text that is cut as far as its mantissa, a numeral has this mantissa
member_mantissa : (text f r : List ℕ) (m : Mantissa) (rest tail other : List ℕ) → CutsRun Blank text f r → CutsMantissa r m rest → Follows rest tail → other ≡ f ++ mantissa_text m tail
    → (n : Numeral) (s : Spells n other) → (m ≡ n.mantissa) × (tail ≡ power_text n.power s.after)
member_mantissa text f r m rest tail other c d follows is n s =
    let k = spelled_cuts n other s in
    let b = run_with Blank text f (mantissa_text m rest) (mantissa_text m tail) (subst (λ (t : List ℕ). CutsRun Blank text f t) (mantissa_whole r m rest d) c) (follows_mantissa m rest tail follows) in
    let same = run_same Blank other f s.before (mantissa_text m tail) _ (subst (λ (t : List ℕ). CutsRun Blank t f (mantissa_text m tail)) (sym is) b) k.blanks in
    mantissa_same (mantissa_text m tail) m n.mantissa tail _ (mantissa_with r m rest tail d follows) (cuts_mantissa_of _ _ n.mantissa _ (sym same.1) k.mantissa)

-- ---- no digit in the mantissa
nil_both : (xs ys : List ℕ) → xs ++ ys ≡ [] → (xs ≡ []) × (ys ≡ [])
nil_both [] ys e = (refl, e)
nil_both (x ∷ xs) ys e = absurd cc

no_power : IsPower (record { letter = []; sign = []; digits = [] })
no_power = record { letter = (omega arith, tt); sign = (omega arith, tt); digits = tt; none = λ e. refl; some = λ n. absurd (n refl) }

zero_member : (f sign point : List ℕ) → IsRun Blank f → IsOptional Sign sign → IsOptional Point point → IsMember (f ++ (sign ++ (point ++ 48 ∷ [])))
zero_member f sign [] b s p = (
  record { mantissa = record { sign = sign; whole = 48 ∷ []; point = []; fraction = [] }; power = record { letter = []; sign = []; digits = [] } },
  record {
    before = f;
    after = [];
    whole = refl;
    blank_before = b;
    blank_after = tt;
    mantissa = record { sign = s; whole = ((omega arith, omega arith), tt); point = p; fraction = tt; behind = λ e. refl; some = λ e. cc };
    power = no_power;
  },
)
zero_member f sign (x ∷ xs) b s p = (
  record { mantissa = record { sign = sign; whole = []; point = x ∷ xs; fraction = 48 ∷ [] }; power = record { letter = []; sign = []; digits = [] } },
  record {
    before = f;
    after = [];
    whole = refl;
    blank_before = b;
    blank_after = tt;
    mantissa = record { sign = s; whole = tt; point = p; fraction = ((omega arith, omega arith), tt); behind = λ e. absurd cc; some = λ e. cc };
    power = no_power;
  },
)

pub fault_mantissa : (text f r : List ℕ) (m : Mantissa) (rest : List ℕ) (n : ℕ) → CutsRun Blank text f r → r ≢ [] → CutsMantissa r m rest → m.whole ++ m.fraction ≡ [] → n ≡ length text - length rest → IsFault text (Char n)
fault_mantissa text f r m rest n c ne d none place =
    let nils = nil_both m.whole m.fraction none in
    let bare : mantissa_text m (48 ∷ []) ≡ m.sign ++ (m.point ++ 48 ∷ []) = rw (nils.0, nils.1) refl in
    char_fault text (f ++ mantissa_text m []) rest n (c.whole ∙ ap (λ t. f ++ t) (mantissa_whole r m rest d) ∙ sym (front_text f m [] rest)) place (some_left text f r c ne)
    (48 ∷ [], subst IsMember (sym (front_text f m [] (48 ∷ []) ∙ ap (λ t. f ++ t) bare)) (zero_member f m.sign m.point c.run d.sign.optional d.point.optional))
    (λ tail follows (k, s). let same = member_mantissa text f r m rest tail ((f ++ mantissa_text m []) ++ tail) c d follows (front_text f m [] tail) k s in
    s.mantissa.some (subst (λ (x : Mantissa). x.whole ++ x.fraction ≡ []) same.0 none))

-- ---- no digit in an exponent that has begun
pub fault_power : (text f r : List ℕ) (m : Mantissa) (q : List ℕ) (p : Power) (rest : List ℕ) (n : ℕ) → CutsRun Blank text f r → r ≢ [] → CutsMantissa r m q → m.whole ++ m.fraction ≢ [] → CutsPower q p rest
    → p.letter ++ p.sign ≢ [] → p.digits ≡ [] → n ≡ length text - length rest → IsFault text (Char n)
fault_power text f r m q p rest n c ne d some e begun none place =
    let whole = c.whole ∙ ap (λ t. f ++ t) (mantissa_whole r m q d ∙ ap (mantissa_text m) (power_whole q p rest e)) in
    let front : (tail : List ℕ) → (f ++ mantissa_text m (power_text p [])) ++ tail ≡ f ++ mantissa_text m (power_text p tail) = λ tail. front_text f m (power_text p []) tail ∙ ap (λ t. f ++ mantissa_text m t) (power_text_append p [] tail) in
    let zero : Power = record { letter = p.letter; sign = p.sign; digits = 48 ∷ [] } in
    let bare : power_text p (48 ∷ []) ≡ power_text zero [] = rw none refl in
    char_fault text (f ++ mantissa_text m (power_text p [])) rest n (whole ∙ sym (front rest)) place (some_left text f r c ne) (
      48 ∷ [],
      (
        record { mantissa = m; power = zero },
        record {
          before = f;
          after = [];
          whole = front (48 ∷ []) ∙ ap (λ t. f ++ mantissa_text m t) bare;
          blank_before = c.run;
          blank_after = tt;
          mantissa = cut_is_mantissa r m q d some;
          power = record { letter = e.letter.optional; sign = e.sign.optional; digits = ((omega arith, omega arith), tt); none = λ z. absurd (begun z); some = λ _ z. cc };
        },
      ),
    )
    (λ tail follows (k, s).
    let behind = subst (λ (t : List ℕ). Follows t (power_text p tail)) (sym (power_whole q p rest e)) (follows_power p rest tail follows) in
    let same = member_mantissa text f r m q (power_text p tail) ((f ++ mantissa_text m (power_text p [])) ++ tail) c d behind (front tail) k s in
    let cuts = spelled_cuts k _ s in
    let one = power_same (power_text p tail) p k.power tail s.after (power_with q p rest tail e follows) (cuts_power_of _ _ k.power s.after (sym same.1) cuts.power) in
    s.power.some (subst (λ (x : Power). x.letter ++ x.sign ≢ []) one.0 begun) (subst (λ (x : Power). x.digits ≡ []) one.0 none))

-- ---- something behind the numeral
pub spelled_by : (text f r : List ℕ) (m : Mantissa) (q : List ℕ) (p : Power) (rest g : List ℕ) → CutsRun Blank text f r → CutsMantissa r m q → m.whole ++ m.fraction ≢ [] → CutsPower q p rest
    → (p.letter ++ p.sign ≢ [] → p.digits ≢ []) → rest ≡ g → IsRun Blank g → Spells (record { mantissa = m; power = p }) text
spelled_by text f r m q p rest g c d some e closed end blank = record {
  before = f;
  after = g;
  whole = c.whole ∙ ap (λ t. f ++ t) (mantissa_whole r m q d ∙ ap (mantissa_text m) (power_whole q p rest e ∙ ap (power_text p) end));
  blank_before = c.run;
  blank_after = blank;
  mantissa = cut_is_mantissa r m q d some;
  power = cut_is_power q p rest e d.fraction.stop closed;
}

pub fault_rest : (text f r : List ℕ) (m : Mantissa) (q : List ℕ) (p : Power) (rest g last : List ℕ) (n : ℕ) → CutsRun Blank text f r → r ≢ [] → CutsMantissa r m q → m.whole ++ m.fraction ≢ [] → CutsPower q p rest
    → (p.letter ++ p.sign ≢ [] → p.digits ≢ []) → CutsRun Blank rest g last → last ≢ [] → n ≡ length text - length last → IsFault text (Char n)
fault_rest text f r m q p rest g last n c ne d some e closed h more place =
    let whole = c.whole ∙ ap (λ t. f ++ t) (mantissa_whole r m q d ∙ ap (mantissa_text m) (power_whole q p rest e ∙ ap (power_text p) h.whole)) in
    let front : (tail : List ℕ) → (f ++ mantissa_text m (power_text p g)) ++ tail ≡ f ++ mantissa_text m (power_text p (g ++ tail)) = λ tail. front_text f m (power_text p g) tail ∙ ap (λ t. f ++ mantissa_text m t) (power_text_append p g tail) in
    char_fault text (f ++ mantissa_text m (power_text p g)) last n (whole ∙ sym (front last)) place (some_left text f r c ne) (
      [],
      (
        record { mantissa = m; power = p },
        record {
          before = f;
          after = g;
          whole = append-nil (f ++ mantissa_text m (power_text p g));
          blank_before = c.run;
          blank_after = h.run;
          mantissa = cut_is_mantissa r m q d some;
          power = cut_is_power q p rest e d.fraction.stop closed;
        },
      ),
    )
    (λ tail follows (k, s).
    let after = subst (λ (t : List ℕ). Follows t (g ++ tail)) (sym h.whole) (follows_behind g last tail follows) in
    let behind = subst (λ (t : List ℕ). Follows t (power_text p (g ++ tail))) (sym (power_whole q p rest e)) (follows_power p rest (g ++ tail) after) in
    let same = member_mantissa text f r m q (power_text p (g ++ tail)) ((f ++ mantissa_text m (power_text p g)) ++ tail) c d behind (front tail) k s in
    let cuts = spelled_cuts k _ s in
    let one = power_same (power_text p (g ++ tail)) p k.power (g ++ tail) s.after (power_with q p rest (g ++ tail) e after) (cuts_power_of _ _ k.power s.after (sym same.1) cuts.power) in
    let blank = run_right Blank g tail (subst (IsRun Blank) (sym one.1) s.blank_after) in
    begun tail blank (λ z. more (follows.some z)) (λ b. h.stop (follows.kinds Blank b)))
  where
    begun : (xs : List ℕ) → IsRun Blank xs → (xs ≡ [] → ⊥) → (Begins Blank xs → ⊥) → ⊥
    begun [] r ne n = ne refl
    begun (x ∷ xs) r ne n = n r.0
