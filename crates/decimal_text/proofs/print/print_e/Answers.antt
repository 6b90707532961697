use Rattle.std.proofs.Common.{◌≡◌, ◌≤◌, ◌+◌, ◌-◌, ℕ, List, [], ◌∷◌, ◌++◌, length, replicate, length-append, append-nil, arith, ap, ◌∙◌, FitsSigned, w32, rules, unsigned_abs, lit≤}
use Rattle.std.specs.Int.{w128, is_negative}
use Rattle.std.specs.Fmt.{sign_text}
use Rattle.std.proofs.Math.Seq.{drop-length}
use Rattle.std.proofs.lemmas.Int.{to_z-of_z}
use Rattle.blanks.specs.Blanks.{right_aligned}
use Rattle.decimal_text.specs.Texts.{e_text, number_text, zero_padded, exponent_text, rounded_digits, printed_exponent}
use Rattle.decimal_text.proofs.Laws.{length_padded}
use Rattle.decimal_text.proofs.print.print_e.Goals as goal

-- the pieces, from the last to the first, are the text at the right
assembled : (width start : ℕ) (new front behind last sign digits exponent : List ℕ)
    → new ≡ replicate start 32 ++ front → front ≡ sign ++ (46 ∷ behind) → behind ≡ digits ++ last → last ≡ exponent ++ []
    → start + (length sign + (1 + length digits + length exponent)) ≡ width
    → new ≡ right_aligned width (sign ++ (46 ∷ digits ++ exponent))
assembled width start new front behind last sign digits exponent h f b l w =
    let n : width - length (sign ++ (46 ∷ digits ++ exponent)) ≡ start = omega (arith, length-append sign (46 ∷ digits ++ exponent), length-append digits exponent) in
    rw (n, h, f, b, l, append-nil)

pub returns : goal.returns
unfolding e_text
returns c =
    let f : FitsSigned w128 c.args.mant = c.ranges.mant in
    let x : FitsSigned w32 c.args.exp = c.ranges.exp in
    let g : FitsSigned w32 c.round_to-number.result.exponent = search rules in
    let u = simp to_z-of_z at c.unsigned_abs.ensures.value in
    let p = simp to_z-of_z at c.round_to-number.ensures.exponent in
    let a = simp to_z-of_z at c.write_exponent-at.ensures.written in
    let d = simp to_z-of_z at c.write_front-at.ensures.written in
    let e = c.round_to-number.result.exponent in
    let m = c.round_to-number.result.digits in
    let sign = sign_text (is_negative c.args.mant) in
    let out = c.args.out.now in
    let lm = length_padded c.args.digits m c.requires.some c.requires.most c.round_to-number.ensures.few in
    let same : e ≡ printed_exponent c.args.digits (unsigned_abs c.args.mant) c.args.exp = p ∙ ap (λ n. printed_exponent c.args.digits n c.args.exp) u in
    let small : unsigned_abs e ≤ 99 = rw (ap unsigned_abs same) c.requires.exponent in
    let le = length_padded 2 (unsigned_abs e) (lit≤ tt) (lit≤ tt) (omega arith) in
    let t = simp to_z-of_z at c.write_front-at.ensures.start in
    assembled (length out) c.write_front-at.result _ _ _ _ sign (zero_padded c.args.digits m) (exponent_text e) c.write_blanks.ensures d c.write_padded-at.ensures.written
    (a ∙ ap (λ l. exponent_text e ++ l) (drop-length out))
    (omega (arith, c.write_exponent-at.ensures.start, c.write_padded-at.ensures.start))
    ∙ ap (λ n. right_aligned (length out) (number_text c.args.digits (is_negative c.args.mant) n e)) (c.round_to-number.ensures.digits ∙ ap (rounded_digits c.args.digits) u)
    ∙ ap (λ z. right_aligned (length out) (number_text c.args.digits (is_negative c.args.mant) (rounded_digits c.args.digits (unsigned_abs c.args.mant)) z)) same
