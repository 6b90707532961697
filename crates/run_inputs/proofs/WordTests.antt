-- The words of a command.
use Rattle.std.proofs.Common.{◌≡◌, ◌≢◌, ◌∷◌, ◌≤◌, ◌<◌, ◌&&◌, not, ℕ, Bool, true, false, List, [], length, get_or, map, String, string_bytes, codes, refl, sym, ◌∙◌, arith}
use Rattle.std.specs.Str.{bytes_eq}
use Rattle.std.proofs.lemmas.Slice.Eq.{bytes_eq-Decides}
use Rattle.std.specs.declared.alloc.Global.{Global}
use Rattle.run_inputs.specs.Words.{PlainCommand, Solve, Combine, SolvedFiles, CombinedFiles, AreSolve, AreCombine, AreCommand}

-- three words in memory, and four
pub three_words : (ws : List (String Global)) (a b d : String Global) → 3 ≤ length ws → length ws < 4 → a ≡ get_or ws 0 a → b ≡ get_or ws 1 b → d ≡ get_or ws 2 d
    → map string_bytes ws ≡ string_bytes a ∷ string_bytes b ∷ string_bytes d ∷ []
three_words [] a b d least most first second third = absurd (omega arith)
three_words (x ∷ []) a b d least most first second third = absurd (omega arith)
three_words (x ∷ y ∷ []) a b d least most first second third = absurd (omega arith)
three_words (x ∷ y ∷ z ∷ []) a b d least most first second third = cc
three_words (x ∷ y ∷ z ∷ v ∷ more) a b d least most first second third = absurd (omega arith)

pub four_words : (ws : List (String Global)) (a b d e : String Global) → 4 ≤ length ws → length ws < 5 → a ≡ get_or ws 0 a → b ≡ get_or ws 1 b → d ≡ get_or ws 2 d → e ≡ get_or ws 3 e
    → map string_bytes ws ≡ string_bytes a ∷ string_bytes b ∷ string_bytes d ∷ string_bytes e ∷ []
four_words [] a b d e least most first second third last = absurd (omega arith)
four_words (x ∷ []) a b d e least most first second third last = absurd (omega arith)
four_words (x ∷ y ∷ []) a b d e least most first second third last = absurd (omega arith)
four_words (x ∷ y ∷ z ∷ []) a b d e least most first second third last = absurd (omega arith)
four_words (x ∷ y ∷ z ∷ v ∷ []) a b d e least most first second third last = cc
four_words (x ∷ y ∷ z ∷ v ∷ u ∷ more) a b d e least most first second third last = absurd (omega arith)

-- ---- tests of two conditions
both_first : (a b : Bool) → (a && b) ≡ true → a ≡ true
both_first true b e = refl
both_first false b e = e

both_second : (a b : Bool) → (a && b) ≡ true → b ≡ true
both_second true b e = e
both_second false b e = absurd (cc)

both_hold : (a b : Bool) → a ≡ true → b ≡ true → (a && b) ≡ true
both_hold true true e f = refl
both_hold true false e f = absurd (cc)
both_hold false b e f = absurd (cc)

passes_not : (a : Bool) → not a ≡ true → a ≡ true → ⊥
passes_not true e f = cc
passes_not false e f = cc

not_passes : (a : Bool) → (a ≡ true → ⊥) → not a ≡ true
not_passes true f = absurd (f refl)
not_passes false f = refl

-- two texts that the test finds different, or that are
tells_different : (one other : List ℕ) → not (bytes_eq one other) ≡ true → one ≢ other
tells_different one other e same = passes_not (bytes_eq one other) e ((bytes_eq-Decides one other).1 same)

told_different : (one other : List ℕ) → one ≢ other → not (bytes_eq one other) ≡ true
told_different one other apart = not_passes (bytes_eq one other) (λ e. apart ((bytes_eq-Decides one other).0 e))

-- ---- solve
pub words_solve : (words : List (List ℕ)) (command from to : List ℕ) → words ≡ command ∷ from ∷ to ∷ [] → true ≡ (bytes_eq command (codes "solve") && not (bytes_eq from to))
    → AreSolve words (record { from = from; to = to })
words_solve words command from to three test =
    let is = bytes_eq command (codes "solve") in
    let apart = not (bytes_eq from to) in
    let solve : command ≡ codes "solve" = (bytes_eq-Decides command (codes "solve")).0 (both_first is apart (sym test)) in
    record { words_are = cc; differ = tells_different from to (both_second is apart (sym test)) }

pub no_solve : (words : List (List ℕ)) (command from to : List ℕ) → words ≡ command ∷ from ∷ to ∷ [] → false ≡ (bytes_eq command (codes "solve") && not (bytes_eq from to))
    → (names : SolvedFiles) → ¬ (AreSolve words names)
no_solve words command from to three test names are =
    let e = sym are.words_are ∙ three in
    let solve : command ≡ codes "solve" = cc in
    let from_is : names.from ≡ from = cc in
    let to_is : names.to ≡ to = cc in
    let passes : (bytes_eq command (codes "solve") && not (bytes_eq from to)) ≡ true =
    both_hold _ _ ((bytes_eq-Decides command (codes "solve")).1 solve) (told_different from to (λ same. are.differ (from_is ∙ same ∙ sym to_is))) in
    let f : false ≡ true = test ∙ passes in
    cc

-- ---- combine
pub words_combine : (words : List (List ℕ)) (command control out report : List ℕ) → words ≡ command ∷ control ∷ out ∷ report ∷ []
    → true ≡ (bytes_eq command (codes "combine") && (not (bytes_eq control out) && (not (bytes_eq control report) && not (bytes_eq out report))))
    → AreCombine words (record { control = control; out = out; report = report })
words_combine words command control out report four test =
    let is = bytes_eq command (codes "combine") in
    let first = not (bytes_eq control out) in
    let second = not (bytes_eq control report) in
    let third = not (bytes_eq out report) in
    let combine : command ≡ codes "combine" = (bytes_eq-Decides command (codes "combine")).0 (both_first is (first && (second && third)) (sym test)) in
    let differ : (first && (second && third)) ≡ true = both_second is (first && (second && third)) (sym test) in
    let later : (second && third) ≡ true = both_second first (second && third) differ in
    record {
      words_are = cc;
      control_and_out = tells_different control out (both_first first (second && third) differ);
      control_and_report = tells_different control report (both_first second third later);
      out_and_report = tells_different out report (both_second second third later);
    }

pub no_combine : (words : List (List ℕ)) (command control out report : List ℕ) → words ≡ command ∷ control ∷ out ∷ report ∷ []
    → false ≡ (bytes_eq command (codes "combine") && (not (bytes_eq control out) && (not (bytes_eq control report) && not (bytes_eq out report))))
    → (names : CombinedFiles) → ¬ (AreCombine words names)
no_combine words command control out report four test names are =
    let e = sym are.words_are ∙ four in
    let combine : command ≡ codes "combine" = cc in
    let control_is : names.control ≡ control = cc in
    let out_is : names.out ≡ out = cc in
    let report_is : names.report ≡ report = cc in
    let passes : (bytes_eq command (codes "combine") && (not (bytes_eq control out) && (not (bytes_eq control report) && not (bytes_eq out report)))) ≡ true =
    both_hold _ _ ((bytes_eq-Decides command (codes "combine")).1 combine)
    (both_hold _ _ (told_different control out (λ same. are.control_and_out (control_is ∙ same ∙ sym out_is)))
    (both_hold _ _ (told_different control report (λ same. are.control_and_report (control_is ∙ same ∙ sym report_is)))
    (told_different out report (λ same. are.out_and_report (out_is ∙ same ∙ sym report_is))))) in
    let f : false ≡ true = test ∙ passes in
    cc

-- words that are neither are no command
pub no_command : (words : List (List ℕ)) → ((names : SolvedFiles) → ¬ (AreSolve words names)) → ((names : CombinedFiles) → ¬ (AreCombine words names)) → (command : PlainCommand) → ¬ (AreCommand words command)
no_command words solve combine (Solve names) = solve names
no_command words solve combine (Combine names) = combine names
