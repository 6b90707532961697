-- The fields of a line, one after another.
use Rattle.std.proofs.Common.{◌≡◌, inl, inr, ℕ, List, Result, Ok, Err, ap, sym, subst, refl}
use Rattle.stated_order.specs.Steps.{Then}
use Rattle.stated_order.proofs.StepLaws.{then_gives, then_stops, went_on, ok_same, err_same}
use Rattle.blanks.specs.Blanks.{end_trimmed}
use Rattle.snx_epoch.specs.declared.Epoch.{Epoch}
use Rattle.snx_rows.specs.Blocks.{Answers}
use Rattle.snx_rows.specs.declared.causes.Cause.{Cause}
use Rattle.snx_rows.specs.declared.causes.LineFault.{LineFault}
use Rattle.snx_rows.specs.declared.causes.DocError.{DocError}
use Rattle.snx_rows.specs.declared.causes.DocError.TheVariants as errors
use Rattle.snx_sites.specs.Plain.{PlainSite}
use Rattle.snx_sites.specs.Sites.{IsCodeOn, IsPointOn, IsSolnOn, IsTechniqueOn, IsMomentIn, IsSiteOn, AreMomentsOn}

-- ---- sites
-- the code and the point on a line
abbrev AreNames : List ℕ → Result (List ℕ × List ℕ) Cause → Type 0
AreNames text = Then (IsCodeOn text) (λ code. Then (IsPointOn text) (λ point names. names ≡ Ok (code, point)))

pub names_stop : (text code : List ℕ) → IsCodeOn text (Ok code) → (cause : Cause) → IsPointOn text (Err cause) → AreNames text (Err cause)
names_stop text code has_code cause refused = then_gives _ _ code _ has_code (then_stops _ _ cause refused)

pub site_given : (text : List ℕ) (names : List ℕ × List ℕ) → AreNames text (Ok names) → IsSiteOn text (Ok (record { code = names.0; point = names.1; text = end_trimmed text }))
site_given text names h =
    let a = went_on _ _ names h in
    let b = went_on _ _ names a.onward in
    let same = ok_same names (a.gives, b.gives) b.onward in
    let site = λ (names : List ℕ × List ℕ). let r : Result PlainSite Cause = Ok (record { code = names.0; point = names.1; text = end_trimmed text }) in r in
    then_gives _ _ a.gives _ a.given (then_gives _ _ b.gives _ b.given (ap site same))

pub site_refused : (text : List ℕ) (cause : Cause) → AreNames text (Err cause) → IsSiteOn text (Err cause)
site_refused text cause h =
    elim h [
      | inl a ↦
          elim a.onward [
            | inl b ↦ let e = b.onward in cc
            | inr s ↦ then_gives _ _ a.gives _ a.given (then_stops _ _ cause (subst (λ x. IsPointOn text (Err x)) (sym (err_same cause s.cause s.is_cause)) s.refused))
          ]
      | inr s ↦ then_stops _ _ cause (subst (λ x. IsCodeOn text (Err x)) (sym (err_same cause s.cause s.is_cause)) s.refused)
    ]

-- the answer at a line is the answer at the block, where a fault at the line is one at the block
pub answer_stops : {T U X Y : Type 0} (view : T → X) (seen : U → Y) (one : Result X LineFault → Type 0) (all : Result Y LineFault → Type 0) (e : DocError) → Answers view one (Err e) → ((fault : LineFault) → one (Err fault) → all (Err fault)) → Answers seen all (Err e)
answer_stops view seen one all (errors.Line fault) h onward = onward fault h
answer_stops view seen one all errors.Memory h onward = tt

-- ---- moments
module _ (text code : List ℕ) (has_code : IsCodeOn text (Ok code)) where
  pub no_point : (cause : Cause) → IsPointOn text (Err cause) → AreMomentsOn text (Err cause)
  no_point cause refused = then_gives _ _ code _ has_code (then_stops _ _ cause refused)

  module _ (point : List ℕ) (has_point : IsPointOn text (Ok point)) where
    pub no_soln : (cause : Cause) → IsSolnOn text (Err cause) → AreMomentsOn text (Err cause)
    no_soln cause refused = then_gives _ _ code _ has_code (then_gives _ _ point _ has_point (then_stops _ _ cause refused))

    module _ (soln : List ℕ) (has_soln : IsSolnOn text (Ok soln)) where
      pub no_technique : (cause : Cause) → IsTechniqueOn text (Err cause) → AreMomentsOn text (Err cause)
      no_technique cause refused = then_gives _ _ code _ has_code (then_gives _ _ point _ has_point (then_gives _ _ soln _ has_soln (then_stops _ _ cause refused)))

      module _ (technique : ℕ) (has_technique : IsTechniqueOn text (Ok technique)) where
        pub no_start : (cause : Cause) → IsMomentIn 17 28 text (Err cause) → AreMomentsOn text (Err cause)
        no_start cause refused =
            then_gives _ _ code _ has_code (then_gives _ _ point _ has_point (then_gives _ _ soln _ has_soln
            (then_gives _ _ technique _ has_technique (then_stops _ _ cause refused))))

        module _ (start : Epoch) (has_start : IsMomentIn 17 28 text (Ok start)) where
          pub no_end : (cause : Cause) → IsMomentIn 30 41 text (Err cause) → AreMomentsOn text (Err cause)
          no_end cause refused =
              then_gives _ _ code _ has_code (then_gives _ _ point _ has_point (then_gives _ _ soln _ has_soln
              (then_gives _ _ technique _ has_technique (then_gives _ _ start _ has_start (then_stops _ _ cause refused)))))

          module _ (end : Epoch) (has_end : IsMomentIn 30 41 text (Ok end)) where
            pub no_mean : (cause : Cause) → IsMomentIn 43 54 text (Err cause) → AreMomentsOn text (Err cause)
            no_mean cause refused =
                then_gives _ _ code _ has_code (then_gives _ _ point _ has_point (then_gives _ _ soln _ has_soln
                (then_gives _ _ technique _ has_technique (then_gives _ _ start _ has_start (then_gives _ _ end _ has_end (then_stops _ _ cause refused))))))

            pub whole_row : (mean : Epoch) → IsMomentIn 43 54 text (Ok mean)
                → AreMomentsOn text (Ok (record { code = code; point = point; soln = soln; technique = technique; start = start; end = end; mean = mean }))
            whole_row mean has_mean =
                then_gives _ _ code _ has_code (then_gives _ _ point _ has_point (then_gives _ _ soln _ has_soln
                (then_gives _ _ technique _ has_technique (then_gives _ _ start _ has_start (then_gives _ _ end _ has_end (then_gives _ _ mean _ has_mean refl))))))
