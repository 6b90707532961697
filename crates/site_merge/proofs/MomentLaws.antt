-- The least and the greatest of some moments: one more moment, and that there is one answer.
use Rattle.std.proofs.Common.{◌≡◌, ◌≢◌, ◌∷◌, ◌++◌, ◌∙◌, Bool, true, false, cond, List, [], refl, sym, ap, subst, append_assoc}
use Rattle.std.specs.Prelude.{fold}
use Rattle.std.specs.Ordering.{is_lt, ordering_reverse}
use Rattle.std.specs.declared.cmp.Ordering.{Ordering}
use Rattle.std.specs.declared.cmp.Ordering.TheVariants.{Less, Equal, Greater}
use Rattle.std.proofs.lemmas.Cmp.{tied_itself}
use Rattle.std.proofs.lemmas.List.{append-nil}
use Rattle.std.proofs.lemmas.List.Elements.{All-contains, All-nil, All-push, All-weaker, Contains-append_left, Contains-push}
use Rattle.snx_epoch.specs.Moments.{epoch_cmp}
use Rattle.snx_epoch.specs.declared.Epoch.{Epoch}
use Rattle.snx_epoch.specs.declared.Epoch.TheVariants.{Never, At}
use Rattle.site_merge.specs.Merged.{IsEarliest, IsLatest, earlier, later}
use Rattle.site_merge.proofs.NameOrders.{epoch_total, epoch_exact}

not_less : (o : Ordering) → is_lt o ≡ false → o ≢ Less
not_less o e less = let f : true ≡ false = ap is_lt (sym less) ∙ e in cc

is_less : (o : Ordering) → is_lt o ≡ true → o ≡ Less
is_less Less e = refl
is_less Equal e = let f : false ≡ true = e in cc
is_less Greater e = let f : false ≡ true = e in cc

not_below_itself : (m : Epoch) → epoch_cmp m m ≢ Less
not_below_itself m less = let e : Less ≡ Equal = sym less ∙ tied_itself epoch_total m in cc

-- two moments of which neither is below the other are one
neither_below : (a b : Epoch) → epoch_cmp a b ≢ Less → epoch_cmp b a ≢ Less → a ≡ b
neither_below a b above below = by_order (epoch_cmp a b) refl
  where
    by_order : (o : Ordering) → epoch_cmp a b ≡ o → a ≡ b
    by_order Less e = absurd (above e)
    by_order Equal e = epoch_exact a b e
    by_order Greater e = absurd (below (epoch_total.antisymm b a ∙ ap ordering_reverse e))

-- ---- the least
module _ (moments : List Epoch) where
  pub earliest_more : (m x : Epoch) → IsEarliest moments m → IsEarliest (moments ++ x ∷ []) (earlier m x)
  earliest_more Never Never h = All-push (λ other. other ≡ Never) moments Never h refl
  earliest_more Never (At e t) h = (
    Contains-push moments (At e t),
    All-push (λ other. other ≢ Never → epoch_cmp other (At e t) ≢ Less) moments (At e t)
        (All-weaker (λ other. other ≡ Never) (λ other. other ≢ Never → epoch_cmp other (At e t) ≢ Less) (λ other never some. absurd (some never)) moments h) (λ some. not_below_itself (At e t)),
  )
  earliest_more (At d s) Never h = (
    Contains-append_left moments (Never ∷ []) (At d s) h.0,
    All-push (λ other. other ≢ Never → epoch_cmp other (At d s) ≢ Less) moments Never h.1 (λ some. absurd (some refl)),
  )
  earliest_more (At d s) (At e t) h = by_test (is_lt (epoch_cmp (At e t) (At d s))) refl
    where
      by_test : (b : Bool) → is_lt (epoch_cmp (At e t) (At d s)) ≡ b → IsEarliest (moments ++ At e t ∷ []) (cond b (At e t) (At d s))
      by_test true less = (
        Contains-push moments (At e t),
        All-push (λ other. other ≢ Never → epoch_cmp other (At e t) ≢ Less) moments (At e t)
            (All-weaker (λ other. other ≢ Never → epoch_cmp other (At d s) ≢ Less) (λ other. other ≢ Never → epoch_cmp other (At e t) ≢ Less)
            (λ other above some below. above some (epoch_total.trans other (At e t) (At d s) below (is_less _ less))) moments h.1) (λ some. not_below_itself (At e t)),
      )
      by_test false above = (
        Contains-append_left moments (At e t ∷ []) (At d s) h.0,
        All-push (λ other. other ≢ Never → epoch_cmp other (At d s) ≢ Less) moments (At e t) h.1 (λ some. not_less _ above),
      )

  pub one_earliest : (m n : Epoch) → IsEarliest moments m → IsEarliest moments n → m ≡ n
  one_earliest Never Never a b = refl
  one_earliest Never (At e t) a b = sym (All-contains (λ other. other ≡ Never) moments (At e t) a b.0)
  one_earliest (At d s) Never a b = All-contains (λ other. other ≡ Never) moments (At d s) b a.0
  one_earliest (At d s) (At e t) a b =
      neither_below (At d s) (At e t)
      (All-contains (λ other. other ≢ Never → epoch_cmp other (At e t) ≢ Less) moments (At d s) b.1 a.0 (λ never. cc))
      (All-contains (λ other. other ≢ Never → epoch_cmp other (At d s) ≢ Less) moments (At e t) a.1 b.0 (λ never. cc))

-- the least of a list, moment by moment
pub earliest_after : (before moments : List Epoch) (m : Epoch) → IsEarliest before m → IsEarliest (before ++ moments) (fold earlier m moments)
earliest_after before [] m h = subst (λ l. IsEarliest l m) (sym (append-nil before)) h
earliest_after before (x ∷ moments) m h = subst (λ l. IsEarliest l (fold earlier (earlier m x) moments)) (append_assoc before (x ∷ []) moments) (earliest_after (before ++ x ∷ []) moments (earlier m x) (earliest_more before m x h))

pub earliest_of : (moments : List Epoch) → IsEarliest moments (fold earlier Never moments)
earliest_of moments = earliest_after [] moments Never (All-nil (λ other. other ≡ Never))

-- ---- the greatest
pub later_never : (x : Epoch) → later Never x ≡ x
later_never Never = refl
later_never (At e t) = refl

module _ (moments : List Epoch) where
  pub latest_more : (m x : Epoch) → IsLatest moments m → IsLatest (moments ++ x ∷ []) (later m x)
  latest_more Never Never h = All-push (λ other. other ≡ Never) moments Never h refl
  latest_more Never (At e t) h = (
    Contains-push moments (At e t),
    All-push (λ other. epoch_cmp (At e t) other ≢ Less) moments (At e t)
        (All-weaker (λ other. other ≡ Never) (λ other. epoch_cmp (At e t) other ≢ Less) (λ other never. subst (λ z. epoch_cmp (At e t) z ≢ Less) (sym never) (λ less. let f : Greater ≡ Less = less in cc)) moments h) (not_below_itself (At e t)),
  )
  latest_more (At d s) Never h = (
    Contains-append_left moments (Never ∷ []) (At d s) h.0,
    All-push (λ other. epoch_cmp (At d s) other ≢ Less) moments Never h.1 (λ less. let f : Greater ≡ Less = less in cc),
  )
  latest_more (At d s) (At e t) h = by_test (is_lt (epoch_cmp (At d s) (At e t))) refl
    where
      by_test : (b : Bool) → is_lt (epoch_cmp (At d s) (At e t)) ≡ b → IsLatest (moments ++ At e t ∷ []) (cond b (At e t) (At d s))
      by_test true less = (
        Contains-push moments (At e t),
        All-push (λ other. epoch_cmp (At e t) other ≢ Less) moments (At e t)
            (All-weaker (λ other. epoch_cmp (At d s) other ≢ Less) (λ other. epoch_cmp (At e t) other ≢ Less)
            (λ other below above. below (epoch_total.trans (At d s) (At e t) other (is_less _ less) above)) moments h.1) (not_below_itself (At e t)),
      )
      by_test false above = (
        Contains-append_left moments (At e t ∷ []) (At d s) h.0,
        All-push (λ other. epoch_cmp (At d s) other ≢ Less) moments (At e t) h.1 (not_less _ above),
      )

  pub one_latest : (m n : Epoch) → IsLatest moments m → IsLatest moments n → m ≡ n
  one_latest Never Never a b = refl
  one_latest Never (At e t) a b = sym (All-contains (λ other. other ≡ Never) moments (At e t) a b.0)
  one_latest (At d s) Never a b = All-contains (λ other. other ≡ Never) moments (At d s) b a.0
  one_latest (At d s) (At e t) a b =
      neither_below (At d s) (At e t) (All-contains (λ other. epoch_cmp (At d s) other ≢ Less) moments (At e t) a.1 b.0)
      (All-contains (λ other. epoch_cmp (At e t) other ≢ Less) moments (At d s) b.1 a.0)

pub latest_after : (before moments : List Epoch) (m : Epoch) → IsLatest before m → IsLatest (before ++ moments) (fold later m moments)
latest_after before [] m h = subst (λ l. IsLatest l m) (sym (append-nil before)) h
latest_after before (x ∷ moments) m h = subst (λ l. IsLatest l (fold later (later m x) moments)) (append_assoc before (x ∷ []) moments) (latest_after (before ++ x ∷ []) moments (later m x) (latest_more before m x h))

pub latest_of : (moments : List Epoch) → IsLatest moments (fold later Never moments)
latest_of moments = latest_after [] moments Never (All-nil (λ other. other ≡ Never))
