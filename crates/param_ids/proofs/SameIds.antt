-- Names as keys: the test of two names holds exactly where they are equal.
use Rattle.std.proofs.Common.{◌≡◌, true, ap, subst}
use Rattle.std.specs.Prelude.{◌↔◌}
use Rattle.std.specs.Ordering.{is_eq}
use Rattle.std.proofs.lemmas.Cmp.{tied_itself}
use Rattle.std.proofs.lemmas.Map.Views.{tells_apart}
use Rattle.param_ids.specs.Plain.{PlainId}
use Rattle.param_ids.specs.Order.{is_same_id}
use Rattle.param_ids.proofs.Ordered.{id_total, id_exact}

pub itself : (id : PlainId) → is_same_id id id ≡ true
itself id = ap is_eq (tied_itself id_total id)

pub same_id : (a b : PlainId) → (is_same_id a b ≡ true) ↔ (a ≡ b)
same_id a b = (λ test. tells_apart id_exact a b test, λ same. subst (λ id. is_same_id a id ≡ true) same (itself a))
