use Rattle.std.proofs.Common.{◌*◌, ◌^◌, ◌∙◌, None, Some, length, sym, ap, subst, arith}
use Rattle.std.specs.List.{find}
use Rattle.std.specs.Prelude.{not}
use Rattle.control_doc.specs.Views.{datum_view}
use Rattle.neq_stack.specs.Neqs.{neq_view}
use Rattle.datum_rows.specs.Sites.{is_matched}
use Rattle.datum_rows.specs.Rows.{AreLaidOut, AreTested, AreFitting, AreFine, AreAllAdded}
use Rattle.datum_rows.specs.Views.{AreCoordinates}
use Rattle.datum_rows.proofs.AdditionLaws.{fine_list, few_list, laid_out, table_at_most, tested_fits, does_not_fit, is_added, sound_addition, modest_addition, at_lists}
use Rattle.datum_rows.proofs.add_datum.Goals as goal

pub first_misfit-requires-clause-sigmas : goal.first_misfit-requires-clause-sigmas
first_misfit-requires-clause-sigmas g c = subst AreFine (sym c.deref-5.ensures.value) (fine_list (datum_view c.args.datum.now) c.in-Ok-conditions.conditions.items c.in-Ok-conditions.ensures c.requires.positive)

pub returns-in-Some-first_misfit-clause-refused : goal.returns-in-Some-first_misfit-clause-refused
returns-in-Some-first_misfit-clause-refused g c =
    let datum = datum_view c.args.datum.now in
    let neq = neq_view c.args.neq.now in
    let coordinates = c.in-Ok.coordinates.items in
    let list = c.in-Ok-conditions.conditions.items in
    let none = c.in_default.ensures ∙ ap (find (λ site. not (is_matched neq.names site))) c.deref.ensures.value in
    let are = subst (λ sites. AreCoordinates sites neq coordinates) c.deref-2.ensures.value c.in-Ok.ensures in
    does_not_fit datum neq coordinates list none are c.in-Ok-conditions.ensures c.requires.sound c.in-Some-first_misfit.place
    (at_lists (λ a b l. AreTested a b l (Some c.in-Some-first_misfit.place)) _ coordinates _ neq.scales _ list c.deref-3.ensures.value c.deref-4.ensures.value c.deref-5.ensures.value c.in-Some-first_misfit.ensures)

pub add_all-requires : goal.add_all-requires
add_all-requires g c =
    let datum = datum_view c.args.datum.now in
    let neq = neq_view c.args.neq.now in
    let coordinates = c.in-Ok.coordinates.items in
    let list = c.in-Ok-conditions.conditions.items in
    let are = subst (λ sites. AreCoordinates sites neq coordinates) c.deref-2.ensures.value c.in-Ok.ensures in
    let few = few_list datum list c.in-Ok-conditions.ensures in
    let same = ap (λ l. length l) c.deref-8.ensures.value in
    let tested = at_lists (λ a b l. AreTested a b l None) _ coordinates _ neq.scales _ list c.deref-3.ensures.value c.deref-4.ensures.value c.deref-5.ensures.value c.in_default-first_misfit.ensures in (
      omega arith,
      (
        at_lists (λ a b l. AreLaidOut a b) coordinates _ neq.scales _ list _ (sym c.deref-6.ensures.value) (sym c.deref-7.ensures.value) (sym c.deref-8.ensures.value) (laid_out datum.sites neq coordinates are c.requires.sound),
        (
          subst AreFine (sym c.deref-8.ensures.value) (fine_list datum list c.in-Ok-conditions.ensures c.requires.positive),
          (
            c.requires.sound.rows ∙ sym are.count ∙ ap (λ l. length l) (sym c.deref-6.ensures.value),
            (
              c.requires.sound.entries,
              (
                at_lists AreFitting coordinates _ neq.scales _ list _ (sym c.deref-6.ensures.value) (sym c.deref-7.ensures.value) (sym c.deref-8.ensures.value) (tested_fits coordinates neq.scales list tested),
                (64 * 10 ^ 36, table_at_most (64 * 10 ^ 36) neq c.requires.sound c.requires.modest, omega arith),
              ),
            ),
          ),
        ),
      ),
    )

pub returns-clause-added : goal.returns-clause-added
returns-clause-added g c =
    let datum = datum_view c.args.datum.now in
    let neq = neq_view c.args.neq.now in
    let coordinates = c.in-Ok.coordinates.items in
    let list = c.in-Ok-conditions.conditions.items in
    let none = c.in_default.ensures ∙ ap (find (λ site. not (is_matched neq.names site))) c.deref.ensures.value in
    let are = subst (λ sites. AreCoordinates sites neq coordinates) c.deref-2.ensures.value c.in-Ok.ensures in
    is_added datum neq coordinates list none are c.in-Ok-conditions.ensures c.requires.sound c.add_all.new.table
    (at_lists (λ a b l. AreTested a b l None) _ coordinates _ neq.scales _ list c.deref-3.ensures.value c.deref-4.ensures.value c.deref-5.ensures.value c.in_default-first_misfit.ensures)
    (at_lists (λ a b l. AreAllAdded a b l neq.table c.add_all.new.table) _ coordinates _ neq.scales _ list c.deref-6.ensures.value c.deref-7.ensures.value c.deref-8.ensures.value c.add_all.ensures)

pub returns-clause-sound : goal.returns-clause-sound
returns-clause-sound g c = sound_addition (datum_view c.args.datum.now) (neq_view c.args.neq.now) _ (returns-clause-added g c) c.requires.sound

pub returns-clause-modest : goal.returns-clause-modest
returns-clause-modest g c = λ most small. modest_addition (datum_view c.args.datum.now) (neq_view c.args.neq.now) _ most (returns-clause-added g c) small
