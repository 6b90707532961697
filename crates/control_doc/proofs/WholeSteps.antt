-- The whole control, up to the first part that is refused.
use Rattle.std.proofs.Common.{Option, Result, Ok, Err, Vec, Global, map, refl, option_map}
use Rattle.toml.specs.Data.{Members}
use Rattle.param_ids.specs.Tables.{ScaleMap}
use Rattle.control_doc.specs.Control.{Is, IsControlOf, parts_in, output_in, run_in, ArePlans, IsDatum, AreReductions, scales_in, reference_in, known_from}
use Rattle.control_doc.specs.Views.{Answers, control_view, plan_view, datum_view, reduction_view}
use Rattle.control_doc.specs.Pieces.{parts_view, header_view, run_view}
use Rattle.control_doc.specs.declared.faults.ControlError.{ControlError}
use Rattle.control_doc.specs.declared.output.Header.{Header}
use Rattle.control_doc.specs.declared.parts.RunPlan.{RunPlan}
use Rattle.control_doc.specs.declared.parts.TopParts.{TopParts}
use Rattle.control_doc.specs.declared.plans.Control.{Control}
use Rattle.control_doc.specs.declared.plans.Datum.{Datum}
use Rattle.control_doc.specs.declared.plans.FilePlan.{FilePlan}
use Rattle.control_doc.specs.declared.plans.Reduction.{Reduction}
use Rattle.control_doc.proofs.Chain.{goes_on, stops}

abbrev pub Whole : Members → Result Control ControlError → Type 0
Whole top = Answers control_view (IsControlOf top)

module _ (top : Members) where
  pub no_parts : (e : ControlError) → Answers parts_view (Is (parts_in top)) (let r : Result (TopParts) ControlError = Err e in r) → Whole top (Err e)
  no_parts e h = stops parts_view control_view (Is (parts_in top)) _ e h

  module _ (parts : TopParts) (has_parts : Answers parts_view (Is (parts_in top)) (let r : Result (TopParts) ControlError = Ok parts in r)) where
    pub no_header : (e : ControlError) → Answers header_view (Is (output_in (parts_view parts).output)) (let r : Result (Header) ControlError = Err e in r) → Whole top (Err e)
    no_header e h = goes_on parts_view control_view (Is (parts_in top)) _ parts (Err e) has_parts (stops header_view control_view (Is (output_in (parts_view parts).output)) _ e h)

    module _ (header : Header) (has_header : Answers header_view (Is (output_in (parts_view parts).output)) (let r : Result (Header) ControlError = Ok header in r)) where
      pub no_run : (e : ControlError) → Answers run_view (Is (run_in (parts_view parts).run)) (let r : Result (RunPlan) ControlError = Err e in r) → Whole top (Err e)
      no_run e h = goes_on parts_view control_view (Is (parts_in top)) _ parts (Err e) has_parts (goes_on header_view control_view (Is (output_in (parts_view parts).output)) _ header (Err e) has_header (stops run_view control_view (Is (run_in (parts_view parts).run)) _ e h))

      module _ (run : RunPlan) (has_run : Answers run_view (Is (run_in (parts_view parts).run)) (let r : Result (RunPlan) ControlError = Ok run in r)) where
        pub no_files : (e : ControlError) → Answers (λ (v : Vec FilePlan Global). map plan_view v.items) (ArePlans (parts_view parts).files) (let r : Result (Vec FilePlan Global) ControlError = Err e in r) → Whole top (Err e)
        no_files e h = goes_on parts_view control_view (Is (parts_in top)) _ parts (Err e) has_parts (goes_on header_view control_view (Is (output_in (parts_view parts).output)) _ header (Err e) has_header (goes_on run_view control_view (Is (run_in (parts_view parts).run)) _ run (Err e) has_run (stops (λ (v : Vec FilePlan Global). map plan_view v.items) control_view (ArePlans (parts_view parts).files) _ e h)))

        module _ (files : Vec FilePlan Global) (has_files : Answers (λ (v : Vec FilePlan Global). map plan_view v.items) (ArePlans (parts_view parts).files) (let r : Result (Vec FilePlan Global) ControlError = Ok files in r)) where
          pub no_datum : (e : ControlError) → Answers (option_map datum_view) (IsDatum (parts_view parts).datum) (let r : Result (Option Datum) ControlError = Err e in r) → Whole top (Err e)
          no_datum e h = goes_on parts_view control_view (Is (parts_in top)) _ parts (Err e) has_parts (goes_on header_view control_view (Is (output_in (parts_view parts).output)) _ header (Err e) has_header (goes_on run_view control_view (Is (run_in (parts_view parts).run)) _ run (Err e) has_run (goes_on (λ (v : Vec FilePlan Global). map plan_view v.items) control_view (ArePlans (parts_view parts).files) _ files (Err e) has_files (stops (option_map datum_view) control_view (IsDatum (parts_view parts).datum) _ e h))))

          module _ (datum : Option Datum) (has_datum : Answers (option_map datum_view) (IsDatum (parts_view parts).datum) (let r : Result (Option Datum) ControlError = Ok datum in r)) where
            pub no_reductions : (e : ControlError) → Answers (λ (v : Vec Reduction Global). map reduction_view v.items) (AreReductions (parts_view parts).reductions) (let r : Result (Vec Reduction Global) ControlError = Err e in r) → Whole top (Err e)
            no_reductions e h = goes_on parts_view control_view (Is (parts_in top)) _ parts (Err e) has_parts (goes_on header_view control_view (Is (output_in (parts_view parts).output)) _ header (Err e) has_header (goes_on run_view control_view (Is (run_in (parts_view parts).run)) _ run (Err e) has_run (goes_on (λ (v : Vec FilePlan Global). map plan_view v.items) control_view (ArePlans (parts_view parts).files) _ files (Err e) has_files (goes_on (option_map datum_view) control_view (IsDatum (parts_view parts).datum) _ datum (Err e) has_datum (stops (λ (v : Vec Reduction Global). map reduction_view v.items) control_view (AreReductions (parts_view parts).reductions) _ e h)))))

            module _ (reductions : Vec Reduction Global) (has_reductions : Answers (λ (v : Vec Reduction Global). map reduction_view v.items) (AreReductions (parts_view parts).reductions) (let r : Result (Vec Reduction Global) ControlError = Ok reductions in r)) where
              pub no_scales : (e : ControlError) → Answers (λ (x : ScaleMap). x) (Is (scales_in (parts_view parts).scale)) (let r : Result (ScaleMap) ControlError = Err e in r) → Whole top (Err e)
              no_scales e h = goes_on parts_view control_view (Is (parts_in top)) _ parts (Err e) has_parts (goes_on header_view control_view (Is (output_in (parts_view parts).output)) _ header (Err e) has_header (goes_on run_view control_view (Is (run_in (parts_view parts).run)) _ run (Err e) has_run (goes_on (λ (v : Vec FilePlan Global). map plan_view v.items) control_view (ArePlans (parts_view parts).files) _ files (Err e) has_files (goes_on (option_map datum_view) control_view (IsDatum (parts_view parts).datum) _ datum (Err e) has_datum (goes_on (λ (v : Vec Reduction Global). map reduction_view v.items) control_view (AreReductions (parts_view parts).reductions) _ reductions (Err e) has_reductions (stops (λ (x : ScaleMap). x) control_view (Is (scales_in (parts_view parts).scale)) _ e h))))))

              module _ (scales : ScaleMap) (has_scales : Answers (λ (x : ScaleMap). x) (Is (scales_in (parts_view parts).scale)) (let r : Result (ScaleMap) ControlError = Ok scales in r)) where
                pub no_reference : (e : ControlError) → Answers (λ (x : Unit {0}). x) (Is (reference_in (map plan_view files.items) (parts_view parts).run)) (let r : Result (Unit {0}) ControlError = Err e in r) → Whole top (Err e)
                no_reference e h = goes_on parts_view control_view (Is (parts_in top)) _ parts (Err e) has_parts (goes_on header_view control_view (Is (output_in (parts_view parts).output)) _ header (Err e) has_header (goes_on run_view control_view (Is (run_in (parts_view parts).run)) _ run (Err e) has_run (goes_on (λ (v : Vec FilePlan Global). map plan_view v.items) control_view (ArePlans (parts_view parts).files) _ files (Err e) has_files (goes_on (option_map datum_view) control_view (IsDatum (parts_view parts).datum) _ datum (Err e) has_datum (goes_on (λ (v : Vec Reduction Global). map reduction_view v.items) control_view (AreReductions (parts_view parts).reductions) _ reductions (Err e) has_reductions (goes_on (λ (x : ScaleMap). x) control_view (Is (scales_in (parts_view parts).scale)) _ scales (Err e) has_scales (stops (λ (x : Unit {0}). x) control_view (Is (reference_in (map plan_view files.items) (parts_view parts).run)) _ e h)))))))

                module _ (referred : Unit {0}) (has_referred : Answers (λ (x : Unit {0}). x) (Is (reference_in (map plan_view files.items) (parts_view parts).run)) (let r : Result (Unit {0}) ControlError = Ok referred in r)) where
                  pub no_known : (e : ControlError) → Answers (λ (x : Unit {0}). x) (Is (known_from 0 (map plan_view files.items) (map reduction_view reductions.items))) (let r : Result (Unit {0}) ControlError = Err e in r) → Whole top (Err e)
                  no_known e h = goes_on parts_view control_view (Is (parts_in top)) _ parts (Err e) has_parts (goes_on header_view control_view (Is (output_in (parts_view parts).output)) _ header (Err e) has_header (goes_on run_view control_view (Is (run_in (parts_view parts).run)) _ run (Err e) has_run (goes_on (λ (v : Vec FilePlan Global). map plan_view v.items) control_view (ArePlans (parts_view parts).files) _ files (Err e) has_files (goes_on (option_map datum_view) control_view (IsDatum (parts_view parts).datum) _ datum (Err e) has_datum (goes_on (λ (v : Vec Reduction Global). map reduction_view v.items) control_view (AreReductions (parts_view parts).reductions) _ reductions (Err e) has_reductions (goes_on (λ (x : ScaleMap). x) control_view (Is (scales_in (parts_view parts).scale)) _ scales (Err e) has_scales (goes_on (λ (x : Unit {0}). x) control_view (Is (reference_in (map plan_view files.items) (parts_view parts).run)) _ referred (Err e) has_referred (stops (λ (x : Unit {0}). x) control_view (Is (known_from 0 (map plan_view files.items) (map reduction_view reductions.items))) _ e h))))))))

                  pub whole_control : (known : Unit {0}) → Answers (λ (x : Unit {0}). x) (Is (known_from 0 (map plan_view files.items) (map reduction_view reductions.items))) (let r : Result (Unit {0}) ControlError = Ok known in r) → Whole top (Ok (record { agency = header.agency; created = header.created; technique = header.technique; content = header.content; description = header.description; output = header.output; contact = header.contact; reference = run.reference; workers = run.workers; files = files; datum = datum; reductions = reductions; scales = scales }))
                  whole_control known has_known = goes_on parts_view control_view (Is (parts_in top)) _ parts (Ok (record { agency = header.agency; created = header.created; technique = header.technique; content = header.content; description = header.description; output = header.output; contact = header.contact; reference = run.reference; workers = run.workers; files = files; datum = datum; reductions = reductions; scales = scales })) has_parts (goes_on header_view control_view (Is (output_in (parts_view parts).output)) _ header (Ok (record { agency = header.agency; created = header.created; technique = header.technique; content = header.content; description = header.description; output = header.output; contact = header.contact; reference = run.reference; workers = run.workers; files = files; datum = datum; reductions = reductions; scales = scales })) has_header (goes_on run_view control_view (Is (run_in (parts_view parts).run)) _ run (Ok (record { agency = header.agency; created = header.created; technique = header.technique; content = header.content; description = header.description; output = header.output; contact = header.contact; reference = run.reference; workers = run.workers; files = files; datum = datum; reductions = reductions; scales = scales })) has_run (goes_on (λ (v : Vec FilePlan Global). map plan_view v.items) control_view (ArePlans (parts_view parts).files) _ files (Ok (record { agency = header.agency; created = header.created; technique = header.technique; content = header.content; description = header.description; output = header.output; contact = header.contact; reference = run.reference; workers = run.workers; files = files; datum = datum; reductions = reductions; scales = scales })) has_files (goes_on (option_map datum_view) control_view (IsDatum (parts_view parts).datum) _ datum (Ok (record { agency = header.agency; created = header.created; technique = header.technique; content = header.content; description = header.description; output = header.output; contact = header.contact; reference = run.reference; workers = run.workers; files = files; datum = datum; reductions = reductions; scales = scales })) has_datum (goes_on (λ (v : Vec Reduction Global). map reduction_view v.items) control_view (AreReductions (parts_view parts).reductions) _ reductions (Ok (record { agency = header.agency; created = header.created; technique = header.technique; content = header.content; description = header.description; output = header.output; contact = header.contact; reference = run.reference; workers = run.workers; files = files; datum = datum; reductions = reductions; scales = scales })) has_reductions (goes_on (λ (x : ScaleMap). x) control_view (Is (scales_in (parts_view parts).scale)) _ scales (Ok (record { agency = header.agency; created = header.created; technique = header.technique; content = header.content; description = header.description; output = header.output; contact = header.contact; reference = run.reference; workers = run.workers; files = files; datum = datum; reductions = reductions; scales = scales })) has_scales (goes_on (λ (x : Unit {0}). x) control_view (Is (reference_in (map plan_view files.items) (parts_view parts).run)) _ referred (Ok (record { agency = header.agency; created = header.created; technique = header.technique; content = header.content; description = header.description; output = header.output; contact = header.contact; reference = run.reference; workers = run.workers; files = files; datum = datum; reductions = reductions; scales = scales })) has_referred (goes_on (λ (x : Unit {0}). x) control_view (Is (known_from 0 (map plan_view files.items) (map reduction_view reductions.items))) _ known (Ok (record { agency = header.agency; created = header.created; technique = header.technique; content = header.content; description = header.description; output = header.output; contact = header.contact; reference = run.reference; workers = run.workers; files = files; datum = datum; reductions = reductions; scales = scales })) has_known (refl)))))))))
