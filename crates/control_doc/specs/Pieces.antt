-- Views of what the parts of the reader hand to each other. They serve private functions alone.
use Rattle.std.specs.Prelude.{map, string_bytes}
use Rattle.std.specs.Option.{option_map}
use Rattle.toml.specs.View.{table_view}
use Rattle.control_doc.specs.Plain.{PlainOutput, PlainRun}
use Rattle.control_doc.specs.Control.{Parts}
use Rattle.control_doc.specs.declared.output.Header.{Header}
use Rattle.control_doc.specs.declared.parts.RunPlan.{RunPlan}
use Rattle.control_doc.specs.declared.parts.TopParts.{TopParts}

abbrev pub header_view : Header → PlainOutput
header_view header = record {
  agency = header.agency;
  created = header.created;
  technique = header.technique;
  content = header.content;
  description = string_bytes header.description;
  output = string_bytes header.output;
  contact = string_bytes header.contact;
}

abbrev pub run_view : RunPlan → PlainRun
run_view run = record { reference = string_bytes run.reference; workers = run.workers }

abbrev pub parts_view : TopParts → Parts
parts_view parts = record {
  output = table_view parts.output.now;
  run = table_view parts.run.now;
  files = map (λ table. table_view table.now) parts.files.items;
  datum = option_map (λ table. table_view table.now) parts.datum;
  reductions = map (λ table. table_view table.now) parts.reductions.items;
  scale = table_view parts.scale.now;
}
