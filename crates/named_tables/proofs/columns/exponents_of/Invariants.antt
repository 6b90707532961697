use Rattle.std.proofs.Common.{◌≡◌, All, map, take}
use Rattle.param_ids.specs.Tables.{IsScale}
use Rattle.named_tables.specs.Weighted.{scale_of}
use Rattle.named_tables.proofs.columns.exponents_of.Given as goal

abbrev pub invariant-loop-place : goal.invariant-loop-place
invariant-loop-place l = record {
  values : l.exponents.items ≡ map (scale_of l.scales) (take l.place l.names);
  scaled : All IsScale l.exponents.items;
}
