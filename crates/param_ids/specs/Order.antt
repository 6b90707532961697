-- The order of names, and lists of names in it.
use Rattle.std.specs.Prelude.{◌≤◌, Bool, List, length}
use Rattle.std.specs.List.Sorted.{IsStrictlySortedBy}
use Rattle.std.specs.Ordering.{nat_cmp, ordering_then, is_eq}
use Rattle.std.specs.Cmp.Lexicographic.{slice_cmp}
use Rattle.std.specs.declared.cmp.Ordering.{Ordering}
use Rattle.snx_epoch.specs.Moments.{epoch_cmp}
use Rattle.param_ids.specs.Plain.{PlainId}

-- names go by type, code, point, solution and moment, texts by their bytes
abbrev pub id_cmp : PlainId → PlainId → Ordering
id_cmp a b =
    ordering_then (slice_cmp nat_cmp a.kind b.kind)
    (ordering_then (slice_cmp nat_cmp a.code b.code)
    (ordering_then (slice_cmp nat_cmp a.point b.point)
    (ordering_then (slice_cmp nat_cmp a.soln b.soln)
    (epoch_cmp a.epoch b.epoch))))

-- whether neither of two names stands below the other: then they are one name (`same_id` in `proofs/SameIds.antt`)
abbrev pub is_same_id : PlainId → PlainId → Bool
is_same_id a b = is_eq (id_cmp a b)

-- each name stands below those after it, so none stands twice
abbrev pub IsRising : List PlainId → Type 0
IsRising ids = IsStrictlySortedBy id_cmp ids

-- names in order, none twice, at most 1,000 of them
abbrev pub IsNames : List PlainId → Type 0
IsNames ids = IsRising ids × (length ids ≤ 1000)
