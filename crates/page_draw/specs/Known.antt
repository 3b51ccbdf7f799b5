-- The lacks that a page has are those whose faults are found.
use Rattle.std.specs.Prelude.{◌≡◌, List}
use Rattle.std.specs.Arc.{arc_value}
use Rattle.std.specs.BTreeSet.{BTreeSet, contains}
use Rattle.std.specs.Cmp.Lexicographic.{slice_cmp}
use Rattle.std.specs.Ordering.{int_cmp, nat_cmp, ordering_then}
use Rattle.std.specs.declared.cmp.Ordering.{Ordering}
use Rattle.outside.specs.declared.keys.FontKey.{FontKey}
use Rattle.vf_expand.specs.Faults.{PageFaultValue}
use Rattle.vf_expand.specs.declared.lack.Lack.{Lack}
use Rattle.page_draw.specs.Lacks.{Names, is_known, values_of}
use Rattle.page_draw.specs.declared.lacks.Missing.{Missing}

abbrev pub key_cmp : FontKey → FontKey → Ordering
key_cmp a b = ordering_then (nat_cmp a.area b.area) (ordering_then (slice_cmp nat_cmp a.name b.name)
    (ordering_then (nat_cmp a.size b.size) (nat_cmp a.design b.design)))

abbrev pub missing_cmp : Missing → Missing → Ordering
missing_cmp m n = ordering_then (nat_cmp m.kind n.kind)
    (ordering_then (int_cmp m.code n.code) (key_cmp (arc_value m.font) (arc_value n.font)))

abbrev pub AreKnown : List Lack → BTreeSet Missing → Type 0
AreKnown lacks known = (f : PageFaultValue) (m : Missing) → Names m f
    → contains missing_cmp known m ≡ is_known (values_of lacks) f
