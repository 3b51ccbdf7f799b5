-- Local fonts found by their numbers.
use Rattle.std.specs.Prelude.{◌≡◌, ℕ, suc, ℤ, List, [], ◌∷◌, if◌then◌else◌, Option, Some, None}
use Rattle.std.specs.Map.{lookup}
use Rattle.std.specs.Option.{option_map}
use Rattle.std.specs.Ordering.{int_cmp, is_eq}
use Rattle.big_endian.specs.Numbers.{int_eq}
use Rattle.vf_reader.specs.declared.locals.LocalDef.{LocalDef}

-- the place of the first with a number
abbrev pub place_of : List LocalDef → ℤ → Option ℕ
place_of [] k = None
place_of (d ∷ locals) k = if int_eq d.number k then Some 0 else option_map suc (place_of locals k)

-- the place that entries have for a number
abbrev pub place_at : List (ℤ × ℕ) → ℤ → Option ℕ
place_at entries k = lookup (λ x. is_eq (int_cmp k x)) entries

-- the entries determine each number's place
abbrev pub ArePlaces : List (ℤ × ℕ) → List LocalDef → Type 0
ArePlaces entries locals = (k : ℤ) → place_at entries k ≡ place_of locals k
