-- Fields that are judged as soon as they are whole, from the left. Of no one standard: how this
-- project names the first fault of a file.
use Rattle.std.specs.Prelude.{ℕ, ℤ, Bool, true, List, [], ◌∷◌, take, drop, nat_lt, if◌then◌else◌, Option, Some, None}
use Rattle.big_endian.specs.Numbers.{unsigned_of, signed_of}

-- n bytes from a place on, as a number
abbrev pub unsigned_at : List ℕ → ℕ → ℕ → ℕ
unsigned_at bytes i n = unsigned_of (take n (drop i bytes))

abbrev pub signed_at : List ℕ → ℕ → ℕ → ℤ
signed_at bytes i n = signed_of (take n (drop i bytes))

-- a field that ends before a place: whether it is right, and the fault where it isn't. A field that
-- is only to be there has none.
pub record Field (F : Type 0) : Type 0 where
  pub until : ℕ
  pub right : Bool
  pub fault : Option F

abbrev pub whole_until : {F : Type 0} → ℕ → Field F
whole_until n = record { until = n; right = true; fault = None }

-- the fault of the first field that is wrong, or the one for the first byte that is missing, where
-- there are len bytes
abbrev pub judge : {F : Type 0} → ℕ → F → List (Field F) → Option F
judge len missing [] = None
judge len missing (f ∷ fields) =
    if nat_lt len f.until then Some missing
    else if f.right then judge len missing fields
    else f.fault
