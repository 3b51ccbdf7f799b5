-- A desk with a cache of its own, as its calls see it.
use Rattle.std.specs.Prelude.{◌≡◌, ℕ, ◌-◌, ◌/◌, ◌^◌, List, Option, Some, None}
use Rattle.outside.specs.Library.{FileTable}
use Rattle.outside.specs.declared.keys.FontKey.{FontKey}
use Rattle.pixel_round.specs.declared.units.Units.{Units}
use Rattle.cache_core.specs.declared.common.Common.{Common}
use Rattle.cache_core.specs.declared.limits.Limits.{Limits}
use Rattle.cache_core.specs.Machine.{claim_of}
use Rattle.cache_core.specs.Histories.{AreOf, looks}
use Rattle.cache_core.specs.States.{Cache, StateStands}
use Rattle.pixel_round.specs.Preamble.{AreUnits}
use Rattle.font_decode.specs.Decoding.{IsFontOf}
use Rattle.font_decode.specs.Desks.{Trail}
use Rattle.font_decode.specs.Weights.{weight_of}
use Rattle.font_decode.specs.declared.font_or_fault.Decoded.{Decoded}

pub record SoloView (F : Type 0) : Type 0 where
  pub source : F
  pub units : Units
  pub cache : Cache Decoded

-- a font stands for its key
abbrev pub stands_for_key : Decoded → FontKey → Common → Type 0
stands_for_key font k part = IsFontOf part.library (Some part.units) k font

abbrev pub common_part : Option FileTable → Units → Limits → Common
common_part library units limits =
    record {
      capacity = limits.capacity;
      budget = limits.budget;
      units = units;
      library = library;
    }

-- the cache has one seat, with number 1, which holds no claim, and each font there is its key's
pub record IsAlone (library : Option FileTable) (u : Units) (c : Cache Decoded) : Type 0 where
  pub units : AreUnits u
  pub free : claim_of 1 c.claims ≡ None
  pub own : AreOf 1 c.history
  pub stands : StateStands stands_for_key weight_of c (common_part library u c.limits)

-- ---- what is known

abbrev pub asked_by : Cache Decoded → Option (List FontKey)
asked_by c = Some (looks c.history)

-- the loads of its source are those that it counts
abbrev pub trail_by : Option FileTable → Units → ℕ → Cache Decoded → Option Trail
trail_by library u loads c =
    Some (record {
      seat = 1;
      part = common_part library u c.limits;
      calls = c.history;
      loads = loads;
      counted = loads;
    })

-- how many look-ups there is room for: each takes three turns at most
abbrev pub room_by : ℕ → ℕ
room_by turns = (2 ^ 62 - turns) / 3
