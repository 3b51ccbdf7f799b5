-- Common parts for tests.
use Rattle.std.specs.Prelude.{ℕ, None}
use Rattle.cache_core.specs.declared.common.Common.{Common}

abbrev pub part_of : ℕ → ℕ → Common
part_of capacity budget =
    record {
      capacity = capacity;
      budget = budget;
      units = record { num = 1; den = 1; mag = 1; res = 1 };
      library = None;
    }
