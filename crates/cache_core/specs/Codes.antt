-- How the logic stores a common part.
use Rattle.std.specs.Prelude.{ℕ, Option, refl}
use Rattle.std.specs.Coded.{Coded, code_by, coded×, coded_ℕ, coded_list, coded_option}
use Rattle.std.specs.FinMap as map
use Rattle.outside.specs.Library.{FileTable}
use Rattle.pixel_round.specs.declared.units.Units.{Units}
use Rattle.cache_core.specs.declared.common.Common.{Common}

abbrev pub files_code : Coded FileTable
files_code = map.code (coded_list coded_ℕ) (coded_list coded_ℕ)

abbrev pub units_code : Coded Units
units_code =
    code_by (ℕ × (ℕ × (ℕ × ℕ))) (coded× coded_ℕ (coded× coded_ℕ (coded× coded_ℕ coded_ℕ)))
    (λ u. (u.num, (u.den, (u.mag, u.res))))
    (λ p. record { num = p.0; den = p.1.0; mag = p.1.1.0; res = p.1.1.1 }) (λ _. refl)

abbrev pub common_code : Coded Common
common_code =
    code_by (ℕ × (ℕ × (Units × Option FileTable)))
    (coded× coded_ℕ (coded× coded_ℕ (coded× units_code (coded_option files_code))))
    (λ c. (c.capacity, (c.budget, (c.units, c.library))))
    (λ p. record { capacity = p.0; budget = p.1.0; units = p.1.1.0; library = p.1.1.1 }) (λ _. refl)
