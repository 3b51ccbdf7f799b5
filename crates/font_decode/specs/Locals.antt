-- The keys of a virtual font's local fonts: Knuth, VFtoVP, "Virtual fonts". A local font's size is
-- a factor of the virtual font's, scaled as a width is (DVItype, "Reading the font information"),
-- and its design size is given in points.
use Rattle.std.specs.Prelude.{ℕ, ℤ, pos, Bool, ◌&&◌, List, int_lt, unsigned_abs}
use Rattle.std.specs.List.{list_all}
use Rattle.fix_word.specs.Scale.{scale, tex_units}
use Rattle.outside.specs.declared.keys.FontKey.{FontKey}
use Rattle.pixel_round.specs.declared.units.Units.{Units}
use Rattle.vf_reader.specs.declared.locals.LocalDef.{LocalDef}
use Rattle.outside.specs.Limits.{SIZES}

-- the size and the design size in DVI units, in a virtual font of a size
abbrev pub local_size : ℕ → LocalDef → ℤ
local_size size d = scale (pos d.factor) size

abbrev pub local_design : Units → LocalDef → ℕ
local_design u d = tex_units d.points u.num u.den

-- from 1 to 2^27 - 1
abbrev pub is_size : ℤ → Bool
is_size z = int_lt (pos 0) z && int_lt z (pos SIZES)

abbrev pub is_local_size : Units → ℕ → LocalDef → Bool
is_local_size u size d = is_size (local_size size d) && is_size (pos (local_design u d))

-- both sizes of each local font are in range
abbrev pub are_local_sizes : Units → ℕ → List LocalDef → Bool
are_local_sizes u size locals = list_all (is_local_size u size) locals

-- the key
abbrev pub local_key : Units → ℕ → LocalDef → FontKey
local_key u size d =
    record {
      area = d.area;
      name = d.name;
      size = unsigned_abs (local_size size d);
      design = local_design u d;
    }
