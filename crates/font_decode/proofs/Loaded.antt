-- The font of a key's files is the key's font.
use Rattle.std.proofs.Common.{ℕ, Option, Some, None, Err, refl}
use Rattle.std.specs.Prelude.{IfSome, IsErrOf}
use Rattle.outside.specs.Counts.{HasCause}
use Rattle.outside.specs.Library as library
use Rattle.outside.specs.declared.fonts.LoadStop.{LoadStop}
use Rattle.outside.specs.declared.fonts.LoadStop.TheVariants as load
use Rattle.outside.specs.declared.keys.FontKey.{FontKey}
use Rattle.pixel_round.specs.declared.units.Units.{Units}
use Rattle.font_decode.specs.Files.{FontFiles, IsFound, IsInOrder}
use Rattle.font_decode.specs.Decoding.{IsDecodingOf, IsFontOf}
use Rattle.font_decode.specs.Stops.{stop_of_load}
use Rattle.font_decode.specs.declared.font_or_fault.Decoded.{Decoded}
use Rattle.font_decode.specs.declared.desk.DeskStop.TheVariants.{SourceFault}

pub found_in : (known : Option library.FileTable) (u : Units) (k : FontKey) (files : FontFiles) (d : Decoded) → IfSome known (λ l. IsFound l u k files) → IsInOrder u k files → IsDecodingOf u k files d
    → IsFontOf known (Some u) k d
found_in None u k files d found order decoding = record { files = files; order = order; decoding = decoding }
found_in (Some l) u k files d found order decoding = record { files = files; found = found; decoding = decoding }

-- a desk's source failed where the load did
pub load_failed : {T U : Type 0} (why : LoadStop) (before now : ℕ) → HasCause before now (IsErrOf {T = T} (Err why) load.Failed)
    → HasCause before now (IsErrOf {T = U} (Err (stop_of_load why)) SourceFault)
load_failed load.Failed before now h = record { never_falls = h.never_falls; rose = λ e. h.rose refl }
load_failed load.NoMemory before now h = record { never_falls = h.never_falls; rose = λ e. absurd cc }
