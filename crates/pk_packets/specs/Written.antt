-- Character packets as a writer has their fields, in the order of Rokicki, PKtype, "Packed file
-- format".
use Rattle.std.specs.Prelude.{◌≡◌, ℕ, ◌+◌, ◌*◌, ◌/◌, ◌%◌, ◌^◌, ◌<◌, ◌≤◌, ℤ, pos, Bool, List, ◌∷◌, ◌++◌, length, if◌then◌else◌, IsTrue}
use Rattle.big_endian.specs.Numbers.{IsSigned, number_bytes}
use Rattle.pk_packets.specs.Items.{IsItem, is_packet}
use Rattle.pk_packets.specs.Packets.{code_of, dyn_f_of, raster_height, hoff_of, is_first_black, raster_of, voff_of, raster_width}

-- the bytes of the width and the escapements, which a reader passes over, stand in one field
pub record Fields : Type 0 where
  pub code : ℕ
  pub dyn_f : ℕ
  pub first_black : Bool
  pub escapements : List ℕ
  pub width : ℕ
  pub height : ℕ
  pub hoff : ℤ
  pub voff : ℤ
  pub raster : List ℕ

-- a flag with the low three bits that a form gives it
abbrev pub flag_with : Fields → ℕ → ℕ
flag_with f low = 16 * f.dyn_f + (if f.first_black then 8 else 0) + low

-- flag, length, code, width and escapements, then sides and offsets of n bytes, and the raster
abbrev pub packet_bytes : Fields → ℕ → List ℕ → List ℕ → ℕ → List ℕ
packet_bytes f flag count code n =
    flag ∷ (count
    ++ (code ++ (f.escapements ++ (number_bytes n (pos f.width) ++
    (number_bytes n (pos f.height) ++ (number_bytes n f.hoff ++
    (number_bytes n f.voff ++ f.raster)))))))

-- the length counts the bytes after the code: 8, 13 or 28, and the raster
abbrev pub short_packet : Fields → List ℕ
short_packet f =
    let pl = 8 + length f.raster in
    packet_bytes f (flag_with f (pl / 256)) (number_bytes 1 (pos (pl % 256)))
    (number_bytes 1 (pos f.code)) 1

abbrev pub extended_packet : Fields → List ℕ
extended_packet f =
    let pl = 13 + length f.raster in
    packet_bytes f (flag_with f (4 + pl / 65536)) (number_bytes 2 (pos (pl % 65536)))
    (number_bytes 1 (pos f.code)) 2

abbrev pub long_packet : Fields → List ℕ
long_packet f =
    packet_bytes f (flag_with f 7) (number_bytes 4 (pos (28 + length f.raster)))
    (number_bytes 4 (pos f.code)) 4

-- the fields fit a form with k bytes for the code, e for width and escapements and n for each side
-- and offset, and lengths below most
pub record Fit (f : Fields) (k e n most : ℕ) : Type 0 where
  pub dyn_f : f.dyn_f ≤ 14
  pub code : f.code < 256 ^ k
  pub escapements : length f.escapements ≡ e
  pub width : f.width < 256 ^ n
  pub height : f.height < 256 ^ n
  pub hoff : IsSigned n f.hoff
  pub voff : IsSigned n f.voff
  pub raster : e + 4 * n + length f.raster < most

-- the bytes are a packet with these fields
pub record IsReadAs (bytes : List ℕ) (f : Fields) : Type 0 where
  pub item : IsItem bytes
  pub kind : IsTrue (is_packet bytes)
  pub code : code_of bytes ≡ f.code
  pub dyn_f : dyn_f_of bytes ≡ f.dyn_f
  pub first_black : is_first_black bytes ≡ f.first_black
  pub width : raster_width bytes ≡ f.width
  pub height : raster_height bytes ≡ f.height
  pub hoff : hoff_of bytes ≡ f.hoff
  pub voff : voff_of bytes ≡ f.voff
  pub raster : raster_of bytes ≡ f.raster

-- ---- laws

abbrev pub ShortPacketsAreReadAgain : Type 0
ShortPacketsAreReadAgain = (f : Fields) → Fit f 1 4 1 1024 → IsReadAs (short_packet f) f

abbrev pub ExtendedPacketsAreReadAgain : Type 0
ExtendedPacketsAreReadAgain = (f : Fields) → Fit f 1 5 2 196608 → IsReadAs (extended_packet f) f

abbrev pub LongPacketsAreReadAgain : Type 0
LongPacketsAreReadAgain = (f : Fields) → Fit f 4 12 4 (2 ^ 32) → IsReadAs (long_packet f) f
