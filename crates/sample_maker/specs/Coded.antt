-- Rasters as character packets have them: Rokicki, PKtype, "Packed file format".
use Rattle.std.specs.Prelude.{◌≡◌, ℕ, zero, suc, ◌+◌, ◌*◌, ◌≤◌, Bool, false, List, [], ◌∷◌, length, nat_le, nat_lt, if◌then◌else◌}
use Rattle.packed_rows.specs.Bitmap.{Bitmap}
use Rattle.pk_packer.specs.Choice.{AreFewest, IsChosen, length_of, plain_bytes, plain_size, run_bytes}
use Rattle.pk_packer.specs.Spelling.{items_text}
use Rattle.pk_packer.specs.Written.{first_colour, pixel_rows, written_runs}
use Rattle.pk_runs.specs.Raster.{IsRaster}
use Rattle.sample_maker.specs.declared.coded.Coded.{Coded as Made}
use Rattle.sample_maker.specs.declared.coded.Coding.{Coding}
use Rattle.sample_maker.specs.declared.coded.Coding.TheVariants as coding

-- what stands in a packet for a raster: the dyn_f by which the bytes are read, 14 for a plain
-- bitmap, and the colour of the first run
pub record Coded : Type 0 where
  pub dyn_f : ℕ
  pub first_black : Bool
  pub bytes : List ℕ

abbrev pub seen : Made → Coded
seen c = record { dyn_f = c.dyn_f; first_black = c.first_black; bytes = c.bytes.items }

-- it fits the fields of a packet, it is no longer than the plain bitmap, and a reader finds the
-- raster in it
pub record StandsFor (c : Coded) (r : Bitmap) : Type 0 where
  pub dyn_f : c.dyn_f ≤ 14
  pub few : length c.bytes ≤ plain_size r
  pub raster : IsRaster c.bytes c.dyn_f c.first_black r.width r.height r

-- two nybbles a byte, the first in the high half, and a 0 after the last where it stands alone
abbrev pub joined : List ℕ → List ℕ
joined [] = []
joined (high ∷ []) = 16 * high ∷ []
joined (high ∷ low ∷ nybbles) = (16 * high + low) ∷ joined nybbles

-- the one of two numbers with the lesser length, and else the first
abbrev pub shorter : (ℕ → ℕ) → ℕ → ℕ → ℕ
shorter lengths f g = if nat_lt (lengths g) (lengths f) then g else f

-- the least of the numbers up to n with the least length
abbrev pub shortest_up_to : ℕ → (ℕ → ℕ) → ℕ
shortest_up_to zero lengths = 0
shortest_up_to (suc n) lengths = shorter lengths (shortest_up_to n lengths) (suc n)

abbrev pub by_bitmap : Bitmap → Coded
by_bitmap r = record { dyn_f = 14; first_black = false; bytes = plain_bytes r }

abbrev pub by_runs : ℕ → Bitmap → Coded
by_runs dyn_f r = record {
  dyn_f = dyn_f;
  first_black = first_colour (pixel_rows r);
  bytes = joined (items_text dyn_f (written_runs (pixel_rows r)));
}

-- the shortest runs, where they take no more bytes than the plain bitmap, and else that
unfoldable pub packed : Bitmap → Coded
packed r =
    let f = shortest_up_to 13 (length_of r) in
    if nat_le (run_bytes r f) (plain_size r) then by_runs f r else by_bitmap r

abbrev pub coded : Coding → Bitmap → Coded
coded coding.Plain r = by_bitmap r
coded coding.Packed r = packed r

-- ---- laws

-- what the packer chooses for a raster is this
abbrev pub ChosenRastersArePacked : Type 0
ChosenRastersArePacked =
    (r : Bitmap) (c : Coded) → IsChosen r c.dyn_f c.first_black c.bytes → c ≡ packed r

-- and no other form takes fewer bytes
abbrev pub PackedRastersAreShortest : Type 0
PackedRastersAreShortest = (r : Bitmap) → AreFewest r (length (packed r).bytes)
