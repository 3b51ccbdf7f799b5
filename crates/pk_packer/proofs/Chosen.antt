-- The form that is chosen.
use Rattle.std.proofs.Common.{◌≡◌, inl, inr, ℕ, ◌<◌, ◌≤◌, Bool, false, eqb, List, length, refl, ap, arith}
use Rattle.std.specs.Int.{div_ceil}
use Rattle.std.proofs.lemmas.Bool.{cases_Bool, eqb-false, le-leb, lt-leb, ne_eqb, or_parts}
use Rattle.packed_rows.specs.Bitmap.{Bitmap}
use Rattle.pk_runs.specs.Raster.{IsRaster, is_empty}
use Rattle.pk_packer.specs.Choice.{AreFewest, IsChosen, IsShortest, length_of, plain_bytes, plain_size, run_bytes}
use Rattle.pk_packer.specs.Spelling.{HoldNybbles, items_text, text_length}
use Rattle.pk_packer.specs.Written.{first_colour, pixel_rows, written_runs}
use Rattle.pk_packer.proofs.Begun.{rows_wide}
use Rattle.pk_packer.proofs.HeldBytes.{bytes_long}
use Rattle.pk_packer.proofs.Pixels.{rows_high}
use Rattle.pk_packer.proofs.PlainBits.{empty_seen, length_of_bytes, raster_by_pixels}
use Rattle.pk_packer.proofs.ReadAgain.{read_again}

-- ---- read again

some_columns : (w h : ℕ) → is_empty w h ≡ false → 1 ≤ w
some_columns w h full = omega (arith, eqb-false w 0 (or_parts (eqb w 0) (eqb h 0) full).0)

pub runs_again : (r : Bitmap) (f : ℕ) (black : Bool) (bytes : List ℕ) → f ≤ 13 → black ≡ first_colour (pixel_rows r) → HoldNybbles bytes (items_text f (written_runs (pixel_rows r)))
    → IsRaster bytes f black r.width r.height (raster_by_pixels r)
unfolding pixel_rows
runs_again r f black bytes form first hold = elim (cases_Bool (is_empty r.width r.height)) [
  | inl empty ↦ rw empty (empty_seen r empty)
  | inr full ↦ rw full (
    pixel_rows r,
    refl,
    rw (ne_eqb f 14 (λ e. absurd (omega (arith, e, form))), first) (read_again r.width r.height (pixel_rows r) (some_columns r.width r.height full) (rows_wide r) (rows_high r) f bytes form hold),
  )
]

-- ---- the shortest

pub shortest_same : (a b : ℕ → ℕ) (f : ℕ) → ((g : ℕ) → g < 14 → a g ≡ b g) → IsShortest a f → IsShortest b f
shortest_same a b f same s = record {
  form = s.form;
  least = λ g form. omega (arith, s.least g form, same f (omega (arith, s.form)), same g (omega (arith, form)));
  first = λ g below. omega (arith, s.first g below, same f (omega (arith, s.form)), same g (omega (arith, below, s.form)));
}

ceil_up : (a b : ℕ) → a ≤ b → div_ceil a 2 ≤ div_ceil b 2
ceil_up a b h = omega (arith, h)

run_length : (r : Bitmap) (f : ℕ) (bytes : List ℕ) → HoldNybbles bytes (items_text f (written_runs (pixel_rows r))) → length bytes ≡ run_bytes r f
unfolding text_length
run_length r f bytes hold = bytes_long bytes (items_text f (written_runs (pixel_rows r))) hold

pub chosen_runs : (r : Bitmap) (f : ℕ) (black : Bool) (bytes : List ℕ) → IsShortest (length_of r) f → run_bytes r f ≤ plain_size r → black ≡ first_colour (pixel_rows r)
    → HoldNybbles bytes (items_text f (written_runs (pixel_rows r))) → IsChosen r f black bytes
chosen_runs r f black bytes shortest few first hold = (f, shortest, rw (le-leb (run_bytes r f) (plain_size r) few) (refl, first, hold, run_length r f bytes hold))

pub chosen_plain : (r : Bitmap) (f : ℕ) (bytes : List ℕ) → IsShortest (length_of r) f → plain_size r < run_bytes r f → bytes ≡ plain_bytes r → IsChosen r 14 false bytes
chosen_plain r f bytes shortest many plain = (f, shortest, rw (lt-leb (run_bytes r f) (plain_size r) many) (refl, refl, plain))

pub fewest_runs : (r : Bitmap) (f : ℕ) (bytes : List ℕ) → IsShortest (length_of r) f → run_bytes r f ≤ plain_size r → HoldNybbles bytes (items_text f (written_runs (pixel_rows r))) → AreFewest r (length bytes)
fewest_runs r f bytes shortest few hold = record {
  runs = λ g form. omega (arith, run_length r f bytes hold, ceil_up (length_of r f) (length_of r g) (shortest.least g form));
  plain = omega (arith, run_length r f bytes hold, few);
}

pub fewest_plain : (r : Bitmap) (f : ℕ) (bytes : List ℕ) → IsShortest (length_of r) f → plain_size r < run_bytes r f → bytes ≡ plain_bytes r → AreFewest r (length bytes)
fewest_plain r f bytes shortest many plain = record {
  runs = λ g form. omega (arith, ap length plain, length_of_bytes r, many, ceil_up (length_of r f) (length_of r g) (shortest.least g form));
  plain = omega (arith, ap length plain, length_of_bytes r);
}
