-- The small font, read, and what is wrong with changed ones.
use Rattle.std.proofs.Common.{[], ◌∷◌, Some, None, take, drop, refl, lit<, lit≤, inl, inr}
use Rattle.pk_runs.specs.Numbers.{Run, Repeat}
use Rattle.pk_packets.specs.Items.{IsItem}
use Rattle.pk_packets.specs.Fonts.{AreSound, HasRaster, IsAnswer, IsPkFile}
use Rattle.pk_packets.specs.Faults.{IsFirstFault}
use Rattle.pk_packets.specs.Examples.{bar_file, bar_glyph, bar_packet, wrong_identifier, wrong_length, wrong_opcode}
use Rattle.pk_packets.specs.declared.faults.PkFault.TheVariants as fault

-- the nybbles 14 2 are a repeat count of 2, and 1, 1 and 4 runs of black, white and black
raster : HasRaster bar_packet bar_glyph.raster
raster = (
  _,
  refl,
  record {
    items = Run 4 ∷ Run 1 ∷ Run 1 ∷ Repeat 2 ∷ [];
    used = 14 ∷ 2 ∷ 1 ∷ 1 ∷ 4 ∷ [];
    unused = 0 ∷ [];
    nybbles = refl;
    spelled = (
      14 ∷ 2 ∷ 1 ∷ 1 ∷ [],
      4 ∷ [],
      refl,
      (14 ∷ 2 ∷ 1 ∷ [], 1 ∷ [], refl, (14 ∷ 2 ∷ [], 1 ∷ [], refl, ([], 14 ∷ 2 ∷ [], refl, refl, (inr (2 ∷ [], refl, (inl (2, refl, lit≤ tt, lit≤ tt, refl))))), (inl (1, refl, lit≤ tt, lit≤ tt, refl))), (inl (1, refl, lit≤ tt, lit≤ tt, refl))),
      (inl (4, refl, lit≤ tt, lit≤ tt, refl)),
    );
    fits = ((((tt, lit< tt, (refl, lit≤ tt)), lit< tt, lit≤ tt), lit< tt, lit≤ tt), lit< tt, lit≤ tt);
    complete = refl;
    stand = refl;
  },
)

whole : IsItem bar_packet
whole = record { known = lit≤ tt; not_closing = refl; whole = refl }

sound : AreSound (bar_packet ∷ [])
sound = (tt, whole, λ _. (refl, bar_glyph.raster, raster))

pub read : IsPkFile bar_file (bar_packet ∷ [])
read = record { begins = refl; sound = sound; unused = 246 ∷ 246 ∷ []; whole = refl }

pub found : IsAnswer (bar_packet ∷ []) 65 (Some bar_glyph)
found = (bar_glyph, refl, record { raster = raster; hoff = refl; voff = refl })

pub not_found : IsAnswer (bar_packet ∷ []) 66 None
not_found = refl

pub short : IsFirstFault (take 33 bar_file) fault.Short
short = record { items = bar_packet ∷ []; rest = []; sound = sound; text = refl; after = inl (inl ((lit≤ tt, lit< tt), refl)) }

pub identifier : IsFirstFault wrong_identifier fault.Preamble
identifier = refl

pub length_of_packet : IsFirstFault wrong_length (fault.Length 65)
length_of_packet = record {
  items = [];
  rest = drop 19 wrong_length;
  sound = tt;
  text = refl;
  after = inr (record { packet = take 10 (drop 19 wrong_length); more = drop 29 wrong_length; here = refl; item = record { known = lit≤ tt; not_closing = refl; whole = refl }; kind = refl; wrong = refl });
}

pub opcode_after : IsFirstFault wrong_opcode (fault.Undefined 247)
opcode_after = record { items = bar_packet ∷ []; rest = 247 ∷ 246 ∷ 246 ∷ []; sound = sound; text = refl; after = inl (inr (lit≤ tt, refl)) }
