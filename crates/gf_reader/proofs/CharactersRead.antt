-- Characters that are read command by command, up to their end.
use Rattle.std.proofs.Common.{◌≡◌, ◌∙◌, ◌≤◌, ℕ, pos, true, false, List, ◌++◌, None, Some, refl, sym, ap, subst, arith}
use Rattle.std.specs.Prelude.{◌&&◌, if◌then◌else◌}
use Rattle.big_endian.specs.Numbers.{int_eq}
use Rattle.packed_rows.specs.Bitmap.{Bitmap}
use Rattle.pk_runs.specs.Limits.{MAX_GLYPH_SIDE}
use Rattle.gf_reader.specs.Items.{IsItem, is_paint, opcode}
use Rattle.gf_reader.specs.Characters.{Character, code_of, height_of, width_of}
use Rattle.gf_reader.specs.Faults.{is_outside}
use Rattle.gf_reader.specs.FirstFault.{IsFirstFault}
use Rattle.gf_reader.specs.Fonts.{Glyphs, glyph_of}
use Rattle.gf_reader.specs.Reading.{IsAtEnd, IsDrawn, IsRead, IsReadTo, Reads}
use Rattle.gf_reader.specs.declared.drawing.Drawing.{Drawing}
use Rattle.gf_reader.specs.declared.faults.GfFault.{GfFault}
use Rattle.gf_reader.specs.declared.faults.GfFault.TheVariants.{Outside}
use Rattle.gf_reader.proofs.DrawingSteps.{with_item}
use Rattle.gf_reader.proofs.ItemsRead.{command_read, command_wrong, end_read, item_first, item_read, sum_kept}

-- the place of the next paint lies in the raster or at its end
pub record IsWithin (d : Drawing) : Type 0 where
  pub narrow : d.bits.width ≤ MAX_GLYPH_SIDE
  pub low : d.bits.height ≤ MAX_GLYPH_SIDE
  pub column : d.column ≤ d.bits.width
  pub row : d.row ≤ d.bits.height

pub read_within : (items : List (List ℕ)) (font : Glyphs) (d : Drawing) → IsRead items font (Some d) → IsWithin d
read_within items font d read =
    let h = read.4 in
    let wide : d.bits.width ≡ width_of read.1.head = ap (λ (b : Bitmap). b.width) h.bits in
    let high : d.bits.height ≡ height_of read.1.head = ap (λ (b : Bitmap). b.height) h.bits in
    record {
      narrow = omega (arith, wide, h.narrow);
      low = omega (arith, high, h.low);
      column = omega (arith, wide, h.column);
      row = omega (arith, high, h.row);
    }

-- a command more
pub command_more : (before item rest : List ℕ) (d new : Drawing) → before ≡ item ++ rest → IsItem true item → (opcode item ≡ 69 → ⊥)
    → ((ch : Character) → IsDrawn ch d → IsDrawn (with_item item ch) new × ((is_paint (opcode item) && is_outside ch item) ≡ false)) → Reads before d rest new
command_more before item rest d new here whole other drawn = λ bytes sum font h.
    let next = command_read item h.items font d new whole other h.read drawn in
    item_read bytes before item rest sum sum font font (Some d) (Some new) h here whole next.0 next.1 (h.sum_is ∙ sym (sum_kept item h.items whole))

-- one that is outside
pub command_first : (bytes before item rest : List ℕ) (sum : ℕ) (font : Glyphs) (d : Drawing) (f : GfFault) → IsReadTo bytes before sum font (Some d) → before ≡ item ++ rest → IsItem true item
    → ((ch : Character) → IsDrawn ch d → ((is_paint (opcode item) && is_outside ch item) ≡ true) × (f ≡ Outside (code_of ch.head))) → IsFirstFault bytes f
command_first bytes before item rest sum font d f h here whole wrong = item_first bytes before item rest sum font (Some d) f h here whole (command_wrong item h.items font d f whole h.read wrong)

-- the end, after which the glyph is kept
pub end_reached : (bytes before item rest : List ℕ) (sum : ℕ) (font : Glyphs) (d : Drawing) → IsReadTo bytes before sum font (Some d) → before ≡ item ++ rest → IsItem true item → opcode item ≡ 69
    → IsAtEnd bytes rest sum font d
end_reached bytes before item rest sum font d h here whole e = (item, whole, e, subst (λ (t : List ℕ). IsReadTo bytes t sum font (Some d)) here h)

pub character_read : (bytes rest : List ℕ) (sum : ℕ) (font new : Glyphs) (d : Drawing) → IsAtEnd bytes rest sum font d
    → ((k : ℕ) → glyph_of new k ≡ (if int_eq d.code (pos k) then Some (record { raster = d.bits; hoff = d.hoff; voff = d.voff }) else glyph_of font k)) → IsReadTo bytes rest sum new None
character_read bytes rest sum font new d at kept =
    let item = at.0 in
    let h = at.3 in
    let e = end_read item h.items font new d at.1 at.2 h.read kept in
    item_read bytes (item ++ rest) item rest sum sum font new (Some d) None h refl at.1 e.0 e.1 (h.sum_is ∙ sym (sum_kept item h.items at.1))
