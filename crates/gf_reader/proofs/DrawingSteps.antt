-- A command more that is drawn.
use Rattle.std.proofs.Common.{◌≡◌, ◌∙◌, ◌+◌, ◌%◌, ◌≤◌, ◌<◌, min, inl, inr, ℕ, Bool, true, false, List, ◌∷◌, sym, ap, arith}
use Rattle.std.specs.Prelude.{◌==◌, ◌&&◌, ◌||◌, nat_le, nat_lt, not, if◌then◌else◌}
use Rattle.std.proofs.lemmas.Bool.{and_cases, and_left, and_parts, and_right, cases_Bool, le-ltb, leb-false, lt-leb, ltb-false, ltb-true, or_from, or_parts, true≢false}
use Rattle.std.proofs.lemmas.Bool.Decides.{nat_tests}
use Rattle.packed_rows.specs.Bitmap.{Bitmap, is_black}
use Rattle.packed_rows.specs.Changes.{is_within, with_black}
use Rattle.packed_rows.proofs.StoredBitmaps.{dot_of, same_dots}
use Rattle.gf_reader.specs.Items.{is_paint, opcode}
use Rattle.gf_reader.specs.Commands.{column_after, covers, is_black_after, is_painted, paint_length, row_after}
use Rattle.gf_reader.specs.Characters.{Character, columns_of, height_of, raster_of, rows_of, raster_side, width_of}
use Rattle.gf_reader.specs.Faults.{is_outside}
use Rattle.gf_reader.specs.Painting.{after_move, after_paint}
use Rattle.gf_reader.specs.Reading.{IsDrawn}
use Rattle.gf_reader.specs.declared.drawing.Drawing.{Drawing}
use Rattle.gf_reader.proofs.CommandSums.{IsKind, black_by, column_by, row_by, turned}

abbrev pub with_item : List ℕ → Character → Character
with_item item ch = record { head = ch.head; commands = item ∷ ch.commands }

-- ---- pixels

abbrev of_rows : List ℕ → List (List Bool) → Bitmap
of_rows head rows = record { width = width_of head; height = height_of head; rows = rows }

-- a command that covers nothing
unpainted : (ch : Character) (item : List ℕ) → ((x y : ℕ) → covers ch.commands item x y ≡ false) → raster_of ch ≡ raster_of (with_item item ch)
unpainted ch item none =
    ap (of_rows ch.head) (same_dots (width_of ch.head) (height_of ch.head) (λ x y. is_painted ch.commands x y) (λ x y. is_painted (item ∷ ch.commands) x y)
    (λ x y inside below. sym (ap (λ b. b || is_painted ch.commands x y) (none x y))))

-- one that covers a part of a row
blackened : (ch : Character) (item : List ℕ) (from until row : ℕ) → ((x y : ℕ) → covers ch.commands item x y ≡ (is_within from until x && is_within row (row + 1) y))
    → with_black (raster_of ch) from until row (row + 1) ≡ raster_of (with_item item ch)
blackened ch item from until row same =
    ap (of_rows ch.head) (same_dots (width_of ch.head) (height_of ch.head) (λ x y. is_within from until x && is_within row (row + 1) y || is_black (raster_of ch) x y) (λ x y. is_painted (item ∷ ch.commands) x y)
    (λ x y inside below.
    ap (λ b. is_within from until x && is_within row (row + 1) y || b) (dot_of (width_of ch.head) (height_of ch.head) x y (λ x y. is_painted ch.commands x y) inside below)
    ∙ ap (λ b. b || is_painted ch.commands x y) (sym (same x y))))

-- no command but a paint covers a pixel
covers_none : (before : List (List ℕ)) (item : List ℕ) (x y : ℕ) → is_paint (opcode item) ≡ false → covers before item x y ≡ false
covers_none before item x y kind =
    ap (λ b. b && is_black_after before && y == row_after before && is_within (column_after before) (column_after before + paint_length item) x) kind

-- nor a white paint, nor one of no pixels
abbrev Covers : Bool → Bool → ℕ → ℕ → ℕ → ℕ → ℕ → Bool
Covers paint black row column n x y = paint && black && y == row && is_within column (column + n) x

white_none : (paint black : Bool) (row column n x y : ℕ) → (black && nat_lt 0 n) ≡ false → Covers paint black row column n x y ≡ false
white_none paint black row column n x y e = grind (arith, nat_tests, e)

part_of_row : (row column n x y : ℕ) → Covers true true row column n x y ≡ (is_within column (column + n) x && is_within row (row + 1) y)
part_of_row row column n x y = grind (arith, nat_tests)

-- ---- places that are kept within a raster

kept_more : (a n most : ℕ) → min (min a most + n) most ≡ min (a + n) most
kept_more a n most = omega arith

record IsInside (columns rows column row n : ℕ) : Type 0 where
  across : column + n ≤ raster_side rows columns
  column_is : min column (raster_side rows columns) ≡ column
  row_is : min row (raster_side columns rows) ≡ row
  in_columns : nat_lt columns (column + n) ≡ false
  in_rows : nat_le rows row ≡ false

side_least : (other side : ℕ) → raster_side other side ≤ side
side_least other side = by (other == 0)
  where
    by : (b : Bool) → (if b then 0 else side) ≤ side
    by true = omega arith
    by false = omega arith

kept_inside : (columns rows column row n : ℕ) → 0 < n
    → (nat_lt (raster_side rows columns) (min column (raster_side rows columns) + n) || nat_le (raster_side columns rows) (min row (raster_side columns rows))) ≡ false
    → IsInside columns rows column row n
kept_inside columns rows column row n some e =
    let width = raster_side rows columns in
    let height = raster_side columns rows in
    let parts = or_parts (nat_lt width (min column width + n)) (nat_le height (min row height)) e in
    let narrow : min column width + n ≤ width = ltb-false width (min column width + n) parts.0 in
    let low : min row height < height = leb-false height (min row height) parts.1 in
    record {
      across = omega (arith, narrow, some);
      column_is = omega (arith, narrow, some);
      row_is = omega (arith, low);
      in_columns = le-ltb columns (column + n) (omega (arith, narrow, some, side_least rows columns));
      in_rows = lt-leb rows row (omega (arith, low, side_least columns rows));
    }

-- ---- a paint

abbrev Outside : Bool → ℕ → ℕ → ℕ → ℕ → ℕ → Bool
Outside black width column height row n = black && nat_lt 0 n && (nat_lt width (column + n) || nat_le height row)

outside_kept : (ch : Character) (d : Drawing) (n : ℕ) → IsDrawn ch d
    → Outside d.black d.bits.width d.column d.bits.height d.row n
    ≡ Outside (is_black_after ch.commands) (width_of ch.head) (min (column_after ch.commands) (width_of ch.head)) (height_of ch.head) (min (row_after ch.commands) (height_of ch.head)) n
outside_kept ch d n h =
    ap (λ b. Outside b d.bits.width d.column d.bits.height d.row n) h.black
    ∙ ap (λ (b : Bitmap). Outside (is_black_after ch.commands) b.width d.column b.height d.row n) h.bits
    ∙ ap (λ k. Outside (is_black_after ch.commands) (width_of ch.head) k (height_of ch.head) d.row n) h.column
    ∙ ap (λ k. Outside (is_black_after ch.commands) (width_of ch.head) (min (column_after ch.commands) (width_of ch.head)) (height_of ch.head) k n) h.row

abbrev IsPainted : Character → List ℕ → Drawing → Type 0
IsPainted ch item d = ((after_paint d (paint_length item)).bits ≡ raster_of (with_item item ch)) × (is_outside ch item ≡ false)

white_painted : (ch : Character) (item : List ℕ) (d : Drawing) → IsDrawn ch d → (is_black_after ch.commands && nat_lt 0 (paint_length item)) ≡ false → IsPainted ch item d
white_painted ch item d h none = (
  ap (λ b. if b then with_black d.bits d.column (d.column + paint_length item) d.row (d.row + 1) else d.bits) (ap (λ b. b && nat_lt 0 (paint_length item)) h.black ∙ none)
      ∙ h.bits ∙ unpainted ch item (λ x y. white_none (is_paint (opcode item)) (is_black_after ch.commands) (row_after ch.commands) (column_after ch.commands) (paint_length item) x y none),
  and_left (is_black_after ch.commands && nat_lt 0 (paint_length item))
      (nat_lt (columns_of ch.head) (column_after ch.commands + paint_length item) || nat_le (rows_of ch.head) (row_after ch.commands)) none,
)

black_painted : (ch : Character) (item : List ℕ) (d : Drawing) → IsDrawn ch d → is_paint (opcode item) ≡ true → (is_black_after ch.commands && nat_lt 0 (paint_length item)) ≡ true
    → (nat_lt (width_of ch.head) (min (column_after ch.commands) (width_of ch.head) + paint_length item) || nat_le (height_of ch.head) (min (row_after ch.commands) (height_of ch.head))) ≡ false
    → IsPainted ch item d
black_painted ch item d h kind some inside =
    let n = paint_length item in
    let column = column_after ch.commands in
    let row = row_after ch.commands in
    let both = and_parts (is_black_after ch.commands) (nat_lt 0 n) some in
    let i = kept_inside (columns_of ch.head) (rows_of ch.head) column row n (ltb-true 0 n both.1) inside in
    let here : (x y : ℕ) → covers ch.commands item x y ≡ (is_within column (column + n) x && is_within row (row + 1) y) = λ x y.
    ap (λ b. Covers b (is_black_after ch.commands) row column n x y) kind ∙ ap (λ b. Covers true b row column n x y) both.0 ∙ part_of_row row column n x y in (
      ap (λ b. if b then with_black d.bits d.column (d.column + n) d.row (d.row + 1) else d.bits) (ap (λ b. b && nat_lt 0 n) h.black ∙ some)
          ∙ ap (λ b. with_black b d.column (d.column + n) d.row (d.row + 1)) h.bits
          ∙ ap (λ k. with_black (raster_of ch) k (k + n) d.row (d.row + 1)) (h.column ∙ i.column_is)
          ∙ ap (λ k. with_black (raster_of ch) column (column + n) k (k + 1)) (h.row ∙ i.row_is)
          ∙ blackened ch item column (column + n) row here,
      and_right (is_black_after ch.commands && nat_lt 0 n) (nat_lt (columns_of ch.head) (column + n) || nat_le (rows_of ch.head) row)
          (or_from (nat_lt (columns_of ch.head) (column + n)) (nat_le (rows_of ch.head) row) i.in_columns i.in_rows),
    )

is_painted_so : (ch : Character) (item : List ℕ) (d : Drawing) → IsDrawn ch d → is_paint (opcode item) ≡ true
    → Outside d.black d.bits.width d.column d.bits.height d.row (paint_length item) ≡ false → IsPainted ch item d
is_painted_so ch item d h kind e = elim (cases_Bool (is_black_after ch.commands && nat_lt 0 (paint_length item))) [
  | inr none ↦ white_painted ch item d h none
  | inl some ↦
      let inner = nat_lt (width_of ch.head) (min (column_after ch.commands) (width_of ch.head) + paint_length item) || nat_le (height_of ch.head) (min (row_after ch.commands) (height_of ch.head)) in
      black_painted ch item d h kind some (elim (and_cases (is_black_after ch.commands && nat_lt 0 (paint_length item)) inner (sym (outside_kept ch d (paint_length item) h) ∙ e)) [
        | inl white ↦ absurd (true≢false (sym some ∙ white))
        | inr inside ↦ inside
      ])
]

pub paint_drawn : (ch : Character) (item : List ℕ) (d new : Drawing) → IsDrawn ch d → IsKind item true false false → new ≡ after_paint d (paint_length item)
    → Outside d.black d.bits.width d.column d.bits.height d.row (paint_length item) ≡ false
    → IsDrawn (with_item item ch) new × ((is_paint (opcode item) && is_outside ch item) ≡ false)
paint_drawn ch item d new h kind e inside =
    let n = paint_length item in
    let width = width_of ch.head in
    let height = height_of ch.head in
    let p = is_painted_so ch item d h kind.paints inside in
    let wide : d.bits.width ≡ width = ap (λ (b : Bitmap). b.width) h.bits in (
      record {
        code = ap (λ (d : Drawing). d.code) e ∙ h.code;
        hoff = ap (λ (d : Drawing). d.hoff) e ∙ h.hoff;
        voff = ap (λ (d : Drawing). d.voff) e ∙ h.voff;
        bits = ap (λ (d : Drawing). d.bits) e ∙ p.0;
        row = ap (λ (d : Drawing). d.row) e ∙ h.row ∙ ap (λ k. min k height) (sym (row_by item ch.commands true false false kind ∙ omega arith));
        column = ap (λ (d : Drawing). d.column) e ∙ ap (λ k. min (d.column + n) k) wide ∙ ap (λ k. min (k + n) width) h.column ∙ kept_more (column_after ch.commands) n width
            ∙ ap (λ k. min k width) (sym (column_by item ch.commands true false false kind));
        black = ap (λ (d : Drawing). d.black) e ∙ ap not h.black ∙ sym (black_by item ch.commands true false false kind ∙ turned _);
        narrow = h.narrow;
        low = h.low;
      },
      and_right (is_paint (opcode item)) (is_outside ch item) p.1,
    )

-- ---- other commands

pub move_drawn : (ch : Character) (item : List ℕ) (d new : Drawing) (n k : ℕ) (b s r : Bool) → IsDrawn ch d → IsKind item false s r → new ≡ after_move d n k b
    → row_after (item ∷ ch.commands) ≡ row_after ch.commands + n → column_after (item ∷ ch.commands) ≡ k → is_black_after (item ∷ ch.commands) ≡ b
    → IsDrawn (with_item item ch) new × ((is_paint (opcode item) && is_outside ch item) ≡ false)
move_drawn ch item d new n k b s r h kind e rows columns colour =
    let width = width_of ch.head in
    let height = height_of ch.head in
    let wide : d.bits.width ≡ width = ap (λ (b : Bitmap). b.width) h.bits in
    let high : d.bits.height ≡ height = ap (λ (b : Bitmap). b.height) h.bits in (
      record {
        code = ap (λ (d : Drawing). d.code) e ∙ h.code;
        hoff = ap (λ (d : Drawing). d.hoff) e ∙ h.hoff;
        voff = ap (λ (d : Drawing). d.voff) e ∙ h.voff;
        bits = ap (λ (d : Drawing). d.bits) e ∙ h.bits ∙ unpainted ch item (λ x y. covers_none ch.commands item x y kind.paints);
        row = ap (λ (d : Drawing). d.row) e ∙ ap (λ m. min (d.row + n) m) high ∙ ap (λ m. min (m + n) height) h.row ∙ kept_more (row_after ch.commands) n height ∙ ap (λ m. min m height) (sym rows);
        column = ap (λ (d : Drawing). d.column) e ∙ ap (λ m. min k m) wide ∙ ap (λ m. min m width) (sym columns);
        black = ap (λ (d : Drawing). d.black) e ∙ sym colour;
        narrow = h.narrow;
        low = h.low;
      },
      and_left (is_paint (opcode item)) (is_outside ch item) kind.paints,
    )

pub other_drawn : (ch : Character) (item : List ℕ) (d : Drawing) → IsDrawn ch d → IsKind item false false false
    → IsDrawn (with_item item ch) d × ((is_paint (opcode item) && is_outside ch item) ≡ false)
other_drawn ch item d h kind = (
  record {
    code = h.code;
    hoff = h.hoff;
    voff = h.voff;
    bits = h.bits ∙ unpainted ch item (λ x y. covers_none ch.commands item x y kind.paints);
    row = h.row ∙ ap (λ k. min k (height_of ch.head)) (sym (row_by item ch.commands false false false kind ∙ omega arith));
    column = h.column ∙ ap (λ k. min k (width_of ch.head)) (sym (column_by item ch.commands false false false kind ∙ omega arith));
    black = h.black ∙ sym (black_by item ch.commands false false false kind ∙ ap (λ n. n % 2 == 1) (omega arith));
    narrow = h.narrow;
    low = h.low;
  },
  and_left (is_paint (opcode item)) (is_outside ch item) kind.paints,
)
