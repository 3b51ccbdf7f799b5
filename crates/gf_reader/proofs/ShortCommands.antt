-- Commands of one byte each, and a row that is gathered in a word.
use Rattle.std.proofs.Common.{◌≡◌, ◌∙◌, ◌+◌, ◌≤◌, ◌<◌, ◌⊎◌, inl, inr, min, ℕ, Bool, true, false, List, [], ◌∷◌, length, Some, refl, sym, ap, subst, arith}
use Rattle.std.specs.Prelude.{◌&&◌, ◌||◌, nat_le, nat_lt, not, if◌then◌else◌}
use Rattle.std.proofs.lemmas.Bool.{and_right, cases_lt, le-leb, le-ltb, lt-leb, lt-ltb, ne_eqb, or_from}
use Rattle.std.proofs.lemmas.Bool.Decides.{nat_tests}
use Rattle.big_endian.specs.Fields.{unsigned_at}
use Rattle.packed_rows.specs.Bitmap.{Bitmap, is_black}
use Rattle.packed_rows.specs.Changes.{is_within, with_black}
use Rattle.packed_rows.specs.Joined.{IsWhiteFrom, with_word}
use Rattle.packed_rows.specs.Stamped.{word_pixel}
use Rattle.packed_rows.proofs.StoredBitmaps.{dot_of, made, same_dots}
use Rattle.pk_runs.proofs.Kept.{HasRun, no_pixel, word_painted}
use Rattle.gf_reader.specs.Items.{IsItem, field_size, is_special, item_size, text_size}
use Rattle.gf_reader.specs.Commands.{is_painted, number_of, paint_length}
use Rattle.gf_reader.specs.Characters.{Character, height_of, raster_of, width_of}
use Rattle.gf_reader.specs.Painting.{after_move, after_paint}
use Rattle.gf_reader.specs.Reading.{IsReadTo, Reads}
use Rattle.gf_reader.specs.declared.drawing.Drawing.{Drawing}
use Rattle.gf_reader.proofs.CommandSums.{black_by, column_by, paint_kind, row_by, row_kind}
use Rattle.gf_reader.proofs.DrawingSteps.{move_drawn, paint_drawn}
use Rattle.gf_reader.proofs.ItemsRead.{command_read, item_read, sum_kept}

-- ---- items of one byte

whole_byte : (op : ℕ) → field_size op ≡ 0 → is_special op ≡ false → length (op ∷ []) ≡ item_size (op ∷ [])
whole_byte op fields special =
    sym (ap (λ n. 1 + n + text_size (op ∷ [])) fields ∙ ap (λ b. 1 + 0 + (if b then unsigned_at (op ∷ []) 1 (field_size op) else 0)) special)

paint_item : (n : ℕ) → n < 64 → IsItem true (n ∷ [])
paint_item n few = record {
  placed = grind (arith, nat_tests, few);
  not_closing = ne_eqb n 248 (λ e. absurd (omega (arith, e, few)));
  whole = whole_byte n (grind (arith, nat_tests, few)) (grind (arith, nat_tests, few));
}

row_item : (k : ℕ) → k ≤ 164 → IsItem true ((k + 74) ∷ [])
row_item k few = record {
  placed = grind (arith, nat_tests, few);
  not_closing = ne_eqb (k + 74) 248 (λ e. absurd (omega (arith, e, few)));
  whole = whole_byte (k + 74) (grind (arith, nat_tests, few)) (grind (arith, nat_tests, few));
}

-- ---- what they read

inside : (black : Bool) (width column height row n : ℕ) → column + n ≤ width → row < height → (black && nat_lt 0 n && (nat_lt width (column + n) || nat_le height row)) ≡ false
inside black width column height row n across low =
    and_right (black && nat_lt 0 n) (nat_lt width (column + n) || nat_le height row) (or_from (nat_lt width (column + n)) (nat_le height row) (le-ltb width (column + n) across) (lt-leb height row low))

-- a paint that lies within the raster
pub paint_more : (rest : List ℕ) (n : ℕ) (d new : Drawing) → n < 64 → d.column + n ≤ d.bits.width → d.row < d.bits.height → new ≡ after_paint d n → Reads (n ∷ rest) d rest new
paint_more rest n d new few across low e = λ bytes sum font h.
    let item : List ℕ = n ∷ [] in
    let whole : IsItem true item = paint_item n few in
    let long : paint_length item ≡ n = ap (λ b. if b then n else number_of item) (lt-ltb n 64 few) in
    let next = command_read item h.items font d new whole (λ e. absurd (omega (arith, e, few))) h.read
    (λ ch drawn. paint_drawn ch item d new drawn (paint_kind item (omega (arith, few))) (e ∙ ap (after_paint d) (sym long))
    (ap (λ k. d.black && nat_lt 0 k && (nat_lt d.bits.width (d.column + k) || nat_le d.bits.height d.row)) long ∙ inside d.black d.bits.width d.column d.bits.height d.row n across low)) in
    item_read bytes (n ∷ rest) item rest sum sum font font (Some d) (Some new) h refl whole next.0 next.1 (h.sum_is ∙ sym (sum_kept item h.items whole))

-- a new row
pub row_more : (rest : List ℕ) (k : ℕ) (d new : Drawing) → k ≤ 164 → new ≡ after_move d 1 k true → Reads ((k + 74) ∷ rest) d rest new
row_more rest k d new few e = λ bytes sum font h.
    let item : List ℕ = (k + 74) ∷ [] in
    let whole : IsItem true item = row_item k few in
    let kind = row_kind item (omega arith) (omega (arith, few)) in
    let next = command_read item h.items font d new whole (λ e. absurd (omega (arith, e))) h.read
    (λ ch drawn. move_drawn ch item d new 1 k true false true drawn kind e
    (row_by item ch.commands false false true kind) (column_by item ch.commands false false true kind ∙ omega arith) (black_by item ch.commands false false true kind)) in
    item_read bytes ((k + 74) ∷ rest) item rest sum sum font font (Some d) (Some new) h refl whole next.0 next.1 (h.sum_is ∙ sym (sum_kept item h.items whole))

-- ---- a row that is gathered in a word

-- what is drawn once the word is joined into the row
abbrev pub with_row : Drawing → ℕ → ℕ → Bool → Drawing
with_row d word column black = record d { bits = with_word d.bits word d.row (d.row + 1); column = column; black = black }

nothing_joined : (ch : Character) (row : ℕ) → with_word (raster_of ch) 0 row (row + 1) ≡ raster_of ch
nothing_joined ch row =
    let width = width_of ch.head in
    let height = height_of ch.head in
    ap (made width height) (same_dots width height (λ x y. is_within row (row + 1) y && word_pixel 0 x || is_black (raster_of ch) x y) (λ x y. is_painted ch.commands x y)
    (λ x y in_row below. ap (λ b. b || is_black (raster_of ch) x y) (and_right (is_within row (row + 1) y) (word_pixel 0 x) (no_pixel x))
    ∙ dot_of width height x y (λ x y. is_painted ch.commands x y) in_row below))

pub no_word : (rest : List ℕ) (d : Drawing) → Reads rest d rest (with_row d 0 d.column d.black)
no_word rest d = λ bytes sum font h.
    let ch = h.read.1 in
    let bits = h.read.4.bits in
    let same : with_word d.bits 0 d.row (d.row + 1) ≡ d.bits = ap (λ b. with_word b 0 d.row (d.row + 1)) bits ∙ nothing_joined ch d.row ∙ sym bits in
    subst (λ (e : Drawing). IsReadTo bytes rest sum font (Some e)) (sym (ap (λ (b : Bitmap). record d { bits = b }) same)) h

-- a paint of no pixels makes none black
some_black : (black : Bool) (from n i : ℕ) → (black && is_within from (from + n) i) ≡ (black && nat_lt 0 n && is_within from (from + n) i)
some_black black from n i = grind (arith, nat_tests)

some_run : (word new from n : ℕ) (black : Bool) → HasRun word black from (from + n) new → HasRun word (black && nat_lt 0 n) from (from + n) new
some_run word new from n black run i few = run i few ∙ ap (λ b. b || word_pixel word i) (some_black black from n i)

past : (from until i : ℕ) → until ≤ i → is_within from until i ≡ false
past from until i after = grind (arith, nat_tests)

pub still_white : (word new from n : ℕ) (black : Bool) → HasRun word black from (from + n) new → IsWhiteFrom from word → IsWhiteFrom (from + n) new
still_white word new from n black run white i after few =
    run i few ∙ ap (λ b. b || word_pixel word i) (and_right black (is_within from (from + n) i) (past from (from + n) i after)) ∙ white i (omega (arith, after)) few

-- a paint leaves the sides
pub paint_width : (d : Drawing) (n : ℕ) → (after_paint d n).bits.width ≡ d.bits.width
paint_width d n = by (d.black && nat_lt 0 n)
  where
    by : (b : Bool) → (if b then with_black d.bits d.column (d.column + n) d.row (d.row + 1) else d.bits).width ≡ d.bits.width
    by true = refl
    by false = refl

pub paint_height : (d : Drawing) (n : ℕ) → (after_paint d n).bits.height ≡ d.bits.height
paint_height d n = by (d.black && nat_lt 0 n)
  where
    by : (b : Bool) → (if b then with_black d.bits d.column (d.column + n) d.row (d.row + 1) else d.bits).height ≡ d.bits.height
    by true = refl
    by false = refl

least : (a b : ℕ) → a ≤ b → a ≡ min a b
least a b h = omega (arith, h)

pub word_more : (rest : List ℕ) (n : ℕ) (d : Drawing) (word new column : ℕ) (black : Bool) → n < 64 → d.bits.width < 64 → column + n ≤ d.bits.width → d.row < d.bits.height
    → HasRun word black column (column + n) new → Reads (n ∷ rest) (with_row d word column black) rest (with_row d new (column + n) (not black))
word_more rest n d word new column black few narrow across low run =
    paint_more rest n (with_row d word column black) (with_row d new (column + n) (not black)) few across low
    (ap (λ (b : Bitmap). make b (column + n)) (word_painted d.bits word new d.row column n (black && nat_lt 0 n) narrow (some_run word new column n black run))
    ∙ ap (make (if black && nat_lt 0 n then with_black (with_word d.bits word d.row (d.row + 1)) column (column + n) d.row (d.row + 1) else with_word d.bits word d.row (d.row + 1)))
    (least (column + n) d.bits.width across))
  where
    make : Bitmap → ℕ → Drawing
    make b c = record d { bits = b; column = c; black = not black }

-- ---- the word

-- a white pixel that is turned from one column on and from a later one is black between them
pub turned_twice : (from until i : ℕ) (pixel : Bool) → from ≤ until → (from ≤ i → pixel ≡ false)
    → (if nat_le until i then not (if nat_le from i then not pixel else pixel) else if nat_le from i then not pixel else pixel) ≡ (is_within from until i || pixel)
turned_twice from until i pixel ordered white = by (cases_lt i from) (cases_lt i until)
  where
    by : (i < from) ⊎ (from ≤ i) → (i < until) ⊎ (until ≤ i)
        → (if nat_le until i then not (if nat_le from i then not pixel else pixel) else if nat_le from i then not pixel else pixel) ≡ (is_within from until i || pixel)
    by (inl before) any = rw (lt-leb from i before, lt-leb until i (omega (arith, before, ordered))) refl
    by (inr after) (inl within) = rw (le-leb from i after, lt-leb until i within, lt-ltb i until within, white after) refl
    by (inr after) (inr past) = rw (le-leb from i after, le-leb until i past, le-ltb i until past, white after) refl
