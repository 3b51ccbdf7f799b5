-- A file of which some items were read.
use Rattle.std.proofs.Common.{◌≡◌, ◌∙◌, ◌+◌, ◌*◌, ◌≤◌, ◌<◌, ◌⊎◌, inl, inr, ℕ, ℤ, pos, negsuc, neg_ℤ, Bool, true, false, List, [], ◌∷◌, ◌++◌, take, Option, Some, None, refl, sym, ap, subst, arith, append_assoc}
use Rattle.std.specs.Prelude.{◌==◌, ◌&&◌, int_le, int_lt, is_some, nat_abs, nat_lt, if◌then◌else◌}
use Rattle.std.specs.Int.{div_ceil}
use Rattle.std.proofs.lemmas.Bool.{and_parts, eq-eqb, le-ltb, lt-ltb, ne_eqb, true≢false}
use Rattle.std.proofs.lemmas.Bool.Decides.{nat_tests}
use Rattle.pk_runs.specs.Limits.{MAX_RASTER_BYTES}
use Rattle.big_endian.specs.Numbers.{int_eq}
use Rattle.packed_rows.specs.Bitmap.{Bitmap, IsShaped}
use Rattle.pk_runs.specs.declared.glyph.Glyph.{Glyph}
use Rattle.pk_runs.proofs.Shapes.{made_shaped}
use Rattle.gf_reader.specs.Items.{IsItem, begins_character, ends_character, is_open, is_paint, item_size, opcode, text_of}
use Rattle.gf_reader.specs.Characters.{Character, characters_of, code_of, glyph_for, glyph_of_character, height_of, min_m, raster_of, raster_size, raster_sum, width_of, with_command}
use Rattle.gf_reader.specs.Commands.{is_painted}
use Rattle.gf_reader.specs.Faults.{fault_after, earlier_fault, head_fault, is_outside, is_too_big, paint_fault, place_fault, fault_of_item}
use Rattle.gf_reader.specs.FirstFault.{IsFirstFault}
use Rattle.gf_reader.specs.Fonts.{Glyphs, HasGlyphsOf, IsGfFile, glyph_of}
use Rattle.gf_reader.specs.Reading.{IsDrawn, IsRead, IsReadTo}
use Rattle.gf_reader.specs.Stops.{IfFault}
use Rattle.gf_reader.specs.declared.drawing.Drawing.{Drawing}
use Rattle.gf_reader.specs.declared.faults.GfFault.{GfFault}
use Rattle.gf_reader.specs.declared.faults.GfFault.TheVariants.{FontTooBig, Outside, TooBig}
use Rattle.gf_reader.specs.declared.faults.GfStop.{GfStop}
use Rattle.gf_reader.specs.declared.faults.GfStop.TheVariants.{Fault, NoMemory}
use Rattle.gf_reader.proofs.CommandSums.{IsKind}
use Rattle.gf_reader.proofs.DrawingSteps.{other_drawn, with_item}
use Rattle.gf_reader.proofs.OneItem.{item_fault}

-- ---- items in a character

-- what an item adds, where none begins a character
abbrev Characters : Bool → Bool → List ℕ → List (List ℕ) → List Character
Characters begins inside item before =
    if begins then record { head = item; commands = [] } ∷ characters_of before
    else if inside then with_command item (characters_of before)
    else characters_of before

abbrev Opened : Bool → Bool → Bool → Bool
Opened begins ends inside = if begins then true else if ends then false else inside

abbrev Wrong : Bool → Bool → List (List ℕ) → List ℕ → List Character → Option GfFault
Wrong begins paint before item characters = if begins then head_fault before item else if paint then paint_fault characters item else None

pub begins_none : (item : List ℕ) → IsItem true item → begins_character (opcode item) ≡ false
begins_none item h = let placed = h.placed in grind (arith, nat_tests)

continued : (ch : Character) (earlier : List Character) (item : List ℕ) (before : List (List ℕ)) → IsItem true item → is_open before ≡ true → characters_of before ≡ ch ∷ earlier
    → characters_of (item ∷ before) ≡ with_item item ch ∷ earlier
continued ch earlier item before h inside chars =
    ap (λ b. Characters b (is_open before) item before) (begins_none item h) ∙ ap (λ b. Characters false b item before) inside ∙ ap (with_command item) chars

not_outside : (paint outside : Bool) (f : GfFault) → (paint && outside) ≡ false → (if paint then if outside then Some f else None else None) ≡ None
not_outside true true f e = absurd (true≢false e)
not_outside true false f e = refl
not_outside false outside f e = refl

no_fault_inside : (ch : Character) (earlier : List Character) (item : List ℕ) (before : List (List ℕ)) → IsItem true item → characters_of before ≡ ch ∷ earlier
    → (is_paint (opcode item) && is_outside ch item) ≡ false → fault_of_item before item ≡ None
no_fault_inside ch earlier item before h chars right =
    ap (λ b. Wrong b (is_paint (opcode item)) before item (characters_of before)) (begins_none item h)
    ∙ ap (λ cs. Wrong false (is_paint (opcode item)) before item cs) chars ∙ not_outside (is_paint (opcode item)) (is_outside ch item) (Outside (code_of ch.head)) right

-- a command more of a character
pub command_read : (item : List ℕ) (before : List (List ℕ)) (font : Glyphs) (d new : Drawing) → IsItem true item → (opcode item ≡ 69 → ⊥) → IsRead before font (Some d)
    → ((ch : Character) → IsDrawn ch d → IsDrawn (with_item item ch) new × ((is_paint (opcode item) && is_outside ch item) ≡ false))
    → (fault_of_item before item ≡ None) × IsRead (item ∷ before) font (Some new)
command_read item before font d new h other read drawn =
    let ch = read.1 in
    let earlier = read.2 in
    let next = drawn ch read.4 in
    let stays : is_open (item ∷ before) ≡ true =
    ap (λ b. Opened b (ends_character (opcode item)) (is_open before)) (begins_none item h) ∙ ap (λ b. Opened false b (is_open before)) (ne_eqb (opcode item) 69 other) ∙ read.0 in (
      no_fault_inside ch earlier item before h read.3 next.1,
      (stays, with_item item ch, earlier, continued ch earlier item before h read.0 read.3, next.0, read.5),
    )

-- a command that is outside
pub command_wrong : (item : List ℕ) (before : List (List ℕ)) (font : Glyphs) (d : Drawing) (f : GfFault) → IsItem true item → IsRead before font (Some d)
    → ((ch : Character) → IsDrawn ch d → ((is_paint (opcode item) && is_outside ch item) ≡ true) × (f ≡ Outside (code_of ch.head))) → fault_of_item before item ≡ Some f
command_wrong item before font d f h read wrong =
    let ch = read.1 in
    let found = wrong ch read.4 in
    let both = and_parts (is_paint (opcode item)) (is_outside ch item) found.0 in
    ap (λ b. Wrong b (is_paint (opcode item)) before item (characters_of before)) (begins_none item h) ∙ ap (λ b. Wrong false b before item (characters_of before)) both.0
    ∙ ap (λ cs. paint_fault cs item) read.3 ∙ ap (λ b. if b then Some (Outside (code_of ch.head)) else None) both.1 ∙ ap Some (sym found.1)

abbrev glyph_with : Bitmap → ℤ → ℤ → Glyph
glyph_with raster hoff voff = record { raster = raster; hoff = hoff; voff = voff }

pub end_kind : (item : List ℕ) → opcode item ≡ 69 → IsKind item false false false
end_kind item e = record { paints = ap is_paint e; skips = grind (arith, nat_tests); rows = grind (arith, nat_tests) }

-- the end of a character, whose glyph is kept
pub end_read : (item : List ℕ) (before : List (List ℕ)) (old new : Glyphs) (d : Drawing) → IsItem true item → opcode item ≡ 69 → IsRead before old (Some d)
    → ((k : ℕ) → glyph_of new k ≡ (if int_eq d.code (pos k) then Some (record { raster = d.bits; hoff = d.hoff; voff = d.voff }) else glyph_of old k))
    → (fault_of_item before item ≡ None) × IsRead (item ∷ before) new None
end_read item before old new d h e read kept =
    let ch = read.1 in
    let earlier = read.2 in
    let last = other_drawn ch item d read.4 (end_kind item e) in
    let closed : is_open (item ∷ before) ≡ false =
    ap (λ b. Opened b (ends_character (opcode item)) (is_open before)) (begins_none item h) ∙ ap (λ b. Opened false b (is_open before)) (eq-eqb (opcode item) 69 e) in
    let chars = continued ch earlier item before h read.0 read.3 in
    let same : glyph_with d.bits d.hoff d.voff ≡ glyph_of_character (with_item item ch) =
    ap (λ (b : Bitmap). glyph_with b d.hoff d.voff) last.0.bits ∙ ap (λ (z : ℤ). glyph_with (raster_of (with_item item ch)) z d.voff) last.0.hoff
    ∙ ap (λ (z : ℤ). glyph_with (raster_of (with_item item ch)) (neg_ℤ (min_m ch.head)) z) last.0.voff in (
      no_fault_inside ch earlier item before h read.3 last.1,
      (
        closed,
        λ k. kept k ∙ ap (λ (z : ℤ). if int_eq z (pos k) then Some (glyph_with d.bits d.hoff d.voff) else glyph_of old k) read.4.code
            ∙ ap (λ (g : Glyph). if int_eq (code_of ch.head) (pos k) then Some g else glyph_of old k) same
            ∙ ap (λ (o : Option Glyph). if int_eq (code_of ch.head) (pos k) then Some (glyph_of_character (with_item item ch)) else o) (read.5 k)
            ∙ ap (λ cs. glyph_for cs k) (sym chars),
      ),
    )

-- ---- items between characters

limits : (big much : Bool) (c f : GfFault) → big ≡ false → much ≡ false → (if big then Some c else if much then Some f else None) ≡ None
limits true much c f e k = absurd (true≢false e)
limits false true c f e k = absurd (true≢false k)
limits false false c f e k = refl

pub begins_by : (item : List ℕ) → (opcode item ≡ 67) ⊎ (opcode item ≡ 68) → begins_character (opcode item) ≡ true
begins_by item (inl e) = ap begins_character e
begins_by item (inr e) = ap begins_character e

-- the beginning of a character
pub head_read : (item : List ℕ) (before : List (List ℕ)) (font : Glyphs) (d : Drawing) (width height sum new_sum : ℕ) → begins_character (opcode item) ≡ true → IsRead before font None
    → sum ≡ raster_sum before → (width ≡ width_of item) × (height ≡ height_of item) × (is_too_big item ≡ false) → new_sum ≡ sum + height * div_ceil width 8 → new_sum ≤ MAX_RASTER_BYTES
    → IsDrawn (record { head = item; commands = [] }) d
    → (fault_of_item before item ≡ None) × IsRead (item ∷ before) font (Some d) × (new_sum ≡ raster_sum (item ∷ before))
head_read item before font d width height sum new_sum begins read sum_is sides total few drawn =
    let size : height * div_ceil width 8 ≡ raster_size item = ap (λ n. n * div_ceil width 8) sides.1 ∙ ap (λ n. height_of item * div_ceil n 8) sides.0 in
    let whole : new_sum ≡ raster_sum before + raster_size item = total ∙ ap (λ n. n + height * div_ceil width 8) sum_is ∙ ap (λ n. raster_sum before + n) size in (
      ap (λ b. Wrong b (is_paint (opcode item)) before item (characters_of before)) begins
          ∙ limits (is_too_big item) (nat_lt MAX_RASTER_BYTES (raster_sum before + raster_size item)) (TooBig (code_of item)) FontTooBig sides.2
          (le-ltb MAX_RASTER_BYTES (raster_sum before + raster_size item) (omega (arith, whole, few))),
      (
        ap (λ b. Opened b (ends_character (opcode item)) (is_open before)) begins,
        record { head = item; commands = [] },
        characters_of before,
        ap (λ b. Characters b (is_open before) item before) begins,
        drawn,
        read.1,
      ),
      whole ∙ ap (λ b. raster_sum before + (if b then raster_size item else 0)) (sym begins),
    )

-- one whose raster is too much
pub head_too_much : (item : List ℕ) (before : List (List ℕ)) (width height sum : ℕ) → begins_character (opcode item) ≡ true → sum ≡ raster_sum before
    → (width ≡ width_of item) × (height ≡ height_of item) × (is_too_big item ≡ false) → MAX_RASTER_BYTES < sum + height * div_ceil width 8 → fault_of_item before item ≡ Some FontTooBig
head_too_much item before width height sum begins sum_is sides much =
    let size : height * div_ceil width 8 ≡ raster_size item = ap (λ n. n * div_ceil width 8) sides.1 ∙ ap (λ n. height_of item * div_ceil n 8) sides.0 in
    let whole : sum + height * div_ceil width 8 ≡ raster_sum before + raster_size item = ap (λ n. n + height * div_ceil width 8) sum_is ∙ ap (λ n. raster_sum before + n) size in
    ap (λ b. Wrong b (is_paint (opcode item)) before item (characters_of before)) begins
    ∙ ap (λ b. if b then Some (TooBig (code_of item)) else if nat_lt MAX_RASTER_BYTES (raster_sum before + raster_size item) then Some FontTooBig else None) sides.2
    ∙ ap (λ b. if b then Some FontTooBig else None) (lt-ltb MAX_RASTER_BYTES (raster_sum before + raster_size item) (omega (arith, whole, much)))

-- ---- the file so far

inside_is : (items : List (List ℕ)) (font : Glyphs) (drawn : Option Drawing) → IsRead items font drawn → is_open items ≡ is_some drawn
inside_is items font None h = h.0
inside_is items font (Some d) h = h.0

-- the item fits its place
pub item_here : (items : List (List ℕ)) (font : Glyphs) (drawn : Option Drawing) (item : List ℕ) → IsRead items font drawn → IsItem (is_some drawn) item → IsItem (is_open items) item
item_here items font drawn item h whole = subst (λ b. IsItem b item) (sym (inside_is items font drawn h)) whole

-- an item more
pub item_read : (bytes before item rest : List ℕ) (sum new_sum : ℕ) (font new_font : Glyphs) (drawn new_drawn : Option Drawing) (h : IsReadTo bytes before sum font drawn) → before ≡ item ++ rest
    → IsItem (is_some drawn) item → fault_of_item h.items item ≡ None → IsRead (item ∷ h.items) new_font new_drawn → new_sum ≡ raster_sum (item ∷ h.items) → IsReadTo bytes rest new_sum new_font new_drawn
item_read bytes before item rest sum new_sum font new_font drawn new_drawn h here whole right read sum_is = record {
  items = item ∷ h.items;
  begins = h.begins;
  sound = (h.sound, item_here h.items font drawn item h.read whole, right);
  text = h.text ∙ ap (λ t. text_of h.items ++ t) here ∙ sym (append_assoc (text_of h.items) item rest);
  sum_is = sum_is;
  read = read;
}

first_fault : (bytes before : List ℕ) (sum : ℕ) (font : Glyphs) (drawn : Option Drawing) (f : GfFault) (h : IsReadTo bytes before sum font drawn) → fault_after h.items before ≡ Some f → IsFirstFault bytes f
first_fault bytes before sum font drawn f h wrong = rw h.begins (record { items = h.items; rest = before; sound = h.sound; text = h.text; after = wrong })

-- what is wrong with the place of an item, or with a whole one, is the first fault
pub place_first : (bytes before : List ℕ) (sum : ℕ) (font : Glyphs) (drawn : Option Drawing) (f : GfFault) → IsReadTo bytes before sum font drawn → place_fault (is_some drawn) before ≡ Some f
    → IsFirstFault bytes f
place_first bytes before sum font drawn f h wrong =
    first_fault bytes before sum font drawn f h (ap (λ o. earlier_fault o (fault_of_item h.items (take (item_size before) before))) (ap (λ b. place_fault b before) (inside_is h.items font drawn h.read) ∙ wrong))

-- what is wrong with a whole item is the first fault
pub item_first : (bytes before item rest : List ℕ) (sum : ℕ) (font : Glyphs) (drawn : Option Drawing) (f : GfFault) (h : IsReadTo bytes before sum font drawn) → before ≡ item ++ rest
    → IsItem (is_some drawn) item → fault_of_item h.items item ≡ Some f → IsFirstFault bytes f
item_first bytes before item rest sum font drawn f h here whole wrong =
    first_fault bytes before sum font drawn f h (ap (fault_after h.items) here ∙ item_fault h.items item rest (item_here h.items font drawn item h.read whole) ∙ wrong)

pub item_stop : (bytes before item rest : List ℕ) (sum : ℕ) (font : Glyphs) (drawn : Option Drawing) (stop : GfStop) (h : IsReadTo bytes before sum font drawn) → before ≡ item ++ rest
    → IsItem (is_some drawn) item → IfFault stop (λ f. fault_of_item h.items item ≡ Some f) → IfFault stop (IsFirstFault bytes)
item_stop bytes before item rest sum font drawn (Fault f) h here whole wrong = item_first bytes before item rest sum font drawn f h here whole wrong
item_stop bytes before item rest sum font drawn NoMemory h here whole wrong = tt

-- the closing command
pub file_read : (bytes before unused : List ℕ) (sum : ℕ) (font : Glyphs) (drawn : Option Drawing) → IsReadTo bytes before sum font drawn → is_some drawn ≡ false → before ≡ 248 ∷ unused
    → (characters : List Character) × IsGfFile bytes characters × HasGlyphsOf characters font
file_read bytes before unused sum font None h closed here = (
  characters_of h.items,
  record {
    items = h.items;
    file = record { begins = h.begins; sound = h.sound; closed = h.read.0; unused = unused; whole = h.text ∙ ap (λ t. text_of h.items ++ t) here };
    characters_are = refl;
  },
  h.read.1,
)
file_read bytes before unused sum font (Some d) h closed here = absurd (true≢false closed)

-- ---- codes

-- a code that isn't negative is found by the number that it is
pub by_code : (z : ℤ) (n k : ℕ) (g h : Glyph) (o : Option Glyph) → z ≡ pos n → g ≡ h → (if n == k then Some g else o) ≡ (if int_eq z (pos k) then Some h else o)
by_code z n k g h o e same = ap (λ (z : ℤ). if int_eq z (pos k) then Some g else o) (sym e) ∙ ap (λ (g : Glyph). if int_eq z (pos k) then Some g else o) same

-- a negative one isn't found
pub by_none : (z : ℤ) (k : ℕ) (g o : Option Glyph) → int_lt z (pos 0) ≡ true → o ≡ (if int_eq z (pos k) then g else o)
by_none (pos n) k g o below = absurd (grind (arith, nat_tests, below))
by_none (negsuc n) k g o below = refl

pub whole_code : (z w : ℤ) → w ≡ z → int_le (pos 0) w ≡ true → z ≡ pos (nat_abs w)
whole_code z w e above = sym e ∙ itself w above
  where
    itself : (w : ℤ) → int_le (pos 0) w ≡ true → w ≡ pos (nat_abs w)
    itself (pos n) above = refl
    itself (negsuc n) above = absurd (true≢false (sym above))

pub negative_code : (z w : ℤ) → w ≡ z → int_le (pos 0) w ≡ false → int_lt z (pos 0) ≡ true
negative_code z w e below = ap (λ z. int_lt z (pos 0)) (sym e) ∙ itself w below
  where
    itself : (w : ℤ) → int_le (pos 0) w ≡ false → int_lt w (pos 0) ≡ true
    itself (pos n) below = absurd (grind (arith, nat_tests, below))
    itself (negsuc n) below = refl

-- ---- sums

pub sum_kept : (item : List ℕ) (before : List (List ℕ)) → IsItem true item → raster_sum (item ∷ before) ≡ raster_sum before
sum_kept item before h = ap (λ b. raster_sum before + (if b then raster_size item else 0)) (begins_none item h) ∙ omega arith

-- ---- the shape of a raster

raster_shaped : (ch : Character) → IsShaped (raster_of ch)
raster_shaped ch = made_shaped (width_of ch.head) (height_of ch.head) (raster_of ch) refl refl (λ y x. is_painted ch.commands x y) refl

-- the raster of a character that is open
pub read_shaped : (items : List (List ℕ)) (font : Glyphs) (d : Drawing) → IsRead items font (Some d) → IsShaped d.bits
read_shaped items font d read = subst IsShaped (sym read.4.bits) (raster_shaped read.1)
