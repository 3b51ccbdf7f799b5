-- A white raster before the first item, and a complete one after the last.
use Rattle.std.proofs.Common.{◌≡◌, ℕ, zero, suc, ◌+◌, ◌-◌, ◌*◌, ◌<◌, ◌≤◌, ◌⊎◌, inl, inr, Bool, true, false, ◌&&◌, ◌||◌, ltb, cond, ◌/◌, ◌%◌, List, [], length, get_or, take, drop, replicate, refl, sym, ap, subst, ◌∙◌, arith}
use Rattle.std.proofs.lemmas.Bool.{cases_lt, cases_eq, lt-ltb, le-ltb, and_left, and_from, and_parts, false_from_ne_true}
use Rattle.std.proofs.lemmas.Bool.Decides.{nat_tests}
use Rattle.std.proofs.lemmas.Nat.{div-mul-add, mod-mul-add, div-add-mod', mul-add-lt}
use Rattle.std.proofs.lemmas.List.{ext_get_or, length-drop, length-take-le, get_or_append_left, get_or-append_right, get_or-replicate, drop_all}
use Rattle.packed_rows.specs.Bitmap.{Bitmap, is_black, from_fn, IsShaped}
use Rattle.packed_rows.specs.Changes.{is_within, white_bitmap, with_black}
use Rattle.packed_rows.specs.Packing.{pixel}
use Rattle.packed_rows.proofs.Lists.{length-from_fn, get_or-from_fn}
use Rattle.packed_rows.proofs.StoredBitmaps.{dot_of}
use Rattle.pk_runs.specs.Numbers.{nybbles_of}
use Rattle.pk_runs.specs.Raster.{pixels, copies, rows_with_copies, count_with_copies, IsRunRaster, IsPlainRaster, IsStuck}
use Rattle.pk_runs.specs.declared.faults.RunFault.{RunFault}
use Rattle.pk_runs.proofs.Drawn.{painted_size, black_shaped, black_dot}
use Rattle.pk_runs.specs.Painting.{shown, IsReady}
use Rattle.pk_runs.specs.Reading.{IsPaintedTo}
use Rattle.pk_runs.specs.declared.painter.Painter.{Painter}
use Rattle.pk_runs.proofs.Shown.{length-rows, shown_above}
use Rattle.pk_runs.proofs.Steps.{at_row, at_next_row}

-- ---- before the first item

pub white_shaped : (w h : ℕ) → IsShaped (white_bitmap w h)
white_shaped w h = record {
  rows = length-from_fn h _;
  columns = λ y inside. ap length (get_or-from_fn h (λ r. from_fn w (λ x. false)) y [] inside) ∙ length-from_fn w _;
}

abbrev begun : ℕ → ℕ → Bool → Painter
begun w h black = record { bits = white_bitmap w h; row = 0; column = 0; copies = 0; repeated = false; black = black }

nothing_shown : (w : ℕ) (x y : ℕ) → shown w [] (copies w []) 0 x y ≡ false
nothing_shown w x zero = ap (λ l. get_or l x false) (drop_all (0 * w) [] (omega arith))
nothing_shown w x (suc y) = refl

pub painted_none : (bytes : List ℕ) (dyn_f : ℕ) (first : Bool) (w h : ℕ) → 1 ≤ w → IsPaintedTo bytes dyn_f first w h (nybbles_of bytes) (begun w h first)
painted_none bytes dyn_f first w h some = record {
  items = [];
  used = [];
  nybbles = refl;
  spelled = refl;
  fits = tt;
  colour = refl;
  drawn = record {
    whole = 0;
    wide = refl;
    high = refl;
    len = omega arith;
    shaped = white_shaped w h;
    inside = some;
    row = refl;
    copies = refl;
    repeated = refl;
    none_after = λ r _. (refl, refl);
    dots = λ x y in_row inside. dot_of w h x y (λ k r. false) in_row inside ∙ sym (nothing_shown w x y);
  };
}

-- ---- after the last

row_wide_more : (w : ℕ) (ps : List Bool) (rep : ℕ → ℕ) (n y : ℕ) → suc n * w ≤ length ps → y < count_with_copies rep (suc n) → (y < count_with_copies rep n) ⊎ (count_with_copies rep n ≤ y)
    → (n * w ≤ length ps → y < count_with_copies rep n → length (get_or (rows_with_copies w ps rep n) y []) ≡ w) → length (get_or (rows_with_copies w ps rep (suc n)) y []) ≡ w
row_wide_more w ps rep n y fit h (inl above) before =
    ap length (get_or_append_left (rows_with_copies w ps rep n) (replicate (1 + rep n) (take w (drop (n * w) ps))) [] y (omega (arith, above, length-rows w ps rep n)))
    ∙ before (omega (arith, fit)) above
row_wide_more w ps rep n y fit h (inr low) before =
    ap length (get_or-append_right (rows_with_copies w ps rep n) (replicate (1 + rep n) (take w (drop (n * w) ps))) (count_with_copies rep n) y [] (length-rows w ps rep n) low
    ∙ get_or-replicate (1 + rep n) (y - count_with_copies rep n) (take w (drop (n * w) ps)) [] (omega (arith, low, h)))
    ∙ length-take-le w (drop (n * w) ps) (omega (arith, fit, length-drop (n * w) ps))

-- each complete row is as wide as the raster
pub row_wide : (w : ℕ) (ps : List Bool) (rep : ℕ → ℕ) (n y : ℕ) → n * w ≤ length ps → y < count_with_copies rep n → length (get_or (rows_with_copies w ps rep n) y []) ≡ w
row_wide w ps rep zero y fit h = absurd (omega (arith, h))
row_wide w ps rep (suc n) y fit h = row_wide_more w ps rep n y fit h (cases_lt y (count_with_copies rep n)) (row_wide w ps rep n y)

same_rows : (w h n : ℕ) (ps : List Bool) (rep : ℕ → ℕ) (b : Bitmap) → b.width ≡ w → b.height ≡ h → IsShaped b → n * w ≤ length ps → count_with_copies rep n ≡ h
    → ((x y : ℕ) → x < w → y < h → is_black b x y ≡ shown w ps rep n x y) → b.rows ≡ rows_with_copies w ps rep n
same_rows w h n ps rep b wide high shaped fit complete dots = ext_get_or [] b.rows (rows_with_copies w ps rep n) (shaped.rows ∙ high ∙ sym complete ∙ sym (length-rows w ps rep n)) row
  where
    row : (y : ℕ) → y < length b.rows → get_or b.rows y [] ≡ get_or (rows_with_copies w ps rep n) y []
    row y inside =
        let low : y < h = omega (arith, inside, shaped.rows, high) in
        let above : y < count_with_copies rep n = omega (arith, low, complete) in
        let long : length (get_or b.rows y []) ≡ w = shaped.columns y (omega (arith, low, high)) ∙ wide in
        ext_get_or false (get_or b.rows y []) (get_or (rows_with_copies w ps rep n) y []) (long ∙ sym (row_wide w ps rep n y fit above))
        (λ x in_row. dots x y (omega (arith, in_row, long)) low ∙ shown_above w ps rep n x y above)

pub complete : (bytes : List ℕ) (dyn_f : ℕ) (first : Bool) (w h : ℕ) (rest : List ℕ) (p : Painter) → h ≤ p.row → p.row ≤ h → IsPaintedTo bytes dyn_f first w h rest p
    → IsRunRaster bytes dyn_f first w h p.bits.rows
complete bytes dyn_f first w h rest p low high d = record {
  items = d.items;
  used = d.used;
  unused = rest;
  nybbles = d.nybbles;
  spelled = d.spelled;
  fits = d.fits;
  complete = omega (arith, low, high, at_row first d.items w h p d.drawn);
  stand = same_rows w h d.drawn.whole (pixels first d.items) (copies w d.items) p.bits d.drawn.wide d.drawn.high d.drawn.shaped (omega (arith, d.drawn.len)) (omega (arith, low, high, d.drawn.row)) d.drawn.dots
      ∙ ap (rows_with_copies w (pixels first d.items) (copies w d.items)) (sym (at_next_row first d.items w h p d.drawn));
}

pub painted_start : (bytes nybbles : List ℕ) (dyn_f : ℕ) (first : Bool) (w h : ℕ) (bits : Bitmap) (p : Painter) → 1 ≤ w → nybbles ≡ nybbles_of bytes
    → p ≡ record { bits = bits; row = 0; column = 0; copies = 0; repeated = false; black = first } → bits ≡ white_bitmap w h → IsPaintedTo bytes dyn_f first w h nybbles p
painted_start bytes nybbles dyn_f first w h bits p some e f g =
    subst (λ (l : List ℕ). IsPaintedTo bytes dyn_f first w h l p) (sym e) (subst (λ (q : Painter). IsPaintedTo bytes dyn_f first w h (nybbles_of bytes) q) (sym (f ∙ ap (λ b. make b first) g)) (painted_none bytes dyn_f first w h some))
  where
    make : Bitmap → Bool → Painter
    make b black = record { bits = b; row = 0; column = 0; copies = 0; repeated = false; black = black }

pub ready_start : (first : Bool) (bits : Bitmap) (p : Painter) → p ≡ record { bits = bits; row = 0; column = 0; copies = 0; repeated = false; black = first } → IsReady p
ready_start first bits p e = subst IsReady (sym e) (record { low = omega arith; fit = λ h. omega (arith, h) })

pub resized : (bytes : List ℕ) (dyn_f : ℕ) (first : Bool) (w h w' h' : ℕ) (rest : List ℕ) (p : Painter) → w' ≡ w → h' ≡ h → IsPaintedTo bytes dyn_f first w h rest p → IsPaintedTo bytes dyn_f first w' h' rest p
resized bytes dyn_f first w h w' h' rest p e f d = subst (λ (n : ℕ). IsPaintedTo bytes dyn_f first n h' rest p) (sym e) (subst (λ (n : ℕ). IsPaintedTo bytes dyn_f first w n rest p) (sym f) d)

pub stuck_at_size : (bytes : List ℕ) (dyn_f w h w' h' : ℕ) (fault : RunFault) → w' ≡ w → h' ≡ h → IsStuck bytes dyn_f w' h' fault → IsStuck bytes dyn_f w h fault
stuck_at_size bytes dyn_f w h w' h' fault e f d = subst (λ (n : ℕ). IsStuck bytes dyn_f n h fault) e (subst (λ (n : ℕ). IsStuck bytes dyn_f w' n fault) f d)

-- ---- plain bitmaps

-- rows of a shaped bitmap that is made pixel by pixel
made_rows : (w h : ℕ) (f : ℕ → ℕ → Bool) (b : Bitmap) → b.width ≡ w → b.height ≡ h → IsShaped b → ((x y : ℕ) → x < w → y < h → is_black b x y ≡ f x y) → b.rows ≡ from_fn h (λ y. from_fn w (λ x. f x y))
made_rows w h f b wide high shaped dots = ext_get_or [] b.rows (from_fn h (λ y. from_fn w (λ x. f x y))) (shaped.rows ∙ high ∙ sym (length-from_fn h (λ y. from_fn w (λ x. f x y)))) row
  where
    row : (y : ℕ) → y < length b.rows → get_or b.rows y [] ≡ get_or (from_fn h (λ r. from_fn w (λ x. f x r))) y []
    row y inside =
        let low : y < h = omega (arith, inside, shaped.rows, high) in
        let long : length (get_or b.rows y []) ≡ w = shaped.columns y (omega (arith, low, high)) ∙ wide in
        ext_get_or false (get_or b.rows y []) (from_fn w (λ x. f x y)) (long ∙ sym (length-from_fn w (λ x. f x y)))
        (λ x in_row. dots x y (omega (arith, in_row, long)) low ∙ sym (get_or-from_fn w (λ k. f k y) x false (omega (arith, in_row, long))))
        ∙ sym (get_or-from_fn h (λ r. from_fn w (λ x. f x r)) y [] low)

-- the first pixels of a plain bitmap are painted
pub record IsPlainTo (f : ℕ → Bool) (w h place : ℕ) (b : Bitmap) : Type 0 where
  pub wide : b.width ≡ w
  pub high : b.height ≡ h
  pub shaped : IsShaped b
  pub dots : (x y : ℕ) → x < w → y < h → is_black b x y ≡ (ltb (y * w + x) place && f (y * w + x))

pub plain_none : (f : ℕ → Bool) (w h : ℕ) (b : Bitmap) → b ≡ white_bitmap w h → IsPlainTo f w h 0 b
plain_none f w h b e = subst (λ (q : Bitmap). IsPlainTo f w h 0 q) (sym e) (record {
  wide = refl;
  high = refl;
  shaped = white_shaped w h;
  dots = λ x y in_row inside. dot_of w h x y (λ k r. false) in_row inside ∙ sym (and_left (ltb (y * w + x) 0) (f (y * w + x)) (le-ltb (y * w + x) 0 (omega arith)));
})

one_place : (w k x y : ℕ) → 0 < w → x < w → y * w + x ≡ k → (x ≡ k % w) × (y ≡ k / w)
one_place w k x y some h e = (sym (ap (λ n. n % w) (sym e) ∙ mod-mul-add y w x h), sym (ap (λ n. n / w) (sym e) ∙ div-mul-add y w x h))

plain_dot : (f : ℕ → Bool) (w k x y : ℕ) (old : Bool) → 0 < w → x < w → old ≡ (ltb (y * w + x) k && f (y * w + x))
    → ((f k && (is_within (k % w) (k % w + 1) x && is_within (k / w) (k / w + 1) y)) || old) ≡ (ltb (y * w + x) (k + 1) && f (y * w + x))
plain_dot f w k x y old some h e = by (cases_eq (y * w + x) k)
  where
    here : (a b : ℕ) → a ≡ b → is_within b (b + 1) a ≡ true
    here a b g = grind (arith, nat_tests)

    apart : (a b : ℕ) → is_within b (b + 1) a ≡ true → a ≡ b
    apart a b g = grind (arith, nat_tests)

    now : (a k : ℕ) → a ≡ k → ltb a (k + 1) ≡ true
    now a k g = grind (arith, nat_tests)

    later : (a k : ℕ) → (a ≡ k → ⊥) → ltb a k ≡ ltb a (k + 1)
    later a k g = grind (arith, nat_tests)

    both : (p i o : Bool) → i ≡ true → o ≡ false → ((p && i) || o) ≡ (true && p)
    both true i o e1 e2 = ap (λ z. z || o) e1
    both false i o e1 e2 = e2

    neither : (p i o : Bool) → i ≡ false → ((p && i) || o) ≡ o
    neither true i o e1 = ap (λ z. z || o) e1
    neither false i o e1 = refl

    by : (y * w + x ≡ k) ⊎ (y * w + x ≡ k → ⊥) → ((f k && (is_within (k % w) (k % w + 1) x && is_within (k / w) (k / w + 1) y)) || old) ≡ (ltb (y * w + x) (k + 1) && f (y * w + x))
    by (inl same) =
        let place = one_place w k x y some h same in
        both (f k) (is_within (k % w) (k % w + 1) x && is_within (k / w) (k / w + 1) y) old
        (and_from (is_within (k % w) (k % w + 1) x) (is_within (k / w) (k / w + 1) y) (here x (k % w) place.0) (here y (k / w) place.1))
        (e ∙ and_left (ltb (y * w + x) k) (f (y * w + x)) (le-ltb (y * w + x) k (omega (arith, same))))
        ∙ ap (λ t. t && f k) (sym (now (y * w + x) k same)) ∙ ap (λ n. ltb (y * w + x) (k + 1) && f n) (sym same)
    by (inr other) =
        neither (f k) (is_within (k % w) (k % w + 1) x && is_within (k / w) (k / w + 1) y) old
        (false_from_ne_true (is_within (k % w) (k % w + 1) x && is_within (k / w) (k / w + 1) y)
        (λ t. let parts = and_parts (is_within (k % w) (k % w + 1) x) (is_within (k / w) (k / w + 1) y) t in
        other (ap (λ n. n * w + x) (apart y (k / w) parts.1) ∙ ap (λ n. k / w * w + n) (apart x (k % w) parts.0) ∙ div-add-mod' k w)))
        ∙ e ∙ ap (λ t. t && f (y * w + x)) (later (y * w + x) k other)

pub plain_more : (f : ℕ → Bool) (w h k : ℕ) (b new : Bitmap) → 0 < w → new ≡ cond (f k) (with_black b (k % w) (k % w + 1) (k / w) (k / w + 1)) b → IsPlainTo f w h k b → IsPlainTo f w h (k + 1) new
plain_more f w h k b new some e d =
    let size = painted_size (f k) b (k % w) (k % w + 1) (k / w) (k / w + 1) in
    subst (λ (q : Bitmap). IsPlainTo f w h (k + 1) q) (sym e) (record {
      wide = size.0 ∙ d.wide;
      high = size.1 ∙ d.high;
      shaped = black_shaped (f k) b (k % w) (k % w + 1) (k / w) (k / w + 1) d.shaped;
      dots = λ x y in_row inside.
          black_dot (f k) b (k % w) (k % w + 1) (k / w) (k / w + 1) x y (omega (arith, in_row, d.wide)) (omega (arith, inside, d.high))
          ∙ plain_dot f w k x y (is_black b x y) some in_row (d.dots x y in_row inside);
    })

pub plain_all : (bytes : List ℕ) (w h k : ℕ) (b : Bitmap) → w * h ≤ k → w * h ≤ 8 * length bytes → IsPlainTo (pixel bytes) w h k b → (b.width ≡ w) × (b.height ≡ h) × IsPlainRaster bytes w h b.rows
plain_all bytes w h k b all enough d = (
  d.wide,
  d.high,
  (
    enough,
    made_rows w h (λ x y. pixel bytes (y * w + x)) b d.wide d.high d.shaped
        (λ x y in_row inside. d.dots x y in_row inside ∙ ap (λ t. t && pixel bytes (y * w + x)) (lt-ltb (y * w + x) k (omega (arith, all, mul-add-lt y w x h inside in_row)))),
  ),
)

-- rows given pixel by pixel
pub given_all : (f : ℕ → Bool) (w h k : ℕ) (b : Bitmap) (rows : List (List Bool)) → w * h ≤ k → length rows ≡ h → ((y : ℕ) → y < h → length (get_or rows y []) ≡ w)
    → ((x y : ℕ) → x < w → y < h → f (y * w + x) ≡ get_or (get_or rows y []) x false) → IsPlainTo f w h k b → b ≡ record { width = w; height = h; rows = rows }
given_all f w h k b rows all high wide same d = ap (λ n. make n b.height b.rows) d.wide ∙ ap (λ n. make w n b.rows) d.high ∙ ap (λ r. make w h r) (made ∙ kept)
  where
    make : ℕ → ℕ → List (List Bool) → Bitmap
    make n m r = record { width = n; height = m; rows = r }

    made : b.rows ≡ from_fn h (λ y. from_fn w (λ x. f (y * w + x)))
    made = made_rows w h (λ x y. f (y * w + x)) b d.wide d.high d.shaped
        (λ x y in_row inside. d.dots x y in_row inside ∙ ap (λ t. t && f (y * w + x)) (lt-ltb (y * w + x) k (omega (arith, all, mul-add-lt y w x h inside in_row))))

    kept : from_fn h (λ y. from_fn w (λ x. f (y * w + x))) ≡ rows
    kept = ext_get_or [] (from_fn h (λ y. from_fn w (λ x. f (y * w + x)))) rows (length-from_fn h (λ y. from_fn w (λ x. f (y * w + x))) ∙ sym high)
        (λ y inside. let low : y < h = omega (arith, inside, length-from_fn h (λ r. from_fn w (λ x. f (r * w + x)))) in
        get_or-from_fn h (λ r. from_fn w (λ x. f (r * w + x))) y [] low
        ∙ ext_get_or false (from_fn w (λ x. f (y * w + x))) (get_or rows y []) (length-from_fn w (λ x. f (y * w + x)) ∙ sym (wide y low))
        (λ x in_row. let column : x < w = omega (arith, in_row, length-from_fn w (λ k. f (y * w + k))) in get_or-from_fn w (λ k. f (y * w + k)) x false column ∙ same x y column low))
