-- The painter's steps keep what is drawn.
use Rattle.std.proofs.Common.{◌≡◌, ℕ, zero, suc, ◌+◌, ◌-◌, ◌*◌, ◌<◌, ◌≤◌, ◌⊎◌, inl, inr, Bool, true, false, ◌&&◌, ◌||◌, cond, List, [], ◌∷◌, ◌++◌, length, get_or, drop, replicate, refl, sym, ap, ◌∙◌, arith, length-append, append_assoc, append-nil, subst, min, not}
use Rattle.std.proofs.lemmas.Bool.Decides.{nat_tests}
use Rattle.std.proofs.lemmas.List.{length-replicate, replicate-append-replicate}
use Rattle.std.proofs.lemmas.Bool.{cases_lt}
use Rattle.std.proofs.Math.Nat.{mul-le-mul_left}
use Rattle.packed_rows.specs.Bitmap.{Bitmap, is_black, from_fn, IsShaped}
use Rattle.packed_rows.specs.Changes.{is_within, with_black, with_copies}
use Rattle.packed_rows.proofs.Lists.{length-from_fn, get_or-from_fn}
use Rattle.packed_rows.proofs.StoredBitmaps.{dot_of}
use Rattle.pk_runs.specs.declared.painter.Painter.{Painter}
use Rattle.pk_runs.specs.Painting.{painted, row_ended, shown, IsDrawn, IsReady}
use Rattle.pk_runs.proofs.Shown.{shown_painted, shown_ended, rows_alike, counts_alike}

pub black_dot : (b : Bool) (bits : Bitmap) (from until first last x y : ℕ) → x < bits.width → y < bits.height
    → is_black (cond b (with_black bits from until first last) bits) x y ≡ (b && (is_within from until x && is_within first last y) || is_black bits x y)
black_dot true bits from until first last x y in_row inside = dot_of bits.width bits.height x y (λ k r. is_within from until k && is_within first last r || is_black bits k r) in_row inside
black_dot false bits from until first last x y in_row inside = refl

copied_dot : (bits : Bitmap) (row k x y : ℕ) → y < bits.height → is_black (with_copies bits row k) x y ≡ is_black bits x (cond (is_within (row + 1) (row + 1 + k) y) row y)
copied_dot bits row k x y inside = ap (λ l. get_or l x false) (get_or-from_fn bits.height (λ r. get_or bits.rows (cond (is_within (row + 1) (row + 1 + k) r) row r) []) y [] inside)

pub painted_size : (b : Bool) (bits : Bitmap) (from until first last : ℕ) → ((cond b (with_black bits from until first last) bits).width ≡ bits.width) × ((cond b (with_black bits from until first last) bits).height ≡ bits.height)
painted_size true bits from until first last = (refl, refl)
painted_size false bits from until first last = (refl, refl)

source_inside : (r k y h : ℕ) → r < h → y < h → cond (is_within (r + 1) (r + 1 + k) y) r y < h
source_inside r k y h low inside = grind (arith, nat_tests)

pub black_shaped : (b : Bool) (bits : Bitmap) (from until first last : ℕ) → IsShaped bits → IsShaped (cond b (with_black bits from until first last) bits)
black_shaped true bits from until first last shaped = record {
  rows = length-from_fn bits.height _;
  columns = λ y inside. ap length (get_or-from_fn bits.height (λ r. from_fn bits.width (λ x. is_within from until x && is_within first last r || is_black bits x r)) y [] inside) ∙ length-from_fn bits.width _;
}
black_shaped false bits from until first last shaped = shaped

copies_shaped : (bits : Bitmap) (row k : ℕ) → row < bits.height → IsShaped bits → IsShaped (with_copies bits row k)
copies_shaped bits row k low shaped = record {
  rows = length-from_fn bits.height _;
  columns = λ y inside.
      ap length (get_or-from_fn bits.height (λ r. get_or bits.rows (cond (is_within (row + 1) (row + 1 + k) r) row r) []) y [] inside)
      ∙ shaped.columns (cond (is_within (row + 1) (row + 1 + k) y) row y) (source_inside row k y bits.height low inside);
}

painted_dots : (ps : List Bool) (rep : ℕ → ℕ) (mark : ℕ → Bool) (w h m : ℕ) (p : Painter) → (d : IsDrawn ps rep mark w h p) → (x y : ℕ) → x < w → y < h
    → is_black (painted p m).bits x y ≡ shown w (ps ++ replicate m p.black) rep d.whole x y
painted_dots ps rep mark w h m p d x y in_row inside =
    black_dot p.black p.bits p.column (p.column + m) p.row (p.row + 1) x y (omega (arith, in_row, d.wide)) (omega (arith, inside, d.high))
    ∙ ap (λ s. p.black && (is_within p.column (p.column + m) x && is_within p.row (p.row + 1) y) || s) (d.dots x y in_row inside)
    ∙ sym (shown_painted w ps rep d.whole p.column m p.black x y p.row d.len d.row)

longer : (ps : List Bool) (m : ℕ) (b : Bool) (k : ℕ) → length ps ≡ k → length (ps ++ replicate m b) ≡ k + m
longer ps m b k e = length-append ps (replicate m b) ∙ omega (arith, e, length-replicate m b)

pub drawn_in_row : (ps : List Bool) (rep : ℕ → ℕ) (mark : ℕ → Bool) (w h m : ℕ) (p : Painter) → p.column + m < w → IsDrawn ps rep mark w h p
    → IsDrawn (ps ++ replicate m p.black) rep mark w h (painted p m)
drawn_in_row ps rep mark w h m p fit d =
    let size = painted_size p.black p.bits p.column (p.column + m) p.row (p.row + 1) in
    record {
      whole = d.whole;
      wide = size.0 ∙ d.wide;
      high = size.1 ∙ d.high;
      len = longer ps m p.black (d.whole * w + p.column) d.len ∙ omega arith;
      shaped = black_shaped p.black p.bits p.column (p.column + m) p.row (p.row + 1) d.shaped;
      inside = fit;
      row = d.row;
      copies = d.copies;
      repeated = d.repeated;
      none_after = d.none_after;
      dots = painted_dots ps rep mark w h m p d;
    }

pub drawn_row_ends : (ps : List Bool) (rep : ℕ → ℕ) (mark : ℕ → Bool) (w h m : ℕ) (p : Painter) → p.column + m ≡ w → p.row < h → IsDrawn ps rep mark w h p
    → IsDrawn (ps ++ replicate m p.black) rep mark w h (row_ended (painted p m))
drawn_row_ends ps rep mark w h m p full low d = record {
  whole = suc d.whole;
  wide = size.0 ∙ d.wide;
  high = size.1 ∙ d.high;
  len = longer ps m p.black (d.whole * w + p.column) d.len ∙ omega (arith, full);
  shaped = copies_shaped (painted p m).bits p.row p.copies (omega (arith, low, d.high, size.1)) (black_shaped p.black p.bits p.column (p.column + m) p.row (p.row + 1) d.shaped);
  inside = omega (arith, d.inside);
  row = omega (arith, d.row, d.copies);
  copies = sym (d.none_after (suc d.whole) (omega arith)).0;
  repeated = sym (d.none_after (suc d.whole) (omega arith)).1;
  none_after = λ r after. d.none_after r (omega (arith, after));
  dots = λ x y in_row inside.
      copied_dot (painted p m).bits p.row p.copies x y (omega (arith, inside, d.high, size.1))
      ∙ painted_dots ps rep mark w h m p d x (cond (is_within (p.row + 1) (p.row + 1 + p.copies) y) p.row y) in_row (source_inside p.row p.copies y h low inside)
      ∙ shown_ended w (ps ++ replicate m p.black) rep d.whole x y p.row p.copies (longer ps m p.black (d.whole * w + p.column) d.len ∙ omega (arith, full)) d.row d.copies;
}
  where
    size : ((painted p m).bits.width ≡ p.bits.width) × ((painted p m).bits.height ≡ p.bits.height)
    size = painted_size p.black p.bits p.column (p.column + m) p.row (p.row + 1)

-- the colour of the next run changes nothing of what is drawn
pub drawn_turned : (ps : List Bool) (rep : ℕ → ℕ) (mark : ℕ → Bool) (w h : ℕ) (p : Painter) (b : Bool) → IsDrawn ps rep mark w h p → IsDrawn ps rep mark w h (record p { black = b })
drawn_turned ps rep mark w h p b d = record {
  whole = d.whole;
  wide = d.wide;
  high = d.high;
  len = d.len;
  shaped = d.shaped;
  inside = d.inside;
  row = d.row;
  copies = d.copies;
  repeated = d.repeated;
  none_after = d.none_after;
  dots = d.dots;
}

-- a repeat count for the next row
pub drawn_repeat : (ps : List Bool) (rep other : ℕ → ℕ) (mark others : ℕ → Bool) (w h n : ℕ) (p : Painter) → (d : IsDrawn ps rep mark w h p)
    → other d.whole ≡ n → others d.whole ≡ true → ((r : ℕ) → r < d.whole → rep r ≡ other r) → ((r : ℕ) → d.whole < r → (other r ≡ 0) × (others r ≡ false))
    → IsDrawn ps other others w h (record p { copies = n; repeated = true })
drawn_repeat ps rep other mark others w h n p d counted marked same after = record {
  whole = d.whole;
  wide = d.wide;
  high = d.high;
  len = d.len;
  shaped = d.shaped;
  inside = d.inside;
  row = d.row ∙ counts_alike rep other d.whole same;
  copies = sym counted;
  repeated = sym marked;
  none_after = after;
  dots = λ x y in_row inside. d.dots x y in_row inside ∙ ap (λ l. get_or (get_or (l ++ drop (d.whole * w) ps ∷ []) y []) x false) (rows_alike w ps rep other d.whole same);
}

-- ---- the pieces of a run

pub record RunsOn (n : ℕ) (old : Painter) (left : ℕ) (p : Painter) : Type 0 where
  pub wide : p.bits.width ≡ old.bits.width
  pub high : p.bits.height ≡ old.bits.height
  pub colour : p.black ≡ old.black
  pub inside : p.column < old.bits.width
  pub ready : IsReady p
  pub bound : left ≤ n
  pub room : left + p.column + old.bits.width * p.copies + old.bits.width * p.row ≤ old.bits.width * old.bits.height
  pub drawn : (ps : List Bool) (rep : ℕ → ℕ) (mark : ℕ → Bool) → IsDrawn ps rep mark old.bits.width old.bits.height old
      → IsDrawn (ps ++ replicate (n - left) old.black) rep mark old.bits.width old.bits.height p

no_more : (ps : List Bool) (n : ℕ) (b : Bool) → ps ++ replicate (n - n) b ≡ ps
no_more ps n b = let none : n - n ≡ 0 = omega arith in ap (λ k. ps ++ replicate k b) none ∙ append-nil ps

pub runs_none : (n : ℕ) (old : Painter) → old.column < old.bits.width → IsReady old
    → n + old.column + old.bits.width * old.copies + old.bits.width * old.row ≤ old.bits.width * old.bits.height → RunsOn n old n old
runs_none n old inside ready room = record {
  wide = refl;
  high = refl;
  colour = refl;
  inside = inside;
  ready = ready;
  bound = omega arith;
  room = room;
  drawn = λ ps rep mark d. subst (λ (l : List Bool). IsDrawn l rep mark old.bits.width old.bits.height old) (sym (no_more ps n old.black)) d;
}

smaller : (w a b : ℕ) → w * a < w * b → a < b
smaller w a b h = by (cases_lt a b)
  where
    by : (a < b) ⊎ (b ≤ a) → a < b
    by (inl below) = below
    by (inr above) = absurd (omega (arith, h, mul-le-mul_left w above))

-- while pixels are left the raster is not complete
pub runs_low : (n : ℕ) (old : Painter) (left : ℕ) (p : Painter) → 0 < left → RunsOn n old left p → p.row < p.bits.height
runs_low n old left p some r =
    let below : old.bits.width * p.row < old.bits.width * old.bits.height = omega (arith, r.room, some) in
    omega (arith, smaller old.bits.width p.row old.bits.height below, r.high)

joined : (ps : List Bool) (n left piece : ℕ) (b c : Bool) → c ≡ b → piece ≤ left → left ≤ n → (ps ++ replicate (n - left) b) ++ replicate piece c ≡ ps ++ replicate (n - (left - piece)) b
joined ps n left piece b c e small bound =
    let sum : n - left + piece ≡ n - (left - piece) = omega (arith, small, bound) in
    ap (λ k. (ps ++ replicate (n - left) b) ++ replicate piece k) e ∙ append_assoc ps (replicate (n - left) b) (replicate piece b)
    ∙ ap (λ l. ps ++ l) (replicate-append-replicate (n - left) piece b) ∙ ap (λ k. ps ++ replicate k b) sum

pub runs_more : (n : ℕ) (old : Painter) (left piece : ℕ) (p next : Painter) → 0 < left → piece ≡ min left (old.bits.width - p.column)
    → (p.column + piece < p.bits.width → next ≡ painted p piece) → (p.column + piece ≡ p.bits.width → next ≡ row_ended (painted p piece))
    → RunsOn n old left p → RunsOn n old (left - piece) next
runs_more n old left piece p next some is_piece in_row row_ends r = by (cases_lt left (old.bits.width - p.column))
  where
    size : ((painted p piece).bits.width ≡ p.bits.width) × ((painted p piece).bits.height ≡ p.bits.height)
    size = painted_size p.black p.bits p.column (p.column + piece) p.row (p.row + 1)

    low : p.row < p.bits.height
    low = runs_low n old left p some r

    by : (left < old.bits.width - p.column) ⊎ (old.bits.width - p.column ≤ left) → RunsOn n old (left - piece) next
    by (inl short) =
        let whole : piece ≡ left = omega (arith, is_piece, short) in
        let fit : p.column + piece < old.bits.width = omega (arith, whole, short) in
        subst (λ (q : Painter). RunsOn n old (left - piece) q) (sym (in_row (omega (arith, fit, r.wide)))) (record {
          wide = size.0 ∙ r.wide;
          high = size.1 ∙ r.high;
          colour = r.colour;
          inside = fit;
          ready = record { low = omega (arith, r.ready.low, size.1); fit = λ h. omega (arith, r.ready.fit (omega (arith, h, size.1)), size.1) };
          bound = omega (arith, r.bound);
          room = omega (arith, r.room, whole);
          drawn = λ ps rep mark d. subst (λ (l : List Bool). IsDrawn l rep mark old.bits.width old.bits.height (painted p piece)) (joined ps n left piece old.black p.black r.colour (omega (arith, whole)) r.bound)
              (drawn_in_row (ps ++ replicate (n - left) old.black) rep mark old.bits.width old.bits.height piece p fit (r.drawn ps rep mark d));
        })
    by (inr long) =
        let full : p.column + piece ≡ old.bits.width = omega (arith, is_piece, long, r.inside) in
        let within : p.row + 1 + p.copies ≤ p.bits.height = r.ready.fit low in
        subst (λ (q : Painter). RunsOn n old (left - piece) q) (sym (row_ends (full ∙ sym r.wide))) (record {
          wide = size.0 ∙ r.wide;
          high = size.1 ∙ r.high;
          colour = r.colour;
          inside = omega (arith, r.inside);
          ready = record { low = omega (arith, within, size.1); fit = λ h. omega (arith, h) };
          bound = omega (arith, r.bound);
          room = omega (arith, r.room, full, is_piece, long);
          drawn = λ ps rep mark d. subst (λ (l : List Bool). IsDrawn l rep mark old.bits.width old.bits.height (row_ended (painted p piece))) (joined ps n left piece old.black p.black r.colour (omega (arith, is_piece, long)) r.bound)
              (drawn_row_ends (ps ++ replicate (n - left) old.black) rep mark old.bits.width old.bits.height piece p full (omega (arith, low, r.high)) (r.drawn ps rep mark d));
        })

-- ---- a run by whole rows

-- a piece up to the row's end
pub runs_row : (n : ℕ) (old : Painter) (left piece : ℕ) (p mid next : Painter) → piece ≡ p.bits.width - p.column → piece ≤ left → mid ≡ painted p piece → next ≡ row_ended mid
    → RunsOn n old left p → RunsOn n old (left - piece) next
runs_row n old left piece p mid next is_piece long is_mid is_next r =
    runs_more n old left piece p next (omega (arith, is_piece, long, r.inside, r.wide)) (omega (arith, is_piece, long, r.wide)) (λ h. absurd (omega (arith, h, is_piece))) (λ _. is_next ∙ ap row_ended is_mid) r

pub runs_fit : (n : ℕ) (old : Painter) (left piece : ℕ) (p mid : Painter) → 0 < left → mid ≡ painted p piece → RunsOn n old left p → (mid.row + mid.copies < mid.bits.height) × (mid.bits.height ≡ old.bits.height)
runs_fit n old left piece p mid some is_mid r =
    let size = painted_size p.black p.bits p.column (p.column + piece) p.row (p.row + 1) in
    subst (λ (q : Painter). (q.row + q.copies < q.bits.height) × (q.bits.height ≡ old.bits.height)) (sym is_mid)
    (omega (arith, r.ready.fit (runs_low n old left p some r), size.1), size.1 ∙ r.high)

-- the last piece, within a row
pub record IsRun (n : ℕ) (old new : Painter) : Type 0 where
  pub turned : new.black ≡ not old.black
  pub ready : IsReady new
  pub wide : new.bits.width ≡ old.bits.width
  pub high : new.bits.height ≡ old.bits.height
  pub drawn : (ps : List Bool) (rep : ℕ → ℕ) (mark : ℕ → Bool) → IsDrawn ps rep mark old.bits.width old.bits.height old
      → IsDrawn (ps ++ replicate n old.black) rep mark old.bits.width old.bits.height new

pub runs_end : (n : ℕ) (old : Painter) (left : ℕ) (p last : Painter) → left < p.bits.width - p.column → last ≡ record (painted p left) { black = not p.black }
    → RunsOn n old left p → IsRun n old last
runs_end n old left p last short is_last r =
    let size = painted_size p.black p.bits p.column (p.column + left) p.row (p.row + 1) in
    subst (λ (q : Painter). IsRun n old q) (sym is_last) (record {
      turned = ap not r.colour;
      ready = record { low = omega (arith, r.ready.low, size.1); fit = λ h. omega (arith, r.ready.fit (omega (arith, h, size.1)), size.1) };
      wide = size.0 ∙ r.wide;
      high = size.1 ∙ r.high;
      drawn = λ ps rep mark d.
          let whole : n - (left - left) ≡ n = omega arith in
          drawn_turned (ps ++ replicate n old.black) rep mark old.bits.width old.bits.height (painted p left) (not p.black)
          (subst (λ (l : List Bool). IsDrawn l rep mark old.bits.width old.bits.height (painted p left))
          (joined ps n left left old.black p.black r.colour (omega arith) r.bound ∙ ap (λ k. ps ++ replicate k old.black) whole)
          (drawn_in_row (ps ++ replicate (n - left) old.black) rep mark old.bits.width old.bits.height left p (omega (arith, short, r.wide)) (r.drawn ps rep mark d)));
    })

-- the same where the last piece may have no pixel
pub runs_last : (n : ℕ) (old : Painter) (left : ℕ) (p last : Painter) → left < p.bits.width - p.column → (left ≡ 0 → last ≡ record p { black = not p.black })
    → (0 < left → last ≡ record (painted p left) { black = not p.black }) → RunsOn n old left p → IsRun n old last
runs_last n old zero p last short none some r =
    subst (λ (q : Painter). IsRun n old q) (sym (none refl)) (record {
      turned = ap not r.colour;
      ready = record { low = r.ready.low; fit = r.ready.fit };
      wide = r.wide;
      high = r.high;
      drawn = λ ps rep mark d.
          let whole : n - 0 ≡ n = omega arith in
          drawn_turned (ps ++ replicate n old.black) rep mark old.bits.width old.bits.height p (not p.black)
          (subst (λ (k : ℕ). IsDrawn (ps ++ replicate k old.black) rep mark old.bits.width old.bits.height p) whole (r.drawn ps rep mark d));
    })
runs_last n old (suc left) p last short none some r = runs_end n old (suc left) p last short (some (omega arith)) r
