-- The bytes of the runs stand for the raster.
use Rattle.std.proofs.Common.{◌≡◌, ◌∙◌, inl, inr, ℕ, zero, suc, ◌+◌, ◌-◌, ◌*◌, ◌/◌, ◌%◌, ◌<◌, ◌≤◌, Bool, true, false, not, List, [], ◌∷◌, ◌++◌, length, get_or, replicate, refl, sym, ap, subst, arith, append-nil, append_assoc, length-append}
use Rattle.std.specs.List.{AllByRecursion, list_any}
use Rattle.std.proofs.Math.Nat.{mul-le-mul_right}
use Rattle.std.proofs.lemmas.Bool.{and_parts, false_from_ne_true}
use Rattle.std.proofs.lemmas.Nat.{div-mul-add}
use Rattle.pk_runs.specs.Numbers.{Item}
use Rattle.pk_runs.specs.Raster.{IsRunRaster, colour_after, copies, count_with_copies, has_repeat, next_row, pixel_count, pixels, rows_with_copies}
use Rattle.pk_runs.proofs.Shown.{counts_alike, length-rows, rows_alike}
use Rattle.pk_runs.proofs.Steps.{length-pixels}
use Rattle.pk_packer.specs.Laws.{RunsAreLongest, below_of, joined}
use Rattle.pk_packer.specs.Spelling.{HoldNybbles, items_text}
use Rattle.pk_packer.specs.Written.{Group, Progress, first_colour, has_both_colours, same_colour, with_pixels, with_rows, written_rows, written_runs}
use Rattle.pk_packer.proofs.Added.{AtRow, BeginsFirst, HasRoom, InRow, row_added, row_ended, roomy_fits, stage}
use Rattle.pk_packer.proofs.Expanded.{AreWide, IsWritten, all_rows, are_written, expanded, rows_expanded}
use Rattle.pk_packer.proofs.Spelled.{items_spelled}

-- ---- a row with two colours has a pixel of each

any_black : (row : List Bool) → list_any (λ p. same_colour p true) row ≡ list_any (λ p. p) row
any_black [] = refl
any_black (true ∷ row) = refl
any_black (false ∷ row) = any_black row

any_white : (row : List Bool) → list_any (λ p. same_colour p false) row ≡ list_any not row
any_white [] = refl
any_white (true ∷ row) = any_white row
any_white (false ∷ row) = refl

any_colour : (row : List Bool) (c : Bool) → has_both_colours row ≡ true → list_any (λ p. same_colour p c) row ≡ true
any_colour row true both = any_black row ∙ (and_parts (list_any (λ p. p) row) (list_any not row) both).0
any_colour row false both = any_white row ∙ (and_parts (list_any (λ p. p) row) (list_any not row) both).1

-- ---- the rows below have room

count_grows : (rep : ℕ → ℕ) (r n : ℕ) → count_with_copies rep r + n ≤ count_with_copies rep (r + n)
count_grows rep r zero = let none : r + 0 ≡ r = omega arith in omega (arith, ap (count_with_copies rep) none)
count_grows rep r (suc n) =
    let next : r + suc n ≡ suc (r + n) = omega arith in
    omega (arith, ap (count_with_copies rep) next, count_grows rep r n)

pixels_fit : (r w n d total : ℕ) → total ≡ (r + suc n) * w → n ≤ d → total ≤ r * w + w + w * d
pixels_fit r w n d total e few = omega (arith, e, mul-le-mul_right w few)

has_room : (w h total : ℕ) (rep : ℕ → ℕ) (r n : ℕ) → count_with_copies rep (r + suc n) ≡ h → total ≡ (r + suc n) * w → HasRoom w h total rep r
has_room w h total rep r n count size = record {
  fit = omega (arith, grows, turned);
  wide = pixels_fit r w n (h - (count_with_copies rep r + 1 + rep r)) total size (omega (arith, grows, turned));
}
  where
    next : suc r + n ≡ r + suc n
    next = omega arith

    grows : count_with_copies rep (suc r) + n ≤ h
    grows = omega (arith, count_grows rep (suc r) n, ap (count_with_copies rep) next, count)

    turned : count_with_copies rep (suc r) ≡ count_with_copies rep r + 1 + rep r
    turned = omega arith

-- ---- row after row

first_of_row : (first : Bool) (row rest : List Bool) → BeginsFirst first (row ++ rest) → 1 ≤ length row → BeginsFirst first row
first_of_row first [] rest e some = tt
first_of_row first (p ∷ row) rest e some = e

pub rows_added : (w h total : ℕ) (first : Bool) (rep : ℕ → ℕ) (rows : List Group) (r : ℕ) (ps : List Bool) (items : List Item) → AtRow w h total first rep r ps items → 1 ≤ w
    → AllByRecursion (IsWritten w) rows → ((i : ℕ) → i < length rows → rep (r + i) ≡ below_of rows i) → count_with_copies rep (r + length rows) ≡ h → total ≡ (r + length rows) * w
    → (items ≡ [] → BeginsFirst first (joined rows)) → AtRow w h total first rep (r + length rows) (ps ++ joined rows) (with_rows first items rows)
rows_added w h total first rep [] r ps items at some all reps count size start =
    subst (λ (k : ℕ). AtRow w h total first rep k (ps ++ []) items) none (subst (λ (l : List Bool). AtRow w h total first rep r l items) (sym (append-nil ps)) at)
  where
    none : r ≡ r + 0
    none = omega arith
rows_added w h total first rep (g ∷ rows) r ps items at some all reps count size start =
    subst (λ (k : ℕ). AtRow w h total first rep k (ps ++ (g.row ++ joined rows)) (with_rows first after.items rows)) next
    (subst (λ (l : List Bool). AtRow w h total first rep (suc r + length rows) l (with_rows first after.items rows)) (append_assoc ps g.row (joined rows))
    (rows_added w h total first rep rows (suc r) (ps ++ g.row) after.items ended some all.1
    (λ i below. ap rep (over i) ∙ reps (suc i) (omega (arith, below)))
    (ap (count_with_copies rep) next ∙ count)
    (size ∙ ap (λ k. k * w) (sym next))
    (λ e. absurd (nothing (ap (pixels first) e)))))
  where
    next : suc r + length rows ≡ r + suc (length rows)
    next = omega arith

    over : (i : ℕ) → suc r + i ≡ r + suc i
    over i = omega arith

    here : rep r ≡ g.below
    here = let none : r ≡ r + 0 = omega arith in ap rep none ∙ reps 0 (omega arith)

    after : Progress
    after = with_pixels first (stage items g.below) g.row

    absent : has_repeat w items r ≡ false
    absent = false_from_ne_true (has_repeat w items r) (λ there. absurd (omega (arith, at.stands.none_after r there, at.long)))

    in_row : InRow w h total first rep r ps g.row (stage items g.below)
    in_row = record {
      stands = at.stands;
      top = at.top;
      count = inr (here, absent);
      pending = elim all.0.1 [
        | inl none ↦ inl none
        | inr both ↦ inr (any_colour g.row (colour_after first items) both)
      ];
      start = λ e. first_of_row first g.row (joined rows) (start e) (omega (arith, some, all.0.0));
    }

    long : length (ps ++ g.row) ≡ suc r * w
    long = length-append ps g.row ∙ omega (arith, at.long, all.0.0)

    ended : AtRow w h total first rep (suc r) (ps ++ g.row) after.items
    ended = row_ended w h total first rep r (ps ++ g.row) after
        (row_added w h total first rep r g.row ps (stage items g.below) 0 in_row (omega (arith, at.long)) (omega (arith, all.0.0)) (has_room w h total rep r (length rows) count size)) long

    nothing : pixels first after.items ≡ [] → ⊥
    nothing e = omega (arith, ap (λ (l : List Bool). length l) (sym ended.stands.pixels ∙ e), long, some)

-- ---- the whole raster

begins_first : (w : ℕ) (rows : List Group) (all : List (List Bool)) → 1 ≤ w → AllByRecursion (IsWritten w) rows → expanded rows ≡ all → BeginsFirst (first_colour all) (joined rows)
begins_first w [] all some written e = tt
begins_first w (g ∷ rows) all some written e = by g.row refl
  where
    one : 1 + g.below ≡ suc g.below
    one = omega arith

    first : get_or (get_or all 0 []) 0 false ≡ get_or g.row 0 false
    first = ap (λ (l : List (List Bool)). get_or (get_or l 0 []) 0 false) (sym e ∙ ap (λ k. replicate k g.row ++ expanded rows) one)

    by : (row : List Bool) → g.row ≡ row → BeginsFirst (first_colour all) (row ++ joined rows)
    by [] same = absurd (omega (arith, ap (λ (l : List Bool). length l) same, written.0.0, some))
    by (p ∷ row) same = sym (first ∙ ap (λ (l : List Bool). get_or l 0 false) same)

module _ (w h : ℕ) (rows : List (List Bool)) (some : 1 ≤ w) (wide : AreWide w rows) (high : length rows ≡ h) where
  abbrev written : List Group
  written = written_rows rows

  abbrev m : ℕ
  m = length (written_rows rows)

  abbrev rep : ℕ → ℕ
  rep = below_of (written_rows rows)

  total : count_with_copies rep m ≡ h
  total = sym (length-rows w (joined written) rep m) ∙ ap length (all_rows w rows wide) ∙ high

  none : 0 + m ≡ m
  none = omega arith

  begin : AtRow w h (m * w) (first_colour rows) rep 0 [] []
  begin = record {
    stands = record { pixels = refl; roomy = tt; some = tt; none_after = λ q e. absurd (let no : false ≡ true = e in cc); above = λ q below. absurd (omega (arith, below)) };
    top = tt;
    long = omega arith;
  }

  pub all_stand : AtRow w h (m * w) (first_colour rows) rep m (joined written) (written_runs rows)
  unfolding written_runs
  all_stand = subst (λ (k : ℕ). AtRow w h (m * w) (first_colour rows) rep k (joined written) (written_runs rows)) none
      (rows_added w h (m * w) (first_colour rows) rep written 0 [] [] begin some (are_written w rows wide)
      (λ i below. let same : 0 + i ≡ i = omega arith in ap rep same)
      (ap (count_with_copies rep) none ∙ total) (ap (λ k. k * w) (sym none))
      (λ e. begins_first w written rows some (are_written w rows wide) (rows_expanded rows)))

  count : pixel_count (written_runs rows) ≡ m * w
  count = sym (length-pixels (first_colour rows) (written_runs rows)) ∙ ap length all_stand.stands.pixels ∙ all_stand.long

  place : next_row w (written_runs rows) ≡ m
  place = ap (λ n. n / w) (let zero_more : m * w ≡ m * w + 0 = omega arith in count ∙ zero_more) ∙ div-mul-add m w 0 some

  pub read_again : (f : ℕ) (bytes : List ℕ) → f ≤ 13 → HoldNybbles bytes (items_text f (written_runs rows)) → IsRunRaster bytes f (first_colour rows) w h rows
  read_again f bytes form hold = record {
    items = written_runs rows;
    used = items_text f (written_runs rows);
    unused = replicate (length (items_text f (written_runs rows)) % 2) 0;
    nybbles = hold;
    spelled = items_spelled f (written_runs rows) form all_stand.stands.some;
    fits = roomy_fits w h (m * w) (written_runs rows) all_stand.stands.roomy (omega (arith, count));
    complete = ap (count_with_copies (copies w (written_runs rows))) place ∙ counts_alike (copies w (written_runs rows)) rep m all_stand.stands.above ∙ total;
    stand = sym (
        ap (rows_with_copies w (pixels (first_colour rows) (written_runs rows)) (copies w (written_runs rows))) place
        ∙ rows_alike w (pixels (first_colour rows) (written_runs rows)) (copies w (written_runs rows)) rep m all_stand.stands.above
        ∙ ap (λ l. rows_with_copies w l rep m) all_stand.stands.pixels
        ∙ all_rows w rows wide);
  }

pub runs_are_longest : RunsAreLongest
runs_are_longest w rows some wide =
    let at = all_stand w (length rows) rows some wide refl in
    (at.stands.pixels, at.stands.some, λ i below. at.stands.above i below)
