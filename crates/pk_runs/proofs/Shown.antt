-- What is shown of some runs, one piece more, one row more.
use Rattle.std.proofs.Common.{◌≡◌, ℕ, zero, suc, ◌+◌, ◌-◌, ◌*◌, ◌<◌, ◌≤◌, ◌⊎◌, inl, inr, Bool, true, false, ◌&&◌, ◌||◌, cond, List, [], ◌∷◌, ◌++◌, length, get_or, take, drop, replicate, refl, sym, ap, ◌∙◌, arith, length-append}
use Rattle.std.proofs.lemmas.Bool.{cases_lt}
use Rattle.std.proofs.lemmas.Bool.Decides.{nat_tests}
use Rattle.std.proofs.lemmas.List.{length-replicate, length-drop, take-append-le, drop-append-le, take_all, drop_all, get_or_append_left, get_or-append_right, get_or-replicate, get_or_push, get_or_past}
use Rattle.packed_rows.specs.Changes.{is_within}
use Rattle.pk_runs.specs.Raster.{rows_with_copies, count_with_copies}
use Rattle.pk_runs.specs.Painting.{shown}

pub length-rows : (w : ℕ) (ps : List Bool) (rep : ℕ → ℕ) (n : ℕ) → length (rows_with_copies w ps rep n) ≡ count_with_copies rep n
length-rows w ps rep zero = refl
length-rows w ps rep (suc n) =
    length-append (rows_with_copies w ps rep n) (replicate (1 + rep n) (take w (drop (n * w) ps)))
    ∙ omega (arith, length-rows w ps rep n, length-replicate (1 + rep n) (take w (drop (n * w) ps)))

-- pixels after the first rows change none of them
pub rows_grow : (w : ℕ) (ps more : List Bool) (rep : ℕ → ℕ) (n : ℕ) → n * w ≤ length ps → rows_with_copies w (ps ++ more) rep n ≡ rows_with_copies w ps rep n
rows_grow w ps more rep zero h = refl
rows_grow w ps more rep (suc n) h =
    ap (λ l. l ++ replicate (1 + rep n) (take w (drop (n * w) (ps ++ more)))) (rows_grow w ps more rep n (omega (arith, h)))
    ∙ ap (λ l. rows_with_copies w ps rep n ++ replicate (1 + rep n) l) row
  where
    row : take w (drop (n * w) (ps ++ more)) ≡ take w (drop (n * w) ps)
    row = ap (take w) (drop-append-le (n * w) ps more (omega (arith, h))) ∙ take-append-le w (drop (n * w) ps) more (omega (arith, h, length-drop (n * w) ps))

-- copies of rows after the first change none of them
pub rows_alike : (w : ℕ) (ps : List Bool) (rep other : ℕ → ℕ) (n : ℕ) → ((r : ℕ) → r < n → rep r ≡ other r) → rows_with_copies w ps rep n ≡ rows_with_copies w ps other n
rows_alike w ps rep other zero h = refl
rows_alike w ps rep other (suc n) h =
    ap (λ l. l ++ replicate (1 + rep n) (take w (drop (n * w) ps))) (rows_alike w ps rep other n (λ r below. h r (omega (arith, below))))
    ∙ ap (λ k. rows_with_copies w ps other n ++ replicate (1 + k) (take w (drop (n * w) ps))) (h n (omega arith))

pub counts_alike : (rep other : ℕ → ℕ) (n : ℕ) → ((r : ℕ) → r < n → rep r ≡ other r) → count_with_copies rep n ≡ count_with_copies other n
counts_alike rep other zero h = refl
counts_alike rep other (suc n) h = omega (arith, counts_alike rep other n (λ r below. h r (omega (arith, below))), h n (omega arith))

-- ---- a pixel above, in and below the row in progress

nothing : (x : ℕ) → get_or [] x false ≡ false
nothing x = refl

pub shown_above : (w : ℕ) (ps : List Bool) (rep : ℕ → ℕ) (n x y : ℕ) → y < count_with_copies rep n → shown w ps rep n x y ≡ get_or (get_or (rows_with_copies w ps rep n) y []) x false
shown_above w ps rep n x y h = ap (λ row. get_or row x false) (get_or_append_left (rows_with_copies w ps rep n) (drop (n * w) ps ∷ []) [] y (omega (arith, h, length-rows w ps rep n)))

shown_at : (w : ℕ) (ps : List Bool) (rep : ℕ → ℕ) (n x y : ℕ) → y ≡ count_with_copies rep n → shown w ps rep n x y ≡ get_or (drop (n * w) ps) x false
shown_at w ps rep n x y e = ap (λ row. get_or row x false) (get_or_push (rows_with_copies w ps rep n) (drop (n * w) ps) [] y (length-rows w ps rep n ∙ sym e))

shown_below : (w : ℕ) (ps : List Bool) (rep : ℕ → ℕ) (n x y : ℕ) → count_with_copies rep n < y → shown w ps rep n x y ≡ false
shown_below w ps rep n x y h =
    ap (λ row. get_or row x false) (get_or_past (rows_with_copies w ps rep n ++ drop (n * w) ps ∷ []) y [] (omega (arith, h, length-rows w ps rep n, length-append (rows_with_copies w ps rep n) (drop (n * w) ps ∷ [])))) ∙ nothing x

-- ---- one piece of a run more

here : (r y : ℕ) → y ≡ r → is_within r (r + 1) y ≡ true
here r y e = grind (arith, nat_tests)

not_here : (r y : ℕ) → (y < r) ⊎ (r < y) → is_within r (r + 1) y ≡ false
not_here r y (inl h) = grind (arith, nat_tests)
not_here r y (inr h) = grind (arith, nat_tests)

inside_piece : (c m x : ℕ) → c ≤ x → x < c + m → is_within c (c + m) x ≡ true
inside_piece c m x h g = grind (arith, nat_tests)

beside_piece : (c m x : ℕ) → (x < c) ⊎ (c + m ≤ x) → is_within c (c + m) x ≡ false
beside_piece c m x (inl h) = grind (arith, nat_tests)
beside_piece c m x (inr h) = grind (arith, nat_tests)

untouched : (b c s d : Bool) → d ≡ false → s ≡ (b && (c && d) || s)
untouched true true s d e = ap (λ z. z || s) (sym e)
untouched true false s d e = refl
untouched false c s d e = refl

beside : (b c s d : Bool) → c ≡ false → s ≡ (b && (c && d) || s)
beside true c s d e = ap (λ z. (z && d) || s) (sym e)
beside false c s d e = refl

covered : (b c s d : Bool) → c ≡ true → d ≡ true → s ≡ false → b ≡ (b && (c && d) || s)
covered true c s d e f g = ap (λ z. z || s) (sym f) ∙ ap (λ z. (z && d) || s) (sym e)
covered false c s d e f g = sym g

pub shown_painted : (w : ℕ) (ps : List Bool) (rep : ℕ → ℕ) (n c m : ℕ) (b : Bool) (x y r : ℕ) → length ps ≡ n * w + c → r ≡ count_with_copies rep n
    → shown w (ps ++ replicate m b) rep n x y ≡ (b && (is_within c (c + m) x && is_within r (r + 1) y) || shown w ps rep n x y)
shown_painted w ps rep n c m b x y r long is_row = by (cases_lt y r) (cases_lt r y)
  where
    tail : drop (n * w) (ps ++ replicate m b) ≡ drop (n * w) ps ++ replicate m b
    tail = drop-append-le (n * w) ps (replicate m b) (omega (arith, long))

    tail_long : length (drop (n * w) ps) ≡ c
    tail_long = length-drop (n * w) ps ∙ omega (arith, long)

    column : (x < c) ⊎ (c ≤ x) → (x < c + m) ⊎ (c + m ≤ x) → get_or (drop (n * w) ps ++ replicate m b) x false ≡ (b && (is_within c (c + m) x && is_within r (r + 1) r) || get_or (drop (n * w) ps) x false)
    column (inl left) other =
        get_or_append_left (drop (n * w) ps) (replicate m b) false x (omega (arith, left, tail_long))
        ∙ beside b (is_within c (c + m) x) (get_or (drop (n * w) ps) x false) (is_within r (r + 1) r) (beside_piece c m x (inl left))
    column (inr right) (inl within) =
        get_or-append_right (drop (n * w) ps) (replicate m b) c x false tail_long right ∙ get_or-replicate m (x - c) b false (omega (arith, right, within))
        ∙ covered b (is_within c (c + m) x) (get_or (drop (n * w) ps) x false) (is_within r (r + 1) r) (inside_piece c m x right within) (here r r refl) (get_or_past (drop (n * w) ps) x false (omega (arith, right, tail_long)))
    column (inr right) (inr after) =
        get_or_past (drop (n * w) ps ++ replicate m b) x false (omega (arith, after, tail_long, length-append (drop (n * w) ps) (replicate m b), length-replicate m b))
        ∙ sym (get_or_past (drop (n * w) ps) x false (omega (arith, right, tail_long)))
        ∙ beside b (is_within c (c + m) x) (get_or (drop (n * w) ps) x false) (is_within r (r + 1) r) (beside_piece c m x (inr after))

    by : (y < r) ⊎ (r ≤ y) → (r < y) ⊎ (y ≤ r) → shown w (ps ++ replicate m b) rep n x y ≡ (b && (is_within c (c + m) x && is_within r (r + 1) y) || shown w ps rep n x y)
    by (inl above) other =
        shown_above w (ps ++ replicate m b) rep n x y (omega (arith, above, is_row))
        ∙ ap (λ l. get_or (get_or l y []) x false) (rows_grow w ps (replicate m b) rep n (omega (arith, long)))
        ∙ sym (shown_above w ps rep n x y (omega (arith, above, is_row)))
        ∙ untouched b (is_within c (c + m) x) (shown w ps rep n x y) (is_within r (r + 1) y) (not_here r y (inl above))
    by (inr low) (inl below) =
        shown_below w (ps ++ replicate m b) rep n x y (omega (arith, below, is_row)) ∙ sym (shown_below w ps rep n x y (omega (arith, below, is_row)))
        ∙ untouched b (is_within c (c + m) x) (shown w ps rep n x y) (is_within r (r + 1) y) (not_here r y (inr below))
    by (inr low) (inr high) =
        let row : y ≡ r = omega (arith, low, high) in
        shown_at w (ps ++ replicate m b) rep n x y (row ∙ is_row) ∙ ap (λ l. get_or l x false) tail ∙ column (cases_lt x c) (cases_lt x (c + m))
        ∙ ap (λ k. b && (is_within c (c + m) x && is_within r (r + 1) k) || get_or (drop (n * w) ps) x false) (sym row)
        ∙ ap (λ s. b && (is_within c (c + m) x && is_within r (r + 1) y) || s) (sym (shown_at w ps rep n x y (row ∙ is_row)))

-- ---- a row that ends

source_at : (r k y : ℕ) → y < r + 1 → cond (is_within (r + 1) (r + 1 + k) y) r y ≡ y
source_at r k y h = grind (arith, nat_tests)

source_copy : (r k y : ℕ) → r ≤ y → y < r + 1 + k → cond (is_within (r + 1) (r + 1 + k) y) r y ≡ r
source_copy r k y h g = grind (arith, nat_tests)

source_past : (r k y : ℕ) → r + 1 + k ≤ y → cond (is_within (r + 1) (r + 1 + k) y) r y ≡ y
source_past r k y h = grind (arith, nat_tests)

pub shown_ended : (w : ℕ) (ps : List Bool) (rep : ℕ → ℕ) (n x y r k : ℕ) → length ps ≡ n * w + w → r ≡ count_with_copies rep n → k ≡ rep n
    → shown w ps rep n x (cond (is_within (r + 1) (r + 1 + k) y) r y) ≡ shown w ps rep (suc n) x y
shown_ended w ps rep n x y r k long is_row is_copies = by (cases_lt y r) (cases_lt y (r + 1 + k))
  where
    tail_long : length (drop (n * w) ps) ≡ w
    tail_long = length-drop (n * w) ps ∙ omega (arith, long)

    row : take w (drop (n * w) ps) ≡ drop (n * w) ps
    row = take_all w (drop (n * w) ps) (omega (arith, tail_long))

    by : (y < r) ⊎ (r ≤ y) → (y < r + 1 + k) ⊎ (r + 1 + k ≤ y) → shown w ps rep n x (cond (is_within (r + 1) (r + 1 + k) y) r y) ≡ shown w ps rep (suc n) x y
    by (inl above) other =
        ap (shown w ps rep n x) (source_at r k y (omega (arith, above))) ∙ shown_above w ps rep n x y (omega (arith, above, is_row))
        ∙ sym (ap (λ l. get_or l x false) (get_or_append_left (rows_with_copies w ps rep n) (replicate (1 + rep n) (take w (drop (n * w) ps))) [] y (omega (arith, above, is_row, length-rows w ps rep n))))
        ∙ sym (shown_above w ps rep (suc n) x y (omega (arith, above, is_row)))
    by (inr low) (inl copy) =
        ap (shown w ps rep n x) (source_copy r k y low copy) ∙ shown_at w ps rep n x r is_row
        ∙ sym (ap (λ l. get_or l x false) (get_or-append_right (rows_with_copies w ps rep n) (replicate (1 + rep n) (take w (drop (n * w) ps))) r y [] (length-rows w ps rep n ∙ sym is_row) low
        ∙ get_or-replicate (1 + rep n) (y - r) (take w (drop (n * w) ps)) [] (omega (arith, low, copy, is_copies)) ∙ row))
        ∙ sym (shown_above w ps rep (suc n) x y (omega (arith, copy, is_row, is_copies)))
    by (inr low) (inr past) =
        ap (shown w ps rep n x) (source_past r k y past) ∙ shown_below w ps rep n x y (omega (arith, past, is_row)) ∙ sym (white (cases_lt (r + 1 + k) y))
      where
        white : (r + 1 + k < y) ⊎ (y ≤ r + 1 + k) → shown w ps rep (suc n) x y ≡ false
        white (inl below) = shown_below w ps rep (suc n) x y (omega (arith, below, is_row, is_copies))
        white (inr high) =
            shown_at w ps rep (suc n) x y (omega (arith, high, past, is_row, is_copies)) ∙ ap (λ l. get_or l x false) (drop_all (suc n * w) ps (omega (arith, long))) ∙ nothing x
