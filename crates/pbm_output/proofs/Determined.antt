-- The text of a page determines the page.
use Rattle.std.proofs.Common.{◌≡◌, ◌∙◌, ℕ, zero, suc, ◌+◌, ◌*◌, ◌/◌, ◌%◌, ◌^◌, ◌<◌, ◌≤◌, Bool, true, false, cond, List, [], ◌∷◌, ◌++◌, length, get_or, drop, decimal, refl, sym, ap, subst, append_assoc, arith, lit<}
use Rattle.std.specs.Int.{div_ceil}
use Rattle.std.specs.List.{flat_map}
use Rattle.std.proofs.lemmas.Fmt.{decimal_by_steps, decimal_injective}
use Rattle.std.proofs.lemmas.List.{ext_get_or, get_or-drop}
use Rattle.std.proofs.lemmas.Nat.{pow_pos}
use Rattle.std.proofs.Math.Nat.{pow-suc}
use Rattle.packed_rows.specs.Bitmap.{Bitmap}
use Rattle.packed_rows.specs.Packing.{bits_value, row_text}
use Rattle.packed_rows.proofs.Lists.{get_or-from_fn}
use Rattle.pbm_output.specs.Pbm.{TextsDetermineThePage}
use Rattle.pbm_output.proofs.Joined.{row_length}

-- ---- the numbers: a digit is no space and no newline

abbrev AreDigits : List ℕ → Type 0
AreDigits [] = Unit {0}
AreDigits (d ∷ ds) = (48 ≤ d) × AreDigits ds

digits_append : (ds : List ℕ) (d : ℕ) → AreDigits ds → 48 ≤ d → AreDigits (ds ++ d ∷ [])
digits_append [] d h le = (le, tt)
digits_append (e ∷ ds) d h le = (h.0, digits_append ds d h.1 le)

digits_of_decimal : (n : ℕ) → n < 2 ^ 64 → AreDigits (decimal n)
digits_of_decimal n lt = decimal_by_steps (λ _ ds. AreDigits ds)
    (λ k less. (omega arith, tt))
    (λ k ds _ before. digits_append ds (48 + k % 10) before (omega arith))
    n lt

-- what stands before and after the first byte that is no digit
parted : (c : ℕ) (a b x y : List ℕ) → c < 48 → AreDigits a → AreDigits b → a ++ c ∷ x ≡ b ++ c ∷ y → (a ≡ b) × (x ≡ y)
parted c [] [] x y lt p q e = (refl, cc)
parted c [] (d ∷ b) x y lt p q e = let same : c ≡ d = cc in absurd (omega (arith, lt, q.0, same))
parted c (d ∷ a) [] x y lt p q e = let same : d ≡ c = cc in absurd (omega (arith, lt, p.0, same))
parted c (d ∷ a) (f ∷ b) x y lt p q e =
    let first : d ≡ f = cc in
    let rest : a ++ c ∷ x ≡ b ++ c ∷ y = cc in
    let parts = parted c a b x y lt p.1 q.1 rest in
    let prefix : a ≡ b = parts.0 in
    (cc, parts.1)

-- ---- the rows

bits_below : (n : ℕ) (pixels : List Bool) → bits_value n pixels < 2 ^ n
bits_below zero pixels = omega arith
bits_below (suc n) [] = pow_pos (suc n)
bits_below (suc n) (true ∷ pixels) = omega (arith, bits_below n pixels, pow-suc 2 n)
bits_below (suc n) (false ∷ pixels) = omega (arith, bits_below n pixels, pow-suc 2 n)

nothing : (n : ℕ) → bits_value n [] ≡ 0
nothing zero = refl
nothing (suc n) = refl

first_bit : (n : ℕ) (pixels : List Bool) → bits_value (suc n) pixels ≡ cond (get_or pixels 0 false) (2 ^ n) 0 + bits_value n (drop 1 pixels)
first_bit n [] = omega (arith, nothing n)
first_bit n (p ∷ pixels) = refl

heads : (p q : Bool) (weight m n : ℕ) → m < weight → n < weight → cond p weight 0 + m ≡ cond q weight 0 + n → (p ≡ q) × (m ≡ n)
heads true true weight m n lt less e = (refl, omega arith)
heads true false weight m n lt less e = absurd (omega arith)
heads false true weight m n lt less e = absurd (omega arith)
heads false false weight m n lt less e = (refl, omega arith)

-- a number determines its bits
bits_determined : (n : ℕ) (a b : List Bool) → bits_value n a ≡ bits_value n b → (k : ℕ) → k < n → get_or a k false ≡ get_or b k false
bits_determined zero a b e k lt = absurd (omega (arith, lt))
bits_determined (suc n) a b e k lt =
    let parts = heads (get_or a 0 false) (get_or b 0 false) (2 ^ n) _ _ (bits_below n (drop 1 a)) (bits_below n (drop 1 b)) (sym (first_bit n a) ∙ e ∙ first_bit n b) in
    by_place k lt parts.0 (bits_determined n (drop 1 a) (drop 1 b) parts.1)
  where
    by_place : (k : ℕ) → k < suc n → get_or a 0 false ≡ get_or b 0 false → ((i : ℕ) → i < n → get_or (drop 1 a) i false ≡ get_or (drop 1 b) i false) → get_or a k false ≡ get_or b k false
    by_place zero lt first later = first
    by_place (suc i) lt first later =
        let place : 1 + i ≡ suc i = omega arith in
        ap (λ j. get_or a j false) (sym place) ∙ sym (get_or-drop 1 a i false) ∙ later i (omega (arith, lt)) ∙ get_or-drop 1 b i false ∙ ap (λ j. get_or b j false) place

row_determined : (w : ℕ) (a b : List Bool) → length a ≡ w → length b ≡ w → row_text a ≡ row_text b → a ≡ b
row_determined w a b p q e = ext_get_or false a b (p ∙ sym q) each
  where
    byte : (row : List Bool) (i : ℕ) → length row ≡ w → i < div_ceil w 8 → get_or (row_text row) i 0 ≡ bits_value 8 (drop (8 * i) row)
    byte row i is lt = get_or-from_fn (div_ceil (length row) 8) (λ j. bits_value 8 (drop (8 * j) row)) i 0 (subst (λ n. i < div_ceil n 8) (sym is) lt)

    each : (k : ℕ) → k < length a → get_or a k false ≡ get_or b k false
    each k lt =
        let inside : k / 8 < div_ceil w 8 = omega (arith, lt, p) in
        let place : 8 * (k / 8) + k % 8 ≡ k = omega arith in
        let same : bits_value 8 (drop (8 * (k / 8)) a) ≡ bits_value 8 (drop (8 * (k / 8)) b) = sym (byte a (k / 8) p inside) ∙ ap (λ t. get_or t (k / 8) 0) e ∙ byte b (k / 8) q inside in
        ap (λ j. get_or a j false) (sym place) ∙ sym (get_or-drop (8 * (k / 8)) a (k % 8) false)
        ∙ bits_determined 8 _ _ same (k % 8) (omega arith)
        ∙ get_or-drop (8 * (k / 8)) b (k % 8) false ∙ ap (λ j. get_or b j false) place

-- two texts with prefixes of one length
cut : (a b x y : List ℕ) → length a ≡ length b → a ++ x ≡ b ++ y → (a ≡ b) × (x ≡ y)
cut [] [] x y len e = (refl, e)
cut [] (f ∷ b) x y len e = absurd (omega (arith, len))
cut (d ∷ a) [] x y len e = absurd (omega (arith, len))
cut (d ∷ a) (f ∷ b) x y len e =
    let first : d ≡ f = cc in
    let rest : a ++ x ≡ b ++ y = cc in
    let parts = cut a b x y (omega (arith, len)) rest in
    let prefix : a ≡ b = parts.0 in
    (cc, parts.1)

abbrev AreWide : ℕ → List (List Bool) → Type 0
AreWide w rows = (k : ℕ) (d : List Bool) → k < length rows → length (get_or rows k d) ≡ w

rows_determined : (w : ℕ) (a b : List (List Bool)) → length a ≡ length b → AreWide w a → AreWide w b → flat_map row_text a ≡ flat_map row_text b → a ≡ b
rows_determined w [] [] len p q e = refl
rows_determined w [] (f ∷ b) len p q e = absurd (omega (arith, len))
rows_determined w (d ∷ a) [] len p q e = absurd (omega (arith, len))
rows_determined w (d ∷ a) (f ∷ b) len p q e =
    let wide : length d ≡ w = p 0 d (omega arith) in
    let wide' : length f ≡ w = q 0 f (omega arith) in
    let parts = cut (row_text d) (row_text f) (flat_map row_text a) (flat_map row_text b) (row_length d w wide ∙ sym (row_length f w wide')) e in
    let first : d ≡ f = row_determined w d f wide wide' parts.0 in
    let rest : a ≡ b = rows_determined w a b (omega (arith, len)) (λ k x lt. p (suc k) x (omega (arith, lt))) (λ k x lt. q (suc k) x (omega (arith, lt))) parts.1 in
    cc

-- ---- the page

same_page : (w h w2 h2 : ℕ) (rows rows2 : List (List Bool)) → w ≡ w2 → h ≡ h2 → rows ≡ rows2
    → (let page : Bitmap = record { width = w; height = h; rows = rows } in let other : Bitmap = record { width = w2; height = h2; rows = rows2 } in page ≡ other)
same_page w h w2 h2 rows rows2 e f g = rw (e, f, g) refl

pub texts_determine_the_page : TextsDetermineThePage
texts_determine_the_page a b p q e =
    let tails : (decimal a.width ++ 32 ∷ decimal a.height) ++ 10 ∷ flat_map row_text a.rows ≡ (decimal b.width ++ 32 ∷ decimal b.height) ++ 10 ∷ flat_map row_text b.rows = cc in
    let first = parted 32 (decimal a.width) (decimal b.width) (decimal a.height ++ 10 ∷ flat_map row_text a.rows) (decimal b.height ++ 10 ∷ flat_map row_text b.rows) (lit< tt) (digits_of_decimal a.width p.narrow) (digits_of_decimal b.width q.narrow)
    (sym (append_assoc (decimal a.width) (32 ∷ decimal a.height) (10 ∷ flat_map row_text a.rows)) ∙ tails ∙ append_assoc (decimal b.width) (32 ∷ decimal b.height) (10 ∷ flat_map row_text b.rows)) in
    let second = parted 10 (decimal a.height) (decimal b.height) (flat_map row_text a.rows) (flat_map row_text b.rows) (lit< tt) (digits_of_decimal a.height p.low) (digits_of_decimal b.height q.low) first.1 in
    let width : a.width ≡ b.width = decimal_injective a.width b.width p.narrow q.narrow first.0 in
    let height : a.height ≡ b.height = decimal_injective a.height b.height p.low q.low second.0 in
    same_page a.width a.height b.width b.height a.rows b.rows width height
    (rows_determined a.width a.rows b.rows (p.high ∙ height ∙ sym q.high) p.wide (subst (λ w. AreWide w b.rows) (sym width) q.wide) second.1)
