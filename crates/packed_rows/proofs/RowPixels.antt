-- Pixels of a row of bytes after its bytes were changed.
use Rattle.std.proofs.Common.{◌≡◌, ℕ, ◌+◌, ◌-◌, ◌*◌, ◌/◌, ◌%◌, ◌^◌, ◌<◌, ◌≤◌, ◌≢◌, ◌⊎◌, inl, inr, Bool, true, false, ◌&&◌, ◌||◌, eqb, ltb, leb, List, length, get_or, set, replicate, refl, ap, sym, ◌∙◌, arith, bit_and, bit_or, get_or-set_same, get_or-set_other}
use Rattle.std.specs.Int.{bit_at}
use Rattle.std.proofs.lemmas.Bool.{cases_lt, le-ltb, and_right}
use Rattle.std.proofs.lemmas.Bool.Decides.{nat_tests}
use Rattle.std.proofs.lemmas.List.{places, length-set}
use Rattle.std.proofs.lemmas.List.Elements.{All-from_get_or}
use borrow.Rule.Slice.PartMut.{put_mid}
use Rattle.packed_rows.specs.Packing.{pixel, IsPadded}
use Rattle.packed_rows.proofs.Bits.{bit_of_or, bit_of_and, head_bit, tail_bit, full_bit}

-- bits of a mask set in the byte that holds the pixel
pub set_here : (bytes : List ℕ) (at mask x : ℕ) → at < length bytes → x / 8 ≡ at
    → pixel (set bytes at (bit_or (get_or bytes at 0) mask)) x ≡ (eqb (bit_at mask (7 - x % 8)) 1 || pixel bytes x)
set_here bytes at mask x h e =
    ap (λ i. eqb (bit_at (get_or (set bytes at (bit_or (get_or bytes at 0) mask)) i 0) (7 - x % 8)) 1) e
    ∙ ap (λ n. eqb (bit_at n (7 - x % 8)) 1) (get_or-set_same bytes at (bit_or (get_or bytes at 0) mask) 0 h)
    ∙ bit_of_or (get_or bytes at 0) mask (7 - x % 8)
    ∙ turned (eqb (bit_at (get_or bytes at 0) (7 - x % 8)) 1) (eqb (bit_at mask (7 - x % 8)) 1)
    ∙ ap (λ i. eqb (bit_at mask (7 - x % 8)) 1 || eqb (bit_at (get_or bytes i 0) (7 - x % 8)) 1) (sym e)
  where
    turned : (a b : Bool) → (a || b) ≡ (b || a)
    turned true true = refl
    turned true false = refl
    turned false true = refl
    turned false false = refl

pub set_elsewhere : (bytes : List ℕ) (at byte x : ℕ) → x / 8 ≢ at → pixel (set bytes at byte) x ≡ pixel bytes x
set_elsewhere bytes at byte x h = ap (λ n. eqb (bit_at n (7 - x % 8)) 1) (get_or-set_other bytes at (x / 8) byte 0 h)

-- whether a pixel lies in a run, by its place in the bytes of the run's ends
in_one_byte : (f u x : ℕ) → f < u → f / 8 ≡ (u - 1) / 8 → x / 8 ≡ f / 8 → (leb (f % 8) (x % 8) && leb (x % 8) ((u - 1) % 8)) ≡ (leb f x && ltb x u)
in_one_byte f u x h e g = grind (arith, nat_tests)

in_first_byte : (f u x : ℕ) → f < u → f / 8 < (u - 1) / 8 → x / 8 ≡ f / 8 → leb (f % 8) (x % 8) ≡ (leb f x && ltb x u)
in_first_byte f u x h e g = grind (arith, nat_tests)

in_last_byte : (f u x : ℕ) → f < u → f / 8 < (u - 1) / 8 → x / 8 ≡ (u - 1) / 8 → leb (x % 8) ((u - 1) % 8) ≡ (leb f x && ltb x u)
in_last_byte f u x h e g = grind (arith, nat_tests)

in_between : (f u x : ℕ) → f / 8 < x / 8 → x / 8 < (u - 1) / 8 → (leb f x && ltb x u) ≡ true
in_between f u x h g = grind (arith, nat_tests)

before_run : (f u x : ℕ) → x / 8 < f / 8 → (leb f x && ltb x u) ≡ false
before_run f u x h = grind (arith, nat_tests)

after_run : (f u x : ℕ) → f < u → (u - 1) / 8 < x / 8 → (leb f x && ltb x u) ≡ false
after_run f u x h g = grind (arith, nat_tests)

-- a run inside one byte
pub one_byte : (row : List ℕ) (f u x : ℕ) → f < u → f / 8 ≡ (u - 1) / 8 → u ≤ 8 * length row
    → pixel (set row (f / 8) (bit_or (get_or row (f / 8) 0) (bit_and (255 / 2 ^ (f % 8)) (255 * 2 ^ (7 - (u - 1) % 8) % 256)))) x ≡ ((leb f x && ltb x u) || pixel row x)
one_byte row f u x h e inside = by (cases_lt (x / 8) (f / 8)) (cases_lt (f / 8) (x / 8))
  where
    by : (x / 8 < f / 8) ⊎ (f / 8 ≤ x / 8) → (f / 8 < x / 8) ⊎ (x / 8 ≤ f / 8) → pixel (set row (f / 8) (bit_or (get_or row (f / 8) 0) (bit_and (255 / 2 ^ (f % 8)) (255 * 2 ^ (7 - (u - 1) % 8) % 256)))) x ≡ ((leb f x && ltb x u) || pixel row x)
    by (inl before) other = set_elsewhere row (f / 8) _ x (omega (arith, before)) ∙ sym (ap (λ b. b || pixel row x) (before_run f u x before))
    by (inr one) (inl beyond) = set_elsewhere row (f / 8) _ x (omega (arith, beyond)) ∙ sym (ap (λ b. b || pixel row x) (after_run f u x h (omega (arith, beyond, e))))
    by (inr one) (inr two) =
        let here : x / 8 ≡ f / 8 = omega (arith, one, two) in
        set_here row (f / 8) _ x (omega (arith, h, inside, e)) here
        ∙ ap (λ b. b || pixel row x)
        (bit_of_and (255 / 2 ^ (f % 8)) (255 * 2 ^ (7 - (u - 1) % 8) % 256) (7 - x % 8)
        ∙ ap (λ b. b && eqb (bit_at (255 * 2 ^ (7 - (u - 1) % 8) % 256) (7 - x % 8)) 1) (head_bit (f % 8) (x % 8) (omega arith) (omega arith))
        ∙ ap (λ b. leb (f % 8) (x % 8) && b) (tail_bit ((u - 1) % 8) (x % 8) (omega arith) (omega arith))
        ∙ in_one_byte f u x h e here)

-- whole bytes of ones put into a row
filled_inside : (row : List ℕ) (a k x : ℕ) → a + k ≤ length row → a ≤ x / 8 → x / 8 < a + k → pixel (put_mid a k row (replicate k 255)) x ≡ true
filled_inside row a k x fit low high = ap (λ n. eqb (bit_at n (7 - x % 8)) 1) byte ∙ full_bit (x % 8) (omega arith)
  where
    byte : get_or (put_mid a k row (replicate k 255)) (x / 8) 0 ≡ 255
    byte = grind (arith, places)

filled_outside : (row : List ℕ) (a k x : ℕ) → a + k ≤ length row → (x / 8 < a) ⊎ (a + k ≤ x / 8) → pixel (put_mid a k row (replicate k 255)) x ≡ pixel row x
filled_outside row a k x fit (inl below) = ap (λ n. eqb (bit_at n (7 - x % 8)) 1) byte
  where
    byte : get_or (put_mid a k row (replicate k 255)) (x / 8) 0 ≡ get_or row (x / 8) 0
    byte = grind (arith, places)
filled_outside row a k x fit (inr above) = ap (λ n. eqb (bit_at n (7 - x % 8)) 1) byte
  where
    byte : get_or (put_mid a k row (replicate k 255)) (x / 8) 0 ≡ get_or row (x / 8) 0
    byte = grind (arith, places)

filled_long : (row : List ℕ) (a k : ℕ) → a + k ≤ length row → length (put_mid a k row (replicate k 255)) ≡ length row
filled_long row a k fit = grind (arith, places)

-- a run over several bytes: its first byte, the whole ones, its last
pub several_bytes : (row one two three filled : List ℕ) (f u x : ℕ) → f < u → f / 8 < (u - 1) / 8 → u ≤ 8 * length row
    → one ≡ set row (f / 8) (bit_or (get_or row (f / 8) 0) (255 / 2 ^ (f % 8)))
    → filled ≡ replicate ((u - 1) / 8 - (f / 8 + 1)) 255
    → two ≡ put_mid (f / 8 + 1) ((u - 1) / 8 - (f / 8 + 1)) one filled
    → three ≡ set two ((u - 1) / 8) (bit_or (get_or two ((u - 1) / 8) 0) (255 * 2 ^ (7 - (u - 1) % 8) % 256))
    → pixel three x ≡ ((leb f x && ltb x u) || pixel row x)
several_bytes row one two three filled f u x h e inside is_one is_filled is_two is_three = ap (λ l. pixel l x) is_three ∙ by (cases_lt (x / 8) (f / 8)) (cases_lt (f / 8) (x / 8)) (cases_lt (x / 8) ((u - 1) / 8)) (cases_lt ((u - 1) / 8) (x / 8))
  where
    long : length one ≡ length row
    long = ap length is_one ∙ length-set row (f / 8) (bit_or (get_or row (f / 8) 0) (255 / 2 ^ (f % 8)))

    two_is : two ≡ put_mid (f / 8 + 1) ((u - 1) / 8 - (f / 8 + 1)) one (replicate ((u - 1) / 8 - (f / 8 + 1)) 255)
    two_is = is_two ∙ ap (λ l. put_mid (f / 8 + 1) ((u - 1) / 8 - (f / 8 + 1)) one l) is_filled

    two_long : length two ≡ length row
    two_long = ap length two_is ∙ filled_long one (f / 8 + 1) ((u - 1) / 8 - (f / 8 + 1)) (omega (arith, long, inside, h, e)) ∙ long

    outside : (x / 8 < f / 8 + 1) ⊎ ((u - 1) / 8 ≤ x / 8) → pixel two x ≡ pixel one x
    outside (inl below) = ap (λ l. pixel l x) two_is ∙ filled_outside one (f / 8 + 1) ((u - 1) / 8 - (f / 8 + 1)) x (omega (arith, long, inside, h, e)) (inl below)
    outside (inr above) = ap (λ l. pixel l x) two_is ∙ filled_outside one (f / 8 + 1) ((u - 1) / 8 - (f / 8 + 1)) x (omega (arith, long, inside, h, e)) (inr (omega (arith, above, e)))

    untouched : x / 8 ≢ f / 8 → pixel one x ≡ pixel row x
    untouched apart = ap (λ l. pixel l x) is_one ∙ set_elsewhere row (f / 8) _ x apart

    by : (x / 8 < f / 8) ⊎ (f / 8 ≤ x / 8) → (f / 8 < x / 8) ⊎ (x / 8 ≤ f / 8) → (x / 8 < (u - 1) / 8) ⊎ ((u - 1) / 8 ≤ x / 8) → ((u - 1) / 8 < x / 8) ⊎ (x / 8 ≤ (u - 1) / 8)
        → pixel (set two ((u - 1) / 8) (bit_or (get_or two ((u - 1) / 8) 0) (255 * 2 ^ (7 - (u - 1) % 8) % 256))) x ≡ ((leb f x && ltb x u) || pixel row x)
    by (inl before) b c d =
        set_elsewhere two ((u - 1) / 8) _ x (omega (arith, before, e)) ∙ outside (inl (omega (arith, before))) ∙ untouched (omega (arith, before))
        ∙ sym (ap (λ b. b || pixel row x) (before_run f u x before))
    by (inr from) (inl after) (inl below) d =
        set_elsewhere two ((u - 1) / 8) _ x (omega (arith, below)) ∙ ap (λ l. pixel l x) two_is
        ∙ filled_inside one (f / 8 + 1) ((u - 1) / 8 - (f / 8 + 1)) x (omega (arith, long, inside, h, e)) (omega (arith, after)) (omega (arith, below, after))
        ∙ sym (ap (λ b. b || pixel row x) (in_between f u x after below))
    by (inr from) (inl after) (inr above) (inl beyond) =
        set_elsewhere two ((u - 1) / 8) _ x (omega (arith, beyond)) ∙ outside (inr above) ∙ untouched (omega (arith, after))
        ∙ sym (ap (λ b. b || pixel row x) (after_run f u x h beyond))
    by (inr from) (inl after) (inr above) (inr here) =
        let last : x / 8 ≡ (u - 1) / 8 = omega (arith, above, here) in
        set_here two ((u - 1) / 8) _ x (omega (arith, two_long, inside, h)) last
        ∙ ap (λ b. eqb (bit_at (255 * 2 ^ (7 - (u - 1) % 8) % 256) (7 - x % 8)) 1 || b) (outside (inr above) ∙ untouched (omega (arith, after)))
        ∙ ap (λ b. b || pixel row x) (tail_bit ((u - 1) % 8) (x % 8) (omega arith) (omega arith) ∙ in_last_byte f u x h e last)
    by (inr from) (inr to) c d =
        let first : x / 8 ≡ f / 8 = omega (arith, from, to) in
        set_elsewhere two ((u - 1) / 8) _ x (omega (arith, first, e)) ∙ outside (inl (omega (arith, to)))
        ∙ ap (λ l. pixel l x) is_one ∙ set_here row (f / 8) _ x (omega (arith, inside, h, e)) first
        ∙ ap (λ b. b || pixel row x) (head_bit (f % 8) (x % 8) (omega arith) (omega arith) ∙ in_first_byte f u x h e first)

-- a run inside the row leaves the bits after it zero
pub still_padded : (width f u : ℕ) (old new : List ℕ) → u ≤ width → length new ≡ length old → ((i : ℕ) → get_or new i 0 < 256)
    → ((x : ℕ) → x < 8 * length old → pixel new x ≡ ((leb f x && ltb x u) || pixel old x)) → IsPadded width old → IsPadded width new
still_padded width f u old new fit long small pixels padded = record {
  len = long ∙ padded.len;
  small = All-from_get_or (λ b. b < 256) new 0 (λ i _. small i);
  zero_after = λ x beyond inside. pixels x (omega (arith, inside, long)) ∙ ap (λ b. b || pixel old x) (and_right (leb f x) (ltb x u) (le-ltb x u (omega (arith, beyond, fit)))) ∙ padded.zero_after x beyond (omega (arith, inside, long));
}
