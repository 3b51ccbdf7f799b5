-- Nybbles, joined into bytes.
use Rattle.std.proofs.Common.{◌≡◌, ◌∙◌, ℕ, zero, suc, ◌+◌, ◌-◌, ◌*◌, ◌/◌, ◌%◌, ◌<◌, ◌≤◌, Bool, true, false, cond, List, [], ◌∷◌, ◌++◌, length, replicate, refl, sym, ap, ap₂, arith, append-nil, append_assoc, length-append}
use Rattle.std.specs.Int.{div_ceil}
use Rattle.std.proofs.lemmas.List.{length-replicate}
use Rattle.pk_runs.specs.Numbers.{nybbles_of}
use Rattle.pk_runs.proofs.Hex.{length-nybbles_of}
use Rattle.pk_packer.specs.Spelling.{HoldNybbles, items_text, number_text}
use Rattle.pk_packer.specs.Written.{with_count}

nybbles_push : (bytes : List ℕ) (b : ℕ) → nybbles_of (bytes ++ b ∷ []) ≡ nybbles_of bytes ++ (b / 16) ∷ (b % 16) ∷ []
nybbles_push [] b = refl
nybbles_push (c ∷ bytes) b = ap (λ l. (c / 16) ∷ (c % 16) ∷ l) (nybbles_push bytes b)

-- the nybbles of whole bytes and of a half
abbrev pub nybbles_with : List ℕ → Bool → ℕ → List ℕ
nybbles_with bytes half high = nybbles_of bytes ++ cond half (high ∷ []) []

pub second_half : (bytes all : List ℕ) (high n : ℕ) (half : Bool) → half ≡ true → high < 16 → n < 16 → all ≡ bytes ++ (16 * high + n) ∷ [] → nybbles_with all false high ≡ nybbles_with bytes half high ++ n ∷ []
second_half bytes all high n half e small fits pushed =
    append-nil (nybbles_of all) ∙ ap nybbles_of pushed ∙ nybbles_push bytes (16 * high + n)
    ∙ ap (λ k. nybbles_of bytes ++ k ∷ ((16 * high + n) % 16) ∷ []) upper
    ∙ ap (λ k. nybbles_of bytes ++ high ∷ k ∷ []) lower
    ∙ sym (append_assoc (nybbles_of bytes) (high ∷ []) (n ∷ []))
    ∙ ap (λ b. (nybbles_of bytes ++ cond b (high ∷ []) []) ++ n ∷ []) (sym e)
  where
    upper : (16 * high + n) / 16 ≡ high
    upper = omega (arith, fits)

    lower : (16 * high + n) % 16 ≡ n
    lower = omega (arith, fits)

pub byte_after_whole : (bytes all : List ℕ) (high b : ℕ) (half : Bool) → half ≡ false → all ≡ bytes ++ b ∷ [] → nybbles_with all half high ≡ nybbles_with bytes half high ++ (b / 16) ∷ (b % 16) ∷ []
byte_after_whole bytes all high b half e pushed =
    ap (λ h. nybbles_with all h high) e ∙ append-nil (nybbles_of all) ∙ ap nybbles_of pushed ∙ nybbles_push bytes b
    ∙ ap (λ l. l ++ (b / 16) ∷ (b % 16) ∷ []) (sym (append-nil (nybbles_of bytes)))
    ∙ ap (λ h. nybbles_with bytes h high ++ (b / 16) ∷ (b % 16) ∷ []) (sym e)

pub byte_after_half : (bytes all : List ℕ) (high b : ℕ) (half : Bool) → half ≡ true → high < 16 → b < 256 → all ≡ bytes ++ (16 * high + b / 16) ∷ []
    → nybbles_with all half (b % 16) ≡ nybbles_with bytes half high ++ (b / 16) ∷ (b % 16) ∷ []
byte_after_half bytes all high b half e small fits pushed =
    ap (λ h. nybbles_with all h (b % 16)) e
    ∙ ap (λ l. l ++ (b % 16) ∷ [])
    (ap nybbles_of pushed ∙ nybbles_push bytes (16 * high + b / 16)
    ∙ ap (λ k. nybbles_of bytes ++ k ∷ ((16 * high + b / 16) % 16) ∷ []) upper
    ∙ ap (λ k. nybbles_of bytes ++ high ∷ k ∷ []) lower)
    ∙ append_assoc (nybbles_of bytes) (high ∷ (b / 16) ∷ []) ((b % 16) ∷ [])
    ∙ sym (append_assoc (nybbles_of bytes) (high ∷ []) ((b / 16) ∷ (b % 16) ∷ []))
    ∙ ap (λ h. nybbles_with bytes h high ++ (b / 16) ∷ (b % 16) ∷ []) (sym e)
  where
    upper : (16 * high + b / 16) / 16 ≡ high
    upper = omega (arith, fits)

    lower : (16 * high + b / 16) % 16 ≡ b / 16
    lower = omega (arith, fits)

-- ---- the bytes

pub half_left_over : (bytes all : List ℕ) (high : ℕ) (half : Bool) → half ≡ true → high < 16 → all ≡ bytes ++ (16 * high) ∷ [] → HoldNybbles all (nybbles_with bytes half high)
half_left_over bytes all high half e small pushed =
    ap nybbles_of pushed ∙ nybbles_push bytes (16 * high)
    ∙ ap (λ k. nybbles_of bytes ++ k ∷ (16 * high % 16) ∷ []) upper
    ∙ ap (λ k. nybbles_of bytes ++ high ∷ k ∷ []) lower
    ∙ sym (append_assoc (nybbles_of bytes) (high ∷ []) (0 ∷ []))
    ∙ ap (λ k. (nybbles_of bytes ++ high ∷ []) ++ replicate k 0) (sym odd)
    ∙ ap (λ b. nybbles_with bytes b high ++ replicate (length (nybbles_with bytes b high) % 2) 0) (sym e)
  where
    upper : 16 * high / 16 ≡ high
    upper = omega arith

    lower : 16 * high % 16 ≡ 0
    lower = omega arith

    odd : length (nybbles_of bytes ++ high ∷ []) % 2 ≡ 1
    odd = omega (arith, length-append (nybbles_of bytes) (high ∷ []), length-nybbles_of bytes)

pub whole_bytes : (bytes : List ℕ) (high : ℕ) (half : Bool) → half ≡ false → HoldNybbles bytes (nybbles_with bytes half high)
whole_bytes bytes high half e =
    sym (append-nil (nybbles_of bytes)) ∙ sym (append-nil (nybbles_of bytes ++ []))
    ∙ ap (λ k. (nybbles_of bytes ++ []) ++ replicate k 0) (sym even)
    ∙ ap (λ b. nybbles_with bytes b high ++ replicate (length (nybbles_with bytes b high) % 2) 0) (sym e)
  where
    even : length (nybbles_of bytes ++ []) % 2 ≡ 0
    even = omega (arith, ap (λ (l : List ℕ). length l) (append-nil (nybbles_of bytes)), length-nybbles_of bytes)

abbrev zeros : ℕ → List ℕ
zeros n = replicate n 0

zeros_long : (n : ℕ) → length (zeros n) ≡ n
zeros_long n = length-replicate n 0

pub bytes_long : (bytes nybbles : List ℕ) → HoldNybbles bytes nybbles → length bytes ≡ div_ceil (length nybbles) 2
bytes_long bytes nybbles hold =
    omega (arith, length-nybbles_of bytes, ap length hold, length-append nybbles (zeros (length nybbles % 2)), zeros_long (length nybbles % 2))

-- ---- numbers of two nybbles, and repeat counts

pub one_byte : (f n b : ℕ) → b ≡ (n - f - 1) + 16 * (f + 1) → (b / 16) ∷ (b % 16) ∷ [] ≡ ((n - f - 1) / 16 + f + 1) ∷ ((n - f - 1) % 16) ∷ []
one_byte f n b e = ap₂ (λ (x y : ℕ). x ∷ y ∷ []) upper lower
  where
    upper : b / 16 ≡ (n - f - 1) / 16 + f + 1
    upper = omega (arith, e)

    lower : b % 16 ≡ (n - f - 1) % 16
    lower = omega (arith, e)

pub count_text : (f n : ℕ) → 2 ≤ n → items_text f (with_count n []) ≡ 14 ∷ number_text f n
count_text f zero many = absurd (omega (arith, many))
count_text f (suc zero) many = absurd (omega (arith, many))
count_text f (suc (suc n)) many = refl
