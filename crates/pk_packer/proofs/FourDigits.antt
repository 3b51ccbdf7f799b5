-- Long numbers of four digits, which are written at once.
use Rattle.std.proofs.Common.{◌≡◌, ◌∙◌, ℕ, ◌-◌, ◌*◌, ◌/◌, ◌%◌, ◌<◌, ◌≤◌, Bool, true, false, cond, List, [], ◌∷◌, ◌++◌, length, replicate, refl, sym, ap, arith, append-nil, append_assoc}
use Rattle.std.proofs.lemmas.Int.Digits.{digits_of_step}
use Rattle.std.specs.Int.Digits.{digits_of}
use Rattle.pk_runs.specs.Numbers.{nybbles_of}
use Rattle.pk_packer.specs.Spelling.{long_text}
use Rattle.pk_packer.proofs.HeldBytes.{nybbles_with}

-- three zeros and four digits
abbrev pub four_text : ℕ → List ℕ
four_text v = 0 ∷ 0 ∷ 0 ∷ (v / 4096) ∷ (v / 256 % 16) ∷ (v / 16 % 16) ∷ (v % 16) ∷ []

one_digit : (v : ℕ) → 0 < v → v < 16 → digits_of 16 v ≡ v ∷ []
one_digit v some small =
    digits_of_step 16 v (omega arith) some ∙ ap (λ k. digits_of 16 k ++ (v % 16) ∷ []) none ∙ ap (λ k. k ∷ []) last
  where
    none : v / 16 ≡ 0
    none = omega (arith, small)

    last : v % 16 ≡ v
    last = omega (arith, small)

four_digits : (v : ℕ) → 4096 ≤ v → v < 65536 → digits_of 16 v ≡ (v / 4096) ∷ (v / 256 % 16) ∷ (v / 16 % 16) ∷ (v % 16) ∷ []
four_digits v large small =
    digits_of_step 16 v (omega arith) (omega (arith, large))
    ∙ ap (λ l. l ++ (v % 16) ∷ [])
    (digits_of_step 16 (v / 16) (omega arith) (omega (arith, large))
    ∙ ap (λ l. l ++ (v / 16 % 16) ∷ [])
    (digits_of_step 16 (v / 16 / 16) (omega arith) (omega (arith, large))
    ∙ ap (λ l. l ++ (v / 16 / 16 % 16) ∷ []) (one_digit (v / 16 / 16 / 16) (omega (arith, large)) (omega (arith, small)))))
    ∙ ap (λ k. k ∷ (v / 16 / 16 % 16) ∷ (v / 16 % 16) ∷ (v % 16) ∷ []) first
    ∙ ap (λ k. (v / 4096) ∷ k ∷ (v / 16 % 16) ∷ (v % 16) ∷ []) second
  where
    first : v / 16 / 16 / 16 ≡ v / 4096
    first = omega arith

    second : v / 16 / 16 % 16 ≡ v / 256 % 16
    second = omega arith

pub long_four : (v : ℕ) → 4096 ≤ v → v < 65536 → four_text v ≡ long_text v
long_four v large small = sym (ap (λ ds. replicate (length ds - 1) 0 ++ ds) (four_digits v large small))

-- ---- in bytes

nybbles_more : (bytes more : List ℕ) → nybbles_of (bytes ++ more) ≡ nybbles_of bytes ++ nybbles_of more
nybbles_more [] more = refl
nybbles_more (c ∷ bytes) more = ap (λ l. (c / 16) ∷ (c % 16) ∷ l) (nybbles_more bytes more)

pub four_after_half : (bytes all : List ℕ) (high v : ℕ) (half : Bool) → half ≡ true → high < 16 → v < 65536 → all ≡ bytes ++ (16 * high) ∷ 0 ∷ (v / 256) ∷ (v % 256) ∷ []
    → nybbles_with all false high ≡ nybbles_with bytes half high ++ four_text v
four_after_half bytes all high v half e small fits pushed =
    append-nil (nybbles_of all) ∙ ap nybbles_of pushed ∙ nybbles_more bytes ((16 * high) ∷ 0 ∷ (v / 256) ∷ (v % 256) ∷ [])
    ∙ ap (λ k. nybbles_of bytes ++ k ∷ (16 * high % 16) ∷ 0 ∷ 0 ∷ (v / 256 / 16) ∷ (v / 256 % 16) ∷ (v % 256 / 16) ∷ (v % 256 % 16) ∷ []) upper
    ∙ ap (λ k. nybbles_of bytes ++ high ∷ k ∷ 0 ∷ 0 ∷ (v / 256 / 16) ∷ (v / 256 % 16) ∷ (v % 256 / 16) ∷ (v % 256 % 16) ∷ []) lower
    ∙ ap (λ k. nybbles_of bytes ++ high ∷ 0 ∷ 0 ∷ 0 ∷ k ∷ (v / 256 % 16) ∷ (v % 256 / 16) ∷ (v % 256 % 16) ∷ []) first
    ∙ ap (λ k. nybbles_of bytes ++ high ∷ 0 ∷ 0 ∷ 0 ∷ (v / 4096) ∷ (v / 256 % 16) ∷ k ∷ (v % 256 % 16) ∷ []) third
    ∙ ap (λ k. nybbles_of bytes ++ high ∷ 0 ∷ 0 ∷ 0 ∷ (v / 4096) ∷ (v / 256 % 16) ∷ (v / 16 % 16) ∷ k ∷ []) last
    ∙ sym (append_assoc (nybbles_of bytes) (high ∷ []) (four_text v))
    ∙ ap (λ b. (nybbles_of bytes ++ cond b (high ∷ []) []) ++ four_text v) (sym e)
  where
    upper : 16 * high / 16 ≡ high
    upper = omega arith

    lower : 16 * high % 16 ≡ 0
    lower = omega arith

    first : v / 256 / 16 ≡ v / 4096
    first = omega arith

    third : v % 256 / 16 ≡ v / 16 % 16
    third = omega arith

    last : v % 256 % 16 ≡ v % 16
    last = omega arith

pub four_after_whole : (bytes all : List ℕ) (high v : ℕ) (half : Bool) → half ≡ false → v < 65536 → all ≡ bytes ++ 0 ∷ (v / 4096) ∷ (v / 16 % 256) ∷ []
    → nybbles_with all true (v % 16) ≡ nybbles_with bytes half high ++ four_text v
four_after_whole bytes all high v half e fits pushed =
    ap (λ l. l ++ (v % 16) ∷ [])
    (ap nybbles_of pushed ∙ nybbles_more bytes (0 ∷ (v / 4096) ∷ (v / 16 % 256) ∷ [])
    ∙ ap (λ k. nybbles_of bytes ++ 0 ∷ 0 ∷ k ∷ (v / 4096 % 16) ∷ (v / 16 % 256 / 16) ∷ (v / 16 % 256 % 16) ∷ []) zeroth
    ∙ ap (λ k. nybbles_of bytes ++ 0 ∷ 0 ∷ 0 ∷ k ∷ (v / 16 % 256 / 16) ∷ (v / 16 % 256 % 16) ∷ []) first
    ∙ ap (λ k. nybbles_of bytes ++ 0 ∷ 0 ∷ 0 ∷ (v / 4096) ∷ k ∷ (v / 16 % 256 % 16) ∷ []) second
    ∙ ap (λ k. nybbles_of bytes ++ 0 ∷ 0 ∷ 0 ∷ (v / 4096) ∷ (v / 256 % 16) ∷ k ∷ []) third)
    ∙ append_assoc (nybbles_of bytes) (0 ∷ 0 ∷ 0 ∷ (v / 4096) ∷ (v / 256 % 16) ∷ (v / 16 % 16) ∷ []) ((v % 16) ∷ [])
    ∙ ap (λ l. l ++ four_text v) (sym (append-nil (nybbles_of bytes)))
    ∙ ap (λ h. nybbles_with bytes h high ++ four_text v) (sym e)
  where
    zeroth : v / 4096 / 16 ≡ 0
    zeroth = omega (arith, fits)

    first : v / 4096 % 16 ≡ v / 4096
    first = omega (arith, fits)

    second : v / 16 % 256 / 16 ≡ v / 256 % 16
    second = omega arith

    third : v / 16 % 256 % 16 ≡ v / 16 % 16
    third = omega arith
