-- The least width gives the shortest spelling.
use Rattle.std.proofs.Common.{◌≡◌, ℕ, zero, suc, ◌+◌, ◌*◌, ◌^◌, ◌<◌, ◌≤◌, ℤ, pos, negsuc, false, ltb, leb, List, length, refl, sym, ap, subst, arith, inl, inr}
use Rattle.std.proofs.lemmas.Bool.{cond_both, ltb-true, ltb-false, leb-true, leb-false}
use Rattle.std.proofs.lemmas.List.{length-append}
use Rattle.big_endian.specs.Numbers.{number_bytes}
use Rattle.dvi_commands.specs.Spelling.{DviCommand, Definition, Set, Put, SetRule, PutRule, Nop, Bop, Eop, Push, Pop, Right, W0, W, X0, X, Down, Y0, Y, Z0, Z, Font, Special, Define, Pre, Post, PostPost, spelling, HasWidth, IsOperand, IsMotion}
use Rattle.dvi_commands.specs.ShortestSpelling.{shortest_spelling, least_width, number_width, motion_width, motion_width_of}
use Rattle.dvi_commands.specs.SpellingLaws.{ShortestIsLeast}
use Rattle.dvi_commands.proofs.Prefix.{by_width, wide}
use Rattle.big_endian.proofs.Bytes.{length-number_bytes}

-- ---- widths

abbrev LeastNumber : ℤ → ℕ → ℕ → Type 0
LeastNumber z n k = IsOperand k z × (k ≤ n)

above : (m n : ℕ) → IsOperand n (pos m) → (m < 256 ^ 1 → ⊥) → 2 ≤ n
above m n (inr h) big = omega (arith, h.0)
above m zero (inl h) big = absurd (omega (arith, h.0))
above m (suc zero) (inl h) big = absurd (big h.2)
above m (suc (suc n)) (inl h) big = omega arith

above_2 : (m n : ℕ) → IsOperand n (pos m) → (m < 256 ^ 1 → ⊥) → (m < 256 ^ 2 → ⊥) → 3 ≤ n
above_2 m n (inr h) b1 b2 = omega (arith, h.0)
above_2 m zero (inl h) b1 b2 = absurd (omega (arith, h.0))
above_2 m (suc zero) (inl h) b1 b2 = absurd (b1 h.2)
above_2 m (suc (suc zero)) (inl h) b1 b2 = absurd (b2 h.2)
above_2 m (suc (suc (suc n))) (inl h) b1 b2 = omega arith

above_3 : (m n : ℕ) → IsOperand n (pos m) → (m < 256 ^ 1 → ⊥) → (m < 256 ^ 2 → ⊥) → (m < 256 ^ 3 → ⊥) → LeastNumber (pos m) n 4
above_3 m n (inr h) b1 b2 b3 = (inr (refl, h.1), omega (arith, h.0))
above_3 m zero (inl h) b1 b2 b3 = absurd (omega (arith, h.0))
above_3 m (suc zero) (inl h) b1 b2 b3 = absurd (b1 h.2)
above_3 m (suc (suc zero)) (inl h) b1 b2 b3 = absurd (b2 h.2)
above_3 m (suc (suc (suc zero))) (inl h) b1 b2 b3 = absurd (b3 h.2)
above_3 m (suc (suc (suc (suc n)))) (inl h) b1 b2 b3 = absurd (omega (arith, h.1))

fails : (m k : ℕ) → ltb m k ≡ false → m < k → ⊥
fails m k e lt = let le = ltb-false m k e in omega (arith, le, lt)

number_least : (z : ℤ) (n : ℕ) → IsOperand n z → LeastNumber z n (number_width z)
number_least (pos m) n h =
    cond_both (ltb m (256 ^ 1)) 1 _ (LeastNumber (pos m) n) (λ e. (inl (omega arith, omega arith, ltb-true _ _ e), (wide n (pos m) h).0)) (λ e1.
    cond_both (ltb m (256 ^ 2)) 2 _ (LeastNumber (pos m) n) (λ e. (inl (omega arith, omega arith, ltb-true _ _ e), above m n h (fails m _ e1))) (λ e2.
    cond_both (ltb m (256 ^ 3)) 3 _ (LeastNumber (pos m) n) (λ e. (inl (omega arith, omega arith, ltb-true _ _ e), above_2 m n h (fails m _ e1) (fails m _ e2))) (λ e3.
    above_3 m n h (fails m _ e1) (fails m _ e2) (fails m _ e3))))
number_least (negsuc m) n (inl h) = elim h.2 [ ]
number_least (negsuc m) n (inr h) = (inr (refl, h.1), omega (arith, h.0))

abbrev LeastMotion : ℕ → ℕ → ℕ → Type 0
LeastMotion m n k = (1 ≤ k) × (k ≤ 4) × (2 * m < 256 ^ k) × (k ≤ n)

motion_above : (m n : ℕ) → 1 ≤ n → n ≤ 4 → 2 * m < 256 ^ n → (2 * m < 256 ^ 1 → ⊥) → 2 ≤ n
motion_above m zero low high h big = absurd (omega (arith, low))
motion_above m (suc zero) low high h big = absurd (big h)
motion_above m (suc (suc n)) low high h big = omega arith

motion_above_2 : (m n : ℕ) → 1 ≤ n → n ≤ 4 → 2 * m < 256 ^ n → (2 * m < 256 ^ 1 → ⊥) → (2 * m < 256 ^ 2 → ⊥) → 3 ≤ n
motion_above_2 m zero low high h b1 b2 = absurd (omega (arith, low))
motion_above_2 m (suc zero) low high h b1 b2 = absurd (b1 h)
motion_above_2 m (suc (suc zero)) low high h b1 b2 = absurd (b2 h)
motion_above_2 m (suc (suc (suc n))) low high h b1 b2 = omega arith

motion_above_3 : (m n : ℕ) → 1 ≤ n → n ≤ 4 → 2 * m < 256 ^ n → (2 * m < 256 ^ 1 → ⊥) → (2 * m < 256 ^ 2 → ⊥) → (2 * m < 256 ^ 3 → ⊥) → LeastMotion m n 4
motion_above_3 m zero low high h b1 b2 b3 = absurd (omega (arith, low))
motion_above_3 m (suc zero) low high h b1 b2 b3 = absurd (b1 h)
motion_above_3 m (suc (suc zero)) low high h b1 b2 b3 = absurd (b2 h)
motion_above_3 m (suc (suc (suc zero))) low high h b1 b2 b3 = absurd (b3 h)
motion_above_3 m (suc (suc (suc (suc zero)))) low high h b1 b2 b3 = (omega arith, omega arith, h, omega arith)
motion_above_3 m (suc (suc (suc (suc (suc n))))) low high h b1 b2 b3 = absurd (omega (arith, high))

motion_least_of : (m n : ℕ) → 1 ≤ n → n ≤ 4 → 2 * m < 256 ^ n → LeastMotion m n (motion_width_of m)
motion_least_of m n low high h =
    cond_both (ltb (2 * m) (256 ^ 1)) 1 _ (LeastMotion m n) (λ e. (omega arith, omega arith, ltb-true _ _ e, low)) (λ e1.
    cond_both (ltb (2 * m) (256 ^ 2)) 2 _ (LeastMotion m n) (λ e. (omega arith, omega arith, ltb-true _ _ e, motion_above m n low high h (fails (2 * m) _ e1))) (λ e2.
    cond_both (ltb (2 * m) (256 ^ 3)) 3 _ (LeastMotion m n) (λ e. (omega arith, omega arith, ltb-true _ _ e, motion_above_2 m n low high h (fails (2 * m) _ e1) (fails (2 * m) _ e2))) (λ e3.
    motion_above_3 m n low high h (fails (2 * m) _ e1) (fails (2 * m) _ e2) (fails (2 * m) _ e3))))

motion_least : (z : ℤ) (n : ℕ) → IsMotion n z → IsMotion (motion_width z) z × (motion_width z ≤ n)
motion_least (pos m) n h = let l = motion_least_of m n h.0 h.1 h.2 in ((l.0, l.1, l.2), l.3)
motion_least (negsuc m) n h = let l = motion_least_of m n h.0 h.1 h.2 in ((l.0, l.1, l.2), l.3)

-- ---- one command after another

abbrev Best : DviCommand → ℕ → Type 0
Best c n = HasWidth c (least_width c) × (length (spelling c (least_width c)) ≤ length (spelling c n))

len : (n : ℕ) (z : ℤ) → IsOperand n z → length (number_bytes n z) ≡ n
len n z h = let w = wide n z h in length-number_bytes n z w.0 w.1

motion_len : (n : ℕ) (z : ℤ) → IsMotion n z → length (number_bytes n z) ≡ n
motion_len n z h = length-number_bytes n z h.0 h.1

set_has : (k : ℕ) (z : ℤ) → IsOperand k z → HasWidth (Set z) k × (length (spelling (Set z) k) ≡ suc k)
set_has zero z h = let w = wide zero z h in absurd (omega (arith, w.0))
set_has (suc k) z h = (h, ap suc (len (suc k) z h))

set_some : (m n : ℕ) → HasWidth (Set (pos m)) n → 1 ≤ length (spelling (Set (pos m)) n)
set_some m zero h = omega arith
set_some m (suc n) h = omega arith

set_number : (m n : ℕ) → leb m 127 ≡ false → HasWidth (Set (pos m)) n → IsOperand n (pos m)
set_number m zero e h = let big = leb-false m 127 e in absurd (omega (arith, big, h))
set_number m (suc n) e h = h

set_best : (z : ℤ) (n : ℕ) → HasWidth (Set z) n → Best (Set z) n
set_best (pos m) n h =
    cond_both (leb m 127) 0 (number_width (pos m)) (λ k. HasWidth (Set (pos m)) k × (length (spelling (Set (pos m)) k) ≤ length (spelling (Set (pos m)) n)))
    (λ e. (leb-true m 127 e, set_some m n h))
    (λ e. let number = set_number m n e h in
    let least = number_least (pos m) n number in
    let has = set_has (number_width (pos m)) (pos m) least.0 in
    let given = set_has n (pos m) number in
    (has.0, omega (arith, has.1, given.1, least.1)))
set_best (negsuc m) zero h = elim h [ ]
set_best (negsuc m) (suc n) (inl h) = elim h.2 [ ]
set_best (negsuc m) (suc n) (inr h) =
    let has = set_has 4 (negsuc m) (inr (refl, h.1)) in
    let given = set_has (suc n) (negsuc m) (inr h) in
    (has.0, omega (arith, has.1, given.1, h.0))

font_has : (k : ℕ) (z : ℤ) → IsOperand k z → HasWidth (Font z) k × (length (spelling (Font z) k) ≡ suc k)
font_has zero z h = let w = wide zero z h in absurd (omega (arith, w.0))
font_has (suc k) z h = (h, ap suc (len (suc k) z h))

font_some : (m n : ℕ) → HasWidth (Font (pos m)) n → 1 ≤ length (spelling (Font (pos m)) n)
font_some m zero h = omega arith
font_some m (suc n) h = omega arith

font_number : (m n : ℕ) → leb m 63 ≡ false → HasWidth (Font (pos m)) n → IsOperand n (pos m)
font_number m zero e h = let big = leb-false m 63 e in absurd (omega (arith, big, h))
font_number m (suc n) e h = h

font_best : (z : ℤ) (n : ℕ) → HasWidth (Font z) n → Best (Font z) n
font_best (pos m) n h =
    cond_both (leb m 63) 0 (number_width (pos m)) (λ k. HasWidth (Font (pos m)) k × (length (spelling (Font (pos m)) k) ≤ length (spelling (Font (pos m)) n)))
    (λ e. (leb-true m 63 e, font_some m n h))
    (λ e. let number = font_number m n e h in
    let least = number_least (pos m) n number in
    let has = font_has (number_width (pos m)) (pos m) least.0 in
    let given = font_has n (pos m) number in
    (has.0, omega (arith, has.1, given.1, least.1)))
font_best (negsuc m) zero h = elim h [ ]
font_best (negsuc m) (suc n) (inl h) = elim h.2 [ ]
font_best (negsuc m) (suc n) (inr h) =
    let has = font_has 4 (negsuc m) (inr (refl, h.1)) in
    let given = font_has (suc n) (negsuc m) (inr h) in
    (has.0, omega (arith, has.1, given.1, h.0))

define_size : (d : Definition) (n : ℕ) → IsOperand n d.number → length (spelling (Define d) n) ≡ 15 + n + length d.name
define_size d n h =
    let w = wide n d.number h in
    by_width (λ k. length (spelling (Define d) k) ≡ 15 + k + length d.name) (omega arith) (omega arith) (omega arith) (omega arith) n w.0 w.1

define_length : (d : Definition) (n k : ℕ) → IsOperand n d.number → IsOperand k d.number → k ≤ n → length (spelling (Define d) k) ≤ length (spelling (Define d) n)
define_length d n k hn hk le = omega (arith, define_size d n hn, define_size d k hk, le)

best : (c : DviCommand) (n : ℕ) → HasWidth c n → Best c n
best (Set z) n h = set_best z n h
best (Font z) n h = font_best z n h
best (Put z) n h = let l = number_least z n h in (l.0, omega (arith, len n z h, len (number_width z) z l.0, l.1))
best (Right z) n h = let l = motion_least z n h in (l.0, omega (arith, motion_len n z h, motion_len (motion_width z) z l.0, l.1))
best (W z) n h = let l = motion_least z n h in (l.0, omega (arith, motion_len n z h, motion_len (motion_width z) z l.0, l.1))
best (X z) n h = let l = motion_least z n h in (l.0, omega (arith, motion_len n z h, motion_len (motion_width z) z l.0, l.1))
best (Down z) n h = let l = motion_least z n h in (l.0, omega (arith, motion_len n z h, motion_len (motion_width z) z l.0, l.1))
best (Y z) n h = let l = motion_least z n h in (l.0, omega (arith, motion_len n z h, motion_len (motion_width z) z l.0, l.1))
best (Z z) n h = let l = motion_least z n h in (l.0, omega (arith, motion_len n z h, motion_len (motion_width z) z l.0, l.1))
best (Special text) n h =
    let l = number_least (pos (length text)) n h in
    (l.0, omega (arith, len n (pos (length text)) h, len (number_width (pos (length text))) (pos (length text)) l.0, l.1, length-append (number_bytes n (pos (length text))) text, length-append (number_bytes (number_width (pos (length text))) (pos (length text))) text))
best (Define d) n h =
    let l = number_least d.number n h.0 in
    ((l.0, h.1), define_length d n (number_width d.number) h.0 l.0 l.1)
best (SetRule a b) n h = ((refl, h.1, h.2), (omega arith))
best (PutRule a b) n h = ((refl, h.1, h.2), (omega arith))
best (Bop counts back) n h = ((refl, h.1, h.2, h.3), (omega arith))
best (Pre p) n h = ((refl, h.1, h.2, h.3, h.4, h.5), (omega arith))
best (Post p) n h = ((refl, h.1, h.2, h.3), (omega arith))
best (PostPost q id) n h = ((refl, h.1, h.2), (omega arith))
best Nop n h = (refl, (omega arith))
best Eop n h = (refl, (omega arith))
best Push n h = (refl, (omega arith))
best Pop n h = (refl, (omega arith))
best W0 n h = (refl, (omega arith))
best X0 n h = (refl, (omega arith))
best Y0 n h = (refl, (omega arith))
best Z0 n h = (refl, (omega arith))

pub shortest_is_least : ShortestIsLeast
shortest_is_least c bytes h =
    let b = best c h.0 h.1 in
    ((least_width c, b.0, refl), subst (λ (s : List ℕ). length (shortest_spelling c) ≤ length s) (sym h.2) b.1)
