-- Nybbles that end before a number is whole begin with no number and no repeat count.
use Rattle.std.proofs.Common.{◌≡◌, ℕ, zero, suc, ◌≤◌, ◌⊎◌, Bool, true, false, List, [], ◌∷◌, ◌++◌, length, get_or, eqb, replicate, refl, sym, ap, ◌∙◌, arith, inl, inr, append_assoc}
use Rattle.std.proofs.lemmas.Bool.{true≢false, eq-eqb}
use Rattle.std.proofs.lemmas.List.{length-append}
use Rattle.pk_runs.specs.Numbers.{Repeat, SpellsNumber, SpellsItem, CutsNumber, IsRepeatMark}
use Rattle.pk_runs.proofs.Apart.{heads, long_head, number_head, repeat_head}

marked : (i : ℕ) → IsRepeatMark i → 14 ≤ i
marked i (inl e) = omega (arith, e)
marked i (inr e) = omega (arith, e)

-- zeros, and after them no 0
zeros_end : (k l g : ℕ) (s t : List ℕ) → 1 ≤ g → eqb (get_or s 0 1) 0 ≡ false → replicate k 0 ++ s ≡ replicate l 0 ++ g ∷ t → (k ≡ l) × (s ≡ g ∷ t)
zeros_end zero zero g s t some other e = (refl, e)
zeros_end zero (suc l) g s t some other e =
    absurd (true≢false (sym (eq-eqb (get_or s 0 1) 0 (ap (λ x. get_or x 0 1) e)) ∙ other))
zeros_end (suc k) zero g s t some other e = let h = heads 0 g (replicate k 0 ++ s) t e in absurd (omega (arith, h.0, some))
zeros_end (suc k) (suc l) g s t some other e =
    let h = heads 0 0 (replicate k 0 ++ s) (replicate l 0 ++ g ∷ t) e in
    let r = zeros_end k l g s t some other h.1 in
    (ap suc r.0, r.1)

none_there : {A : Type 0} (i : ℕ) (s : List ℕ) → [] ≡ i ∷ s → A
none_there i s e = absurd cc

pub cut_number : (d n : ℕ) (x a y : List ℕ) → d ≤ 13 → CutsNumber d x → SpellsNumber d a n → x ≡ a ++ y → ⊥
cut_number d n x a y small (inl none) s e =
    let p = number_head d n a small s in
    none_there p.0 (p.1 ++ y) (sym none ∙ e ∙ ap (λ l. l ++ y) p.2)
cut_number d n x a y small (inr (inl cut)) (inl s) e =
    let h = heads cut.0 s.0 [] y (sym cut.1 ∙ e ∙ ap (λ l. l ++ y) s.1) in
    absurd (omega (arith, h.0, cut.2, s.3))
cut_number d n x a y small (inr (inl cut)) (inr (inl s)) e =
    let h = heads cut.0 s.0 [] (s.1 ∷ y) (sym cut.1 ∙ e ∙ ap (λ l. l ++ y) s.2) in
    none_there s.1 y h.1
cut_number d n x a y small (inr (inl cut)) (inr (inr s)) e =
    let z = long_head s.0 cut.0 (s.1 ∷ (s.2 ++ y)) [] [] s.3 (sym (append_assoc (replicate s.0 0) (s.1 ∷ s.2) y) ∙ ap (λ l. l ++ y) (sym s.6) ∙ sym e ∙ cut.1) in
    absurd (omega (arith, z, cut.2))
cut_number d n x a y small (inr (inr cut)) (inl s) e =
    let z = long_head cut.0 s.0 cut.1 y [] cut.2 (sym cut.5 ∙ e ∙ ap (λ l. l ++ y) s.1) in
    absurd (omega (arith, z, s.2))
cut_number d n x a y small (inr (inr cut)) (inr (inl s)) e =
    let z = long_head cut.0 s.0 cut.1 (s.1 ∷ y) [] cut.2 (sym cut.5 ∙ e ∙ ap (λ l. l ++ y) s.2) in
    absurd (omega (arith, z, s.3))
cut_number d n x a y small (inr (inr cut)) (inr (inr s)) e =
    let r = zeros_end cut.0 s.0 s.1 cut.1 (s.2 ++ y) s.4 cut.4 (sym cut.5 ∙ e ∙ ap (λ l. l ++ y) s.6 ∙ append_assoc (replicate s.0 0) (s.1 ∷ s.2) y) in
    let long : length cut.1 ≡ length (s.1 ∷ (s.2 ++ y)) = ap (λ (l : List ℕ). length l) r.1 in
    absurd (omega (arith, long, length-append s.2 y, s.5, cut.3, r.0))

-- where a number is cut, there is no mark of a repeat count
pub cut_head : (d i : ℕ) (x s : List ℕ) → d ≤ 13 → CutsNumber d x → x ≡ i ∷ s → i ≤ 13
cut_head d i x s small (inl none) e = none_there i s (sym none ∙ e)
cut_head d i x s small (inr (inl cut)) e = let h = heads cut.0 i [] s (sym cut.1 ∙ e) in omega (arith, h.0, cut.3)
cut_head d i x s small (inr (inr cut)) e =
    let z = long_head cut.0 i cut.1 s [] cut.2 (sym cut.5 ∙ e) in
    omega (arith, z)

-- ---- the nybbles after the items that were read, where the next row has a repeat count or not

abbrev pub IsShort : ℕ → Bool → List ℕ → Type 0
IsShort d repeated x = CutsNumber d x ⊎ ((repeated ≡ false) × (number : List ℕ) × (x ≡ 14 ∷ number) × CutsNumber d number)

abbrev pub IsSecond : Bool → List ℕ → Type 0
IsSecond repeated x =
    ((i : ℕ) × (more : List ℕ) × (x ≡ i ∷ more) × IsRepeatMark i × (repeated ≡ true))
    ⊎ ((i : ℕ) × (more : List ℕ) × (x ≡ 14 ∷ i ∷ more) × IsRepeatMark i)

pub short_no_run : (d n : ℕ) (rep : Bool) (x a y : List ℕ) → d ≤ 13 → IsShort d rep x → SpellsNumber d a n → x ≡ a ++ y → ⊥
short_no_run d n rep x a y small (inl cut) s e = cut_number d n x a y small cut s e
short_no_run d n rep x a y small (inr cut) s e =
    let p = number_head d n a small s in
    let h = heads 14 p.0 cut.1 (p.1 ++ y) (sym cut.2 ∙ e ∙ ap (λ l. l ++ y) p.2) in
    absurd (omega (arith, h.0, p.3))

pub short_no_repeat : (d n : ℕ) (rep : Bool) (x a y : List ℕ) → d ≤ 13 → IsShort d rep x → SpellsItem d a (Repeat n) → x ≡ a ++ y → ⊥
short_no_repeat d n rep x a y small (inl cut) s e =
    let p = repeat_head d n a s in
    let low = cut_head d p.0 x (p.1 ++ y) small cut (e ∙ ap (λ l. l ++ y) p.2) in
    absurd (omega (arith, low, p.3))
short_no_repeat d n rep x a y small (inr cut) (inl s) e =
    let h = heads 14 15 cut.1 y (sym cut.2 ∙ e ∙ ap (λ l. l ++ y) s.0) in
    absurd (omega (arith, h.0))
short_no_repeat d n rep x a y small (inr cut) (inr s) e =
    let h = heads 14 14 cut.1 (s.0 ++ y) (sym cut.2 ∙ e ∙ ap (λ l. l ++ y) s.1) in
    cut_number d n cut.1 s.0 y small cut.3 s.2 h.1

pub short_no_second : (d : ℕ) (rep : Bool) (x : List ℕ) → d ≤ 13 → IsShort d rep x → IsSecond rep x → ⊥
short_no_second d rep x small (inl cut) (inl s) =
    let low = cut_head d s.0 x s.1 small cut s.2 in
    absurd (omega (arith, low, marked s.0 s.3))
short_no_second d rep x small (inl cut) (inr s) =
    let low = cut_head d 14 x (s.0 ∷ s.1) small cut s.2 in
    absurd (omega (arith, low))
short_no_second d rep x small (inr cut) (inl s) = true≢false (sym s.4 ∙ cut.0)
short_no_second d rep x small (inr cut) (inr s) =
    let h = heads 14 14 cut.1 (s.0 ∷ s.1) (sym cut.2 ∙ s.2) in
    let low = cut_head d s.0 cut.1 s.1 small cut.3 h.1 in
    absurd (omega (arith, low, marked s.0 s.3))

pub second_no_run : (d n : ℕ) (rep : Bool) (x a y : List ℕ) → d ≤ 13 → IsSecond rep x → SpellsNumber d a n → x ≡ a ++ y → ⊥
second_no_run d n rep x a y small (inl s) t e =
    let p = number_head d n a small t in
    let h = heads s.0 p.0 s.1 (p.1 ++ y) (sym s.2 ∙ e ∙ ap (λ l. l ++ y) p.2) in
    absurd (omega (arith, h.0, p.3, marked s.0 s.3))
second_no_run d n rep x a y small (inr s) t e =
    let p = number_head d n a small t in
    let h = heads 14 p.0 (s.0 ∷ s.1) (p.1 ++ y) (sym s.2 ∙ e ∙ ap (λ l. l ++ y) p.2) in
    absurd (omega (arith, h.0, p.3))

pub second_no_repeat : (d n : ℕ) (rep : Bool) (x a y : List ℕ) → d ≤ 13 → rep ≡ false → IsSecond rep x → SpellsItem d a (Repeat n) → x ≡ a ++ y → ⊥
second_no_repeat d n rep x a y small first (inl s) t e = true≢false (sym s.4 ∙ first)
second_no_repeat d n rep x a y small first (inr s) (inl t) e =
    let h = heads 14 15 (s.0 ∷ s.1) y (sym s.2 ∙ e ∙ ap (λ l. l ++ y) t.0) in
    absurd (omega (arith, h.0))
second_no_repeat d n rep x a y small first (inr s) (inr t) e =
    let h = heads 14 14 (s.0 ∷ s.1) (t.0 ++ y) (sym s.2 ∙ e ∙ ap (λ l. l ++ y) t.1) in
    let p = number_head d n t.0 small t.2 in
    let g = heads s.0 p.0 s.1 (p.1 ++ y) (h.1 ∙ ap (λ l. l ++ y) p.2) in
    absurd (omega (arith, g.0, p.3, marked s.0 s.3))
