-- No run length or repeat count begins another, and bytes stand for at most one raster.
use Rattle.std.proofs.Common.{◌≡◌, ℕ, zero, suc, ◌+◌, ◌-◌, ◌*◌, ◌≤◌, ◌⊎◌, List, [], ◌∷◌, ◌++◌, length, take, replicate, refl, sym, ap, subst, ◌∙◌, arith, inl, inr, append_assoc}
use Rattle.std.proofs.lemmas.List.{take_at, append-nil}
use Rattle.pk_runs.specs.Numbers.{Item, Run, Repeat, SpellsNumber, SpellsItem, SpellsItems, hex_of, NoNumberBeginsAnother, NoItemBeginsAnother}
use Rattle.pk_runs.specs.Raster.{ItemsFit, rows_complete, rows_of, RunRastersAreOne}
use Rattle.pk_runs.proofs.ListEnds.{split_last, cancelled}

pub heads : (i j : ℕ) (s t : List ℕ) → i ∷ s ≡ j ∷ t → (i ≡ j) × (s ≡ t)
heads i j s t e = (cc, cc)

zeros : (k l f g : ℕ) (s t : List ℕ) → 1 ≤ f → 1 ≤ g → replicate k 0 ++ f ∷ s ≡ replicate l 0 ++ g ∷ t → (k ≡ l) × (f ≡ g) × (s ≡ t)
zeros zero zero f g s t hf hg e = let h = heads f g s t e in (refl, h.0, h.1)
zeros zero (suc l) f g s t hf hg e = let h = heads f 0 s (replicate l 0 ++ g ∷ t) e in absurd (omega (arith, h.0, hf))
zeros (suc k) zero f g s t hf hg e = let h = heads 0 g (replicate k 0 ++ f ∷ s) t e in absurd (omega (arith, h.0, hg))
zeros (suc k) (suc l) f g s t hf hg e =
    let h = heads 0 0 (replicate k 0 ++ f ∷ s) (replicate l 0 ++ g ∷ t) e in
    let r = zeros k l f g s t hf hg h.1 in
    (ap suc r.0, r.1, r.2)

-- the first nybble of a long number is 0
pub long_head : (k i : ℕ) (s t x : List ℕ) → 1 ≤ k → replicate k 0 ++ s ≡ i ∷ t → i ≡ 0
long_head zero i s t x h e = absurd (omega (arith, h))
long_head (suc k) i s t x h e = sym (heads 0 i (replicate k 0 ++ s) t e).0

pub joined : (a b c d x y : List ℕ) → a ≡ c → b ≡ d → a ++ x ≡ b ++ y → c ++ x ≡ d ++ y
joined a b c d x y e f same = ap (λ t. t ++ x) (sym e) ∙ same ∙ ap (λ t. t ++ y) f

pub no_number_begins_another : NoNumberBeginsAnother
no_number_begins_another d m n a b x y (inl s) (inl t) same =
    let h = heads s.0 t.0 x y (joined a b _ _ x y s.1 t.1 same) in
    (s.1 ∙ ap (λ i. i ∷ []) h.0 ∙ sym t.1, s.4 ∙ h.0 ∙ sym t.4)
no_number_begins_another d m n a b x y (inl s) (inr (inl t)) same =
    let h = heads s.0 t.0 x (t.1 ∷ y) (joined a b _ _ x y s.1 t.2 same) in
    absurd (omega (arith, h.0, s.3, t.3))
no_number_begins_another d m n a b x y (inr (inl s)) (inl t) same =
    let h = heads s.0 t.0 (s.1 ∷ x) y (joined a b _ _ x y s.2 t.1 same) in
    absurd (omega (arith, h.0, t.3, s.3))
no_number_begins_another d m n a b x y (inr (inl s)) (inr (inl t)) same =
    let h = heads s.0 t.0 (s.1 ∷ x) (t.1 ∷ y) (joined a b _ _ x y s.2 t.2 same) in
    let g = heads s.1 t.1 x y h.1 in
    let list : s.0 ∷ s.1 ∷ [] ≡ t.0 ∷ t.1 ∷ [] = rw (h.0, g.0) refl in
    let number : (s.0 - d - 1) * 16 + s.1 + d + 1 ≡ (t.0 - d - 1) * 16 + t.1 + d + 1 = rw (h.0, g.0) refl in
    (s.2 ∙ list ∙ sym t.2, s.5 ∙ number ∙ sym t.5)
no_number_begins_another d m n a b x y (inl s) (inr (inr t)) same =
    let e = joined a b _ _ x y s.1 t.6 same in
    let z = long_head t.0 s.0 (t.1 ∷ (t.2 ++ y)) x x t.3 (sym (append_assoc (replicate t.0 0) (t.1 ∷ t.2) y) ∙ sym e) in
    absurd (omega (arith, z, s.2))
no_number_begins_another d m n a b x y (inr (inr s)) (inl t) same =
    let e = joined a b _ _ x y s.6 t.1 same in
    let z = long_head s.0 t.0 (s.1 ∷ (s.2 ++ x)) y y s.3 (sym (append_assoc (replicate s.0 0) (s.1 ∷ s.2) x) ∙ e) in
    absurd (omega (arith, z, t.2))
no_number_begins_another d m n a b x y (inr (inl s)) (inr (inr t)) same =
    let e = joined a b _ _ x y s.2 t.6 same in
    let z = long_head t.0 s.0 (t.1 ∷ (t.2 ++ y)) (s.1 ∷ x) x t.3 (sym (append_assoc (replicate t.0 0) (t.1 ∷ t.2) y) ∙ sym e) in
    absurd (omega (arith, z, s.3))
no_number_begins_another d m n a b x y (inr (inr s)) (inr (inl t)) same =
    let e = joined a b _ _ x y s.6 t.2 same in
    let z = long_head s.0 t.0 (s.1 ∷ (s.2 ++ x)) (t.1 ∷ y) y s.3 (sym (append_assoc (replicate s.0 0) (s.1 ∷ s.2) x) ∙ e) in
    absurd (omega (arith, z, t.3))
no_number_begins_another d m n a b x y (inr (inr s)) (inr (inr t)) same =
    let e = joined a b _ _ x y s.6 t.6 same in
    let r = zeros s.0 t.0 s.1 t.1 (s.2 ++ x) (t.2 ++ y) s.4 t.4 (sym (append_assoc (replicate s.0 0) (s.1 ∷ s.2) x) ∙ e ∙ append_assoc (replicate t.0 0) (t.1 ∷ t.2) y) in
    let len : length s.2 ≡ length t.2 = s.5 ∙ r.0 ∙ sym t.5 in
    let others : s.2 ≡ t.2 = sym (take_at s.2 x (length s.2) refl) ∙ ap (take (length s.2)) r.2 ∙ take_at t.2 y (length s.2) (sym len) in
    let list : replicate s.0 0 ++ s.1 ∷ s.2 ≡ replicate t.0 0 ++ t.1 ∷ t.2 = rw (r.0, r.1, others) refl in
    let number : hex_of (s.1 ∷ s.2) + (13 - d) * 16 + d ≡ hex_of (t.1 ∷ t.2) + (13 - d) * 16 + d = rw (r.1, others) refl in
    (s.6 ∙ list ∙ sym t.6, omega (arith, s.7, t.7, number))

-- ---- items

-- a number begins with a nybble of at most 13, and a repeat count with a larger one
pub number_head : (d m : ℕ) (a : List ℕ) → d ≤ 13 → SpellsNumber d a m → (i : ℕ) × (rest : List ℕ) × (a ≡ i ∷ rest) × (i ≤ 13)
number_head d m a h (inl s) = (s.0, [], s.1, omega (arith, s.3, h))
number_head d m a h (inr (inl s)) = (s.0, s.1 ∷ [], s.2, s.4)
number_head d m a h (inr (inr s)) = long s.0 s.3 s.6
  where
    long : (k : ℕ) → 1 ≤ k → a ≡ replicate k 0 ++ s.1 ∷ s.2 → (i : ℕ) × (rest : List ℕ) × (a ≡ i ∷ rest) × (i ≤ 13)
    long zero one e = absurd (omega (arith, one))
    long (suc k) one e = (0, replicate k 0 ++ s.1 ∷ s.2, e, omega arith)

pub repeat_head : (d n : ℕ) (b : List ℕ) → SpellsItem d b (Repeat n) → (i : ℕ) × (rest : List ℕ) × (b ≡ i ∷ rest) × (14 ≤ i)
repeat_head d n b (inl s) = (15, [], s.0, omega arith)
repeat_head d n b (inr s) = (14, s.0, s.1, omega arith)

pub apart : {A : Type 0} (d m n : ℕ) (a b x y : List ℕ) → d ≤ 13 → SpellsNumber d a m → SpellsItem d b (Repeat n) → a ++ x ≡ b ++ y → A
apart d m n a b x y h s t same =
    let p = number_head d m a h s in
    let q = repeat_head d n b t in
    let e = heads p.0 q.0 (p.1 ++ x) (q.1 ++ y) (joined a b _ _ x y p.2 q.2 same) in
    absurd (omega (arith, e.0, p.3, q.3))

pub repeats_alike : (d m n : ℕ) (a b x y : List ℕ) → SpellsItem d a (Repeat m) → SpellsItem d b (Repeat n) → a ++ x ≡ b ++ y → (a ≡ b) × (m ≡ n)
repeats_alike d m n a b x y (inl s) (inl t) same = (s.0 ∙ sym t.0, s.1 ∙ sym t.1)
repeats_alike d m n a b x y (inl s) (inr t) same = let e = heads 15 14 x (t.0 ++ y) (joined a b _ _ x y s.0 t.1 same) in absurd (omega (arith, e.0))
repeats_alike d m n a b x y (inr s) (inl t) same = let e = heads 14 15 (s.0 ++ x) y (joined a b _ _ x y s.1 t.0 same) in absurd (omega (arith, e.0))
repeats_alike d m n a b x y (inr s) (inr t) same =
    let e = heads 14 14 (s.0 ++ x) (t.0 ++ y) (joined a b _ _ x y s.1 t.1 same) in
    let r = no_number_begins_another d m n s.0 t.0 x y s.2 t.2 e.1 in
    (s.1 ∙ ap (λ l. 14 ∷ l) r.0 ∙ sym t.1, r.1)

pub no_item_begins_another : NoItemBeginsAnother
no_item_begins_another d (Run m) (Run n) a b x y h s t same = let r = no_number_begins_another d m n a b x y s t same in (r.0, ap Run r.1)
no_item_begins_another d (Run m) (Repeat n) a b x y h s t same = apart d m n a b x y h s t same
no_item_begins_another d (Repeat m) (Run n) a b x y h s t same = apart d n m b a y x h t s (sym same)
no_item_begins_another d (Repeat m) (Repeat n) a b x y h s t same = let r = repeats_alike d m n a b x y s t same in (r.0, ap Repeat r.1)

-- ---- lists of items

pub one_text : (d : ℕ) (items : List Item) (u v x y : List ℕ) → d ≤ 13 → SpellsItems d u items → SpellsItems d v items → u ++ x ≡ v ++ y → u ≡ v
one_text d [] u v x y h s t same = s ∙ sym t
one_text d (i ∷ before) u v x y h s t same =
    let whole : s.0 ++ (s.1 ++ x) ≡ t.0 ++ (t.1 ++ y) =
    sym (append_assoc s.0 s.1 x) ∙ joined u v _ _ x y s.2 t.2 same ∙ append_assoc t.0 t.1 y in
    let prefixes : s.0 ≡ t.0 = one_text d before s.0 t.0 (s.1 ++ x) (t.1 ++ y) h s.3 t.3 whole in
    let lasts : s.1 ++ x ≡ t.1 ++ y = cancelled t.0 (s.1 ++ x) (t.1 ++ y) (ap (λ l. l ++ (s.1 ++ x)) (sym prefixes) ∙ whole) in
    let r = no_item_begins_another d i i s.1 t.1 x y h s.4 t.4 lasts in
    s.2 ∙ ap (λ l. l ++ s.1) prefixes ∙ ap (λ l. t.0 ++ l) r.0 ∙ sym t.2

pub spells_older : (d : ℕ) (newer older : List Item) (v : List ℕ) → SpellsItems d v (newer ++ older) → (prefix : List ℕ) × (later : List ℕ) × SpellsItems d prefix older × (v ≡ prefix ++ later)
spells_older d [] older v h = (v, [], h, sym (append-nil v))
spells_older d (i ∷ newer) older v h =
    let r = spells_older d newer older h.0 h.3 in
    (r.0, r.1 ++ h.1, r.2, h.2 ∙ ap (λ l. l ++ h.1) r.3 ∙ append_assoc r.0 r.1 h.1)

pub fits_older : (w h : ℕ) (newer older : List Item) → ItemsFit w h (newer ++ older) → ItemsFit w h older
fits_older w h [] older f = f
fits_older w h (i ∷ newer) older f = fits_older w h newer older f.0

abbrev pub Begins : List Item → List Item → Type 0
Begins short long = (newer : List Item) × (long ≡ newer ++ short)

begins_by : (d : ℕ) (i : Item) (b items newer : List Item) (u v x y : List ℕ) → d ≤ 13 → SpellsItems d u (i ∷ b) → SpellsItems d v items → items ≡ newer ++ b → u ++ x ≡ v ++ y → Begins (i ∷ b) items ⊎ Begins items (i ∷ b)
begins_by d i b items [] u v x y h s t e same = inr (i ∷ [], ap (λ l. i ∷ l) (sym e))
begins_by d i b items (n ∷ newer) u v x y h s t e same =
    let parts = split_last n newer in
    let j = parts.1 in
    let regrouped : items ≡ parts.0 ++ (j ∷ b) = e ∙ ap (λ l. l ++ b) parts.2 ∙ append_assoc parts.0 (j ∷ []) b in
    let older = spells_older d parts.0 (j ∷ b) v (subst (λ (l : List Item). SpellsItems d v l) regrouped t) in
    let left : u ++ x ≡ s.0 ++ (s.1 ++ x) = ap (λ l. l ++ x) s.2 ∙ append_assoc s.0 s.1 x in
    let right : v ++ y ≡ older.2.0 ++ (older.2.1 ++ (older.1 ++ y)) =
    ap (λ l. l ++ y) older.3 ∙ append_assoc older.0 older.1 y ∙ ap (λ l. l ++ (older.1 ++ y)) older.2.2 ∙ append_assoc older.2.0 older.2.1 (older.1 ++ y) in
    let whole : s.0 ++ (s.1 ++ x) ≡ older.2.0 ++ (older.2.1 ++ (older.1 ++ y)) = sym left ∙ same ∙ right in
    let prefixes : s.0 ≡ older.2.0 = one_text d b s.0 older.2.0 _ _ h s.3 older.2.3 whole in
    let next : s.1 ++ x ≡ older.2.1 ++ (older.1 ++ y) = cancelled older.2.0 _ _ (ap (λ l. l ++ (s.1 ++ x)) (sym prefixes) ∙ whole) in
    let one = no_item_begins_another d i j s.1 older.2.1 x (older.1 ++ y) h s.4 older.2.4 next in
    inl (parts.0, regrouped ∙ ap (λ k. parts.0 ++ (k ∷ b)) (sym one.1))

pub items_agree : (d : ℕ) (items others : List Item) (u v x y : List ℕ) → d ≤ 13 → SpellsItems d u items → SpellsItems d v others → u ++ x ≡ v ++ y → Begins items others ⊎ Begins others items
items_agree d [] others u v x y h s t same = inl (others, sym (append-nil others))
items_agree d (i ∷ b) others u v x y h s t same =
    elim (items_agree d b others s.0 v (s.1 ++ x) y h s.3 t (sym (append_assoc s.0 s.1 x) ∙ ap (λ l. l ++ x) (sym s.2) ∙ same)) [
      | inl shorter ↦ begins_by d i b others shorter.0 u v x y h s t shorter.1 same
      | inr longer ↦ inr (i ∷ longer.0, ap (λ l. i ∷ l) longer.1)
    ]

-- complete items take no further one
pub complete_is_last : (w h : ℕ) (short long newer : List Item) (n : Item) → rows_complete w short ≡ h → ItemsFit w h long → long ≡ (n ∷ newer) ++ short → ⊥
complete_is_last w h short long newer n complete fits e =
    let parts = split_last n newer in
    let regrouped : long ≡ parts.0 ++ (parts.1 ∷ short) = e ∙ ap (λ l. l ++ short) parts.2 ∙ append_assoc parts.0 (parts.1 ∷ []) short in
    let older : ItemsFit w h (parts.1 ∷ short) = fits_older w h parts.0 (parts.1 ∷ short) (subst (λ (l : List Item). ItemsFit w h l) regrouped fits) in
    absurd (omega (arith, older.1, complete))

pub run_rasters_are_one : RunRastersAreOne
run_rasters_are_one bytes d w h first r s small a b = a.stand ∙ ap (rows_of first w) same ∙ sym b.stand
  where
    same : a.items ≡ b.items
    same = by (items_agree d a.items b.items a.used b.used a.unused b.unused small a.spelled b.spelled (sym a.nybbles ∙ b.nybbles))
      where
        longer : (newer : List Item) → b.items ≡ newer ++ a.items → a.items ≡ b.items
        longer [] eq = sym eq
        longer (n ∷ newer) eq = absurd (complete_is_last w h a.items b.items newer n a.complete b.fits eq)

        shorter : (newer : List Item) → a.items ≡ newer ++ b.items → a.items ≡ b.items
        shorter [] eq = eq
        shorter (n ∷ newer) eq = absurd (complete_is_last w h b.items a.items newer n b.complete a.fits eq)

        by : (Begins a.items b.items ⊎ Begins b.items a.items) → a.items ≡ b.items
        by (inl x) = longer x.0 x.1
        by (inr x) = shorter x.0 x.1
