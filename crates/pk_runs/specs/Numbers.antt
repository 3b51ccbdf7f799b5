-- Run lengths and repeat counts, spelled in four-bit nybbles: Rokicki, PKtype, "Packed file
-- format".
use Rattle.std.specs.Prelude.{◌≡◌, ℕ, ◌+◌, ◌-◌, ◌*◌, ◌/◌, ◌%◌, ◌^◌, ◌<◌, ◌≤◌, ◌⊎◌, List, [], ◌∷◌, ◌++◌, length, replicate, ◌==◌, slice_index_or, IsFalse}

-- the four-bit halves of bytes, the high one first
abbrev pub nybbles_of : List ℕ → List ℕ
nybbles_of [] = []
nybbles_of (b ∷ bytes) = b / 16 ∷ b % 16 ∷ nybbles_of bytes

-- the number that nybbles spell, the first one weighing most
abbrev pub hex_of : List ℕ → ℕ
hex_of [] = 0
hex_of (i ∷ nybbles) = i * 16 ^ length nybbles + hex_of nybbles

-- k zeros, and then k + 1 nybbles of which the first is not 0
abbrev pub SpellsLongNumber : ℕ → List ℕ → ℕ → Type 0
SpellsLongNumber dyn_f nybbles n =
    (k : ℕ) × (first : ℕ) × (others : List ℕ) × (1 ≤ k) × (1 ≤ first) × (length others ≡ k)
    × (nybbles ≡ replicate k 0 ++ first ∷ others) × (n + 15 ≡ hex_of (first ∷ others) + (13 - dyn_f)
    * 16 + dyn_f)

-- the nybbles are the number n: one nybble, or two, or a long number
abbrev pub SpellsNumber : ℕ → List ℕ → ℕ → Type 0
SpellsNumber dyn_f nybbles n =
    ((i : ℕ) × (nybbles ≡ i ∷ []) × (1 ≤ i) × (i ≤ dyn_f) × (n ≡ i))
    ⊎ (((i : ℕ) × (j : ℕ) × (nybbles ≡ i ∷ j ∷ []) × (dyn_f < i) × (i ≤ 13)
    × (n ≡ (i - dyn_f - 1) * 16 + j + dyn_f + 1))
    ⊎ SpellsLongNumber dyn_f nybbles n)

-- a run length outside a repeat count, or a repeat count
pub data Item : Type 0 where
  Run : ℕ → Item
  Repeat : ℕ → Item

abbrev pub SpellsItem : ℕ → List ℕ → Item → Type 0
SpellsItem dyn_f nybbles (Run n) = SpellsNumber dyn_f nybbles n
SpellsItem dyn_f nybbles (Repeat n) =
    ((nybbles ≡ 15 ∷ []) × (n ≡ 1))
    ⊎ ((number : List ℕ) × (nybbles ≡ 14 ∷ number) × SpellsNumber dyn_f number n)

-- the items, the last one first, are spelled one after another
abbrev pub SpellsItems : ℕ → List ℕ → List Item → Type 0
SpellsItems dyn_f nybbles [] = nybbles ≡ []
SpellsItems dyn_f nybbles (item ∷ before) =
    (prefix : List ℕ) × (last : List ℕ) × (nybbles ≡ prefix ++ last)
    × SpellsItems dyn_f prefix before × SpellsItem dyn_f last item

-- the nybbles end before a number is whole
abbrev pub CutsNumber : ℕ → List ℕ → Type 0
CutsNumber dyn_f nybbles =
    (nybbles ≡ [])
    ⊎ (((i : ℕ) × (nybbles ≡ i ∷ []) × (dyn_f < i) × (i ≤ 13))
    ⊎ ((k : ℕ) × (others : List ℕ) × (1 ≤ k) × (length others ≤ k)
    × IsFalse (slice_index_or others 0 1 == 0) × (nybbles ≡ replicate k 0 ++ others)))

-- a nybble that marks a repeat count
abbrev pub IsRepeatMark : ℕ → Type 0
IsRepeatMark i = (i ≡ 14) ⊎ (i ≡ 15)

-- ---- laws

-- no number begins another, nor does an item
abbrev pub NoNumberBeginsAnother : Type 0
NoNumberBeginsAnother =
    (dyn_f m n : ℕ) (a b x y : List ℕ) → SpellsNumber dyn_f a m → SpellsNumber dyn_f b n
    → a ++ x ≡ b ++ y → (a ≡ b) × (m ≡ n)

abbrev pub NoItemBeginsAnother : Type 0
NoItemBeginsAnother =
    (dyn_f : ℕ) (i j : Item) (a b x y : List ℕ) → dyn_f ≤ 13 → SpellsItem dyn_f a i
    → SpellsItem dyn_f b j → a ++ x ≡ b ++ y → (a ≡ b) × (i ≡ j)

-- run lengths and repeat counts have no greatest: zeros, a 1, and as many zeros spell a number
-- above any
abbrev pub NumbersHaveNoGreatest : Type 0
NumbersHaveNoGreatest =
    (dyn_f n : ℕ) → dyn_f ≤ 13 → (k : ℕ) × (m : ℕ) × (n < m) × SpellsNumber dyn_f (replicate k 0
    ++ 1 ∷ replicate k 0) m
