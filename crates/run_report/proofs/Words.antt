-- A line read back: its words stand between spaces, and it ends at its newline.
use Rattle.std.proofs.Common.{◌≡◌, Bool, true, false, ◌&&◌, nat_le, ℕ, ◌^◌, ◌<◌, ◌≤◌, List, [], ◌∷◌, ◌++◌, decimal, map, length, length-append, refl, ap, ap₂, arith}
use Rattle.std.proofs.lemmas.Bool.{false≢true}
use Rattle.std.proofs.lemmas.Bool.Decides.{nat_tests}
use Rattle.std.proofs.lemmas.Fmt.{decimal_by_steps}
use Rattle.run_report.specs.Keys.{shown_byte}

-- visible bytes
abbrev pub IsWord : List ℕ → Type 0
IsWord [] = Unit {0}
IsWord (b ∷ bs) = (33 ≤ b) × IsWord bs

-- whether all bytes are visible
abbrev pub all_visible : List ℕ → Bool
all_visible [] = true
all_visible (b ∷ bs) = nat_le 33 b && all_visible bs

both_hold : (s t : Bool) → (s && t) ≡ true → (s ≡ true) × (t ≡ true)
both_hold true t holds = (refl, holds)
both_hold false t holds = absurd (false≢true holds)

pub visible : (word : List ℕ) → all_visible word ≡ true → IsWord word
visible [] holds = tt
visible (b ∷ bs) holds =
    let parts = both_hold (nat_le 33 b) (all_visible bs) holds in
    let above : nat_le 33 b ≡ true = parts.0 in
    (grind (arith, nat_tests), visible bs parts.1)

pub word_append : (xs ys : List ℕ) → IsWord xs → IsWord ys → IsWord (xs ++ ys)
word_append [] ys none w = w
word_append (x ∷ xs) ys v w = (v.0, word_append xs ys v.1 w)

pub decimal_is_word : (n : ℕ) → n < 2 ^ 64 → IsWord (decimal n)
decimal_is_word n small =
    decimal_by_steps (λ (m : ℕ) (ds : List ℕ). IsWord ds) (λ (m : ℕ) (one : m < 10). (omega arith, tt))
    (λ (m : ℕ) (ds : List ℕ) (more : 10 ≤ m) (w : IsWord ds). word_append ds _ w (omega arith, tt)) n small

shown_is_visible : (b : ℕ) → 33 ≤ shown_byte b
shown_is_visible b = grind (arith, nat_tests)

pub name_is_word : (name : List ℕ) → IsWord (map shown_byte name)
name_is_word [] = tt
name_is_word (b ∷ bs) = (shown_is_visible b, name_is_word bs)

-- ---- one word

first : List ℕ → ℕ
first [] = 0
first (x ∷ xs) = x

others : List ℕ → List ℕ
others [] = []
others (x ∷ xs) = xs

-- the byte that ends a word is the first that can't be seen
cut : (xs ys us vs : List ℕ) (s t : ℕ) → s < 33 → t < 33 → IsWord xs → IsWord ys → xs ++ s ∷ us ≡ ys ++ t ∷ vs → (xs ≡ ys) × (s ≡ t) × (us ≡ vs)
unfolding first others
cut [] [] us vs s t s_ends t_ends v w same = (refl, ap first same, ap others same)
cut [] (y ∷ ys) us vs s t s_ends t_ends v w same = let is : s ≡ y = ap first same in absurd (omega (arith, w.0))
cut (x ∷ xs) [] us vs s t s_ends t_ends v w same = let is : x ≡ t = ap first same in absurd (omega (arith, v.0))
cut (x ∷ xs) (y ∷ ys) us vs s t s_ends t_ends v w same =
    let after = cut xs ys us vs s t s_ends t_ends v.1 w.1 (ap others same) in
    let is : x ≡ y = ap first same in
    (ap₂ (λ (z : ℕ) (zs : List ℕ). z ∷ zs) is after.0, after.1, after.2)

-- ---- all words

abbrev pub AreWords : List (List ℕ) → Type 0
AreWords [] = Unit {0}
AreWords (w ∷ ws) = IsWord w × AreWords ws

-- a word and further ones, up to the newline, and what stands after it
abbrev pub line_of : List ℕ → List (List ℕ) → List ℕ → List ℕ
line_of w [] rest = w ++ 10 ∷ rest
line_of w (v ∷ vs) rest = w ++ 32 ∷ line_of v vs rest

pub line_determines : (w : List ℕ) (ws : List (List ℕ)) (v : List ℕ) (vs : List (List ℕ)) (rest after : List ℕ) → IsWord w → AreWords ws → IsWord v → AreWords vs
    → line_of w ws rest ≡ line_of v vs after → (w ≡ v) × (ws ≡ vs) × (rest ≡ after)
line_determines w [] v [] rest after is_w are_ws is_v are_vs same =
    let parts = cut w v rest after 10 10 (omega arith) (omega arith) is_w is_v same in
    (parts.0, refl, parts.2)
line_determines w [] v (u ∷ vs) rest after is_w are_ws is_v are_vs same =
    let parts = cut w v rest (line_of u vs after) 10 32 (omega arith) (omega arith) is_w is_v same in
    absurd (omega (arith, parts.1))
line_determines w (t ∷ ws) v [] rest after is_w are_ws is_v are_vs same =
    let parts = cut w v (line_of t ws rest) after 32 10 (omega arith) (omega arith) is_w is_v same in
    absurd (omega (arith, parts.1))
line_determines w (t ∷ ws) v (u ∷ vs) rest after is_w are_ws is_v are_vs same =
    let parts = cut w v (line_of t ws rest) (line_of u vs after) 32 32 (omega arith) (omega arith) is_w is_v same in
    let more = line_determines t ws u vs rest after are_ws.0 are_ws.1 are_vs.0 are_vs.1 parts.2 in
    (parts.0, ap₂ (λ (z : List ℕ) (zs : List (List ℕ)). z ∷ zs) more.0 more.1, more.2)

-- no line is empty
no_cut : (w us : List ℕ) (s : ℕ) → [] ≡ w ++ s ∷ us → ⊥
no_cut w us s same = let count = ap length same in omega (arith, length-append w (s ∷ us))

pub line_is_some : (w : List ℕ) (ws : List (List ℕ)) (rest : List ℕ) → [] ≡ line_of w ws rest → ⊥
line_is_some w [] rest same = no_cut w rest 10 same
line_is_some w (v ∷ vs) rest same = no_cut w (line_of v vs rest) 32 same
