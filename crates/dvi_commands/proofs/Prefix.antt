-- No spelling of a command begins another: the first bytes of a spelling determine its length.
use Rattle.std.proofs.Common.{◌≡◌, ℕ, zero, suc, ◌+◌, ◌*◌, ◌^◌, ◌<◌, ◌≤◌, ℤ, pos, negsuc, true, false, List, [], ◌∷◌, ◌++◌, length, take, drop, refl, sym, ap, subst, ◌∙◌, arith, inl, inr}
use Rattle.std.specs.List.{flat_map}
use Rattle.std.specs.Prelude.{◌==◌, int_lt}
use Rattle.std.specs.Int.{is_in_range}
use Rattle.std.proofs.lemmas.Bool.{eqb-true, le-ltb, lt-ltb, agree_below_at}
use Rattle.std.proofs.lemmas.List.{append-nil, take_at, drop_at, length-append}
use Rattle.std.proofs.lemmas.List.Concat.{flat_map-cons}
use Rattle.big_endian.specs.Numbers.{number_bytes, unsigned_of, in_twos_complement}
use Rattle.dvi_commands.specs.Spelling.{DviCommand, Definition, Set, Put, SetRule, PutRule, Nop, Bop, Eop, Push, Pop, Right, W0, W, X0, X, Down, Y0, Y, Z0, Z, Font, Special, Define, Pre, Post, PostPost, spelling, HasWidth, IsOperand, Spells, quad}
use Rattle.dvi_commands.specs.Refusal.{given_length, size_of, fixed_size, text_size}
use Rattle.dvi_commands.specs.SpellingLaws.{NoSpellingBeginsAnother, NoSpellingIsAProperPrefix}

pub by_width : (P : ℕ → Type 0) → P 1 → P 2 → P 3 → P 4 → (n : ℕ) → 1 ≤ n → n ≤ 4 → P n
by_width P p1 p2 p3 p4 zero low high = absurd (omega arith)
by_width P p1 p2 p3 p4 (suc zero) low high = p1
by_width P p1 p2 p3 p4 (suc (suc zero)) low high = p2
by_width P p1 p2 p3 p4 (suc (suc (suc zero))) low high = p3
by_width P p1 p2 p3 p4 (suc (suc (suc (suc zero)))) low high = p4
by_width P p1 p2 p3 p4 (suc (suc (suc (suc (suc n))))) low high = absurd (omega arith)

pub wide : (n : ℕ) (z : ℤ) → IsOperand n z → (1 ≤ n) × (n ≤ 4)
wide n z (inl h) = (h.0, omega (arith, h.1))
wide n z (inr h) = (omega (arith, h.0), omega (arith, h.0))

abbrev Sized : DviCommand → List ℕ → ℕ → Type 0
Sized c t n = size_of (spelling c n ++ t) ≡ length (spelling c n)

-- an opcode without fields, by the four tests on opcodes that `size_of` makes
no_fields : (op : ℕ) (t : List ℕ) → (fixed_size op == 0) ≡ true → is_in_range 239 242 op ≡ false → is_in_range 243 246 op ≡ false → (op == 247) ≡ false → size_of (op ∷ t) ≡ 1
no_fields op t e1 e2 e3 e4 =
    let fixed : fixed_size op ≡ 0 = eqb-true _ _ e1 in
    rw (fixed, e2, e3, e4) refl

small_set : (m : ℕ) (t : List ℕ) → m ≤ 127 → size_of (m ∷ t) ≡ 1
small_set m t h =
    let lt : m < 128 = omega arith in
    no_fields m t (agree_below_at (λ k. fixed_size k == 0) (λ _. true) 128 m refl lt) (agree_below_at (λ k. is_in_range 239 242 k) (λ _. false) 128 m refl lt)
    (agree_below_at (λ k. is_in_range 243 246 k) (λ _. false) 128 m refl lt) (agree_below_at (λ k. k == 247) (λ _. false) 128 m refl lt)

small_font : (m : ℕ) (t : List ℕ) → m ≤ 63 → size_of ((171 + m) ∷ t) ≡ 1
small_font m t h =
    let lt : m < 64 = omega arith in
    no_fields (171 + m) t (agree_below_at (λ k. fixed_size (171 + k) == 0) (λ _. true) 64 m refl lt) (agree_below_at (λ k. is_in_range 239 242 (171 + k)) (λ _. false) 64 m refl lt)
    (agree_below_at (λ k. is_in_range 243 246 (171 + k)) (λ _. false) 64 m refl lt) (agree_below_at (λ k. (171 + k) == 247) (λ _. false) 64 m refl lt)

number_sized : (c : DviCommand) (t : List ℕ) (n : ℕ) (z : ℤ) → IsOperand n z → Sized c t 1 → Sized c t 2 → Sized c t 3 → Sized c t 4 → Sized c t n
number_sized c t n z h p1 p2 p3 p4 = let w = wide n z h in by_width (Sized c t) p1 p2 p3 p4 n w.0 w.1

pub length-quads : (zs : List ℤ) → length (flat_map quad zs) ≡ 4 * length zs
length-quads [] = refl
length-quads (z ∷ zs) =
    let joined : length (flat_map quad (z ∷ zs)) ≡ length (quad z ++ flat_map quad zs) = ap length (flat_map-cons quad z zs) in
    omega (arith, joined, length-quads zs)

bop_sized : (counts : List ℤ) (back : ℤ) (t : List ℕ) (n : ℕ) → length counts ≡ 10 → Sized (Bop counts back) t n
bop_sized counts back t n h = omega (arith, length-append (flat_map quad counts) (quad back), length-quads counts, h)

-- the length that a special's field gives is that of its text
pub given_text : (op len : ℕ) (fields : List ℕ) → is_in_range 239 242 op ≡ true → given_length op fields ≡ pos len → text_size op fields ≡ len
given_text op len fields e told =
    let low : int_lt (pos len) (pos 0) ≡ false = le-ltb len 0 (omega arith) in
    rw (e, told, low) refl

one_byte : (m : ℕ) → m < 256 ^ 1 → unsigned_of (number_bytes 1 (pos m)) ≡ m
one_byte m h = omega arith

two_bytes : (m : ℕ) → m < 256 ^ 2 → unsigned_of (number_bytes 2 (pos m)) ≡ m
two_bytes m h = omega arith

three_bytes : (m : ℕ) → m < 256 ^ 3 → unsigned_of (number_bytes 3 (pos m)) ≡ m
three_bytes m h = omega arith

pub four_bytes : (m : ℕ) → m < 256 ^ 4 → unsigned_of (number_bytes 4 (pos m)) ≡ m
four_bytes m h = omega arith

special_1 : (text t : List ℕ) → length text < 256 ^ 1 → Sized (Special text) t 1
special_1 text t h = ap (λ (k : ℕ). 1 + fixed_size 239 + k) (given_text 239 (length text) (number_bytes 1 (pos (length text)) ++ text ++ t) refl (ap pos (one_byte (length text) h))) ∙ omega arith

special_2 : (text t : List ℕ) → length text < 256 ^ 2 → Sized (Special text) t 2
special_2 text t h = ap (λ (k : ℕ). 1 + fixed_size 240 + k) (given_text 240 (length text) (number_bytes 2 (pos (length text)) ++ text ++ t) refl (ap pos (two_bytes (length text) h))) ∙ omega arith

special_3 : (text t : List ℕ) → length text < 256 ^ 3 → Sized (Special text) t 3
special_3 text t h = ap (λ (k : ℕ). 1 + fixed_size 241 + k) (given_text 241 (length text) (number_bytes 3 (pos (length text)) ++ text ++ t) refl (ap pos (three_bytes (length text) h))) ∙ omega arith

pub signed_four : (m : ℕ) → 2 * m < 256 ^ 4 → in_twos_complement 4 m ≡ pos m
signed_four m h = rw (lt-ltb (2 * m) (256 ^ 4) h) refl

special_4 : (text t : List ℕ) → 2 * length text < 256 ^ 4 → Sized (Special text) t 4
special_4 text t h =
    let fits : length text < 256 ^ 4 = omega arith in
    let told : given_length 242 (number_bytes 4 (pos (length text)) ++ text ++ t) ≡ pos (length text) = ap (in_twos_complement 4) (four_bytes (length text) fits) ∙ signed_four (length text) h in
    ap (λ (k : ℕ). 1 + fixed_size 242 + k) (given_text 242 (length text) (number_bytes 4 (pos (length text)) ++ text ++ t) refl told) ∙ omega arith

special_sized : (text t : List ℕ) (n : ℕ) → IsOperand n (pos (length text)) → Sized (Special text) t n
special_sized text t n (inr h) = subst (λ (k : ℕ). Sized (Special text) t k) (sym h.0) (special_4 text t h.1)
special_sized text t zero (inl h) = absurd (omega (arith, h.0))
special_sized text t (suc zero) (inl h) = special_1 text t h.2
special_sized text t (suc (suc zero)) (inl h) = special_2 text t h.2
special_sized text t (suc (suc (suc zero))) (inl h) = special_3 text t h.2
special_sized text t (suc (suc (suc (suc n)))) (inl h) = absurd (omega (arith, h.1))

define_sized : (d : Definition) (t : List ℕ) (n : ℕ) → d.area ≤ length d.name → (1 ≤ n) × (n ≤ 4) → Sized (Define d) t n
define_sized d t n h w = by_width (Sized (Define d) t) (omega arith) (omega arith) (omega arith) (omega arith) n w.0 w.1

sized : (c : DviCommand) (n : ℕ) (t : List ℕ) → HasWidth c n → Sized c t n
sized (Set (pos m)) zero t h =
    let same : 0 + m ≡ m = omega arith in
    ap (λ (k : ℕ). size_of (k ∷ t)) same ∙ small_set m t h
sized (Set (negsuc m)) zero t h = elim h [ ]
sized (Set c) (suc n) t h = number_sized (Set c) t (suc n) c h refl refl refl refl
sized (Put c) n t h = number_sized (Put c) t n c h refl refl refl refl
sized (SetRule a b) n t h = refl
sized (PutRule a b) n t h = refl
sized Nop n t h = refl
sized (Bop counts back) n t h = bop_sized counts back t n h.1
sized Eop n t h = refl
sized Push n t h = refl
sized Pop n t h = refl
sized (Right b) n t h = by_width (Sized (Right b) t) refl refl refl refl n h.0 h.1
sized W0 n t h = refl
sized (W b) n t h = by_width (Sized (W b) t) refl refl refl refl n h.0 h.1
sized X0 n t h = refl
sized (X b) n t h = by_width (Sized (X b) t) refl refl refl refl n h.0 h.1
sized (Down b) n t h = by_width (Sized (Down b) t) refl refl refl refl n h.0 h.1
sized Y0 n t h = refl
sized (Y b) n t h = by_width (Sized (Y b) t) refl refl refl refl n h.0 h.1
sized Z0 n t h = refl
sized (Z b) n t h = by_width (Sized (Z b) t) refl refl refl refl n h.0 h.1
sized (Font (pos m)) zero t h = small_font m t h
sized (Font (negsuc m)) zero t h = elim h [ ]
sized (Font k) (suc n) t h = number_sized (Font k) t (suc n) k h refl refl refl refl
sized (Special text) n t h = special_sized text t n h
sized (Define d) n t h = define_sized d t n h.1.area (wide n d.number h.0)
sized (Pre p) n t h = omega arith
sized (Post p) n t h = refl
sized (PostPost q id) n t h = refl

-- the first bytes of a spelling determine its length
pub size-spelling : (c : DviCommand) (a x : List ℕ) → Spells c a → size_of (a ++ x) ≡ length a
size-spelling c a x h = subst (λ (s : List ℕ). size_of (s ++ x) ≡ length s) (sym h.2) (sized c h.0 x h.1)

pub no_spelling_begins_another : NoSpellingBeginsAnother
no_spelling_begins_another c d a b x y ha hb same =
    let len : length a ≡ length b = sym (size-spelling c a x ha) ∙ ap size_of same ∙ size-spelling d b y hb in (
      sym (take_at a x (length a) refl) ∙ ap (take (length a)) same ∙ take_at b y (length a) (sym len),
      sym (drop_at a x (length a) refl) ∙ ap (drop (length a)) same ∙ drop_at b y (length a) (sym len),
    )

pub no_spelling_is_a_proper_prefix : NoSpellingIsAProperPrefix
no_spelling_is_a_proper_prefix c d a b ha hb prefix =
    let same = no_spelling_begins_another c d a b prefix.0 [] ha hb (prefix.2 ∙ sym (append-nil b)) in
    absurd (omega (arith, prefix.1, ap length same.1))
