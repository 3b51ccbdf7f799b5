-- What spells a command is not refused where the command may stand.
use Rattle.std.proofs.Common.{◌≡◌, ℕ, zero, suc, ◌+◌, ◌*◌, ◌^◌, ◌<◌, ◌≤◌, ℤ, pos, negsuc, false, List, [], ◌∷◌, ◌++◌, length, refl, sym, ap, subst, ◌∙◌, arith, inl, inr}
use Rattle.std.specs.Prelude.{◌==◌, int_lt, nat_lt, slice_index, None, IsTrue}
use Rattle.std.proofs.lemmas.Bool.{le-ltb, ne_eqb}
use Rattle.std.proofs.lemmas.List.{length-append}
use Rattle.big_endian.specs.Numbers.{number_bytes, in_twos_complement}
use Rattle.dvi_commands.specs.Spelling.{DviCommand, Set, Put, SetRule, PutRule, Nop, Bop, Eop, Push, Pop, Right, W0, W, X0, X, Down, Y0, Y, Z0, Z, Font, Special, Define, Pre, Post, PostPost, spelling, HasWidth, IsOperand, Spells}
use Rattle.dvi_commands.specs.Refusal.{gives_negative_length, size_of, fixed_size, text_size, given_length, may_stand, refusal}
use Rattle.dvi_commands.specs.SpellingLaws.{SpelledIsNotRefused}
use Rattle.dvi_commands.specs.declared.command.Context.{Context}
use Rattle.dvi_commands.proofs.Prefix.{by_width, wide, size-spelling, four_bytes, signed_four}

-- the opcode is one of a command, and if it is that of a special with four bytes of length, the
-- length is not negative
abbrev Calm : List ℕ → Type 0
Calm [] = ⊥
Calm (op ∷ fields) = (nat_lt 249 op ≡ false) × (gives_negative_length op fields ≡ false)

small_calm : (m : ℕ) (t : List ℕ) → m < 239 → Calm (m ∷ t)
small_calm m t h =
    let other : (m == 242) ≡ false = ne_eqb m 242 (λ e. omega (arith, e, h)) in
    (le-ltb 249 m (omega (arith, h)), rw other refl)

calm_set : (c : ℤ) (n : ℕ) (t : List ℕ) → IsOperand (suc n) c → Calm (spelling (Set c) (suc n) ++ t)
calm_set c zero t h = (refl, refl)
calm_set c (suc zero) t h = (refl, refl)
calm_set c (suc (suc zero)) t h = (refl, refl)
calm_set c (suc (suc (suc zero))) t h = (refl, refl)
calm_set c (suc (suc (suc (suc n)))) t h = let w = wide (suc (suc (suc (suc (suc n))))) c h in absurd (omega (arith, w.1))

calm_font : (c : ℤ) (n : ℕ) (t : List ℕ) → IsOperand (suc n) c → Calm (spelling (Font c) (suc n) ++ t)
calm_font c zero t h = (refl, refl)
calm_font c (suc zero) t h = (refl, refl)
calm_font c (suc (suc zero)) t h = (refl, refl)
calm_font c (suc (suc (suc zero))) t h = (refl, refl)
calm_font c (suc (suc (suc (suc n)))) t h = let w = wide (suc (suc (suc (suc (suc n))))) c h in absurd (omega (arith, w.1))

calm_four : (text t : List ℕ) → 2 * length text < 256 ^ 4 → Calm (spelling (Special text) 4 ++ t)
calm_four text t h =
    let fits : length text < 256 ^ 4 = omega arith in
    let told : given_length 242 (number_bytes 4 (pos (length text)) ++ text ++ t) ≡ pos (length text) = ap (in_twos_complement 4) (four_bytes (length text) fits) ∙ signed_four (length text) h in
    let low : int_lt (pos (length text)) (pos 0) ≡ false = le-ltb (length text) 0 (omega arith) in
    (refl, ap (λ (z : ℤ). int_lt z (pos 0)) told ∙ low)

calm_special : (text t : List ℕ) (n : ℕ) → IsOperand n (pos (length text)) → Calm (spelling (Special text) n ++ t)
calm_special text t n (inr h) = subst (λ (k : ℕ). Calm (spelling (Special text) k ++ t)) (sym h.0) (calm_four text t h.1)
calm_special text t zero (inl h) = absurd (omega (arith, h.0))
calm_special text t (suc zero) (inl h) = (refl, refl)
calm_special text t (suc (suc zero)) (inl h) = (refl, refl)
calm_special text t (suc (suc (suc zero))) (inl h) = (refl, refl)
calm_special text t (suc (suc (suc (suc n)))) (inl h) = absurd (omega (arith, h.1))

calm : (c : DviCommand) (n : ℕ) (t : List ℕ) → HasWidth c n → Calm (spelling c n ++ t)
calm (Set (pos m)) zero t h =
    let same : 0 + m ≡ m = omega arith in
    subst (λ (k : ℕ). Calm (k ∷ t)) (sym same) (small_calm m t (omega (arith, h)))
calm (Set (negsuc m)) zero t h = elim h [ ]
calm (Set c) (suc n) t h = calm_set c n t h
calm (Font (pos m)) zero t h = small_calm (171 + m) t (omega (arith, h))
calm (Font (negsuc m)) zero t h = elim h [ ]
calm (Font c) (suc n) t h = calm_font c n t h
calm (Put c) n t h = let w = wide n c h in by_width (λ k. Calm (spelling (Put c) k ++ t)) (refl, refl) (refl, refl) (refl, refl) (refl, refl) n w.0 w.1
calm (SetRule a b) n t h = (refl, refl)
calm (PutRule a b) n t h = (refl, refl)
calm Nop n t h = (refl, refl)
calm (Bop counts back) n t h = (refl, refl)
calm Eop n t h = (refl, refl)
calm Push n t h = (refl, refl)
calm Pop n t h = (refl, refl)
calm (Right b) n t h = by_width (λ k. Calm (spelling (Right b) k ++ t)) (refl, refl) (refl, refl) (refl, refl) (refl, refl) n h.0 h.1
calm W0 n t h = (refl, refl)
calm (W b) n t h = by_width (λ k. Calm (spelling (W b) k ++ t)) (refl, refl) (refl, refl) (refl, refl) (refl, refl) n h.0 h.1
calm X0 n t h = (refl, refl)
calm (X b) n t h = by_width (λ k. Calm (spelling (X b) k ++ t)) (refl, refl) (refl, refl) (refl, refl) (refl, refl) n h.0 h.1
calm (Down b) n t h = by_width (λ k. Calm (spelling (Down b) k ++ t)) (refl, refl) (refl, refl) (refl, refl) (refl, refl) n h.0 h.1
calm Y0 n t h = (refl, refl)
calm (Y b) n t h = by_width (λ k. Calm (spelling (Y b) k ++ t)) (refl, refl) (refl, refl) (refl, refl) (refl, refl) n h.0 h.1
calm Z0 n t h = (refl, refl)
calm (Z b) n t h = by_width (λ k. Calm (spelling (Z b) k ++ t)) (refl, refl) (refl, refl) (refl, refl) (refl, refl) n h.0 h.1
calm (Special text) n t h = calm_special text t n h
calm (Define d) n t h = let w = wide n d.number h.0 in by_width (λ k. Calm (spelling (Define d) k ++ t)) (refl, refl) (refl, refl) (refl, refl) (refl, refl) n w.0 w.1
calm (Pre p) n t h = (refl, refl)
calm (Post p) n t h = (refl, refl)
calm (PostPost q id) n t h = (refl, refl)

not_refused : (place : Context) (bytes : List ℕ) → Calm bytes → IsTrue (may_stand place (slice_index bytes 0)) → size_of bytes ≤ length bytes → refusal place bytes ≡ None
not_refused place [] calm allowed fits = elim calm [ ]
not_refused place (op ∷ fields) calm allowed fits =
    rw (calm.0, allowed, le-ltb (length fields) (fixed_size op) (omega (arith, fits)), calm.1, le-ltb (length fields) (fixed_size op + text_size op fields) (omega (arith, fits))) refl

positive : (bytes : List ℕ) → Calm bytes → 0 < size_of bytes
positive [] calm = elim calm [ ]
positive (op ∷ fields) calm = omega arith

first_of_spelling : (bytes more : List ℕ) → Calm (bytes ++ more) → 0 < length bytes → slice_index (bytes ++ more) 0 ≡ slice_index bytes 0
first_of_spelling [] more calm some = absurd (omega (arith, some))
first_of_spelling (b ∷ bytes) more calm some = refl

pub spelled_is_not_refused : SpelledIsNotRefused
spelled_is_not_refused place c bytes more h allowed =
    let quiet : Calm (bytes ++ more) = subst (λ (s : List ℕ). Calm (s ++ more)) (sym h.2) (calm c h.0 more h.1) in
    let size = size-spelling c bytes more h in
    let some : 0 < length bytes = omega (arith, sym size, positive (bytes ++ more) quiet) in
    let first = first_of_spelling bytes more quiet some in
    not_refused place (bytes ++ more) quiet (ap (may_stand place) first ∙ allowed) (omega (arith, size, length-append bytes more))

-- a spelling is not empty
pub spelled_some : (c : DviCommand) (bytes : List ℕ) → Spells c bytes → 0 < length bytes
spelled_some c bytes h =
    let quiet : Calm (bytes ++ []) = subst (λ (s : List ℕ). Calm (s ++ [])) (sym h.2) (calm c h.0 [] h.1) in
    omega (arith, sym (size-spelling c bytes [] h), positive (bytes ++ []) quiet)
