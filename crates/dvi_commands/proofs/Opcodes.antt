-- Opcodes by what stands after them: no text, a special's, a definition's, or that of a preamble.
use Rattle.std.proofs.Common.{◌≡◌, ℕ, zero, suc, ◌+◌, ◌-◌, ◌<◌, ◌≤◌, ◌⊎◌, true, false, List, [], ◌∷◌, length, refl, sym, ap, subst, ◌∙◌, arith, inl, inr}
use Rattle.std.specs.Prelude.{◌==◌, nat_le}
use Rattle.std.specs.Int.{is_in_range}
use Rattle.std.proofs.lemmas.Bool.{agree_below, agree_below_at, eqb-true, ne_eqb}
use Rattle.std.proofs.lemmas.Bool.Decides.{leb_tells}
use Rattle.dvi_commands.specs.Refusal.{fixed_size, text_size}

abbrev Tells : ℕ → ℕ → Type 0
Tells a b = ((nat_le a b ≡ true) × (a ≤ b)) ⊎ ((nat_le a b ≡ false) × (b < a))

last_three : (P : ℕ → Type 0) (k : ℕ) → k ≤ 2 → P 247 → P 248 → P 249 → P (247 + k)
last_three P zero h p7 p8 p9 = p7
last_three P (suc zero) h p7 p8 p9 = p8
last_three P (suc (suc zero)) h p7 p8 p9 = p9
last_three P (suc (suc (suc k))) h p7 p8 p9 = absurd (omega arith)

kinds : (P : ℕ → Type 0) (op : ℕ) → (op < 239 → P op) → ((n : ℕ) → 1 ≤ n → n ≤ 4 → P (238 + n)) → ((n : ℕ) → 1 ≤ n → n ≤ 4 → P (242 + n)) → P 247 → P 248 → P 249 → op ≤ 249
    → Tells op 238 → Tells op 242 → Tells op 246 → P op
kinds P op plain special define p7 p8 p9 known (inl a) b c = plain (omega (arith, a.1))
kinds P op plain special define p7 p8 p9 known (inr a) (inl b) c =
    let place : 238 + (op - 238) ≡ op = omega (arith, a.1) in
    subst P place (special (op - 238) (omega (arith, a.1)) (omega (arith, b.1)))
kinds P op plain special define p7 p8 p9 known (inr a) (inr b) (inl c) =
    let place : 242 + (op - 242) ≡ op = omega (arith, b.1) in
    subst P place (define (op - 242) (omega (arith, b.1)) (omega (arith, c.1)))
kinds P op plain special define p7 p8 p9 known (inr a) (inr b) (inr c) =
    let place : 247 + (op - 247) ≡ op = omega (arith, c.1) in
    subst P place (last_three P (op - 247) (omega arith) p7 p8 p9)

-- what holds of each kind holds of each opcode of a command
pub by_kind : (P : ℕ → Type 0) (op : ℕ) → (op < 239 → P op) → ((n : ℕ) → 1 ≤ n → n ≤ 4 → P (238 + n)) → ((n : ℕ) → 1 ≤ n → n ≤ 4 → P (242 + n)) → P 247 → P 248 → P 249 → op ≤ 249 → P op
by_kind P op plain special define p7 p8 p9 known = kinds P op plain special define p7 p8 p9 known (leb_tells op 238) (leb_tells op 242) (leb_tells op 246)

-- the opcodes of a row stand after this one: their numbers have one to four bytes
abbrev pub IsRow : ℕ → Type 0
IsRow before = agree_below (λ k. fixed_size (before + suc k) == suc k) (λ _. true) 4 ≡ true

pub row_size : (before op : ℕ) → IsRow before → before < op → op ≤ before + 4 → fixed_size op ≡ op - before
row_size before op row low high =
    let k = op - before - 1 in
    let place : before + suc k ≡ op = omega arith in
    let size : fixed_size (before + suc k) ≡ suc k = eqb-true _ _ (agree_below_at (λ k. fixed_size (before + suc k) == suc k) (λ _. true) 4 k row (omega arith)) in
    let width : suc k ≡ op - before = omega arith in
    ap fixed_size (sym place) ∙ size ∙ width

pub no_text : (op : ℕ) (fields text : List ℕ) → op < 239 → length text ≡ text_size op fields → text ≡ []
no_text op fields [] h e = refl
no_text op fields (b ∷ text) h e =
    let special : is_in_range 239 242 op ≡ false = grind arith in
    let define : is_in_range 243 246 op ≡ false = grind arith in
    let preamble : (op == 247) ≡ false = ne_eqb op 247 (λ same. omega (arith, same, h)) in
    let none : text_size op fields ≡ 0 = rw (special, define, preamble) refl in
    absurd (omega (arith, e, none))
