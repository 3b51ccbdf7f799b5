-- Characters and fonts, whose number the opcode holds or the fields spell.
use Rattle.std.proofs.Common.{◌≡◌, ℕ, zero, suc, ◌+◌, ◌-◌, ◌<◌, ◌≤◌, ℤ, pos, true, List, [], ◌∷◌, ◌++◌, length, refl, sym, ap, subst, ◌∙◌, arith}
use Rattle.std.specs.Prelude.{◌==◌}
use Rattle.std.proofs.lemmas.Bool.{agree_below_at, eqb-true}
use Rattle.std.proofs.lemmas.List.{append-nil}
use Rattle.big_endian.specs.Numbers.{number_bytes}
use Rattle.dvi_commands.specs.Spelling.{Set, Put, Font, IsOperand, Spells, with_number}
use Rattle.dvi_commands.specs.Refusal.{fixed_size, text_size}
use Rattle.dvi_commands.proofs.Motions.{nothing}
use Rattle.dvi_commands.proofs.Opcodes.{IsRow, no_text, row_size}
use Rattle.dvi_commands.proofs.Prefix.{wide}

-- an opcode that holds the number itself
pub alone : (op : ℕ) (fields text : List ℕ) → op < 239 → fixed_size op ≡ 0 → length fields ≡ fixed_size op → length text ≡ text_size op fields → fields ++ text ≡ []
alone op fields text low none whole after = ap (λ t. fields ++ t) (no_text op fields text low after) ∙ append-nil fields ∙ nothing fields (whole ∙ none)

pub opcode_set : (op : ℕ) (fields text : List ℕ) (w : ℤ) → op ≤ 127 → w ≡ pos op → length fields ≡ fixed_size op → length text ≡ text_size op fields → Spells (Set w) (op ∷ (fields ++ text))
opcode_set op fields text w high same whole after =
    let size : fixed_size op ≡ 0 = eqb-true _ _ (agree_below_at (λ k. fixed_size k == 0) (λ _. true) 128 op refl (omega arith)) in
    let opcode : op ≡ 0 + op = omega arith in
    subst (λ z. Spells (Set z) (op ∷ (fields ++ text))) (sym same) (0, high, ap (λ x. op ∷ x) (alone op fields text (omega arith) size whole after) ∙ ap (λ o. o ∷ []) opcode)

-- a character with an opcode of its own
pub small_set : (op : ℕ) (w : ℤ) → op ≤ 127 → w ≡ pos op → Spells (Set w) (op ∷ [])
small_set op w high same =
    let opcode : op ≡ 0 + op = omega arith in
    subst (λ z. Spells (Set z) (op ∷ [])) (sym same) (0, high, ap (λ o. o ∷ []) opcode)

-- a font with an opcode of its own
pub small_font : (op : ℕ) (w : ℤ) → 171 ≤ op → op ≤ 234 → w ≡ pos (op - 171) → Spells (Font w) (op ∷ [])
small_font op w low high same =
    let opcode : op ≡ 171 + (op - 171) = omega arith in
    let small : op - 171 ≤ 63 = omega arith in
    subst (λ z. Spells (Font z) (op ∷ [])) (sym same) (0, small, ap (λ o. o ∷ []) opcode)

pub opcode_font : (op : ℕ) (fields text : List ℕ) (w : ℤ) → 171 ≤ op → op ≤ 234 → w ≡ pos (op - 171) → length fields ≡ fixed_size op → length text ≡ text_size op fields → Spells (Font w) (op ∷ (fields ++ text))
opcode_font op fields text w low high same whole after =
    let opcode : op ≡ 171 + (op - 171) = omega arith in
    let size : fixed_size op ≡ 0 = ap fixed_size opcode ∙ eqb-true _ _ (agree_below_at (λ k. fixed_size (171 + k) == 0) (λ _. true) 64 (op - 171) refl (omega arith)) in
    let small : op - 171 ≤ 63 = omega arith in
    subst (λ z. Spells (Font z) (op ∷ (fields ++ text))) (sym same) (0, small, ap (λ x. op ∷ x) (alone op fields text (omega arith) size whole after) ∙ ap (λ o. o ∷ []) opcode)

-- the number of a row, read from all bytes of the fields
numbered : (before op : ℕ) (fields text : List ℕ) (z w : ℤ) → IsRow before → before + 4 < 239 → before < op → op ≤ before + 4 → length fields ≡ fixed_size op → length text ≡ text_size op fields
    → w ≡ z → number_bytes (length fields) z ≡ fields → op ∷ (fields ++ text) ≡ with_number before (length fields) w
numbered before op fields text z w row top low high whole after same written =
    let size : length fields ≡ op - before = whole ∙ row_size before op row low high in
    let none : text ≡ [] = no_text op fields text (omega arith) after in
    let opcode : op ≡ before + length fields = omega arith in
    let bytes : fields ++ text ≡ number_bytes (length fields) w = ap (λ t. fields ++ t) none ∙ append-nil fields ∙ sym written ∙ ap (number_bytes (length fields)) (sym same) in
    ap (λ o. o ∷ (fields ++ text)) opcode ∙ ap (λ t. (before + length fields) ∷ t) bytes

set_with : (n : ℕ) (w : ℤ) (bytes : List ℕ) → IsOperand n w → bytes ≡ with_number 127 n w → Spells (Set w) bytes
set_with zero w bytes h e = let some = (wide zero w h).0 in absurd (omega arith)
set_with (suc n) w bytes h e = (suc n, h, e)

font_with : (n : ℕ) (w : ℤ) (bytes : List ℕ) → IsOperand n w → bytes ≡ with_number 234 n w → Spells (Font w) bytes
font_with zero w bytes h e = let some = (wide zero w h).0 in absurd (omega arith)
font_with (suc n) w bytes h e = (suc n, h, e)

pub set : (op : ℕ) (fields text : List ℕ) (z w : ℤ) → 127 < op → op ≤ 131 → length fields ≡ fixed_size op → length text ≡ text_size op fields
    → w ≡ z → IsOperand (length fields) z → number_bytes (length fields) z ≡ fields → Spells (Set w) (op ∷ (fields ++ text))
set op fields text z w low high whole after same fits written =
    set_with (length fields) w _ (subst (IsOperand (length fields)) (sym same) fits) (numbered 127 op fields text z w refl (omega arith) low high whole after same written)

pub put : (op : ℕ) (fields text : List ℕ) (z w : ℤ) → 132 < op → op ≤ 136 → length fields ≡ fixed_size op → length text ≡ text_size op fields
    → w ≡ z → IsOperand (length fields) z → number_bytes (length fields) z ≡ fields → Spells (Put w) (op ∷ (fields ++ text))
put op fields text z w low high whole after same fits written =
    (length fields, subst (IsOperand (length fields)) (sym same) fits, numbered 132 op fields text z w refl (omega arith) low high whole after same written)

pub font : (op : ℕ) (fields text : List ℕ) (z w : ℤ) → 234 < op → op ≤ 238 → length fields ≡ fixed_size op → length text ≡ text_size op fields
    → w ≡ z → IsOperand (length fields) z → number_bytes (length fields) z ≡ fields → Spells (Font w) (op ∷ (fields ++ text))
font op fields text z w low high whole after same fits written =
    font_with (length fields) w _ (subst (IsOperand (length fields)) (sym same) fits) (numbered 234 op fields text z w refl (omega arith) low high whole after same written)
