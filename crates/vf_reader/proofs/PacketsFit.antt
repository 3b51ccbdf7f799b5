-- The packets of a file weigh no more than the file.
use Rattle.std.proofs.Common.{◌≡◌, ◌∙◌, inl, inr, ℕ, ◌+◌, ◌≤◌, true, false, cond, ◌&&◌, List, [], ◌∷◌, length, Some, refl, ap, arith}
use Rattle.std.specs.Prelude.{◌≢◌, ◌==◌}
use Rattle.std.proofs.lemmas.Bool.{cases_lt, eq-eqb}
use Rattle.std.proofs.lemmas.List.{length-append, length-drop}
use Rattle.code_sums.specs.Sums.{CODES, sum_of_codes}
use Rattle.code_sums.proofs.Sums.{equal_terms_have_one_sum, one_term_changes, sums_are_bounded}
use Rattle.vf_reader.specs.Items.{code_of, head_size, is_packet, opcode, program_of, text_of}
use Rattle.vf_reader.specs.Fonts.{HasPacketsOf, IsVfFile, Virtual, packet_of, program_with}
use Rattle.vf_reader.specs.Preamble.{preamble_size}
use Rattle.vf_reader.specs.Weights.{packet_bytes, packets_weight}
use Rattle.vf_reader.proofs.Weighed.{apart}

programs_weight : List (List ℕ) → ℕ
programs_weight items = sum_of_codes (λ c. packet_bytes (program_with items c))

-- one item more weighs no more than its bytes
module _ (item : List ℕ) (before : List (List ℕ)) where
  with_it : ℕ → ℕ
  with_it c = packet_bytes (program_with (item ∷ before) c)

  before_it : ℕ → ℕ
  before_it c = packet_bytes (program_with before c)

  shorter : length (program_of item) ≤ length item
  shorter = let rest = length-drop (head_size (opcode item)) item in omega (arith, rest)

  module _ (packet : is_packet item ≡ true) where
    this : with_it (code_of item) ≡ length (program_of item)
    unfolding with_it
    this = ap (λ b. packet_bytes (cond (b && code_of item == code_of item) (Some (program_of item)) (program_with before (code_of item)))) packet
        ∙ ap (λ b. packet_bytes (cond b (Some (program_of item)) (program_with before (code_of item)))) (eq-eqb (code_of item) (code_of item) refl)

    others : (c : ℕ) → c ≢ code_of item → with_it c ≡ before_it c
    unfolding with_it before_it
    others c other = ap (λ b. packet_bytes (cond (b && code_of item == c) (Some (program_of item)) (program_with before c))) packet
        ∙ ap (λ b. packet_bytes (cond b (Some (program_of item)) (program_with before c))) (apart (code_of item) c other)

  none : is_packet item ≡ false → (c : ℕ) → with_it c ≡ before_it c
  unfolding with_it before_it
  none other c = ap (λ b. packet_bytes (cond (b && code_of item == c) (Some (program_of item)) (program_with before c))) other

  one_more : programs_weight (item ∷ before) ≤ programs_weight before + length item
  unfolding programs_weight with_it before_it
  one_more = (elim (is_packet item) as (λ b. is_packet item ≡ b → sum_of_codes with_it ≤ sum_of_codes before_it + length item) [
    | true ↦ λ packet. elim (cases_lt (code_of item) CODES) [
      | inl code ↦
          let changed = one_term_changes before_it with_it (code_of item) code (others packet) in
          let now = this packet in
          let few = shorter in
          omega (arith, changed, now, few)
      | inr beyond ↦
          let same = equal_terms_have_one_sum with_it before_it (λ c code. others packet c (λ is. omega (arith, is, code, beyond))) in
          omega (arith, same)
    ]
    | false ↦ λ other. let same = equal_terms_have_one_sum with_it before_it (λ c code. none other c) in omega (arith, same)
  ]) refl

nothing : programs_weight [] ≤ 0
unfolding programs_weight
nothing = let most = sums_are_bounded (λ c. packet_bytes (program_with [] c)) 0 (λ c. omega arith) in omega (arith, most)

items_fit : (items : List (List ℕ)) → programs_weight items ≤ length (text_of items)
items_fit [] = nothing
items_fit (item ∷ before) =
    let more = one_more item before in
    let rest = items_fit before in
    let long = length-append (text_of before) item in
    omega (arith, more, rest, long)

-- the packets that were read weigh no more than the file has bytes
pub packets_fit : (bytes : List ℕ) (items : List (List ℕ)) (font : Virtual) → IsVfFile bytes items → HasPacketsOf items font → packets_weight font ≤ length bytes
unfolding programs_weight
packets_fit bytes items font file has =
    let same = equal_terms_have_one_sum (λ c. packet_bytes (packet_of font c)) (λ c. packet_bytes (program_with items c)) (λ c code. ap packet_bytes (has.packets c)) in
    let fit : programs_weight items ≤ length (text_of items) = items_fit items in
    let whole = ap length file.whole in
    let left = length-drop (preamble_size bytes) bytes in
    let parts = length-append (text_of items) (248 ∷ file.unused) in
    omega (arith, same, fit, whole, left, parts)
