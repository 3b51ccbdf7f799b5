-- Specials and definitions of fonts: a text after the fields that give its length.
use Rattle.std.proofs.Common.{◌≡◌, ℕ, suc, ◌+◌, ◌-◌, ◌^◌, ◌<◌, ◌≤◌, ℤ, pos, negsuc, false, List, [], ◌∷◌, ◌++◌, length, take, drop, refl, sym, ap, subst, ◌∙◌, arith, inl, inr, append_assoc, drop-cons, length-drop, length-take}
use Rattle.std.specs.Prelude.{slice_index, int_lt}
use Rattle.std.specs.List.{flat_map}
use Rattle.std.proofs.lemmas.List.{get_or-drop, take_all, take-append-drop}
use Rattle.big_endian.specs.Numbers.{unsigned_of, signed_of, number_bytes, AreBytes, IsSigned}
use Rattle.big_endian.proofs.Bytes.{signed_is_written_again, unsigned_is_written_again}
use Rattle.dvi_commands.specs.Spelling.{Define, Special, IsOperand, Spells, quad}
use Rattle.dvi_commands.specs.Refusal.{fixed_size, gives_negative_length, text_size, given_length}
use Rattle.dvi_commands.proofs.Motions.{AreQuadsFrom, ends, joined}
use Rattle.dvi_commands.proofs.Prefix.{by_width, given_text}

pub are_bytes : (bytes : List ℕ) → ((k : ℕ) → slice_index bytes k < 256) → AreBytes bytes
are_bytes [] h = tt
are_bytes (b ∷ bytes) h = (h 0, are_bytes bytes (λ k. h (suc k)))

-- ---- specials

abbrev SpecialIs : ℕ → List ℕ → List ℕ → Type 0
SpecialIs n fields text = length fields ≡ n → length text ≡ text_size (238 + n) fields → gives_negative_length (238 + n) fields ≡ false → AreBytes fields
    → IsOperand n (pos (length text)) × (number_bytes n (pos (length text)) ≡ fields)

-- a length of up to three bytes, which is unsigned
unsigned_length : (n : ℕ) (fields text : List ℕ) → 1 ≤ n → n ≤ 3 → length fields ≡ n → AreBytes fields → length text ≡ unsigned_of fields → IsOperand n (pos (length text)) × (number_bytes n (pos (length text)) ≡ fields)
unsigned_length n fields text low high whole bytes size =
    let again = unsigned_is_written_again fields bytes (omega (arith, whole, low)) (omega (arith, whole, high)) in
    let fits : unsigned_of fields < 256 ^ n = subst (λ k. unsigned_of fields < 256 ^ k) whole again.1 in
    let written : number_bytes n (pos (unsigned_of fields)) ≡ fields = subst (λ k. number_bytes k (pos (unsigned_of fields)) ≡ fields) whole again.0 in
    (inl (low, high, subst (λ k. k < 256 ^ n) (sym size) fits), ap (λ k. number_bytes n (pos k)) size ∙ written)

short_length : (n : ℕ) (fields : List ℕ) → length fields ≡ n → unsigned_of (take n fields) ≡ unsigned_of fields
short_length n fields whole = ap unsigned_of (take_all n fields (omega (arith, whole)))

-- a length of four bytes, which is signed and not negative
signed_length : (z : ℤ) (fields text : List ℕ) → signed_of fields ≡ z → int_lt z (pos 0) ≡ false → length fields ≡ 4 → AreBytes fields → length text ≡ text_size 242 fields
    → IsOperand 4 (pos (length text)) × (number_bytes 4 (pos (length text)) ≡ fields)
signed_length (negsuc m) fields text is not_negative whole bytes size = cc
signed_length (pos m) fields text is not_negative whole bytes size =
    let told : given_length 242 fields ≡ pos m = ap signed_of (take_all 4 fields (omega (arith, whole))) ∙ is in
    let len : length text ≡ m = size ∙ given_text 242 m fields refl told in
    let again = signed_is_written_again fields bytes (omega (arith, whole)) (omega (arith, whole)) in
    let same : signed_of fields ≡ pos (length text) = is ∙ ap pos (sym len) in
    let fits : IsSigned 4 (signed_of fields) = subst (λ k. IsSigned k (signed_of fields)) whole again.1 in
    let written : number_bytes 4 (signed_of fields) ≡ fields = subst (λ k. number_bytes k (signed_of fields) ≡ fields) whole again.0 in
    (inr (refl, subst (IsSigned 4) same fits), ap (number_bytes 4) (sym same) ∙ written)

special_of : (n : ℕ) (fields text : List ℕ) → 1 ≤ n → n ≤ 4 → SpecialIs n fields text
special_of n fields text low high =
    by_width (λ n. SpecialIs n fields text)
    (λ whole size positive bytes. unsigned_length 1 fields text (omega arith) (omega arith) whole bytes (size ∙ given_text 239 (unsigned_of fields) fields refl (ap pos (short_length 1 fields whole))))
    (λ whole size positive bytes. unsigned_length 2 fields text (omega arith) (omega arith) whole bytes (size ∙ given_text 240 (unsigned_of fields) fields refl (ap pos (short_length 2 fields whole))))
    (λ whole size positive bytes. unsigned_length 3 fields text (omega arith) (omega arith) whole bytes (size ∙ given_text 241 (unsigned_of fields) fields refl (ap pos (short_length 3 fields whole))))
    (λ whole size positive bytes. signed_length (signed_of fields) fields text refl (sym (ap (λ (x : List ℕ). int_lt (signed_of x) (pos 0)) (take_all 4 fields (omega (arith, whole)))) ∙ positive) whole bytes size) n low high

special_size : (n : ℕ) → 1 ≤ n → n ≤ 4 → fixed_size (238 + n) ≡ n
special_size n low high = by_width (λ n. fixed_size (238 + n) ≡ n) refl refl refl refl n low high

special_by : (n : ℕ) (fields text : List ℕ) → 1 ≤ n → n ≤ 4 → length fields ≡ fixed_size (238 + n) → length text ≡ text_size (238 + n) fields → gives_negative_length (238 + n) fields ≡ false → AreBytes fields
    → Spells (Special text) ((238 + n) ∷ (fields ++ text))
special_by n fields text low high whole size positive bytes =
    let is = special_of n fields text low high (whole ∙ special_size n low high) size positive bytes in
    (n, is.0, ap (λ x. (238 + n) ∷ (x ++ text)) (sym is.1))

pub special : (op : ℕ) (fields text : List ℕ) → 238 < op → op ≤ 242 → length fields ≡ fixed_size op → length text ≡ text_size op fields → gives_negative_length op fields ≡ false → AreBytes fields
    → Spells (Special text) (op ∷ (fields ++ text))
special op fields text low high =
    let place : 238 + (op - 238) ≡ op = omega arith in
    let P : ℕ → Type 0 = λ k. length fields ≡ fixed_size k → length text ≡ text_size k fields → gives_negative_length k fields ≡ false → AreBytes fields → Spells (Special text) (k ∷ (fields ++ text)) in
    subst P place (special_by (op - 238) fields text (omega arith) (omega arith))

-- ---- definitions of fonts

-- a byte of the last fourteen of a definition, by its place in all of its fields
last_byte : (fields others : List ℕ) (i : ℕ) → others ≡ drop (length fields - 14) fields → slice_index others i ≡ slice_index fields (length fields - 14 + i)
last_byte fields others i back = ap (λ x. slice_index x i) back ∙ get_or-drop (length fields - 14) fields i 0

-- the last fourteen bytes of a definition
others_are : (others name : List ℕ) (check size design : ℤ) → length others ≡ 14 → AreQuadsFrom 0 (check ∷ size ∷ design ∷ []) others → length name ≡ slice_index others 12 + slice_index others 13
    → others ≡ flat_map quad (check ∷ size ∷ design ∷ []) ++ (slice_index others 12 ∷ (length name - slice_index others 12) ∷ [])
others_are others name check size design whole quads text =
    let numbers = flat_map quad (check ∷ size ∷ design ∷ []) in
    let e1 : others ≡ numbers ++ drop 12 others = sym (joined 0 (check ∷ size ∷ design ∷ []) others quads) in
    let e2 : drop 12 others ≡ slice_index others 12 ∷ drop 13 others = drop-cons others 12 0 (omega (arith, whole)) in
    let e3 : drop 13 others ≡ slice_index others 13 ∷ drop 14 others = drop-cons others 13 0 (omega (arith, whole)) in
    let rest : slice_index others 13 ≡ length name - slice_index others 12 = omega (arith, text) in
    e1
    ∙ ap (λ x. numbers ++ x) e2
    ∙ ap (λ x. numbers ++ (slice_index others 12 ∷ x)) e3
    ∙ ap (λ x. numbers ++ (slice_index others 12 ∷ slice_index others 13 ∷ x)) (ends 14 others whole)
    ∙ ap (λ k. numbers ++ (slice_index others 12 ∷ k ∷ [])) rest

pub regroup : (a b c d e : List ℕ) → (((a ++ b) ++ c) ++ d) ++ e ≡ a ++ (b ++ (c ++ (d ++ e)))
regroup a b c d e = simp append_assoc

pub definition : (fields name number others : List ℕ) (w size design : ℤ) (check : ℕ) → 15 ≤ length fields
    → length name ≡ slice_index fields (length fields - 2) + slice_index fields (length fields - 1)
    → number ≡ take (length fields - 14) fields → others ≡ drop (length fields - 14) fields
    → IsOperand (length number) w → number_bytes (length number) w ≡ number
    → check < 256 ^ length (take 4 others) → number_bytes (length (take 4 others)) (pos check) ≡ take 4 others → IsSigned 4 size → IsSigned 4 design → quad size ≡ take 4 (drop 4 others) → quad design ≡ take 4 (drop 8 others)
    → ((k : ℕ) → slice_index fields k < 256)
    → Spells (Define (record { number = w; check = check; size = size; design = design; area = slice_index others 12; name = name })) ((228 + length fields) ∷ (fields ++ name))
definition fields name number others w size design check some text prefix back fits written check_fits check_bytes size_fits design_fits size_bytes design_bytes bytes =
    let n = length number in
    let width : n ≡ length fields - 14 = grind (arith, length-take, ap length prefix) in
    let whole : length others ≡ 14 = omega (arith, length-drop (length fields - 14) fields, ap length back) in
    let area_place : length fields - 14 + 12 ≡ length fields - 2 = omega (arith, some) in
    let rest_place : length fields - 14 + 13 ≡ length fields - 1 = omega (arith, some) in
    let area : slice_index others 12 ≡ slice_index fields (length fields - 2) = last_byte fields others 12 back ∙ ap (slice_index fields) area_place in
    let rest : slice_index others 13 ≡ slice_index fields (length fields - 1) = last_byte fields others 13 back ∙ ap (slice_index fields) rest_place in
    let lengths : length name ≡ slice_index others 12 + slice_index others 13 = omega (arith, text, area, rest) in
    let check_size : length (take 4 others) ≡ 4 = grind (arith, length-take, whole) in
    let check_small : check < 256 ^ 4 = subst (λ k. check < 256 ^ k) check_size check_fits in
    let check_written : number_bytes 4 (pos check) ≡ take 4 others = subst (λ k. number_bytes k (pos check) ≡ take 4 others) check_size check_bytes in
    let quads : AreQuadsFrom 0 (pos check ∷ size ∷ design ∷ []) others = (check_written, (size_bytes, (design_bytes, tt))) in
    let joined_fields : fields ≡ number ++ others = sym (ap (λ x. x ++ others) prefix ∙ ap (λ x. take (length fields - 14) fields ++ x) back ∙ take-append-drop (length fields - 14) fields) in
    let opcode : 228 + length fields ≡ 242 + n = omega (arith, width, some) in (
      n,
      (fits, record { check = omega (arith, check_small); size = size_fits; design = design_fits; area = omega (arith, lengths); area_fits = omega (arith, area, bytes (length fields - 2)); name_fits = omega (arith, lengths, rest, bytes (length fields - 1)) }),
      ap (λ o. o ∷ (fields ++ name)) opcode
          ∙ ap (λ x. (242 + n) ∷ (x ++ name)) joined_fields
          ∙ ap (λ x. (242 + n) ∷ x) (append_assoc number others name)
          ∙ ap (λ x. (242 + n) ∷ (x ++ (others ++ name))) (sym written)
          ∙ ap (λ x. (242 + n) ∷ (number_bytes n w ++ (x ++ name))) (others_are others name (pos check) size design whole quads lengths)
          ∙ ap (λ x. (242 + n) ∷ x) (sym (regroup (number_bytes n w) (number_bytes 4 (pos check)) (quad size) (quad design) (slice_index others 12 ∷ (length name - slice_index others 12) ∷ name))),
    )
