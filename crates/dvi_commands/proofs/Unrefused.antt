-- Bytes that are not refused begin with a spelling of a command.
use Rattle.std.proofs.Common.{◌≡◌, ℕ, ◌+◌, ◌-◌, ◌^◌, ◌<◌, ◌≤◌, ℤ, pos, Bool, true, false, List, [], ◌∷◌, ◌++◌, length, take, drop, map, Some, None, refl, sym, ap, subst, ◌∙◌, arith, inl, inr, append_assoc, length-drop, length-take}
use Rattle.std.specs.Prelude.{not, nat_lt, if◌then◌else◌, slice_index}
use Rattle.std.proofs.lemmas.Bool.{cases_lt, ltb-false}
use Rattle.std.proofs.lemmas.List.{append-nil, length-take-le, take-append-drop}
use Rattle.big_endian.specs.Numbers.{AreBytes, IsSigned, number_bytes, signed_of, unsigned_of}
use Rattle.big_endian.proofs.Bytes.{signed_is_written_again, unsigned_is_written_again}
use Rattle.dvi_commands.specs.Spelling.{DviCommand, IsMotion, with_number, Bop, Define, Down, Eop, Font, IsOperand, Nop, Pop, Post, PostPost, Pre, Push, Put, PutRule, Right, Set, SetRule, Special, Spells, W, W0, X, X0, Y, Y0, Z, Z0, quad}
use Rattle.dvi_commands.specs.Reading.{signed_from}
use Rattle.dvi_commands.specs.Refusal.{fixed_size, may_stand, refusal, gives_negative_length, text_size}
use Rattle.dvi_commands.specs.SpellingLaws.{UnrefusedIsSpelled}
use Rattle.dvi_commands.specs.declared.command.CommandFault.{CommandFault}
use Rattle.dvi_commands.specs.declared.command.CommandFault.TheVariants.{Short}
use Rattle.dvi_commands.specs.declared.command.Context.{Context}
use Rattle.dvi_commands.proofs.FieldNumbers.{byte_at, bytes_before, bytes_after, code_of, numbers_are, numbers_from, quad_at}
use Rattle.dvi_commands.proofs.Motions.{bop_stored, motion, nothing, post_post_stored, post_stored, pre_stored, rule, stored}
use Rattle.dvi_commands.proofs.Numbered.{alone, font, opcode_font, opcode_set, put, set}
use Rattle.dvi_commands.proofs.OneCommand.{lengths_alike}
use Rattle.dvi_commands.proofs.Opcodes.{IsRow, no_text, row_size}
use Rattle.dvi_commands.proofs.Prefix.{by_width}
use Rattle.dvi_commands.proofs.Texts.{definition, special}

-- ---- the command of an opcode, its fields and its text

abbrev IsSpelled : ℕ → List ℕ → List ℕ → Type 0
IsSpelled op fields text = (c : DviCommand) × Spells c (op ∷ (fields ++ text))

module _ (op : ℕ) (fields text : List ℕ) (whole : length fields ≡ fixed_size op) (after : length text ≡ text_size op fields) (few : AreBytes fields) where
  by_itself : (k : ℕ) → op ≡ k → fixed_size k ≡ 0 → k < 239 → op ∷ (fields ++ text) ≡ k ∷ []
  by_itself k e none low =
      ap (λ x. op ∷ x) (alone op fields text (omega (arith, e, low)) (ap fixed_size e ∙ none) whole after) ∙ ap (λ o. o ∷ []) e

  size_in_row : (before : ℕ) → IsRow before → before < op → op ≤ before + 4 → (1 ≤ length fields) × (length fields ≤ 4)
  size_in_row before row low high =
      let size : length fields ≡ op - before = whole ∙ row_size before op row low high in
      (omega (arith, size, low), omega (arith, size, high))

  signed_again : (before : ℕ) → IsRow before → before < op → op ≤ before + 4 → (number_bytes (length fields) (signed_of fields) ≡ fields) × IsSigned (length fields) (signed_of fields)
  signed_again before row low high =
      let size = size_in_row before row low high in
      signed_is_written_again fields few size.0 size.1

  motion_in : (before : ℕ) → IsRow before → before + 4 < 239 → before < op → op ≤ before + 4 → (n : ℕ) × IsMotion n (signed_of fields) × (op ∷ (fields ++ text) ≡ with_number before n (signed_of fields))
  motion_in before row top low high =
      let again = signed_again before row low high in
      motion before op fields text (signed_of fields) (signed_of fields) row top low high whole after refl again.1 again.0

  numbered_in : (before : ℕ) → IsRow before → before < op → op ≤ before + 4 → (z : ℤ) × IsOperand (length fields) z × (number_bytes (length fields) z ≡ fields)
  numbered_in before row low high =
      let size = size_in_row before row low high in
      code_of fields few size.0 size.1

  rule_in : (code : ℕ) → op ≡ code → fixed_size code ≡ 8 → code < 239 → (a : ℤ) × (b : ℤ) × (n : ℕ) × ((n ≡ 0) × IsSigned 4 a × IsSigned 4 b) × (op ∷ (fields ++ text) ≡ (code ∷ quad a) ++ quad b)
  rule_in code e eight low =
      let size : length fields ≡ 8 = whole ∙ ap fixed_size e ∙ eight in
      let are = numbers_are 2 0 fields few (omega (arith, size)) in
      let is = rule code op fields text (signed_from fields 0) (signed_from fields 4) e eight low whole after are.0 are.1 in
      (stored (signed_from fields 0), stored (signed_from fields 4), is.0, is.1, is.2)

  bop_in : op ≡ 139 → IsSpelled op fields text
  bop_in e =
      let size : length fields ≡ 44 = whole ∙ ap fixed_size e in
      let are = numbers_are 10 0 fields few (omega (arith, size)) in
      let back = quad_at 40 fields few (omega (arith, size)) in
      let bytes : 139 ∷ fields ≡ op ∷ (fields ++ text) =
      sym (ap (λ o. o ∷ (fields ++ text)) e ∙ ap (λ t. 139 ∷ (fields ++ t)) (no_text op fields text (omega (arith, e)) after) ∙ ap (λ x. 139 ∷ x) (append-nil fields)) in
      let c = Bop (map stored (numbers_from 10 0 fields)) (stored (signed_from fields 40)) in
      let is = bop_stored (numbers_from 10 0 fields) (signed_from fields 40) fields size refl are.0 back.0 are.1 back.1 in
      (c, subst (Spells c) bytes is)

  up_to_138 : op ≤ 138 → IsSpelled op fields text
  up_to_138 high = elim (cases_lt 127 op) [
    | inr small ↦ (Set (pos op), opcode_set op fields text (pos op) small refl whole after)
    | inl o127 ↦ elim (cases_lt 131 op) [
      | inr o131 ↦ let z = numbered_in 127 refl o127 o131 in (Set z.0, set op fields text z.0 z.0 o127 o131 whole after refl z.1 z.2)
      | inl o131 ↦ elim (cases_lt 132 op) [
        | inr o132 ↦ let r = rule_in 132 (omega arith) refl (omega arith) in (SetRule r.0 r.1, (r.2, r.3, r.4))
        | inl o132 ↦ elim (cases_lt 136 op) [
          | inr o136 ↦ let z = numbered_in 132 refl o132 o136 in (Put z.0, put op fields text z.0 z.0 o132 o136 whole after refl z.1 z.2)
          | inl o136 ↦ elim (cases_lt 137 op) [
            | inr o137 ↦ let r = rule_in 137 (omega arith) refl (omega arith) in (PutRule r.0 r.1, (r.2, r.3, r.4))
            | inl o137 ↦ (Nop, (0, refl, by_itself 138 (omega arith) refl (omega arith)))
          ]
        ]
      ]
    ]
  ]

  up_to_156 : 138 < op → op ≤ 156 → IsSpelled op fields text
  up_to_156 low high = elim (cases_lt 139 op) [
    | inr o139 ↦ bop_in (omega arith)
    | inl o139 ↦ elim (cases_lt 140 op) [
      | inr o140 ↦ (Eop, (0, refl, by_itself 140 (omega arith) refl (omega arith)))
      | inl o140 ↦ elim (cases_lt 141 op) [
        | inr o141 ↦ (Push, (0, refl, by_itself 141 (omega arith) refl (omega arith)))
        | inl o141 ↦ elim (cases_lt 142 op) [
          | inr o142 ↦ (Pop, (0, refl, by_itself 142 (omega arith) refl (omega arith)))
          | inl o142 ↦ elim (cases_lt 146 op) [
            | inr o146 ↦ (Right (signed_of fields), motion_in 142 refl (omega arith) o142 o146)
            | inl o146 ↦ elim (cases_lt 147 op) [
              | inr o147 ↦ (W0, (0, refl, by_itself 147 (omega arith) refl (omega arith)))
              | inl o147 ↦ elim (cases_lt 151 op) [
                | inr o151 ↦ (W (signed_of fields), motion_in 147 refl (omega arith) o147 o151)
                | inl o151 ↦ elim (cases_lt 152 op) [
                  | inr o152 ↦ (X0, (0, refl, by_itself 152 (omega arith) refl (omega arith)))
                  | inl o152 ↦ (X (signed_of fields), motion_in 152 refl (omega arith) o152 high)
                ]
              ]
            ]
          ]
        ]
      ]
    ]
  ]

  up_to_238 : 156 < op → op ≤ 238 → IsSpelled op fields text
  up_to_238 low high = elim (cases_lt 160 op) [
    | inr o160 ↦ (Down (signed_of fields), motion_in 156 refl (omega arith) low o160)
    | inl o160 ↦ elim (cases_lt 161 op) [
      | inr o161 ↦ (Y0, (0, refl, by_itself 161 (omega arith) refl (omega arith)))
      | inl o161 ↦ elim (cases_lt 165 op) [
        | inr o165 ↦ (Y (signed_of fields), motion_in 161 refl (omega arith) o161 o165)
        | inl o165 ↦ elim (cases_lt 166 op) [
          | inr o166 ↦ (Z0, (0, refl, by_itself 166 (omega arith) refl (omega arith)))
          | inl o166 ↦ elim (cases_lt 170 op) [
            | inr o170 ↦ (Z (signed_of fields), motion_in 166 refl (omega arith) o166 o170)
            | inl o170 ↦ elim (cases_lt 234 op) [
              | inr o234 ↦ (Font (pos (op - 171)), opcode_font op fields text (pos (op - 171)) (omega arith) o234 refl whole after)
              | inl o234 ↦ let z = numbered_in 234 refl o234 high in (Font z.0, font op fields text z.0 z.0 o234 high whole after refl z.1 z.2)
            ]
          ]
        ]
      ]
    ]
  ]

-- ---- definitions of fonts, and the preamble and the postamble

lengths_are : (n : ℕ) (fields : List ℕ) → 1 ≤ n → n ≤ 4 → (fixed_size (242 + n) ≡ n + 14) × (text_size (242 + n) fields ≡ slice_index fields (n + 12) + slice_index fields (n + 13))
lengths_are n fields low high = by_width (λ n. (fixed_size (242 + n) ≡ n + 14) × (text_size (242 + n) fields ≡ slice_index fields (n + 12) + slice_index fields (n + 13))) (refl, refl) (refl, refl) (refl, refl) (refl, refl) n low high

define_by : (n : ℕ) (fields text : List ℕ) → 1 ≤ n → n ≤ 4 → length fields ≡ fixed_size (242 + n) → length text ≡ text_size (242 + n) fields → AreBytes fields → IsSpelled (242 + n) fields text
define_by n fields text low high whole after few =
    let are = lengths_are n fields low high in
    let size : length fields ≡ n + 14 = whole ∙ are.0 in
    let width : length fields - 14 ≡ n = omega (arith, size) in
    let number = take (length fields - 14) fields in
    let others = drop (length fields - 14) fields in
    let number_size : length number ≡ n = length-take-le (length fields - 14) fields (omega arith) ∙ width in
    let others_size : length others ≡ 14 = omega (arith, length-drop (length fields - 14) fields, size) in
    let others_few = bytes_after (length fields - 14) fields few in
    let z = code_of number (bytes_before (length fields - 14) fields few) (omega (arith, number_size, low)) (omega (arith, number_size, high)) in
    let check = take 4 others in
    let check_size : length check ≡ 4 = length-take-le 4 others (omega (arith, others_size)) in
    let check_again = unsigned_is_written_again check (bytes_before 4 others others_few) (omega (arith, check_size)) (omega (arith, check_size)) in
    let quads = numbers_are 2 4 others others_few (omega (arith, others_size)) in
    let area : n + 12 ≡ length fields - 2 = omega (arith, size) in
    let rest : n + 13 ≡ length fields - 1 = omega (arith, size) in
    let lengths : length text ≡ slice_index fields (length fields - 2) + slice_index fields (length fields - 1) =
    after ∙ are.1 ∙ ap (λ k. slice_index fields k + slice_index fields (n + 13)) area ∙ ap (λ k. slice_index fields (length fields - 2) + slice_index fields k) rest in
    let opcode : 228 + length fields ≡ 242 + n = omega (arith, size) in
    let c = Define (record { number = z.0; check = unsigned_of check; size = signed_from others 4; design = signed_from others 8; area = slice_index others 12; name = text }) in
    let is = definition fields text number others z.0 (signed_from others 4) (signed_from others 8) (unsigned_of check) (omega (arith, size, low)) lengths refl refl z.1 z.2 check_again.1 check_again.0 quads.0.0 quads.0.1.0 quads.1.0 quads.1.1.0 (λ k. byte_at fields k few) in
    (c, subst (λ o. Spells c (o ∷ (fields ++ text))) opcode is)

pre_by : (fields text : List ℕ) → length fields ≡ 14 → length text ≡ slice_index fields 13 → AreBytes fields → IsSpelled 247 fields text
pre_by fields text whole after few =
    let are = numbers_are 3 1 fields few (omega (arith, whole)) in
    (Pre (record { id = slice_index fields 0; num = stored (signed_from fields 1); den = stored (signed_from fields 5); mag = stored (signed_from fields 9); text = text }), pre_stored (slice_index fields 0) (signed_from fields 1) (signed_from fields 5) (signed_from fields 9) fields text whole after (byte_at fields 13 few) (byte_at fields 0 few) refl are.0 are.1)

two_again : (i : ℕ) (fields : List ℕ) → AreBytes fields → i + 2 ≤ length fields → (number_bytes (length (take 2 (drop i fields))) (pos (unsigned_of (take 2 (drop i fields)))) ≡ take 2 (drop i fields)) × (unsigned_of (take 2 (drop i fields)) < 256 ^ length (take 2 (drop i fields)))
two_again i fields few room =
    let long : length (take 2 (drop i fields)) ≡ 2 = grind (arith, length-take, length-drop) in
    unsigned_is_written_again (take 2 (drop i fields)) (bytes_before 2 (drop i fields) (bytes_after i fields few)) (omega (arith, long)) (omega (arith, long))

post_by : (fields text : List ℕ) → length fields ≡ 28 → length text ≡ 0 → AreBytes fields → IsSpelled 248 fields text
post_by fields text whole after few =
    let are = numbers_are 6 0 fields few (omega (arith, whole)) in
    let deepest = two_again 24 fields few (omega (arith, whole)) in
    let pages = two_again 26 fields few (omega (arith, whole)) in
    let bytes : 248 ∷ fields ≡ 248 ∷ (fields ++ text) = sym (ap (λ t. 248 ∷ (fields ++ t)) (nothing text after) ∙ ap (λ x. 248 ∷ x) (append-nil fields)) in
    let c = Post (record { back = stored (signed_from fields 0); num = stored (signed_from fields 4); den = stored (signed_from fields 8); mag = stored (signed_from fields 12); tallest = stored (signed_from fields 16); widest = stored (signed_from fields 20); deepest = unsigned_of (take 2 (drop 24 fields)); pages = unsigned_of (take 2 (drop 26 fields)) }) in
    let is = post_stored (signed_from fields 0) (signed_from fields 4) (signed_from fields 8) (signed_from fields 12) (signed_from fields 16) (signed_from fields 20) (unsigned_of (take 2 (drop 24 fields))) (unsigned_of (take 2 (drop 26 fields))) fields whole are.0 are.1 deepest.1 pages.1 deepest.0 pages.0 in
    (c, subst (Spells c) bytes is)

post_post_by : (fields text : List ℕ) → length fields ≡ 5 → length text ≡ 0 → AreBytes fields → IsSpelled 249 fields text
post_post_by fields text whole after few =
    let are = numbers_are 1 0 fields few (omega (arith, whole)) in
    (PostPost (stored (signed_from fields 0)) (slice_index fields 4), post_post_stored (signed_from fields 0) 249 (slice_index fields 4) fields text refl whole after (byte_at fields 4 few) refl are.0 are.1)

-- a command of each kind
spelled_by : (op : ℕ) (fields text : List ℕ) → op ≤ 249 → length fields ≡ fixed_size op → length text ≡ text_size op fields → gives_negative_length op fields ≡ false → AreBytes fields → IsSpelled op fields text
spelled_by op fields text known whole after positive few = elim (cases_lt 138 op) [
  | inr o138 ↦ up_to_138 op fields text whole after few o138
  | inl o138 ↦ elim (cases_lt 156 op) [
    | inr o156 ↦ up_to_156 op fields text whole after few o138 o156
    | inl o156 ↦ elim (cases_lt 238 op) [
      | inr o238 ↦ up_to_238 op fields text whole after few o156 o238
      | inl o238 ↦ elim (cases_lt 242 op) [
        | inr o242 ↦ (Special text, special op fields text o238 o242 whole after positive few)
        | inl o242 ↦ elim (cases_lt 246 op) [
          | inr o246 ↦
              let place : 242 + (op - 242) ≡ op = omega arith in
              subst (λ k. length fields ≡ fixed_size k → length text ≡ text_size k fields → IsSpelled k fields text) place
              (λ w b. define_by (op - 242) fields text (omega arith) (omega arith) w b few) whole after
          | inl o246 ↦ elim (cases_lt 247 op) [
            | inr o247 ↦ at 247 (omega arith) (λ w b. pre_by fields text w b few)
            | inl o247 ↦ elim (cases_lt 248 op) [
              | inr o248 ↦ at 248 (omega arith) (λ w b. post_by fields text w b few)
              | inl o248 ↦ at 249 (omega arith) (λ w b. post_post_by fields text w b few)
            ]
          ]
        ]
      ]
    ]
  ]
]
  where
    at : (k : ℕ) → op ≡ k → (length fields ≡ fixed_size k → length text ≡ text_size k fields → IsSpelled k fields text) → IsSpelled op fields text
    at k e of = subst (λ o. IsSpelled o fields text) (sym e) (of (whole ∙ ap fixed_size e) (after ∙ ap (λ o. text_size o fields) e))

-- ---- bytes that are not refused

passed : (undefined allowed cut negative short : Bool) (u m s n t : CommandFault)
    → (if undefined then Some u else if not allowed then Some m else if cut then Some s else if negative then Some n else if short then Some t else None) ≡ None
    → (undefined ≡ false) × (allowed ≡ true) × (cut ≡ false) × (negative ≡ false) × (short ≡ false)
passed true allowed cut negative short u m s n t h = absurd cc
passed false false cut negative short u m s n t h = absurd cc
passed false true true negative short u m s n t h = absurd cc
passed false true false true short u m s n t h = absurd cc
passed false true false false true u m s n t h = absurd cc
passed false true false false false u m s n t h = (refl, refl, refl, refl, refl)

no_bytes : (place : Context) (bytes : List ℕ) → bytes ≡ [] → refusal place bytes ≡ None → ⊥
no_bytes place bytes e h = let none : Some Short ≡ None = sym (ap (refusal place) e) ∙ h in absurd cc

pub unrefused_is_spelled : UnrefusedIsSpelled
unrefused_is_spelled place [] few h = absurd (no_bytes place [] refl h)
unrefused_is_spelled place (op ∷ after) few h =
    let tests = passed (nat_lt 249 op) (may_stand place op) (nat_lt (length after) (fixed_size op)) (gives_negative_length op after) (nat_lt (length after) (fixed_size op + text_size op after)) _ _ _ _ _ h in
    let known : op ≤ 249 = ltb-false 249 op tests.0 in
    let room : fixed_size op ≤ length after = ltb-false (length after) (fixed_size op) tests.2 in
    let text_room : fixed_size op + text_size op after ≤ length after = ltb-false (length after) (fixed_size op + text_size op after) tests.4 in
    let fields = take (fixed_size op) after in
    let unread = drop (fixed_size op) after in
    let same = lengths_alike op after known in
    let text = take (text_size op fields) unread in
    let whole : length fields ≡ fixed_size op = length-take-le (fixed_size op) after room in
    let length_of : length text ≡ text_size op fields = length-take-le (text_size op fields) unread (omega (arith, same.0, text_room, length-drop (fixed_size op) after)) in
    let is = spelled_by op fields text known whole length_of (same.1 ∙ tests.3) (bytes_before (fixed_size op) after few.1) in
    let rest = drop (text_size op fields) unread in
    let bytes : op ∷ after ≡ (op ∷ (fields ++ text)) ++ rest =
    ap (λ x. op ∷ x) (sym (take-append-drop (fixed_size op) after) ∙ ap (λ x. fields ++ x) (sym (take-append-drop (text_size op fields) unread)) ∙ sym (append_assoc fields text rest)) in
    (is.0, op ∷ (fields ++ text), rest, record { whole = bytes; spelled = is.1; allowed = tests.1 })
