-- A command from its opcode, its fields and its text: that these bytes spell it.
use Rattle.std.proofs.Common.{◌≡◌, ℕ, ◌+◌, ◌-◌, ◌*◌, ◌^◌, ◌<◌, ◌≤◌, ℤ, pos, negsuc, List, [], ◌∷◌, ◌++◌, length, take, drop, map, refl, sym, ap, subst, ◌∙◌, arith, append_assoc, drop-drop, drop-cons, length-drop, length-take, w32, to_z, of_z}
use Rattle.std.specs.Prelude.{slice_index}
use Rattle.std.specs.List.{flat_map, AllByRecursion}
use Rattle.std.proofs.lemmas.Int.{ints}
use Rattle.std.proofs.lemmas.List.{take-append-drop, append-nil}
use Rattle.big_endian.specs.Numbers.{number_bytes, IsSigned}
use Rattle.dvi_commands.proofs.Opcodes.{IsRow, no_text, row_size}
use Rattle.dvi_commands.specs.Spelling.{Spells, Bop, Pre, Post, PostPost, IsMotion, quad, with_number}
use Rattle.dvi_commands.specs.Refusal.{fixed_size, text_size}

-- ---- the fields of a row of motions

-- a motion of a row, read from all bytes of the fields
pub motion : (before op : ℕ) (fields text : List ℕ) (z w : ℤ) → IsRow before → before + 4 < 239 → before < op → op ≤ before + 4 → length fields ≡ fixed_size op → length text ≡ text_size op fields
    → w ≡ z → IsSigned (length fields) z → number_bytes (length fields) z ≡ fields → (n : ℕ) × IsMotion n w × (op ∷ (fields ++ text) ≡ with_number before n w)
motion before op fields text z w row top low high whole after same fits written =
    let size : length fields ≡ op - before = whole ∙ row_size before op row low high in
    let none : text ≡ [] = no_text op fields text (omega arith) after in
    let opcode : op ≡ before + length fields = omega arith in
    let bytes : fields ++ text ≡ number_bytes (length fields) w = ap (λ t. fields ++ t) none ∙ append-nil fields ∙ sym written ∙ ap (number_bytes (length fields)) (sym same) in
    (length fields, (omega arith, omega arith, subst (IsSigned (length fields)) (sym same) fits), ap (λ o. o ∷ (fields ++ text)) opcode ∙ ap (λ t. (before + length fields) ∷ t) bytes)

-- ---- numbers of four bytes, one after another

-- the numbers are spelled by the bytes from a place on
abbrev pub AreQuadsFrom : ℕ → List ℤ → List ℕ → Type 0
AreQuadsFrom i [] fields = Unit {0}
AreQuadsFrom i (z ∷ zs) fields = (quad z ≡ take 4 (drop i fields)) × AreQuadsFrom (i + 4) zs fields

four_more : (i : ℕ) (fields : List ℕ) → take 4 (drop i fields) ++ drop (i + 4) fields ≡ drop i fields
four_more i fields = ap (λ rest. take 4 (drop i fields) ++ rest) (sym (drop-drop 4 i fields)) ∙ take-append-drop 4 (drop i fields)

two_more : (i : ℕ) (fields : List ℕ) → take 2 (drop i fields) ++ drop (i + 2) fields ≡ drop i fields
two_more i fields = ap (λ rest. take 2 (drop i fields) ++ rest) (sym (drop-drop 2 i fields)) ∙ take-append-drop 2 (drop i fields)

pub joined : (i : ℕ) (zs : List ℤ) (fields : List ℕ) → AreQuadsFrom i zs fields → flat_map quad zs ++ drop (i + 4 * length zs) fields ≡ drop i fields
joined i [] fields h = ap (λ k. drop k fields) (omega arith)
joined i (z ∷ zs) fields h =
    let place : i + 4 * length (z ∷ zs) ≡ i + 4 + 4 * length zs = omega arith in
    append_assoc (quad z) (flat_map quad zs) (drop (i + 4 * length (z ∷ zs)) fields)
    ∙ ap (λ k. quad z ++ (flat_map quad zs ++ drop k fields)) place
    ∙ ap (λ rest. quad z ++ rest) (joined (i + 4) zs fields h.1)
    ∙ ap (λ prefix. prefix ++ drop (i + 4) fields) h.0
    ∙ four_more i fields

-- ---- commands whose fields are such numbers

-- a signed number as a field of the command keeps it
abbrev pub stored : ℤ → ℤ
stored z = to_z w32 (of_z w32 z)

stored_is : (z : ℤ) → IsSigned 4 z → stored z ≡ z
stored_is (pos m) h = omega (arith, ints)
stored_is (negsuc m) h = omega (arith, ints)

all_stored : (zs : List ℤ) → AllByRecursion (IsSigned 4) zs → map stored zs ≡ zs
all_stored [] h = refl
all_stored (z ∷ zs) h = ap (λ y. y ∷ map stored zs) (stored_is z h.0) ∙ ap (λ ys. z ∷ ys) (all_stored zs h.1)

pub nothing : (bytes : List ℕ) → length bytes ≡ 0 → bytes ≡ []
nothing [] h = refl
nothing (b ∷ bytes) h = absurd (omega (arith, h))

pub ends : (n : ℕ) (fields : List ℕ) → length fields ≡ n → drop n fields ≡ []
ends n fields h = nothing (drop n fields) (omega (arith, length-drop n fields, h))

-- fields that are quads alone
all_quads : (zs : List ℤ) (fields : List ℕ) → AreQuadsFrom 0 zs fields → length fields ≡ 4 * length zs → fields ≡ flat_map quad zs
all_quads zs fields h size =
    sym (joined 0 zs fields h) ∙ ap (λ rest. flat_map quad zs ++ rest) (ends (0 + 4 * length zs) fields (omega (arith, size))) ∙ append-nil (flat_map quad zs)

-- a rule, by its opcode
pub rule : (code op : ℕ) (fields text : List ℕ) (a b : ℤ) → op ≡ code → fixed_size code ≡ 8 → code < 239 → length fields ≡ fixed_size op → length text ≡ text_size op fields
    → AllByRecursion (IsSigned 4) (a ∷ b ∷ []) → AreQuadsFrom 0 (a ∷ b ∷ []) fields
    → (n : ℕ) × ((n ≡ 0) × IsSigned 4 (stored a) × IsSigned 4 (stored b)) × (op ∷ (fields ++ text) ≡ (code ∷ quad (stored a)) ++ quad (stored b))
rule code op fields text a b same size low whole after fits quads =
    let none : text ≡ [] = no_text op fields text (omega (arith, same, low)) after in
    let bytes : fields ≡ quad a ++ quad b = all_quads (a ∷ b ∷ []) fields quads (whole ∙ ap fixed_size same ∙ size) in
    let both : map stored (a ∷ b ∷ []) ≡ a ∷ b ∷ [] = all_stored (a ∷ b ∷ []) fits in (
      0,
      (refl, subst (IsSigned 4) (sym (stored_is a fits.0)) fits.0, subst (IsSigned 4) (sym (stored_is b fits.1.0)) fits.1.0),
      ap (λ o. o ∷ (fields ++ text)) same ∙ ap (λ t. code ∷ (fields ++ t)) none ∙ ap (λ t. code ∷ t) (append-nil fields ∙ bytes) ∙ ap (λ zs. code ∷ flat_map quad zs) (sym both),
    )

-- the beginning of a page
bop : (counts : List ℤ) (back : ℤ) (fields : List ℕ) → length fields ≡ 44 → length counts ≡ 10 → AllByRecursion (IsSigned 4) counts → IsSigned 4 back
    → AreQuadsFrom 0 counts fields → quad back ≡ take 4 (drop 40 fields) → Spells (Bop counts back) (139 ∷ fields)
bop counts back fields whole ten fits back_fits quads back_quad =
    let prefix : flat_map quad counts ++ drop (0 + 4 * length counts) fields ≡ fields = joined 0 counts fields quads in
    let place : 0 + 4 * length counts ≡ 40 = omega (arith, ten) in
    let last : drop 40 fields ≡ quad back = sym (four_more 40 fields) ∙ ap (λ rest. take 4 (drop 40 fields) ++ rest) (ends 44 fields whole) ∙ append-nil (take 4 (drop 40 fields)) ∙ sym back_quad in
    (0, (refl, ten, fits, back_fits), ap (λ t. 139 ∷ t) (sym prefix ∙ ap (λ k. flat_map quad counts ++ drop k fields) place ∙ ap (λ rest. flat_map quad counts ++ rest) last))

pub bop_stored : (counts : List ℤ) (back : ℤ) (fields : List ℕ) → length fields ≡ 44 → length counts ≡ 10 → AllByRecursion (IsSigned 4) counts → IsSigned 4 back
    → AreQuadsFrom 0 counts fields → quad back ≡ take 4 (drop 40 fields) → Spells (Bop (map stored counts) (stored back)) (139 ∷ fields)
bop_stored counts back fields whole ten fits back_fits quads back_quad =
    subst (λ zs. Spells (Bop zs (stored back)) (139 ∷ fields)) (sym (all_stored counts fits))
    (subst (λ z. Spells (Bop counts z) (139 ∷ fields)) (sym (stored_is back back_fits)) (bop counts back fields whole ten fits back_fits quads back_quad))

-- the preamble
pre : (id : ℕ) (num den mag : ℤ) (fields text : List ℕ) → length fields ≡ 14 → length text ≡ slice_index fields 13 → slice_index fields 13 < 256 → id < 256 → id ≡ slice_index fields 0
    → AllByRecursion (IsSigned 4) (num ∷ den ∷ mag ∷ []) → AreQuadsFrom 1 (num ∷ den ∷ mag ∷ []) fields
    → Spells (Pre (record { id = id; num = num; den = den; mag = mag; text = text })) (247 ∷ (fields ++ text))
pre id num den mag fields text whole size byte id_byte first fits quads =
    let numbers = flat_map quad (num ∷ den ∷ mag ∷ []) in
    let e1 : fields ≡ slice_index fields 0 ∷ drop 1 fields = drop-cons fields 0 0 (omega (arith, whole)) in
    let e2 : drop 1 fields ≡ numbers ++ drop 13 fields = sym (joined 1 (num ∷ den ∷ mag ∷ []) fields quads) in
    let e3 : drop 13 fields ≡ slice_index fields 13 ∷ drop 14 fields = drop-cons fields 13 0 (omega (arith, whole)) in
    let e4 : drop 14 fields ≡ [] = ends 14 fields whole in (
      0,
      (refl, id_byte, fits.0, fits.1.0, fits.1.1.0, omega (arith, size, byte)),
      ap (λ x. 247 ∷ (x ++ text)) e1
          ∙ ap (λ x. 247 ∷ slice_index fields 0 ∷ (x ++ text)) e2
          ∙ ap (λ x. 247 ∷ slice_index fields 0 ∷ ((numbers ++ x) ++ text)) e3
          ∙ ap (λ x. 247 ∷ slice_index fields 0 ∷ ((numbers ++ slice_index fields 13 ∷ x) ++ text)) e4
          ∙ ap (λ k. 247 ∷ slice_index fields 0 ∷ ((numbers ++ k ∷ []) ++ text)) (sym size)
          ∙ ap (λ k. 247 ∷ k ∷ ((numbers ++ length text ∷ []) ++ text)) (sym first),
    )

pub pre_stored : (id : ℕ) (num den mag : ℤ) (fields text : List ℕ) → length fields ≡ 14 → length text ≡ slice_index fields 13 → slice_index fields 13 < 256 → id < 256 → id ≡ slice_index fields 0
    → AllByRecursion (IsSigned 4) (num ∷ den ∷ mag ∷ []) → AreQuadsFrom 1 (num ∷ den ∷ mag ∷ []) fields
    → Spells (Pre (record { id = id; num = stored num; den = stored den; mag = stored mag; text = text })) (247 ∷ (fields ++ text))
pre_stored id num den mag fields text whole size byte id_byte first fits quads =
    subst (λ z. Spells (Pre (record { id = id; num = z; den = stored den; mag = stored mag; text = text })) (247 ∷ (fields ++ text))) (sym (stored_is num fits.0))
    (subst (λ z. Spells (Pre (record { id = id; num = num; den = z; mag = stored mag; text = text })) (247 ∷ (fields ++ text))) (sym (stored_is den fits.1.0))
    (subst (λ z. Spells (Pre (record { id = id; num = num; den = den; mag = z; text = text })) (247 ∷ (fields ++ text))) (sym (stored_is mag fits.1.1.0))
    (pre id num den mag fields text whole size byte id_byte first fits quads)))

-- the start of the postamble
abbrev post_numbers : ℤ → ℤ → ℤ → ℤ → ℤ → ℤ → List ℤ
post_numbers back num den mag tallest widest = back ∷ num ∷ den ∷ mag ∷ tallest ∷ widest ∷ []

pair_bytes : (i : ℕ) (fields : List ℕ) (m : ℕ) → i + 2 ≤ length fields → number_bytes (length (take 2 (drop i fields))) (pos m) ≡ take 2 (drop i fields) → number_bytes 2 (pos m) ≡ take 2 (drop i fields)
pair_bytes i fields m room h =
    let size : length (take 2 (drop i fields)) ≡ 2 = grind (arith, length-take, length-drop) in
    subst (λ n. number_bytes n (pos m) ≡ take 2 (drop i fields)) size h

pair_fits : (i : ℕ) (fields : List ℕ) (m : ℕ) → i + 2 ≤ length fields → m < 256 ^ length (take 2 (drop i fields)) → m < 2 ^ 16
pair_fits i fields m room h =
    let size : length (take 2 (drop i fields)) ≡ 2 = grind (arith, length-take, length-drop) in
    let small : m < 256 ^ 2 = subst (λ n. m < 256 ^ n) size h in
    omega (arith, small)

post : (back num den mag tallest widest : ℤ) (deepest pages : ℕ) (fields : List ℕ) → length fields ≡ 28 → AllByRecursion (IsSigned 4) (post_numbers back num den mag tallest widest)
    → AreQuadsFrom 0 (post_numbers back num den mag tallest widest) fields → deepest < 2 ^ 16 → pages < 2 ^ 16
    → number_bytes (length (take 2 (drop 24 fields))) (pos deepest) ≡ take 2 (drop 24 fields) → number_bytes (length (take 2 (drop 26 fields))) (pos pages) ≡ take 2 (drop 26 fields)
    → Spells (Post (record { back = back; num = num; den = den; mag = mag; tallest = tallest; widest = widest; deepest = deepest; pages = pages })) (248 ∷ fields)
post back num den mag tallest widest deepest pages fields whole fits quads small few deepest_bytes pages_bytes =
    let numbers = flat_map quad (post_numbers back num den mag tallest widest) in
    let e1 : fields ≡ numbers ++ drop 24 fields = sym (joined 0 (post_numbers back num den mag tallest widest) fields quads) in
    let first : take 2 (drop 24 fields) ≡ number_bytes 2 (pos deepest) = sym (pair_bytes 24 fields deepest (omega (arith, whole)) deepest_bytes) in
    let second : take 2 (drop 26 fields) ≡ number_bytes 2 (pos pages) = sym (pair_bytes 26 fields pages (omega (arith, whole)) pages_bytes) in
    let e2 : drop 24 fields ≡ take 2 (drop 24 fields) ++ drop 26 fields = sym (two_more 24 fields) in
    let e3 : drop 26 fields ≡ take 2 (drop 26 fields) ++ drop 28 fields = sym (two_more 26 fields) in (
      0,
      (refl, fits, small, few),
      ap (λ x. 248 ∷ x) e1
          ∙ ap (λ x. 248 ∷ (numbers ++ x)) e2
          ∙ ap (λ x. 248 ∷ (numbers ++ (take 2 (drop 24 fields) ++ x))) (e3 ∙ ap (λ x. take 2 (drop 26 fields) ++ x) (ends 28 fields whole))
          ∙ ap (λ x. 248 ∷ (numbers ++ (x ++ (take 2 (drop 26 fields) ++ [])))) first
          ∙ ap (λ x. 248 ∷ (numbers ++ (number_bytes 2 (pos deepest) ++ (x ++ [])))) second,
    )

pub post_stored : (back num den mag tallest widest : ℤ) (deepest pages : ℕ) (fields : List ℕ) → length fields ≡ 28 → AllByRecursion (IsSigned 4) (post_numbers back num den mag tallest widest)
    → AreQuadsFrom 0 (post_numbers back num den mag tallest widest) fields → deepest < 256 ^ length (take 2 (drop 24 fields)) → pages < 256 ^ length (take 2 (drop 26 fields))
    → number_bytes (length (take 2 (drop 24 fields))) (pos deepest) ≡ take 2 (drop 24 fields) → number_bytes (length (take 2 (drop 26 fields))) (pos pages) ≡ take 2 (drop 26 fields)
    → Spells (Post (record { back = stored back; num = stored num; den = stored den; mag = stored mag; tallest = stored tallest; widest = stored widest; deepest = deepest; pages = pages })) (248 ∷ fields)
post_stored back num den mag tallest widest deepest pages fields whole fits quads small few deepest_bytes pages_bytes =
    rw (stored_is back fits.0, stored_is num fits.1.0, stored_is den fits.1.1.0, stored_is mag fits.1.1.1.0, stored_is tallest fits.1.1.1.1.0, stored_is widest fits.1.1.1.1.1.0)
    (post back num den mag tallest widest deepest pages fields whole fits quads (pair_fits 24 fields deepest (omega (arith, whole)) small) (pair_fits 26 fields pages (omega (arith, whole)) few) deepest_bytes pages_bytes)

-- the end of the postamble
post_post : (q : ℤ) (op id : ℕ) (fields text : List ℕ) → op ≡ 249 → length fields ≡ 5 → text ≡ [] → id < 256 → id ≡ slice_index fields 4
    → AllByRecursion (IsSigned 4) (q ∷ []) → AreQuadsFrom 0 (q ∷ []) fields → Spells (PostPost q id) (op ∷ (fields ++ text))
post_post q op id fields text opcode whole none byte last fits quads =
    let e1 : fields ≡ quad q ++ drop 4 fields = sym (joined 0 (q ∷ []) fields quads) in
    let e2 : drop 4 fields ≡ slice_index fields 4 ∷ drop 5 fields = drop-cons fields 4 0 (omega (arith, whole)) in
    let e3 : drop 5 fields ≡ [] = ends 5 fields whole in (
      0,
      (refl, fits.0, byte),
      ap (λ o. o ∷ (fields ++ text)) opcode
          ∙ ap (λ t. 249 ∷ (fields ++ t)) none
          ∙ ap (λ x. 249 ∷ x) (append-nil fields)
          ∙ ap (λ x. 249 ∷ x) e1
          ∙ ap (λ x. 249 ∷ (quad q ++ x)) e2
          ∙ ap (λ x. 249 ∷ (quad q ++ slice_index fields 4 ∷ x)) e3
          ∙ ap (λ k. 249 ∷ (quad q ++ k ∷ [])) (sym last),
    )

pub post_post_stored : (q : ℤ) (op id : ℕ) (fields text : List ℕ) → op ≡ 249 → length fields ≡ fixed_size op → length text ≡ text_size op fields → id < 256 → id ≡ slice_index fields 4
    → AllByRecursion (IsSigned 4) (q ∷ []) → AreQuadsFrom 0 (q ∷ []) fields → Spells (PostPost (stored q) id) (op ∷ (fields ++ text))
post_post_stored q op id fields text opcode whole after byte last fits quads =
    let size : length fields ≡ 5 = whole ∙ ap fixed_size opcode in
    let none : text ≡ [] = nothing text (after ∙ ap (λ o. text_size o fields) opcode) in
    subst (λ z. Spells (PostPost z id) (op ∷ (fields ++ text))) (sym (stored_is q fits.0)) (post_post q op id fields text opcode size none byte last fits quads)
