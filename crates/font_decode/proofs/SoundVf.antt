-- What holds of the packets and the local fonts of the items of a sound VF file.
use Rattle.std.proofs.Common.{◌≡◌, ◌∙◌, ℕ, zero, suc, ◌+◌, ◌-◌, ◌*◌, ◌^◌, ◌<◌, ◌≤◌, ℤ, pos, negsuc, Bool, true, false, not, ◌&&◌, List, [], ◌∷◌, length, take, drop, Option, Some, None, refl, sym, ap, subst, arith}
use Rattle.std.specs.Prelude.{All, IfSome, IsSome, ◌==◌, if◌then◌else◌, int_lt, nat_le, nat_lt, unsigned_abs, slice_index, slice_get}
use Rattle.std.specs.Option.{option_map}
use Rattle.std.proofs.lemmas.Bool.{and_parts}
use Rattle.std.proofs.lemmas.Int.{ints}
use Rattle.std.proofs.lemmas.Bool.Decides.{nat_tests}
use Rattle.std.proofs.lemmas.Grind.{get_or_after_one}
use Rattle.std.proofs.lemmas.List.{length-drop, length-take}
use Rattle.std.proofs.lemmas.List.Elements.{All-head, All-nil, All-push, All-tail}
use Rattle.big_endian.specs.Numbers.{int_eq, signed_of, unsigned_of}
use Rattle.dvi_commands.specs.Spelling.{Definition}
use Rattle.outside.specs.declared.keys.FontKey.{FontKey}
use Rattle.outside.specs.FontKeys.{IsFontKey}
use Rattle.pixel_round.specs.declared.units.Units.{Units}
use Rattle.vf_reader.specs.Items.{IsItem, code_of, definition_of, is_packet, item_size, opcode, program_of}
use Rattle.vf_reader.specs.Locals.{agrees_with, definition_fault, is_factor, local_of, local_with, locals_of, with_local}
use Rattle.vf_reader.specs.Fonts.{AreSound, HasPacketsOf, IsItemSound, Virtual, program_with}
use Rattle.vf_reader.specs.declared.locals.LocalDef.{LocalDef}
use Rattle.vf_reader.specs.declared.faults.VfFault.TheVariants as fault
use Rattle.outside.specs.Limits.{SIZES}
use Rattle.fix_word.specs.FixWords.{FIX_WORDS}
use Rattle.font_decode.specs.Fonts.{AreShapes, IsProgram, key_with}
use Rattle.font_decode.specs.declared.shapes.Shapes.TheVariants as shape
use Rattle.font_decode.specs.Locals.{are_local_sizes, is_local_size, is_size, local_design, local_key, local_size}
use Rattle.font_decode.specs.Reading.{IsLocalDef}

-- ---- packets

pub sound_programs : (items : List (List ℕ)) → AreSound items → (c : ℕ) → IfSome (program_with items c) (IsProgram c)
sound_programs [] sound c = tt
sound_programs (item ∷ before) sound c = by (is_packet item) (code_of item == c) refl refl (sound_programs before sound.0 c)
  where
    by : (packet own : Bool) → is_packet item ≡ packet → (code_of item == c) ≡ own → IfSome (program_with before c) (IsProgram c)
        → IfSome (if packet && own then Some (program_of item) else program_with before c) (IsProgram c)
    by true true packet own older = let same : code_of item ≡ c = grind arith in subst (λ n. IsProgram n (program_of item)) same (sound.2.packet packet)
    by true false packet own older = older
    by false own packet is older = older

-- ---- local fonts

-- a definition without a fault
right_sizes : (known : Option LocalDef) (d : Definition) → definition_fault known d ≡ None → (is_factor d.size && int_lt (pos 0) d.design) ≡ true
right_sizes known d h = by (is_factor d.size && int_lt (pos 0) d.design) (agrees_with known (local_of d)) h
  where
    by : (sizes agrees : Bool) → (if not sizes then Some (fault.LocalDef d.number) else if not agrees then Some (fault.LocalDef d.number) else None) ≡ None → sizes ≡ true
    by true agrees h = refl
    by false agrees h = cc

factor_fits : (z : ℤ) → is_factor z ≡ true → (1 ≤ unsigned_abs z) × (unsigned_abs z < FIX_WORDS)
factor_fits z h = (grind (arith, ints), grind (arith, ints))

power_fits : (n : ℕ) → n ≤ 4 → 256 ^ n ≤ 2 ^ 32
power_fits zero h = omega arith
power_fits (suc zero) h = omega arith
power_fits (suc (suc zero)) h = omega arith
power_fits (suc (suc (suc zero))) h = omega arith
power_fits (suc (suc (suc (suc zero)))) h = omega arith
power_fits (suc (suc (suc (suc (suc n))))) h = absurd (omega arith)

-- four bytes spell a signed number below 2 ^ 31
positive_fits : (b : Bool) (n m k : ℕ) → n ≤ 4 → nat_lt (2 * m) (256 ^ n) ≡ b → int_lt (pos 0) (if b then pos m else negsuc k) ≡ true
    → (1 ≤ unsigned_abs (if b then pos m else negsuc k)) × (unsigned_abs (if b then pos m else negsuc k) < 2 ^ 31)
positive_fits true n m k few lt h =
    let below : 2 * m < 256 ^ n = grind (arith, nat_tests) in
    (grind (arith, ints), omega (arith, below, power_fits n few))
positive_fits false n m k few lt h = cc

spelled_fits : (bytes : List ℕ) → length bytes ≤ 4 → int_lt (pos 0) (signed_of bytes) ≡ true → (1 ≤ unsigned_abs (signed_of bytes)) × (unsigned_abs (signed_of bytes) < 2 ^ 31)
spelled_fits bytes few h = positive_fits (nat_lt (2 * unsigned_of bytes) (256 ^ length bytes)) (length bytes) (unsigned_of bytes) (256 ^ length bytes - 1 - unsigned_of bytes) few refl h

four_at_most : (bytes : List ℕ) → length (take 4 bytes) ≤ 4
four_at_most bytes = omega (arith, length-take 4 bytes)

design_fits : (item : List ℕ) → int_lt (pos 0) (definition_of item).design ≡ true → (1 ≤ (local_of (definition_of item)).points) × ((local_of (definition_of item)).points < 2 ^ 31)
design_fits item h = spelled_fits (take 4 (drop (opcode item - 242 + 8) (drop 1 item))) (four_at_most (drop (opcode item - 242 + 8) (drop 1 item))) h

-- the size of a whole definition
definition_size : (item : List ℕ) → is_packet item ≡ false
    → item_size item ≡ opcode item - 242 + 15 + (slice_index item (opcode item - 242 + 13) + slice_index item (opcode item - 242 + 14))
definition_size item kind =
    let high : nat_le (opcode item) 241 ≡ false = grind (arith, nat_tests) in
    rw (kind, high) refl

area_fits : (item : List ℕ) → IsItem item → is_packet item ≡ false → (definition_of item).area ≤ length (definition_of item).name
area_fits item is kind =
    let n = opcode item - 242 in
    let area : slice_index (drop 1 item) (n + 12) ≡ slice_index item (1 + (n + 12)) = get_or_after_one item (n + 12) 0 in
    let same : slice_index item (1 + (n + 12)) ≡ slice_index item (n + 13) = ap (slice_index item) (omega arith) in
    let fields : length (drop 1 item) ≡ length item - 1 = length-drop 1 item in
    let name : length (drop (n + 14) (drop 1 item)) ≡ length (drop 1 item) - (n + 14) = length-drop (n + 14) (drop 1 item) in
    omega (arith, area, same, fields, name, is.whole, definition_size item kind)

local_is : (before : List (List ℕ)) (item : List ℕ) → IsItem item → IsItemSound before item → is_packet item ≡ false → IsLocalDef (local_of (definition_of item))
local_is before item is sound kind =
    let d = definition_of item in
    let sizes = and_parts (is_factor d.size) (int_lt (pos 0) d.design) (right_sizes (local_with (locals_of before) d.number) d (sound.local kind)) in
    record { factor = factor_fits d.size sizes.0; points = design_fits item sizes.1; area = area_fits item is kind }

pub sound_locals : (items : List (List ℕ)) → AreSound items → All IsLocalDef (locals_of items)
sound_locals [] sound = All-nil IsLocalDef
sound_locals (item ∷ before) sound = by (is_packet item) refl (local_with (locals_of before) (definition_of item).number) (sound_locals before sound.0)
  where
    by : (packet : Bool) → is_packet item ≡ packet → (known : Option LocalDef) → All IsLocalDef (locals_of before)
        → All IsLocalDef (if packet then locals_of before else with_local (locals_of before) (local_of (definition_of item)) known)
    by true kind known older = older
    by false kind None older = All-push IsLocalDef (locals_of before) (local_of (definition_of item)) older (local_is before item sound.1 sound.2 kind)
    by false kind (Some known) older = older

-- ---- their keys

abbrev HaveKeys : (u : Units) (size : ℕ) → List LocalDef → List (ℤ × FontKey) → Type 0
HaveKeys u size locals keys = (n : ℤ) → key_with keys n ≡ option_map (local_key u size) (local_with locals n)

module _ (u : Units) (size : ℕ) where
  key_fits : (d : LocalDef) → IsLocalDef d → is_local_size u size d ≡ true → IsFontKey (local_key u size d)
  key_fits d is right =
      let sizes = and_parts (is_size (local_size size d)) (is_size (pos (local_design u d))) right in
      record { size = size_fits (local_size size d) sizes.0; design = size_fits (pos (local_design u d)) sizes.1; area = is.area }
    where
      size_fits : (z : ℤ) → is_size z ≡ true → (1 ≤ unsigned_abs z) × (unsigned_abs z < SIZES)
      size_fits z h = (grind (arith, ints), grind (arith, ints))

  keys_fit : (locals : List LocalDef) (n : ℤ) → All IsLocalDef locals → are_local_sizes u size locals ≡ true → IfSome (option_map (local_key u size) (local_with locals n)) IsFontKey
  keys_fit [] n are right = tt
  keys_fit (d ∷ locals) n are right =
      let rights = and_parts (is_local_size u size d) (are_local_sizes u size locals) right in
      by (int_eq d.number n) (key_fits d (All-head IsLocalDef d locals are) rights.0) (keys_fit locals n (All-tail IsLocalDef d locals are) rights.1)
    where
      by : (b : Bool) → IsFontKey (local_key u size d) → IfSome (option_map (local_key u size) (local_with locals n)) IsFontKey
          → IfSome (option_map (local_key u size) (if b then Some d else local_with locals n)) IsFontKey
      by true here older = here
      by false here older = older

  first_has_key : (locals : List LocalDef) (keys : List (ℤ × FontKey)) → HaveKeys u size locals keys → IfSome (option_map (λ d. d.number) (slice_get locals 0)) (λ n. IsSome (key_with keys n))
  first_has_key [] keys h = tt
  first_has_key (d ∷ locals) keys h = subst IsSome (sym (h d.number ∙ ap (λ b. option_map (local_key u size) (if b then Some d else local_with locals d.number)) (own d.number))) refl
    where
      nat_own : (m : ℕ) → (m == m) ≡ true
      nat_own m = grind arith

      own : (z : ℤ) → int_eq z z ≡ true
      own (pos m) = nat_own m
      own (negsuc m) = nat_own m

  -- what holds of a virtual font
  pub are_shapes : (items : List (List ℕ)) (file : Virtual) (keys : List (ℤ × FontKey)) → AreSound items → HasPacketsOf items file → are_local_sizes u size file.locals ≡ true
      → HaveKeys u size file.locals keys → AreShapes (shape.Virtual file keys)
  are_shapes items file keys sound font right have = record {
    packets = λ c. subst (λ o. IfSome o (IsProgram c)) (sym (font.packets c)) (sound_programs items sound c);
    locals = λ n. subst (λ o. IfSome o IsFontKey) (sym (have n)) (keys_fit file.locals n (subst (All IsLocalDef) (sym font.locals) (sound_locals items sound)) right);
    first = first_has_key file.locals keys have;
  }
