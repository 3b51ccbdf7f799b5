-- The fields of a definition.
use Rattle.std.proofs.Common.{◌≡◌, ◌<◌, ◌≤◌, ◌^◌, ℕ, zero, suc, ℤ, pos, negsuc, List, refl, sym, subst, arith, to_z, of_z, w32, FitsSigned}
use Rattle.std.proofs.lemmas.Int.{ints}
use Rattle.big_endian.specs.Numbers.{IsSigned}
use Rattle.dvi_commands.specs.Spelling.{Definition}

abbrev with_fields : ℤ → ℕ → ℤ → ℤ → ℕ → List ℕ → Definition
with_fields number check size design area name = record { number = number; check = check; size = size; design = design; area = area; name = name }

-- definitions with the same fields are one
pub definition_is : (a b : Definition) → a.number ≡ b.number → a.check ≡ b.check → a.size ≡ b.size → a.design ≡ b.design → a.area ≡ b.area → a.name ≡ b.name → a ≡ b
definition_is a b number check size design area name =
    let whole : with_fields a.number a.check a.size a.design a.area a.name ≡ with_fields b.number b.check b.size b.design b.area b.name = rw (number, check, size, design, area, name) refl in
    whole

-- the number of a font in up to three bytes is small
pub three_bytes : (n m : ℕ) → n ≤ 3 → m < 256 ^ n → m < 16777216
three_bytes zero m h lt = omega arith
three_bytes (suc zero) m h lt = omega arith
three_bytes (suc (suc zero)) m h lt = omega arith
three_bytes (suc (suc (suc zero))) m h lt = lt
three_bytes (suc (suc (suc (suc n)))) m h lt = absurd (omega arith)

-- ---- a number of 32 bits, stored

pub stored_is : (z : ℤ) → IsSigned 4 z → to_z w32 (of_z w32 z) ≡ z
stored_is (pos m) h = omega (arith, ints)
stored_is (negsuc m) h = omega (arith, ints)

four_bytes : (z : ℤ) → FitsSigned w32 z → IsSigned 4 z
four_bytes (pos m) h = omega (arith, ints, h)
four_bytes (negsuc m) h = omega (arith, ints, h)

pub stored_fits : (z : ℤ) → FitsSigned w32 z → to_z w32 (of_z w32 z) ≡ z → IsSigned 4 (to_z w32 (of_z w32 z))
stored_fits z h e = subst (IsSigned 4) (sym e) (four_bytes z h)
