-- The test of two integers for equality, and their order.
use Rattle.std.proofs.Common.{◌≡◌, ℕ, ℤ, pos, negsuc, Bool, true, false, refl, ap, arith, eqb-true, Ordering}
use Rattle.std.specs.declared.cmp.Ordering.TheVariants.{Less, Equal, Greater}
use Rattle.std.specs.Prelude.{◌==◌}
use Rattle.std.specs.Ordering.{is_eq, ordering_reverse}
use Rattle.big_endian.specs.Numbers.{int_eq}

pub int_eq_same : (a b : ℤ) → int_eq a b ≡ true → a ≡ b
int_eq_same (pos m) (pos n) h = ap pos (eqb-true m n h)
int_eq_same (negsuc m) (negsuc n) h = ap negsuc (eqb-true m n h)
int_eq_same (pos m) (negsuc n) h = cc
int_eq_same (negsuc m) (pos n) h = cc

nat_same : (m : ℕ) → (m == m) ≡ true
nat_same m = grind arith

pub int_eq_refl : (a : ℤ) → int_eq a a ≡ true
int_eq_refl (pos m) = nat_same m
int_eq_refl (negsuc m) = nat_same m

pub equal_is : (o : Ordering) → is_eq o ≡ true → o ≡ Equal
equal_is Less h = cc
equal_is Equal h = refl
equal_is Greater h = cc

-- what is its own reverse is a tie
pub own_tie : (o : Ordering) → o ≡ ordering_reverse o → is_eq o ≡ true
own_tie Less h = cc
own_tie Equal h = refl
own_tie Greater h = cc
