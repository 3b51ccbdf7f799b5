-- Two keys that pass the test are one key.
use Rattle.std.proofs.Common.{◌≡◌, ℕ, Bool, true, false, List, refl, sym, nat_eq}
use Rattle.std.proofs.lemmas.Bool.{eqb-true, eq-eqb, and_parts}
use Rattle.std.specs.Prelude.{◌==◌, ◌&&◌}
use Rattle.std.specs.Cmp.Lexicographic.{pointwise, same_text}
use Rattle.std.proofs.lemmas.Cmp.{nat_list_eq_equiv}
use Rattle.outside.specs.declared.keys.FontKey.{FontKey}
use Rattle.outside.specs.contracts.keys.FontKeyPartialEq.TheImpl as of_keys
use Rattle.cache_core.specs.Machine.{key_eq}

-- the code's test is this one
pub code_test : (a b : FontKey) → (of_keys.ghosts).eq a b ≡ key_eq a b
code_test a b = refl

abbrev made : ℕ → List ℕ → ℕ → ℕ → FontKey
made area name size design = record { area = area; name = name; size = size; design = design }

pub keys_are_equal : (a b : FontKey) → key_eq a b ≡ true → a ≡ b
keys_are_equal a b e =
    let one = and_parts (a.area == b.area) (pointwise nat_eq a.name b.name && (a.size == b.size && a.design == b.design)) e in
    let two = and_parts (pointwise nat_eq a.name b.name) (a.size == b.size && a.design == b.design) one.1 in
    let three = and_parts (a.size == b.size) (a.design == b.design) two.1 in
    let area : a.area ≡ b.area = eqb-true _ _ one.0 in
    let name : a.name ≡ b.name = same_text a.name b.name (sym two.0) in
    let size : a.size ≡ b.size = eqb-true _ _ three.0 in
    let design : a.design ≡ b.design = eqb-true _ _ three.1 in
    let whole : made a.area a.name a.size a.design ≡ made b.area b.name b.size b.design = rw (area, name, size, design) refl in
    whole

-- the numbers may be compared before the names
pub numbers_first : (area name size design : Bool) → ((size && design) && area) && name ≡ area && (name && (size && design))
numbers_first true true true true = refl
numbers_first true true true false = refl
numbers_first true true false true = refl
numbers_first true true false false = refl
numbers_first true false true true = refl
numbers_first true false true false = refl
numbers_first true false false true = refl
numbers_first true false false false = refl
numbers_first false true true true = refl
numbers_first false true true false = refl
numbers_first false true false true = refl
numbers_first false true false false = refl
numbers_first false false true true = refl
numbers_first false false true false = refl
numbers_first false false false true = refl
numbers_first false false false false = refl

same_name : (xs : List ℕ) → pointwise nat_eq xs xs ≡ true
same_name xs = nat_list_eq_equiv.refl xs

pub key_is_itself : (a : FontKey) → key_eq a a ≡ true
key_is_itself a = rw (eq-eqb a.area a.area refl, same_name a.name, eq-eqb a.size a.size refl, eq-eqb a.design a.design refl) refl
