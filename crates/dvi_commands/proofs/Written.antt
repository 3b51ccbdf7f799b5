-- What the writer appends: the parts of a spelling, one after another.
use Rattle.std.proofs.Common.{◌≡◌, ℕ, zero, suc, ◌+◌, ◌-◌, ◌≤◌, ℤ, pos, negsuc, List, [], ◌∷◌, ◌++◌, length, take, drop, map, get_or, refl, sym, ap, subst, ◌∙◌, arith, inl, inr, drop-cons, length-drop, append_assoc, append-nil}
use Rattle.std.specs.List.{flat_map, AllByRecursion}
use Rattle.big_endian.specs.Numbers.{number_bytes, IsSigned}
use Rattle.dvi_commands.specs.Spelling.{IsOperand, quad}
use Rattle.dvi_commands.proofs.OneCommand.{after_place}
use Rattle.dvi_commands.proofs.Texts.{regroup}

-- ---- numbers of four bytes

-- n elements of a list from a place on
abbrev pub elements : ℕ → ℕ → List ℤ → List ℤ
elements zero i zs = []
elements (suc n) i zs = get_or zs i (pos 0) ∷ elements n (i + 1) zs

from_place : (n i : ℕ) (zs : List ℤ) → i + n ≡ length zs → drop i zs ≡ elements n i zs
from_place zero i zs h = let none : length (drop i zs) ≡ 0 = omega (arith, length-drop i zs, h) in empty (drop i zs) none
  where
    empty : (zs : List ℤ) → length zs ≡ 0 → zs ≡ []
    empty [] e = refl
    empty (z ∷ zs) e = absurd (omega (arith, e))
from_place (suc n) i zs h =
    let some : suc i ≤ length zs = omega (arith, h) in
    let place : suc i ≡ i + 1 = omega arith in
    let rest : i + 1 + n ≡ length zs = omega (arith, h) in
    drop-cons zs i (pos 0) some ∙ ap (λ k. get_or zs i (pos 0) ∷ drop k zs) place ∙ ap (λ t. get_or zs i (pos 0) ∷ t) (from_place n (i + 1) zs rest)

-- a list is its elements
pub are_elements : (n : ℕ) (zs : List ℤ) → length zs ≡ n → zs ≡ elements n 0 zs
are_elements n zs h = from_place n 0 zs (omega (arith, h))

-- equal lists by their parts
pub cons_is : {X : Type 0} {x y : X} {xs ys : List X} → x ≡ y → xs ≡ ys → x ∷ xs ≡ y ∷ ys
cons_is {x = x} {y = y} {xs = xs} {ys = ys} e es = ap (λ z. z ∷ xs) e ∙ ap (λ zs. y ∷ zs) es

-- texts with another after them
abbrev pub chain : List (List ℕ) → List ℕ → List ℕ
chain [] rest = rest
chain (text ∷ texts) rest = text ++ chain texts rest

chain_quads : (zs : List ℤ) (rest : List ℕ) → chain (map quad zs) rest ≡ flat_map quad zs ++ rest
chain_quads [] rest = refl
chain_quads (z ∷ zs) rest = ap (λ t. quad z ++ t) (chain_quads zs rest)

-- the bytes of all elements, with a text after them
pub quads_written : (n : ℕ) (zs : List ℤ) (texts : List (List ℕ)) (rest : List ℕ) → length zs ≡ n → texts ≡ map quad (elements n 0 zs) → chain texts rest ≡ flat_map quad zs ++ rest
quads_written n zs texts rest h e = ap (λ (t : List (List ℕ)). chain t rest) (e ∙ ap (map quad) (sym (are_elements n zs h))) ∙ chain_quads zs rest

pub elements_fit : (n : ℕ) (zs : List ℤ) → length zs ≡ n → AllByRecursion (IsSigned 4) (elements n 0 zs) → AllByRecursion (IsSigned 4) zs
elements_fit n zs h fits = subst (AllByRecursion (IsSigned 4)) (sym (are_elements n zs h)) fits

-- ---- numbers in fewer bytes

-- the last bytes of four spell the number where it needs no more
last_of_four : (n : ℕ) (z : ℤ) → IsOperand n z → drop (4 - n) (quad z) ≡ number_bytes n z
last_of_four n z (inr h) = subst (λ k. drop (4 - k) (quad z) ≡ number_bytes k z) (sym h.0) refl
last_of_four zero z (inl h) = absurd (omega (arith, h.0))
last_of_four (suc zero) (pos m) (inl h) = refl
last_of_four (suc (suc zero)) (pos m) (inl h) = refl
last_of_four (suc (suc (suc zero))) (pos m) (inl h) = refl
last_of_four (suc (suc (suc (suc n)))) z (inl h) = absurd (omega (arith, h.1))
last_of_four (suc n) (negsuc m) (inl h) = elim h.2 [ ]

-- as the code takes them
pub number_written : (n : ℕ) (z : ℤ) (four : List ℕ) → IsOperand n z → four ≡ quad z → take (4 - (4 - n)) (drop (4 - n) four) ≡ number_bytes n z
number_written n z four h e = ap (λ (x : List ℕ). take (4 - (4 - n)) (drop (4 - n) x)) e ∙ after_place (quad z) (4 - n) ∙ last_of_four n z h

pub pairs_written : (prefix bytes1 bytes2 : List ℕ) (m k : ℕ) → bytes1 ≡ number_bytes 2 (pos m) → bytes2 ≡ number_bytes 2 (pos k)
    → prefix ++ (bytes1 ++ (bytes2 ++ [])) ≡ (prefix ++ number_bytes 2 (pos m)) ++ number_bytes 2 (pos k)
pairs_written prefix bytes1 bytes2 m k e1 e2 =
    ap (λ x. prefix ++ (x ++ (bytes2 ++ []))) e1
    ∙ ap (λ x. prefix ++ (number_bytes 2 (pos m) ++ (x ++ []))) e2
    ∙ sym (append_assoc prefix (number_bytes 2 (pos m)) (number_bytes 2 (pos k)))

-- ---- the definition of a font

pub definition_written : (n : ℕ) (z size design : ℤ) (check area rest : ℕ) (name bytes1 bytes2 bytes3 bytes4 : List ℕ)
    → bytes1 ≡ number_bytes n z → bytes2 ≡ number_bytes 4 (pos check) → bytes3 ≡ quad size → bytes4 ≡ quad design
    → bytes1 ++ (bytes2 ++ (bytes3 ++ (bytes4 ++ (area ∷ rest ∷ (name ++ []))))) ≡ (((number_bytes n z ++ number_bytes 4 (pos check)) ++ quad size) ++ quad design) ++ (area ∷ rest ∷ name)
definition_written n z size design check area rest name bytes1 bytes2 bytes3 bytes4 e1 e2 e3 e4 =
    ap (λ x. bytes1 ++ (bytes2 ++ (bytes3 ++ (bytes4 ++ (area ∷ rest ∷ x))))) (append-nil name)
    ∙ sym (regroup bytes1 bytes2 bytes3 bytes4 (area ∷ rest ∷ name))
    ∙ ap (λ x. (((x ++ bytes2) ++ bytes3) ++ bytes4) ++ (area ∷ rest ∷ name)) e1
    ∙ ap (λ x. (((number_bytes n z ++ x) ++ bytes3) ++ bytes4) ++ (area ∷ rest ∷ name)) e2
    ∙ ap (λ x. (((number_bytes n z ++ number_bytes 4 (pos check)) ++ x) ++ bytes4) ++ (area ∷ rest ∷ name)) e3
    ∙ ap (λ x. (((number_bytes n z ++ number_bytes 4 (pos check)) ++ quad size) ++ x) ++ (area ∷ rest ∷ name)) e4
