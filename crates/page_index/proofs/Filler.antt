-- What stands after PostPost.
use Rattle.std.proofs.Common.{◌≡◌, ℕ, suc, ◌+◌, ◌≤◌, ◌<◌, Bool, true, false, cond, List, [], ◌∷◌, length, refl, ap, arith, eqb-true, sym, ◌∙◌, length-take}
use Rattle.std.specs.Prelude.{◌==◌, ◌&&◌, not, if◌then◌else◌, nat_lt, replicate, Some, None}
use Rattle.std.proofs.lemmas.Bool.{le-ltb, lt-ltb, ltb-false}
use Rattle.std.specs.List.{list_all, prefix_len, take_while}
use Rattle.page_index.specs.Judged.{is_filler, tail_fault}
use Rattle.page_index.specs.declared.faults.DocFault.{DocFault}
use Rattle.page_index.specs.declared.faults.DocFault.TheVariants.{Trailer, Truncated}

prefix_within : (bytes : List ℕ) → prefix_len is_filler bytes ≤ length bytes
prefix_within [] = omega arith
prefix_within (b ∷ bytes) = by (b == 223) (prefix_within bytes)
  where
    by : (is : Bool) → prefix_len is_filler bytes ≤ length bytes → cond is (1 + prefix_len is_filler bytes) 0 ≤ suc (length bytes)
    by true h = omega (arith, h)
    by false h = omega arith

prefix_length : (bytes : List ℕ) → length (take_while is_filler bytes) ≡ prefix_len is_filler bytes
prefix_length bytes = grind (arith, length-take, prefix_within bytes)

all_fill : (bytes : List ℕ) → prefix_len is_filler bytes ≡ length bytes → list_all is_filler bytes ≡ true
all_fill [] h = refl
all_fill (b ∷ bytes) h = by (b == 223) h (all_fill bytes)
  where
    by : (is : Bool) → cond is (1 + prefix_len is_filler bytes) 0 ≡ suc (length bytes) → (prefix_len is_filler bytes ≡ length bytes → list_all is_filler bytes ≡ true) → (is && list_all is_filler bytes) ≡ true
    by true h rest = rest (omega (arith, h))
    by false h rest = absurd (omega (arith, h))

not_all_fill : (bytes : List ℕ) → prefix_len is_filler bytes < length bytes → list_all is_filler bytes ≡ false
not_all_fill [] h = absurd (omega (arith, h))
not_all_fill (b ∷ bytes) h = by (b == 223) h (not_all_fill bytes)
  where
    by : (is : Bool) → cond is (1 + prefix_len is_filler bytes) 0 < suc (length bytes) → (prefix_len is_filler bytes < length bytes → list_all is_filler bytes ≡ false) → (is && list_all is_filler bytes) ≡ false
    by true h rest = rest (omega (arith, h))
    by false h rest = refl

-- all bytes are filler where the filler at their beginning is as long as they are
pub all_by_length : (bytes : List ℕ) → length (take_while is_filler bytes) ≡ length bytes → list_all is_filler bytes ≡ true
all_by_length bytes h = all_fill bytes (sym (prefix_length bytes) ∙ h)

pub not_all_by_length : (bytes : List ℕ) → length (take_while is_filler bytes) < length bytes → list_all is_filler bytes ≡ false
not_all_by_length bytes h = not_all_fill bytes (omega (arith, h, prefix_length bytes))

pub filler_is : (bytes : List ℕ) → list_all is_filler bytes ≡ true → bytes ≡ replicate (length bytes) 223
filler_is [] h = refl
filler_is (b ∷ bytes) h = by (b == 223) refl h (filler_is bytes)
  where
    by : (is : Bool) → (b == 223) ≡ is → (is && list_all is_filler bytes) ≡ true → (list_all is_filler bytes ≡ true → bytes ≡ replicate (length bytes) 223) → b ∷ bytes ≡ 223 ∷ replicate (length bytes) 223
    by true e h rest =
        let first : b ≡ 223 = eqb-true b 223 e in
        ap (λ (x : ℕ). x ∷ bytes) first ∙ ap (λ (t : List ℕ). 223 ∷ t) (rest h)
    by false e h rest = cc

-- ---- by the length of the filler at the beginning

module _ (at : ℕ) (rest : List ℕ) (n : ℕ) (is : n ≡ length (take_while is_filler rest)) where
  pub wrong_byte : n < length rest → tail_fault at rest ≡ Some (Trailer (at + n))
  wrong_byte h =
      let no : list_all is_filler rest ≡ false = not_all_by_length rest (omega (arith, is, h)) in
      rw no (ap (λ (k : ℕ). Some (Trailer (at + k))) (sym is))

  all_there : n ≤ length rest → length rest ≤ n → list_all is_filler rest ≡ true
  all_there within h = all_by_length rest (omega (arith, is, within, h))

  pub too_few : n ≤ length rest → length rest ≤ n → n < 4 → tail_fault at rest ≡ Some (Truncated (at + length rest))
  too_few within h few =
      let less : nat_lt (length rest) 4 ≡ true = lt-ltb (length rest) 4 (omega (arith, within, h, few)) in
      rw (all_there within h, less) refl

  pub all_right : n ≤ length rest → length rest ≤ n → 4 ≤ n → tail_fault at rest ≡ None
  all_right within h enough =
      let less : nat_lt (length rest) 4 ≡ false = le-ltb (length rest) 4 (omega (arith, within, h, enough)) in
      rw (all_there within h, less) refl

-- where nothing is wrong
pub tail_right : (at : ℕ) (rest : List ℕ) → tail_fault at rest ≡ None → (list_all is_filler rest ≡ true) × (4 ≤ length rest)
tail_right at rest h = filled (list_all is_filler rest) (nat_lt (length rest) 4) refl refl _ _ h
  where
    filled : (all few : Bool) → list_all is_filler rest ≡ all → nat_lt (length rest) 4 ≡ few → (x y : DocFault) → (if not all then Some x else if few then Some y else None) ≡ None
        → (list_all is_filler rest ≡ true) × (4 ≤ length rest)
    filled true false a f x y h = (a, ltb-false (length rest) 4 f)
    filled true true a f x y h = cc
    filled false few a f x y h = cc
