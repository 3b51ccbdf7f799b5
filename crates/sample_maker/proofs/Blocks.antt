-- Lists made of blocks of four bytes.
use Rattle.std.proofs.Common.{◌≡◌, ◌∙◌, ℕ, zero, suc, ◌+◌, ◌*◌, ◌<◌, List, [], ◌∷◌, ◌++◌, length, get_or, take, drop, refl, sym, ap, subst, arith, append-nil, append_assoc}
use Rattle.std.specs.Prelude.{slice_index}
use Rattle.std.specs.List.{flat_map, range_with_len}
use Rattle.std.proofs.Math.Seq.{drop-append-add, take-append_seam}
use Rattle.std.proofs.lemmas.List.{get_or-drop, length-append}

-- one number more
pub range_more : (f : ℕ → List ℕ) (a n : ℕ) → flat_map f (range_with_len a (suc n)) ≡ flat_map f (range_with_len a n) ++ f (a + n)
range_more f a zero = let same : a ≡ a + 0 = omega arith in append-nil (f a) ∙ ap f same
range_more f a (suc n) =
    let same : a + 1 + n ≡ a + suc n = omega arith in
    ap (λ t. f a ++ t) (range_more f (a + 1) n ∙ ap (λ k. flat_map f (range_with_len (a + 1) n) ++ f k) same)
    ∙ sym (append_assoc (f a) (flat_map f (range_with_len (a + 1) n)) (f (a + suc n)))

pub range_step : (f : ℕ → List ℕ) (a n : ℕ) → flat_map f (range_with_len a (n + 1)) ≡ flat_map f (range_with_len a n) ++ f (a + n)
range_step f a n = let next : n + 1 ≡ suc n = omega arith in ap (λ k. flat_map f (range_with_len a k)) next ∙ range_more f a n

module _ {X : Type 0} (g : X → List ℕ) (four : (x : X) → length (g x) ≡ 4) where
  pub length_of_blocks : (xs : List X) → length (flat_map g xs) ≡ 4 * length xs
  length_of_blocks [] = refl
  length_of_blocks (x ∷ xs) = omega (arith, length-append (g x) (flat_map g xs), four x, length_of_blocks xs)

  -- the i-th block stands after 4 * i bytes
  pub block_at : (xs : List X) (i : ℕ) (d : X) (rest : List ℕ) → i < length xs → take 4 (drop (4 * i) (flat_map g xs ++ rest)) ≡ g (get_or xs i d)
  block_at [] i d rest lt = absurd (omega arith)
  block_at (x ∷ xs) zero d rest lt =
      ap (take 4) (append_assoc (g x) (flat_map g xs) rest)
      ∙ subst (λ k. take k (g x ++ (flat_map g xs ++ rest)) ≡ g x) (four x) (take-append_seam (g x) (flat_map g xs ++ rest))
  block_at (x ∷ xs) (suc i) d rest lt =
      let place : 4 * suc i ≡ length (g x) + 4 * i = omega (arith, four x) in
      ap (λ k. take 4 (drop k ((g x ++ flat_map g xs) ++ rest))) place
      ∙ ap (λ t. take 4 (drop (length (g x) + 4 * i) t)) (append_assoc (g x) (flat_map g xs) rest)
      ∙ ap (take 4) (drop-append-add (g x) (flat_map g xs ++ rest) (4 * i))
      ∙ block_at xs i d rest (omega (arith, lt))

-- the first byte of a block
first_taken : (xs : List ℕ) → get_or (take 4 xs) 0 0 ≡ get_or xs 0 0
first_taken [] = refl
first_taken (x ∷ xs) = refl

pub first_of_block : (n : ℕ) (bytes block : List ℕ) → take 4 (drop n bytes) ≡ block → slice_index bytes n ≡ slice_index block 0
first_of_block n bytes block e =
    let place : n ≡ n + 0 = omega arith in
    ap (λ k. get_or bytes k 0) place ∙ sym (get_or-drop n bytes 0 0) ∙ sym (first_taken (drop n bytes)) ∙ ap (λ t. get_or t 0 0) e
