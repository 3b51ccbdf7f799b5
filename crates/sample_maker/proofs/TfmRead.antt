-- The file of given widths, read again.
use Rattle.std.proofs.Common.{◌≡◌, ◌∙◌, ◌⊎◌, inl, inr, ℕ, zero, suc, ◌+◌, ◌-◌, ◌*◌, ◌/◌, ◌%◌, ◌<◌, ◌≤◌, ℤ, pos, negsuc, Bool, true, false, cond, List, [], ◌∷◌, ◌++◌, length, get_or, take, drop, Option, Some, None, refl, sym, ap, subst, arith, append_assoc}
use Rattle.std.specs.Prelude.{IsTrue, nat_le, nat_lt, ◌&&◌, slice_index}
use Rattle.std.specs.List.{AllByRecursion, flat_map, range_with_len}
use Rattle.std.proofs.Math.Seq.{drop-append-add}
use Rattle.std.proofs.lemmas.Bool.{leb-false, leb-true, ltb-false, ltb-true}
use Rattle.std.proofs.lemmas.Int.{ints}
use Rattle.std.proofs.lemmas.List.{length-append}
use Rattle.std.proofs.lemmas.List.FromFn.{get_or-range_with_len, length-range_with_len}
use Rattle.big_endian.specs.Numbers.{IsSigned, signed_of}
use Rattle.big_endian.proofs.Bytes.{signed_is_read_again}
use Rattle.fix_word.specs.FixWords.{IsFixWord}
use Rattle.tfm_reader.specs.Tfm.{bc, indexed_width, tfm_width, width_at, width_index, width_word}
use Rattle.tfm_reader.specs.Tfm as tfm
use Rattle.tfm_reader.specs.Right.{IsTfm}
use Rattle.sample_maker.specs.TfmFile.{are_rising, code_at, codes_of, tfm_counts, first_code, header, index_word, last_code, place_from, tfm_file, two, width_given, width_in, word}
use Rattle.sample_maker.proofs.Blocks.{block_at, first_of_block, length_of_blocks}
use Rattle.sample_maker.proofs.Counts.{AreRead, counts_read, head}
use Rattle.sample_maker.proofs.Pairs.{first_least, last_greatest, place_fits, place_or_none}

-- ---- the parts of the file

abbrev pair_word : ℕ × ℤ → List ℕ
pair_word pair = word pair.1

abbrev words_of : List (ℕ × ℤ) → ℕ
words_of pairs = 6 + 2 + codes_of pairs + (length pairs + 1) + 3

abbrev prefix : List (ℕ × ℤ) → List ℕ
prefix pairs = head (words_of pairs) (first_code pairs) (last_code pairs) (length pairs + 1)

abbrev indices : List (ℕ × ℤ) → List ℕ
indices pairs = flat_map (index_word pairs) (range_with_len (first_code pairs) (codes_of pairs))

-- the width 0 stands before those given
abbrev all_widths : List (ℕ × ℤ) → List (ℕ × ℤ)
all_widths pairs = (0, pos 0) ∷ pairs

abbrev zeros : List ℕ
zeros = word (pos 0) ++ word (pos 0) ++ word (pos 0)

-- what stands after the prefix
abbrev tables : List (ℕ × ℤ) → List ℕ
tables pairs = indices pairs ++ (flat_map pair_word (all_widths pairs) ++ zeros)

regroup : (f i w0 w z : List ℕ) → (((f ++ i) ++ w0) ++ w) ++ z ≡ f ++ (i ++ ((w0 ++ w) ++ z))
regroup f i w0 w z = simp append_assoc

parted : (pairs : List (ℕ × ℤ)) → tfm_file pairs ≡ prefix pairs ++ tables pairs
unfolding tfm_file
parted pairs = regroup (prefix pairs) (indices pairs) (word (pos 0)) (flat_map pair_word pairs) zeros

-- ---- the words after the prefix

index_four : (pairs : List (ℕ × ℤ)) (c : ℕ) → length (index_word pairs c) ≡ 4
index_four pairs c = refl

word_four : (pair : ℕ × ℤ) → length (pair_word pair) ≡ 4
word_four pair = refl

length_indices : (pairs : List (ℕ × ℤ)) → length (indices pairs) ≡ 4 * codes_of pairs
length_indices pairs =
    length_of_blocks (index_word pairs) (index_four pairs) (range_with_len (first_code pairs) (codes_of pairs))
    ∙ ap (λ k. 4 * k) (length-range_with_len (first_code pairs) (codes_of pairs))

index_at : (pairs : List (ℕ × ℤ)) (i : ℕ) → i < codes_of pairs → take 4 (drop (4 * (8 + i)) (prefix pairs ++ tables pairs)) ≡ index_word pairs (first_code pairs + i)
index_at pairs i lt =
    let place : 4 * (8 + i) ≡ 32 + 4 * i = omega arith in
    let inside : i < length (range_with_len (first_code pairs) (codes_of pairs)) = omega (arith, length-range_with_len (first_code pairs) (codes_of pairs)) in
    ap (λ k. take 4 (drop k (prefix pairs ++ tables pairs))) place
    ∙ ap (take 4) (drop-append-add (prefix pairs) (tables pairs) (4 * i))
    ∙ block_at (index_word pairs) (index_four pairs) (range_with_len (first_code pairs) (codes_of pairs)) i 0 (flat_map pair_word (all_widths pairs) ++ zeros) inside
    ∙ ap (index_word pairs) (get_or-range_with_len (first_code pairs) (codes_of pairs) i 0 lt)

word_at : (pairs : List (ℕ × ℤ)) (i : ℕ) → i < length pairs + 1 → take 4 (drop (4 * (8 + codes_of pairs + i)) (prefix pairs ++ tables pairs)) ≡ pair_word (get_or (all_widths pairs) i (0, pos 0))
word_at pairs i lt =
    let place : 4 * (8 + codes_of pairs + i) ≡ 32 + (length (indices pairs) + 4 * i) = omega (arith, length_indices pairs) in
    ap (λ k. take 4 (drop k (prefix pairs ++ tables pairs))) place
    ∙ ap (take 4) (drop-append-add (prefix pairs) (tables pairs) (length (indices pairs) + 4 * i))
    ∙ ap (take 4) (drop-append-add (indices pairs) (flat_map pair_word (all_widths pairs) ++ zeros) (4 * i))
    ∙ block_at pair_word word_four (all_widths pairs) i (0, pos 0) zeros (omega (arith, lt))

-- ---- what each width is

fix_word_signed : (z : ℤ) → IsFixWord z → IsSigned 4 z
fix_word_signed (pos m) h = omega (arith, ints, h.1)
fix_word_signed (negsuc m) h = omega (arith, ints, h.0)

fix_word_byte : (z : ℤ) → IsFixWord z → (slice_index (word z) 0 ≡ 0) ⊎ (slice_index (word z) 0 ≡ 255)
fix_word_byte (pos m) h = let low : m / 16777216 % 256 ≡ 0 = omega (arith, ints, h.1) in inl low
fix_word_byte (negsuc m) h = let high : (4294967296 - 1 - m) / 16777216 % 256 ≡ 255 = omega (arith, ints, h.0) in inr high

fits_at : (pairs : List (ℕ × ℤ)) (i : ℕ) → AllByRecursion (λ (pair : ℕ × ℤ). IsFixWord pair.1) pairs → i < length pairs → IsFixWord (get_or pairs i (0, pos 0)).1
fits_at [] i h lt = absurd (omega arith)
fits_at (p ∷ pairs) zero h lt = h.0
fits_at (p ∷ pairs) (suc i) h lt = fits_at pairs i h.1 (omega (arith, lt))

all_fit : (pairs : List (ℕ × ℤ)) (i : ℕ) → AllByRecursion (λ (pair : ℕ × ℤ). IsFixWord pair.1) pairs → i < length pairs + 1 → IsFixWord (get_or (all_widths pairs) i (0, pos 0)).1
all_fit pairs zero h lt = (omega arith, omega arith)
all_fit pairs (suc i) h lt = fits_at pairs i h (omega (arith, lt))

-- ---- the rows of the file

module _ (pairs : List (ℕ × ℤ)) (some : 1 ≤ length pairs) (few : length pairs ≤ 255) (top : last_code pairs < 256) (rising : IsTrue (are_rising pairs))
    (fit : AllByRecursion (λ (pair : ℕ × ℤ). IsFixWord pair.1) pairs) where
  order : first_code pairs ≤ last_code pairs
  order = last_greatest pairs 0 rising some

  read : AreRead (words_of pairs) (first_code pairs) (last_code pairs) (length pairs + 1) (prefix pairs ++ tables pairs)
  read = counts_read _ _ _ _ (tables pairs) (omega (arith, few, top)) (omega (arith, order, top)) (omega (arith, top)) (omega (arith, few))

  codes_are : tfm.codes_of (prefix pairs ++ tables pairs) ≡ codes_of pairs
  codes_are = omega (arith, read.first, read.last)

  index_is : (i : ℕ) → i < codes_of pairs → width_index (prefix pairs ++ tables pairs) i ≡ place_from 1 pairs (first_code pairs + i)
  index_is i lt = first_of_block (4 * (8 + i)) (prefix pairs ++ tables pairs) _ (index_at pairs i lt)

  at_is : (i : ℕ) → width_at (prefix pairs ++ tables pairs) i ≡ 4 * (8 + codes_of pairs + i)
  at_is i = ap (λ k. 4 * (8 + k + i)) codes_are

  word_is : (i : ℕ) → i < length pairs + 1 → width_word (prefix pairs ++ tables pairs) i ≡ (get_or (all_widths pairs) i (0, pos 0)).1
  word_is i lt =
      ap (λ k. signed_of (take 4 (drop k (prefix pairs ++ tables pairs)))) (at_is i)
      ∙ ap signed_of (word_at pairs i lt)
      ∙ signed_is_read_again 4 _ (omega arith) (omega arith) (fix_word_signed _ (all_fit pairs i fit lt))

  byte_is : (i : ℕ) → i < length pairs + 1 → slice_index (prefix pairs ++ tables pairs) (width_at (prefix pairs ++ tables pairs) i) ≡ slice_index (pair_word (get_or (all_widths pairs) i (0, pos 0))) 0
  byte_is i lt =
      ap (slice_index (prefix pairs ++ tables pairs)) (at_is i)
      ∙ first_of_block (4 * (8 + codes_of pairs + i)) (prefix pairs ++ tables pairs) _ (word_at pairs i lt)

  long : 4 * words_of pairs ≤ length (prefix pairs ++ tables pairs)
  long = omega (arith, length-append (prefix pairs) (tables pairs), length-append (indices pairs) (flat_map pair_word (all_widths pairs) ++ zeros), length-append (flat_map pair_word (all_widths pairs)) zeros, length_indices pairs, length_of_blocks pair_word word_four (all_widths pairs))

  parts_sound : IsTfm (prefix pairs ++ tables pairs)
  parts_sound = record {
    counted = omega (arith, long);
    rise = omega (arith, read.first, read.last, order);
    last = omega (arith, read.last, top);
    some = omega (arith, read.widths);
    words = omega (arith, read.words, read.header, codes_are, read.widths, read.others);
    whole = omega (arith, read.words, long);
    indices = λ i lt. omega (arith, index_is i (omega (arith, lt, codes_are)), place_fits pairs (first_code pairs + i), read.widths);
    narrow = λ i lt. subst (λ b. (b ≡ 0) ⊎ (b ≡ 255)) (sym (byte_is i (omega (arith, lt, read.widths)))) (fix_word_byte _ (all_fit pairs i fit (omega (arith, lt, read.widths))));
    nothing = word_is 0 (omega arith);
  }

  -- ---- the widths

  by_index : (k : ℕ) (w : Option ℤ) → k < length pairs + 1 → (k ≡ 0 → w ≡ None) → ((j : ℕ) → k ≡ suc j → w ≡ Some (get_or pairs j (0, pos 0)).1)
      → indexed_width (prefix pairs ++ tables pairs) k ≡ w
  by_index zero w lt none found = sym (none refl)
  by_index (suc j) w lt none found = ap Some (word_is (suc j) lt) ∙ sym (found j refl)

  width_inside : (c : ℕ) → first_code pairs ≤ c → c ≤ last_code pairs
      → indexed_width (prefix pairs ++ tables pairs) (width_index (prefix pairs ++ tables pairs) (c - first_code pairs)) ≡ width_in pairs c
  width_inside c low high =
      let back : first_code pairs + (c - first_code pairs) ≡ c = omega (arith, low) in
      ap (indexed_width (prefix pairs ++ tables pairs)) (index_is (c - first_code pairs) (omega (arith, low, high)) ∙ ap (place_from 1 pairs) back)
      ∙ elim (place_or_none 1 pairs c) [
        | inl f ↦ by_index (place_from 1 pairs c) (width_in pairs c) (omega (arith, place_fits pairs c)) (λ e. absurd (omega (arith, e, f.1.place)))
            (λ j e. let same : f.0 ≡ j = omega (arith, e, f.1.place) in f.1.width ∙ ap (λ k. Some (get_or pairs k (0, pos 0)).1) same)
        | inr n ↦ by_index (place_from 1 pairs c) (width_in pairs c) (omega (arith, place_fits pairs c)) (λ e. n.width) (λ j e. absurd (omega (arith, e, n.place)))
      ]

  width_outside : (c : ℕ) → (c < first_code pairs) ⊎ (last_code pairs < c) → width_in pairs c ≡ None
  width_outside c out = elim (place_or_none 1 pairs c) [
    | inl f ↦ absurd (not_outside f.0 out f.1.code (first_least pairs f.0 rising f.1.within) (last_greatest pairs f.0 rising f.1.within))
    | inr n ↦ n.width
  ]
    where
      not_outside : (j : ℕ) → (c < first_code pairs) ⊎ (last_code pairs < c) → code_at pairs j ≡ c → first_code pairs ≤ code_at pairs j → code_at pairs j ≤ last_code pairs → ⊥
      not_outside j (inl below) e low high = omega (arith, below, e, low)
      not_outside j (inr above) e low high = omega (arith, above, e, high)

  width_is : (c : ℕ) (a b : Bool) → nat_le (bc (prefix pairs ++ tables pairs)) c ≡ a → nat_lt (c - bc (prefix pairs ++ tables pairs)) (tfm.codes_of (prefix pairs ++ tables pairs)) ≡ b
      → cond (a && b) (indexed_width (prefix pairs ++ tables pairs) (width_index (prefix pairs ++ tables pairs) (c - bc (prefix pairs ++ tables pairs)))) None ≡ width_in pairs c
  width_is c false b e f = let below : c < bc (prefix pairs ++ tables pairs) = leb-false _ _ e in sym (width_outside c (inl (omega (arith, below, read.first))))
  width_is c true false e f =
      let low : bc (prefix pairs ++ tables pairs) ≤ c = leb-true _ _ e in
      let high : tfm.codes_of (prefix pairs ++ tables pairs) ≤ c - bc (prefix pairs ++ tables pairs) = ltb-false _ _ f in
      sym (width_outside c (inr (omega (arith, low, high, codes_are, read.first, order))))
  width_is c true true e f =
      let low : bc (prefix pairs ++ tables pairs) ≤ c = leb-true _ _ e in
      let high : c - bc (prefix pairs ++ tables pairs) < tfm.codes_of (prefix pairs ++ tables pairs) = ltb-true _ _ f in
      ap (λ k. indexed_width (prefix pairs ++ tables pairs) (width_index (prefix pairs ++ tables pairs) (c - k))) read.first
      ∙ width_inside c (omega (arith, low, read.first)) (omega (arith, low, high, codes_are, read.first, order))

  widths_are : (c : ℤ) → tfm_width (prefix pairs ++ tables pairs) c ≡ width_given pairs c
  widths_are (pos c) = width_is c _ _ refl refl
  widths_are (negsuc c) = refl

  pub file_sound : IsTfm (tfm_file pairs)
  file_sound = subst IsTfm (sym (parted pairs)) parts_sound

  pub widths_read : (c : ℤ) → tfm_width (tfm_file pairs) c ≡ width_given pairs c
  widths_read c = ap (λ t. tfm_width t c) (parted pairs) ∙ widths_are c

-- ---- the bytes as they are appended

pub appended : (pairs : List (ℕ × ℤ)) (counts start a b c d e f : List ℕ) → counts ≡ tfm_counts pairs → start ≡ [] → a ≡ start ++ flat_map two counts → b ≡ a ++ header → c ≡ b ++ indices pairs
    → d ≡ c ++ word (pos 0) → e ≡ d ++ flat_map pair_word pairs → f ≡ e ++ zeros → f ≡ tfm_file pairs
unfolding tfm_file
appended pairs counts start a b c d e f counted empty ea eb ec ed ee ef =
    let prefix : b ≡ flat_map two (tfm_counts pairs) ++ header = eb ∙ ap (λ t. t ++ header) (ea ∙ ap (λ t. t ++ flat_map two counts) empty ∙ ap (flat_map two) counted) in
    ef ∙ ap (λ t. t ++ zeros) (ee ∙ ap (λ t. t ++ flat_map pair_word pairs) (ed ∙ ap (λ t. t ++ word (pos 0)) (ec ∙ ap (λ t. t ++ indices pairs) prefix)))
