-- A whole item is read the same way whatever follows it.
use Rattle.std.proofs.Common.{◌≡◌, ◌∙◌, ◌+◌, ◌-◌, ◌≤◌, ◌<◌, inl, inr, ℕ, List, [], ◌∷◌, ◌++◌, length, take, drop, refl, sym, ap, subst, arith}
use Rattle.std.specs.Prelude.{nat_le, slice_index}
use Rattle.std.proofs.lemmas.Bool.{cases_Bool, cases_lt}
use Rattle.std.proofs.lemmas.List.{drop-append-le, drop_at, get_or-take, get_or_append_left, length-append, length-drop, length-take-le, take-append-drop, take-append-le, take_at}
use Rattle.big_endian.specs.Fields.{unsigned_at}
use Rattle.big_endian.specs.Numbers.{unsigned_of}
use Rattle.vf_reader.specs.Items.{IsCut, IsItem, by_kind, head_size, item_size, opcode, given_size}
use Rattle.vf_reader.specs.Faults.{IsMisplaced}
use Rattle.vf_reader.specs.Laws.{NoItemBeginsAnother}

pub same_opcode : (item more : List ℕ) → 0 < length item → opcode (item ++ more) ≡ opcode item
same_opcode [] more some = absurd (omega (arith, some))
same_opcode (b ∷ item) more some = refl

same_number : (item more : List ℕ) (i n : ℕ) → i + n ≤ length item → unsigned_at (item ++ more) i n ≡ unsigned_at item i n
same_number item more i n inside =
    let start : i ≤ length item = omega arith in
    let room : n ≤ length (drop i item) = omega (arith, length-drop i item) in
    ap (λ xs. unsigned_of (take n xs)) (drop-append-le i item more start) ∙ ap unsigned_of (take-append-le n (drop i item) more room)

-- ---- the size

pub some_head : (op : ℕ) → 1 ≤ head_size op
some_head op = elim (cases_Bool (nat_le op 241)) [
  | inl short ↦ let size : head_size op ≡ 5 = rw short refl in omega (arith, size)
  | inr other ↦ elim (cases_Bool (nat_le op 242)) [
    | inl long ↦ let size : head_size op ≡ 13 = rw (other, long) refl in omega (arith, size)
    | inr local ↦ let size : head_size op ≡ op - 242 + 15 = rw (other, local) refl in omega (arith, size)
  ]
]

-- where the head is there the bytes after it tell nothing more of the size
told_by : (item more : List ℕ) (op : ℕ) → head_size op ≤ length item
    → by_kind op op (unsigned_at (item ++ more) 1 4) (slice_index (item ++ more) (op - 242 + 13) + slice_index (item ++ more) (op - 242 + 14))
    ≡ by_kind op op (unsigned_at item 1 4) (slice_index item (op - 242 + 13) + slice_index item (op - 242 + 14))
told_by item more op head = elim (cases_Bool (nat_le op 241)) [
  | inl short ↦ rw short refl
  | inr other ↦ elim (cases_Bool (nat_le op 242)) [
    | inl long ↦
        let size : head_size op ≡ 13 = rw (other, long) refl in
        rw (other, long) (same_number item more 1 4 (omega (arith, head, size)))
    | inr local ↦
        let size : head_size op ≡ op - 242 + 15 = rw (other, local) refl in
        let area : slice_index (item ++ more) (op - 242 + 13) ≡ slice_index item (op - 242 + 13) = get_or_append_left item more 0 (op - 242 + 13) (omega (arith, head, size)) in
        let rest : slice_index (item ++ more) (op - 242 + 14) ≡ slice_index item (op - 242 + 14) = get_or_append_left item more 0 (op - 242 + 14) (omega (arith, head, size)) in
        rw (other, local) (ap (λ (n : ℕ). n + slice_index (item ++ more) (op - 242 + 14)) area ∙ ap (λ (n : ℕ). slice_index item (op - 242 + 13) + n) rest)
  ]
]

abbrev told_with : List ℕ → ℕ → ℕ
told_with bytes op = by_kind op op (unsigned_at bytes 1 4) (slice_index bytes (op - 242 + 13) + slice_index bytes (op - 242 + 14))

pub same_size : (item more : List ℕ) → head_size (opcode item) ≤ length item → item_size (item ++ more) ≡ item_size item
same_size item more head =
    let some : 0 < length item = omega (arith, some_head (opcode item), head) in
    ap (λ (o : ℕ). head_size o + told_with (item ++ more) o) (same_opcode item more some) ∙ ap (λ (n : ℕ). head_size (opcode item) + n) (told_by item more (opcode item) head)

pub has_head : (item : List ℕ) → IsItem item → head_size (opcode item) ≤ length item
has_head item h = by (head_size (opcode item)) (given_size item) h.whole
  where
    by : (a b : ℕ) → length item ≡ a + b → a ≤ length item
    by a b e = omega (arith, e)

pub has_byte : (item : List ℕ) → IsItem item → 0 < length item
has_byte item h = omega (arith, some_head (opcode item), has_head item h)

pub whole_size : (item more : List ℕ) → IsItem item → item_size (item ++ more) ≡ length item
whole_size item more h = same_size item more (has_head item h) ∙ sym h.whole

pub no_item_begins_another : NoItemBeginsAnother
no_item_begins_another a b x y ha hb same =
    let len : length a ≡ length b = sym (whole_size a x ha) ∙ ap item_size same ∙ whole_size b y hb in (
      sym (take_at a x (length a) refl) ∙ ap (take (length a)) same ∙ take_at b y (length a) (sym len),
      sym (drop_at a x (length a) refl) ∙ ap (drop (length a)) same ∙ drop_at b y (length a) (sym len),
    )

-- ---- where an item stands

-- a whole item isn't cut, and its opcode isn't misplaced
pub not_cut : {A : Type 0} (item more : List ℕ) → IsItem item → IsCut (item ++ more) → A
not_cut item more h cut = absurd (by (item_size (item ++ more)) cut.1 (whole_size item more h))
  where
    by : (size : ℕ) → length (item ++ more) < size → size ≡ length item → ⊥
    by size lt e = omega (arith, lt, e, length-append item more)

known_there : (item more : List ℕ) → IsItem item → opcode (item ++ more) ≤ 246
known_there item more h = subst (λ (o : ℕ). o ≤ 246) (sym (same_opcode item more (has_byte item h))) h.known

pub misplaced_high : (op : ℕ) → IsMisplaced op → 247 ≤ op
misplaced_high op (inl same) = omega (arith, same)
misplaced_high op (inr high) = omega (arith, high)

pub not_misplaced : {A : Type 0} (item more : List ℕ) → IsItem item → IsMisplaced (opcode (item ++ more)) → A
not_misplaced item more h high = absurd (by (opcode (item ++ more)) (known_there item more h) (misplaced_high _ high))
  where
    by : (op : ℕ) → op ≤ 246 → 247 ≤ op → ⊥
    by op low high = omega arith

-- and isn't the closing command
pub not_closing : {A : Type 0} (item more unused : List ℕ) → IsItem item → 248 ∷ unused ≡ item ++ more → A
not_closing item more unused h same =
    let is : 248 ≡ opcode (item ++ more) = ap opcode same in
    absurd (by (opcode (item ++ more)) (known_there item more h) is)
  where
    by : (op : ℕ) → op ≤ 246 → 248 ≡ op → ⊥
    by op low e = omega (arith, e, low)

-- ---- cuts

-- no byte at all is a cut
pub nothing_is_cut : IsCut []
nothing_is_cut = (omega arith, omega arith)

cut_here : (item : List ℕ) (k : ℕ) → IsItem item → 0 < k → k < length item → length (take k item) < item_size (take k item)
cut_here item k h some lt = elim (cases_lt k (head_size (opcode item))) [
  | inl short ↦ by_head (head_size (opcode (take k item))) (given_size (take k item)) (ap head_size same) short
  | inr head ↦
      let there : head_size (opcode (take k item)) ≤ length (take k item) = subst (λ (n : ℕ). n ≤ length (take k item)) (sym (ap head_size same)) (subst (λ (n : ℕ). head_size (opcode item) ≤ n) (sym len) head) in
      let whole : item_size (take k item) ≡ length item = sym (same_size (take k item) (drop k item) there) ∙ ap item_size (take-append-drop k item) ∙ sym h.whole in
      subst (λ (n : ℕ). length (take k item) < n) (sym whole) (omega (arith, len, lt))
]
  where
    len : length (take k item) ≡ k
    len = length-take-le k item (omega arith)

    same : opcode (take k item) ≡ opcode item
    same = get_or-take k item 0 0 some

    by_head : (a b : ℕ) → a ≡ head_size (opcode item) → k < head_size (opcode item) → length (take k item) < a + b
    by_head a b e short = by (head_size (opcode item)) e short
      where
        by : (c : ℕ) → a ≡ c → k < c → length (take k item) < a + b
        by c e short = omega (arith, len, e, short)

pub item_is_cut : (item : List ℕ) (k : ℕ) → IsItem item → k < length item → IsCut (take k item)
item_is_cut item k h lt = elim (cases_lt 0 k) [
  | inl some ↦ (subst (λ o. o ≤ 246) (sym (get_or-take k item 0 0 some)) h.known, cut_here item k h some lt)
  | inr none ↦ let zero_bytes : k ≡ 0 = omega arith in subst (λ n. IsCut (take n item)) (sym zero_bytes) nothing_is_cut
]
