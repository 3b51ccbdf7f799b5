-- The size of an item is determined by its own bytes, so no item begins another.
use Rattle.std.proofs.Common.{◌≡◌, ◌∙◌, ◌+◌, ◌≤◌, ◌<◌, inl, inr, ℕ, List, [], ◌∷◌, ◌++◌, length, take, drop, refl, sym, ap, subst, arith}
use Rattle.std.proofs.lemmas.Bool.{cases_lt, eq-eqb, true≢false}
use Rattle.std.proofs.lemmas.List.{drop-append-le, drop_at, get_or-take, length-append, length-drop, length-take-le, take-append-drop, take-append-le, take_at}
use Rattle.big_endian.specs.Fields.{unsigned_at}
use Rattle.big_endian.specs.Numbers.{unsigned_of}
use Rattle.pk_packets.specs.Items.{IsCut, IsItem, count_size, head_size, item_size, opcode, given_by_opcode}
use Rattle.pk_packets.specs.Laws.{NoItemBeginsAnother}

pub same_opcode : (item more : List ℕ) → 0 < length item → opcode (item ++ more) ≡ opcode item
same_opcode [] more some = absurd (omega (arith, some))
same_opcode (b ∷ item) more some = refl

same_number : (item more : List ℕ) (i n : ℕ) → i + n ≤ length item → unsigned_at (item ++ more) i n ≡ unsigned_at item i n
same_number item more i n inside =
    let start : i ≤ length item = omega arith in
    let room : n ≤ length (drop i item) = omega (arith, length-drop i item) in
    ap (λ xs. unsigned_of (take n xs)) (drop-append-le i item more start) ∙ ap unsigned_of (take-append-le n (drop i item) more room)

-- where the head is there the bytes after it tell nothing more of the size
pub same_size : (item more : List ℕ) → head_size (opcode item) ≤ length item → item_size (item ++ more) ≡ item_size item
same_size item more head =
    let op = opcode item in
    let some : 0 < length item = omega arith in
    ap (λ o. head_size o + (given_by_opcode o + unsigned_at (item ++ more) 1 (count_size o))) (same_opcode item more some)
    ∙ ap (λ n. head_size op + (given_by_opcode op + n)) (same_number item more 1 (count_size op) (omega arith))

pub has_head : (item : List ℕ) → IsItem item → head_size (opcode item) ≤ length item
has_head item h = omega (arith, h.whole)

pub has_byte : (item : List ℕ) → IsItem item → 0 < length item
has_byte item h = omega (arith, h.whole)

pub whole_size : (item more : List ℕ) → IsItem item → item_size (item ++ more) ≡ length item
whole_size item more h = same_size item more (has_head item h) ∙ sym h.whole

pub no_item_begins_another : NoItemBeginsAnother
no_item_begins_another a b x y ha hb same =
    let len : length a ≡ length b = sym (whole_size a x ha) ∙ ap item_size same ∙ whole_size b y hb in (
      sym (take_at a x (length a) refl) ∙ ap (take (length a)) same ∙ take_at b y (length a) (sym len),
      sym (drop_at a x (length a) refl) ∙ ap (drop (length a)) same ∙ drop_at b y (length a) (sym len),
    )

-- a whole item isn't cut, and has a known opcode
pub not_cut : {A : Type 0} (item more : List ℕ) → IsItem item → IsCut (item ++ more) → A
not_cut item more h cut = absurd (omega (arith, cut.1, whole_size item more h, length-append item more))

pub not_undefined : {A : Type 0} (item more : List ℕ) → IsItem item → 247 ≤ opcode (item ++ more) → A
not_undefined item more h high = absurd (omega (arith, high, h.known, same_opcode item more (has_byte item h)))

-- and isn't the closing command
pub not_closing : {A : Type 0} (item more unused : List ℕ) → IsItem item → 245 ∷ unused ≡ item ++ more → A
not_closing item more unused h same =
    let is : opcode item ≡ 245 = sym (same_opcode item more (has_byte item h)) ∙ sym (ap opcode same) in
    absurd (true≢false (sym (eq-eqb (opcode item) 245 is) ∙ h.not_closing))

-- ---- cuts

-- no byte at all is a cut
pub nothing_is_cut : IsCut []
nothing_is_cut = (omega arith, omega arith)

cut_here : (item : List ℕ) (k : ℕ) → IsItem item → 0 < k → k < length item → length (take k item) < item_size (take k item)
cut_here item k h some lt = elim (cases_lt k (head_size (opcode item))) [
  | inl short ↦ omega (arith, length-take-le k item (omega arith), ap head_size same, short)
  | inr head ↦
      let len : length (take k item) ≡ k = length-take-le k item (omega arith) in
      let there : head_size (opcode (take k item)) ≤ length (take k item) = omega (arith, len, ap head_size same, head) in
      let whole : item_size (take k item) ≡ length item = sym (same_size (take k item) (drop k item) there) ∙ ap item_size (take-append-drop k item) ∙ sym h.whole in
      omega (arith, len, whole, lt)
]
  where
    same : opcode (take k item) ≡ opcode item
    same = get_or-take k item 0 0 some

pub item_is_cut : (item : List ℕ) (k : ℕ) → IsItem item → k < length item → IsCut (take k item)
item_is_cut item k h lt = elim (cases_lt 0 k) [
  | inl some ↦ (subst (λ o. o ≤ 246) (sym (get_or-take k item 0 0 some)) h.known, cut_here item k h some lt)
  | inr none ↦ let zero_bytes : k ≡ 0 = omega arith in subst (λ n. IsCut (take n item)) (sym zero_bytes) nothing_is_cut
]
