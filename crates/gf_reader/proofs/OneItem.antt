-- An item that stands first in some bytes is found there, and a sound one has no fault there.
use Rattle.std.proofs.Common.{◌≡◌, ◌∙◌, ◌+◌, ◌≤◌, ◌<◌, ◌^◌, ℕ, zero, suc, Bool, true, false, List, [], ◌∷◌, ◌++◌, length, take, drop, Option, Some, None, refl, sym, ap, arith}
use Rattle.std.specs.Prelude.{◌==◌, if◌then◌else◌, nat_lt}
use Rattle.std.proofs.lemmas.Bool.{le-ltb, ltb-false, eqb-false, ne_eqb}
use Rattle.std.proofs.lemmas.List.{drop-append-le, drop_at, length-append, length-drop, length-take-le, get_or-take, take-append-le, take-append-drop, take_at}
use Rattle.big_endian.specs.Fields.{unsigned_at}
use Rattle.big_endian.specs.Numbers.{unsigned_of}
use Rattle.gf_reader.specs.Items.{IsItem, field_size, is_misplaced, is_open, is_special, item_size, opcode}
use Rattle.gf_reader.specs.Faults.{fault_after, earlier_fault, place_fault, fault_of_item}
use Rattle.gf_reader.specs.declared.faults.GfFault.{GfFault}
use Rattle.gf_reader.specs.declared.faults.GfFault.TheVariants.{Misplaced, Short}

same_opcode : (item more : List ℕ) → 0 < length item → opcode (item ++ more) ≡ opcode item
same_opcode [] more some = absurd (omega (arith, some))
same_opcode (b ∷ item) more some = refl

same_number : (item more : List ℕ) (i n : ℕ) → i + n ≤ length item → unsigned_at (item ++ more) i n ≡ unsigned_at item i n
same_number item more i n inside =
    let start : i ≤ length item = omega arith in
    let room : n ≤ length (drop i item) = omega (arith, length-drop i item) in
    ap (λ xs. unsigned_of (take n xs)) (drop-append-le i item more start) ∙ ap unsigned_of (take-append-le n (drop i item) more room)

-- where the fields are there the bytes after them tell nothing more of the size
same_size : (item more : List ℕ) → 1 + field_size (opcode item) ≤ length item → item_size (item ++ more) ≡ item_size item
same_size item more head =
    let op = opcode item in
    ap (λ o. 1 + field_size o + (if is_special o then unsigned_at (item ++ more) 1 (field_size o) else 0)) (same_opcode item more (omega arith))
    ∙ ap (λ n. 1 + field_size op + (if is_special op then n else 0)) (same_number item more 1 (field_size op) (omega arith))

pub has_fields : (inside : Bool) (item : List ℕ) → IsItem inside item → 1 + field_size (opcode item) ≤ length item
has_fields inside item h = omega (arith, h.whole)

whole_size : (inside : Bool) (item more : List ℕ) → IsItem inside item → item_size (item ++ more) ≡ length item
whole_size inside item more h = same_size item more (has_fields inside item h) ∙ sym h.whole

pub first_taken : (inside : Bool) (item more : List ℕ) → IsItem inside item → take (item_size (item ++ more)) (item ++ more) ≡ item
first_taken inside item more h = ap (λ n. take n (item ++ more)) (whole_size inside item more h) ∙ take_at item more (length item) refl

pub first_dropped : (inside : Bool) (item more : List ℕ) → IsItem inside item → drop (item_size (item ++ more)) (item ++ more) ≡ more
first_dropped inside item more h = ap (λ n. drop n (item ++ more)) (whole_size inside item more h) ∙ drop_at item more (length item) refl

pub first_opcode : (inside : Bool) (item more : List ℕ) → IsItem inside item → opcode (item ++ more) ≡ opcode item
first_opcode inside item more h = same_opcode item more (omega (arith, has_fields inside item h))

abbrev Placed : Bool → Bool → Bool → ℕ → Option GfFault
Placed none misplaced cut op = if none then Some Short else if misplaced then Some (Misplaced op) else if cut then Some Short else None

pub first_placed : (inside : Bool) (item more : List ℕ) → IsItem inside item → place_fault inside (item ++ more) ≡ None
first_placed inside item more h =
    let len : length (item ++ more) ≡ length item + length more = length-append item more in
    let some : (length (item ++ more) == 0) ≡ false = ne_eqb (length (item ++ more)) 0 (λ e. absurd (omega (arith, e, len, has_fields inside item h))) in
    let placed : is_misplaced inside (opcode (item ++ more)) ≡ false = ap (is_misplaced inside) (first_opcode inside item more h) ∙ h.placed in
    let whole : nat_lt (length (item ++ more)) (item_size (item ++ more)) ≡ false = le-ltb (length (item ++ more)) (item_size (item ++ more)) (omega (arith, len, whole_size inside item more h)) in
    ap (λ b. Placed b (is_misplaced inside (opcode (item ++ more))) (nat_lt (length (item ++ more)) (item_size (item ++ more))) (opcode (item ++ more))) some
    ∙ ap (λ b. Placed false b (nat_lt (length (item ++ more)) (item_size (item ++ more))) (opcode (item ++ more))) placed
    ∙ ap (λ b. Placed false false b (opcode (item ++ more))) whole

-- what is wrong with a whole item is what is wrong where it stands
pub item_fault : (before : List (List ℕ)) (item more : List ℕ) → IsItem (is_open before) item → fault_after before (item ++ more) ≡ fault_of_item before item
item_fault before item more h =
    ap (λ o. earlier_fault o (fault_of_item before (take (item_size (item ++ more)) (item ++ more)))) (first_placed (is_open before) item more h)
    ∙ ap (fault_of_item before) (first_taken (is_open before) item more h)

-- ---- what stands where there is no fault

placed_parts : (none misplaced cut : Bool) (op : ℕ) → Placed none misplaced cut op ≡ None → (none ≡ false) × (misplaced ≡ false) × (cut ≡ false)
placed_parts true misplaced cut op e = cc
placed_parts false true cut op e = cc
placed_parts false false true op e = cc
placed_parts false false false op e = (refl, refl, refl)

first_parts : (o p : Option GfFault) → earlier_fault o p ≡ None → (o ≡ None) × (p ≡ None)
first_parts None p e = (refl, e)
first_parts (Some f) p e = cc

-- the bytes are there, and an opcode that may stand there
pub record StandsHere (before : List (List ℕ)) (rest : List ℕ) : Type 0 where
  pub some : 1 ≤ length rest
  pub placed : is_misplaced (is_open before) (opcode rest) ≡ false
  pub within : item_size rest ≤ length rest
  pub right : fault_of_item before (take (item_size rest) rest) ≡ None

pub stands_here : (before : List (List ℕ)) (rest : List ℕ) → fault_after before rest ≡ None → StandsHere before rest
stands_here before rest e =
    let both = first_parts (place_fault (is_open before) rest) (fault_of_item before (take (item_size rest) rest)) e in
    let parts = placed_parts (length rest == 0) (is_misplaced (is_open before) (opcode rest)) (nat_lt (length rest) (item_size rest)) (opcode rest) both.0 in
    record {
      some = omega (arith, eqb-false (length rest) 0 parts.0);
      placed = parts.1;
      within = ltb-false (length rest) (item_size rest) parts.2;
      right = both.1;
    }

pub first_is_item : (before : List (List ℕ)) (rest : List ℕ) → StandsHere before rest → (opcode rest == 248) ≡ false → IsItem (is_open before) (take (item_size rest) rest)
first_is_item before rest h other = record {
  placed = ap (is_misplaced (is_open before)) same ∙ h.placed;
  not_closing = ap (λ o. o == 248) same ∙ other;
  whole = len ∙ ap item_size (sym (take-append-drop (item_size rest) rest)) ∙ same_size (take (item_size rest) rest) (drop (item_size rest) rest) (omega (arith, len, ap field_size same));
}
  where
    same : opcode (take (item_size rest) rest) ≡ opcode rest
    same = get_or-take (item_size rest) rest 0 0 (omega arith)

    len : length (take (item_size rest) rest) ≡ item_size rest
    len = length-take-le (item_size rest) rest h.within

-- ---- numbers

pub three_bytes : (n m : ℕ) → n ≤ 3 → m < 256 ^ n → m < 16777216
three_bytes zero m few small = omega (arith, small)
three_bytes (suc zero) m few small = omega (arith, small)
three_bytes (suc (suc zero)) m few small = omega (arith, small)
three_bytes (suc (suc (suc zero))) m few small = small
three_bytes (suc (suc (suc (suc n)))) m few small = absurd (omega (arith, few))
