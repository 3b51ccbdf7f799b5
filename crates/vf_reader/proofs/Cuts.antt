-- A VF file that is cut before its closing command.
use Rattle.std.proofs.Common.{◌≡◌, ◌∙◌, ◌+◌, ◌-◌, ◌≤◌, ◌<◌, ◌⊎◌, inl, inr, ℕ, Bool, true, false, cond, List, [], ◌∷◌, ◌++◌, length, take, drop, Option, Some, None, refl, sym, ap, arith}
use Rattle.std.specs.Prelude.{nat_lt, ◌==◌, slice_index}
use Rattle.std.proofs.lemmas.Bool.{cases_lt, leb-false, lt-ltb, le-ltb}
use Rattle.std.proofs.lemmas.List.{append-nil, drop-take, get_or-take, length-append, length-drop, length-take-le, take-append-le, take_all}
use Rattle.std.proofs.Math.Seq.{take-append-add}
use Rattle.vf_reader.specs.Preamble.{preamble_fault, preamble_size}
use Rattle.vf_reader.specs.Items.{IsCut, text_of}
use Rattle.vf_reader.specs.Fonts.{AreSound}
use Rattle.vf_reader.specs.Faults.{IsFirstFault}
use Rattle.vf_reader.specs.Laws.{CutFilesAreShort}
use Rattle.vf_reader.specs.declared.faults.VfFault.{VfFault}
use Rattle.vf_reader.specs.declared.faults.VfFault.TheVariants.{Preamble, Short}
use Rattle.vf_reader.proofs.OneItem.{item_is_cut, nothing_is_cut}

-- ---- the preamble, by the tests of its fields

abbrev judged : Bool → Bool → Bool → Bool → Bool → Bool → Option VfFault
judged a opcode b identifier c d = cond a (Some Short) (cond opcode (cond b (Some Short) (cond identifier (cond c (Some Short) (cond d (Some Short) None)) (Some Preamble))) (Some Preamble))

right : (a opcode b identifier c d : Bool) → judged a opcode b identifier c d ≡ None → (opcode ≡ true) × (identifier ≡ true) × (d ≡ false)
right true opcode b identifier c d e = cc
right false false b identifier c d e = cc
right false true true identifier c d e = cc
right false true false false c d e = cc
right false true false true true d e = cc
right false true false true false true e = cc
right false true false true false false e = (refl, refl, refl)

pub record IsPreamble (bytes : List ℕ) : Type 0 where
  pub opcode : (slice_index bytes 0 == 247) ≡ true
  pub identifier : (slice_index bytes 1 == 202) ≡ true
  pub there : preamble_size bytes ≤ length bytes

preamble_of : (bytes : List ℕ) → preamble_fault bytes ≡ None → IsPreamble bytes
preamble_of bytes none =
    let r = right (nat_lt (length bytes) 1) (slice_index bytes 0 == 247) (nat_lt (length bytes) 2) (slice_index bytes 1 == 202) (nat_lt (length bytes) 3) (nat_lt (length bytes) (preamble_size bytes)) none in
    record { opcode = r.0; identifier = r.1; there = omega (arith, leb-false _ _ r.2) }

-- a byte before the cut
kept : (bytes : List ℕ) (n i v : ℕ) → i < n → (slice_index bytes i == v) ≡ true → (slice_index (take n bytes) i == v) ≡ true
kept bytes n i v lt e = ap (λ b. b == v) (get_or-take n bytes i 0 lt) ∙ e

comment_kept : (bytes : List ℕ) (n : ℕ) → 2 < n → preamble_size (take n bytes) ≡ preamble_size bytes
comment_kept bytes n lt = ap (λ b. 3 + b + 8) (get_or-take n bytes 2 0 lt)

cut_in_preamble : (bytes : List ℕ) (n : ℕ) → IsPreamble bytes → n < preamble_size bytes → preamble_fault (take n bytes) ≡ Some Short
cut_in_preamble bytes n h lt = by (cases_lt n 1) (cases_lt n 2) (cases_lt n 3)
  where
    len : length (take n bytes) ≡ n
    len = length-take-le n bytes (omega (arith, h.there, lt))

    by : (n < 1) ⊎ (1 ≤ n) → (n < 2) ⊎ (2 ≤ n) → (n < 3) ⊎ (3 ≤ n) → preamble_fault (take n bytes) ≡ Some Short
    by (inl none) two three = rw (lt-ltb (length (take n bytes)) 1 (omega (arith, len, none))) refl
    by (inr one) (inl cut) three = rw (
      le-ltb (length (take n bytes)) 1 (omega (arith, len, one)),
      kept bytes n 0 247 (omega (arith, one)) h.opcode,
      lt-ltb (length (take n bytes)) 2 (omega (arith, len, cut)),
    ) refl
    by (inr one) (inr two) (inl cut) = rw (
      le-ltb (length (take n bytes)) 1 (omega (arith, len, one)),
      kept bytes n 0 247 (omega (arith, one)) h.opcode,
      le-ltb (length (take n bytes)) 2 (omega (arith, len, two)),
      kept bytes n 1 202 (omega (arith, two)) h.identifier,
      lt-ltb (length (take n bytes)) 3 (omega (arith, len, cut)),
    ) refl
    by (inr one) (inr two) (inr three) = rw (
      le-ltb (length (take n bytes)) 1 (omega (arith, len, one)),
      kept bytes n 0 247 (omega (arith, one)) h.opcode,
      le-ltb (length (take n bytes)) 2 (omega (arith, len, two)),
      kept bytes n 1 202 (omega (arith, two)) h.identifier,
      le-ltb (length (take n bytes)) 3 (omega (arith, len, three)),
      lt-ltb (length (take n bytes)) (preamble_size (take n bytes)) (omega (arith, len, comment_kept bytes n (omega (arith, three)), lt)),
    ) refl

cut_after_preamble : (bytes : List ℕ) (n : ℕ) → IsPreamble bytes → preamble_size bytes ≤ n → n ≤ length bytes → preamble_fault (take n bytes) ≡ None
cut_after_preamble bytes n h le inside =
    let len : length (take n bytes) ≡ n = length-take-le n bytes inside in
    rw (
      le-ltb (length (take n bytes)) 1 (omega (arith, len, le)),
      kept bytes n 0 247 (omega (arith, le)) h.opcode,
      le-ltb (length (take n bytes)) 2 (omega (arith, len, le)),
      kept bytes n 1 202 (omega (arith, le)) h.identifier,
      le-ltb (length (take n bytes)) 3 (omega (arith, len, le)),
      le-ltb (length (take n bytes)) (preamble_size (take n bytes)) (omega (arith, len, comment_kept bytes n (omega (arith, le)), le)),
    ) refl

-- ---- the items

-- whole items, and one that is cut
pub record IsCutText (text : List ℕ) : Type 0 where
  pub items : List (List ℕ)
  pub rest : List ℕ
  pub sound : AreSound items
  pub parts : text ≡ text_of items ++ rest
  pub cut : IsCut rest

cut_text : (items : List (List ℕ)) (n : ℕ) → AreSound items → n ≤ length (text_of items) → IsCutText (take n (text_of items))
cut_text [] n h le = record { items = []; rest = []; sound = tt; parts = take_all n [] (omega arith); cut = nothing_is_cut }
cut_text (item ∷ before) n h le = by (λ within. cut_text before n h.0 within) (cases_lt n (length (text_of before))) (cases_lt n (length (text_of before ++ item)))
  where
    by : (n ≤ length (text_of before) → IsCutText (take n (text_of before))) → (n < length (text_of before)) ⊎ (length (text_of before) ≤ n) → (n < length (text_of before ++ item)) ⊎ (length (text_of before ++ item) ≤ n)
        → IsCutText (take n (text_of before ++ item))
    by earlier_cut (inl earlier) whole =
        let within : n ≤ length (text_of before) = omega (arith, earlier) in
        let r = earlier_cut within in
        record { items = r.items; rest = r.rest; sound = r.sound; parts = take-append-le n (text_of before) item within ∙ r.parts; cut = r.cut }
    by earlier_cut (inr later) (inl within) =
        let k = n - length (text_of before) in
        let all : n ≡ length (text_of before) + k = omega (arith, later) in
        record {
          items = before;
          rest = take k item;
          sound = h.0;
          parts = ap (λ m. take m (text_of before ++ item)) all ∙ take-append-add (text_of before) item k;
          cut = item_is_cut item k h.1 (omega (arith, within, later, length-append (text_of before) item));
        }
    by earlier_cut (inr later) (inr whole) = record {
      items = item ∷ before;
      rest = [];
      sound = h;
      parts = take_all n (text_of before ++ item) whole ∙ sym (append-nil (text_of before ++ item));
      cut = nothing_is_cut;
    }

pub cut_files_are_short : CutFilesAreShort
cut_files_are_short bytes items n h le = by (cases_lt n (preamble_size bytes))
  where
    prefix : IsPreamble bytes
    prefix = preamble_of bytes h.begins

    by : (n < preamble_size bytes) ⊎ (preamble_size bytes ≤ n) → IsFirstFault (take n bytes) Short
    by (inl within) = rw (cut_in_preamble bytes n prefix within) refl
    by (inr after) =
        let size = preamble_size bytes in
        let m = n - size in
        let all : n ≡ size + m = omega (arith, after) in
        let short : m ≤ length (text_of items) = omega (arith, le, all) in
        let r = cut_text items m h.sound short in
        let room : length (drop size bytes) ≡ length (text_of items) + length (248 ∷ h.unused) = ap length h.whole ∙ length-append (text_of items) (248 ∷ h.unused) in
        let inside : n ≤ length bytes = omega (arith, room, length-drop size bytes, le) in
        let size_kept : preamble_size (take n bytes) ≡ size = comment_kept bytes n (omega (arith, after)) in
        let text : drop (preamble_size (take n bytes)) (take n bytes) ≡ text_of r.items ++ r.rest =
        ap (λ k. drop k (take n bytes)) size_kept ∙ ap (λ k. drop size (take k bytes)) all ∙ drop-take size m bytes ∙ ap (take m) h.whole
        ∙ take-append-le m (text_of items) (248 ∷ h.unused) short ∙ r.parts in
        rw (cut_after_preamble bytes n prefix after inside) (record { items = r.items; rest = r.rest; sound = r.sound; text = text; after = inl (inl (r.cut, refl)) })
