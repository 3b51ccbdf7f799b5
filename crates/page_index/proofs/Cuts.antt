-- A document that is cut is truncated where it is cut.
use Rattle.std.proofs.Common.{◌≡◌, ◌∙◌, ℕ, zero, suc, ◌+◌, ◌-◌, ◌<◌, ◌≤◌, ◌⊎◌, inl, inr, Bool, true, false, cond, List, [], ◌∷◌, ◌++◌, length, take, drop, replicate, Option, Some, None, refl, sym, ap, subst, arith}
use Rattle.std.specs.Prelude.{not, ◌||◌, ◌==◌, if◌then◌else◌, is_some, nat_lt, slice_index, IsTrue}
use Rattle.std.proofs.lemmas.Bool.{and_parts, cases_Bool, cases_lt, eqb-true, le-ltb, lt-ltb}
use Rattle.std.proofs.lemmas.List.{append-nil, drop-take, get_or-take, length-append, length-take-le, take-append-le, take-take}
use Rattle.std.proofs.Math.Seq.{take-append-add}
use Rattle.big_endian.specs.Numbers.{signed_of}
use Rattle.big_endian.specs.Fields.{Field, judge, signed_at}
use Rattle.dvi_commands.specs.Spelling.{DviCommand, Preamble, Pre, PostPost, Spells, spelling}
use Rattle.dvi_commands.specs.Refusal.{fixed_size, gives_negative_length, may_stand, refusal, size_of, text_size}
use Rattle.dvi_commands.specs.Reading.{Placed}
use Rattle.dvi_commands.specs.declared.command.CommandFault.{CommandFault}
use Rattle.dvi_commands.specs.declared.command.CommandFault.TheVariants as command_fault
use Rattle.dvi_commands.specs.declared.command.Context.{Context}
use Rattle.dvi_commands.proofs.OneCommand.{lengths_alike}
use Rattle.dvi_commands.proofs.Prefix.{size-spelling}
use Rattle.dvi_commands.proofs.Refusals.{spelled_is_not_refused}
use Rattle.page_index.specs.Judged.{postpost_fault, postpost_fields, preamble_fault, preamble_fields, tail_fault}
use Rattle.page_index.specs.Document.{IsSound, Reading, Sound, context_after, end_of, is_ended, post_at, text_of, whole_fault}
use Rattle.page_index.specs.Faults.{FaultAfter, FaultAtCommand, FaultWithin, is_postpost_at}
use Rattle.page_index.specs.Laws.{CutDocumentsAreTruncated}
use Rattle.page_index.specs.declared.faults.DocFault.TheVariants.{Truncated}
use Rattle.page_index.proofs.Ended.{text_length}
use Rattle.page_index.proofs.Fields.{AreNamed}
use Rattle.page_index.proofs.FirstFault.{is_post_post, is_pre}
use Rattle.page_index.proofs.Total.{after_end, after_within, if_false, if_true}

-- ---- a command that is cut

passed : (undefined allowed cut negative short : Bool) (u m s n t : CommandFault)
    → (if undefined then Some u else if not allowed then Some m else if cut then Some s else if negative then Some n else if short then Some t else None) ≡ None
    → (undefined ≡ false) × (allowed ≡ true) × (negative ≡ false)
passed true allowed cut negative short u m s n t h = absurd cc
passed false false cut negative short u m s n t h = absurd cc
passed false true true negative short u m s n t h = absurd cc
passed false true false true short u m s n t h = absurd cc
passed false true false false true u m s n t h = absurd cc
passed false true false false false u m s n t h = (refl, refl, refl)

-- what the fixed fields give, where they are all before the cut
module _ (op : ℕ) (after : List ℕ) (m : ℕ) (known : op ≤ 249) (room : fixed_size op ≤ m) where
  fields_kept : take (fixed_size op) (take m after) ≡ take (fixed_size op) after
  fields_kept = take-take (fixed_size op) m after room

  text_kept : text_size op (take m after) ≡ text_size op after
  text_kept = sym (lengths_alike op (take m after) known).0 ∙ ap (text_size op) fields_kept ∙ (lengths_alike op after known).0

  sign_kept : gives_negative_length op (take m after) ≡ gives_negative_length op after
  sign_kept = sym (lengths_alike op (take m after) known).1 ∙ ap (gives_negative_length op) fields_kept ∙ (lengths_alike op after known).1

cut_command : (place : Context) (c : DviCommand) (bytes : List ℕ) (k : ℕ) → Spells c bytes → IsTrue (may_stand place (slice_index bytes 0)) → k < length bytes → refusal place (take k bytes) ≡ Some command_fault.Short
cut_command place c [] k h allowed lt = absurd (omega (arith, lt))
cut_command place c (op ∷ after) zero h allowed lt = refl
cut_command place c (op ∷ after) (suc m) h allowed lt = by (cases_lt m (fixed_size op))
  where
    none : refusal place (op ∷ after) ≡ None
    none = ap (refusal place) (sym (append-nil (op ∷ after))) ∙ spelled_is_not_refused place c (op ∷ after) [] h allowed

    tests : (nat_lt 249 op ≡ false) × (may_stand place op ≡ true) × (gives_negative_length op after ≡ false)
    tests = passed (nat_lt 249 op) (may_stand place op) (nat_lt (length after) (fixed_size op)) (gives_negative_length op after) (nat_lt (length after) (fixed_size op + text_size op after)) _ _ _ _ _ none

    known : op ≤ 249
    known = grind (arith, tests.0)

    whole : 1 + fixed_size op + text_size op after ≡ suc (length after)
    whole = ap size_of (sym (append-nil (op ∷ after))) ∙ size-spelling c (op ∷ after) [] h

    len : length (take m after) ≡ m
    len = length-take-le m after (omega (arith, lt))

    by : (m < fixed_size op) ⊎ (fixed_size op ≤ m) → refusal place (op ∷ take m after) ≡ Some command_fault.Short
    by (inl few) = rw (tests.0, tests.1, lt-ltb (length (take m after)) (fixed_size op) (omega (arith, len, few))) refl
    by (inr room) = rw (
      tests.0,
      tests.1,
      le-ltb (length (take m after)) (fixed_size op) (omega (arith, len, room)),
      sign_kept op after m known room,
      tests.2,
      lt-ltb (length (take m after)) (fixed_size op + text_size op (take m after)) (omega (arith, len, text_kept op after m known room, whole, lt)),
    ) refl

-- ---- fields of which the last ones are cut off

abbrev IsCutAt : {F : Type 0} → ℕ → List (Field F) → Type 0
IsCutAt n [] = ⊥
IsCutAt n (f ∷ fields) = (n < f.until) ⊎ ((f.until ≤ n) × (f.right ≡ true) × IsCutAt n fields)

judge_cut : {F : Type 0} (n : ℕ) (missing : F) (fields : List (Field F)) → IsCutAt n fields → judge n missing fields ≡ Some missing
judge_cut n missing [] cut = elim cut [ ]
judge_cut n missing (f ∷ fields) (inl here) = rw (lt-ltb n f.until here) refl
judge_cut n missing (f ∷ fields) (inr later) = rw (le-ltb n f.until later.0, later.1) (judge_cut n missing fields later.2)

abbrev AreRight : {F : Type 0} → List (Field F) → Type 0
AreRight [] = Unit {0}
AreRight (f ∷ fields) = (f.right ≡ true) × AreRight fields

are_right : {F : Type 0} (len : ℕ) (missing : F) (fields : List (Field F)) → AreNamed fields → judge len missing fields ≡ None → AreRight fields
are_right len missing [] named h = tt
are_right len missing (f ∷ fields) named h = by (nat_lt len f.until) f.right f.fault named.0 h (are_right len missing fields named.1)
  where
    by : (less right : Bool) (fault : Option _) → (is_some fault || right) ≡ true → cond less (Some missing) (cond right (judge len missing fields) fault) ≡ None
        → (judge len missing fields ≡ None → AreRight fields) → (right ≡ true) × AreRight fields
    by true right fault n h rest = cc
    by false true fault n h rest = (refl, rest h)
    by false false None n h rest = cc
    by false false (Some x) n h rest = cc

-- bytes and numbers before the cut
byte_kept : (bytes : List ℕ) (n i v : ℕ) → i < n → (slice_index bytes i == v) ≡ true → (slice_index (take n bytes) i == v) ≡ true
byte_kept bytes n i v lt e = ap (λ b. b == v) (get_or-take n bytes i 0 lt) ∙ e

number_kept : (bytes : List ℕ) (n i : ℕ) → i + 4 ≤ n → signed_at (take n bytes) i 4 ≡ signed_at bytes i 4
number_kept bytes n i le =
    let all : n ≡ i + (n - i) = omega arith in
    ap signed_of (ap (λ k. take 4 (drop i (take k bytes))) all ∙ (ap (take 4) (drop-take i (n - i) bytes) ∙ take-take 4 (n - i) (drop i bytes) (omega arith)))

-- ---- the preamble

cut_preamble : (res : ℕ) (bytes : List ℕ) (n : ℕ) → preamble_fault res bytes ≡ None → n < 15 + slice_index bytes 14 → IsCutAt n (preamble_fields res (take n bytes))
cut_preamble res bytes n none lt = at_1 (cases_lt n 1)
  where
    right : AreRight (preamble_fields res bytes)
    right = are_right (length bytes) (Truncated (length bytes)) (preamble_fields res bytes) (refl, (refl, (refl, (refl, (refl, (refl, (refl, (refl, tt)))))))) none

    at_15 : 14 ≤ n → (n < 15) ⊎ (15 ≤ n) → IsCutAt n (drop 6 (preamble_fields res (take n bytes)))
    at_15 before (inl cut) = inl cut
    at_15 before (inr le) = inr (le, refl, inl (omega (arith, lt, get_or-take n bytes 14 0 (omega (arith, le)))))

    at_14 : 10 ≤ n → (n < 14) ⊎ (14 ≤ n) → IsCutAt n (drop 4 (preamble_fields res (take n bytes)))
    at_14 before (inl cut) = inl cut
    at_14 before (inr le) = inr (
      le,
      rw (number_kept bytes n 10 (omega (arith, le))) right.1.1.1.1.0,
      inr (le, rw (number_kept bytes n 2 (omega (arith, le)), number_kept bytes n 6 (omega (arith, le)), number_kept bytes n 10 (omega (arith, le))) right.1.1.1.1.1.0, at_15 le (cases_lt n 15)),
    )

    at_10 : 6 ≤ n → (n < 10) ⊎ (10 ≤ n) → IsCutAt n (drop 3 (preamble_fields res (take n bytes)))
    at_10 before (inl cut) = inl cut
    at_10 before (inr le) = inr (le, rw (number_kept bytes n 6 (omega (arith, le))) right.1.1.1.0, at_14 le (cases_lt n 14))

    at_6 : 2 ≤ n → (n < 6) ⊎ (6 ≤ n) → IsCutAt n (drop 2 (preamble_fields res (take n bytes)))
    at_6 before (inl cut) = inl cut
    at_6 before (inr le) = inr (le, rw (number_kept bytes n 2 (omega (arith, le))) right.1.1.0, at_10 le (cases_lt n 10))

    at_2 : 1 ≤ n → (n < 2) ⊎ (2 ≤ n) → IsCutAt n (drop 1 (preamble_fields res (take n bytes)))
    at_2 before (inl cut) = inl cut
    at_2 before (inr le) = inr (le, byte_kept bytes n 1 2 (omega (arith, le)) right.1.0, at_6 le (cases_lt n 6))

    at_1 : (n < 1) ⊎ (1 ≤ n) → IsCutAt n (preamble_fields res (take n bytes))
    at_1 (inl cut) = inl cut
    at_1 (inr le) = inr (le, byte_kept bytes n 0 247 (omega (arith, le)) right.0, at_2 le (cases_lt n 2))

preamble_length : (p : Preamble) (bytes : List ℕ) → Spells (Pre p) bytes → length bytes ≡ 15 + slice_index bytes 14
preamble_length p bytes h =
    let size : size_of (spelling (Pre p) 0 ++ []) ≡ length bytes = ap (λ (b : List ℕ). size_of (b ++ [])) (sym h.2) ∙ size-spelling (Pre p) bytes [] h in
    sym size ∙ ap (λ (b : List ℕ). 15 + slice_index b 14) (append-nil (spelling (Pre p) 0) ∙ sym h.2)

cut_start : (res : ℕ) (q : Placed) (k : ℕ) → IsSound res [] q → k < length q.bytes → preamble_fault res (take k q.bytes) ≡ Some (Truncated k)
cut_start res q k h lt =
    let is_247 : slice_index q.bytes 0 ≡ 247 = eqb-true _ _ h.allowed in
    let p = is_pre q.command q.bytes h.spelled is_247 in
    let spelled : Spells (Pre p.0) q.bytes = subst (λ (c : DviCommand). Spells c q.bytes) p.1 h.spelled in
    let right : preamble_fault res q.bytes ≡ None = subst (λ (c : DviCommand). whole_fault res [] q.at q.bytes c ≡ None) p.1 h.right in
    let len : length (take k q.bytes) ≡ k = length-take-le k q.bytes (omega (arith, lt)) in
    let cut = cut_preamble res q.bytes k right (omega (arith, lt, preamble_length p.0 q.bytes spelled)) in
    ap (λ m. judge m (Truncated m) (preamble_fields res (take k q.bytes))) len ∙ judge_cut k (Truncated k) (preamble_fields res (take k q.bytes)) cut

-- ---- PostPost

cut_postpost : (post : Option ℕ) (at : ℕ) (bytes : List ℕ) (n : ℕ) → postpost_fault post at bytes ≡ None → n < 6 → IsCutAt n (postpost_fields post at (take n bytes))
cut_postpost post at bytes n none lt = at_1 (cases_lt n 1)
  where
    right : AreRight (postpost_fields post at bytes)
    right = are_right (length bytes) (Truncated (at + length bytes)) (postpost_fields post at bytes) (refl, (refl, (refl, tt))) none

    at_5 : (n < 5) ⊎ (5 ≤ n) → IsCutAt n (drop 1 (postpost_fields post at (take n bytes)))
    at_5 (inl cut) = inl cut
    at_5 (inr le) = inr (le, rw (number_kept bytes n 1 (omega (arith, le))) right.1.0, inl lt)

    at_1 : (n < 1) ⊎ (1 ≤ n) → IsCutAt n (postpost_fields post at (take n bytes))
    at_1 (inl cut) = inl cut
    at_1 (inr le) = inr (le, refl, at_5 (cases_lt n 5))

cut_end : (res : ℕ) (r : Reading) (q : Placed) (k : ℕ) → IsSound res r q → slice_index q.bytes 0 ≡ 249 → k < length q.bytes → postpost_fault (post_at r) (end_of r) (take k q.bytes) ≡ Some (Truncated (end_of r + k))
cut_end res r q k h is_249 lt =
    let p = is_post_post q.command q.bytes h.spelled is_249 in
    let spelled : Spells (PostPost p.0 p.1) q.bytes = subst (λ (c : DviCommand). Spells c q.bytes) p.2 h.spelled in
    let right : postpost_fault (post_at r) q.at q.bytes ≡ None = subst (λ (c : DviCommand). whole_fault res r q.at q.bytes c ≡ None) p.2 h.right in
    let there : postpost_fault (post_at r) (end_of r) q.bytes ≡ None = subst (λ (at : ℕ). postpost_fault (post_at r) at q.bytes ≡ None) h.place right in
    let six : length q.bytes ≡ 6 = ap length spelled.2 in
    let len : length (take k q.bytes) ≡ k = length-take-le k q.bytes (omega (arith, lt)) in
    let cut = cut_postpost (post_at r) (end_of r) q.bytes k there (omega (arith, lt, six)) in
    ap (λ m. judge m (Truncated (end_of r + m)) (postpost_fields (post_at r) (end_of r) (take k q.bytes))) len
    ∙ judge_cut k (Truncated (end_of r + k)) (postpost_fields (post_at r) (end_of r) (take k q.bytes)) cut

-- ---- after a sound reading a command is cut

first_kept : (bytes : List ℕ) (k v : ℕ) → 0 < v → slice_index (take k bytes) 0 ≡ v → slice_index bytes 0 ≡ v
first_kept bytes zero v some e = absurd (omega (arith, some, e))
first_kept bytes (suc k) v some e = sym (get_or-take (suc k) bytes 0 0 (omega arith)) ∙ e

cut_within : (res : ℕ) (r : Reading) (q : Placed) (k : ℕ) → IsSound res r q → k < length q.bytes → FaultWithin res r (take k q.bytes) (Truncated (end_of r + k))
cut_within res r q k h lt =
    elim (cases_Bool (is_postpost_at (context_after r) (take k q.bytes))) [
      | inl here ↦
          let both = and_parts (may_stand (context_after r) 249) (slice_index (take k q.bytes) 0 == 249) here in
          let is_249 : slice_index q.bytes 0 ≡ 249 = first_kept q.bytes k 249 (omega arith) (eqb-true _ _ both.1) in
          if_true _ (FaultAtCommand res r (take k q.bytes) (Truncated (end_of r + k))) here (cut_end res r q k h is_249 lt)
      | inr other ↦
          let len : length (take k q.bytes) ≡ k = length-take-le k q.bytes (omega (arith, lt)) in
          let short = cut_command (context_after r) q.command q.bytes k h.spelled h.allowed lt in
          if_false (postpost_fault (post_at r) (end_of r) (take k q.bytes) ≡ Some (Truncated (end_of r + k))) _ other
          (inl (command_fault.Short, short, ap (λ m. Truncated (end_of r + m)) (sym len)))
    ]

cut_after : (res : ℕ) (r : Reading) (q : Placed) (k : ℕ) → IsSound res r q → k < length q.bytes → FaultAfter res r (take k q.bytes) (Truncated (end_of r + k))
cut_after res [] q k h lt = let same : k ≡ 0 + k = omega arith in cut_start res q k h lt ∙ ap (λ m. Some (Truncated m)) same
cut_after res (p ∷ before) q k h lt =
    after_within res (p ∷ before) p.command (take k q.bytes) (Truncated (end_of (p ∷ before) + k)) h.unfinished (cut_within res (p ∷ before) q k h lt)

-- the sound reading up to the command that is cut, and what is left of this one
pub record IsCutReading (res : ℕ) (text : List ℕ) (n : ℕ) : Type 0 where
  pub reading : Reading
  pub rest : List ℕ
  pub sound : Sound res reading
  pub parts : text ≡ text_of reading ++ rest
  pub fault : FaultAfter res reading rest (Truncated n)

cut_reading : (res : ℕ) (r : Reading) (n : ℕ) → Sound res r → n < length (text_of r) → IsCutReading res (take n (text_of r)) n
cut_reading res [] n sound lt = absurd (omega (arith, lt))
cut_reading res (p ∷ before) n sound lt = by (λ within. cut_reading res before n sound.0 within) (cases_lt n (length (text_of before)))
  where
    by : (n < length (text_of before) → IsCutReading res (take n (text_of before)) n) → (n < length (text_of before)) ⊎ (length (text_of before) ≤ n) → IsCutReading res (take n (text_of before ++ p.bytes)) n
    by earlier_cut (inl earlier) =
        let c = earlier_cut earlier in
        record { reading = c.reading; rest = c.rest; sound = c.sound; parts = take-append-le n (text_of before) p.bytes (omega (arith, earlier)) ∙ c.parts; fault = c.fault }
    by earlier_cut (inr later) =
        let k = n - length (text_of before) in
        let all : n ≡ length (text_of before) + k = omega (arith, later) in
        let inside : k < length p.bytes = omega (arith, lt, later, length-append (text_of before) p.bytes) in
        let place : end_of before + k ≡ n = omega (arith, all, text_length res before sound.0) in
        record {
          reading = before;
          rest = take k p.bytes;
          sound = sound.0;
          parts = ap (λ m. take m (text_of before ++ p.bytes)) all ∙ take-append-add (text_of before) p.bytes k;
          fault = subst (λ m. FaultAfter res before (take k p.bytes) (Truncated m)) place (cut_after res before p k sound.1 inside);
        }

-- ---- the bytes after PostPost

abbrev four : List ℕ
four = replicate 4 223

cut_filler : (at k : ℕ) → k < 4 → tail_fault at (take k four) ≡ Some (Truncated (at + k))
cut_filler at zero lt = refl
cut_filler at (suc zero) lt = refl
cut_filler at (suc (suc zero)) lt = refl
cut_filler at (suc (suc (suc zero))) lt = refl
cut_filler at (suc (suc (suc (suc k)))) lt = absurd (omega (arith, lt))

cut_tail : (res : ℕ) (r : Reading) (k : ℕ) → is_ended r ≡ true → k < 4 → FaultAfter res r (take k four) (Truncated (end_of r + k))
cut_tail res [] k ended lt = cc
cut_tail res (p ∷ before) k ended lt = after_end res (p ∷ before) p.command (take k four) (Truncated (end_of (p ∷ before) + k)) ended (cut_filler (end_of (p ∷ before)) k lt)

pub cut_documents_are_truncated : CutDocumentsAreTruncated
cut_documents_are_truncated res bytes reading n d four_filler lt =
    let r = by (cases_lt n (length (text_of reading))) in
    inr (few, r.0, r.1, r.2, r.3, r.4)
  where
    few : length (take n bytes) ≤ 67108864
    few = omega (arith, length-take-le n bytes (omega (arith, lt)), d.fits, lt)

    room : length bytes ≡ length (text_of reading) + 4
    room = ap length four_filler ∙ length-append (text_of reading) four

    by : (n < length (text_of reading)) ⊎ (length (text_of reading) ≤ n)
        → (r : Reading) × (rest : List ℕ) × Sound res r × (take n bytes ≡ text_of r ++ rest) × FaultAfter res r rest (Truncated n)
    by (inl within) =
        let c = cut_reading res reading n d.sound within in
        (c.reading, c.rest, c.sound, ap (take n) four_filler ∙ take-append-le n (text_of reading) four (omega (arith, within)) ∙ c.parts, c.fault)
    by (inr after) =
        let k = n - length (text_of reading) in
        let all : n ≡ length (text_of reading) + k = omega (arith, after) in
        let place : end_of reading + k ≡ n = omega (arith, all, text_length res reading d.sound) in
        let short : k < 4 = omega (arith, lt, room, all) in (
          reading,
          take k four,
          d.sound,
          ap (take n) four_filler ∙ ap (λ m. take m (text_of reading ++ four)) all ∙ take-append-add (text_of reading) four k,
          subst (λ m. FaultAfter res reading (take k four) (Truncated m)) place (cut_tail res reading k d.ended short),
        )
