-- The preamble, where it was judged.
use Rattle.std.proofs.Common.{◌≡◌, ℕ, ◌+◌, ◌<◌, ◌≤◌, ℤ, pos, negsuc, Bool, true, false, cond, List, [], ◌∷◌, ◌++◌, length, take, drop, refl, sym, ap, subst, ◌∙◌, arith, eqb-true, Option, Some, None, length-take, length-drop}
use Rattle.std.specs.Prelude.{slice_index, slice_range, IsTrue, ◌==◌, nat_lt, if◌then◌else◌}
use Rattle.std.specs.Ordering.{int_cmp}
use Rattle.std.specs.FinMap.{empty, get, get-empty}
use Rattle.std.proofs.lemmas.Bool.{le-ltb}
use Rattle.std.proofs.lemmas.List.{take_at}
use Rattle.big_endian.specs.Numbers.{IsSigned, signed_of}
use Rattle.big_endian.specs.Fields.{signed_at}
use Rattle.big_endian.proofs.Bytes.{length-number_bytes, signed_is_read_again}
use Rattle.dvi_commands.specs.Spelling.{DviCommand, Preamble, Pre, Spells, spelling, quad}
use Rattle.dvi_commands.specs.Refusal.{may_stand, refusal}
use Rattle.dvi_commands.specs.Reading.{Placed, command_of}
use Rattle.dvi_commands.specs.declared.command.CommandFault.{CommandFault}
use Rattle.dvi_commands.specs.declared.command.Context.TheVariants as context
use Rattle.dvi_commands.proofs.Commands.{parted}
use Rattle.dvi_commands.proofs.Determined.{determined_by_bytes}
use Rattle.page_index.specs.Judged.{preamble_fault, preamble_fields}
use Rattle.page_index.specs.Document.{context_after, is_bop, is_post, is_postpost, key_or, preamble_or, whole_fault}
use Rattle.page_index.specs.Fonts.{Fonts}
use Rattle.page_index.specs.Walked.{IsBegun, IsReadTo, after_preamble}
use Rattle.page_index.specs.declared.faults.DocFault.{DocFault}
use Rattle.page_index.specs.declared.preamble.Scaled.{Scaled}
use Rattle.page_index.proofs.Fields.{AllThere, preamble_same, preamble_there}

-- ---- it is not refused

pub unrefused : (res : ℕ) (bytes : List ℕ) → preamble_fault res bytes ≡ None → refusal context.Start bytes ≡ None
unrefused res bytes right = by bytes there.0 (first bytes right) there.1.1.1.1.1.1.0 there.1.1.1.1.1.1.1.0
  where
    there : AllThere (length bytes) (preamble_fields res bytes)
    there = preamble_there res bytes right

    first : (bytes : List ℕ) → preamble_fault res bytes ≡ None → slice_index bytes 0 ≡ 247
    first [] h = cc
    first (b ∷ text) h = eqb-true b 247 (told (nat_lt (length (b ∷ text)) 1) (b == 247) _ _ _ h)
      where
        told : (less is : Bool) (w : DocFault) (o : Option DocFault) (x : DocFault) → cond less (Some w) (cond is o (Some x)) ≡ None → is ≡ true
        told true is w o x h = cc
        told false true w o x h = refl
        told false false w o x h = cc

    by : (text : List ℕ) → 1 ≤ length text → slice_index text 0 ≡ 247 → 15 ≤ length text → 15 + slice_index text 14 ≤ length text → refusal context.Start text ≡ None
    by [] some op long whole = absurd (omega (arith, some))
    by (b ∷ text) some op long whole =
        let is : b ≡ 247 = op in
        let fields : nat_lt (length text) 14 ≡ false = le-ltb (length text) 14 (omega (arith, long)) in
        let comment : nat_lt (length text) (14 + slice_index text 13) ≡ false = le-ltb (length text) (14 + slice_index text 13) (omega (arith, whole)) in
        ap (λ (n : ℕ). refusal context.Start (n ∷ text)) is ∙ rw (fields, comment) refl

pub not_refused : (bytes : List ℕ) (s : Scaled) (f : CommandFault) → IsBegun bytes s → refusal context.Start bytes ≡ Some f → ⊥
not_refused bytes s f b h =
    let bad : Some f ≡ None = sym h ∙ unrefused s.units.res bytes b.right in
    cc

-- ---- it is a preamble

is_pre : (bytes : List ℕ) (c : DviCommand) → Spells c bytes → slice_index bytes 0 ≡ 247 → (p : Preamble) × (c ≡ Pre p)
is_pre [] c h op = cc
is_pre (b ∷ fields) c h op =
    let first : b ≡ 247 = op in
    (_, determined_by_bytes c (b ∷ fields) h ∙ ap (λ (n : ℕ). command_of (n ∷ fields)) first)

-- a number of four bytes at the beginning is read again
four : (z : ℤ) (more : List ℕ) → IsSigned 4 z → signed_of (take 4 (quad z ++ more)) ≡ z
four z more h = ap signed_of (take_at (quad z) more 4 (length-number_bytes 4 z (omega arith) (omega arith))) ∙ signed_is_read_again 4 z (omega arith) (omega arith) h

module _ (bytes : List ℕ) (s : Scaled) (b : IsBegun bytes s) (c : DviCommand) (next : ℕ) (spelled : Spells c (slice_range bytes 0 next)) (some : 0 < next) (within : next ≤ length bytes)
    (allowed : IsTrue (may_stand context.Start (slice_index bytes 0))) where
  abbrev q : Placed
  q = record { at = 0; command = c; bytes = slice_range bytes 0 next }

  whole : bytes ≡ q.bytes ++ drop next bytes
  whole = parted bytes 0 next some

  is_247 : slice_index bytes 0 ≡ 247
  is_247 = eqb-true (slice_index bytes 0) 247 allowed

  prefix : (text more : List ℕ) → 0 < length text → slice_index (text ++ more) 0 ≡ slice_index text 0
  prefix [] more h = absurd (omega (arith, h))
  prefix (x ∷ text) more h = refl

  size : length q.bytes ≡ next
  size = grind (arith, length-take, length-drop)

  op : slice_index q.bytes 0 ≡ 247
  op = sym (prefix q.bytes (drop next bytes) (omega (arith, size, some))) ∙ ap (λ (t : List ℕ). slice_index t 0) (sym whole) ∙ is_247

  pre : (p : Preamble) × (c ≡ Pre p)
  pre = is_pre q.bytes c spelled op

  text : Spells (Pre pre.0) q.bytes
  text = subst (λ (x : DviCommand). Spells x q.bytes) pre.1 spelled

  abbrev p : Preamble
  p = pre.0

  all : bytes ≡ spelling (Pre pre.0) 0 ++ drop next bytes
  all = whole ∙ ap (λ (t : List ℕ). t ++ drop next bytes) text.2

  right : preamble_fault s.units.res q.bytes ≡ None
  right =
      ap (preamble_fault s.units.res) text.2 ∙ sym (preamble_same s.units.res pre.0 (drop next bytes))
      ∙ ap (preamble_fault s.units.res) (sym all) ∙ b.right

  num : signed_at bytes 2 4 ≡ p.num
  num = ap (λ (t : List ℕ). signed_at t 2 4) all ∙ four p.num [] text.1.2

  den : signed_at bytes 6 4 ≡ p.den
  den = ap (λ (t : List ℕ). signed_at t 6 4) all ∙ four p.den [] text.1.3

  mag : signed_at bytes 10 4 ≡ p.mag
  mag = ap (λ (t : List ℕ). signed_at t 10 4) all ∙ four p.mag [] text.1.4

  pub begun : (fonts : Fonts) → fonts ≡ empty → IsReadTo bytes s (after_preamble next) [] fonts
  begun fonts none = record {
    reading = q ∷ [];
    fits = b.fits;
    sound = (tt, record { unfinished = refl; place = refl; spelled = spelled; allowed = rw op refl; right = ap (whole_fault s.units.res [] 0 q.bytes) pre.1 ∙ right });
    text = sym whole;
    within = within;
    preamble = record {
      preamble = p;
      is = ap (preamble_or None) pre.1;
      scaled = record { num_is = sym num ∙ b.scaled.num_is; den_is = sym den ∙ b.scaled.den_is; mag_is = sym mag ∙ b.scaled.mag_is; units = b.scaled.units; converts = b.scaled.converts };
    };
    follows = record {
      at = omega (arith, size);
      stands = stands;
      begun = ap (λ (x : DviCommand). if is_bop x then 1 else 0) (sym pre.1);
      few = omega arith;
      bop = ap (λ (x : DviCommand). if is_bop x then pos 0 else negsuc 0) (sym pre.1);
      post = ap (λ (x : DviCommand). if is_post x then Some 0 else None) (sym pre.1);
      ended = ap is_postpost (sym pre.1);
      count = refl;
      spans = λ i t e. absurd cc;
      current = λ h. cc;
      keys = λ k. ap (λ (m : Fonts). get m k) none ∙ get-empty int_cmp k ∙ ap (key_or None k) (sym pre.1);
    };
  }
    where
      stands : context.Between ≡ context_after (q ∷ [])
      stands = ap (λ (x : DviCommand). context_after (record { at = 0; command = x; bytes = slice_range bytes 0 next } ∷ [])) (sym pre.1)
