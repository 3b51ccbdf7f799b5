-- The registers that a pen may have, and how the code's numbers are read.
use Rattle.std.proofs.Common.{◌≡◌, ℕ, ◌+◌, ◌*◌, ◌^◌, ◌<◌, ◌≤◌, ℤ, ◌+ℤ◌, ◌-ℤ◌, Bool, true, false, cond, List, [], ◌∷◌, Ok, IsTrue, w64, to_z, of_z, arith, refl}
use Rattle.std.specs.Prelude.{unsigned_abs}
use Rattle.std.specs.List.{AllByRecursion}
use Rattle.std.proofs.lemmas.Int.{ints, to_z-of_z, fits_signed_from_abs}
use Rattle.pixel_round.specs.Pixels.{Fraction, round}
use Rattle.packed_rows.specs.declared.offset.TheConstants.{MAX_COORDINATE}
use Rattle.drift_rules.specs.declared.flat.Registers.{Registers}
use Rattle.drift_rules.specs.Position.{State, AreNear, KeepsNear, after_drift, at_h, at_v, on_entry, is_held, moved_over, advance_by, zeros}
use Rattle.drift_rules.specs.Bounds.{AreHeld, IsHeldState}
use Rattle.drift_rules.proofs.Near.{near_drifted, zeros_are_near}

-- a number of at most 42 bits is read as it was written
pub kept : (z : ℤ) → unsigned_abs z ≤ MAX_COORDINATE → to_z w64 (of_z w64 z) ≡ z
kept z small = to_z-of_z w64 z (fits_signed_from_abs w64 z (omega (arith, small)))

abbrev pub read_again : Registers → Registers
read_again r = record {
  h = to_z w64 (of_z w64 r.h);
  v = to_z w64 (of_z w64 r.v);
  w = to_z w64 (of_z w64 r.w);
  x = to_z w64 (of_z w64 r.x);
  y = to_z w64 (of_z w64 r.y);
  z = to_z w64 (of_z w64 r.z);
  hh = to_z w64 (of_z w64 r.hh);
  vv = to_z w64 (of_z w64 r.vv);
}

-- all registers are read as they were written
pub record AreKept (r : Registers) : Type 0 where
  pub h : to_z w64 (of_z w64 r.h) ≡ r.h
  pub v : to_z w64 (of_z w64 r.v) ≡ r.v
  pub w : to_z w64 (of_z w64 r.w) ≡ r.w
  pub x : to_z w64 (of_z w64 r.x) ≡ r.x
  pub y : to_z w64 (of_z w64 r.y) ≡ r.y
  pub z : to_z w64 (of_z w64 r.z) ≡ r.z
  pub hh : to_z w64 (of_z w64 r.hh) ≡ r.hh
  pub vv : to_z w64 (of_z w64 r.vv) ≡ r.vv

pub all_kept : (c : Fraction) (r : Registers) → AreHeld c r → AreKept r
all_kept c r held = record {
  h = kept r.h (omega (arith, held.h));
  v = kept r.v (omega (arith, held.v));
  w = kept r.w (omega (arith, held.w));
  x = kept r.x (omega (arith, held.x));
  y = kept r.y (omega (arith, held.y));
  z = kept r.z (omega (arith, held.z));
  hh = kept r.hh (omega (arith, held.hh));
  vv = kept r.vv (omega (arith, held.vv));
}

pub registers_kept : (c : Fraction) (r : Registers) → AreHeld c r → read_again r ≡ r
registers_kept c r held =
    let k = all_kept c r held in
    rw (k.h, k.v, k.w, k.x, k.y, k.z, k.hh, k.vv) refl

pub sum_kept : (a b : ℤ) → unsigned_abs a ≤ 2 ^ 41 → unsigned_abs b ≤ 2 ^ 41 → to_z w64 (of_z w64 (to_z w64 (of_z w64 a) +ℤ to_z w64 (of_z w64 b))) ≡ a +ℤ b
sum_kept a b p q =
    let m = kept a (omega (arith, p)) in
    let n = kept b (omega (arith, q)) in
    let s = kept (a +ℤ b) (omega (arith, ints, p, q)) in
    rw (m, n, s) refl

-- a place in dots that is rounded anew, and one that has grown
pub anew : (test : Bool) (dots a b : ℤ) → true ≡ test → dots ≡ a → unsigned_abs dots ≤ 2 ^ 41 → to_z w64 (of_z w64 dots) ≡ cond test a b
anew test dots a b is e small = rw (← is, kept dots (omega (arith, small)), e) refl

pub grown : (test : Bool) (old dots a b : ℤ) → false ≡ test → dots ≡ b → unsigned_abs old < 2 ^ 40 → unsigned_abs dots ≤ 2 ^ 41
    → to_z w64 (of_z w64 (to_z w64 (of_z w64 old) +ℤ to_z w64 (of_z w64 dots))) ≡ cond test a (old +ℤ b)
grown test old dots a b is e p q = rw (← is, sum_kept old dots (omega (arith, p)) q, e) refl

pub zeros_are_held : (c : Fraction) → AreHeld c zeros
zeros_are_held c = record { h = omega arith; v = omega arith; w = omega arith; x = omega arith; y = omega arith; z = omega arith; hh = omega arith; vv = omega arith; near = zeros_are_near c }

-- a pen's places are near, the saved ones too
saved_are_near : (c : Fraction) (saved : List Registers) → AllByRecursion (AreHeld c) saved → AllByRecursion (AreNear c) saved
saved_are_near c [] held = tt
saved_are_near c (r ∷ saved) held = (held.0.near, saved_are_near c saved held.1)

pub held_is_near : (c : Fraction) (s : State) → IsHeldState c s → KeepsNear c s
held_is_near c s held = record { now = held.now.near; saved = saved_are_near c s.saved held.saved }

-- the registers as a packet begins
pub held_entered : (c : Fraction) (r : Registers) → AreHeld c r → AreHeld c (on_entry r)
held_entered c r held = record {
  h = held.h;
  v = held.v;
  w = omega arith;
  x = omega arith;
  y = omega arith;
  z = omega arith;
  hh = held.hh;
  vv = held.vv;
  near = record { across = held.near.across; down = held.near.down };
}

-- ---- at a new place

near_bounded : (place rounded : ℤ) (m : ℕ) → unsigned_abs (place -ℤ rounded) ≤ 2 → unsigned_abs rounded ≤ 512 * m + 1 → m ≤ 2147483647 → unsigned_abs place < 2 ^ 40
near_bounded place rounded m near bounded small = grind (arith, ints)

drifted_bounded : (place rounded : ℤ) (m : ℕ) → unsigned_abs rounded ≤ 512 * m + 1 → m ≤ 2147483647 → unsigned_abs (after_drift place rounded) < 2 ^ 40
drifted_bounded place rounded m bounded small = near_bounded (after_drift place rounded) rounded m (near_drifted place rounded) bounded small

pub held_at_h : (c : Fraction) (r : Registers) (h place : ℤ) → AreHeld c r → unsigned_abs h ≤ 2147483647 → unsigned_abs (round c h) ≤ 512 * unsigned_abs h + 1 → AreHeld c (at_h c r h place)
held_at_h c r h place held small bounded = record {
  h = small;
  v = held.v;
  w = held.w;
  x = held.x;
  y = held.y;
  z = held.z;
  hh = drifted_bounded place (round c h) (unsigned_abs h) bounded small;
  vv = held.vv;
  near = record { across = near_drifted place (round c h); down = held.near.down };
}

pub held_at_v : (c : Fraction) (r : Registers) (v place : ℤ) → AreHeld c r → unsigned_abs v ≤ 2147483647 → unsigned_abs (round c v) ≤ 512 * unsigned_abs v + 1 → AreHeld c (at_v c r v place)
held_at_v c r v place held small bounded = record {
  h = held.h;
  v = small;
  w = held.w;
  x = held.x;
  y = held.y;
  z = held.z;
  hh = held.hh;
  vv = drifted_bounded place (round c v) (unsigned_abs v) bounded small;
  near = record { across = held.near.across; down = near_drifted place (round c v) };
}

-- what the code makes at a new h, where `dots` is the rounded h and `hh` the column after the drift
-- rule; and at a new v
pub at_h_kept : (c : Fraction) (r : Registers) (h column dots hh : ℤ) → AreHeld c r → unsigned_abs h ≤ 2147483647 → unsigned_abs column ≤ MAX_COORDINATE
    → dots ≡ round c (to_z w64 (of_z w64 h)) → unsigned_abs dots ≤ 512 * unsigned_abs (to_z w64 (of_z w64 h)) + 1
    → hh ≡ after_drift (to_z w64 (of_z w64 column)) (to_z w64 (of_z w64 dots))
    → (read_again (record r { h = h; hh = hh }) ≡ at_h c r h column) × AreHeld c (at_h c r h column)
at_h_kept c r h column dots hh held small near value bounded drift =
    let place : to_z w64 (of_z w64 h) ≡ h = kept h (omega (arith, small)) in
    let rounded : dots ≡ round c h = rw place at value in
    let within : unsigned_abs dots ≤ 512 * unsigned_abs h + 1 = rw place at bounded in
    let within' : unsigned_abs (round c h) ≤ 512 * unsigned_abs h + 1 = rw (← rounded) within in
    let drift' : hh ≡ after_drift column dots = rw (kept column near, kept dots (omega (arith, within, small))) at drift in
    let drifted' : hh ≡ after_drift column (round c h) = rw rounded at drift' in
    let after = held_at_h c r h column held small within' in
    (rw drifted' (registers_kept c (at_h c r h column) after), after)

pub at_v_kept : (c : Fraction) (r : Registers) (v row dots vv : ℤ) → AreHeld c r → unsigned_abs v ≤ 2147483647 → unsigned_abs row ≤ MAX_COORDINATE
    → dots ≡ round c (to_z w64 (of_z w64 v)) → unsigned_abs dots ≤ 512 * unsigned_abs (to_z w64 (of_z w64 v)) + 1
    → vv ≡ after_drift (to_z w64 (of_z w64 row)) (to_z w64 (of_z w64 dots))
    → (read_again (record r { v = v; vv = vv }) ≡ at_v c r v row) × AreHeld c (at_v c r v row)
at_v_kept c r v row dots vv held small near value bounded drift =
    let place : to_z w64 (of_z w64 v) ≡ v = kept v (omega (arith, small)) in
    let rounded : dots ≡ round c v = rw place at value in
    let within : unsigned_abs dots ≤ 512 * unsigned_abs v + 1 = rw place at bounded in
    let within' : unsigned_abs (round c v) ≤ 512 * unsigned_abs v + 1 = rw (← rounded) within in
    let drift' : vv ≡ after_drift row dots = rw (kept row near, kept dots (omega (arith, within, small))) at drift in
    let drifted' : vv ≡ after_drift row (round c v) = rw rounded at drift' in
    let after = held_at_v c r v row held small within' in
    (rw drifted' (registers_kept c (at_v c r v row) after), after)

-- ---- what the code answers, as the state after

-- a character that is set moves h and hh alone
pub set_kept : (c : Fraction) (r m : Registers) (saved : List Registers) (width : ℤ) → IsTrue (is_held (r.h +ℤ width)) × (m ≡ moved_over c r width (round c width)) → AreHeld c m
    → advance_by c (record { now = r; saved = saved }) width (round c width)
    ≡ Ok (record { now = record r { h = to_z w64 (of_z w64 m.h); hh = to_z w64 (of_z w64 m.hh) }; saved = saved })
set_kept c r m saved width e held =
    let k = all_kept c m held in
    rw (k.h, k.hh, e.1, e.0) refl
