-- Each step keeps the pixel places within 2 of the rounded ones.
use Rattle.std.proofs.Common.{◌≡◌, ℕ, ◌+◌, ◌*◌, ◌/◌, ◌<◌, ◌≤◌, ℤ, pos, Bool, true, false, cond, arith, Ok, Err, List, [], ◌∷◌, refl, subst, sym, zero, suc, zero-mul, mul-zero, zero-add}
use Rattle.std.specs.List.{AllByRecursion}
use Rattle.std.proofs.lemmas.Int.{ints}
use Rattle.pixel_round.specs.Pixels.{Fraction, round}
use Rattle.drift_rules.specs.Position.{State, IsNear, AreNear, KeepsNear, Step, StepsKeepNear, after_drift, at_h, at_v, PagesKeepNear, FlatCommand, at_origin, zeros, Leads, Skip, Char, Rule, Right, W, X, Down, Y, Z, W0, X0, Y0, Z0, Push, Pop, Enter, Leave, Advance, pop_registers}
use Rattle.drift_rules.specs.declared.flat.Registers.{Registers}
use Rattle.drift_rules.specs.declared.faults.PenFault.TheVariants.{Overflow, StackDeep}

pub near_drifted : (place rounded : ℤ) → IsNear (after_drift place rounded) rounded
near_drifted place rounded = grind (arith, ints)

-- what was answered after a test
pub held : (b : Bool) (s t : State) → cond b (Ok s) (Err Overflow) ≡ Ok t → s ≡ t
held true s t e = cc
held false s t e = absurd cc

near_across : (c : Fraction) (s : State) (r : Registers) (h place : ℤ) → KeepsNear c s → r.v ≡ s.now.v → r.vv ≡ s.now.vv → KeepsNear c (record s { now = at_h c r h place })
near_across c s r h place k e1 e2 = record { now = record { across = near_drifted place (round c h); down = rw (e1, e2) k.now.down }; saved = k.saved }

near_down : (c : Fraction) (s : State) (r : Registers) (v place : ℤ) → KeepsNear c s → r.h ≡ s.now.h → r.hh ≡ s.now.hh → KeepsNear c (record s { now = at_v c r v place })
near_down c s r v place k e1 e2 = record { now = record { across = rw (e1, e2) k.now.across; down = near_drifted place (round c v) }; saved = k.saved }

-- and where registers were saved
pub saved_is : (b : Bool) (s t : State) → cond b (Err StackDeep) (Ok s) ≡ Ok t → s ≡ t
saved_is true s t e = absurd cc
saved_is false s t e = cc

near_restored : (c : Fraction) (saved : List Registers) (t : State) → AllByRecursion (AreNear c) saved → pop_registers saved ≡ Ok t → KeepsNear c t
near_restored c [] t k e = absurd cc
near_restored c (r ∷ saved) t k e =
    let made : State = record { now = r; saved = saved } in
    let was : made ≡ t = cc in
    subst (λ (x : State). KeepsNear c x) was (record { now = k.0; saved = k.1 })

stays : (c : Fraction) (s t : State) → KeepsNear c s → Step c s Skip t → KeepsNear c t
stays c s t k e =
    let was : s ≡ t = cc in
    subst (λ (x : State). KeepsNear c x) was k

pub steps_keep_near : StepsKeepNear
steps_keep_near c s t Skip k e = stays c s t k e
steps_keep_near c s t (Char key code width true) k e = stays c s t k e
steps_keep_near c s t (Char key code width false) k e = subst (λ (x : State). KeepsNear c x) (held _ _ t e) (near_across c s s.now _ _ k refl refl)
steps_keep_near c s t (Rule height width true) k e = stays c s t k e
steps_keep_near c s t (Rule height width false) k e = subst (λ (x : State). KeepsNear c x) (held _ _ t e) (near_across c s s.now _ _ k refl refl)
steps_keep_near c s t (Right p space) k e = subst (λ (x : State). KeepsNear c x) (held _ _ t e) (near_across c s s.now _ _ k refl refl)
steps_keep_near c s t (W p space) k e = subst (λ (x : State). KeepsNear c x) (held _ _ t e) (near_across c s (record s.now { w = p }) _ _ k refl refl)
steps_keep_near c s t (X p space) k e = subst (λ (x : State). KeepsNear c x) (held _ _ t e) (near_across c s (record s.now { x = p }) _ _ k refl refl)
steps_keep_near c s t (W0 space) k e = subst (λ (x : State). KeepsNear c x) (held _ _ t e) (near_across c s s.now _ _ k refl refl)
steps_keep_near c s t (X0 space) k e = subst (λ (x : State). KeepsNear c x) (held _ _ t e) (near_across c s s.now _ _ k refl refl)
steps_keep_near c s t (Down p space) k e = subst (λ (x : State). KeepsNear c x) (held _ _ t e) (near_down c s s.now _ _ k refl refl)
steps_keep_near c s t (Y p space) k e = subst (λ (x : State). KeepsNear c x) (held _ _ t e) (near_down c s (record s.now { y = p }) _ _ k refl refl)
steps_keep_near c s t (Z p space) k e = subst (λ (x : State). KeepsNear c x) (held _ _ t e) (near_down c s (record s.now { z = p }) _ _ k refl refl)
steps_keep_near c s t (Y0 space) k e = subst (λ (x : State). KeepsNear c x) (held _ _ t e) (near_down c s s.now _ _ k refl refl)
steps_keep_near c s t (Z0 space) k e = subst (λ (x : State). KeepsNear c x) (held _ _ t e) (near_down c s s.now _ _ k refl refl)
steps_keep_near c s t Push k e = subst (λ (x : State). KeepsNear c x) (saved_is _ _ t e) (record { now = k.now; saved = (k.now, k.saved) })
steps_keep_near c s t Pop k e = near_restored c s.saved t k.saved e
steps_keep_near c s t Enter k e =
    subst (λ (x : State). KeepsNear c x) (saved_is _ _ t e) (record { now = record { across = k.now.across; down = k.now.down }; saved = (k.now, k.saved) })
steps_keep_near c s t Leave k e = near_restored c s.saved t k.saved e
steps_keep_near c s t (Advance width) k e = subst (λ (x : State). KeepsNear c x) (held _ _ t e) (near_across c s s.now _ _ k refl refl)

-- a page begins near: 0 is rounded to 0
half_of : (b : ℕ) → 0 < b → b / (2 * b) ≤ 1
half_of b some = grind arith

half_of_none : (a b : ℕ) → (2 * (0 * a) + b) / (2 * b) ≤ 1
half_of_none a zero = omega arith
half_of_none a (suc b) = rw (zero-mul, mul-zero, zero-add) (half_of (suc b) (omega arith))

near_none : (q : ℕ) → q ≤ 1 → IsNear (pos 0) (pos q)
near_none q h = grind (arith, ints)

pub zeros_are_near : (c : Fraction) → AreNear c zeros
zeros_are_near c =
    let near = near_none _ (half_of_none c.top c.bottom) in
    record { across = near; down = near }

near_along : (c : Fraction) (s : State) (flats : List FlatCommand) (t : State) → KeepsNear c s → Leads c s flats t → KeepsNear c t
near_along c s [] t near e = subst (λ (x : State). KeepsNear c x) (sym e) near
near_along c s (f ∷ flats) t near (mid, step, rest) = near_along c mid flats t (steps_keep_near c s mid f near step) rest

pub pages_keep_near : PagesKeepNear
pages_keep_near c flats t leads = near_along c at_origin flats t (record { now = zeros_are_near c; saved = tt }) leads
