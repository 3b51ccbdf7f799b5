-- Run lengths and repeat counts of 2 ^ 32 and more.
use Rattle.std.proofs.Common.{◌≡◌, ℕ, ◌-◌, ◌^◌, ◌<◌, ◌≤◌, false, List, ◌++◌, refl, arith}
use Rattle.std.proofs.lemmas.Bool.{ne_eqb}
use Rattle.std.proofs.lemmas.Nat.{mul-le}
use Rattle.pk_runs.specs.Huge.{HugeRepeatsAreTooManyRows, HugeRunsOverrun}
use Rattle.pk_runs.specs.Numbers.{Item}
use Rattle.pk_runs.specs.Raster.{IsRunFault, IsStuck, is_empty, pixels_left, rows_begun}
use Rattle.pk_runs.specs.declared.faults.RunFault.{RunFault}

some_pixels : (w h : ℕ) → 1 ≤ w → 1 ≤ h → is_empty w h ≡ false
some_pixels w h wide high = rw (ne_eqb w 0 (λ e. omega (arith, e, wide)), ne_eqb h 0 (λ e. omega (arith, e, high))) refl

stuck_is_fault : (bytes : List ℕ) (dyn_f w h : ℕ) (f : RunFault) → dyn_f ≤ 13 → 1 ≤ w → 1 ≤ h → IsStuck bytes dyn_f w h f → IsRunFault bytes dyn_f w h f
stuck_is_fault bytes dyn_f w h f form wide high stuck = (some_pixels w h wide high, rw (ne_eqb dyn_f 14 (λ e. omega (arith, e, form))) stuck)

few_left : (w h : ℕ) (items : List Item) → w ≤ 16384 → h ≤ 16384 → pixels_left w h items < 2 ^ 32
few_left w h items narrow short = omega (arith, mul-le w (h - rows_begun w items) 16384 16384 narrow (omega (arith, short)), narrow)

pub huge_runs_overrun : HugeRunsOverrun
huge_runs_overrun bytes dyn_f w h n items form wide narrow short huge f =
    stuck_is_fault bytes dyn_f w h _ form wide (omega (arith, f.incomplete)) (record {
      items = items;
      used = f.used;
      rest = f.number ++ f.more;
      nybbles = f.nybbles;
      spelled = f.before;
      fits = f.fits;
      incomplete = f.incomplete;
      because = (n, f.number, f.more, refl, f.spelled, omega (arith, few_left w h items narrow short, huge));
    })

pub huge_repeats_are_too_many_rows : HugeRepeatsAreTooManyRows
huge_repeats_are_too_many_rows bytes dyn_f w h n items form wide narrow short huge first f =
    stuck_is_fault bytes dyn_f w h _ form wide (omega (arith, f.incomplete)) (record {
      items = items;
      used = f.used;
      rest = f.number ++ f.more;
      nybbles = f.nybbles;
      spelled = f.before;
      fits = f.fits;
      incomplete = f.incomplete;
      because = (n, f.number, f.more, refl, f.spelled, first, omega (arith, short, huge));
    })
