-- The rectangle that the code makes of a rule.
use Rattle.std.proofs.Common.{◌≡◌, ◌^◌, ◌<◌, ◌≤◌, ℤ, pos, ◌+ℤ◌, ◌-ℤ◌, ◌<ℤ◌, true, false, w64, to_z, of_z, arith, refl, sym, subst}
use Rattle.std.specs.Prelude.{unsigned_abs, int_le}
use Rattle.std.proofs.lemmas.Int.{ints}
use Rattle.drift_rules.specs.declared.flat.Mark.{Mark}
use Rattle.drift_rules.specs.declared.flat.Mark.TheVariants as code
use Rattle.drift_rules.specs.Marks.{is_positive}
use Rattle.drift_rules.specs.Bounds.{IsRectangle, IsPaintable}
use Rattle.drift_rules.proofs.Held.{kept}

pub not_positive : (z : ℤ) → int_le z (pos 0) ≡ true → is_positive z ≡ false
not_positive z h = grind (arith, ints)

pub above : (z : ℤ) → int_le z (pos 0) ≡ false → pos 0 <ℤ z
above z h = grind (arith, ints)

pub positive : (z : ℤ) → int_le z (pos 0) ≡ false → is_positive z ≡ true
positive z h = grind (arith, ints)

abbrev pub read_rule : ℤ → ℤ → ℤ → ℤ → Mark
read_rule hh vv columns rows = code.Rule (to_z w64 (of_z w64 hh)) (to_z w64 (of_z w64 (to_z w64 (of_z w64 (to_z w64 (of_z w64 vv) -ℤ to_z w64 (of_z w64 rows))) +ℤ pos 1))) (to_z w64 (of_z w64 columns)) (to_z w64 (of_z w64 rows))

pub rule_kept : (hh vv columns rows : ℤ) → unsigned_abs hh < 2 ^ 40 → unsigned_abs vv < 2 ^ 40 → unsigned_abs columns ≤ 2 ^ 41 → unsigned_abs rows ≤ 2 ^ 41
    → read_rule hh vv columns rows ≡ code.Rule hh (vv -ℤ rows +ℤ pos 1) columns rows
rule_kept hh vv columns rows a b w h =
    let x = kept hh (omega (arith, a)) in
    let y = kept vv (omega (arith, b)) in
    let m = kept rows (omega (arith, h)) in
    let n = kept columns (omega (arith, w)) in
    let d = kept (vv -ℤ rows) (omega (arith, ints, b, h)) in
    let e = kept (vv -ℤ rows +ℤ pos 1) (omega (arith, ints, b, h)) in
    rw (x, y, m, n, d, e) refl

pub rectangle : (hh vv columns rows : ℤ) → unsigned_abs hh < 2 ^ 40 → unsigned_abs vv < 2 ^ 40 → unsigned_abs columns ≤ 2 ^ 41 → unsigned_abs rows ≤ 2 ^ 41
    → pos 0 <ℤ columns → pos 0 <ℤ rows → IsRectangle hh (vv -ℤ rows +ℤ pos 1) columns rows
rectangle hh vv columns rows a b w h some_columns some_rows = record {
  left = omega (arith, a);
  top = omega (arith, ints, b, h);
  columns = (omega (arith, ints, some_columns), omega (arith, w));
  rows = (omega (arith, ints, some_rows), omega (arith, h));
}

pub paintable_kept : (hh vv columns rows : ℤ) → unsigned_abs hh < 2 ^ 40 → unsigned_abs vv < 2 ^ 40 → unsigned_abs columns ≤ 2 ^ 41 → unsigned_abs rows ≤ 2 ^ 41
    → pos 0 <ℤ columns → pos 0 <ℤ rows → IsPaintable (read_rule hh vv columns rows)
paintable_kept hh vv columns rows a b w h some_columns some_rows =
    subst (λ (m : Mark). IsPaintable m) (sym (rule_kept hh vv columns rows a b w h)) (rectangle hh vv columns rows a b w h some_columns some_rows)
