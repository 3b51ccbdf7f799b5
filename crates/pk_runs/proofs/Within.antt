-- Runs that end within the next row.
use Rattle.std.proofs.Common.{◌≡◌, ℕ, ◌+◌, ◌-◌, ◌*◌, ◌<◌, ◌≤◌, Bool, true, not, List, ◌++◌, replicate, length, refl, subst, ap, ◌∙◌, arith}
use Rattle.pk_runs.specs.Narrow.{IsNextItem}
use Rattle.pk_runs.specs.Painting.{painted, IsReady, IsDrawn}
use Rattle.pk_runs.specs.Raster.{IsStuck}
use Rattle.pk_runs.specs.Reading.{IsItemRead, IsPaintedTo}
use Rattle.pk_runs.specs.declared.faults.RunFault.TheVariants as fault
use Rattle.pk_runs.specs.declared.items.PackedNumber.{PackedNumber}
use Rattle.pk_runs.specs.declared.items.PackedNumber.TheVariants as read
use Rattle.pk_runs.specs.declared.painter.Painter.{Painter}
use Rattle.pk_runs.proofs.Drawn.{painted_size}
use Rattle.pk_runs.proofs.Steps.{ran, ran_within, run_too_long, too_many_rows, repeated_by}

-- runs were read and painted, none of them to the row's end
pub record RunsWithin (dyn_f : ℕ) (old : Painter) (nybbles : List ℕ) (p : Painter) (rest : List ℕ) : Type 0 where
  pub inside : p.column < p.bits.width
  pub ready : IsReady p
  pub low : p.row < p.bits.height
  pub wide : p.bits.width ≡ old.bits.width
  pub high : p.bits.height ≡ old.bits.height
  pub fewer : length rest ≤ length nybbles
  pub painted : (bytes : List ℕ) (first : Bool) → IsPaintedTo bytes dyn_f first old.bits.width old.bits.height nybbles old
      → IsPaintedTo bytes dyn_f first old.bits.width old.bits.height rest p

pub within_none : (dyn_f : ℕ) (old : Painter) (nybbles : List ℕ) → old.column < old.bits.width → IsReady old → old.row < old.bits.height → RunsWithin dyn_f old nybbles old nybbles
within_none dyn_f old nybbles inside ready low = record {
  inside = inside;
  ready = ready;
  low = low;
  wide = refl;
  high = refl;
  fewer = omega arith;
  painted = λ bytes first d. d;
}

pub within_more : (dyn_f : ℕ) (old : Painter) (nybbles : List ℕ) (p next : Painter) (rest more : List ℕ) (n : ℕ) → old.bits.width ≤ 16384 → old.bits.height ≤ 16384 → n < p.bits.width - p.column
    → length more ≤ length rest → IsItemRead dyn_f rest more p.repeated (read.Run n) → next ≡ record (painted p n) { black = not p.black }
    → RunsWithin dyn_f old nybbles p rest → RunsWithin dyn_f old nybbles next more
within_more dyn_f old nybbles p next rest more n narrow short within less item is r =
    let size = painted_size p.black p.bits p.column (p.column + n) p.row (p.row + 1) in
    let wide : next.bits.width ≡ p.bits.width = ap (λ (q : Painter). q.bits.width) is ∙ size.0 in
    let high : next.bits.height ≡ p.bits.height = ap (λ (q : Painter). q.bits.height) is ∙ size.1 in
    let column : next.column ≡ p.column + n = ap (λ (q : Painter). q.column) is in
    let row : next.row ≡ p.row = ap (λ (q : Painter). q.row) is in
    let copies : next.copies ≡ p.copies = ap (λ (q : Painter). q.copies) is in
    record {
      inside = omega (arith, wide, column, within);
      ready = record { low = omega (arith, row, high, r.ready.low); fit = λ h. omega (arith, row, copies, high, r.ready.fit r.low) };
      low = omega (arith, row, high, r.low);
      wide = wide ∙ r.wide;
      high = high ∙ r.high;
      fewer = omega (arith, less, r.fewer);
      painted = λ bytes first d.
          ran_within bytes dyn_f first old.bits.width old.bits.height n rest more p next (omega (arith, r.low, r.high)) narrow short (omega (arith, within, r.wide)) item is (r.painted bytes first d);
    }

-- ---- the item after them, at the size w × h that the painter had before

pub next_too_long : (bytes : List ℕ) (dyn_f : ℕ) (first : Bool) (w h n : ℕ) (rest : List ℕ) (p : Painter) (item : PackedNumber) → item ≡ read.Run n → p.bits.width ≡ w → p.bits.height ≡ h → p.row < p.bits.height
    → (p.bits.width - p.column) + p.bits.width * (p.bits.height - (p.row + 1 + p.copies)) < n → IsNextItem bytes dyn_f first w h rest p item → IsStuck bytes dyn_f w h fault.Overrun
next_too_long bytes dyn_f first w h n rest p item is wide high low long next =
    run_too_long bytes dyn_f first w h n next.0 rest p (omega (arith, low, high))
    (subst (λ (k : ℕ). (w - p.column) + w * (k - (p.row + 1 + p.copies)) < n) high (subst (λ (k : ℕ). (k - p.column) + k * (p.bits.height - (p.row + 1 + p.copies)) < n) wide long))
    (subst (λ (r : PackedNumber). IsItemRead dyn_f next.0 rest p.repeated r) is next.2) next.1

pub next_too_many : (bytes : List ℕ) (dyn_f : ℕ) (first : Bool) (w h n : ℕ) (rest : List ℕ) (p : Painter) (item : PackedNumber) → item ≡ read.Repeat n → p.bits.height ≡ h → p.row < p.bits.height
    → p.bits.height - p.row - 1 < n → IsNextItem bytes dyn_f first w h rest p item → IsStuck bytes dyn_f w h fault.TooManyRows
next_too_many bytes dyn_f first w h n rest p item is high low many next =
    too_many_rows bytes dyn_f first w h n next.0 rest p (omega (arith, low, high)) (omega (arith, many, high)) (subst (λ (r : PackedNumber). IsItemRead dyn_f next.0 rest p.repeated r) is next.2) next.1

pub next_ran : (bytes : List ℕ) (dyn_f : ℕ) (first : Bool) (w h n : ℕ) (rest : List ℕ) (p last : Painter) (item : PackedNumber) → item ≡ read.Run n → p.bits.width ≡ w → p.bits.height ≡ h → p.row < p.bits.height
    → w ≤ 16384 → h ≤ 16384 → n ≤ (p.bits.width - p.column) + p.bits.width * (p.bits.height - (p.row + 1 + p.copies)) → last.black ≡ not p.black
    → ((ps : List Bool) (rep : ℕ → ℕ) (mark : ℕ → Bool) → IsDrawn ps rep mark p.bits.width p.bits.height p → IsDrawn (ps ++ replicate n p.black) rep mark p.bits.width p.bits.height last)
    → IsNextItem bytes dyn_f first w h rest p item → IsPaintedTo bytes dyn_f first w h rest last
next_ran bytes dyn_f first w h n rest p last item is wide high low narrow short small turned drawn next =
    ran bytes dyn_f first w h n next.0 rest p last (omega (arith, low, high)) narrow short
    (subst (λ (k : ℕ). n ≤ (w - p.column) + w * (k - (p.row + 1 + p.copies))) high (subst (λ (k : ℕ). n ≤ (k - p.column) + k * (p.bits.height - (p.row + 1 + p.copies))) wide small))
    (subst (λ (r : PackedNumber). IsItemRead dyn_f next.0 rest p.repeated r) is next.2) turned
    (subst (λ (k : ℕ). (ps : List Bool) (rep : ℕ → ℕ) (mark : ℕ → Bool) → IsDrawn ps rep mark w k p → IsDrawn (ps ++ replicate n p.black) rep mark w k last) high
    (subst (λ (k : ℕ). (ps : List Bool) (rep : ℕ → ℕ) (mark : ℕ → Bool) → IsDrawn ps rep mark k p.bits.height p → IsDrawn (ps ++ replicate n p.black) rep mark k p.bits.height last) wide drawn))
    next.1

pub next_repeated : (bytes : List ℕ) (dyn_f : ℕ) (first : Bool) (w h n : ℕ) (rest : List ℕ) (p : Painter) (item : PackedNumber) → item ≡ read.Repeat n → p.bits.height ≡ h → p.row < p.bits.height → h ≤ 16384
    → n ≤ p.bits.height - p.row - 1 → IsNextItem bytes dyn_f first w h rest p item → IsPaintedTo bytes dyn_f first w h rest (record p { copies = n; repeated = true })
next_repeated bytes dyn_f first w h n rest p item is high low short small next =
    repeated_by bytes dyn_f first w h n next.0 rest p (omega (arith, low, high)) short (omega (arith, small, high)) (subst (λ (r : PackedNumber). IsItemRead dyn_f next.0 rest p.repeated r) is next.2) next.1
