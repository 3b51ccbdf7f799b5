use Rattle.std.proofs.Common.{◌≡◌, ◌∙◌, ap, sym, subst, arith, rules, to_z-of_z, of_z, to_z, w32, SFits}
use Rattle.gf_reader.specs.Characters.{columns_of, extent, min_m, min_n, rows_of}
use Rattle.gf_reader.specs.declared.faults.GfFault.TheVariants.{TooBig}
use Rattle.gf_reader.proofs.Sides.{sides_are, too_far, too_high, too_wide}
use Rattle.gf_reader.proofs.head.Head.sides.Goals as goal
use Rattle.gf_reader.proofs.head.Head.sides.Goals.{then-columns-longest-via-then-columns-longest, then-columns-longest-via-else-columns-longest+then-rows-longest, then-columns-longest-via-else-columns-longest+else-rows-longest+then-self}

pub returns-then-columns-longest-clause-fault :
    goal.returns-then-columns-longest-clause-fault
returns-then-columns-longest-clause-fault c = λ item h.
    let s = c.args.self.now in
    let left_fits : SFits w32 s.min_m = search rules in
    let left = to_z-of_z {w = w32} {z = s.min_m} left_fits in
    let right = to_z-of_z {w = w32} {z = s.max_m} (search rules) in
    let low = to_z-of_z {w = w32} {z = s.min_n} (search rules) in
    let high = to_z-of_z {w = w32} {z = s.max_n} (search rules) in
    let columns : c.extent-columns.result ≡ columns_of item =
    c.extent-columns.ensures ∙ ap (λ z. extent z (to_z w32 (of_z w32 s.max_m))) (left ∙ h.min_m) ∙ ap (extent (min_m item)) (right ∙ h.max_m) in
    let rows : c.extent-rows.result ≡ rows_of item =
    c.extent-rows.ensures ∙ ap (λ z. extent z (to_z w32 (of_z w32 s.max_n))) (low ∙ h.min_n) ∙ ap (extent (min_n item)) (high ∙ h.max_n) in
    let code = ap TooBig (to_z-of_z {w = w32} {z = s.code} (search rules) ∙ h.code) in
    elim c.then-columns-longest.branch [
      | then-columns-longest-via-then-columns-longest w ↦ (too_wide item (omega (arith, columns, c.from-longest.ensures, w.if-columns-longest.true)), code)
      | then-columns-longest-via-else-columns-longest+then-rows-longest w ↦ (too_high item (omega (arith, rows, c.from-longest.ensures, w.if-rows-longest.true)), code)
      | then-columns-longest-via-else-columns-longest+else-rows-longest+then-self w ↦
          (too_far item (subst (SFits w32) h.min_m left_fits) (sym (ap (of_z w32) h.min_m) ∙ w.if-self.true), code)
    ]

pub returns-clause-sides : goal.returns-clause-sides
returns-clause-sides c = λ item h.
    let s = c.args.self.now in
    let left = to_z-of_z {w = w32} {z = s.min_m} (search rules) in
    let right = to_z-of_z {w = w32} {z = s.max_m} (search rules) in
    let low = to_z-of_z {w = w32} {z = s.min_n} (search rules) in
    let high = to_z-of_z {w = w32} {z = s.max_n} (search rules) in
    let columns : c.extent-columns.result ≡ columns_of item =
    c.extent-columns.ensures ∙ ap (λ z. extent z (to_z w32 (of_z w32 s.max_m))) (left ∙ h.min_m) ∙ ap (extent (min_m item)) (right ∙ h.max_m) in
    let rows : c.extent-rows.result ≡ rows_of item =
    c.extent-rows.ensures ∙ ap (λ z. extent z (to_z w32 (of_z w32 s.max_n))) (low ∙ h.min_n) ∙ ap (extent (min_n item)) (high ∙ h.max_n) in
    sides_are item c.extent-columns.result c.extent-rows.result c.raster_side.result c.raster_side-2.result columns rows c.raster_side.ensures c.raster_side-2.ensures
    (omega (arith, c.from-longest.ensures, c.if-columns-longest.false)) (omega (arith, c.from-longest.ensures, c.if-rows-longest.false)) (λ e. c.if-self.false (ap (of_z w32) h.min_m ∙ e))
