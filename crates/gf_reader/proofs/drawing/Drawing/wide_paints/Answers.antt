use Rattle.std.proofs.Common.{◌≡◌, ◌∙◌, ◌+◌, ◌≤◌, ◌<◌, List, ℕ, length, Some, ap, subst, arith}
use Rattle.gf_reader.specs.Reading.{IsReadTo}
use Rattle.gf_reader.specs.declared.drawing.Drawing.{Drawing}
use Rattle.gf_reader.proofs.ShortCommands.{paint_height, paint_more, paint_width}
use Rattle.gf_reader.proofs.drawing.Drawing.wide_paints.Goals as goal

pub paints-preserved : goal.paints-preserved
paints-preserved c =
    let d = c.paints.self in
    let n = c.in-Some.n in
    let p = c.in-Some.ensures in
    let inv = c.paints.invariant in
    let e = c.paint.ensures in
    let across : d.column + n ≤ d.bits.width = omega (arith, p.2, c.width.ensures.value, inv.column) in
    let low : d.row < d.bits.height = omega (arith, c.requires.row, inv.row, inv.high) in
    let wide : c.paint.new.self.bits.width ≡ d.bits.width = ap (λ (q : Drawing). q.bits.width) e ∙ paint_width d n in
    record {
      wide = wide ∙ inv.wide;
      high = ap (λ (q : Drawing). q.bits.height) e ∙ paint_height d n ∙ inv.high;
      column = omega (arith, ap (λ (q : Drawing). q.column) e, wide);
      row = ap (λ (q : Drawing). q.row) e ∙ inv.row;
      fewer = omega (arith, ap length p.0, inv.fewer);
      read = λ bytes sum font h.
          paint_more c.short_paint.new.self n d c.paint.new.self p.1 across low e bytes sum font (subst (λ (t : List ℕ). IsReadTo bytes t sum font (Some d)) p.0 (inv.read bytes sum font h));
    }
