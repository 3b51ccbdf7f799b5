use Rattle.std.proofs.Common.{◌≡◌, ◌∙◌, ◌≤◌, List, ℕ, length, Some, ap, sym, subst, arith}
use Rattle.gf_reader.specs.Reading.{IsReadTo, Reads}
use Rattle.gf_reader.specs.declared.drawing.Drawing.{Drawing}
use Rattle.gf_reader.proofs.ShortCommands.{row_more}
use Rattle.gf_reader.proofs.drawing.Drawing.short_commands.Goals as goal
use Rattle.gf_reader.proofs.drawing.Drawing.short_commands.Goals.{then-width-lt64, else-width-lt64}

pub returns-in_default-clause-read : goal.returns-in_default-clause-read
returns-in_default-clause-read c =
    let painted : Reads c.rows.items c.rows.self c.if-width-lt64.items c.if-width-lt64.self = elim c.if-width-lt64.branch [
      | then-width-lt64 w ↦ rw (w.self-is, w.items-is) w.narrow_paints.ensures.read
      | else-width-lt64 w ↦ rw (w.self-is, w.items-is) w.wide_paints.ensures.read
    ] in
    λ bytes sum font h.
    subst (λ (t : List ℕ). IsReadTo bytes t sum font (Some c.if-width-lt64.self)) (sym c.in_default.ensures) (painted bytes sum font (c.rows.invariant.read bytes sum font h))

pub rows-preserved : goal.rows-preserved
rows-preserved c =
    let inv = c.rows.invariant in
    let p = c.in-Some.ensures in
    let e = c.move_to.ensures in
    let painted : Reads c.rows.items c.rows.self c.if-width-lt64.items c.if-width-lt64.self = elim c.if-width-lt64.branch [
      | then-width-lt64 w ↦ rw (w.self-is, w.items-is) w.narrow_paints.ensures.read
      | else-width-lt64 w ↦ rw (w.self-is, w.items-is) w.wide_paints.ensures.read
    ] in
    let wide : c.if-width-lt64.self.bits.width ≡ c.rows.self.bits.width = elim c.if-width-lt64.branch [
      | then-width-lt64 w ↦ rw w.self-is w.narrow_paints.ensures.wide
      | else-width-lt64 w ↦ rw w.self-is w.wide_paints.ensures.wide
    ] in
    let high : c.if-width-lt64.self.bits.height ≡ c.rows.self.bits.height = elim c.if-width-lt64.branch [
      | then-width-lt64 w ↦ rw w.self-is w.narrow_paints.ensures.high
      | else-width-lt64 w ↦ rw w.self-is w.wide_paints.ensures.high
    ] in
    let fewer : length c.if-width-lt64.items ≤ length c.rows.items = elim c.if-width-lt64.branch [
      | then-width-lt64 w ↦ rw w.items-is w.narrow_paints.ensures.fewer
      | else-width-lt64 w ↦ rw w.items-is w.wide_paints.ensures.fewer
    ] in
    let wide_now = ap (λ (q : Drawing). q.bits.width) e in
    let high_now = ap (λ (q : Drawing). q.bits.height) e in
    record {
      wide = wide_now ∙ wide ∙ inv.wide;
      high = high_now ∙ high ∙ inv.high;
      column = omega (arith, ap (λ (q : Drawing). q.column) e, wide_now);
      row = omega (arith, ap (λ (q : Drawing). q.row) e, high_now);
      fewer = omega (arith, ap length p.0, fewer, inv.fewer);
      read = λ bytes sum font h.
          row_more c.new_row.new.self c.in-Some.column c.if-width-lt64.self c.move_to.new.self p.1 e bytes sum font
          (subst (λ (t : List ℕ). IsReadTo bytes t sum font (Some c.if-width-lt64.self)) p.0 (painted bytes sum font (inv.read bytes sum font h)));
    }
