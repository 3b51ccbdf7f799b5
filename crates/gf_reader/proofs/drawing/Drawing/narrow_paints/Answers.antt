use Rattle.std.proofs.Common.{◌+◌, ◌≤◌, List, ℕ, length, Some, ap, refl, subst, arith}
use Rattle.pk_runs.proofs.Kept.{no_pixel}
use Rattle.gf_reader.specs.Reading.{IsReadTo}
use Rattle.gf_reader.proofs.ShortCommands.{no_word, still_white, with_row, word_more}
use Rattle.gf_reader.proofs.drawing.Drawing.narrow_paints.Goals as goal

pub paints-init : goal.paints-init
paints-init c = record { same = refl; white = λ i _ _. no_pixel i; column = c.requires.column; fewer = omega arith; read = no_word c.args.items.now c.args.self.now }

pub paints-preserved : goal.paints-preserved
paints-preserved c =
    let d = c.args.self.now in
    let n = c.in-Some.n in
    let p = c.in-Some.ensures in
    let inv = c.paints.invariant in
    let across : c.paints.column + n ≤ d.bits.width = omega (arith, p.2, c.width-width.ensures.value, inv.column) in
    record {
      same = refl;
      white = still_white c.paints.word c.painted-word.result c.paints.column n c.paints.black c.painted-word.ensures inv.white;
      column = across;
      fewer = omega (arith, ap length p.0, inv.fewer);
      read = λ bytes sum font h.
          word_more c.short_paint.new.self n d c.paints.word c.painted-word.result c.paints.column c.paints.black p.1 c.requires.narrow across c.requires.row c.painted-word.ensures bytes sum font
          (subst (λ (t : List ℕ). IsReadTo bytes t sum font (Some (with_row d c.paints.word c.paints.column c.paints.black))) p.0 (inv.read bytes sum font h));
    }
