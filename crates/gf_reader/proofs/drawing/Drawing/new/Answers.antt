use Rattle.std.proofs.Common.{◌≡◌, ◌∙◌, ◌≤◌, ap, subst, arith, refl, rules, pos, neg_ℤ, ◌-ℤ◌, to_z-of_z, to_z, of_z, w32, SFits}
use Rattle.std.proofs.lemmas.Int.{ints}
use Rattle.pk_runs.specs.Limits.{MAX_GLYPH_SIDE}
use Rattle.packed_rows.specs.Changes.{white_bitmap}
use Rattle.gf_reader.specs.Characters.{width_of}
use Rattle.gf_reader.proofs.drawing.Drawing.new.Goals as goal

pub returns : goal.returns
returns c = λ item h wide high.
    let head = c.args.head.now in
    let fits : SFits w32 head.min_m = search rules in
    let turned : to_z w32 (of_z w32 (pos 0 -ℤ to_z w32 (of_z w32 head.min_m))) ≡ neg_ℤ head.min_m = omega (arith, ints, fits, c.requires.first) in
    record {
      code = to_z-of_z {w = w32} {z = head.code} (search rules) ∙ h.code;
      hoff = turned ∙ ap neg_ℤ h.min_m;
      voff = to_z-of_z {w = w32} {z = head.max_n} (search rules) ∙ h.max_n;
      bits = c.in_ok-white.ensures.white ∙ ap (λ w. white_bitmap w c.args.sides.height) wide ∙ ap (white_bitmap (width_of item)) high;
      row = omega arith;
      column = omega arith;
      black = refl;
      narrow = subst (λ n. n ≤ MAX_GLYPH_SIDE) wide c.requires.narrow;
      low = subst (λ n. n ≤ MAX_GLYPH_SIDE) high c.requires.low;
    }
