use Rattle.std.proofs.Common.{◌≡◌, ◌∙◌, ◌++◌, List, ℕ, arith, sym, subst}
use Rattle.std.specs.Prelude.{OnOk}
use Rattle.std.proofs.lemmas.Nat.{mul-le}
use Rattle.sample_maker.specs.Coded.{seen}
use Rattle.sample_maker.proofs.PkAppended.{extended_item, long_item, short_item}
use Rattle.sample_maker.proofs.pk.append_packet.Goals as goal

pub returns-then-is_short-clause-appended : goal.returns-then-is_short-clause-appended
returns-then-is_short-clause-appended c =
    subst (λ (x : List ℕ). OnOk c.append_short.result (c.append_short.new.out.items ≡ c.args.out.now.items ++ x))
    (short_item (seen c.args.raster.now) (c.args.code, c.args.glyph.now) (sym c.is_short.ensures.form ∙ c.if-is_short.true)) c.append_short.ensures

pub returns-then-is_extended-clause-appended : goal.returns-then-is_extended-clause-appended
returns-then-is_extended-clause-appended c =
    subst (λ (x : List ℕ). OnOk c.append_extended.result (c.append_extended.new.out.items ≡ c.args.out.now.items ++ x))
    (extended_item (seen c.args.raster.now) (c.args.code, c.args.glyph.now) (sym c.is_short.ensures.form ∙ c.if-is_short.false) (sym c.is_extended.ensures ∙ c.if-is_extended.true)) c.append_extended.ensures

pub returns-else-is_extended-clause-appended : goal.returns-else-is_extended-clause-appended
returns-else-is_extended-clause-appended c =
    subst (λ (x : List ℕ). OnOk c.append_long.result (c.append_long.new.out.items ≡ c.args.out.now.items ++ x))
    (long_item (seen c.args.raster.now) (c.args.code, c.args.glyph.now) (sym c.is_short.ensures.form ∙ c.if-is_short.false) (sym c.is_extended.ensures ∙ c.if-is_extended.false)) c.append_long.ensures

pub append_long-requires-clause-few : goal.append_long-requires-clause-few
append_long-requires-clause-few c =
    let g = c.is_short.ensures.bounded in
    omega (arith, c.requires.few, mul-le c.args.glyph.now.raster.width c.args.glyph.now.raster.height 16384 16384 g.width g.height)
