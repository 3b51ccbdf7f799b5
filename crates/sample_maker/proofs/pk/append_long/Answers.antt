use Rattle.std.proofs.Common.{◌≡◌, ◌∙◌, ◌++◌, List, ℕ, ap, subst}
use Rattle.std.specs.Prelude.{OnOk}
use Rattle.sample_maker.specs.Coded.{seen}
use Rattle.sample_maker.proofs.PkAppended.{long_joined, on_ok}
use Rattle.sample_maker.proofs.pk.append_long.Goals as goal

pub returns : goal.returns
returns c =
    subst (λ (x : List ℕ). OnOk c.extend_from_slice-3.result (c.extend_from_slice-3.new.self.items ≡ x))
    (ap (λ (t : List ℕ). c.append_sides.new.out.items ++ t) c.deref.ensures.value
    ∙ long_joined c.args.code c.args.glyph.now (seen c.args.raster.now) c.ranges.code.fits c.args.out.now.items _ _ _ _ c.to_be_bytes.result _ _ (c.len-length.ensures ∙ c.args.raster.now.bytes.ok.0) c.flag.ensures c.in_ok-push.ensures.items c.to_be_bytes.ensures c.in_ok-extend_from_slice.ensures.items c.in_ok-extend_from_slice-2.ensures.items c.in_ok-append_sides.ensures)
    (on_ok c.extend_from_slice-3.result _ _ _ c.extend_from_slice-3.ensures.items)
