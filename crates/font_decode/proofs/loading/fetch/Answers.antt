use Rattle.std.proofs.Common.{◌≡◌, true, false, ℕ, List, Vec, Global, refl, arith}
use Rattle.std.specs.Prelude.{is_none, is_some}
use Rattle.font_decode.specs.Names.{is_valid_name, tfm_name, vf_name}
use Rattle.font_decode.specs.Files.{glyph_choices, fewest_glyphs, most_glyphs}
use Rattle.font_decode.proofs.Asking.{on_err, until_now, second_until, chosen_until, pks_until, told_first, told_second, told_third, moved, nothing_asked, tfm_asked, vf_asked, glyphs_asked, rose_all, in_order, none_of, some_of, is_there, glyphs_seen, glyphs_counted}
use Rattle.font_decode.proofs.loading.fetch.Goals as goal

abbrev bytes : Vec ℕ Global → List ℕ
bytes v = v.items

pub returns-then-not-is_valid_name-clause-asked : goal.returns-then-not-is_valid_name-clause-asked
returns-then-not-is_valid_name-clause-asked g c =
    let u = c.args.units.now in
    let k = c.args.key.now in
    let invalid : is_valid_name k ≡ false = grind (arith, c.if-not-is_valid_name.true, c.is_valid_name.ensures) in
    nothing_asked (is_valid_name k) true false 0 0 _ (tfm_name k) (vf_name k) (glyph_choices u k) invalid

pub returns-in_err-tfm-clause-named_until : goal.returns-in_err-tfm-clause-named_until
returns-in_err-tfm-clause-named_until g c =
    let valid : is_valid_name c.args.key.now ≡ true = grind (arith, c.if-not-is_valid_name.false, c.is_valid_name.ensures) in
    on_err c.from_residual.result _ (told_first bytes c.args.units.now c.args.key.now (g.F.FontSource.library c.args.source.now) _ _ valid c.in_err-tfm.ensures.stopped)

pub returns-in_err-tfm-clause-stopped : goal.returns-in_err-tfm-clause-stopped
returns-in_err-tfm-clause-stopped g c =
    let k = c.args.key.now in
    let valid : is_valid_name c.args.key.now ≡ true = grind (arith, c.if-not-is_valid_name.false, c.is_valid_name.ensures) in
    on_err c.from_residual.result _ (chosen_until (is_valid_name k) _ _ (tfm_name k) (vf_name k) (glyph_choices c.args.units.now k) valid (until_now _ _ _ _ c.in_err-tfm.ensures.stopped))

pub returns-then-is_none-clause-asked : goal.returns-then-is_none-clause-asked
returns-then-is_none-clause-asked g c =
    let u = c.args.units.now in
    let k = c.args.key.now in
    let valid : is_valid_name c.args.key.now ≡ true = grind (arith, c.if-not-is_valid_name.false, c.is_valid_name.ensures) in
    tfm_asked (is_valid_name k) true false 0 0 _ _ (tfm_name k) (vf_name k) (glyph_choices u k) valid refl c.in_ok-tfm.ensures.asked

pub returns-in_err-vf-clause-named_until : goal.returns-in_err-vf-clause-named_until
returns-in_err-vf-clause-named_until g c =
    let valid : is_valid_name c.args.key.now ≡ true = grind (arith, c.if-not-is_valid_name.false, c.is_valid_name.ensures) in
    let has : is_none c.in_ok-tfm.tfm ≡ false = is_there c.in_ok-tfm.tfm _ c.is_none.ensures c.if-is_none.false in
    on_err c.from_residual-in_err-vf.result _ (told_second bytes c.args.units.now c.args.key.now (g.F.FontSource.library c.args.source.now) c.in_ok-tfm.tfm _ _ _ valid has
    c.in_ok-tfm.ensures.file c.in_ok-tfm.ensures.asked c.in_err-vf.ensures.stopped)

pub returns-in_err-vf-clause-stopped : goal.returns-in_err-vf-clause-stopped
returns-in_err-vf-clause-stopped g c =
    let k = c.args.key.now in
    let valid : is_valid_name c.args.key.now ≡ true = grind (arith, c.if-not-is_valid_name.false, c.is_valid_name.ensures) in
    on_err c.from_residual-in_err-vf.result _ (chosen_until (is_valid_name k) _ _ (tfm_name k) (vf_name k) (glyph_choices c.args.units.now k) valid
    (second_until _ _ _ _ _ _ c.in_ok-tfm.ensures.asked c.in_err-vf.ensures.stopped))

pub returns-then-is_some-clause-asked : goal.returns-then-is_some-clause-asked
returns-then-is_some-clause-asked g c =
    let u = c.args.units.now in
    let k = c.args.key.now in
    let valid : is_valid_name c.args.key.now ≡ true = grind (arith, c.if-not-is_valid_name.false, c.is_valid_name.ensures) in
    let has : is_none c.in_ok-tfm.tfm ≡ false = is_there c.in_ok-tfm.tfm _ c.is_none.ensures c.if-is_none.false in
    let there : is_some c.in_ok-vf.vf ≡ true = let h = c.if-is_some.true in let e = c.is_some.ensures in cc in
    vf_asked (is_valid_name k) _ _ (fewest_glyphs u k false false) (most_glyphs u k false) _ _ _ (tfm_name k) (vf_name k) (glyph_choices u k) valid (none_of bytes c.in_ok-tfm.tfm false has) (some_of bytes c.in_ok-vf.vf true there)
    c.in_ok-tfm.ensures.asked c.in_ok-vf.ensures.asked

pub returns-in_err-glyphs-clause-named_until : goal.returns-in_err-glyphs-clause-named_until
returns-in_err-glyphs-clause-named_until g c =
    let valid : is_valid_name c.args.key.now ≡ true = grind (arith, c.if-not-is_valid_name.false, c.is_valid_name.ensures) in
    let has : is_none c.in_ok-tfm.tfm ≡ false = is_there c.in_ok-tfm.tfm _ c.is_none.ensures c.if-is_none.false in
    let gone : is_some c.in_ok-vf.vf ≡ false = let h = c.if-is_some.false in let e = c.is_some.ensures in cc in
    let known = g.F.FontSource.library c.args.source.now in
    on_err c.from_residual-in_err-glyphs.result _ (told_third bytes c.args.units.now c.args.key.now known c.in_ok-tfm.tfm c.in_ok-vf.vf _ _ _ _ valid has gone
    c.in_ok-tfm.ensures.file (moved known _ _ c.in_ok-tfm.ensures.library c.in_ok-vf.ensures.file) c.in_ok-tfm.ensures.asked c.in_ok-vf.ensures.asked
    (moved known _ _ c.in_ok-tfm.ensures.library (moved _ _ _ c.in_ok-vf.ensures.library c.in_err-glyphs.ensures.named_until)))

pub returns-in_err-glyphs-clause-stopped : goal.returns-in_err-glyphs-clause-stopped
returns-in_err-glyphs-clause-stopped g c =
    let k = c.args.key.now in
    let valid : is_valid_name c.args.key.now ≡ true = grind (arith, c.if-not-is_valid_name.false, c.is_valid_name.ensures) in
    on_err c.from_residual-in_err-glyphs.result _ (chosen_until (is_valid_name k) _ _ (tfm_name k) (vf_name k) (glyph_choices c.args.units.now k) valid
    (pks_until _ _ _ _ _ _ _ c.in_ok-tfm.ensures.asked c.in_ok-vf.ensures.asked c.in_err-glyphs.ensures.stopped))

pub returns-clause-order : goal.returns-clause-order
returns-clause-order g c =
    let valid : is_valid_name c.args.key.now ≡ true = grind (arith, c.if-not-is_valid_name.false, c.is_valid_name.ensures) in
    let has : is_none c.in_ok-tfm.tfm ≡ false = is_there c.in_ok-tfm.tfm _ c.is_none.ensures c.if-is_none.false in
    let gone : is_some c.in_ok-vf.vf ≡ false = let h = c.if-is_some.false in let e = c.is_some.ensures in cc in
    in_order bytes c.args.units.now c.args.key.now c.in_ok-tfm.tfm c.in_ok-vf.vf c.in_ok-glyphs.glyphs.pk c.in_ok-glyphs.glyphs.gf valid has gone c.in_ok-glyphs.ensures.in_range.0 c.in_ok-glyphs.ensures.in_range.1

pub returns-clause-looked : goal.returns-clause-looked
returns-clause-looked g c =
    let valid : is_valid_name c.args.key.now ≡ true = grind (arith, c.if-not-is_valid_name.false, c.is_valid_name.ensures) in
    let has : is_none c.in_ok-tfm.tfm ≡ false = is_there c.in_ok-tfm.tfm _ c.is_none.ensures c.if-is_none.false in
    let gone : is_some c.in_ok-vf.vf ≡ false = let h = c.if-is_some.false in let e = c.is_some.ensures in cc in
    rose_all (is_valid_name c.args.key.now) _ _ _ _ _ _ _ _ valid (none_of bytes c.in_ok-tfm.tfm false has) (some_of bytes c.in_ok-vf.vf false gone)
    c.in_ok-tfm.ensures.counted c.in_ok-tfm.ensures.most c.in_ok-vf.ensures.counted c.in_ok-vf.ensures.most
    (glyphs_counted bytes c.in_ok-glyphs.glyphs.pk c.in_ok-glyphs.glyphs.gf c.args.units.now c.args.key.now _ _ c.in_ok-glyphs.ensures.looked)

pub returns-clause-asked : goal.returns-clause-asked
returns-clause-asked g c =
    let u = c.args.units.now in
    let k = c.args.key.now in
    let valid : is_valid_name c.args.key.now ≡ true = grind (arith, c.if-not-is_valid_name.false, c.is_valid_name.ensures) in
    let has : is_none c.in_ok-tfm.tfm ≡ false = is_there c.in_ok-tfm.tfm _ c.is_none.ensures c.if-is_none.false in
    let gone : is_some c.in_ok-vf.vf ≡ false = let h = c.if-is_some.false in let e = c.is_some.ensures in cc in
    glyphs_asked (is_valid_name k) _ _ _ _ _ _ _ _ (tfm_name k) (vf_name k) (glyph_choices u k) valid
    (none_of bytes c.in_ok-tfm.tfm false has) (some_of bytes c.in_ok-vf.vf false gone) c.in_ok-tfm.ensures.asked c.in_ok-vf.ensures.asked
    (glyphs_seen bytes c.in_ok-glyphs.glyphs.pk c.in_ok-glyphs.glyphs.gf u k _ _ _ c.in_ok-glyphs.ensures.asked)
