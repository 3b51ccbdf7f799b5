use Rattle.std.proofs.Common.{◌≡◌, true, false, ℕ, List, Vec, Global, arith}
use Rattle.std.specs.Prelude.{is_some}
use Rattle.std.specs.Option.{option_map}
use Rattle.outside.specs.Library.{Asks}
use Rattle.font_decode.specs.Asked.{AskedUntil}
use Rattle.font_decode.specs.Files.{first_there}
use Rattle.font_decode.specs.Names.{dpi, is_resolution, pk_names, gf_names, glyph_names, name_at}
use Rattle.font_decode.proofs.Asking.{asked_twice, moved, on_err, until_later}
use Rattle.font_decode.proofs.GlyphFiles.{RoseByAll, RoseUpToAll, all_three, counted_both, first_asked, first_rose, is_looked_for, known_begins, known_first, known_near, known_second, none_asked, not_looked_for, rose_both, rose_longer, second_asked, second_rose, stopped_first, stopped_second, until_begins}
use Rattle.font_decode.proofs.loading.load_glyphs.Goals as goal

abbrev bytes : Vec ℕ Global → List ℕ
bytes v = v.items

pub returns-then-not-is_resolution-clause-asked : goal.returns-then-not-is_resolution-clause-asked
returns-then-not-is_resolution-clause-asked g c =
    let u = c.args.units.now in
    let k = c.args.key.now in
    let far : is_resolution (dpi u k) ≡ false = grind (arith, c.if-not-is_resolution.true, c.is_resolution.ensures, c.dpi.ensures) in
    none_asked (is_resolution (dpi u k)) (glyph_names u k) _ far

-- ---- the first load of a PK file failed

pub returns-in_err-pk-clause-stopped : goal.returns-in_err-pk-clause-stopped
returns-in_err-pk-clause-stopped g c =
    let u = c.args.units.now in
    let k = c.args.key.now in
    let near : is_resolution (dpi u k) ≡ true = grind (arith, c.if-not-is_resolution.false, c.is_resolution.ensures, c.dpi.ensures) in
    on_err c.from_residual.result _ (stopped_first (is_resolution (dpi u k)) (pk_names u k) (gf_names u k) near _ _ c.in_err-pk.ensures.stopped)

pub returns-in_err-pk-clause-named_until : goal.returns-in_err-pk-clause-named_until
returns-in_err-pk-clause-named_until g c =
    let u = c.args.units.now in
    let k = c.args.key.now in
    let near : is_resolution (dpi u k) ≡ true = grind (arith, c.if-not-is_resolution.false, c.is_resolution.ensures, c.dpi.ensures) in
    on_err c.from_residual.result _ (known_begins (is_resolution (dpi u k)) (pk_names u k) (gf_names u k) near (g.F.FontSource.library c.args.source.now) (AskedUntil _ _) (until_begins _ _) c.in_err-pk.ensures.named_until)

pub returns-in_err-pk-clause-no_more : goal.returns-in_err-pk-clause-no_more
returns-in_err-pk-clause-no_more g c =
    let u = c.args.units.now in
    let k = c.args.key.now in
    let near : is_resolution (dpi u k) ≡ true = grind (arith, c.if-not-is_resolution.false, c.is_resolution.ensures, c.dpi.ensures) in
    known_begins (is_resolution (dpi u k)) (pk_names u k) (gf_names u k) near (g.F.FontSource.library c.args.source.now) (RoseUpToAll _ _) (rose_longer _ _) c.in_err-pk.ensures.no_more

-- ---- a PK file was found

pub returns-then-is_some-clause-gf : goal.returns-then-is_some-clause-gf
returns-then-is_some-clause-gf g c =
    let there : is_some c.in_ok-pk.pk ≡ true = let h = c.if-is_some.true in let e = c.is_some.ensures in cc in
    not_looked_for bytes c.in_ok-pk.pk (g.F.FontSource.library c.args.source.now) _ there

pub returns-then-is_some-clause-pk : goal.returns-then-is_some-clause-pk
returns-then-is_some-clause-pk g c =
    let u = c.args.units.now in
    let k = c.args.key.now in
    let near : is_resolution (dpi u k) ≡ true = grind (arith, c.if-not-is_resolution.false, c.is_resolution.ensures, c.dpi.ensures) in
    known_near (is_resolution (dpi u k)) (pk_names u k) (g.F.FontSource.library c.args.source.now) (λ l (names : List (List ℕ)). option_map bytes c.in_ok-pk.pk ≡ first_there l names) near c.in_ok-pk.ensures.file

pub returns-then-is_some-clause-counted : goal.returns-then-is_some-clause-counted
returns-then-is_some-clause-counted g c =
    let u = c.args.units.now in
    let k = c.args.key.now in
    let near : is_resolution (dpi u k) ≡ true = grind (arith, c.if-not-is_resolution.false, c.is_resolution.ensures, c.dpi.ensures) in
    let there : is_some c.in_ok-pk.pk ≡ true = let h = c.if-is_some.true in let e = c.is_some.ensures in cc in
    known_first (is_resolution (dpi u k)) (pk_names u k) (gf_names u k) near bytes c.in_ok-pk.pk (g.F.FontSource.library c.args.source.now) (RoseByAll _ _) there c.in_ok-pk.ensures.file c.in_ok-pk.ensures.counted

pub returns-then-is_some-clause-no_more : goal.returns-then-is_some-clause-no_more
returns-then-is_some-clause-no_more g c =
    let u = c.args.units.now in
    let k = c.args.key.now in
    let near : is_resolution (dpi u k) ≡ true = grind (arith, c.if-not-is_resolution.false, c.is_resolution.ensures, c.dpi.ensures) in
    let there : is_some c.in_ok-pk.pk ≡ true = let h = c.if-is_some.true in let e = c.is_some.ensures in cc in
    known_first (is_resolution (dpi u k)) (pk_names u k) (gf_names u k) near bytes c.in_ok-pk.pk (g.F.FontSource.library c.args.source.now) (RoseUpToAll _ _) there c.in_ok-pk.ensures.file c.in_ok-pk.ensures.no_more

pub returns-then-is_some-clause-named : goal.returns-then-is_some-clause-named
returns-then-is_some-clause-named g c =
    let u = c.args.units.now in
    let k = c.args.key.now in
    let near : is_resolution (dpi u k) ≡ true = grind (arith, c.if-not-is_resolution.false, c.is_resolution.ensures, c.dpi.ensures) in
    let there : is_some c.in_ok-pk.pk ≡ true = let h = c.if-is_some.true in let e = c.is_some.ensures in cc in
    known_first (is_resolution (dpi u k)) (pk_names u k) (gf_names u k) near bytes c.in_ok-pk.pk (g.F.FontSource.library c.args.source.now) (Asks _ _) there c.in_ok-pk.ensures.file c.in_ok-pk.ensures.named

pub returns-then-is_some-clause-looked : goal.returns-then-is_some-clause-looked
returns-then-is_some-clause-looked g c =
    let u = c.args.units.now in
    let k = c.args.key.now in
    let near : is_resolution (dpi u k) ≡ true = grind (arith, c.if-not-is_resolution.false, c.is_resolution.ensures, c.dpi.ensures) in
    let there : is_some c.in_ok-pk.pk ≡ true = let h = c.if-is_some.true in let e = c.is_some.ensures in cc in
    first_rose (is_resolution (dpi u k)) (is_some c.in_ok-pk.pk) _ _ near there c.in_ok-pk.ensures.looked

pub returns-then-is_some-clause-asked : goal.returns-then-is_some-clause-asked
returns-then-is_some-clause-asked g c =
    let u = c.args.units.now in
    let k = c.args.key.now in
    let near : is_resolution (dpi u k) ≡ true = grind (arith, c.if-not-is_resolution.false, c.is_resolution.ensures, c.dpi.ensures) in
    let there : is_some c.in_ok-pk.pk ≡ true = let h = c.if-is_some.true in let e = c.is_some.ensures in cc in
    first_asked (is_resolution (dpi u k)) (is_some c.in_ok-pk.pk) _ _ (name_at u k 2) (name_at u k 3) (name_at u k 4) (gf_names u k) near there c.in_ok-pk.ensures.asked

-- ---- none was found, and a load of a GF file failed

pub returns-in_err-gf-clause-stopped : goal.returns-in_err-gf-clause-stopped
returns-in_err-gf-clause-stopped g c =
    let u = c.args.units.now in
    let k = c.args.key.now in
    let near : is_resolution (dpi u k) ≡ true = grind (arith, c.if-not-is_resolution.false, c.is_resolution.ensures, c.dpi.ensures) in
    let gone : is_some c.in_ok-pk.pk ≡ false = let h = c.if-is_some.false in let e = c.is_some.ensures in cc in
    on_err c.from_residual-in_err-gf.result _
    (stopped_second (is_resolution (dpi u k)) (pk_names u k) (gf_names u k) near _ _ _ (all_three (is_some c.in_ok-pk.pk) _ _ (name_at u k 2) (name_at u k 3) (name_at u k 4) gone c.in_ok-pk.ensures.asked) c.in_err-gf.ensures.stopped)

pub returns-in_err-gf-clause-named_until : goal.returns-in_err-gf-clause-named_until
returns-in_err-gf-clause-named_until g c =
    let u = c.args.units.now in
    let k = c.args.key.now in
    let near : is_resolution (dpi u k) ≡ true = grind (arith, c.if-not-is_resolution.false, c.is_resolution.ensures, c.dpi.ensures) in
    let gone : is_some c.in_ok-pk.pk ≡ false = let h = c.if-is_some.false in let e = c.is_some.ensures in cc in
    let known = g.F.FontSource.library c.args.source.now in
    on_err c.from_residual-in_err-gf.result _
    (known_second (is_resolution (dpi u k)) (pk_names u k) (gf_names u k) near bytes c.in_ok-pk.pk known (Asks _ _) (AskedUntil _ _) (AskedUntil _ _) (until_later _ _ _) gone
    c.in_ok-pk.ensures.file c.in_ok-pk.ensures.named (moved known _ _ c.in_ok-pk.ensures.library c.in_err-gf.ensures.named_until))

pub returns-in_err-gf-clause-no_more : goal.returns-in_err-gf-clause-no_more
returns-in_err-gf-clause-no_more g c =
    let u = c.args.units.now in
    let k = c.args.key.now in
    let near : is_resolution (dpi u k) ≡ true = grind (arith, c.if-not-is_resolution.false, c.is_resolution.ensures, c.dpi.ensures) in
    let gone : is_some c.in_ok-pk.pk ≡ false = let h = c.if-is_some.false in let e = c.is_some.ensures in cc in
    let known = g.F.FontSource.library c.args.source.now in
    known_second (is_resolution (dpi u k)) (pk_names u k) (gf_names u k) near bytes c.in_ok-pk.pk known (RoseUpToAll _ _) (RoseUpToAll _ _)
    (RoseUpToAll _ _) (rose_both _ _ _) gone c.in_ok-pk.ensures.file c.in_ok-pk.ensures.no_more (moved known _ _ c.in_ok-pk.ensures.library c.in_err-gf.ensures.no_more)

-- ---- all six were looked for, up to the first that was there

pub returns-clause-pk : goal.returns-clause-pk
returns-clause-pk g c =
    let u = c.args.units.now in
    let k = c.args.key.now in
    let near : is_resolution (dpi u k) ≡ true = grind (arith, c.if-not-is_resolution.false, c.is_resolution.ensures, c.dpi.ensures) in
    known_near (is_resolution (dpi u k)) (pk_names u k) (g.F.FontSource.library c.args.source.now) (λ l (names : List (List ℕ)). option_map bytes c.in_ok-pk.pk ≡ first_there l names) near c.in_ok-pk.ensures.file

pub returns-clause-gf : goal.returns-clause-gf
returns-clause-gf g c =
    let u = c.args.units.now in
    let k = c.args.key.now in
    let near : is_resolution (dpi u k) ≡ true = grind (arith, c.if-not-is_resolution.false, c.is_resolution.ensures, c.dpi.ensures) in
    let gone : is_some c.in_ok-pk.pk ≡ false = let h = c.if-is_some.false in let e = c.is_some.ensures in cc in
    let known = g.F.FontSource.library c.args.source.now in
    is_looked_for bytes c.in_ok-pk.pk c.in_ok-gf.gf known _ gone
    (known_near (is_resolution (dpi u k)) (gf_names u k) known (λ l (names : List (List ℕ)). option_map bytes c.in_ok-gf.gf ≡ first_there l names) near
    (moved known _ _ c.in_ok-pk.ensures.library c.in_ok-gf.ensures.file))

pub returns-clause-counted : goal.returns-clause-counted
returns-clause-counted g c =
    let u = c.args.units.now in
    let k = c.args.key.now in
    let near : is_resolution (dpi u k) ≡ true = grind (arith, c.if-not-is_resolution.false, c.is_resolution.ensures, c.dpi.ensures) in
    let gone : is_some c.in_ok-pk.pk ≡ false = let h = c.if-is_some.false in let e = c.is_some.ensures in cc in
    let known = g.F.FontSource.library c.args.source.now in
    known_second (is_resolution (dpi u k)) (pk_names u k) (gf_names u k) near bytes c.in_ok-pk.pk known (RoseByAll _ _) (RoseByAll _ _)
    (RoseByAll _ _) (counted_both _ _ _) gone c.in_ok-pk.ensures.file c.in_ok-pk.ensures.counted (moved known _ _ c.in_ok-pk.ensures.library c.in_ok-gf.ensures.counted)

pub returns-clause-no_more : goal.returns-clause-no_more
returns-clause-no_more g c =
    let u = c.args.units.now in
    let k = c.args.key.now in
    let near : is_resolution (dpi u k) ≡ true = grind (arith, c.if-not-is_resolution.false, c.is_resolution.ensures, c.dpi.ensures) in
    let gone : is_some c.in_ok-pk.pk ≡ false = let h = c.if-is_some.false in let e = c.is_some.ensures in cc in
    let known = g.F.FontSource.library c.args.source.now in
    known_second (is_resolution (dpi u k)) (pk_names u k) (gf_names u k) near bytes c.in_ok-pk.pk known (RoseUpToAll _ _) (RoseUpToAll _ _)
    (RoseUpToAll _ _) (rose_both _ _ _) gone c.in_ok-pk.ensures.file c.in_ok-pk.ensures.no_more (moved known _ _ c.in_ok-pk.ensures.library c.in_ok-gf.ensures.no_more)

pub returns-clause-named : goal.returns-clause-named
returns-clause-named g c =
    let u = c.args.units.now in
    let k = c.args.key.now in
    let near : is_resolution (dpi u k) ≡ true = grind (arith, c.if-not-is_resolution.false, c.is_resolution.ensures, c.dpi.ensures) in
    let gone : is_some c.in_ok-pk.pk ≡ false = let h = c.if-is_some.false in let e = c.is_some.ensures in cc in
    let known = g.F.FontSource.library c.args.source.now in
    known_second (is_resolution (dpi u k)) (pk_names u k) (gf_names u k) near bytes c.in_ok-pk.pk known (Asks _ _) (Asks _ _) (Asks _ _) (asked_twice _ _ _) gone
    c.in_ok-pk.ensures.file c.in_ok-pk.ensures.named (moved known _ _ c.in_ok-pk.ensures.library c.in_ok-gf.ensures.named)

pub returns-clause-looked : goal.returns-clause-looked
returns-clause-looked g c =
    let u = c.args.units.now in
    let k = c.args.key.now in
    let near : is_resolution (dpi u k) ≡ true = grind (arith, c.if-not-is_resolution.false, c.is_resolution.ensures, c.dpi.ensures) in
    let gone : is_some c.in_ok-pk.pk ≡ false = let h = c.if-is_some.false in let e = c.is_some.ensures in cc in
    second_rose (is_resolution (dpi u k)) (is_some c.in_ok-pk.pk) (is_some c.in_ok-gf.gf) _ _ _ near gone c.in_ok-pk.ensures.looked c.in_ok-gf.ensures.most c.in_ok-gf.ensures.looked

pub returns-clause-asked : goal.returns-clause-asked
returns-clause-asked g c =
    let u = c.args.units.now in
    let k = c.args.key.now in
    let near : is_resolution (dpi u k) ≡ true = grind (arith, c.if-not-is_resolution.false, c.is_resolution.ensures, c.dpi.ensures) in
    let gone : is_some c.in_ok-pk.pk ≡ false = let h = c.if-is_some.false in let e = c.is_some.ensures in cc in
    second_asked (is_resolution (dpi u k)) (is_some c.in_ok-pk.pk) (is_some c.in_ok-gf.gf) _ _ _ (name_at u k 2) (name_at u k 3) (name_at u k 4) (gf_names u k) near gone c.in_ok-pk.ensures.asked c.in_ok-gf.ensures.asked
