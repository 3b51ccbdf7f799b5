use Rattle.std.proofs.Common.{◌≡◌, ◌∙◌, ◌+◌, ◌++◌, ◌<◌, ℕ, List, [], ◌∷◌, length, get_or, take, sym, ap}
use Rattle.std.proofs.lemmas.List.{flat_map_more, map-append, take_more}
use Rattle.vf_expand.specs.declared.lack.Lack.{Lack}
use Rattle.page_draw.specs.Lacks.{value_of_lack, values_of}
use Rattle.dvi_run.specs.Lines.{lack_line, lack_lines}
use Rattle.dvi_run.proofs.Puts.{puts_as, puts_twice}
use Rattle.dvi_run.proofs.note.put_lacks.Goals as goal

-- one line more
one_more : (page : ℕ) (lacks : List Lack) (i : ℕ) (l : Lack) → i < length lacks → l ≡ get_or lacks i l
    → lack_lines page (values_of (take i lacks)) ++ lack_line page (value_of_lack l) ≡ lack_lines page (values_of (take (i + 1) lacks))
one_more page lacks i l below is =
    flat_map_more (lack_line page) [] (values_of (take i lacks)) (value_of_lack l)
    ∙ ap (lack_lines page) (sym (map-append value_of_lack (take i lacks) (l ∷ [])))
    ∙ ap (λ (x : Lack). lack_lines page (values_of (take i lacks ++ x ∷ []))) is
    ∙ ap (λ (xs : List Lack). lack_lines page (values_of xs)) (sym (take_more lacks i l below))

pub loop-lack-preserved : goal.loop-lack-preserved
loop-lack-preserved g c =
    puts_as (one_more c.args.page c.args.lacks.now c.loop-lack.lack-index c.lack-item.result c.loop-lack-test.true c.lack-item.is)
    (puts_twice c.loop-lack.invariant c.put_lack.ensures)
