use Rattle.std.proofs.Common.{◌≡◌, ℕ, List, ◌∙◌, ◌++◌, [], ap, sym, subst, refl, codes, decimal}
use Rattle.std.specs.List.{flat_map}
use Rattle.std.proofs.lemmas.Result.{err_from_is_err_and}
use Rattle.packed_rows.specs.Packing.{row_text}
use Rattle.outside.specs.Gather.{Gathers}
use Rattle.pbm_output.specs.Pbm.{page_text}
use Rattle.pbm_output.proofs.Joined.{text_joined}
use Rattle.pbm_output.proofs.write.write_by.Goals as goal

pub returns : goal.returns
returns g c =
    let start = g.O.Output.written c.args.out.now in
    let before = g.O.Output.faults c.args.out.now in
    let width = c.as_bytes.result.now in
    let height = c.as_bytes-2.result.now in
    let width_is : width ≡ decimal c.args.page.now.width = c.as_bytes.ensures.value ∙ c.format.ensures.text ∙ ap decimal c.width.ensures.value in
    let height_is : height ≡ decimal c.args.page.now.height = c.as_bytes-2.ensures.value ∙ c.format-2.ensures.text ∙ ap decimal c.height.ensures.value in
    let whole : page_text c.args.page.now ≡ codes "P4\n" ++ width ++ codes " " ++ height ++ codes "\n" ++ flat_map row_text c.args.page.now.rows =
    text_joined (decimal c.args.page.now.width) (decimal c.args.page.now.height) (flat_map row_text c.args.page.now.rows) width height (flat_map row_text c.args.page.now.rows) width_is height_is refl in
    let t1 = c.put.ensures start before [] (codes "P4\n") (c.requires.nothing start before) refl in
    let t2 = c.put-2.ensures start before (codes "P4\n") (codes "P4\n" ++ width) t1 refl in
    let t3 = c.put-3.ensures start before (codes "P4\n" ++ width) (codes "P4\n" ++ width ++ codes " ") t2 refl in
    let t4 = c.put-4.ensures start before (codes "P4\n" ++ width ++ codes " ") (codes "P4\n" ++ width ++ codes " " ++ height) t3 refl in
    let t5 = c.put-5.ensures start before (codes "P4\n" ++ width ++ codes " " ++ height) (codes "P4\n" ++ width ++ codes " " ++ height ++ codes "\n") t4 refl in
    let t6 = subst (λ (text : List ℕ). Gathers start before c.put_rows.new.gather (g.O.Output.written c.put_rows.new.out) (g.O.Output.faults c.put_rows.new.out) text) (sym whole)
    (c.put_rows.ensures start before (codes "P4\n" ++ width ++ codes " " ++ height ++ codes "\n") t5) in
    let written = c.in_ok-finish.ensures start before (page_text c.args.page.now) t6 in
    record { grew = written.grew; cause = written.cause }

pub returns-in_err-finish : goal.returns-in_err-finish
returns-in_err-finish g c =
    let p = err_from_is_err_and c.from_residual.result c.from_residual.ensures.1 in
    let start = g.O.Output.written c.args.out.now in
    let before = g.O.Output.faults c.args.out.now in
    let width = c.as_bytes.result.now in
    let height = c.as_bytes-2.result.now in
    let width_is : width ≡ decimal c.args.page.now.width = c.as_bytes.ensures.value ∙ c.format.ensures.text ∙ ap decimal c.width.ensures.value in
    let height_is : height ≡ decimal c.args.page.now.height = c.as_bytes-2.ensures.value ∙ c.format-2.ensures.text ∙ ap decimal c.height.ensures.value in
    let whole : page_text c.args.page.now ≡ codes "P4\n" ++ width ++ codes " " ++ height ++ codes "\n" ++ flat_map row_text c.args.page.now.rows =
    text_joined (decimal c.args.page.now.width) (decimal c.args.page.now.height) (flat_map row_text c.args.page.now.rows) width height (flat_map row_text c.args.page.now.rows) width_is height_is refl in
    let t1 = c.put.ensures start before [] (codes "P4\n") (c.requires.nothing start before) refl in
    let t2 = c.put-2.ensures start before (codes "P4\n") (codes "P4\n" ++ width) t1 refl in
    let t3 = c.put-3.ensures start before (codes "P4\n" ++ width) (codes "P4\n" ++ width ++ codes " ") t2 refl in
    let t4 = c.put-4.ensures start before (codes "P4\n" ++ width ++ codes " ") (codes "P4\n" ++ width ++ codes " " ++ height) t3 refl in
    let t5 = c.put-5.ensures start before (codes "P4\n" ++ width ++ codes " " ++ height) (codes "P4\n" ++ width ++ codes " " ++ height ++ codes "\n") t4 refl in
    let t6 = subst (λ (text : List ℕ). Gathers start before c.put_rows.new.gather (g.O.Output.written c.put_rows.new.out) (g.O.Output.faults c.put_rows.new.out) text) (sym whole)
    (c.put_rows.ensures start before (codes "P4\n" ++ width ++ codes " " ++ height ++ codes "\n") t5) in
    let written = c.in_err-finish.ensures start before (page_text c.args.page.now) t6 in
    rw p.1 (record { grew = written.grew; cause = written.cause })
