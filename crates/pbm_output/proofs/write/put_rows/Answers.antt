use Rattle.std.proofs.Common.{ap, sym, ◌++◌}
use Rattle.std.specs.List.{flat_map}
use Rattle.packed_rows.specs.Packing.{row_text}
use Rattle.pbm_output.proofs.write.put_rows.Goals as goal

pub returns-in-Some : goal.returns-in-Some
returns-in-Some g c = λ start before text gathers.
    c.put.ensures start before text (text ++ flat_map row_text c.args.page.now.rows) gathers (ap (λ l. text ++ l) (sym c.in-Some.ensures.text))
