use Rattle.std.proofs.Common.{◌≡◌, ◌+◌, length, drop, ap, ◌∙◌, arith, Some, length-drop}
use Rattle.std.specs.List.{take_while}
use Rattle.outside.proofs.Growth.{to_end}
use Rattle.page_index.specs.Judged.{is_filler}
use Rattle.page_index.specs.declared.faults.DocFault.TheVariants.{Truncated}
use Rattle.page_index.proofs.Filler.{all_right, too_few, wrong_byte}
use Rattle.page_index.proofs.trailer.judge_filler.Goals as goal

pub returns-then-filler-rest-clause-fault : goal.returns-then-filler-rest-clause-fault
returns-then-filler-rest-clause-fault c =
    let same = to_end c.args.bytes.now c.args.at in
    wrong_byte c.args.at (drop c.args.at c.args.bytes.now) c.filler_length-filler.result
    (c.filler_length-filler.ensures.length ∙ ap (λ t. length (take_while is_filler t)) same)
    (omega (arith, c.if-filler-rest.true, ap length same))

pub returns-then-filler-lt-FEWEST-clause-fault : goal.returns-then-filler-lt-FEWEST-clause-fault
returns-then-filler-lt-FEWEST-clause-fault c =
    let same = to_end c.args.bytes.now c.args.at in
    let len : c.args.at + length (drop c.args.at c.args.bytes.now) ≡ length c.args.bytes.now = omega (arith, length-drop c.args.at c.args.bytes.now, c.requires) in
    too_few c.args.at (drop c.args.at c.args.bytes.now) c.filler_length-filler.result
    (c.filler_length-filler.ensures.length ∙ ap (λ t. length (take_while is_filler t)) same)
    (omega (arith, c.filler_length-filler.ensures.within, ap length same))
    (omega (arith, c.if-filler-rest.false, ap length same))
    c.if-filler-lt-FEWEST.true
    ∙ ap (λ n. Some (Truncated n)) len

pub returns-clause-right : goal.returns-clause-right
returns-clause-right c =
    let same = to_end c.args.bytes.now c.args.at in
    all_right c.args.at (drop c.args.at c.args.bytes.now) c.filler_length-filler.result
    (c.filler_length-filler.ensures.length ∙ ap (λ t. length (take_while is_filler t)) same)
    (omega (arith, c.filler_length-filler.ensures.within, ap length same))
    (omega (arith, c.if-filler-rest.false, ap length same))
    c.if-filler-lt-FEWEST.false
