use Rattle.std.proofs.Common.{◌≤◌, ◌+◌, refl, sym, ap, subst, ◌∙◌, arith, length, take, drop}
use Rattle.dvi_commands.specs.Spelling.{Spells, value_of_command}
use Rattle.dvi_commands.proofs.OneCommand.{after_place, misplaced, cut_fields, cut_text, negative, not_true, one_byte, read_command_is, refused_begins, read_begins}
use Rattle.dvi_commands.proofs.reader.read_command.Goals as goal

pub returns-then-not-is_allowed-clause-refused : goal.returns-then-not-is_allowed-clause-refused
returns-then-not-is_allowed-clause-refused c = misplaced c.args.context c.args.bytes.now c.args.at (omega arith) c.if-opcode-gt-LAST_OPCODE.false (sym c.is_allowed.ensures ∙ c.if-not-is_allowed.true)

pub returns-then-after-size-clause-refused : goal.returns-then-after-size-clause-refused
returns-then-after-size-clause-refused c =
    let all = after_place c.args.bytes.now (c.args.at + 1) in
    cut_fields c.args.context c.args.bytes.now c.args.at (omega arith) c.if-opcode-gt-LAST_OPCODE.false (sym c.is_allowed.ensures ∙ c.if-not-is_allowed.false) (omega (arith, c.field_size-size.ensures, c.if-after-size.true, ap length all))

pub returns-then-after-size-clause-found : goal.returns-then-after-size-clause-found
returns-then-after-size-clause-found c command prefix rest begins =
    refused_begins c.args.context (drop c.args.at c.args.bytes.now) _ command prefix rest (returns-then-after-size-clause-refused c) begins

pub returns-in_default-text_length-clause-refused : goal.returns-in_default-text_length-clause-refused
returns-in_default-text_length-clause-refused c =
    let all = after_place c.args.bytes.now (c.args.at + 1) in
    let room : c.field_size-size.result ≤ length (drop (c.args.at + 1) c.args.bytes.now) = omega (arith, c.if-after-size.false, ap length all) in
    negative c.args.context c.args.bytes.now c.args.at c.field_size-size.result c.split_at.result.0.now (omega arith) c.if-opcode-gt-LAST_OPCODE.false (sym c.is_allowed.ensures ∙ c.if-not-is_allowed.false) c.field_size-size.ensures room (c.split_at.ensures.front ∙ ap (λ xs. take c.field_size-size.result xs) all)
    (c.in_default-text_length.ensures.negative.0 refl)

pub returns-in_default-text_length-clause-found : goal.returns-in_default-text_length-clause-found
returns-in_default-text_length-clause-found c command prefix rest begins =
    refused_begins c.args.context (drop c.args.at c.args.bytes.now) _ command prefix rest (returns-in_default-text_length-clause-refused c) begins

pub returns-then-after-length-clause-refused : goal.returns-then-after-length-clause-refused
returns-then-after-length-clause-refused c =
    let all = after_place c.args.bytes.now (c.args.at + 1) in
    let room : c.field_size-size.result ≤ length (drop (c.args.at + 1) c.args.bytes.now) = omega (arith, c.if-after-size.false, ap length all) in
    cut_text c.args.context c.args.bytes.now c.args.at c.field_size-size.result c.split_at.result.0.now (omega arith) c.if-opcode-gt-LAST_OPCODE.false (sym c.is_allowed.ensures ∙ c.if-not-is_allowed.false) c.field_size-size.ensures room (c.split_at.ensures.front ∙ ap (λ xs. take c.field_size-size.result xs) all)
    (not_true _ c.in-Some-text_length.ensures.negative.1)
    (omega (arith, c.in-Some-text_length.ensures.given, c.if-after-length.true, c.split_at.ensures.back_len, ap length all))

pub returns-then-after-length-clause-found : goal.returns-then-after-length-clause-found
returns-then-after-length-clause-found c command prefix rest begins =
    refused_begins c.args.context (drop c.args.at c.args.bytes.now) _ command prefix rest (returns-then-after-length-clause-refused c) begins

pub returns-clause-read : goal.returns-clause-read
returns-clause-read c =
    let all = after_place c.args.bytes.now (c.args.at + 1) in
    read_command_is c.args.bytes.now c.args.at c.field_size-size.result c.in-Some-text_length.length c.split_at.result.0.now c.split_at.result.1.now (value_of_command c.command_with-command.result) (omega arith)
    (c.split_at.ensures.front ∙ ap (λ xs. take c.field_size-size.result xs) all) (c.split_at.ensures.back ∙ ap (λ xs. drop c.field_size-size.result xs) all) c.command_with-command.ensures

pub returns-clause-found : goal.returns-clause-found
returns-clause-found c command prefix rest begins =
    let all = after_place c.args.bytes.now (c.args.at + 1) in
    read_begins c.args.context c.args.bytes.now c.args.at (c.args.at + 1 + c.field_size-size.result + c.in-Some-text_length.length) (value_of_command c.command_with-command.result) command prefix rest
    (omega arith) (omega (arith, c.if-after-length.false, c.if-after-size.false, c.split_at.ensures.back_len, ap length all)) (returns-clause-read c) begins

pub returns-in-Some-clause-found : goal.returns-in-Some-clause-found
returns-in-Some-clause-found c command prefix rest begins =
    let alone = one_byte c.args.bytes.now c.args.at (omega arith) in
    read_begins c.args.context c.args.bytes.now c.args.at (c.args.at + 1) (value_of_command c.in-Some.command) command prefix rest (omega arith) (omega arith)
    (subst (Spells (value_of_command c.in-Some.command)) (sym alone) c.in-Some.ensures) begins
