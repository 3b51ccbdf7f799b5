use Rattle.std.proofs.Common.{◌≡◌, ◌∙◌, sym, map, string_bytes}
use Rattle.std.proofs.lemmas.List.Folds.{list_all-map}
use Rattle.std.proofs.lemmas.Result.{IfOk-weaker}
use Rattle.clap.specs.Words.{found_of, kind_of, rows_of}
use Rattle.command_line.specs.declared.parse.LineStop.TheVariants.{Usage}
use Rattle.command_line.specs.Shaped.{is_shaped}
use Rattle.command_line.proofs.Allowed.{allowed_if}
use Rattle.command_line.proofs.Answers.{answer_ok, answer_usage, found_rows, misshapen, no_fault}
use Rattle.command_line.proofs.Answers.{refused_arguments, settings_taken, some_fault}
use Rattle.command_line.proofs.Answers.{taken_arguments}
use Rattle.command_line.proofs.parse.line.Goals as goal

pub returns-then-not-are_shaped-clause-usage : goal.returns-then-not-are_shaped-clause-usage
returns-then-not-are_shaped-clause-usage c _ =
    let arguments = map string_bytes c.args.words.now in
    misshapen arguments c.args.workers
    (list_all-map is_shaped string_bytes c.args.words.now ∙ sym c.if-not-are_shaped.ensures)

pub settings_in-requires : goal.settings_in-requires
settings_in-requires c =
    let arguments = map string_bytes c.args.words.now in
    let f = found_of c.in-Ok.matches in
    let ok = list_all-map is_shaped string_bytes c.args.words.now
    ∙ sym c.if-not-are_shaped.ensures in
    let none = no_fault _ arguments c.in_ok-command.ensures c.in-Ok.ensures.kinds in
    let rows = found_rows _ arguments
    (rows_of f) _ c.in_ok-command.ensures c.in-Ok.ensures.matches in
    let t = taken_arguments arguments f ok none rows in
    (t.uses, t.reads)

settings_given : goal.returns-in-Ok-clause-settings
settings_given c =
    let arguments = map string_bytes c.args.words.now in
    let f = found_of c.in-Ok.matches in
    let ok = list_all-map is_shaped string_bytes c.args.words.now
    ∙ sym c.if-not-are_shaped.ensures in
    let none = no_fault _ arguments c.in_ok-command.ensures c.in-Ok.ensures.kinds in
    let rows = found_rows _ arguments
    (rows_of f) _ c.in_ok-command.ensures c.in-Ok.ensures.matches in
    let t = taken_arguments arguments f ok none rows in
    let same = settings_taken arguments c.args.workers t.uses t.spelled t.distinct
    ∙ sym (c.settings_in.ensures t.uses t.reads) in
    answer_ok c.settings_in.result _ c.ok_or.result c.ok_or.ensures.value same

pub returns-in-Ok-clause-settings : goal.returns-in-Ok-clause-settings
returns-in-Ok-clause-settings = settings_given

pub returns-in-Ok-clause-allowed : goal.returns-in-Ok-clause-allowed
returns-in-Ok-clause-allowed c =
    IfOk-weaker c.ok_or.result _ _ (λ s h. h.0)
    (allowed_if c.args.workers (map string_bytes c.args.words.now) c.ok_or.result
    (settings_given c))

pub returns-in-Ok-clause-at_hand : goal.returns-in-Ok-clause-at_hand
returns-in-Ok-clause-at_hand c =
    IfOk-weaker c.ok_or.result _ _ (λ s h. h.1)
    (allowed_if c.args.workers (map string_bytes c.args.words.now) c.ok_or.result
    (settings_given c))

pub returns-in-Ok-clause-usage : goal.returns-in-Ok-clause-usage
returns-in-Ok-clause-usage c =
    let arguments = map string_bytes c.args.words.now in
    let f = found_of c.in-Ok.matches in
    let ok = list_all-map is_shaped string_bytes c.args.words.now
    ∙ sym c.if-not-are_shaped.ensures in
    let none = no_fault _ arguments c.in_ok-command.ensures c.in-Ok.ensures.kinds in
    let rows = found_rows _ arguments
    (rows_of f) _ c.in_ok-command.ensures c.in-Ok.ensures.matches in
    let t = taken_arguments arguments f ok none rows in
    let same = settings_taken arguments c.args.workers t.uses t.spelled t.distinct
    ∙ sym (c.settings_in.ensures t.uses t.reads) in
    answer_usage c.settings_in.result _ c.ok_or.result c.ok_or.ensures.value same

pub returns-in-Err-clause-usage : goal.returns-in-Err-clause-usage
returns-in-Err-clause-usage c usage =
    let arguments = map string_bytes c.args.words.now in
    let ok = list_all-map is_shaped string_bytes c.args.words.now
    ∙ sym c.if-not-are_shaped.ensures in
    let is_usage : c.stop_of.result ≡ Usage = cc in
    refused_arguments arguments c.args.workers ok
    (some_fault _ arguments (kind_of c.in-Err.error) c.in_ok-command.ensures c.in-Err.ensures.kinds
    (c.stop_of.ensures.usage is_usage))
