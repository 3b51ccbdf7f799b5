use Rattle.dvi_commands.proofs.Prefix.{no_spelling_begins_another, no_spelling_is_a_proper_prefix}
use Rattle.dvi_commands.proofs.Determined.{spelling_determines_the_command}
use Rattle.dvi_commands.proofs.Refusals.{spelled_is_not_refused}
use Rattle.dvi_commands.proofs.Unrefused.{unrefused_is_spelled}
use Rattle.dvi_commands.proofs.laws.spellings.Goals as goal

pub returns-clause-apart : goal.returns-clause-apart
returns-clause-apart c = no_spelling_begins_another

pub returns-clause-determined : goal.returns-clause-determined
returns-clause-determined c = spelling_determines_the_command

pub returns-clause-accepted : goal.returns-clause-accepted
returns-clause-accepted c = spelled_is_not_refused

pub returns-clause-no_prefix : goal.returns-clause-no_prefix
returns-clause-no_prefix c = no_spelling_is_a_proper_prefix

pub returns-clause-spelled : goal.returns-clause-spelled
returns-clause-spelled c = unrefused_is_spelled
