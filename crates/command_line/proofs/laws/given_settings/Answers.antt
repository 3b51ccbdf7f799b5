use Rattle.std.proofs.Common.{◌≡◌, refl, true, le-leb}
use Rattle.std.specs.Prelude.{nat_le}
use Rattle.command_line.specs.Line.{settings_of}
use Rattle.command_line.specs.Settings.{default_settings, default_sheet}
use Rattle.command_line.proofs.Allowed.{allowed}
use Rattle.command_line.proofs.Named.{named}
use Rattle.command_line.proofs.laws.given_settings.Goals as goal

pub returns-clause-allowed : goal.returns-clause-allowed
returns-clause-allowed c = allowed

pub returns-clause-all : goal.returns-clause-all
returns-clause-all c = named

pub returns-clause-defaults : goal.returns-clause-defaults
unfolding settings_of default_settings default_sheet
returns-clause-defaults c workers some =
    let enough : nat_le 1 workers ≡ true = le-leb 1 workers some in rw enough refl
