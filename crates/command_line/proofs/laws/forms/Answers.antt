use Rattle.command_line.proofs.Apart.{alike}
use Rattle.command_line.proofs.Orders.{any_order}
use Rattle.command_line.proofs.laws.forms.Goals as goal

pub returns-clause-apart_or_joined : goal.returns-clause-apart_or_joined
returns-clause-apart_or_joined c = alike

pub returns-clause-any_order : goal.returns-clause-any_order
returns-clause-any_order c = any_order
