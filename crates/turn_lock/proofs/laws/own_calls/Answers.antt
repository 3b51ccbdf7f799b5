use Rattle.turn_lock.proofs.Histories.{calls_are_own, own_calls_determine_all, alone_is_history, owns_are_whole}
use Rattle.turn_lock.proofs.laws.own_calls.Goals as goal

pub returns-clause-own : goal.returns-clause-own
returns-clause-own c = calls_are_own

pub returns-clause-all : goal.returns-clause-all
returns-clause-all c = own_calls_determine_all

pub returns-clause-alone : goal.returns-clause-alone
returns-clause-alone c = alone_is_history

pub returns-clause-whole : goal.returns-clause-whole
returns-clause-whole c = owns_are_whole
