use mathlib.Core.Logic.{∥∥₁_elim}
use Rattle.real_streams.proofs.Tied.{Appends-prop}
use Rattle.real_streams.proofs.writer.ToWriter.into_used.Goals as goal

pub returns-clause-tied : goal.returns-clause-tied
returns-clause-tied g c = ∥∥₁_elim c.args.self.tied (Appends-prop _ _ _) (λ t. t)
