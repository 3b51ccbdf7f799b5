use Rattle.real_streams.proofs.Tied.{tied_on}
use Rattle.real_streams.proofs.writer.ToWriterOutput.write.Goals as goal

pub invariant_of-self-else-is_err : goal.invariant_of-self-else-is_err
invariant_of-self-else-is_err g c = record { tied = tied_on _ _ _ _ _ _ _ c.args.self.now.tied c.write-result.ensures.bytes c.write-result.ensures.logged }
