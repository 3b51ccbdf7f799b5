use Rattle.page_workers.proofs.Sending.{sends_on_so}
use Rattle.page_workers.proofs.worker.Worker.wait_for_room.Goals as goal

pub returns-in-Some-clause-outlet : goal.returns-in-Some-clause-outlet
returns-in-Some-clause-outlet g c = sends_on_so c.args.self.now.outlet c.in-Some.outlet c.wait_for_room.new.self c.in-Some.is c.wait_for_room.ensures
