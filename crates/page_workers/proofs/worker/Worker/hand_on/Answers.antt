use Rattle.std.proofs.Common.{◌≡◌, ◌∷◌, [], ◌++◌, refl, sym, ◌∙◌, rules}
use Rattle.page_workers.proofs.Sending.{last_one, sends_one, some_is}
use Rattle.page_workers.proofs.worker.Worker.hand_on.Goals as goal

pub returns : goal.returns
returns g c =
    let last = c.in-Some-pop.last in
    let left = c.pop.new.self.items in
    let split : c.args.self.now.results.items ≡ left ++ last ∷ [] = c.in-Some-pop.ensures.items in
    let one = c.requires.result in
    let only = last_one left last one.0 (sym one.1 ∙ split) in
    record {
      source = refl;
      seat = refl;
      loads = refl;
      pages = refl;
      counter = refl;
      none = only.0;
      shorter = search rules;
      space = search rules;
      sends = λ o r is has.
          let here = last_one left last r (sym has ∙ split) in
          let so = sends_one c.in-Some.outlet c.send.new.self c.send.ensures.ring last c.send.ensures.sent c.send.ensures.room o o r (some_is c.args.self.now.outlet o c.in-Some.outlet is c.in-Some.is) here.1 in
          (c.send.new.self, refl, so.0, so.1, so.2);
    }
