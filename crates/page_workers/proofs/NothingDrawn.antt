-- Workers that drew nothing.
use Rattle.std.proofs.Common.{refl, ◌∙◌}
use Rattle.page_workers.specs.declared.worker.Worker.{Worker}
use Rattle.page_workers.specs.Rounds.{DrewNothing}

pub rested_self : {F : Type 0} (w : Worker F) → DrewNothing w w
rested_self w = record { source = refl; seat = refl; results = refl; loads = refl; pages = refl }

pub rests : {F : Type 0} (a b c : Worker F) → DrewNothing a b → DrewNothing b c → DrewNothing a c
rests a b c p q = record {
  source = q.source ∙ p.source;
  seat = q.seat ∙ p.seat;
  results = q.results ∙ p.results;
  loads = q.loads ∙ p.loads;
  pages = q.pages ∙ p.pages;
}
