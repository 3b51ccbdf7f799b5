-- The first of some workers may begin a run.
use Rattle.std.proofs.Common.{◌≡◌, ℕ, ◌<◌, ◌≤◌, List, length, get_or, take, Option, None, sym, ap, subst, ◌∙◌}
use Rattle.std.proofs.lemmas.List.{get_or-take, length-take-le}
use Rattle.outside.specs.Library.{FileTable}
use Rattle.page_workers.specs.declared.worker.Worker.{Worker}
use Rattle.dvi_run.specs.Rounds.{IsFresh}
use Rattle.dvi_run.specs.Together.{IsReadyWorker}

module _ {F : Type 0} (n : ℕ) (ws : List (Worker F)) (there : n ≤ length ws) where
  long_prefix : length (take n ws) ≡ n
  long_prefix = length-take-le n ws there

  pub prefix_some : 1 ≤ n → 1 ≤ length (take n ws)
  prefix_some some = subst (λ (m : ℕ). 1 ≤ m) (sym long_prefix) some

  pub prefix_few : n ≤ 32 → length (take n ws) ≤ 32
  prefix_few few = subst (λ (m : ℕ). m ≤ 32) (sym long_prefix) few

  prefix_at : (k : ℕ) (d : Worker F) → k < length (take n ws) → (k < n) × (get_or (take n ws) k d ≡ get_or ws k d)
  prefix_at k d lt = let below : k < n = subst (λ (m : ℕ). k < m) long_prefix lt in (below, get_or-take n ws k d below)

module _ {F : Type 0} (library : F → Option FileTable) (known : Option FileTable) (n : ℕ) (ws : List (Worker F)) (there : n ≤ length ws)
    (ready : (k : ℕ) (d : Worker F) → k < n → IsReadyWorker library known (get_or ws k d)) where
  pub prefix_fresh : (k : ℕ) (d : Worker F) → k < length (take n ws) → IsFresh library known (get_or (take n ws) k d)
  prefix_fresh k d lt = let at = prefix_at n ws there k d lt in subst (λ (w : Worker F). IsFresh library known w) (sym at.1) (ready k d at.0).fresh

  pub prefix_seatless : (k : ℕ) (d : Worker F) → k < length (take n ws) → (get_or (take n ws) k d).seat ≡ None
  prefix_seatless k d lt = let at = prefix_at n ws there k d lt in ap (λ (w : Worker F). w.seat) at.1 ∙ (ready k d at.0).seat
