-- The pages of one worker, which draws them all.
use Rattle.std.proofs.Common.{◌≡◌, ℕ, zero, suc, ◌+◌, ◌-◌, ◌<◌, ◌≤◌, List, length, get_or, sym, subst, ◌∙◌, arith}
use Rattle.std.specs.Prelude.{Contains}
use Rattle.std.specs.List.Sorted.{IsStrictlyIncreasing}
use Rattle.std.proofs.lemmas.List.{ext_get_or}
use Rattle.std.proofs.lemmas.List.Elements.{Contains-get_or}
use Rattle.dvi_run.specs.Shares.{ArePartitioned}
use Rattle.dvi_run.proofs.CountedPages.{each_page_is_drawn_once}

above_place : (xs : List ℕ) (k : ℕ) → IsStrictlyIncreasing xs → k < length xs → k ≤ get_or xs k 0
above_place xs zero rises lt = omega arith
above_place xs (suc k) rises lt =
    let before = above_place xs k rises (omega arith) in
    let same : k + 1 ≡ suc k = omega arith in
    let step : get_or xs k 0 < get_or xs (suc k) 0 = subst (λ (i : ℕ). get_or xs k 0 < get_or xs i 0) same (rises k (omega arith)) in
    omega (arith, before, step)

below_end : (xs : List ℕ) (total k j : ℕ) → IsStrictlyIncreasing xs → ((p : ℕ) → Contains xs p → p < total) → k + j < length xs → get_or xs k 0 + j < total
below_end xs total k zero rises inside lt =
    let here = inside (get_or xs k 0) (Contains-get_or xs k 0 (omega arith)) in omega (arith, here)
below_end xs total k (suc j) rises inside lt =
    let later = below_end xs total (suc k) j rises inside (omega arith) in
    let same : k + 1 ≡ suc k = omega arith in
    let step : get_or xs k 0 < get_or xs (suc k) 0 = subst (λ (i : ℕ). get_or xs k 0 < get_or xs i 0) same (rises k (omega arith)) in
    omega (arith, later, step)

-- pages that one worker has alone are 0, 1 and so on
module _ (total : ℕ) (pages : ℕ → List ℕ) (s : ArePartitioned total 1 pages) where
  size : length (pages 0) ≡ total
  size = (each_page_is_drawn_once total 1 pages s).count

  at_place : (k : ℕ) → k < total → get_or (pages 0) k 0 ≡ k
  at_place k lt =
      let long = size in
      let above = above_place (pages 0) k (s.rising 0 (omega arith)) (omega (arith, lt, long)) in
      let below = below_end (pages 0) total k (total - (k + 1)) (s.rising 0 (omega arith)) (λ p has. s.inside 0 p (omega arith) has) (omega (arith, lt, long)) in
      omega (arith, lt, above, below)

pub same_pages : (total : ℕ) (pages others : ℕ → List ℕ) → ArePartitioned total 1 pages → ArePartitioned total 1 others → pages 0 ≡ others 0
same_pages total pages others s t =
    let long = size total pages s in
    let same = size total others t in
    ext_get_or 0 (pages 0) (others 0) (long ∙ sym same) (λ k lt. let below : k < total = omega (arith, lt, long) in at_place total pages s k below ∙ sym (at_place total others t k below))
