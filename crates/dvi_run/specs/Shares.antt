-- Which pages each of some workers draws.
use Rattle.std.specs.Prelude.{◌≡◌, ℕ, zero, suc, ◌+◌, ◌*◌, ◌/◌, ◌<◌, ◌≤◌, ◌++◌, ◌==◌, List, [], Contains, IfSome, Option, cond, count_by, drop, length, nat_lt, slice_index_or}
use Rattle.std.specs.List.Sorted.{IsStrictlyIncreasing}
use Rattle.page_workers.specs.declared.worker.Worker.{Worker}
use Rattle.dvi_run.specs.Endings.{EndingValue, Written, Page, Source, Output, Notes}
use Rattle.dvi_run.specs.declared.tally.Tally.{Tally}

-- lists of pages, one for each of n workers, have the numbers below `total` together, each once
pub record ArePartitioned (total n : ℕ) (pages : ℕ → List ℕ) : Type 0 where
  -- those of a worker rise, so that it has none twice
  pub rising : (k : ℕ) → k < n → IsStrictlyIncreasing (pages k)
  pub inside : (k page : ℕ) → k < n → Contains (pages k) page → page < total
  -- and no two workers have the same one
  pub shared : (page : ℕ) → page < total → (k : ℕ) × (k < n) × Contains (pages k) page
      × ((j : ℕ) → j < n → Contains (pages j) page → j ≡ k)

-- n workers drew n pages, counted from 0, each page once and by one of them, which drew its own
-- in rising order
abbrev pub PartitionPages : {F : Type 0} (total n : ℕ) (workers : List (Worker F)) → Type 0
PartitionPages {F} total n workers =
    (d : Worker F) → ArePartitioned total n (λ k. (slice_index_or workers k d).pages.items)

-- the pages that a worker drew since it was so
abbrev pub pages_since : {F : Type 0} → (before now : Worker F) → List ℕ
pages_since before now = drop (length before.pages.items) now.pages.items

-- and the same of pages that they drew since they were so
abbrev pub PartitionPagesSince : {F : Type 0} (total n : ℕ) (before now : List (Worker F)) → Type 0
PartitionPagesSince {F} total n before now =
    (d : Worker F) → ArePartitioned total n (λ k.
    pages_since (slice_index_or before k d) (slice_index_or now k d))

-- Pages are drawn in rounds: of one page where there is one worker, and else of 32. With which page
-- the round of a page ends, both counted from 1, where the document is so long
abbrev pub round_end : (n page : ℕ) → ℕ
round_end n page = cond (nat_lt 1 n) ((page + 31) / 32 * 32) page

-- n pages of a document were drawn in a run that ended so: all of them where all were written.
-- Else the page named is one of them, and none is after its round.
abbrev pub DrewUpTo : (pages n drawn : ℕ) → EndingValue → Type 0
DrewUpTo pages n drawn Written = drawn ≡ pages
DrewUpTo pages n drawn (Page page) = (page.page ≤ drawn) × (drawn ≤ round_end n page.page)
DrewUpTo pages n drawn (Source page) = (page ≤ drawn) × (drawn ≤ round_end n page)
DrewUpTo pages n drawn (Output page) = (page ≤ drawn) × (drawn ≤ round_end n page)
DrewUpTo pages n drawn Notes = drawn ≡ pages
DrewUpTo pages n drawn _ = Unit {0}

-- what n workers drew of a document in a run that ended so, and wrote n pages
pub record WorkersDrew {F : Type 0} (pages n : ℕ) (e : EndingValue) (tally : Option Tally)
    (workers : List (Worker F)) : Type 0 where
  -- how many pages
  pub drawn : ℕ
  pub few : drawn ≤ pages
  pub shares : PartitionPages drawn n workers
  pub reach : DrewUpTo pages n drawn e
  -- those that were written are among them
  pub written : IfSome tally (λ t. t.pages ≤ drawn)

-- and what they drew of it since they were so
pub record WorkersDrewSince {F : Type 0} (pages n : ℕ) (e : EndingValue) (tally : Option Tally)
    (before now : List (Worker F)) : Type 0 where
  pub drawn : ℕ
  pub few : drawn ≤ pages
  pub shares : PartitionPagesSince drawn n before now
  pub reach : DrewUpTo pages n drawn e
  pub written : IfSome tally (λ t. t.pages ≤ drawn)

-- ---- how often

-- the lists of the first k workers, one after another
abbrev pub pages_of_first : (k : ℕ) (pages : ℕ → List ℕ) → List ℕ
pages_of_first zero pages = []
pages_of_first (suc k) pages = pages_of_first k pages ++ pages k

-- how often a page is in them
abbrev pub times_drawn : (k : ℕ) (pages : ℕ → List ℕ) (page : ℕ) → ℕ
times_drawn k pages page = count_by (λ p. p == page) (pages_of_first k pages)

-- all lists together have each of the first pages once, as many as there are numbers in them, and
-- no other
pub record EachPageIsDrawnOnce (total n : ℕ) (pages : ℕ → List ℕ) : Type 0 where
  pub count : length (pages_of_first n pages) ≡ total
  pub once : (page : ℕ) → page < total → times_drawn n pages page ≡ 1
  pub never : (page : ℕ) → total ≤ page → times_drawn n pages page ≡ 0
