-- A worker's spare pages, on which nothing else may depend.
use Rattle.std.specs.Prelude.{◌≡◌, ◌⊎◌, ℕ, ◌/◌, ◌≤◌, [], ◌∷◌, ◌++◌, length}
use Rattle.packed_rows.specs.Bitmap.{Bitmap}
use Rattle.page_workers.specs.declared.worker.Worker.{Worker}

-- a worker but for its spare pages
pub record SameButSparePages {F : Type 0} (before after : Worker F) : Type 0 where
  pub source : after.source ≡ before.source
  pub seat : after.seat ≡ before.seat
  pub results : after.results ≡ before.results
  pub loads : after.loads ≡ before.loads
  pub pages : after.pages ≡ before.pages
  pub counter : after.counter ≡ before.counter

-- a worker has no spare page
abbrev pub HasNoSparePages : {F : Type 0} → Worker F → Type 0
HasNoSparePages w = w.spare_pages.items ≡ []

-- a page became a spare one, or was dropped, as there was no memory to note it
abbrev pub MayKeepPage : {F : Type 0} → Bitmap → (before after : Worker F) → Type 0
MayKeepPage page before after =
    (after.spare_pages.items ≡ before.spare_pages.items ++ page ∷ [])
    ⊎ (after.spare_pages.items ≡ before.spare_pages.items)

-- a worker has no more spare pages than before
abbrev pub HasNoMoreSparePages : {F : Type 0} → (before after : Worker F) → Type 0
HasNoMoreSparePages before after = length after.spare_pages.items ≤ length before.spare_pages.items

-- how many spare pages each of n workers keeps at most after a round: together no more than 32
abbrev pub spare_pages_kept : ℕ → ℕ
spare_pages_kept workers = 32 / workers
