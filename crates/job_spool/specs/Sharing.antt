-- Which jobs share a cache: those whose documents have equal units, in their order, as long as
-- these have no more pages together than one cache may serve. A cache is named by its first job.
use Rattle.std.specs.Prelude.{ℕ, zero, suc, ◌+◌, ◌==◌, ◌&&◌, Bool, false, nat_le, if◌then◌else◌}
use Rattle.std.specs.Prelude.{List, [], ◌∷◌, ◌++◌, length, slice_index, slice_index_or, Option, Some, None, option_to_list, option_map}
use Rattle.pixel_round.specs.declared.units.Units.{Units}
use Rattle.page_index.specs.Document.{pages_begun}
use Rattle.page_index.specs.Pages.{Indexed, document_units}
use Rattle.job_spool.specs.Limits.{MAX_SHARED_PAGES}

-- for each job its document, where it was read and is one
abbrev pub Documents : Type 0
Documents = List (Option Indexed)

abbrev pub document_at : Documents → ℕ → Option Indexed
document_at documents k = slice_index_or documents k None

-- ---- what a document needs

abbrev pub units_in : Option Indexed → Option Units
units_in None = None
units_in (Some x) = document_units x.res x.reading

abbrev pub pages_in : Option Indexed → ℕ
pages_in None = 0
pages_in (Some x) = pages_begun x.reading

abbrev pub units_eq : Units → Units → Bool
units_eq a b = a.num == b.num && a.den == b.den && a.mag == b.mag && a.res == b.res

abbrev pub has_units : Units → Option Units → Bool
has_units u None = false
has_units u (Some v) = units_eq u v

-- ---- the caches

-- the last of the first k jobs whose document has these units
abbrev pub last_with : Documents → Units → (k : ℕ) → Option ℕ
last_with documents u zero = None
last_with documents u (suc k) =
    if has_units u (units_in (document_at documents k)) then Some k else last_with documents u k

-- the pages of those of the first k jobs that share the cache of the job `first`, by the caches of
-- these jobs
abbrev pub pages_sharing : Documents → (caches : List ℕ) → (first k : ℕ) → ℕ
pages_sharing documents caches first zero = 0
pages_sharing documents caches first (suc k) =
    pages_sharing documents caches first k
    + (if slice_index caches k == first then pages_in (document_at documents k) else 0)

-- the cache of job k, where the last one before it with the same units is this one, if there is
-- one: that job's cache, but a new one where it would have too many pages
abbrev pub cache_after : Documents → (caches : List ℕ) → (k : ℕ) → (last : Option ℕ) → ℕ
cache_after documents caches k None = k
cache_after documents caches k (Some j) =
    if nat_le (pages_sharing documents caches (slice_index caches j) k
    + pages_in (document_at documents k)) MAX_SHARED_PAGES then slice_index caches j else k

-- a job without a document shares no cache
abbrev pub cache_for : Documents → (caches : List ℕ) → (k : ℕ) → Option Units → ℕ
cache_for documents caches k None = k
cache_for documents caches k (Some u) =
    cache_after documents caches k (last_with documents u k)

-- the caches of the first k jobs
abbrev pub caches_below : Documents → (k : ℕ) → List ℕ
caches_below documents zero = []
caches_below documents (suc k) =
    caches_below documents k
    ++ cache_for documents (caches_below documents k) k (units_in (document_at documents k)) ∷ []

abbrev pub caches_of : Documents → List ℕ
caches_of documents = caches_below documents (length documents)

-- ---- the jobs of a cache

-- the document of job k, where it shares the cache of the job `first`
abbrev pub sharer : Documents → (first k : ℕ) → Option Indexed
sharer documents first k =
    if slice_index (caches_of documents) k == first then document_at documents k else None

-- those of the first k jobs that share it, in their order
abbrev pub sharers : Documents → (first k : ℕ) → List ℕ
sharers documents first zero = []
sharers documents first (suc k) =
    sharers documents first k ++ option_to_list (option_map (λ _. k) (sharer documents first k))
