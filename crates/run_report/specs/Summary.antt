-- The summary of a run: nine lines, each a name and a number.
use Rattle.std.specs.Prelude.{ℕ, Bool, true, false, List, ◌++◌, length, codes, decimal, count_by}
use Rattle.std.specs.List.{sum_by}
use Rattle.cache_core.specs.declared.calls.Call.{Call}
use Rattle.cache_core.specs.declared.calls.Done.{Done}
use Rattle.cache_core.specs.declared.calls.Done.TheVariants.{Hit, Claimed, Busy, Filled, Released}
use Rattle.cache_core.specs.Laws.{is_claim, is_release}
use Rattle.run_report.specs.declared.counts.Counts.{Counts}

-- ---- which calls are counted, beside claims and releases

abbrev pub is_hit : Done → Bool
is_hit Hit = true
is_hit _ = false

abbrev pub is_busy : Done → Bool
is_busy Busy = true
is_busy _ = false

-- a look is answered in one of three ways
abbrev pub is_look : Done → Bool
is_look Hit = true
is_look Claimed = true
is_look Busy = true
is_look (Filled _ _ _) = false
is_look Released = false

-- how many calls of the history are of a kind
abbrev pub count_of : (Done → Bool) → List Call → ℕ
count_of is_kind history = count_by (λ c. is_kind c.done) history

-- how many fonts were evicted by a call, and by those of the history
abbrev pub evicted_by : Done → ℕ
evicted_by (Filled _ _ gone) = length gone
evicted_by _ = 0

abbrev pub evictions_of : List Call → ℕ
evictions_of history = sum_by (λ c. evicted_by c.done) history

-- ---- the lines

abbrev pub count_line : List ℕ → ℕ → List ℕ
count_line name n = name ++ codes " " ++ decimal n ++ codes "\n"

-- the calls of each kind
abbrev pub calls_text : List Call → List ℕ
calls_text history =
    count_line (codes "looks") (count_of is_look history) ++ count_line (codes "hits")
    (count_of is_hit history)
    ++ count_line (codes "claims") (count_of is_claim history) ++ count_line (codes "busy")
    (count_of is_busy history)
    ++ count_line (codes "evictions") (evictions_of history)
    ++ count_line (codes "releases") (count_of is_release history)

abbrev pub summary_text : Counts → List Call → List ℕ
summary_text counts history =
    count_line (codes "pages") counts.pages ++ calls_text history
    ++ count_line (codes "loads") counts.loads
    ++ count_line (codes "black") counts.black
