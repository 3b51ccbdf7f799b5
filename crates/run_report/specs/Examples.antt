-- The texts of one page of a virtual font and its two fonts, by one seat, with caches of several
-- limits.
use Rattle.std.specs.Prelude.{ℕ, List, ◌++◌, codes}
use Rattle.run_report.specs.declared.counts.Counts.{Counts}

abbrev pub trace_of_one : List ℕ
trace_of_one =
    codes "1 look duo 128 128 claimed\n" ++ codes "1 fill duo 128 128 evict -\n"
    ++ codes "1 look dot 128 128 claimed\n" ++ codes "1 fill dot 128 128 evict duo 128 128\n"
    ++ codes "1 look bar 128 128 claimed\n" ++ codes "1 fill bar 128 128 evict dot 128 128\n"
    ++ codes "1 look dot 128 128 claimed\n" ++ codes "1 fill dot 128 128 evict bar 128 128\n"
    ++ codes "1 look bar 128 128 claimed\n" ++ codes "1 fill bar 128 128 evict dot 128 128\n"

abbrev pub trace_of_three : List ℕ
trace_of_three =
    codes "1 look duo 128 128 claimed\n" ++ codes "1 fill duo 128 128 evict -\n"
    ++ codes "1 look dot 128 128 claimed\n" ++ codes "1 fill dot 128 128 evict -\n"
    ++ codes "1 look bar 128 128 claimed\n" ++ codes "1 fill bar 128 128 evict -\n"
    ++ codes "1 look dot 128 128 hit\n" ++ codes "1 look bar 128 128 hit\n"

-- with three fonts and a budget of six bytes, the third drives the first out
abbrev pub trace_of_six : List ℕ
trace_of_six =
    codes "1 look duo 128 128 claimed\n" ++ codes "1 fill duo 128 128 evict -\n"
    ++ codes "1 look dot 128 128 claimed\n" ++ codes "1 fill dot 128 128 evict -\n"
    ++ codes "1 look bar 128 128 claimed\n" ++ codes "1 fill bar 128 128 evict duo 128 128\n"
    ++ codes "1 look dot 128 128 hit\n" ++ codes "1 look bar 128 128 hit\n"

-- with a budget of three bytes the second drives the first out, and the third isn't kept
abbrev pub trace_of_room_three : List ℕ
trace_of_room_three =
    codes "1 look duo 128 128 claimed\n" ++ codes "1 fill duo 128 128 evict -\n"
    ++ codes "1 look dot 128 128 claimed\n" ++ codes "1 fill dot 128 128 evict duo 128 128\n"
    ++ codes "1 look bar 128 128 claimed\n" ++ codes "1 fill bar 128 128 not kept\n"
    ++ codes "1 look dot 128 128 hit\n"
    ++ codes "1 look bar 128 128 claimed\n" ++ codes "1 fill bar 128 128 not kept\n"

-- a font that takes the whole budget drives three out
abbrev pub trace_of_nine : List ℕ
trace_of_nine =
    codes "1 look duo 128 128 claimed\n" ++ codes "1 fill duo 128 128 evict -\n"
    ++ codes "1 look dot 128 128 claimed\n" ++ codes "1 fill dot 128 128 evict -\n"
    ++ codes "1 look bar 128 128 claimed\n" ++ codes "1 fill bar 128 128 evict -\n"
    ++ codes "1 look duo 128 128 hit\n" ++ codes "1 look big 128 128 claimed\n"
    ++ codes "1 fill big 128 128 evict dot 128 128, bar 128 128, duo 128 128\n"
    ++ codes "1 look big 128 128 hit\n" ++ codes "1 look duo 128 128 claimed\n"

-- a second seat is busy while the first has claimed the key, and claims it when the first has
-- released it
abbrev pub trace_of_two_seats : List ℕ
trace_of_two_seats =
    codes "1 look dot 128 128 claimed\n" ++ codes "2 look dot 128 128 busy\n"
    ++ codes "1 release dot 128 128\n" ++ codes "2 look dot 128 128 claimed\n"

-- one page written whole, with 22 black pixels, after eight loads
abbrev pub page_counts : Counts
page_counts = record { pages = 1; loads = 8; black = 22 }

abbrev pub summary_of_three : List ℕ
summary_of_three =
    codes "pages 1\n" ++ codes "looks 5\n" ++ codes "hits 2\n" ++ codes "claims 3\n"
    ++ codes "busy 0\n"
    ++ codes "evictions 0\n" ++ codes "releases 0\n" ++ codes "loads 8\n" ++ codes "black 22\n"

-- with a cache of one font each look claims, and each fill but the first evicts
abbrev pub summary_of_one : List ℕ
summary_of_one =
    codes "pages 1\n" ++ codes "looks 5\n" ++ codes "hits 0\n" ++ codes "claims 5\n"
    ++ codes "busy 0\n"
    ++ codes "evictions 4\n" ++ codes "releases 0\n" ++ codes "loads 8\n" ++ codes "black 22\n"

-- three fonts are evicted by one fill
abbrev pub summary_of_nine : List ℕ
summary_of_nine =
    codes "pages 1\n" ++ codes "looks 7\n" ++ codes "hits 2\n" ++ codes "claims 5\n"
    ++ codes "busy 0\n"
    ++ codes "evictions 3\n" ++ codes "releases 0\n" ++ codes "loads 8\n" ++ codes "black 22\n"

abbrev pub summary_of_two_seats : List ℕ
summary_of_two_seats =
    codes "pages 1\n" ++ codes "looks 3\n" ++ codes "hits 0\n" ++ codes "claims 2\n"
    ++ codes "busy 1\n"
    ++ codes "evictions 0\n" ++ codes "releases 1\n" ++ codes "loads 8\n" ++ codes "black 22\n"
