-- The trace of a run: a line for each call of the font cache, in the order of the history.
use Rattle.std.specs.Prelude.{ℕ, true, false, List, [], ◌∷◌, ◌++◌, codes, decimal}
use Rattle.std.specs.List.{flat_map}
use Rattle.outside.specs.declared.keys.FontKey.{FontKey}
use Rattle.cache_core.specs.declared.calls.Call.{Call}
use Rattle.cache_core.specs.declared.calls.Done.{Done}
use Rattle.cache_core.specs.declared.calls.Done.TheVariants.{Hit, Claimed, Busy, Filled, Released}
use Rattle.run_report.specs.Keys.{key_text}

-- a further key whose font was evicted
abbrev pub further_text : FontKey → List ℕ
further_text k = codes ", " ++ key_text k

-- the keys whose fonts were evicted for another, or a dash
abbrev pub evicted_text : List FontKey → List ℕ
evicted_text [] = codes "-"
evicted_text (k ∷ keys) = key_text k ++ flat_map further_text keys

-- what was done with a key
abbrev pub act_text : FontKey → Done → List ℕ
act_text k Hit = codes "look " ++ key_text k ++ codes " hit"
act_text k Claimed = codes "look " ++ key_text k ++ codes " claimed"
act_text k Busy = codes "look " ++ key_text k ++ codes " busy"
act_text k (Filled weight true gone) =
    codes "fill " ++ key_text k ++ codes " evict " ++ evicted_text gone
act_text k (Filled weight false gone) = codes "fill " ++ key_text k ++ codes " not kept"
act_text k Released = codes "release " ++ key_text k

-- the seat, and what it did
abbrev pub entry_line : Call → List ℕ
entry_line c = decimal c.seat ++ codes " " ++ act_text c.key c.done ++ codes "\n"

-- the lines, one after another
abbrev pub trace_text : List Call → List ℕ
trace_text calls = flat_map entry_line calls
