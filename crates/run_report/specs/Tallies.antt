-- The counts that the code keeps while it goes over a history.
use Rattle.std.specs.Prelude.{◌≡◌, ℕ, ◌+◌, ◌-◌, ◌^◌, ◌≤◌, Bool, List, cond}
use Rattle.cache_core.specs.declared.calls.Call.{Call}
use Rattle.cache_core.specs.declared.calls.Done.{Done}
use Rattle.cache_core.specs.Laws.{is_claim, is_release}
use Rattle.run_report.specs.Summary.{count_of, evicted_by, evictions_of, is_busy, is_hit, is_look}
use Rattle.run_report.specs.declared.tally.Tally.{Tally}

-- the counts are those of these calls
pub record IsTally (t : Tally) (history : List Call) : Type 0 where
  pub looks : t.looks ≡ count_of is_look history
  pub hits : t.hits ≡ count_of is_hit history
  pub claims : t.claims ≡ count_of is_claim history
  pub busy : t.busy ≡ count_of is_busy history
  pub evictions : t.evictions ≡ evictions_of history
  pub releases : t.releases ≡ count_of is_release history

-- one more where the call is of the kind
abbrev pub counted : (Done → Bool) → Done → ℕ → ℕ
counted is_kind done n = n + cond (is_kind done) 1 0

-- a further call was counted
pub record Counts (old new : Tally) (done : Done) : Type 0 where
  pub looks : new.looks ≡ counted is_look done old.looks
  pub hits : new.hits ≡ counted is_hit done old.hits
  pub claims : new.claims ≡ counted is_claim done old.claims
  pub busy : new.busy ≡ counted is_busy done old.busy
  pub evictions : new.evictions ≡ old.evictions + evicted_by done
  pub releases : new.releases ≡ counted is_release done old.releases

-- there is room for one call more, and for as many evictions as one call may make
pub record HasRoom (t : Tally) : Type 0 where
  pub looks : t.looks ≤ 2 ^ 64 - 2
  pub hits : t.hits ≤ 2 ^ 64 - 2
  pub claims : t.claims ≤ 2 ^ 64 - 2
  pub busy : t.busy ≤ 2 ^ 64 - 2
  pub evictions : t.evictions ≤ 2 ^ 128 - 2 ^ 64
  pub releases : t.releases ≤ 2 ^ 64 - 2
