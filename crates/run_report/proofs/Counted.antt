-- Counts of the calls of a history.
use Rattle.std.proofs.Common.{◌≡◌, ◌+◌, cond, [], ◌∷◌, refl, arith}
use Rattle.std.proofs.lemmas.List.Sums.{sum_by-append, sum_by-cons}
use Rattle.cache_core.specs.declared.calls.Call.{Call}
use Rattle.cache_core.specs.declared.calls.Done.{Done}
use Rattle.cache_core.specs.declared.calls.Done.TheVariants.{Hit, Claimed, Busy, Filled, Released}
use Rattle.cache_core.specs.Laws.{is_claim}
use Rattle.run_report.specs.Summary.{evicted_by, is_busy, is_hit, is_look}
use Rattle.run_report.specs.Laws.{CountsAddUp, EvictionsAddUp, LooksAreAnswers}

pub counts_add_up : CountsAddUp
counts_add_up is_kind xs ys = sum_by-append (λ (c : Call). cond (is_kind c.done) 1 0) xs ys

pub evictions_add_up : EvictionsAddUp
evictions_add_up xs ys = sum_by-append (λ (c : Call). evicted_by c.done) xs ys

-- a look is counted once, by its answer
look_once : (d : Done) → cond (is_look d) 1 0 ≡ cond (is_hit d) 1 0 + cond (is_claim d) 1 0 + cond (is_busy d) 1 0
look_once Hit = refl
look_once Claimed = refl
look_once Busy = refl
look_once (Filled weight kept gone) = refl
look_once Released = refl

pub looks_are_answers : LooksAreAnswers
looks_are_answers [] = refl
looks_are_answers (c ∷ history) =
    let first = look_once c.done in
    let others = looks_are_answers history in
    let looks = sum_by-cons (λ (x : Call). cond (is_look x.done) 1 0) c history in
    let hits = sum_by-cons (λ (x : Call). cond (is_hit x.done) 1 0) c history in
    let claims = sum_by-cons (λ (x : Call). cond (is_claim x.done) 1 0) c history in
    let busy = sum_by-cons (λ (x : Call). cond (is_busy x.done) 1 0) c history in
    omega arith
