use Rattle.std.proofs.Common.{◌≡◌, ◌∙◌, ◌+◌, ◌++◌, ◌<◌, ℕ, List, [], ◌∷◌, length, get_or, map, take, sym, ap}
use Rattle.std.specs.Arc.{arc_value}
use Rattle.std.specs.List.{flat_map}
use Rattle.std.specs.declared.alloc.Global.{Global}
use Rattle.std.specs.declared.sync.Arc.{Arc}
use Rattle.std.proofs.lemmas.List.{flat_map_more, map-append, take_more}
use Rattle.outside.specs.declared.keys.FontKey.{FontKey}
use Rattle.run_report.specs.Trace.{further_text}
use Rattle.run_report.proofs.Joined.{puts_as, puts_twice}
use Rattle.run_report.proofs.trace.put_further.Goals as goal

-- one key more
one_more : (keys : List (Arc FontKey Global)) (i : ℕ) (k : Arc FontKey Global) → i < length keys → k ≡ get_or keys i k
    → flat_map further_text (map arc_value (take i keys)) ++ further_text (arc_value k) ≡ flat_map further_text (map arc_value (take (i + 1) keys))
one_more keys i k below is =
    flat_map_more further_text [] (map arc_value (take i keys)) (arc_value k)
    ∙ ap (flat_map further_text) (sym (map-append arc_value (take i keys) (k ∷ [])))
    ∙ ap (λ (x : Arc FontKey Global). flat_map further_text (map arc_value (take i keys ++ x ∷ []))) is
    ∙ ap (λ (xs : List (Arc FontKey Global)). flat_map further_text (map arc_value xs)) (sym (take_more keys i k below))

pub loop-key-preserved : goal.loop-key-preserved
loop-key-preserved g c =
    let key = puts_as (ap (λ (k : FontKey). further_text k) c.deref.ensures) (puts_twice c.put.ensures c.put_key.ensures) in
    puts_as (one_more c.args.keys.now c.loop-key.key-index c.key-item.result c.loop-key-test.true c.key-item.is)
    (puts_twice c.loop-key.invariant key)
