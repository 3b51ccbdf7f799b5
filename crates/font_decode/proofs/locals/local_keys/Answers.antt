use Rattle.std.proofs.Common.{◌≡◌, ℤ, List, sym, subst}
use Rattle.std.specs.Prelude.{IsTrue}
use Rattle.std.specs.Arc.{arc_value}
use Rattle.std.specs.Option.{option_map}
use Rattle.std.proofs.lemmas.Iterator.Adapters.{YieldsList-from_rev_slice}
use Rattle.std.proofs.lemmas.Iterator.Consumers.{YieldsList-end, YieldsList-turn}
use Rattle.vf_reader.specs.Locals.{local_with}
use Rattle.vf_reader.specs.declared.locals.LocalDef.{LocalDef}
use Rattle.font_decode.specs.Fonts.{key_with}
use Rattle.font_decode.specs.Locals.{are_local_sizes, local_key}
use Rattle.font_decode.specs.Reading.{IsLocalDef}
use Rattle.font_decode.proofs.LocalKeys.{all_seen, keys_more, one_of_all, right_more, seen_more}
use Rattle.font_decode.proofs.locals.local_keys.Goals as goal

pub key_of-requires-clause-local : goal.key_of-requires-clause-local
key_of-requires-clause-local c =
    let t = YieldsList-turn (YieldsList-from_rev_slice c.args.locals.now cc) c.loop-local.yielded _ c.loop-local.yielded_by _ _ c.in-Some.local c.in-Some.is c.next.ensures.steps in
    one_of_all IsLocalDef c.args.locals.now _ c.in-Some.local.now t.0 t.1 c.requires.locals

pub loop-local-preserved : goal.loop-local-preserved
loop-local-preserved c =
    let units = c.args.units.now in
    let size = c.args.size in
    let d = c.in-Some.local.now in
    let key = rw c.in-Some-2.is at c.in_ok-key.ensures in
    record {
      right = subst (λ (locals : List LocalDef). IsTrue (are_local_sizes units size locals)) (sym (seen_more c.loop-local.yielded c.in-Some.local)) (right_more units size _ d key.0 c.loop-local.invariant.right);
      keys = subst (λ (locals : List LocalDef). (n : ℤ) → key_with c.put.new.self n ≡ option_map (local_key units size) (local_with locals n)) (sym (seen_more c.loop-local.yielded c.in-Some.local))
          (keys_more units size _ d (arc_value c.in-Some-2.key) c.loop-local.keys c.put.new.self key.1 c.in_ok-put-in-Some-2.ensures c.loop-local.invariant.keys);
    }

pub returns : goal.returns
returns c =
    let units = c.args.units.now in
    let size = c.args.size in
    let all = all_seen c.loop-local.yielded c.args.locals.now (YieldsList-end (YieldsList-from_rev_slice c.args.locals.now cc) c.loop-local.yielded _ c.loop-local.yielded_by _ _ c.in-None.is c.next.ensures.steps).0 in (
      subst (λ (locals : List LocalDef). IsTrue (are_local_sizes units size locals)) all c.loop-local.invariant.right,
      subst (λ (locals : List LocalDef). (n : ℤ) → key_with c.loop-local.keys n ≡ option_map (local_key units size) (local_with locals n)) all c.loop-local.invariant.keys,
    )
