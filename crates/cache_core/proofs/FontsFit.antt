-- The fonts of a state fit, and a fill is taken in one way.
use Rattle.std.proofs.Common.{◌≡◌, ℕ, leb, true, false, not, ◌&&◌, List, [], ◌∷◌, Some, sym, ap, ◌∙◌, subst, arith}
use Rattle.std.proofs.lemmas.Bool.{and_parts}
use Rattle.outside.specs.declared.keys.FontKey.{FontKey}
use Rattle.cache_core.specs.declared.calls.Call.{Call}
use Rattle.cache_core.specs.declared.calls.Done.{Done}
use Rattle.cache_core.specs.declared.calls.Done.TheVariants.{Hit, Claimed, Busy, Filled, Released}
use Rattle.cache_core.specs.declared.limits.Limits.{Limits}
use Rattle.cache_core.specs.Machine.{Machine, empty, option_key_eq, keys_eq, claim_of, gone_of, allows, next, changed_by, machine_after}
use Rattle.cache_core.specs.Laws.{FontsFit, FontsAlwaysFit, FillsAreOne}
use Rattle.cache_core.proofs.SameKeys.{key_is_itself}
use Rattle.cache_core.proofs.Resident.{length_forward, weights_forward, kept_few, kept_light, keys_same, keys_self}
use Rattle.cache_core.proofs.Sound.{by_test, not_true}

fit_changed : (limits : Limits) (m : Machine) (seat : ℕ) (j : FontKey) (d : Done) → FontsFit limits m → FontsFit limits (changed_by limits m seat j d)
fit_changed limits m seat j Hit f =
    let l = length_forward j m.resident in
    let w = weights_forward j m.resident in
    record { few = let was = f.few in omega arith; light = let was = f.light in omega arith }
fit_changed limits m seat j Busy f = f
fit_changed limits m seat j Claimed f = record { few = f.few; light = f.light }
fit_changed limits m seat j (Filled w false _) f = record { few = f.few; light = f.light }
fit_changed limits m seat j (Filled w true _) f = record { few = kept_few limits ((j, w) ∷ m.resident); light = kept_light limits ((j, w) ∷ m.resident) }
fit_changed limits m seat j Released f = record { few = f.few; light = f.light }

fit_from : (limits : Limits) (m n : Machine) (calls : List Call) → FontsFit limits m → machine_after limits m calls ≡ Some n → FontsFit limits n
fit_from limits m n [] f h = let same : m ≡ n = cc in subst (FontsFit limits) same f
fit_from limits m n (c ∷ calls) f h = by_test (allows limits m c)
    (λ t. fit_from limits (next limits m c) n calls (fit_changed limits m c.seat c.key c.done f) (rw t at h))
    (λ t. let h' = rw t at h in absurd cc)

pub fonts_always_fit : FontsAlwaysFit
fonts_always_fit limits history m h = fit_from limits empty m history (record { few = omega arith; light = omega arith }) h

pub fills_are_one : FillsAreOne
fills_are_one limits m seat k w true gone holds = (
  λ t.
      let two = and_parts (option_key_eq (claim_of seat m.claims) (Some k) && leb w limits.budget) (keys_eq gone (gone_of limits ((k, w) ∷ m.resident))) t in
      let one = and_parts (option_key_eq (claim_of seat m.claims) (Some k)) (leb w limits.budget) two.0 in
      (sym one.1, keys_same gone (gone_of limits ((k, w) ∷ m.resident)) two.1),
  λ h. rw (holds, key_is_itself k, sym h.0) (ap (λ l. keys_eq l (gone_of limits ((k, w) ∷ m.resident))) h.1 ∙ keys_self (gone_of limits ((k, w) ∷ m.resident))),
)
fills_are_one limits m seat k w false gone holds = (
  λ t.
      let two = and_parts (option_key_eq (claim_of seat m.claims) (Some k) && not (leb w limits.budget)) (keys_eq gone []) t in
      let one = and_parts (option_key_eq (claim_of seat m.claims) (Some k)) (not (leb w limits.budget)) two.0 in
      (sym (not_true (leb w limits.budget) one.1), keys_same gone [] two.1),
  λ h. rw (holds, key_is_itself k, sym h.0) (ap (λ l. keys_eq l []) h.1),
)
