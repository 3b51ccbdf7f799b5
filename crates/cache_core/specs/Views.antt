-- What contracts see of the entries, the claims and the fonts: plain values, and no places in
-- memory.
use Rattle.std.specs.Prelude.{ℕ, Bool, if◌then◌else◌, List, [], ◌∷◌, map, drop, reverse}
use Rattle.std.specs.Arc.{arc_value}
use Rattle.std.specs.declared.sync.Arc.{Arc}
use Rattle.outside.specs.declared.keys.FontKey.{FontKey}
use Rattle.std.specs.Map.{values_of}
use Rattle.cache_core.specs.declared.limits.Limits.{Limits}
use Rattle.cache_core.specs.Machine.{key_eq, stay}
use Rattle.cache_core.specs.declared.calls.Call.{Call}
use Rattle.cache_core.specs.declared.calls.Done.{Done}
use Rattle.cache_core.specs.declared.calls.Done.TheVariants as done
use Rattle.cache_core.specs.declared.entry.Entry.{Entry}
use Rattle.cache_core.specs.declared.entry.Act.{Act}
use Rattle.cache_core.specs.declared.entry.Act.TheVariants as act
use Rattle.cache_core.specs.declared.claims.Claim.{Claim}

abbrev pub done_of : Act → Done
done_of act.Hit = done.Hit
done_of act.Claimed = done.Claimed
done_of act.Busy = done.Busy
done_of (act.Filled fill) = done.Filled fill.value.weight fill.value.kept fill.value.gone
done_of act.Released = done.Released

abbrev pub call_of : Entry → Call
call_of e = record { seat = e.seat; key = arc_value e.key; done = done_of e.act }

abbrev pub calls_of : List Entry → List Call
calls_of entries = map call_of entries

abbrev pub value_of_claim : Claim → ℕ × FontKey
value_of_claim c = (c.seat, arc_value c.key)

abbrev pub claims_of : List Claim → List (ℕ × FontKey)
claims_of claims = map value_of_claim claims

abbrev pub fonts_of : {T A : Type 0} → List (Arc FontKey A × Arc T A) → List (FontKey × T)
fonts_of fonts = map (λ f. (arc_value f.0, arc_value f.1)) fonts

-- the keys with the weights of their fonts
abbrev pub weighed : {T : Type 0} → (T → ℕ) → List (FontKey × T) → List (FontKey × ℕ)
weighed weighs fonts = map (λ f. (f.0, weighs f.1)) fonts

-- the fonts that leave, the last first, where one has come in front of the others
abbrev pub fonts_to_evict : {T : Type 0} → Limits → (T → ℕ) → List (FontKey × T) → List T
fonts_to_evict limits weighs fonts =
    reverse (values_of (drop (stay limits (weighed weighs fonts)) fonts))

-- the fonts that a fill hands out: those that leave for the one that comes in, or that one where it
-- isn't kept
abbrev pub fonts_let_go : {T : Type 0} → Limits → (T → ℕ) → Bool → FontKey → T
    → List (FontKey × T) → List T
fonts_let_go limits weighs kept k font fonts =
    if kept then fonts_to_evict limits weighs ((k, font) ∷ fonts) else font ∷ []

-- whether a stored key is this one
abbrev pub passes : {A : Type 0} → FontKey → Arc FontKey A → Bool
passes k y = key_eq k (arc_value y)
