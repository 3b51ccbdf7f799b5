-- What the calls on the state owe, from what their parts have done to the fields.
use Rattle.std.proofs.Common.{◌≡◌, ◌⊎◌, ℕ, List, [], ◌∷◌, ◌++◌, Some, Result, Ok, Err, IfOk, OnErr, nat_eq, sym, ap, ◌∙◌, subst}
use Rattle.std.specs.declared.sync.Arc.{Arc}
use Rattle.std.specs.Map.{lookup, remove_entry}
use Rattle.std.proofs.lemmas.List.{map-append}
use Rattle.lru.specs.LruCache.{LruCache}
use Rattle.outside.specs.declared.keys.FontKey.{FontKey}
use Rattle.cache_core.specs.declared.calls.Call.{Call}
use Rattle.cache_core.specs.declared.calls.Done.TheVariants.{Released}
use Rattle.cache_core.specs.declared.claims.Claim.{Claim}
use Rattle.cache_core.specs.declared.common.Common.{Common}
use Rattle.cache_core.specs.declared.entry.Entry.{Entry}
use Rattle.cache_core.specs.declared.limits.Limits.{Limits}
use Rattle.cache_core.specs.Machine.{empty, key_eq, claim_of, machine_after}
use Rattle.cache_core.specs.Views.{call_of, calls_of, claims_of, fonts_of}
use Rattle.cache_core.specs.States.{Cache, machine_of, call, Takes, IsReached, SameFonts, AddsFont, StateStands}
use Rattle.cache_core.proofs.Turns.{reached_more, release_takes, same_stands, fill_stands}

-- one entry more is one call more
pub noted : (entries entries' : List Entry) (e : Entry) (c : Call) → entries' ≡ entries ++ e ∷ [] → call_of e ≡ c → calls_of entries' ≡ calls_of entries ++ c ∷ []
noted entries entries' e c more same = ap calls_of more ∙ (map-append call_of entries (e ∷ []) ∙ ap (λ x. calls_of entries ++ x ∷ []) same)

-- what holds for all limits holds for these
pub at_limits : {R E : Type 0} (P : Limits → R → Type 0) (r : Result R E) → IfOk r (λ x. (l : Limits) → P l x) → (l : Limits) → IfOk r (P l)
at_limits P (Ok x) h l = h l
at_limits P (Err e) h l = h

-- a call that may be refused leads from a state that its history leads to, to another
module _ {T A R E : Type 0} (weighs : T → ℕ) (limits : Limits) (old new : LruCache (Arc FontKey A) (Arc T A)) (claims claims' : List Claim) (entries entries' : List Entry) where
  pub call_reaches : (done : R → Call) (r : Result R E)
      → machine_after limits empty (calls_of entries) ≡ Some (machine_of weighs (fonts_of old.entries) (claims_of claims))
      → IfOk r (λ x. Takes limits (machine_of weighs (fonts_of old.entries) (claims_of claims)) (machine_of weighs (fonts_of new.entries) (claims_of claims')) (done x))
      → IfOk r (λ x. calls_of entries' ≡ calls_of entries ++ done x ∷ [])
      → OnErr r ((new ≡ old) × (claims' ≡ claims) × (entries' ≡ entries))
      → machine_after limits empty (calls_of entries') ≡ Some (machine_of weighs (fonts_of new.entries) (claims_of claims'))
  call_reaches done (Ok x) h t n same =
      ap (machine_after limits empty) n ∙ reached_more limits (machine_of weighs (fonts_of old.entries) (claims_of claims)) (machine_of weighs (fonts_of new.entries) (claims_of claims')) (calls_of entries) (done x) h t
  call_reaches done (Err e) h t n same =
      ap (λ l. machine_after limits empty (calls_of l)) same.2 ∙ (h ∙ λ i. Some (machine_of weighs (fonts_of (sym same.0 i).entries) (claims_of (sym same.1 i))))

  pub look_stands : (f : T → FontKey → Common → Type 0) (before after : Cache T) (r : Result R E)
      → after.limits ≡ before.limits → fonts_of old.entries ≡ before.fonts → after.fonts ≡ fonts_of new.entries → IsReached weighs after
      → IfOk r (λ _. SameFonts (fonts_of old.entries) (fonts_of new.entries))
      → OnErr r ((new ≡ old) × (claims' ≡ claims) × (entries' ≡ entries))
      → (part : Common) → StateStands f weighs before part → StateStands f weighs after part
  look_stands f before after (Ok x) lim fonts fonts' reached same kept =
      same_stands f weighs before after lim reached (λ j. ap (lookup (key_eq j)) fonts' ∙ (same j ∙ ap (lookup (key_eq j)) fonts))
  look_stands f before after (Err e) lim fonts fonts' reached same kept =
      same_stands f weighs before after lim reached (λ j. ap (lookup (key_eq j)) (fonts' ∙ (ap (λ (l : LruCache (Arc FontKey A) (Arc T A)). fonts_of l.entries) kept.0 ∙ fonts)))

  pub fill_stands_if : (f : T → FontKey → Common → Type 0) (before after : Cache T) (k : FontKey) (font : T) (r : Result R E)
      → after.limits ≡ before.limits → fonts_of old.entries ≡ before.fonts → after.fonts ≡ fonts_of new.entries → IsReached weighs after
      → IfOk r (λ _. AddsFont k font (fonts_of old.entries) (fonts_of new.entries))
      → OnErr r ((new ≡ old) × (claims' ≡ claims) × (entries' ≡ entries))
      → (part : Common) → StateStands f weighs before part → f font k part → StateStands f weighs after part
  fill_stands_if f before after k font (Ok x) lim fonts fonts' reached adds kept part s v =
      fill_stands f weighs before after lim reached k font
      (λ j found h. subst (λ l. ((j ≡ k) × (found ≡ font)) ⊎ (lookup (key_eq j) l ≡ Some found)) fonts (adds j found (sym (ap (lookup (key_eq j)) fonts') ∙ h))) part s v
  fill_stands_if f before after k font (Err e) lim fonts fonts' reached adds kept part s v =
      same_stands f weighs before after lim reached (λ j. ap (lookup (key_eq j)) (fonts' ∙ (ap (λ (l : LruCache (Arc FontKey A) (Arc T A)). fonts_of l.entries) kept.0 ∙ fonts))) part s

module _ {T : Type 0} (weighs : T → ℕ) (limits : Limits) (fonts : List (FontKey × T)) (claims claims' : List (ℕ × FontKey)) (calls calls' : List Call) (seat : ℕ) (k : FontKey)
    (h : machine_after limits empty calls ≡ Some (machine_of weighs fonts claims)) (holds : claim_of seat claims ≡ Some k) (ended : claims' ≡ remove_entry (nat_eq seat) claims) where
  pub release_reaches : calls' ≡ calls ++ call seat k Released ∷ [] → machine_after limits empty calls' ≡ Some (machine_of weighs fonts claims')
  release_reaches n =
      ap (machine_after limits empty) n
      ∙ (reached_more limits (machine_of weighs fonts claims) (machine_of weighs fonts (remove_entry (nat_eq seat) claims)) calls (call seat k Released) h (release_takes weighs limits fonts claims seat k holds)
      ∙ ap (λ l. Some (machine_of weighs fonts l)) (sym ended))
