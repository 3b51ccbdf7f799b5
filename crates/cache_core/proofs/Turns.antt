-- What each call does to the machine, from what it does to the fonts and the claims.
use Rattle.std.proofs.Common.{◌≡◌, ℕ, ◌<◌, ◌≤◌, length, true, false, List, [], ◌∷◌, ◌++◌, take, Option, Some, None, Result, Ok, Err, IfOk, OnErr, nat_eq, refl, sym, ap, ◌∙◌, subst, arith, inl, inr}
use Rattle.std.specs.Option.{is_some}
use Rattle.std.specs.Map.{lookup, remove_entry}
use Rattle.std.proofs.lemmas.Bool.{le-leb, lt-leb}
use Rattle.std.proofs.lemmas.List.{take-map, length-map}
use Rattle.lru.specs.LruCache.{promoted}
use Rattle.outside.specs.declared.keys.FontKey.{FontKey}
use Rattle.cache_core.specs.declared.calls.Call.{Call}
use Rattle.cache_core.specs.declared.calls.Done.TheVariants.{Hit, Claimed, Busy, Filled, Released}
use Rattle.cache_core.specs.declared.common.Common.{Common}
use Rattle.cache_core.specs.declared.limits.Limits.{Limits}
use Rattle.cache_core.specs.Machine.{Machine, empty, key_eq, keys_eq, has_key, claims_key, claim_of, stay, gone_of, machine_after}
use Rattle.cache_core.specs.Views.{weighed}
use Rattle.cache_core.specs.States.{Cache, machine, machine_of, call, Takes, IsReached, SameFonts, AddsFont, StateStands}
use Rattle.cache_core.proofs.SameKeys.{key_is_itself}
use Rattle.cache_core.proofs.FontLists.{found_key, weights_moved}
use Rattle.cache_core.proofs.FontsFit.{fonts_always_fit}
use Rattle.cache_core.proofs.Resident.{keys_self}
use Rattle.cache_core.proofs.Steps.{after_one}
use Rattle.cache_core.proofs.Sound.{sound_after, claimed_of}

module _ {T : Type 0} (weighs : T → ℕ) (limits : Limits) (fonts : List (FontKey × T)) (claims : List (ℕ × FontKey)) (seat : ℕ) (k : FontKey) where
  there : (o : Option T) → lookup (key_eq k) fonts ≡ o → has_key k (weighed weighs fonts) ≡ is_some o
  there o h = sym (found_key weighs k fonts) ∙ ap is_some h

  pub hit_takes : (after : List (FontKey × T)) (v : T) → claim_of seat claims ≡ None → lookup (key_eq k) fonts ≡ Some v → after ≡ promoted (key_eq k) fonts
      → Takes limits (machine_of weighs fonts claims) (machine_of weighs after claims) (call seat k Hit)
  hit_takes after v free found moved = record {
    allowed = rw (free, there (Some v) found) refl;
    changed = ap machine_ (ap (weighed weighs) moved ∙ weights_moved weighs k fonts);
  }
    where
      machine_ : List (FontKey × ℕ) → Machine
      machine_ r = record { resident = r; claims = claims }

  pub busy_takes : claim_of seat claims ≡ None → lookup (key_eq k) fonts ≡ None → claims_key k claims ≡ true
      → Takes limits (machine_of weighs fonts claims) (machine_of weighs fonts claims) (call seat k Busy)
  busy_takes free missing claimed = record { allowed = rw (free, there None missing, claimed) refl; changed = refl }

  pub claim_takes : claim_of seat claims ≡ None → lookup (key_eq k) fonts ≡ None → claims_key k claims ≡ false
      → Takes limits (machine_of weighs fonts claims) (machine_of weighs fonts ((seat, k) ∷ claims)) (call seat k Claimed)
  claim_takes free missing unclaimed = record { allowed = rw (free, there None missing, unclaimed) refl; changed = refl }

  -- a font that isn't too heavy comes in front, and some leave
  pub fill_takes : (after : List (FontKey × T)) (v : T) (left : List FontKey) → claim_of seat claims ≡ Some k → weighs v ≤ limits.budget
      → left ≡ gone_of limits ((k, weighs v) ∷ weighed weighs fonts) → after ≡ take (stay limits ((k, weighs v) ∷ weighed weighs fonts)) ((k, v) ∷ fonts)
      → Takes limits (machine_of weighs fonts claims) (machine_of weighs after (remove_entry (nat_eq seat) claims)) (call seat k (Filled (weighs v) true left))
  fill_takes after v left holds light same kept = record {
    allowed = rw (holds, key_is_itself k, le-leb (weighs v) limits.budget light)
        (ap (λ l. keys_eq l (gone_of limits ((k, weighs v) ∷ weighed weighs fonts))) same ∙ keys_self (gone_of limits ((k, weighs v) ∷ weighed weighs fonts)));
    changed = ap machine_ (ap (weighed weighs) kept ∙ sym (take-map (λ (f : FontKey × T). (f.0, weighs f.1)) (stay limits ((k, weighs v) ∷ weighed weighs fonts)) ((k, v) ∷ fonts)));
  }
    where
      machine_ : List (FontKey × ℕ) → Machine
      machine_ r = record { resident = r; claims = remove_entry (nat_eq seat) claims }

  -- one that is too heavy stays out
  pub pass_takes : (v : T) → claim_of seat claims ≡ Some k → limits.budget < weighs v
      → Takes limits (machine_of weighs fonts claims) (machine_of weighs fonts (remove_entry (nat_eq seat) claims)) (call seat k (Filled (weighs v) false []))
  pass_takes v holds heavy = record { allowed = rw (holds, key_is_itself k, lt-leb (weighs v) limits.budget heavy) refl; changed = refl }

  pub release_takes : claim_of seat claims ≡ Some k → Takes limits (machine_of weighs fonts claims) (machine_of weighs fonts (remove_entry (nat_eq seat) claims)) (call seat k Released)
  release_takes holds = record { allowed = rw (holds, key_is_itself k) refl; changed = refl }

-- one call more is a legal history
pub reached_more : (limits : Limits) (before after : Machine) (history : List Call) (c : Call) → machine_after limits empty history ≡ Some before
    → Takes limits before after c → machine_after limits empty (history ++ c ∷ []) ≡ Some after
reached_more limits before after history c h t = after_one limits empty before history c h t.allowed ∙ ap Some (sym t.changed)

-- the same, where the call may be refused
pub reached_if : {R E : Type 0} (limits : Limits) (before after : Machine) (old new : List Call) (done : R → Call) (r : Result R E)
    → machine_after limits empty old ≡ Some before → IfOk r (λ x. Takes limits before after (done x)) → IfOk r (λ x. new ≡ old ++ done x ∷ [])
    → OnErr r ((after ≡ before) × (new ≡ old)) → machine_after limits empty new ≡ Some after
reached_if limits before after old new done (Ok x) h t n same = ap (machine_after limits empty) n ∙ reached_more limits before after old (done x) h t
reached_if limits before after old new done (Err e) h t n same = ap (machine_after limits empty) same.1 ∙ (h ∙ ap Some (sym same.0))

module _ {T : Type 0} where
  nobody : (o : Option T) → is_some o ≡ false → o ≡ None
  nobody None h = refl
  nobody (Some v) h = absurd cc

  -- there are no more fonts than the limits say
  pub few_fonts : (weighs : T → ℕ) (c : Cache T) → IsReached weighs c → length c.fonts ≤ c.limits.capacity
  few_fonts weighs c h =
      let f = fonts_always_fit c.limits c.history (machine weighs c) h in
      let few : length (weighed weighs c.fonts) ≤ c.limits.capacity = f.few in
      let same : length (weighed weighs c.fonts) ≡ length c.fonts = length-map c.fonts (λ (f : FontKey × T). (f.0, weighs f.1)) in
      omega arith

  -- a claimed key is not resident
  pub claimed_is_missing : (weighs : T → ℕ) (c : Cache T) (seat : ℕ) (k : FontKey) → IsReached weighs c → claim_of seat c.claims ≡ Some k → lookup (key_eq k) c.fonts ≡ None
  claimed_is_missing weighs c seat k h holds =
      let s = sound_after c.limits (machine weighs c) c.history h in
      nobody (lookup (key_eq k) c.fonts) (found_key weighs k c.fonts ∙ s.apart k (claimed_of seat k c.claims holds))

  module _ (stands_for : T → FontKey → Common → Type 0) (weighs : T → ℕ) (old new : Cache T) (limits : new.limits ≡ old.limits) (reached : IsReached weighs new) where
    pub same_stands : SameFonts old.fonts new.fonts → (part : Common) → StateStands stands_for weighs old part → StateStands stands_for weighs new part
    same_stands same part s = record { limits = limits ∙ s.limits; reached = reached; fonts = λ k font h. s.fonts k font (sym (same k) ∙ h) }

    pub stands_if : {R E : Type 0} (r : Result R E) → IfOk r (λ _. SameFonts old.fonts new.fonts) → OnErr r (new.fonts ≡ old.fonts)
        → (part : Common) → StateStands stands_for weighs old part → StateStands stands_for weighs new part
    stands_if (Ok x) same kept = same_stands same
    stands_if (Err e) same kept = same_stands (λ j. ap (lookup (key_eq j)) kept)

    pub fill_stands : (k : FontKey) (font : T) → AddsFont k font old.fonts new.fonts → (part : Common) → StateStands stands_for weighs old part → stands_for font k part
        → StateStands stands_for weighs new part
    fill_stands k font adds part s f = record {
      limits = limits ∙ s.limits;
      reached = reached;
      fonts = λ j found h. elim (adds j found h) [
        | inl here ↦ subst (λ x. stands_for x j part) (sym here.1) (subst (λ x. stands_for font x part) (sym here.0) f)
        | inr there ↦ s.fonts j found there
      ];
    }
