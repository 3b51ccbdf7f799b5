-- What contracts see of the cache: the machine's state, the fonts of its resident keys, its
-- history, and its turns.
use Rattle.std.specs.Prelude.{◌≡◌, ◌⊎◌, ℕ, ◌+◌, ◌≤◌, List, Option, Some, None, IsTrue, refl}
use Rattle.std.specs.Arc.{arc_value}
use Rattle.std.specs.declared.sync.Arc.{Arc}
use Rattle.std.specs.Map.{lookup}
use Rattle.std.specs.Coded.{Coded, code_by, coded×, coded_list, coded_ℕ}
use Rattle.outside.specs.declared.keys.FontKey.{FontKey}
use Rattle.cache_core.specs.declared.calls.Call.{Call}
use Rattle.cache_core.specs.declared.calls.Done.{Done}
use Rattle.cache_core.specs.declared.calls.Done.TheVariants as done
use Rattle.cache_core.specs.contracts.calls.Call as call_row
use Rattle.cache_core.specs.declared.claims.Claim.{Claim}
use Rattle.cache_core.specs.declared.common.Common.{Common}
use Rattle.cache_core.specs.declared.entry.Entry.{Entry}
use Rattle.cache_core.specs.declared.entry.Look.{Look}
use Rattle.cache_core.specs.declared.entry.Look.TheVariants as look
use Rattle.cache_core.specs.KeyCodes.{key_code}
use Rattle.cache_core.specs.Limits.{MAX_CACHED_FONTS}
use Rattle.cache_core.specs.declared.limits.Limits.{Limits}
use Rattle.cache_core.specs.Machine.{Machine, key_eq, empty, weights, machine_after, allows, next}
use Rattle.cache_core.specs.Views.{calls_of, claims_of, fonts_of, weighed}

pub record Cache (T : Type 0) : Type 0 where
  pub limits : Limits
  -- the resident keys with their fonts, newest first
  pub fonts : List (FontKey × T)
  -- each a seat and the key that it claims
  pub claims : List (ℕ × FontKey)
  -- the accepted calls, in order
  pub history : List Call
  -- refused calls included
  pub turns : ℕ

abbrev pub call_code : Coded Call
call_code = call_row.the_row.coded

abbrev pub cache_code : {T : Type 0} → Coded T → Coded (Cache T)
cache_code {T} code =
    code_by ((ℕ × ℕ) × (List (FontKey × T) × (List (ℕ × FontKey) × (List Call × ℕ))))
    (coded× (coded× coded_ℕ coded_ℕ) (coded× (coded_list (coded× key_code code))
    (coded× (coded_list (coded× coded_ℕ key_code)) (coded× (coded_list call_code) coded_ℕ))))
    (λ c. ((c.limits.capacity, c.limits.budget), (c.fonts, (c.claims, (c.history, c.turns)))))
    (λ p. record {
      limits = record { capacity = p.0.0; budget = p.0.1 };
      fonts = p.1.0;
      claims = p.1.1.0;
      history = p.1.1.1.0;
      turns = p.1.1.1.1;
    }) (λ _. refl)

-- the machine with these fonts, each of the weight that its value has, and claims
abbrev pub machine_of : {T : Type 0} → (T → ℕ) → List (FontKey × T) → List (ℕ × FontKey) → Machine
machine_of weighs fonts claims = record { resident = weighed weighs fonts; claims = claims }

abbrev pub machine : {T : Type 0} → (T → ℕ) → Cache T → Machine
machine weighs c = machine_of weighs c.fonts c.claims

abbrev pub call : ℕ → FontKey → Done → Call
call seat k done = record { seat = seat; key = k; done = done }

-- what a look's answer is in the history
abbrev pub answered : {T : Type 0} → Look T → Done
answered (look.Hit font) = done.Hit
answered look.Claimed = done.Claimed
answered look.Busy = done.Busy

-- a hit gives the font, and any other answer says that there is none
abbrev pub GivesFont : {T : Type 0} → Look T → Option T → Type 0
GivesFont (look.Hit font) found = found ≡ Some (arc_value font)
GivesFont look.Claimed found = found ≡ None
GivesFont look.Busy found = found ≡ None

-- the history is legal, and the state is the one after it
abbrev pub IsReached : {T : Type 0} → (T → ℕ) → Cache T → Type 0
IsReached weighs c = machine_after c.limits empty c.history ≡ Some (machine weighs c)

-- the machine allows the call, and makes the change that belongs to it
pub record Takes (limits : Limits) (before after : Machine) (c : Call) : Type 0 where
  pub allowed : IsTrue (allows limits before c)
  pub changed : after ≡ next limits before c

-- each key has the font that it had
abbrev pub SameFonts : {T : Type 0} → List (FontKey × T) → List (FontKey × T) → Type 0
SameFonts before after = (j : FontKey) → lookup (key_eq j) after ≡ lookup (key_eq j) before

-- each font is the one of its key from before, or the new one of this key
abbrev pub AddsFont : {T : Type 0} → FontKey → T → List (FontKey × T) → List (FontKey × T) → Type 0
AddsFont {T} k font before after = (j : FontKey) (found : T) → lookup (key_eq j) after ≡ Some found
    → ((j ≡ k) × (found ≡ font)) ⊎ (lookup (key_eq j) before ≡ Some found)

-- the limits of a common part
abbrev pub limits_of : Common → Limits
limits_of part = record { capacity = part.capacity; budget = part.budget }

-- a state stands in a common part that has its limits, where each resident font stands for its
-- key there
pub record StateStands {T : Type 0} (stands_for : T → FontKey → Common → Type 0) (weighs : T → ℕ)
    (c : Cache T) (part : Common) : Type 0 where
  pub limits : c.limits ≡ limits_of part
  pub reached : IsReached weighs c
  pub fonts : (k : FontKey) (font : T) → lookup (key_eq k) c.fonts ≡ Some font
      → stands_for font k part

-- ---- the fields

abbrev pub value_of_cache : {T A : Type 0} → List (Arc FontKey A × Arc T A) → Limits → List Claim
    → List Entry → ℕ → Cache T
value_of_cache fonts limits claims entries turns =
    record {
      limits = limits;
      fonts = fonts_of fonts;
      claims = claims_of claims;
      history = calls_of entries;
      turns = turns;
    }

-- what holds of every state: it is the one after its history, keeps between one font and the most
-- that a cache may, has room for one font more while it is filled, knows what its fonts weigh
-- together, and has room for an entry per claim
pub record IsSoundCache {T : Type 0} (weighs : T → ℕ) (c : Cache T)
    (places heavy entries claims room : ℕ) : Type 0 where
  pub reached : IsReached weighs c
  pub some_font : 1 ≤ c.limits.capacity
  pub few_fonts : c.limits.capacity ≤ MAX_CACHED_FONTS
  pub one_more : places ≡ c.limits.capacity + 1
  pub total : heavy ≡ weights (weighed weighs c.fonts)
  pub can_end : entries + claims ≤ room
