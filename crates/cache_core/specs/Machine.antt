-- The machine of the font cache: the keys whose fonts are resident, the claims of seats on keys,
-- and what each call may do to them. It has keys with weights and no font, and is the project's
-- own: no public standard speaks of a cache that several readers share (Breitenlohner's DVIcopy
-- keeps every font that it read).
use Rattle.std.specs.Prelude.{ℕ, zero, suc, ◌+◌, leb, Bool, true, false, not, ◌&&◌, ◌==◌, if◌then◌else◌, List, [], ◌∷◌, length, take, drop, reverse, Option, Some, None, is_some, IsSome, nat_eq}
use Rattle.std.specs.List.{list_any}
use Rattle.std.specs.Option.{option_map_or}
use Rattle.std.specs.Map.{keys_of, lookup, lookup_entry, remove_entry}
use Rattle.std.specs.Cmp.Lexicographic.{pointwise}
use Rattle.outside.specs.declared.keys.FontKey.{FontKey}
use Rattle.cache_core.specs.declared.limits.Limits.{Limits}
use Rattle.cache_core.specs.declared.calls.Call.{Call}
use Rattle.cache_core.specs.declared.calls.Done.{Done}
use Rattle.cache_core.specs.declared.calls.Done.TheVariants.{Hit, Claimed, Busy, Filled, Released}

-- the keys whose fonts are resident, newest first, each with its font's weight, and the claims,
-- each a seat and a key
pub record Machine : Type 0 where
  pub resident : List (FontKey × ℕ)
  pub claims : List (ℕ × FontKey)

abbrev pub empty : Machine
empty = record { resident = []; claims = [] }

-- a font at a size is another than the same font at another size
abbrev pub key_eq : FontKey → FontKey → Bool
key_eq a b = a.area == b.area && (pointwise nat_eq a.name b.name &&
    (a.size == b.size && a.design == b.design))

abbrev pub option_key_eq : Option FontKey → Option FontKey → Bool
option_key_eq None None = true
option_key_eq (Some a) (Some b) = key_eq a b
option_key_eq _ _ = false

-- two lists have the same keys in the same order
abbrev pub keys_eq : List FontKey → List FontKey → Bool
keys_eq xs ys = pointwise key_eq xs ys

-- the key is resident; a claim names it
abbrev pub has_key : FontKey → List (FontKey × ℕ) → Bool
has_key k resident = list_any (λ e. key_eq k e.0) resident

abbrev pub claims_key : FontKey → List (ℕ × FontKey) → Bool
claims_key k claims = list_any (λ c. key_eq k c.1) claims

-- the key that a seat claims
abbrev pub claim_of : ℕ → List (ℕ × FontKey) → Option FontKey
claim_of seat claims = lookup (nat_eq seat) claims

-- the keys with k, if it is among them, at the front
abbrev pub brought_forward : FontKey → List (FontKey × ℕ) → List (FontKey × ℕ)
brought_forward k resident =
    option_map_or (λ e. e ∷ remove_entry (key_eq k) resident) (lookup_entry (key_eq k) resident)
    resident

-- what keys weigh together
abbrev pub weights : List (FontKey × ℕ) → ℕ
weights [] = 0
weights (e ∷ resident) = e.1 + weights resident

-- whether these keys may be resident together
abbrev pub fit : Limits → List (FontKey × ℕ) → Bool
fit limits resident = leb (length resident) limits.capacity && leb (weights resident) limits.budget

-- how many of the first n keys stay: the last leaves, again and again, while they don't fit
abbrev pub staying : Limits → List (FontKey × ℕ) → ℕ → ℕ
staying limits resident zero = zero
staying limits resident (suc n) =
    if fit limits (take (suc n) resident) then suc n else staying limits resident n

-- how many of all keys stay, which they are, and which leave, the last first
abbrev pub stay : Limits → List (FontKey × ℕ) → ℕ
stay limits resident = staying limits resident (length resident)

abbrev pub kept_of : Limits → List (FontKey × ℕ) → List (FontKey × ℕ)
kept_of limits resident = take (stay limits resident) resident

abbrev pub gone_of : Limits → List (FontKey × ℕ) → List FontKey
gone_of limits resident = reverse (keys_of (drop (stay limits resident) resident))

-- one case for each row of the table of calls: where the call is allowed
abbrev pub allows_done : Limits → Machine → ℕ → FontKey → Done → Bool
allows_done limits m seat k Hit = not (is_some (claim_of seat m.claims)) && has_key k m.resident
allows_done limits m seat k Busy =
    not (is_some (claim_of seat m.claims)) && not (has_key k m.resident) && claims_key k m.claims
allows_done limits m seat k Claimed =
    not (is_some (claim_of seat m.claims)) && not (has_key k m.resident)
    && not (claims_key k m.claims)
allows_done limits m seat k (Filled weight false gone) =
    option_key_eq (claim_of seat m.claims) (Some k) && not (leb weight limits.budget)
    && keys_eq gone []
allows_done limits m seat k (Filled weight true gone) =
    option_key_eq (claim_of seat m.claims) (Some k) && leb weight limits.budget
    && keys_eq gone (gone_of limits ((k, weight) ∷ m.resident))
allows_done limits m seat k Released = option_key_eq (claim_of seat m.claims) (Some k)

-- and what it changes
abbrev pub changed_by : Limits → Machine → ℕ → FontKey → Done → Machine
changed_by limits m seat k Hit = record m { resident = brought_forward k m.resident }
changed_by limits m seat k Busy = m
changed_by limits m seat k Claimed = record m { claims = (seat, k) ∷ m.claims }
changed_by limits m seat k (Filled weight kept _) =
    record {
      resident = if kept then kept_of limits ((k, weight) ∷ m.resident) else m.resident;
      claims = remove_entry (nat_eq seat) m.claims;
    }
changed_by limits m seat k Released = record m { claims = remove_entry (nat_eq seat) m.claims }

abbrev pub allows : Limits → Machine → Call → Bool
allows limits m c = allows_done limits m c.seat c.key c.done

abbrev pub next : Limits → Machine → Call → Machine
next limits m c = changed_by limits m c.seat c.key c.done

-- the state after a list of calls, if each is allowed after those before it
abbrev pub machine_after : Limits → Machine → List Call → Option Machine
machine_after limits m [] = Some m
machine_after limits m (c ∷ calls) =
    if allows limits m c then machine_after limits (next limits m c) calls else None

-- each call is allowed after those before it, from the empty state
abbrev pub Legal : Limits → List Call → Type 0
Legal limits history = IsSome (machine_after limits empty history)
