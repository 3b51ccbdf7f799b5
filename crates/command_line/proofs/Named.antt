-- All settings within their limits can be given.
use Rattle.std.proofs.Common.{◌≡◌, ◌∙◌, ◌≤◌, ◌<◌, ◌^◌, ◌&&◌, ℕ, Bool, cond, true, false, List}
use Rattle.std.proofs.Common.{◌∷◌, Option, Some, None, codes, decimal, refl, ap}
use Rattle.std.proofs.Common.{arith, le-leb}
use Rattle.std.specs.Prelude.{IfSome, IsSome, IsTrue, bytes_eq, nat_le, option_and_then}
use Rattle.std.specs.List.{list_all}
use Rattle.std.specs.Str.Parse.{digits_value}
use Rattle.std.proofs.lemmas.Bool.{and_from}
use Rattle.pixel_round.specs.Limits.{MAX_RESOLUTION}
use Rattle.raster_page.specs.Limits.{MAX_PAGE_SIDE}
use Rattle.command_line.specs.declared.settings.Settings.{Settings}
use Rattle.command_line.specs.Limits.{MAX_ROOM}
use Rattle.command_line.specs.Settings.{AreSettings}
use Rattle.command_line.specs.Line.{Text, Use, are_distinct, choices, has_sample}
use Rattle.command_line.specs.Line.{is_in_range, is_short, is_used}
use Rattle.command_line.specs.Line.{is_within, number_in, number_of, settings_among}
use Rattle.command_line.specs.Line.{settings_from, settings_of, uses_of}
use Rattle.command_line.specs.Laws.{naming_all}
use Rattle.command_line.proofs.Switches.{few_digits, is_value-decimal, more_distinct, more_spelled}
use Rattle.command_line.proofs.Switches.{more_uses, packed_is, sample_is, sample_short, summary_is}
use Rattle.command_line.proofs.Switches.{told, tolerant_is, trace_is, unnamed, use_of}

-- ---- the uses that name the settings

abbrev uses_for : Settings → List Use
uses_for s = use_of (number_in (codes "res") 1 MAX_RESOLUTION) s.res
    ∷ use_of (number_in (codes "width") 1 MAX_PAGE_SIDE) s.sheet.width
    ∷ use_of (number_in (codes "height") 1 MAX_PAGE_SIDE) s.sheet.height
    ∷ use_of (number_in (codes "left") 0 MAX_PAGE_SIDE) s.sheet.left
    ∷ use_of (number_in (codes "top") 0 MAX_PAGE_SIDE) s.sheet.top
    ∷ use_of (number_in (codes "workers") 1 32) s.workers
    ∷ use_of (number_in (codes "cache") 1 256) s.cache
    ∷ use_of (number_in (codes "room") 0 MAX_ROOM) s.room
    ∷ more_uses s.sample s.packed s.trace s.summary s.sheet.tolerant

spelled : (s : Settings) → AreSettings s → uses_of (naming_all s) ≡ Some (uses_for s)
spelled s h =
    let res = is_value-decimal s.res (omega (arith, h.resolution.1)) in
    let width = is_value-decimal s.sheet.width (omega (arith, h.sheet.width)) in
    let height = is_value-decimal s.sheet.height (omega (arith, h.sheet.height)) in
    let left = is_value-decimal s.sheet.left (omega (arith, h.sheet.left)) in
    let top = is_value-decimal s.sheet.top (omega (arith, h.sheet.top)) in
    let workers = is_value-decimal s.workers (omega (arith, h.workers.1)) in
    let cache = is_value-decimal s.cache (omega (arith, h.cache.1)) in
    let room = is_value-decimal s.room (omega (arith, h.room)) in
    let more = more_spelled s.sample s.packed s.trace s.summary s.sheet.tolerant h.sample in
    rw (res, width, height, left, top, workers, cache, room, more) refl

-- ---- what these uses set

-- a name is none of a sample and of the switches
abbrev IsApart : Text → Type 0
IsApart name = (bytes_eq (codes "sample") name ≡ false) × (bytes_eq (codes "packed") name ≡ false)
    × (bytes_eq (codes "trace") name ≡ false) × (bytes_eq (codes "summary") name ≡ false)
    × (bytes_eq (codes "tolerant") name ≡ false)

none_more : (s : Settings) (name : Text) → IsApart name
    → is_used name (more_uses s.sample s.packed s.trace s.summary s.sheet.tolerant) ≡ false
none_more s name h =
    unnamed s.packed s.trace s.summary s.sheet.tolerant name s.sample h.0 h.1 h.2 h.3 h.4

distinct : (s : Settings) → are_distinct (uses_for s) ≡ true
distinct s =
    let res = none_more s (codes "res") (refl, refl, refl, refl, refl) in
    let width = none_more s (codes "width") (refl, refl, refl, refl, refl) in
    let height = none_more s (codes "height") (refl, refl, refl, refl, refl) in
    let left = none_more s (codes "left") (refl, refl, refl, refl, refl) in
    let top = none_more s (codes "top") (refl, refl, refl, refl, refl) in
    let workers = none_more s (codes "workers") (refl, refl, refl, refl, refl) in
    let cache = none_more s (codes "cache") (refl, refl, refl, refl, refl) in
    let room = none_more s (codes "room") (refl, refl, refl, refl, refl) in
    let more = more_distinct s.packed s.trace s.summary s.sheet.tolerant s.sample in
    rw (res, width, height, left, top, workers, cache, room, more) refl

-- the numbers are those of the settings
record AreTold (s : Settings) : Type 0 where
  res : digits_value 10 (decimal s.res) ≡ s.res
  width : digits_value 10 (decimal s.sheet.width) ≡ s.sheet.width
  height : digits_value 10 (decimal s.sheet.height) ≡ s.sheet.height
  left : digits_value 10 (decimal s.sheet.left) ≡ s.sheet.left
  top : digits_value 10 (decimal s.sheet.top) ≡ s.sheet.top
  workers : digits_value 10 (decimal s.workers) ≡ s.workers
  cache : digits_value 10 (decimal s.cache) ≡ s.cache
  room : digits_value 10 (decimal s.room) ≡ s.room
  sample : number_of (codes "sample")
      (more_uses s.sample s.packed s.trace s.summary s.sheet.tolerant) ≡ s.sample

all_told : (s : Settings) → AreSettings s → AreTold s
all_told s h = record {
  res = told s.res (omega (arith, h.resolution.1));
  width = told s.sheet.width (omega (arith, h.sheet.width));
  height = told s.sheet.height (omega (arith, h.sheet.height));
  left = told s.sheet.left (omega (arith, h.sheet.left));
  top = told s.sheet.top (omega (arith, h.sheet.top));
  workers = told s.workers (omega (arith, h.workers.1));
  cache = told s.cache (omega (arith, h.cache.1));
  room = told s.room (omega (arith, h.room));
  sample = sample_is s.packed s.trace s.summary s.sheet.tolerant s.sample h.sample;
}

bounds : (least most n given : ℕ) → given ≡ n → least ≤ n → n ≤ most
    → (nat_le least given && nat_le given most) ≡ true
bounds least most n given e low high = rw e (and_from _ _ (le-leb least n low) (le-leb n most high))

sample_bounds : (sample given : Option ℕ) → given ≡ sample
    → IfSome sample (λ n. (1 ≤ n) × (n ≤ 1000)) → is_within 1 1000 given ≡ true
sample_bounds None given e h = rw e refl
sample_bounds (Some n) given e h =
    rw e (and_from _ _ (le-leb 1 n h.0) (le-leb n 1000 h.1))

shorts : (s : Settings) → AreSettings s → list_all (is_short (uses_for s)) choices ≡ true
shorts s h =
    let seven = λ (n : ℕ) (small : n < 10 ^ 7).
    few_digits 7 n (omega arith) small (omega (arith, small)) in
    let ten = few_digits 10 s.room (omega arith) (omega (arith, h.room)) (omega (arith, h.room)) in
    and_from _ _ (seven s.res (omega (arith, h.resolution.1)))
    (and_from _ _ (seven s.sheet.width (omega (arith, h.sheet.width)))
    (and_from _ _ (seven s.sheet.height (omega (arith, h.sheet.height)))
    (and_from _ _ (seven s.sheet.left (omega (arith, h.sheet.left)))
    (and_from _ _ (seven s.sheet.top (omega (arith, h.sheet.top)))
    (and_from _ _ (seven s.workers (omega (arith, h.workers.1)))
    (and_from _ _ (seven s.cache (omega (arith, h.cache.1)))
    (and_from _ _ ten
    (and_from _ _ (sample_short s.packed s.trace s.summary s.sheet.tolerant s.sample h.sample)
    refl))))))))

ranges : (s : Settings) → AreSettings s → AreTold s
    → list_all (is_in_range (uses_for s)) choices ≡ true
ranges s h t =
    and_from _ _ (bounds 1 MAX_RESOLUTION s.res _ t.res h.resolution.0 h.resolution.1)
    (and_from _ _ (bounds 1 MAX_PAGE_SIDE s.sheet.width _ t.width h.sheet.some_width h.sheet.width)
    (and_from _ _ (bounds 1 MAX_PAGE_SIDE s.sheet.height _ t.height h.sheet.some_height h.sheet.height)
    (and_from _ _ (bounds 0 MAX_PAGE_SIDE s.sheet.left _ t.left (omega arith) h.sheet.left)
    (and_from _ _ (bounds 0 MAX_PAGE_SIDE s.sheet.top _ t.top (omega arith) h.sheet.top)
    (and_from _ _ (bounds 1 32 s.workers _ t.workers h.workers.0 h.workers.1)
    (and_from _ _ (bounds 1 256 s.cache _ t.cache h.cache.0 h.cache.1)
    (and_from _ _ (bounds 0 MAX_ROOM s.room _ t.room (omega arith) h.room)
    (and_from _ _ (sample_bounds s.sample _ t.sample h.sample) refl))))))))

same : (s : Settings) → AreTold s → settings_from (uses_for s) ≡ s
same s t =
    let packed = packed_is s.packed s.trace s.summary s.sheet.tolerant s.sample in
    let trace = trace_is s.packed s.trace s.summary s.sheet.tolerant s.sample in
    let summary = summary_is s.packed s.trace s.summary s.sheet.tolerant s.sample in
    let tolerant = tolerant_is s.packed s.trace s.summary s.sheet.tolerant s.sample in
    λ i. record {
      res = t.res i;
      sheet = record {
        width = t.width i;
        height = t.height i;
        left = t.left i;
        top = t.top i;
        tolerant = tolerant i;
      };
      workers = t.workers i;
      cache = t.cache i;
      room = t.room i;
      sample = t.sample i;
      packed = packed i;
      trace = trace i;
      summary = summary i;
    }

with_sample : (packed : Bool) (sample : Option ℕ) → (IsTrue packed → IsSome sample)
    → has_sample packed sample ≡ true
with_sample true sample h = h refl
with_sample false sample h = refl

sampled : (s : Settings) → AreSettings s → AreTold s
    → has_sample (is_used (codes "packed") (uses_for s)) (number_of (codes "sample") (uses_for s))
    ≡ true
sampled s h t =
    rw (packed_is s.packed s.trace s.summary s.sheet.tolerant s.sample, t.sample)
    (with_sample s.packed s.sample h.packed)

chosen : (b : Bool) (x s : Settings) → b ≡ true → x ≡ s → cond b (Some x) None ≡ Some s
chosen b x s is e = rw is (ap Some e)

pub named : (workers : ℕ) (s : Settings) → AreSettings s → s.workers ≤ workers
    → settings_of workers (naming_all s) ≡ Some s
unfolding settings_of
named workers s h enough =
    let t = all_told s h in
    let enough_given : nat_le (digits_value 10 (decimal s.workers)) workers ≡ true =
    rw t.workers (le-leb s.workers workers enough) in
    ap (option_and_then (settings_among workers)) (spelled s h)
    ∙ chosen _ _ s
    (and_from _ _ (and_from _ _ (and_from _ _ (and_from _ _ (distinct s) (shorts s h))
    (ranges s h t)) enough_given) (sampled s h t)) (same s t)
