-- Settings that arguments give are within their limits.
use Rattle.std.proofs.Common.{◌≡◌, ◌≤◌, ◌*◌, ◌/◌, ℕ, Bool, cond, true, List, Option, Some}
use Rattle.std.proofs.Common.{None, codes, false, refl, subst, arith, leb-true}
use Rattle.std.specs.Prelude.{IfOk, IfSome, IsSome, IsTrue, Result, Ok, Err, min}
use Rattle.std.specs.Prelude.{option_and_then, unwrap_or}
use Rattle.std.specs.List.{list_all}
use Rattle.std.proofs.lemmas.Bool.{and_parts}
use Rattle.pixel_round.specs.Limits.{MAX_RESOLUTION}
use Rattle.raster_page.specs.Limits.{MAX_PAGE_SIDE}
use Rattle.command_line.specs.declared.settings.Settings.{Settings}
use Rattle.command_line.specs.declared.parse.LineStop.{LineStop}
use Rattle.command_line.specs.Limits.{MAX_ROOM}
use Rattle.command_line.specs.Settings.{AreSettings}
use Rattle.command_line.specs.Line.{Text, Use, choices, has_sample, is_in_range, is_used}
use Rattle.command_line.specs.Line.{is_within, number_of}
use Rattle.command_line.specs.Line.{number_or, settings_among, settings_from, settings_of, uses_of}

-- a number that is given lies in its range, as its default does
within_or : (least most default : ℕ) (name : Text) (us : List Use)
    → is_within least most (number_of name us) ≡ true → least ≤ default → default ≤ most
    → (least ≤ number_or default name us) × (number_or default name us ≤ most)
within_or least most default name us within low high = go (number_of name us) within
  where
    go : (given : Option ℕ) → is_within least most given ≡ true
        → (least ≤ unwrap_or given default) × (unwrap_or given default ≤ most)
    go None h = (low, high)
    go (Some n) h = let parts = and_parts _ _ h in
        (leb-true least n parts.0, leb-true n most parts.1)

within_if : (least most : ℕ) (given : Option ℕ) → is_within least most given ≡ true
    → IfSome given (λ n. (least ≤ n) × (n ≤ most))
within_if least most None h = tt
within_if least most (Some n) h =
    let parts = and_parts _ _ h in (leb-true least n parts.0, leb-true n most parts.1)

-- each number of the uses lies in its range
record AreInRange (us : List Use) : Type 0 where
  res : is_within 1 MAX_RESOLUTION (number_of (codes "res") us) ≡ true
  width : is_within 1 MAX_PAGE_SIDE (number_of (codes "width") us) ≡ true
  height : is_within 1 MAX_PAGE_SIDE (number_of (codes "height") us) ≡ true
  left : is_within 0 MAX_PAGE_SIDE (number_of (codes "left") us) ≡ true
  top : is_within 0 MAX_PAGE_SIDE (number_of (codes "top") us) ≡ true
  workers : is_within 1 32 (number_of (codes "workers") us) ≡ true
  cache : is_within 1 256 (number_of (codes "cache") us) ≡ true
  room : is_within 0 MAX_ROOM (number_of (codes "room") us) ≡ true
  sample : is_within 1 1000 (number_of (codes "sample") us) ≡ true

in_range : (us : List Use) → list_all (is_in_range us) choices ≡ true → AreInRange us
in_range us h =
    let res = and_parts _ _ h in
    let width = and_parts _ _ res.1 in
    let height = and_parts _ _ width.1 in
    let left = and_parts _ _ height.1 in
    let top = and_parts _ _ left.1 in
    let workers = and_parts _ _ top.1 in
    let cache = and_parts _ _ workers.1 in
    let room = and_parts _ _ cache.1 in
    let sample = and_parts _ _ room.1 in
    record {
      res = res.0;
      width = width.0;
      height = height.0;
      left = left.0;
      top = top.0;
      workers = workers.0;
      cache = cache.0;
      room = room.0;
      sample = sample.0;
    }

-- packed fonts come with a sample
with_sample : (packed : Bool) (sample : Option ℕ) → has_sample packed sample ≡ true
    → IsTrue packed → IsSome sample
with_sample true sample h is = h
with_sample false sample h is = cc

are_settings : (us : List Use) → AreInRange us
    → has_sample (is_used (codes "packed") us) (number_of (codes "sample") us) ≡ true
    → AreSettings (settings_from us)
are_settings us r sampled =
    let dots = number_or 300 (codes "res") us in
    let width = min MAX_PAGE_SIDE (17 * dots / 2) in
    let height = min MAX_PAGE_SIDE (11 * dots) in
    let res : (1 ≤ dots) × (dots ≤ MAX_RESOLUTION) =
    within_or 1 MAX_RESOLUTION 300 (codes "res") us r.res (omega arith) (omega arith) in
    let wide = within_or 1 MAX_PAGE_SIDE width (codes "width") us r.width (omega arith) (omega arith) in
    let high = within_or 1 MAX_PAGE_SIDE height (codes "height") us r.height (omega arith) (omega arith) in
    let left = within_or 0 MAX_PAGE_SIDE dots (codes "left") us r.left (omega arith) (omega arith) in
    let top = within_or 0 MAX_PAGE_SIDE dots (codes "top") us r.top (omega arith) (omega arith) in
    record {
      resolution = res;
      sheet = record {
        some_width = wide.0;
        width = wide.1;
        some_height = high.0;
        height = high.1;
        left = left.1;
        top = top.1;
      };
      workers = within_or 1 32 1 (codes "workers") us r.workers (omega arith) (omega arith);
      cache = within_or 1 256 16 (codes "cache") us r.cache (omega arith) (omega arith);
      room = (within_or 0 MAX_ROOM MAX_ROOM (codes "room") us r.room (omega arith) (omega arith)).1;
      sample = within_if 1 1000 (number_of (codes "sample") us) r.sample;
      packed = with_sample (is_used (codes "packed") us) (number_of (codes "sample") us) sampled;
    }

abbrev pub IsAllowed : ℕ → Settings → Type 0
IsAllowed workers s = AreSettings s × (s.workers ≤ workers)

chosen : (b : Bool) (x s : Settings) → cond b (Some x) None ≡ Some s → (b ≡ true) × (x ≡ s)
chosen true x s e = (refl, cc)
chosen false x s e = cc

among : (workers : ℕ) (us : List Use) (s : Settings) → settings_among workers us ≡ Some s
    → IsAllowed workers s
among workers us s e =
    let is = chosen _ (settings_from us) s e in
    let all = and_parts _ _ is.0 in
    let tests = and_parts _ _ all.0 in
    let options = and_parts _ _ tests.0 in
    subst (IsAllowed workers) is.1
    (are_settings us (in_range us options.1) all.1, leb-true _ workers tests.1)

pub allowed : (workers : ℕ) (arguments : List Text) (s : Settings)
    → settings_of workers arguments ≡ Some s → IsAllowed workers s
unfolding settings_of
allowed workers arguments s e = go (uses_of arguments) e
  where
    go : (o : Option (List Use)) → option_and_then (settings_among workers) o ≡ Some s
        → IsAllowed workers s
    go None e = cc
    go (Some us) e = among workers us s e

-- what a call gives, which says that it is what the arguments give
pub allowed_if : (workers : ℕ) (arguments : List Text) (r : Result Settings LineStop)
    → IfOk r (λ s. settings_of workers arguments ≡ Some s) → IfOk r (IsAllowed workers)
allowed_if workers arguments (Ok s) e = allowed workers arguments s e
allowed_if workers arguments (Err stop) e = tt
