-- The matches of a line, by its uses.
use Rattle.std.specs.Prelude.{◌≡◌, ◌/◌, ◌*◌, ◌&&◌, ℕ, Bool, true, min, List, Option, Some, codes}
use Rattle.std.specs.Prelude.{find, if◌then◌else◌, length, nat_le, option_map, unwrap_or}
use Rattle.std.specs.Option.{option_map_or}
use Rattle.clap.specs.Words.{first_value, one_text}
use Rattle.clap.specs.declared.parser.matches.Found.{Found}
use Rattle.pixel_round.specs.Limits.{MAX_RESOLUTION}
use Rattle.raster_page.specs.Limits.{MAX_PAGE_SIDE}
use Rattle.command_line.specs.Line.{Text, Use, choice_of, choices, is_named, is_used, is_value}
use Rattle.command_line.specs.Line.{has_sample, is_within, number_in, number_of, switch}
use Rattle.command_line.specs.declared.settings.Settings.{Settings}
use Rattle.command_line.specs.declared.matches.LineValues.{LineValues}
use Rattle.command_line.specs.Limits.{MAX_WORKERS}
use Rattle.command_line.specs.Limits.{MAX_CACHED_FONTS, MAX_ROOM}

-- what the matches have at each name
pub record MatchesHold (us : List Use) (f : Found) : Type 0 where
  pub number : (name : Text) (r : ℕ × ℕ) → choice_of choices name ≡ Some (number_in name r.0 r.1)
      → first_value f name ≡ option_map (λ u. u.value) (find (is_named name) us)
  pub digits : (name : Text) (r : ℕ × ℕ) (v : Text)
      → choice_of choices name ≡ Some (number_in name r.0 r.1) → first_value f name ≡ Some v
      → is_value v ≡ true
  pub switch : (name : Text) → choice_of choices name ≡ Some (switch name)
      → one_text f name ≡ Some (if is_used name us then codes "true" else codes "false")

-- a text that is given, if there is one, is that of a number of at most seven digits
abbrev pub is_short_text : Option Text → Bool
is_short_text given = option_map_or (λ text. nat_le (length text) 7) given true

-- the numbers and switches of the uses
abbrev pub given_of : List Use → LineValues
given_of us = record {
  res = number_of (codes "res") us;
  width = number_of (codes "width") us;
  height = number_of (codes "height") us;
  left = number_of (codes "left") us;
  top = number_of (codes "top") us;
  workers = number_of (codes "workers") us;
  cache = number_of (codes "cache") us;
  room = number_of (codes "room") us;
  sample = number_of (codes "sample") us;
  packed = is_used (codes "packed") us;
  trace = is_used (codes "trace") us;
  summary = is_used (codes "summary") us;
  tolerant = is_used (codes "tolerant") us;
}

-- each number lies in its range, there are as many workers as are asked for, and packed fonts are
-- asked for with a sample alone
abbrev pub is_allowed : ℕ → LineValues → Bool
is_allowed workers g = is_within 1 MAX_RESOLUTION g.res
    && (is_within 1 MAX_PAGE_SIDE g.width && (is_within 1 MAX_PAGE_SIDE g.height
    && (is_within 0 MAX_PAGE_SIDE g.left && (is_within 0 MAX_PAGE_SIDE g.top
    && (is_within 1 MAX_WORKERS g.workers && (is_within 1 MAX_CACHED_FONTS g.cache
    && (is_within 0 MAX_ROOM g.room && (is_within 1 1000 g.sample && true))))))))
    && nat_le (unwrap_or g.workers 1) workers && has_sample g.packed g.sample

abbrev pub settings_with : LineValues → Settings
settings_with g = let res = unwrap_or g.res 300 in record {
  res = res;
  sheet = record {
    width = unwrap_or g.width (min MAX_PAGE_SIDE (17 * res / 2));
    height = unwrap_or g.height (min MAX_PAGE_SIDE (11 * res));
    left = unwrap_or g.left res;
    top = unwrap_or g.top res;
    tolerant = g.tolerant;
  };
  workers = unwrap_or g.workers 1;
  cache = unwrap_or g.cache 16;
  room = unwrap_or g.room MAX_ROOM;
  sample = g.sample;
  packed = g.packed;
  trace = g.trace;
  summary = g.summary;
}
