-- What a run is given besides its input and its fonts.
use Rattle.std.specs.Prelude.{◌≤◌, false, None, IfSome, IsSome, IsTrue}
use Rattle.pixel_round.specs.Limits.{MAX_RESOLUTION}
use Rattle.page_draw.specs.Sheets.{IsDrawable}
use Rattle.page_draw.specs.declared.sheet.Sheet.{Sheet}
use Rattle.command_line.specs.declared.settings.Settings.{Settings}
use Rattle.command_line.specs.Limits.{MAX_WORKERS}
use Rattle.command_line.specs.Limits.{MAX_CACHED_FONTS, MAX_ROOM}

-- the sheet where no option names another, at 300 dots for an inch: 8.5 by 11 inches, and margins
-- of one inch
unfoldable pub default_sheet : Sheet
default_sheet = record { width = 2550; height = 3300; left = 300; top = 300; tolerant = false }

-- the settings where no option names others
unfoldable pub default_settings : Settings
default_settings = record {
  res = 300;
  sheet = default_sheet;
  workers = 1;
  cache = 16;
  room = MAX_ROOM;
  sample = None;
  packed = false;
  trace = false;
  summary = false;
}

-- settings within their limits
pub record AreSettings (settings : Settings) : Type 0 where
  pub resolution : (1 ≤ settings.res) × (settings.res ≤ MAX_RESOLUTION)
  pub sheet : IsDrawable settings.sheet
  pub workers : (1 ≤ settings.workers) × (settings.workers ≤ MAX_WORKERS)
  pub cache : (1 ≤ settings.cache) × (settings.cache ≤ MAX_CACHED_FONTS)
  pub room : settings.room ≤ MAX_ROOM
  pub sample : IfSome settings.sample (λ pages. (1 ≤ pages) × (pages ≤ 1000))
  -- packed fonts are those of a sample
  pub packed : IsTrue settings.packed → IsSome settings.sample
