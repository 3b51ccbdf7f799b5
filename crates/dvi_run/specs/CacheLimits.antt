-- How much the cache of a run keeps.
use Rattle.cache_core.specs.declared.limits.Limits.{Limits}
use Rattle.command_line.specs.declared.settings.Settings.{Settings}

-- at most as many fonts as the settings say, that weigh together no more bytes than they say
abbrev pub cache_limits : Settings → Limits
cache_limits settings = record { capacity = settings.cache; budget = settings.room }
