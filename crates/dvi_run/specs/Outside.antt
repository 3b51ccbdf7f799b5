-- What is known of a run from outside: its task, its streams, its workers and the cache's calls.
use Rattle.std.specs.Prelude.{◌≡◌, ℕ, List, Option}
use Rattle.outside.specs.Counts.{Rose}
use Rattle.outside.specs.Library.{FileTable}
use Rattle.cache_core.specs.declared.calls.Call.{Call}
use Rattle.page_workers.specs.declared.worker.Worker.{Worker}
use Rattle.command_line.specs.declared.settings.Settings.{Settings}
use Rattle.dvi_run.specs.Reading.{InputChange}
use Rattle.dvi_run.specs.Pages.{Setup}
use Rattle.dvi_run.specs.Sampled.{setup_for_settings}

-- ---- the task

-- the settings, and all the font files, where the sources of the workers tell them
pub record Task : Type 0 where
  pub settings : Settings
  pub known : Option FileTable

-- with the files that its settings give it
abbrev pub setup_of : Task → Setup
setup_of task = setup_for_settings task.known task.settings

-- that of settings that ask for a sample of so many pages, or for none, whatever else they say
abbrev pub task_for_sample : Option ℕ → (known : Option FileTable) → Settings → Task
task_for_sample sample known settings =
    record { settings = record settings { sample = sample }; known = known }

-- ---- streams

-- an output at one time: the bytes that it has taken, where they are known, and how often it failed
pub record Stream : Type 0 where
  pub bytes : Option (List ℕ)
  pub faults : ℕ

-- an output before a run and after it
pub record StreamChange : Type 1 where
  pub before : Stream
  pub after : Stream
  -- it is the same one, as if no call of it had been made
  pub Kept : Type 0

abbrev pub change_of : {S : Type 0} → (bytes : S → Option (List ℕ)) → (faults : S → ℕ)
    → (before after : S) → StreamChange
change_of bytes faults before after =
    record {
      before = record { bytes = bytes before; faults = faults before };
      after = record { bytes = bytes after; faults = faults after };
      Kept = after ≡ before;
    }

-- it failed in this run
abbrev pub FaultsRose : StreamChange → Type 0
FaultsRose stream = Rose stream.before.faults stream.after.faults

-- those of a run
pub record Streams : Type 1 where
  pub input : InputChange
  pub output : StreamChange
  pub notes : StreamChange

-- ---- workers

-- what the fonts' source of a worker tells: its files, if it tells them, how often it failed, and
-- how many files were loaded from it
pub record Sources (F : Type 0) : Type 0 where
  pub library : F → Option FileTable
  pub faults : F → ℕ
  pub loads : F → ℕ

-- the pages of a document drawn and written: the output, the workers before and after, and the
-- cache's calls in their order
pub record Drawing (F : Type 0) : Type 1 where
  pub sources : Sources F
  pub output : StreamChange
  pub before : List (Worker F)
  pub after : List (Worker F)
  pub history : List Call

-- ---- a run

pub record Run (F : Type 0) : Type 1 where
  pub task : Task
  pub streams : Streams
  pub sources : Sources F
  -- the workers before and after
  pub before : List (Worker F)
  pub after : List (Worker F)
  -- the cache's calls in their order
  pub history : List Call

abbrev pub drawing_of : {F : Type 0} → Run F → Drawing F
drawing_of run =
    record {
      sources = run.sources;
      output = run.streams.output;
      before = run.before;
      after = run.after;
      history = run.history;
    }
