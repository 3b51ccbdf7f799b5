-- What holds of the program, which makes the workers and the history of its run itself.
use Rattle.std.specs.Prelude.{◌≡◌, ◌⊎◌, ℕ, IsTrue, List, [], Option, Some, None}
use Rattle.outside.specs.Library.{FileTable}
use Rattle.cache_core.specs.Views.{calls_of}
use Rattle.cache_core.specs.declared.entry.Entry.{Entry}
use Rattle.page_workers.specs.declared.worker.Worker.{Worker}
use Rattle.command_line.specs.Line.{settings_of}
use Rattle.command_line.specs.declared.settings.Settings.{Settings}
use Rattle.dvi_run.specs.Outside.{Run, Sources, StreamChange, Streams, change_of}
use Rattle.dvi_run.specs.Promises.{ForSettings, KeepsPromises, NoCountFalls, WasRefused}
use Rattle.dvi_run.specs.Reading.{InputChange, input_change}
use Rattle.real_streams.specs.Used.{unused_reader, unused_writer}
use Rattle.real_streams.specs.declared.fonts.OpenedFonts.{OpenedFonts}
use Rattle.real_streams.specs.declared.reader.FromReader.{FromReader}
use Rattle.real_streams.specs.declared.writer.UsedWriter.{UsedWriter}
use Rattle.real_outside.specs.Workers.{AreNewWorkers}
use Rattle.real_outside.specs.declared.program.Outcome.{Outcome}

-- ---- streams

-- a reader, by what it has left, what its reads gave in this run, whether its end was seen, and how
-- often one failed
abbrev pub reader_change : {R : Type 0} → (remaining : R → Option (List ℕ)) → R → FromReader R
    → InputChange
reader_change remaining reader after =
    input_change (λ i. remaining i.from.reader) (λ i. i.from.log.bytes)
    (λ i. IsTrue i.from.is_ended) (λ i. i.faults) (unused_reader reader) after

-- a writer, by what its writes took in this run and how often one failed
abbrev pub writer_change : {W : Type 0} → W → UsedWriter W → StreamChange
writer_change writer after =
    change_of (λ w. Some w.log.bytes) (λ w. w.faults) (unused_writer writer) after

abbrev pub streams_of : {R W N F : Type 0} → (remaining : R → Option (List ℕ)) → R → W → N
    → Outcome R W N F → Streams
streams_of remaining reader out notes outcome =
    record {
      input = reader_change remaining reader outcome.input;
      output = writer_change out outcome.out;
      notes = writer_change notes outcome.notes;
    }

-- ---- the program

-- what the font files of an opener tell
abbrev pub sources_by : {O : Type 0} → (known : O → Option FileTable) → Sources (OpenedFonts O)
sources_by known =
    record { library = λ s. known s.opener; faults = λ s. s.faults; loads = λ s. s.loads }

-- a run whose settings are still to be read from its words
pub record Began (F : Type 0) : Type 1 where
  -- all the font files, where the sources of the workers tell them
  pub known : Option FileTable
  pub streams : Streams
  pub sources : Sources F
  -- the workers before and after
  pub before : List (Worker F)
  pub after : List (Worker F)
  -- the cache's calls in their order
  pub history : List Entry

abbrev pub run_by : {F : Type 0} → Began F → Settings → Run F
run_by began s =
    record {
      task = record { settings = s; known = began.known };
      streams = began.streams;
      sources = began.sources;
      before = began.before;
      after = began.after;
      history = calls_of began.history;
    }

-- What a run by 32 workers promises whose words are these: where they give no settings it is
-- refused, and else it keeps the promises for the settings that they give.
pub record KeepsWords {F : Type 0} (words : List (List ℕ)) (began : Began F) (status : ℕ) : Type 0
  where
    -- 1: exactly where the words give no settings, unless memory runs out
    pub usage : status ≡ 1 → settings_of 32 words ≡ None
    pub refused : settings_of 32 words ≡ None → WasRefused began.streams
        (began.after ≡ began.before) (began.history ≡ []) status
    pub promises : ForSettings (settings_of 32 words) (λ s. KeepsPromises (run_by began s) status)
    -- no count of faults falls
    pub counts : NoCountFalls began.streams

-- Memory ran out for the workers. No stream was used, and there are neither workers nor calls.
pub record DidNotBegin {F : Type 0} (streams : Streams) (after : List (Worker F))
    (history : List Entry) (status : ℕ) : Type 0 where
  pub answers : status ≡ 9
  pub input : streams.input.Kept
  pub output : streams.output.Kept
  pub notes : streams.notes.Kept
  pub no_workers : after ≡ []
  pub no_calls : history ≡ []

-- The program ran over workers that it made, or memory ran out for them.
abbrev pub KeepsProgram : {O : Type 0} → (words : List (List ℕ)) → (known : O → Option FileTable)
    → O → Streams → (after : List (Worker (OpenedFonts O))) → (history : List Entry)
    → (status : ℕ) → Type 0
KeepsProgram {O} words known opener streams after history status =
    ((before : List (Worker (OpenedFonts O))) × AreNewWorkers opener before
    × KeepsWords words (record {
      known = known opener;
      streams = streams;
      sources = sources_by known;
      before = before;
      after = after;
      history = history;
    }) status)
    ⊎ DidNotBegin streams after history status
