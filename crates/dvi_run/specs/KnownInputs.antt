-- Runs over inputs whose bytes are known: what is promised of the bytes that reads gave holds of
-- those that the input had left.
use Rattle.std.specs.Prelude.{◌≡◌, ℕ, List, [], ◌∷◌, None}
use Rattle.cache_core.specs.declared.calls.Call.{Call}
use Rattle.page_workers.specs.declared.worker.Worker.{Worker}
use Rattle.dvi_run.specs.Reading.{InputChange, IsAllRead, read_since}
use Rattle.dvi_run.specs.Endings.{IsAmong}
use Rattle.dvi_run.specs.Outside.{Run, Sources, StreamChange, Task}
use Rattle.dvi_run.specs.Promises.{KeepsPromises}

-- the same run, where what is said of the bytes of its input is said of those that this had left
abbrev pub of_known_input : {F : Type 0} → Run F → Run F
of_known_input run = record run {
  streams = record run.streams {
    input = record run.streams.input { bytes = run.streams.input.before.left };
  };
}

-- A run that keeps its promises for the bytes that reads gave keeps them all, word for word, for
-- those that its input had left, where they are known. And at 0, 2 to 5, 7 and 8 these were read to
-- their end, or to the limit of a document and one byte more.
abbrev pub HoldsOfKnownInput : {F : Type 0} → Run F → (status : ℕ) → Type 0
HoldsOfKnownInput run status =
    run.streams.input.bytes
    ≡ read_since run.streams.input.before.taken run.streams.input.after.taken
    → KeepsPromises run status
    → KeepsPromises (of_known_input run) status
    × (run.task.settings.sample ≡ None
    → IsAmong status (0 ∷ 2 ∷ 3 ∷ 4 ∷ 5 ∷ 7 ∷ 8 ∷ [])
    → IsAllRead run.streams.input.before.left run.streams.input.after.left)

-- So it is for runs over such sources and streams, by how these change in a run.
abbrev pub RunsHoldOfKnownInputs : {I F O N : Type 0} → Sources F → (I → I → InputChange)
    → (O → O → StreamChange) → (N → N → StreamChange) → Type 0
RunsHoldOfKnownInputs {I} {F} {O} {N} sources input output notes =
    (task : Task) (a b : I) (c d : O) (e f : N) (before after : List (Worker F))
    (history : List Call) (status : ℕ)
    → HoldsOfKnownInput (record {
      task = task;
      streams = record { input = input a b; output = output c d; notes = notes e f };
      sources = sources;
      before = before;
      after = after;
      history = history;
    }) status
