-- What a run promises by its words, over 32 workers, and said of the writers beneath its outputs.
use Rattle.std.proofs.Common.{◌≡◌, ℕ, List, [], None, sym, subst}
use Rattle.command_line.specs.Line.{settings_of}
use Rattle.dvi_run.specs.Outside.{Stream, StreamChange, Streams}
use Rattle.dvi_run.specs.Promises.{ForSettings, KeepsPromises, NoCountFalls, WasRefused}
use Rattle.real_outside.specs.Program.{Began, KeepsWords, run_by}
use Rattle.real_outside.proofs.Streams.{promises_as, streams_as}

module _ {F : Type 0} (words : List (List ℕ)) (run : Began F) (status : ℕ) where
  abbrev over : Streams → Began F
  over streams = record run { streams = streams }

  abbrev Keeps : Streams → Type 0
  Keeps streams = KeepsWords words (over streams) status

  -- of a run over its own workers, and with a history that was empty
  pub keeps_words : (n : ℕ) → n ≡ 32 → (WorkersKept HistoryKept : Type 0) → (WorkersKept → run.after ≡ run.before) → (HistoryKept → run.history ≡ [])
      → (status ≡ 1 → settings_of n words ≡ None) → (settings_of n words ≡ None → WasRefused run.streams WorkersKept HistoryKept status)
      → ForSettings (settings_of n words) (λ settings. KeepsPromises (run_by run settings) status) → NoCountFalls run.streams
      → KeepsWords words run status
  keeps_words n is W H workers calls usage refused promises counts = record {
    usage = λ one. subst (λ (k : ℕ). settings_of k words ≡ None) is (usage one);
    refused = λ none.
        let r = refused (subst (λ (k : ℕ). settings_of k words ≡ None) (sym is) none) in
        record { answers = r.answers; input = r.input; output = r.output; workers = workers r.workers; history = calls r.history; printed = r.printed };
    promises = subst (λ (k : ℕ). ForSettings (settings_of k words) (λ settings. KeepsPromises (run_by run settings) status)) is promises;
    counts = counts;
  }

  keeps_as : (s : Streams) (Output Notes : Type 0) → (s.output.Kept → Output) → Keeps s → Keeps (streams_as Output Notes s)
  keeps_as s O N kept k = record {
    usage = k.usage;
    refused = λ none.
        let r = k.refused none in
        record { answers = r.answers; input = r.input; output = kept r.output; workers = r.workers; history = r.history; printed = r.printed };
    promises = λ settings is. promises_as (run_by (over s) settings) status O N kept (k.promises settings is);
    counts = record { input = k.counts.input; output = k.counts.output; notes = k.counts.notes };
  }

  -- said of other outputs that are as these were, before and after
  pub keeps_over : (s : Streams) (output notes : StreamChange)
      → s.output.before ≡ output.before → s.output.after ≡ output.after → (s.output.Kept → output.Kept)
      → s.notes.before ≡ notes.before → s.notes.after ≡ notes.after
      → Keeps s → Keeps (record { input = s.input; output = output; notes = notes })
  keeps_over s output notes out_before out_after kept notes_before notes_after k =
      subst (λ (b : Stream). Keeps (record { input = s.input; output = record output { before = b }; notes = notes })) out_before
      (subst (λ (a : Stream). Keeps (record { input = s.input; output = record output { before = s.output.before; after = a }; notes = notes })) out_after
      (subst (λ (b : Stream). Keeps (record { input = s.input; output = record s.output { Kept = output.Kept }; notes = record notes { before = b } })) notes_before
      (subst (λ (a : Stream). Keeps (record { input = s.input; output = record s.output { Kept = output.Kept }; notes = record notes { before = s.notes.before; after = a } })) notes_after
      (keeps_as s output.Kept notes.Kept kept k))))

-- what holds of three values holds of three that are equal to them
pub of_equals : {A B C : Type 0} (a x : A) (b y : B) (c z : C) (K : A → B → C → Type 0) → a ≡ x → b ≡ y → c ≡ z → K a b c → K x y z
of_equals a x b y c z K first second third k = subst (λ w. K x y w) third (subst (λ w. K x w c) second (subst (λ w. K w b c) first k))
