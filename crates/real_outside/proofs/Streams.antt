-- The promises of a run don't depend on how it is said of an output that no call of it was made.
use Rattle.std.proofs.Common.{◌≡◌, inl, inr, ℕ, List, Option, Some, ap, subst}
use Rattle.dvi_run.specs.Endings.{EndingValue}
use Rattle.dvi_run.specs.Outside.{Run, Stream, StreamChange, Streams, drawing_of}
use Rattle.dvi_run.specs.Promises.{IsCutShort, KeepsPromises, ReportMatchesRun, StatusIsTrue}
use Rattle.dvi_run.specs.Together.{IsUnread}
use Rattle.dvi_run.specs.declared.tally.Tally.{Tally}

-- an output of which it is said so
abbrev pub kept_as : (Kept : Type 0) → StreamChange → StreamChange
kept_as Kept stream = record { before = stream.before; after = stream.after; Kept = Kept }

abbrev pub streams_as : (Output Notes : Type 0) → Streams → Streams
streams_as Output Notes s =
    record { input = s.input; output = kept_as Output s.output; notes = kept_as Notes s.notes }

module _ {F : Type 0} (run : Run F) (status : ℕ) (Output Notes : Type 0) (kept : run.streams.output.Kept → Output) where
  abbrev there : Run F
  there = record run { streams = streams_as Output Notes run.streams }

  caused_as : StatusIsTrue run status → StatusIsTrue there status
  caused_as c = record {
    answers = c.answers;
    document = c.document;
    refused = c.refused;
    page = c.page;
    stopped = c.stopped;
    source = c.source;
    input = c.input;
    output = c.output;
    notes = c.notes;
    whole = c.whole;
    complete = c.complete;
  }

  cut_short_as : IsCutShort run status → IsCutShort there status
  cut_short_as w = record {
    nothing = λ early. kept (w.nothing early);
    stopped = w.stopped;
    before = w.before;
    prefix = w.prefix;
    memory = λ nine. elim (w.memory nine) [ inl same ↦ inl (kept same) | inr some ↦ inr some ];
  }

  unread_as : (tally : Option Tally) → IsUnread (drawing_of run) status tally → IsUnread (drawing_of there) status tally
  unread_as tally u = record {
    answers = u.answers;
    output = kept u.output;
    workers = u.workers;
    history = u.history;
    no_tally = u.no_tally;
  }

  report_as : (e : EndingValue) (tally : Option Tally) → ReportMatchesRun run status e tally → ReportMatchesRun there status e tally
  report_as e tally r = record {
    read = λ none. elim (r.read none) [ inl gave ↦ inl gave | inr u ↦ inr (unread_as tally u) ];
    whole = r.whole;
    count = r.count;
    lacking = r.lacking;
    noted = record { placed = r.noted.placed; printed = r.noted.printed };
    counted = r.counted;
    failed = r.failed;
    gave_up = r.gave_up;
    drew = r.drew;
  }

  pub promises_as : KeepsPromises run status → KeepsPromises there status
  promises_as k = record {
    caused = caused_as k.caused;
    written = record { whole = k.written.whole };
    ended = (k.ended.0, k.ended.1, k.ended.2, report_as k.ended.0 k.ended.1 k.ended.3);
    history = k.history;
    called = k.called;
    cut_short = cut_short_as k.cut_short;
    shares = k.shares;
    rest = k.rest;
    sample = k.sample;
  }

-- ---- what is known of an output at one time

abbrev pub stream : List ℕ → ℕ → Stream
stream bytes faults = record { bytes = Some bytes; faults = faults }

pub same_stream : (a b : List ℕ) (n m : ℕ) → a ≡ b → n ≡ m → stream a n ≡ stream b m
same_stream a b n m bytes faults = subst (λ (xs : List ℕ). stream a n ≡ stream xs m) bytes (ap (λ (k : ℕ). stream a k) faults)
