-- What was read of a file so far.
use Rattle.std.specs.Prelude.{◌≡◌, ℕ, ◌≤◌, List, length, Option, Some, None}
use Rattle.vf_reader.specs.Fonts.{Spans, program_with, span_of, text_at}
use Rattle.vf_reader.specs.declared.packet_table.Span.{Span}

-- a span stands within n bytes
abbrev pub IsWithin : ℕ → Span → Type 0
IsWithin most s = (s.start ≤ s.end) × (s.end ≤ most)

-- all of them do
abbrev pub AreWithin : ℕ → Spans → Type 0
AreWithin most spans = (c : ℕ) (s : Span) → span_of spans c ≡ Some s → IsWithin most s

-- the bytes of a packet stand at a span, or there is neither
abbrev pub IsSpanOf : List ℕ → Option (List ℕ) → Option Span → Type 0
IsSpanOf bytes None o = o ≡ None
IsSpanOf bytes (Some program) o =
    (s : Span) × (o ≡ Some s) × IsWithin (length bytes) s × (text_at bytes s ≡ program)

-- the spans of the items' packets
abbrev pub AreSpansOf : List ℕ → List (List ℕ) → Spans → Type 0
AreSpansOf bytes items spans = (c : ℕ) → IsSpanOf bytes (program_with items c) (span_of spans c)
