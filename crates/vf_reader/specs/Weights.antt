-- What the packets of a virtual font weigh: the bytes of their commands.
use Rattle.std.specs.Prelude.{◌≡◌, ℕ, ◌-◌, ◌^◌, ◌≤◌, List, length, Option, Some, None}
use Rattle.code_sums.specs.Sums.{sum_of_codes}
use Rattle.vf_reader.specs.Fonts.{Spans, Virtual, packet_of, span_of}
use Rattle.vf_reader.specs.declared.packet_table.Span.{Span}

-- the bytes of a code's packet; a code without a packet has none
abbrev pub packet_bytes : Option (List ℕ) → ℕ
packet_bytes None = 0
packet_bytes (Some packet) = length packet

-- of the packets of all codes, one for each
abbrev pub packets_weight : Virtual → ℕ
packets_weight font = sum_of_codes (λ c. packet_bytes (packet_of font c))

-- ---- the same by the places of the packets

abbrev pub span_bytes : Option Span → ℕ
span_bytes None = 0
span_bytes (Some s) = s.end - s.start

abbrev pub spans_weight : Spans → ℕ
spans_weight spans = sum_of_codes (λ c. span_bytes (span_of spans c))

-- the most bytes that a span may have
abbrev pub MAX_SPAN_BYTES : ℕ
MAX_SPAN_BYTES = 2 ^ 64

-- the number is what the spans weigh
pub record IsWeighed (spans : Spans) (weight : ℕ) : Type 0 where
  pub total : weight ≡ spans_weight spans
  pub light : (c : ℕ) → span_bytes (span_of spans c) ≤ MAX_SPAN_BYTES
