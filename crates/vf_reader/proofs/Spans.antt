-- Where the packets of a file stand.
use Rattle.std.proofs.Common.{◌≡◌, ◌∙◌, ◌+◌, ◌-◌, ◌≤◌, inl, inr, ℕ, Bool, true, false, List, ◌∷◌, ◌++◌, length, take, drop, Option, Some, None, refl, sym, ap, subst, arith, drop-drop, length-drop}
use Rattle.std.specs.Prelude.{◌==◌, ◌&&◌, if◌then◌else◌, slice_range}
use Rattle.std.specs.Option.{option_map}
use Rattle.std.proofs.lemmas.Bool.{cases_Bool}
use Rattle.std.proofs.lemmas.List.{drop-append-le, take_at}
use Rattle.vf_reader.specs.Items.{code_of, head_size, is_packet, opcode, program_of}
use Rattle.vf_reader.specs.Fonts.{Spans, Virtual, packet_of, program_with, span_of, text_at}
use Rattle.vf_reader.specs.Walked.{AreSpansOf, AreWithin, IsSpanOf, IsWithin}
use Rattle.vf_reader.specs.declared.packet_table.Span.{Span}

-- which packet has a code now
chosen : (item : List ℕ) (before : List (List ℕ)) (k : ℕ) (a b : Bool) → is_packet item ≡ a → (code_of item == k) ≡ b
    → program_with (item ∷ before) k ≡ (if a && b then Some (program_of item) else program_with before k)
chosen item before k a b kind code =
    ap (λ t. if t && code_of item == k then Some (program_of item) else program_with before k) kind ∙ ap (λ t. if a && t then Some (program_of item) else program_with before k) code

-- the commands of a packet stand at the end of its bytes
stands : (bytes packet rest : List ℕ) (end start : ℕ) → drop (end - length packet) bytes ≡ packet ++ rest → length packet ≤ end → start ≤ length packet
    → slice_range bytes (end - (length packet - start)) end ≡ drop start packet
stands bytes packet rest end start here inside fits =
    let size : end - (end - (length packet - start)) ≡ length (drop start packet) = omega (arith, length-drop start packet) in
    let place : end - (length packet - start) ≡ end - length packet + start = omega arith in
    let tail : drop (end - (length packet - start)) bytes ≡ drop start packet ++ rest =
    ap (λ (n : ℕ). drop n bytes) place ∙ sym (drop-drop start (end - length packet) bytes) ∙ ap (drop start) here ∙ drop-append-le start packet rest fits in
    ap (λ (xs : List ℕ). take (end - (end - (length packet - start))) xs) tail ∙ take_at (drop start packet) rest (end - (end - (length packet - start))) (sym size)

-- a packet more
pub packet_put : (bytes packet rest : List ℕ) (before : List (List ℕ)) (old new : Spans) (code start end : ℕ) → is_packet packet ≡ true → drop (end - length packet) bytes ≡ packet ++ rest
    → length packet ≤ end → end ≤ length bytes → code ≡ code_of packet → start ≡ head_size (opcode packet) → start ≤ length packet
    → ((k : ℕ) → span_of new k ≡ (if code == k then Some (record { start = end - (length packet - start); end = end }) else span_of old k))
    → AreSpansOf bytes before old → AreSpansOf bytes (packet ∷ before) new
packet_put bytes packet rest before old new code start end kind here inside within code_is start_is fits put spans k = elim (cases_Bool (code_of packet == k)) [
  | inl same ↦
      subst (λ (p : Option (List ℕ)). IsSpanOf bytes p (span_of new k)) (sym (chosen packet before k true true kind same)) (
        span,
        put k ∙ ap (λ b. if b then Some span else span_of old k) (ap (λ (c : ℕ). c == k) code_is ∙ same),
        (omega arith, within),
        stands bytes packet rest end start here inside fits ∙ ap (λ (n : ℕ). drop n packet) start_is,
      )
  | inr other ↦
      let kept : span_of new k ≡ span_of old k = put k ∙ ap (λ b. if b then Some span else span_of old k) (ap (λ (c : ℕ). c == k) code_is ∙ other) in
      subst (λ (p : Option (List ℕ)). IsSpanOf bytes p (span_of new k)) (sym (chosen packet before k true false kind other))
      (subst (λ (o : Option Span). IsSpanOf bytes (program_with before k) o) (sym kept) (spans k))
]
  where
    span : Span
    span = record { start = end - (length packet - start); end = end }

-- a local font has no packet
pub local_put : (bytes item : List ℕ) (before : List (List ℕ)) (spans : Spans) → is_packet item ≡ false → AreSpansOf bytes before spans → AreSpansOf bytes (item ∷ before) spans
local_put bytes item before spans kind h k =
    subst (λ (p : Option (List ℕ)). IsSpanOf bytes p (span_of spans k)) (sym (chosen item before k false (code_of item == k) kind refl)) (h k)

-- ---- a whole file

within_by : (bytes : List ℕ) (program : Option (List ℕ)) (o : Option Span) (s : Span) → IsSpanOf bytes program o → o ≡ Some s → IsWithin (length bytes) s
within_by bytes None o s h e = absurd (cc)
within_by bytes (Some program) o s h e =
    let same : h.0 ≡ s = cc in
    subst (IsWithin (length bytes)) same h.2

pub all_within : (bytes : List ℕ) (items : List (List ℕ)) (spans : Spans) → AreSpansOf bytes items spans → AreWithin (length bytes) spans
all_within bytes items spans h c s e = within_by bytes (program_with items c) (span_of spans c) s (h c) e

packet_by : (bytes : List ℕ) (program : Option (List ℕ)) (o : Option Span) → IsSpanOf bytes program o → option_map (text_at bytes) o ≡ program
packet_by bytes None o h = ap (option_map (text_at bytes)) h
packet_by bytes (Some program) o h = ap (option_map (text_at bytes)) h.1 ∙ ap Some h.3

pub packets_are : (bytes : List ℕ) (items : List (List ℕ)) (font : Virtual) → font.bytes ≡ bytes → AreSpansOf bytes items font.spans → (c : ℕ) → packet_of font c ≡ program_with items c
packets_are bytes items font e h c =
    ap (λ (b : List ℕ). option_map (text_at b) (span_of font.spans c)) e ∙ packet_by bytes (program_with items c) (span_of font.spans c) (h c)
