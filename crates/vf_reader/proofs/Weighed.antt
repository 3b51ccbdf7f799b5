-- What packets weigh, where one more is kept, and by their places in the file.
use Rattle.std.proofs.Common.{◌≡◌, ◌∙◌, inl, inr, ℕ, ◌+◌, ◌-◌, ◌^◌, ◌<◌, ◌≤◌, true, false, cond, List, drop, length, Option, Some, None, refl, sym, ap, subst, arith}
use Rattle.std.specs.Prelude.{◌≢◌, ◌==◌, if◌then◌else◌}
use Rattle.std.specs.Option.{option_map}
use Rattle.std.proofs.lemmas.Bool.{cases_lt, eq-eqb}
use Rattle.std.proofs.lemmas.List.{length-drop, length-take-le}
use Rattle.std.proofs.lemmas.Bool.Decides.{nat_tests}
use Rattle.code_sums.specs.Sums.{CODES}
use Rattle.code_sums.proofs.Sums.{equal_terms_have_one_sum, one_term_changes, sums_are_bounded, terms_are_in_the_sum}
use Rattle.vf_reader.specs.Fonts.{Spans, Virtual, packet_of, span_of, text_at}
use Rattle.vf_reader.specs.Walked.{AreWithin, IsWithin}
use Rattle.vf_reader.specs.Weights.{IsWeighed, MAX_SPAN_BYTES, packet_bytes, packets_weight, span_bytes, spans_weight}
use Rattle.vf_reader.specs.declared.packet_table.Span.{Span}

pub nothing_weighed : (spans : Spans) → ((c : ℕ) → span_of spans c ≡ None) → IsWeighed spans 0
nothing_weighed spans none =
    let each : (c : ℕ) → span_bytes (span_of spans c) ≤ 0 = λ c. let no = ap span_bytes (none c) in omega (arith, no) in
    record {
      total = let most = sums_are_bounded (λ c. span_bytes (span_of spans c)) 0 each in omega (arith, most);
      light = λ c. let no = each c in omega (arith, no);
    }

pub apart : (k c : ℕ) → c ≢ k → (k == c) ≡ false
apart k c other = elim (cases_lt c k) [
  | inl less ↦ grind (arith, nat_tests)
  | inr least ↦ elim (cases_lt k c) [
    | inl more ↦ grind (arith, nat_tests)
    | inr most ↦ let same : c ≡ k = omega arith in absurd (other same)
  ]
]

module _ (old new : Spans) (k : ℕ) (s : Span) (code : k < CODES) (w : ℕ) (is : IsWeighed old w) (few : span_bytes (Some s) ≤ MAX_SPAN_BYTES)
    (put : (c : ℕ) → span_of new c ≡ (if k == c then Some s else span_of old c)) where
  others : (c : ℕ) → c ≢ k → span_bytes (span_of new c) ≡ span_bytes (span_of old c)
  others c other = ap span_bytes (put c ∙ ap (λ b. cond b (Some s) (span_of old c)) (apart k c other))

  this : span_bytes (span_of new k) ≡ span_bytes (Some s)
  this = ap span_bytes (put k ∙ ap (λ b. cond b (Some s) (span_of old k)) (eq-eqb k k refl))

  pub replaced_fits : span_bytes (span_of old k) ≤ w
  replaced_fits = let each = terms_are_in_the_sum (λ c. span_bytes (span_of old c)) k code in let total = is.total in omega (arith, each, total)

  pub weight_fits : w ≤ 2 ^ 96
  weight_fits = let most = sums_are_bounded (λ c. span_bytes (span_of old c)) MAX_SPAN_BYTES is.light in let total = is.total in omega (arith, most, total)

  pub weighed_put : (v : ℕ) → v ≡ w - span_bytes (span_of old k) + span_bytes (Some s) → IsWeighed new v
  weighed_put v sum = record {
    total =
        let changed = one_term_changes (λ c. span_bytes (span_of old c)) (λ c. span_bytes (span_of new c)) k code others in
        let fits = replaced_fits in
        let now = this in
        let total = is.total in
        omega (arith, changed, fits, now, total, sum);
    light = λ c.
        subst (λ n. n ≤ MAX_SPAN_BYTES) (ap span_bytes (sym (put c)))
        (elim (k == c) as (λ b. span_bytes (cond b (Some s) (span_of old c)) ≤ MAX_SPAN_BYTES) [
          | true ↦ few
          | false ↦ is.light c
        ]);
  }

-- ---- the packets have the lengths of their places

length_at : (bytes : List ℕ) (s : Span) → IsWithin (length bytes) s → length (text_at bytes s) ≡ s.end - s.start
length_at bytes s within =
    let rest = length-drop s.start bytes in
    length-take-le (s.end - s.start) (drop s.start bytes) (omega (arith, within.0, within.1, rest))

bytes_at : (bytes : List ℕ) (o : Option Span) → ((s : Span) → o ≡ Some s → IsWithin (length bytes) s) → packet_bytes (option_map (text_at bytes) o) ≡ span_bytes o
bytes_at bytes None within = refl
bytes_at bytes (Some s) within = length_at bytes s (within s refl)

pub packets_weigh : (font : Virtual) → AreWithin (length font.bytes) font.spans → packets_weight font ≡ spans_weight font.spans
packets_weigh font within =
    equal_terms_have_one_sum (λ c. packet_bytes (packet_of font c)) (λ c. span_bytes (span_of font.spans c))
    (λ c code. bytes_at font.bytes (span_of font.spans c) (λ s. within c s))
