-- Sound items have a virtual font, and local fonts have keys.
use Rattle.std.proofs.Common.{◌≡◌, ◌∙◌, ◌<◌, ◌+◌, ◌-◌, inl, inr, ℕ, zero, suc, ℤ, pos, negsuc, Bool, true, false, cond, List, [], ◌∷◌, ◌++◌, length, drop, get_or, replicate, Option, Some, None, refl, sym, ap, arith, append_assoc, append-nil, length-append}
use Rattle.std.specs.Prelude.{◌==◌, map, if◌then◌else◌}
use Rattle.std.specs.Map.{lookup}
use Rattle.std.specs.Option.{option_map}
use Rattle.std.proofs.lemmas.Bool.{cases_Bool, cases_lt, cases_eq, eq-eqb, ne_eqb, lt-ltb, le-ltb}
use Rattle.std.proofs.lemmas.List.{drop_at}
use Rattle.big_endian.specs.Numbers.{int_eq}
use Rattle.tfm_reader.proofs.Table.{pushed}
use Rattle.outside.specs.declared.keys.FontKey.{FontKey}
use Rattle.pixel_round.specs.declared.units.Units.{Units}
use Rattle.vf_reader.specs.Items.{code_of, head_size, is_packet, opcode, text_of}
use Rattle.vf_reader.specs.Locals.{local_with, locals_of}
use Rattle.vf_reader.specs.Fonts.{AreSound, HasPacketsOf, Spans, Virtual, span_of}
use Rattle.vf_reader.specs.Walked.{AreSpansOf}
use Rattle.vf_reader.specs.declared.locals.LocalDef.{LocalDef}
use Rattle.vf_reader.specs.declared.packet_table.Span.{Span}
use Rattle.vf_reader.proofs.Found.{same_test}
use Rattle.vf_reader.proofs.Kept.{nothing_kept}
use Rattle.vf_reader.proofs.OneItem.{has_head}
use Rattle.vf_reader.proofs.Spans.{local_put, packet_put, packets_are}
use Rattle.font_decode.specs.Fonts.{key_with}
use Rattle.font_decode.specs.Locals.{local_key}

-- a table of the numbers below n
pub build : {X : Type 0} (f : ℕ → X) (d : X) (n : ℕ) → (xs : List X) × (length xs ≡ n) × ((c : ℕ) → c < n → get_or xs c d ≡ f c)
build f d zero = ([], refl, λ c lt. absurd (omega (arith, lt)))
build f d (suc n) =
    let r = build f d n in
    (r.0 ++ f n ∷ [], omega (arith, length-append r.0 (f n ∷ []), r.1), λ c lt. pushed r.0 (f n) d f n r.1 r.2 refl c (omega (arith, lt)))

-- ---- packets

pub same_way : (a b : ℕ) → (a == b) ≡ (b == a)
same_way a b = elim (cases_eq a b) [
  | inl e ↦ eq-eqb a b e ∙ sym (eq-eqb b a (sym e))
  | inr other ↦ ne_eqb a b other ∙ sym (ne_eqb b a (λ e. other (sym e)))
]

-- one more span
span_put : (old : Spans) (code : ℕ) (s : Span) → (new : Spans) × ((k : ℕ) → span_of new k ≡ (if code == k then Some s else span_of old k))
span_put old code s = (
  new,
  λ k. elim (cases_lt k 256) [
    | inl low ↦ ap (λ b. if b then get_or table.0 k None else lookup (λ q. k == q) ((code, s) ∷ old.others)) (lt-ltb k 256 low) ∙ table.2 k low
    | inr high ↦
        ap (λ b. if b then get_or table.0 k None else lookup (λ q. k == q) ((code, s) ∷ old.others)) (le-ltb k 256 high)
        ∙ ap (λ b. cond b (Some s) (lookup (λ q. k == q) old.others)) (same_way k code)
        ∙ ap (λ b. cond (code == k) (Some s) (if b then get_or old.table k None else lookup (λ q. k == q) old.others)) (sym (le-ltb k 256 high))
  ],
)
  where
    table : (xs : List (Option Span)) × (length xs ≡ 256) × ((c : ℕ) → c < 256 → get_or xs c None ≡ (if code == c then Some s else span_of old c))
    table = build (λ c. if code == c then Some s else span_of old c) None 256

    new : Spans
    new = record { table = table.0; others = (code, s) ∷ old.others }

spans_for : (bytes rest : List ℕ) (items : List (List ℕ)) → AreSound items → bytes ≡ text_of items ++ rest → (spans : Spans) × AreSpansOf bytes items spans
spans_for bytes rest [] sound e = (record { table = replicate 256 None; others = [] }, λ c. nothing_kept c (replicate 256 None) [] refl refl)
spans_for bytes rest (item ∷ before) sound e =
    let here : bytes ≡ text_of before ++ (item ++ rest) = e ∙ append_assoc (text_of before) item rest in
    let r = spans_for bytes (item ++ rest) before sound.0 here in
    elim (cases_Bool (is_packet item)) [
      | inl kind ↦
          let start = head_size (opcode item) in
          let end = length (text_of before) + length item in
          let new = span_put r.0 (code_of item) (record { start = end - (length item - start); end = end }) in
          let place : end - length item ≡ length (text_of before) = omega arith in
          let stands : drop (end - length item) bytes ≡ item ++ rest = ap (λ n. drop n bytes) place ∙ ap (drop (length (text_of before))) here ∙ drop_at (text_of before) (item ++ rest) (length (text_of before)) refl in
          let size : length bytes ≡ length (text_of before) + length (item ++ rest) = ap length here ∙ length-append (text_of before) (item ++ rest) in (
            new.0,
            packet_put bytes item rest before r.0 new.0 (code_of item) start end kind stands (omega arith) (omega (arith, size, length-append item rest)) refl refl (has_head item sound.1) new.1 r.1,
          )
      | inr other ↦ (r.0, local_put bytes item before r.0 other r.1)
    ]

pub sound_items_have_a_font : (items : List (List ℕ)) → AreSound items → (file : Virtual) × HasPacketsOf items file
sound_items_have_a_font items sound =
    let spans = spans_for (text_of items) [] items sound (sym (append-nil (text_of items))) in
    let file : Virtual = record { bytes = text_of items; spans = spans.0; locals = locals_of items } in
    (file, record { packets = packets_are (text_of items) items file refl spans.1; locals = refl })

-- ---- keys

int_same_way : (a b : ℤ) → int_eq a b ≡ int_eq b a
int_same_way (pos m) (pos n) = same_way m n
int_same_way (negsuc m) (negsuc n) = same_way m n
int_same_way (pos m) (negsuc n) = refl
int_same_way (negsuc m) (pos n) = refl

module _ (u : Units) (size : ℕ) where
  abbrev pub keys_of : List LocalDef → List (ℤ × FontKey)
  keys_of locals = map (λ d. (d.number, local_key u size d)) locals

  pub keys_are : (locals : List LocalDef) (n : ℤ) → key_with (keys_of locals) n ≡ option_map (local_key u size) (local_with locals n)
  keys_are [] n = refl
  keys_are (d ∷ locals) n =
      ap (λ b. cond b (Some (local_key u size d)) (key_with (keys_of locals) n)) (sym (same_test n d.number) ∙ int_same_way n d.number)
      ∙ by (int_eq d.number n) (keys_are locals n)
    where
      by : (b : Bool) → key_with (keys_of locals) n ≡ option_map (local_key u size) (local_with locals n)
          → cond b (Some (local_key u size d)) (key_with (keys_of locals) n) ≡ option_map (local_key u size) (if b then Some d else local_with locals n)
      by true rest = refl
      by false rest = rest
