-- Bytes are a document or have a first fault.
use Rattle.std.proofs.Common.{◌≡◌, ℕ, zero, suc, ◌<◌, ◌≤◌, ◌⊎◌, inl, inr, Bool, true, false, List, [], ◌∷◌, ◌++◌, length, Option, Some, None, refl, sym, ap, subst, ◌∙◌, arith, append_assoc, length-append}
use Rattle.std.specs.Prelude.{◌==◌, slice_index}
use Rattle.std.specs.Bool.{MatchBool}
use Rattle.std.proofs.lemmas.Bool.{and_parts, cases_Bool, cases_lt, eqb-true, le-ltb}
use Rattle.big_endian.specs.Numbers.{AreBytes}
use Rattle.dvi_commands.specs.Spelling.{DviCommand, Pre, PostPost, Spells, spelling}
use Rattle.dvi_commands.specs.Refusal.{may_stand, refusal}
use Rattle.dvi_commands.specs.Reading.{Begins, Placed}
use Rattle.dvi_commands.specs.declared.command.Context.{Context}
use Rattle.dvi_commands.proofs.Refusals.{spelled_some}
use Rattle.dvi_commands.proofs.Unrefused.{unrefused_is_spelled}
use Rattle.page_index.specs.Judged.{preamble_fault, postpost_fault, tail_fault}
use Rattle.page_index.specs.Limits.{MAX_DOCUMENT_LENGTH}
use Rattle.page_index.specs.Document.{IsDocument, IsSound, Reading, Sound, context_after, end_of, is_ended, is_postpost, post_at, text_of, whole_fault}
use Rattle.page_index.specs.Faults.{FaultAfterCommand, FaultAtCommand, FaultAfter, FaultWithin, IsFirstFault, as_doc_fault, is_postpost_at}
use Rattle.page_index.specs.Laws.{BytesAreADocumentOrHaveAFault}
use Rattle.page_index.specs.declared.faults.DocFault.{DocFault}
use Rattle.page_index.specs.declared.faults.DocFault.TheVariants as fault
use Rattle.page_index.proofs.Begin.{unrefused}
use Rattle.page_index.proofs.Fields.{postpost_same, postpost_there, preamble_same}
use Rattle.page_index.proofs.Filler.{filler_is, tail_right}
use Rattle.page_index.proofs.FirstFault.{first_of, is_post_post, is_pre}

option_cases : {A : Type 0} (o : Option A) → (o ≡ None) ⊎ ((x : A) × (o ≡ Some x))
option_cases None = inl refl
option_cases (Some x) = inr (x, refl)

pub if_true : {b : Bool} (P Q : Type 0) → b ≡ true → P → MatchBool b P Q
if_true P Q e p = subst (λ b. MatchBool b P Q) (sym e) p

pub if_false : {b : Bool} (P Q : Type 0) → b ≡ false → Q → MatchBool b P Q
if_false P Q e q = subst (λ b. MatchBool b P Q) (sym e) q

-- ---- the command at the beginning of the bytes after a sound reading

abbrev IsMore : ℕ → Reading → List ℕ → Type 0
IsMore res r rest = (q : Placed) × (more : List ℕ) × (rest ≡ q.bytes ++ more) × IsSound res r q

abbrev IsWrong : ℕ → Reading → List ℕ → Type 0
IsWrong res r rest = (f : DocFault) × FaultAfter res r rest f

-- nothing is wrong with the command
more_by : (res : ℕ) (r : Reading) (rest : List ℕ) (c : DviCommand) (prefix more : List ℕ) → is_ended r ≡ false → Begins (context_after r) c prefix more rest → whole_fault res r (end_of r) prefix c ≡ None → IsMore res r rest
more_by res r rest c prefix more going begins right =
    (record { at = end_of r; command = c; bytes = prefix }, more, begins.whole, record { unfinished = going; place = refl; spelled = begins.spelled; allowed = begins.allowed; right = right })

-- its first byte is that of all bytes
prefix_op : (place : Context) (rest : List ℕ) (c : DviCommand) (prefix more : List ℕ) → Begins place c prefix more rest → slice_index prefix 0 ≡ slice_index rest 0
prefix_op place rest c prefix more begins = sym (first_of prefix more (spelled_some c prefix begins.spelled)) ∙ ap (λ (t : List ℕ). slice_index t 0) (sym begins.whole)

-- the preamble
start_then : (res : ℕ) (rest : List ℕ) → AreBytes rest → IsMore res [] rest ⊎ IsWrong res [] rest
start_then res rest few = elim (option_cases (preamble_fault res rest)) [
  | inr wrong ↦ inr wrong
  | inl right ↦ inl (begun right)
]
  where
    begun : preamble_fault res rest ≡ None → IsMore res [] rest
    begun right =
        let u = unrefused_is_spelled (context_after []) rest few (unrefused res rest right) in
        let op : slice_index u.1 0 ≡ 247 = eqb-true _ _ u.3.allowed in
        let p = is_pre u.0 u.1 u.3.spelled op in
        let spelled : Spells (Pre p.0) u.1 = subst (λ (c : DviCommand). Spells c u.1) p.1 u.3.spelled in
        let all : spelling (Pre p.0) 0 ++ u.2 ≡ rest = ap (λ (t : List ℕ). t ++ u.2) (sym spelled.2) ∙ sym u.3.whole in
        let own : preamble_fault res u.1 ≡ None = ap (preamble_fault res) spelled.2 ∙ sym (preamble_same res p.0 u.2) ∙ ap (preamble_fault res) all ∙ right in
        more_by res [] rest u.0 u.1 u.2 refl u.3 (ap (whole_fault res [] 0 u.1) p.1 ∙ own)

-- a PostPost whose fields are right
postpost_unrefused : (place : Context) (post : Option ℕ) (at : ℕ) (rest : List ℕ) → may_stand place 249 ≡ true → slice_index rest 0 ≡ 249 → postpost_fault post at rest ≡ None → refusal place rest ≡ None
postpost_unrefused place post at [] may op right = absurd (omega (arith, op))
postpost_unrefused place post at (b ∷ fields) may op right =
    let there = postpost_there post at (b ∷ fields) right in
    let first : b ≡ 249 = op in
    let whole = le-ltb (length fields) 5 (omega (arith, there.1.1.0)) in
    ap (λ (n : ℕ). refusal place (n ∷ fields)) first ∙ rw (may, whole) refl

module _ (res : ℕ) (r : Reading) (rest : List ℕ) (few : AreBytes rest) (going : is_ended r ≡ false) where
  postpost_more : may_stand (context_after r) 249 ≡ true → slice_index rest 0 ≡ 249 → postpost_fault (post_at r) (end_of r) rest ≡ None → IsMore res r rest
  postpost_more may head right =
      let u = unrefused_is_spelled (context_after r) rest few (postpost_unrefused (context_after r) (post_at r) (end_of r) rest may head right) in
      let p = is_post_post u.0 u.1 u.3.spelled (prefix_op (context_after r) rest u.0 u.1 u.2 u.3 ∙ head) in
      let spelled : Spells (PostPost p.0 p.1) u.1 = subst (λ (c : DviCommand). Spells c u.1) p.2 u.3.spelled in
      let all : spelling (PostPost p.0 p.1) 0 ++ u.2 ≡ rest = ap (λ (t : List ℕ). t ++ u.2) (sym spelled.2) ∙ sym u.3.whole in
      let own : postpost_fault (post_at r) (end_of r) u.1 ≡ None =
      ap (postpost_fault (post_at r) (end_of r)) spelled.2 ∙ sym (postpost_same (post_at r) (end_of r) p.0 p.1 u.2) ∙ ap (postpost_fault (post_at r) (end_of r)) all ∙ right in
      more_by res r rest u.0 u.1 u.2 going u.3 (ap (whole_fault res r (end_of r) u.1) p.2 ∙ own)

  command_then : IsMore res r rest ⊎ ((f : DocFault) × FaultAtCommand res r rest f)
  command_then = elim (option_cases (refusal (context_after r) rest)) [
    | inr refused ↦ inr (as_doc_fault (end_of r) rest refused.0, inl (refused.0, refused.1, refl))
    | inl none ↦
        let u = unrefused_is_spelled (context_after r) rest few none in
        elim (option_cases (whole_fault res r (end_of r) u.1 u.0)) [
          | inl right ↦ inl (more_by res r rest u.0 u.1 u.2 going u.3 right)
          | inr wrong ↦ inr (wrong.0, inr (u.0, u.1, u.2, u.3.whole, u.3.spelled, u.3.allowed, wrong.1))
        ]
  ]

  within_then : IsMore res r rest ⊎ ((f : DocFault) × FaultWithin res r rest f)
  within_then = elim (cases_Bool (is_postpost_at (context_after r) rest)) [
    | inl here ↦
        let both = and_parts (may_stand (context_after r) 249) (slice_index rest 0 == 249) here in
        elim (option_cases (postpost_fault (post_at r) (end_of r) rest)) [
          | inl right ↦ inl (postpost_more both.0 (eqb-true _ _ both.1) right)
          | inr wrong ↦ inr (wrong.0, if_true _ (FaultAtCommand res r rest wrong.0) here wrong.1)
        ]
    | inr other ↦ elim command_then [
      | inl more ↦ inl more
      | inr wrong ↦ inr (wrong.0, if_false (postpost_fault (post_at r) (end_of r) rest ≡ Some wrong.0) _ other wrong.1)
    ]
  ]

-- ---- after a sound reading the document ends, or a command follows, or something is wrong

abbrev IsEnd : Reading → List ℕ → Type 0
IsEnd r rest = (is_ended r ≡ true) × (tail_fault (end_of r) rest ≡ None)

pub after_end : (res : ℕ) (r : Reading) (c : DviCommand) (rest : List ℕ) (f : DocFault) → is_postpost c ≡ true → tail_fault (end_of r) rest ≡ Some f → FaultAfterCommand res r c rest f
after_end res r (PostPost q id) rest f e h = h
after_end res r _ rest f e h = cc

pub after_within : (res : ℕ) (r : Reading) (c : DviCommand) (rest : List ℕ) (f : DocFault) → is_postpost c ≡ false → FaultWithin res r rest f → FaultAfterCommand res r c rest f
after_within res r (PostPost q id) rest f e h = absurd cc
after_within res r _ rest f e h = h

next_then : (res : ℕ) (r : Reading) (rest : List ℕ) → AreBytes rest → IsEnd r rest ⊎ (IsMore res r rest ⊎ IsWrong res r rest)
next_then res [] rest few = inr (start_then res rest few)
next_then res (p ∷ before) rest few = elim (cases_Bool (is_postpost p.command)) [
  | inl ended ↦ elim (option_cases (tail_fault (end_of (p ∷ before)) rest)) [
    | inl right ↦ inl (ended, right)
    | inr wrong ↦ inr (inr (wrong.0, after_end res (p ∷ before) p.command rest wrong.0 ended wrong.1))
  ]
  | inr going ↦ elim (within_then res (p ∷ before) rest few going) [
    | inl more ↦ inr (inl more)
    | inr wrong ↦ inr (inr (wrong.0, after_within res (p ∷ before) p.command rest wrong.0 going wrong.1))
  ]
]

-- ---- all bytes

rest_are : (prefix rest : List ℕ) → AreBytes (prefix ++ rest) → AreBytes rest
rest_are [] rest h = h
rest_are (b ∷ prefix) rest h = rest_are prefix rest h.1

abbrev Stands : ℕ → List ℕ → Type 0
Stands res bytes = ((reading : Reading) × IsDocument res bytes reading) ⊎ ((f : DocFault) × IsFirstFault res bytes f)

ends : (res : ℕ) (bytes : List ℕ) (fits : length bytes ≤ MAX_DOCUMENT_LENGTH) (fuel : ℕ) (r : Reading) (rest : List ℕ) → AreBytes rest → Sound res r → bytes ≡ text_of r ++ rest → length rest < fuel → Stands res bytes
ends res bytes fits zero r rest few sound text short = absurd (omega (arith, short))
ends res bytes fits (suc fuel) r rest few sound text short = elim (next_then res r rest few) [
  | inl end ↦
      let fill = tail_right (end_of r) rest end.1 in
      inl (r, record { fits = fits; sound = sound; ended = end.0; filler = length rest; filled = fill.1; whole = text ∙ ap (λ (t : List ℕ). text_of r ++ t) (filler_is rest fill.0) })
  | inr next ↦ elim next [
    | inl m ↦
        ends res bytes fits fuel (m.0 ∷ r) m.1 (rest_are m.0.bytes m.1 (subst AreBytes m.2 few)) (sound, m.3)
        (text ∙ ap (λ (t : List ℕ). text_of r ++ t) m.2 ∙ sym (append_assoc (text_of r) m.0.bytes m.1))
        (omega (arith, short, ap length m.2, length-append m.0.bytes m.1, spelled_some m.0.command m.0.bytes m.3.spelled))
    | inr wrong ↦ inr (wrong.0, inr (fits, r, rest, sound, text, wrong.1))
  ]
]

pub bytes_are_a_document_or_have_a_fault : BytesAreADocumentOrHaveAFault
bytes_are_a_document_or_have_a_fault res bytes few = elim (cases_lt MAX_DOCUMENT_LENGTH (length bytes)) [
  | inl long ↦ inr (fault.TooLong MAX_DOCUMENT_LENGTH, inl (long, refl))
  | inr fits ↦ ends res bytes fits (suc (length bytes)) [] bytes few tt refl (omega arith)
]
