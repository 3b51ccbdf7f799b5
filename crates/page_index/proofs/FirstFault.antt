-- A document has no fault, and a file has at most one first fault.
use Rattle.std.proofs.Common.{◌≡◌, ℕ, zero, suc, ◌<◌, ◌≤◌, ◌⊎◌, ℤ, true, false, List, [], ◌∷◌, ◌++◌, length, replicate, Option, Some, None, refl, sym, ap, subst, ◌∙◌, arith, inl, inr, append_assoc}
use Rattle.std.specs.Prelude.{◌==◌, nat_lt, slice_index}
use Rattle.std.specs.List.{list_all}
use Rattle.std.proofs.lemmas.Bool.{true≢false, le-ltb, eqb-true, and_parts, cases_Bool, MatchBool-at_true, MatchBool-at_false}
use Rattle.dvi_commands.specs.Spelling.{DviCommand, Preamble, Pre, PostPost, Spells, spelling}
use Rattle.dvi_commands.specs.Refusal.{may_stand, refusal}
use Rattle.dvi_commands.specs.Reading.{Placed, command_of}
use Rattle.page_index.specs.Judged.{is_filler, preamble_fault, postpost_fault, tail_fault}
use Rattle.page_index.specs.Document.{Reading, text_of, end_of, context_after, post_at, Sound, IsSound, is_postpost, is_ended, whole_fault}
use Rattle.page_index.specs.Faults.{FaultAfter, FaultAfterCommand, FaultWithin, FaultAtCommand, as_doc_fault, is_postpost_at}
use Rattle.page_index.specs.Laws.{DocumentsHaveNoFault, FirstFaultsAreOne, DocumentsHaveOneReading}
use Rattle.dvi_commands.specs.declared.command.CommandFault.{CommandFault}
use Rattle.page_index.specs.declared.faults.DocFault.{DocFault}
use Rattle.dvi_commands.proofs.Prefix.{no_spelling_begins_another}
use Rattle.dvi_commands.proofs.Determined.{spelling_determines_the_command, determined_by_bytes}
use Rattle.dvi_commands.proofs.Refusals.{spelled_is_not_refused, spelled_some}
use Rattle.page_index.proofs.Fields.{postpost_same, preamble_same}
use Rattle.page_index.proofs.Readings.{Begins, readings_agree, split_last, sound_older, text_after, cancelled}

-- ---- the command of a first byte

first_is : (bytes : List ℕ) (op : ℕ) → 0 < op → slice_index bytes 0 ≡ op → (fields : List ℕ) × (bytes ≡ op ∷ fields)
first_is [] op some e = absurd (omega (arith, e, some))
first_is (b ∷ fields) op some e = (fields, ap (λ x. x ∷ fields) e)

pub is_pre : (c : DviCommand) (bytes : List ℕ) → Spells c bytes → slice_index bytes 0 ≡ 247 → (p : Preamble) × (c ≡ Pre p)
is_pre c bytes h e =
    let first = first_is bytes 247 (omega arith) e in
    (_, determined_by_bytes c bytes h ∙ ap command_of first.1)

pub is_post_post : (c : DviCommand) (bytes : List ℕ) → Spells c bytes → slice_index bytes 0 ≡ 249 → (q : ℤ) × (id : ℕ) × (c ≡ PostPost q id)
is_post_post c bytes h e =
    let first = first_is bytes 249 (omega arith) e in
    (_, _, determined_by_bytes c bytes h ∙ ap command_of first.1)

-- the first byte of a command's bytes is that of all bytes from there on
pub first_of : (bytes more : List ℕ) → 0 < length bytes → slice_index (bytes ++ more) 0 ≡ slice_index bytes 0
first_of [] more h = absurd (omega (arith, h))
first_of (b ∷ bytes) more h = refl

-- ---- where a sound command follows there is no fault

none_is_some : {A : Type 0} (o : Option DocFault) (f : DocFault) → o ≡ None → o ≡ Some f → A
none_is_some None f e g = absurd cc
none_is_some (Some x) f e g = absurd cc

no_start_fault : (res : ℕ) (q : Placed) (more : List ℕ) (f : DocFault) → IsSound res [] q → preamble_fault res (q.bytes ++ more) ≡ Some f → ⊥
no_start_fault res q more f h e =
    let is_247 : slice_index q.bytes 0 ≡ 247 = eqb-true _ _ h.allowed in
    let p = is_pre q.command q.bytes h.spelled is_247 in
    let spelled : Spells (Pre p.0) q.bytes = subst (λ (c : DviCommand). Spells c q.bytes) p.1 h.spelled in
    let right : preamble_fault res q.bytes ≡ None = subst (λ (c : DviCommand). whole_fault res [] q.at q.bytes c ≡ None) p.1 h.right in
    let own : preamble_fault res (spelling (Pre p.0) 0) ≡ None = subst (λ (b : List ℕ). preamble_fault res b ≡ None) spelled.2 right in
    let long : preamble_fault res (q.bytes ++ more) ≡ None = subst (λ (b : List ℕ). preamble_fault res (b ++ more) ≡ None) (sym spelled.2) (preamble_same res p.0 more ∙ own) in
    none_is_some _ f long e

no_pointer_fault : (res : ℕ) (r : Reading) (q : Placed) (more : List ℕ) (f : DocFault) → IsSound res r q → slice_index (q.bytes ++ more) 0 ≡ 249 → postpost_fault (post_at r) (end_of r) (q.bytes ++ more) ≡ Some f → ⊥
no_pointer_fault res r q more f h head e =
    let is_249 : slice_index q.bytes 0 ≡ 249 = sym (first_of q.bytes more (spelled_some q.command q.bytes h.spelled)) ∙ head in
    let p = is_post_post q.command q.bytes h.spelled is_249 in
    let spelled : Spells (PostPost p.0 p.1) q.bytes = subst (λ (c : DviCommand). Spells c q.bytes) p.2 h.spelled in
    let right : postpost_fault (post_at r) q.at q.bytes ≡ None = subst (λ (c : DviCommand). whole_fault res r q.at q.bytes c ≡ None) p.2 h.right in
    let own : postpost_fault (post_at r) (end_of r) (spelling (PostPost p.0 p.1) 0) ≡ None =
    subst (λ (b : List ℕ). postpost_fault (post_at r) (end_of r) b ≡ None) spelled.2 (subst (λ (at : ℕ). postpost_fault (post_at r) at q.bytes ≡ None) h.place right) in
    let long : postpost_fault (post_at r) (end_of r) (q.bytes ++ more) ≡ None =
    subst (λ (b : List ℕ). postpost_fault (post_at r) (end_of r) (b ++ more) ≡ None) (sym spelled.2) (postpost_same (post_at r) (end_of r) p.0 p.1 more ∙ own) in
    none_is_some _ f long e

no_refusal : (o : Option CommandFault) (c : CommandFault) → o ≡ None → o ≡ Some c → ⊥
no_refusal None c e g = absurd cc
no_refusal (Some x) c e g = absurd cc

no_command_fault : (res : ℕ) (r : Reading) (q : Placed) (more : List ℕ) (f : DocFault) → IsSound res r q → FaultAtCommand res r (q.bytes ++ more) f → ⊥
no_command_fault res r q more f h (inl e) = no_refusal _ e.0 (spelled_is_not_refused (context_after r) q.command q.bytes more h.spelled h.allowed) e.1
no_command_fault res r q more f h (inr e) =
    let parts = no_spelling_begins_another q.command e.0 q.bytes e.1 more e.2 h.spelled e.4 e.3 in
    let spelled : Spells e.0 q.bytes = subst (λ (b : List ℕ). Spells e.0 b) (sym parts.0) e.4 in
    let command : q.command ≡ e.0 = spelling_determines_the_command q.command e.0 q.bytes h.spelled spelled in
    let right : whole_fault res r (end_of r) e.1 e.0 ≡ None =
    subst (λ (c : DviCommand). whole_fault res r (end_of r) e.1 c ≡ None) command
    (subst (λ (b : List ℕ). whole_fault res r (end_of r) b q.command ≡ None) parts.0
    (subst (λ (at : ℕ). whole_fault res r at q.bytes q.command ≡ None) h.place h.right)) in
    none_is_some _ f right e.6

no_fault_within : (res : ℕ) (r : Reading) (q : Placed) (more : List ℕ) (f : DocFault) → IsSound res r q → FaultWithin res r (q.bytes ++ more) f → ⊥
no_fault_within res r q more f h e =
    elim (cases_Bool (is_postpost_at (context_after r) (q.bytes ++ more))) [
      | inl here ↦
          let both = and_parts (may_stand (context_after r) 249) (slice_index (q.bytes ++ more) 0 == 249) here in
          let head : slice_index (q.bytes ++ more) 0 ≡ 249 = eqb-true _ _ both.1 in
          no_pointer_fault res r q more f h head (MatchBool-at_true _ _ here e)
      | inr not_here ↦ no_command_fault res r q more f h (MatchBool-at_false _ _ not_here e)
    ]

-- after a command that is not PostPost
within : (res : ℕ) (r : Reading) (c : DviCommand) (rest : List ℕ) (f : DocFault) → is_postpost c ≡ false → FaultAfterCommand res r c rest f → FaultWithin res r rest f
within res r (PostPost q id) rest f e h = absurd cc
within res r _ rest f e h = h

no_fault_there : (res : ℕ) (r : Reading) (q : Placed) (more : List ℕ) (f : DocFault) → IsSound res r q → FaultAfter res r (q.bytes ++ more) f → ⊥
no_fault_there res [] q more f h e = no_start_fault res q more f h e
no_fault_there res (p ∷ before) q more f h e = no_fault_within res (p ∷ before) q more f h (within res (p ∷ before) p.command (q.bytes ++ more) f h.unfinished e)

-- ---- a document has no fault

all_filler : (n : ℕ) → list_all is_filler (replicate n 223) ≡ true
all_filler zero = refl
all_filler (suc n) = all_filler n

abbrev filler_bytes : ℕ → List ℕ
filler_bytes n = replicate n 223

length-filler : (n : ℕ) → length (filler_bytes n) ≡ n
length-filler zero = refl
length-filler (suc n) = ap suc (length-filler n)

long_filler : (n : ℕ) → 4 ≤ n → nat_lt (length (filler_bytes n)) 4 ≡ false
long_filler n h = le-ltb (length (filler_bytes n)) 4 (omega (arith, length-filler n, h))

no_tail_fault : (at n : ℕ) → 4 ≤ n → tail_fault at (replicate n 223) ≡ None
no_tail_fault at n h = rw (all_filler n, long_filler n h) refl

-- after a PostPost
at_end : (res : ℕ) (r : Reading) (c : DviCommand) (rest : List ℕ) (f : DocFault) → is_postpost c ≡ true → FaultAfterCommand res r c rest f → tail_fault (end_of r) rest ≡ Some f
at_end res r (PostPost q id) rest f e h = h
at_end res r _ rest f e h = absurd cc

no_fault_at_end : (res : ℕ) (r : Reading) (n : ℕ) (f : DocFault) → is_ended r ≡ true → 4 ≤ n → FaultAfter res r (replicate n 223) f → ⊥
no_fault_at_end res [] n f ended h e = absurd cc
no_fault_at_end res (p ∷ before) n f ended h e = none_is_some _ f (no_tail_fault (end_of (p ∷ before)) n h) (at_end res (p ∷ before) p.command (replicate n 223) f ended e)

-- a longer sound reading has a next command after the shorter one
next_command : (res : ℕ) (r s : Reading) (n : Placed) (newer : Reading) (x y : List ℕ) → Sound res s → s ≡ (n ∷ newer) ++ r → text_of r ++ x ≡ text_of s ++ y → (q : Placed) × (more : List ℕ) × IsSound res r q × (x ≡ q.bytes ++ more)
next_command res r s n newer x y sound e same =
    let parts = split_last n newer in
    let q = parts.1 in
    let regrouped : s ≡ parts.0 ++ (q ∷ r) = e ∙ ap (λ t. t ++ r) parts.2 ∙ append_assoc parts.0 (q ∷ []) r in
    let older : Sound res (q ∷ r) = sound_older res parts.0 (q ∷ r) (subst (λ (t : Reading). Sound res t) regrouped sound) in
    let after = text_after parts.0 (q ∷ r) in
    let text : text_of s ≡ (text_of r ++ q.bytes) ++ after.0 = ap text_of regrouped ∙ after.1 in
    let right : text_of s ++ y ≡ text_of r ++ (q.bytes ++ (after.0 ++ y)) =
    ap (λ t. t ++ y) text ∙ append_assoc (text_of r ++ q.bytes) after.0 y ∙ append_assoc (text_of r) q.bytes (after.0 ++ y) in
    (q, after.0 ++ y, older.1, cancelled (text_of r) x (q.bytes ++ (after.0 ++ y)) (same ∙ right))

ended_is_last : (res : ℕ) (d : Reading) (q : Placed) → is_ended d ≡ true → IsSound res d q → ⊥
ended_is_last res d q ended h = true≢false (sym ended ∙ h.unfinished)

no_fault : (res n : ℕ) (d r : Reading) (rest : List ℕ) (f : DocFault) → Sound res d → Sound res r → is_ended d ≡ true → 4 ≤ n → text_of d ++ replicate n 223 ≡ text_of r ++ rest → FaultAfter res r rest f → ⊥
no_fault res n d r rest f hd hr ended four same e = by (readings_agree res d r (replicate n 223) rest hd hr same)
  where
    here : r ≡ d → ⊥
    here eq =
        let tail : text_of r ++ rest ≡ text_of r ++ replicate n 223 = sym same ∙ ap (λ t. text_of t ++ replicate n 223) (sym eq) in
        let is : rest ≡ replicate n 223 = cancelled (text_of r) rest (replicate n 223) tail in
        no_fault_at_end res r n f (ap is_ended eq ∙ ended) four (subst (λ (b : List ℕ). FaultAfter res r b f) is e)

    by : (Begins d r ⊎ Begins r d) → ⊥
    by (inl b) = longer b.0 b.1
      where
        longer : (newer : Reading) → r ≡ newer ++ d → ⊥
        longer [] eq = here eq
        longer (m ∷ newer) eq = let q = next_command res d r m newer (replicate n 223) rest hr eq same in ended_is_last res d q.0 ended q.2
    by (inr b) = shorter b.0 b.1
      where
        shorter : (newer : Reading) → d ≡ newer ++ r → ⊥
        shorter [] eq = here (sym eq)
        shorter (m ∷ newer) eq =
            let q = next_command res r d m newer rest (replicate n 223) hd eq (sym same) in
            no_fault_there res r q.0 q.1 f q.2 (subst (λ (b : List ℕ). FaultAfter res r b f) q.3 e)

pub documents_have_no_fault : DocumentsHaveNoFault
documents_have_no_fault res bytes reading f h (inl long) = absurd (omega (arith, h.fits, long.0))
documents_have_no_fault res bytes reading f h (inr e) = no_fault res h.filler reading e.1 e.2 f h.sound e.3 h.ended h.filled (sym h.whole ∙ e.4) e.5

-- ---- there is one first fault, and one reading

pub documents_have_one_reading : DocumentsHaveOneReading
documents_have_one_reading res bytes r s hr hs = by (readings_agree res r s (replicate hr.filler 223) (replicate hs.filler 223) hr.sound hs.sound same)
  where
    same : text_of r ++ replicate hr.filler 223 ≡ text_of s ++ replicate hs.filler 223
    same = sym hr.whole ∙ hs.whole

    by : (Begins r s ⊎ Begins s r) → r ≡ s
    by (inl b) = longer b.0 b.1
      where
        longer : (newer : Reading) → s ≡ newer ++ r → r ≡ s
        longer [] eq = sym eq
        longer (m ∷ newer) eq = let q = next_command res r s m newer _ _ hs.sound eq same in absurd (ended_is_last res r q.0 hr.ended q.2)
    by (inr b) = shorter b.0 b.1
      where
        shorter : (newer : Reading) → r ≡ newer ++ s → r ≡ s
        shorter [] eq = eq
        shorter (m ∷ newer) eq = let q = next_command res s r m newer _ _ hr.sound eq (sym same) in absurd (ended_is_last res s q.0 hs.ended q.2)

some_is_one : {A : Type 0} (o : Option A) (f g : A) → o ≡ Some f → o ≡ Some g → f ≡ g
some_is_one None f g e h = absurd cc
some_is_one (Some x) f g e h = cc

one_at_command : (res : ℕ) (r : Reading) (rest : List ℕ) (f g : DocFault) → FaultAtCommand res r rest f → FaultAtCommand res r rest g → f ≡ g
one_at_command res r rest f g (inl e) (inl h) =
    let cause : e.0 ≡ h.0 = some_is_one (refusal (context_after r) rest) e.0 h.0 e.1 h.1 in
    e.2 ∙ ap (as_doc_fault (end_of r) rest) cause ∙ sym h.2
one_at_command res r rest f g (inl e) (inr h) =
    absurd (no_refusal _ e.0 (ap (refusal (context_after r)) h.3 ∙ spelled_is_not_refused (context_after r) h.0 h.1 h.2 h.4 h.5) e.1)
one_at_command res r rest f g (inr e) (inl h) =
    absurd (no_refusal _ h.0 (ap (refusal (context_after r)) e.3 ∙ spelled_is_not_refused (context_after r) e.0 e.1 e.2 e.4 e.5) h.1)
one_at_command res r rest f g (inr e) (inr h) =
    let parts = no_spelling_begins_another e.0 h.0 e.1 h.1 e.2 h.2 e.4 h.4 (sym e.3 ∙ h.3) in
    let spelled : Spells h.0 e.1 = subst (λ (b : List ℕ). Spells h.0 b) (sym parts.0) h.4 in
    let command : e.0 ≡ h.0 = spelling_determines_the_command e.0 h.0 e.1 e.4 spelled in
    let moved : whole_fault res r (end_of r) h.1 h.0 ≡ Some f =
    subst (λ (c : DviCommand). whole_fault res r (end_of r) h.1 c ≡ Some f) command
    (subst (λ (b : List ℕ). whole_fault res r (end_of r) b e.0 ≡ Some f) parts.0 e.6) in
    some_is_one (whole_fault res r (end_of r) h.1 h.0) f g moved h.6

one_within : (res : ℕ) (r : Reading) (rest : List ℕ) (f g : DocFault) → FaultWithin res r rest f → FaultWithin res r rest g → f ≡ g
one_within res r rest f g e h =
    elim (cases_Bool (is_postpost_at (context_after r) rest)) [
      | inl here ↦ some_is_one _ f g (MatchBool-at_true _ _ here e) (MatchBool-at_true _ _ here h)
      | inr not_here ↦ one_at_command res r rest f g (MatchBool-at_false _ _ not_here e) (MatchBool-at_false _ _ not_here h)
    ]

one_after : (res : ℕ) (r : Reading) (rest : List ℕ) (f g : DocFault) → FaultAfter res r rest f → FaultAfter res r rest g → f ≡ g
one_after res [] rest f g e h = some_is_one _ f g e h
one_after res (p ∷ before) rest f g e h =
    elim (cases_Bool (is_postpost p.command)) [
      | inl last ↦ some_is_one _ f g (at_end res (p ∷ before) p.command rest f last e) (at_end res (p ∷ before) p.command rest g last h)
      | inr not_last ↦ one_within res (p ∷ before) rest f g (within res (p ∷ before) p.command rest f not_last e) (within res (p ∷ before) p.command rest g not_last h)
    ]

one_fault : (res : ℕ) (r s : Reading) (x y : List ℕ) (f g : DocFault) → Sound res r → Sound res s → text_of r ++ x ≡ text_of s ++ y → FaultAfter res r x f → FaultAfter res s y g → f ≡ g
one_fault res r s x y f g hr hs same e h = by (readings_agree res r s x y hr hs same)
  where
    here : s ≡ r → f ≡ g
    here eq =
        let tail : x ≡ y = cancelled (text_of r) x y (same ∙ ap (λ t. text_of t ++ y) eq) in
        one_after res r x f g e (subst (λ (t : Reading). FaultAfter res t x g) eq (subst (λ (b : List ℕ). FaultAfter res s b g) (sym tail) h))

    by : (Begins r s ⊎ Begins s r) → f ≡ g
    by (inl b) = longer b.0 b.1
      where
        longer : (newer : Reading) → s ≡ newer ++ r → f ≡ g
        longer [] eq = here eq
        longer (m ∷ newer) eq = let q = next_command res r s m newer x y hs eq same in absurd (no_fault_there res r q.0 q.1 f q.2 (subst (λ (b : List ℕ). FaultAfter res r b f) q.3 e))
    by (inr b) = shorter b.0 b.1
      where
        shorter : (newer : Reading) → r ≡ newer ++ s → f ≡ g
        shorter [] eq = here (sym eq)
        shorter (m ∷ newer) eq = let q = next_command res s r m newer y x hr eq (sym same) in absurd (no_fault_there res s q.0 q.1 g q.2 (subst (λ (b : List ℕ). FaultAfter res s b g) q.3 h))

pub first_faults_are_one : FirstFaultsAreOne
first_faults_are_one res bytes f g (inl e) (inl h) = e.1 ∙ sym h.1
first_faults_are_one res bytes f g (inl e) (inr h) = absurd (omega (arith, e.0, h.0))
first_faults_are_one res bytes f g (inr e) (inl h) = absurd (omega (arith, e.0, h.0))
first_faults_are_one res bytes f g (inr e) (inr h) = one_fault res e.1 h.1 e.2 h.2 f g e.3 h.3 (sym e.4 ∙ h.4) e.5 h.5
