-- A run of the sample: how it ends.
use Rattle.std.proofs.Common.{inl, inr, ℕ, ◌≤◌, List, [], ◌∷◌, length, Option, Some, refl, sym, append-nil, arith}
use Rattle.page_index.specs.Faults.{IsFirstFault}
use Rattle.page_index.specs.declared.faults.DocFault.{DocFault}
use Rattle.dvi_run.specs.Reading.{IsRead}
use Rattle.dvi_run.specs.Pages.{Setup}
use Rattle.dvi_run.specs.Endings.{EndingValue, Written, Usage, Document, Page, Source, Input, Output, Notes, Memory, EndsBytes, IsAmong, page_status, status_of}
use Rattle.dvi_run.proofs.Clauses.{AtPage, at_page}

-- bytes that fit the limit are read whole
pub all_taken : (bytes : List ℕ) → length bytes ≤ 67108864 → IsRead (Some bytes) (Some []) bytes
all_taken bytes few = record { taken = sym (append-nil bytes); few = omega (arith, few); ends = inr refl }

-- no source failed
pub ends_without : (old new : Option (List ℕ)) (OutputFailed SourceFailed OutputKept : Type 0) (g : Setup) (bytes : List ℕ) → (SourceFailed → ⊥) → (e : EndingValue)
    → EndsBytes old new OutputFailed SourceFailed OutputKept g bytes e → EndsBytes old new OutputFailed ⊥ OutputKept g bytes e
ends_without old new O S K g bytes none Written h = h
ends_without old new O S K g bytes none Usage h = h
ends_without old new O S K g bytes none (Document fault) h = h
ends_without old new O S K g bytes none (Page page) h = h
ends_without old new O S K g bytes none (Source page) h = (h.0, none h.1)
ends_without old new O S K g bytes none Input h = h
ends_without old new O S K g bytes none (Output page) h = h
ends_without old new O S K g bytes none Notes h = h
ends_without old new O S K g bytes none Memory h = h

-- never 2, 5 or 6
abbrev Answers : ℕ → Type 0
Answers n = IsAmong n (0 ∷ 3 ∷ 4 ∷ 7 ∷ 8 ∷ 9 ∷ [])

page_answers : (n : ℕ) → AtPage n → Answers n
page_answers n (inl three) = inr (inl three)
page_answers n (inr four) = inr (inr (inl four))

pub answers_of : (old new : Option (List ℕ)) (OutputFailed OutputKept : Type 0) (g : Setup) (bytes : List ℕ) → ((fault : DocFault) → IsFirstFault g.res bytes fault → ⊥) → (e : EndingValue)
    → EndsBytes old new OutputFailed ⊥ OutputKept g bytes e → Answers (status_of e)
answers_of old new O K g bytes good Written h = inl refl
answers_of old new O K g bytes good Usage h = absurd h
answers_of old new O K g bytes good (Document fault) h = absurd (good fault h.0)
answers_of old new O K g bytes good (Page page) h = page_answers (page_status page.fault) (at_page page.fault)
answers_of old new O K g bytes good (Source page) h = absurd h.1
answers_of old new O K g bytes good Input h = absurd h
answers_of old new O K g bytes good (Output page) h = inr (inr (inr (inl refl)))
answers_of old new O K g bytes good Notes h = inr (inr (inr (inr (inl refl))))
answers_of old new O K g bytes good Memory h = inr (inr (inr (inr (inr (inl refl)))))
