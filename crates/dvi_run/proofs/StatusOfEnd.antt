-- What the status of a run says of its end.
use Rattle.std.proofs.Common.{◌≡◌, inl, inr, ℕ, refl, sym, ◌∙◌}
use Rattle.dvi_run.specs.Endings.{EndingValue, Written, Usage, Document, Page, Source, Input, Output, Notes, Memory, WroteAll, page_status, status_of}
use Rattle.dvi_run.specs.Looked.{IsAllWritten, EveryPageCameToItsEnd, WasNotCutOff, WasNotCutOffBy}
use Rattle.dvi_run.specs.Together.{EveryPageCameToItsEndBy}
use Rattle.dvi_run.proofs.Clauses.{AtPage, at_page}

pub not_cut_off_by : (e : EndingValue) → WasNotCutOffBy (status_of e) → WasNotCutOff e
not_cut_off_by Written h = tt
not_cut_off_by Usage h = tt
not_cut_off_by (Document fault) h = tt
not_cut_off_by (Page page) h = tt
not_cut_off_by (Source page) h = h.0 refl
not_cut_off_by Input h = tt
not_cut_off_by (Output page) h = tt
not_cut_off_by Notes h = tt
not_cut_off_by Memory h = h.1 refl

-- a page's status is neither 0 nor 8
not_good : (n : ℕ) → AtPage n → WroteAll n → ⊥
not_good n (inl three) (inl zero) = let e : 3 ≡ 0 = sym three ∙ zero in cc
not_good n (inl three) (inr eight) = let e : 3 ≡ 8 = sym three ∙ eight in cc
not_good n (inr four) (inl zero) = let e : 4 ≡ 0 = sym four ∙ zero in cc
not_good n (inr four) (inr eight) = let e : 4 ≡ 8 = sym four ∙ eight in cc

-- a number is none of two
is_neither : (n : ℕ) → (n ≡ 0 → ⊥) → (n ≡ 8 → ⊥) → WroteAll n → ⊥
is_neither n a b (inl is) = a is
is_neither n a b (inr is) = b is

pub is_written : (e : EndingValue) → WroteAll (status_of e) → IsAllWritten e
is_written Written is = tt
is_written Usage is = is_neither 1 (λ e. cc) (λ e. cc) is
is_written (Document fault) is = is_neither 2 (λ e. cc) (λ e. cc) is
is_written (Page page) is = not_good (page_status page.fault) (at_page page.fault) is
is_written (Source page) is = is_neither 5 (λ e. cc) (λ e. cc) is
is_written Input is = is_neither 6 (λ e. cc) (λ e. cc) is
is_written (Output page) is = is_neither 7 (λ e. cc) (λ e. cc) is
is_written Notes is = tt
is_written Memory is = is_neither 9 (λ e. cc) (λ e. cc) is

pub to_its_end_by : (n : ℕ) (e : EndingValue) → EveryPageCameToItsEndBy n (status_of e) → EveryPageCameToItsEnd n e
to_its_end_by n e (inl good) = inl (is_written e good)
to_its_end_by n e (inr one) = inr (one.0, not_cut_off_by e one.1)
