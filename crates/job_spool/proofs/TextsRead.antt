-- Inputs that are read one after another, and the documents that are found in them.
use Rattle.std.proofs.Common.{◌≡◌, ℕ, ◌+◌, ◌<◌, ◌≤◌, List, [], ◌∷◌, ◌++◌, length, get_or, set, Option, Some, None, Result, Ok, Err, sym, ap, subst, ◌∙◌, arith, inl, inr}
use Rattle.std.specs.Prelude.{OnErr, Vec}
use Rattle.std.proofs.lemmas.Bool.{cases_lt}
use Rattle.std.proofs.lemmas.List.{get_or_append_left, get_or_push}
use Rattle.page_index.specs.Pages.{Indexed}
use Rattle.page_workers.proofs.Lists.{each_step, left_step, same_default}
use Rattle.job_spool.specs.Jobs.{JobView}
use Rattle.job_spool.specs.Read.{CameToText, HasText, IsIndexed, text_at, text_of}
use Rattle.job_spool.specs.Sharing.{document_at}
use Rattle.job_spool.specs.declared.job.Job.{Job}

pub on_err : {T E : Type 0} (r : Result T E) (P : Type 0) → P → OnErr r P
on_err (Ok x) P p = tt
on_err (Err x) P p = p

-- ---- texts

came_none : {I O : Type 0} (view : JobView I O) (text : Option (List ℕ)) (a b : Job I O) → CameToText view text a b → CameToText view None a b
came_none view None a b came = came
came_none view (Some bytes) a b came = inl came.0

-- whatever was read of an input, it may as well be none
pub no_text : {I O : Type 0} (view : JobView I O) (text : Option (List ℕ)) (a b : Job I O) → HasText view text a b → HasText view None a b
no_text view text a b had = record { out = had.out; history = had.history; came = came_none view text a b had.came }

unread : {I O : Type 0} (view : JobView I O) (a b : Job I O) → a.status ≡ 9 → b ≡ a → HasText view None a b
unread view a b nine same = record { out = ap (λ x. x.out) same; history = ap (λ x. x.history) same; came = inl (ap (λ x. x.status) same ∙ nine) }

module _ {I O A : Type 0} (view : JobView I O) (xs ws : List (Job I O)) (ts : List (Option (Vec ℕ A))) (i : ℕ) (v : Job I O) (t : Option (Vec ℕ A)) (inside : i < length ws) (long : length ts ≡ i)
    (done : (j : ℕ) (d : Job I O) → j < i → HasText view (text_at ts j) (get_or xs j d) (get_or ws j d)) (left : (j : ℕ) (d : Job I O) → i ≤ j → get_or ws j d ≡ get_or xs j d) (r : Job I O)
    (new : HasText view (text_of t) (get_or ws i r) v) where
  read_here : (d : Job I O) → HasText view (text_of t) (get_or xs i d) v
  read_here d = subst (λ (x : Job I O). HasText view (text_of t) x v) (same_default ws i r d inside ∙ left i d (omega arith)) new

  pub texts_more : (j : ℕ) (d : Job I O) → j < i + 1 → HasText view (text_at (ts ++ t ∷ []) j) (get_or xs j d) (get_or (set ws i v) j d)
  texts_more = each_step xs ws i v inside (λ j a b. HasText view (text_at (ts ++ t ∷ []) j) a b)
      (λ d. subst (λ (x : Option (Vec ℕ A)). HasText view (text_of x) (get_or xs i d) v) (sym (get_or_push ts t None i long)) (read_here d))
      (λ j d lt. subst (λ (x : Option (Vec ℕ A)). HasText view (text_of x) (get_or xs j d) (get_or ws j d)) (sym (get_or_append_left ts (t ∷ []) None j (omega arith))) (done j d lt))

  pub texts_left : (nine : (j : ℕ) (d : Job I O) → j < length xs → (get_or xs j d).status ≡ 9) (same : length ws ≡ length xs) (j : ℕ) (d : Job I O) → j < length xs → HasText view None (get_or xs j d) (get_or (set ws i v) j d)
  texts_left nine same j d lt = elim (cases_lt j (i + 1)) [
    | inl before ↦ no_text view (text_at (ts ++ t ∷ []) j) (get_or xs j d) (get_or (set ws i v) j d) (texts_more j d before)
    | inr after ↦ unread view (get_or xs j d) (get_or (set ws i v) j d) (nine j d lt) (left_step xs ws i v inside left j d after)
  ]

-- ---- documents

indexed_none : {I O : Type 0} (res : ℕ) (text : Option (List ℕ)) (a b : Job I O) → b ≡ a → IsIndexed res text None a b
indexed_none res None a b same = same
indexed_none res (Some bytes) a b same = inl same

-- whatever was found in a text, it may as well be none
pub no_document : {I O : Type 0} (res : ℕ) (text : Option (List ℕ)) (document : Option Indexed) (a b : Job I O) → IsIndexed res text document a b → IsIndexed res text None a b
no_document res None None a b is = is
no_document res None (Some x) a b is = absurd is
no_document res (Some bytes) None a b is = is
no_document res (Some bytes) (Some x) a b is = inl is.0

module _ {I O A : Type 0} (res : ℕ) (ts : List (Option (Vec ℕ A))) (xs ws : List (Job I O)) (docs : List (Option Indexed)) (i : ℕ) (v : Job I O) (doc : Option Indexed) (inside : i < length ws) (there : i < length ts) (long : length docs ≡ i)
    (done : (j : ℕ) (d : Job I O) → j < i → IsIndexed res (text_at ts j) (document_at docs j) (get_or xs j d) (get_or ws j d)) (left : (j : ℕ) (d : Job I O) → i ≤ j → get_or ws j d ≡ get_or xs j d) (q : Option (Vec ℕ A)) (is : q ≡ get_or ts i q) (r : Job I O)
    (new : IsIndexed res (text_of q) doc (get_or ws i r) v) where
  found_here : (d : Job I O) → IsIndexed res (text_at ts i) doc (get_or xs i d) v
  found_here d = subst (λ (x : Job I O). IsIndexed res (text_at ts i) doc x v) (same_default ws i r d inside ∙ left i d (omega arith))
      (subst (λ (x : Option (Vec ℕ A)). IsIndexed res (text_of x) doc (get_or ws i r) v) (is ∙ same_default ts i q None there) new)

  pub documents_more : (j : ℕ) (d : Job I O) → j < i + 1 → IsIndexed res (text_at ts j) (document_at (docs ++ doc ∷ []) j) (get_or xs j d) (get_or (set ws i v) j d)
  documents_more = each_step xs ws i v inside (λ j a b. IsIndexed res (text_at ts j) (document_at (docs ++ doc ∷ []) j) a b)
      (λ d. subst (λ (x : Option Indexed). IsIndexed res (text_at ts i) x (get_or xs i d) v) (sym (get_or_push docs doc None i long)) (found_here d))
      (λ j d lt. subst (λ (x : Option Indexed). IsIndexed res (text_at ts j) x (get_or xs j d) (get_or ws j d)) (sym (get_or_append_left docs (doc ∷ []) None j (omega arith))) (done j d lt))

  pub documents_left : (j : ℕ) (d : Job I O) → IsIndexed res (text_at ts j) None (get_or xs j d) (get_or (set ws i v) j d)
  documents_left j d = elim (cases_lt j (i + 1)) [
    | inl before ↦ no_document res (text_at ts j) (document_at (docs ++ doc ∷ []) j) (get_or xs j d) (get_or (set ws i v) j d) (documents_more j d before)
    | inr after ↦ indexed_none res (text_at ts j) (get_or xs j d) (get_or (set ws i v) j d) (left_step xs ws i v inside left j d after)
  ]

-- ---- jobs that begin

pub begun : {I O : Type 0} (view : JobView I O) (text : Option (List ℕ)) (a b c : Job I O) → b ≡ record a { status = 9 } → HasText view text b c → HasText view text a c
begun view text a b c is had = from (subst (λ (x : Job _ _). HasText view text x c) is had)
  where
    from : HasText view text (record a { status = 9 }) c → HasText view text a c
    from h = record { out = h.out; history = h.history; came = came_from text h.came }
      where
        came_from : (t : Option (List ℕ)) → CameToText view t (record a { status = 9 }) c → CameToText view t a c
        came_from None came = came
        came_from (Some bytes) came = came
