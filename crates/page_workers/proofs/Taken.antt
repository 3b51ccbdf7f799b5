-- Results that were taken out of rings.
use Rattle.std.proofs.Common.{◌≡◌, inl, inr, ℕ, suc, ◌+◌, ◌<◌, List, [], ◌∷◌, ◌++◌, length, get_or, set, Contains, refl, sym, ap, subst, ◌∙◌, append_assoc, append-nil, arith, length-append}
use Rattle.std.proofs.lemmas.List.{get_or-set_same, get_or-set_other}
use Rattle.std.proofs.lemmas.List.Elements.{Contains-append_cases, Contains-append_left, Contains-append_right}
use mathlib.Core.List.{IsPrefix}
use mathlib.Core.Logic.{dite}
use native.Mathlib.Decide.{ℕ_discrete}
use Rattle.rtrb.specs.Ring.{received, known_items, SameConsumer}
use Rattle.page_workers.specs.declared.rings.Inlet.{Inlet}
use Rattle.page_workers.specs.declared.worker.PageResult.{PageResult}
use Rattle.page_workers.specs.Handing.{AreFrom, HasAtHead, Looked, TookEach, TookHead, TookSome}
use Rattle.page_workers.proofs.Lists.{same_default}

-- ---- one ring

abbrev pub Same : Inlet → Inlet → Type 0
Same a b = SameConsumer a.results b.results

same_self : (a : Inlet) → Same a a
same_self a = ((refl, refl, refl, refl), refl)

pub same_then : (a b c : Inlet) → Same a b → Same b c → Same a c
same_then a b c p q = ((q.0.0 ∙ p.0.0, q.0.1 ∙ p.0.1, q.0.2 ∙ p.0.2, q.0.3 ∙ p.0.3), q.1 ∙ p.1)

prefix_then : {A : Type 0} (xs ys zs : List A) → IsPrefix xs ys → IsPrefix ys zs → IsPrefix xs zs
prefix_then xs ys zs p q = (p.0 ++ q.0, sym (append_assoc xs p.0 q.0) ∙ (ap (λ l. l ++ q.0) p.1 ∙ q.1))

pub looked_self : (a : Inlet) → Looked a a
looked_self a = (same_self a, refl, ([], append-nil (known_items a.results)))

pub looked_then : (a b c : Inlet) → Looked a b → Looked b c → Looked a c
looked_then a b c p q = (same_then a b c p.0 q.0, q.1 ∙ p.1, prefix_then (known_items a.results) (known_items b.results) (known_items c.results) p.2 q.2)

pub some_at_head : (page : ℕ) (rs : List PageResult) → HasAtHead page rs → 0 < length rs
some_at_head page [] h = absurd (let e = h.2 in cc)
some_at_head page (r ∷ rs) h = omega arith

pub head_page : (page : ℕ) (rs : List PageResult) (r : PageResult) (rest : List PageResult) → HasAtHead page rs → rs ≡ r ∷ rest → r.page ≡ page
head_page page rs r rest h is =
    let e : h.0 ∷ h.1 ≡ r ∷ rest = sym h.2 ∙ is in
    let same : h.0 ≡ r = cc e in
    ap (λ (x : PageResult). x.page) (sym same) ∙ h.3

-- ---- results in order

from_more : (page : ℕ) (rs : List PageResult) (r : PageResult) → AreFrom page rs → r.page ≡ page + length rs → AreFrom page (rs ++ r ∷ [])
from_more page [] r are is = (omega (arith, is), tt)
from_more page (x ∷ rs) r are is = (are.0, from_more (suc page) rs r are.1 (omega (arith, is)))

module _ {W O : Type 0} (Takes : W → O → PageResult → W → O → Type 0) where
  took_more : (rs : List PageResult) (r : PageResult) (w : W) (o : O) (v : W) (p : O) (u : W) (q : O) → TookEach Takes rs w o v p → Takes v p r u q → TookEach Takes (rs ++ r ∷ []) w o u q
  took_more [] r w o v p u q t one = (u, q, subst (λ (x : W). Takes x o r u q) t.0 (subst (λ (y : O). Takes v y r u q) t.1 one), (refl, refl))
  took_more (x ∷ rs) r w o v p u q t one = (t.0, t.1, t.2, took_more rs r t.0 t.1 v p u q t.3 one)

  module _ (first : ℕ) where
    pub nothing_taken : (inlets : List Inlet) → ((k : ℕ) (d : Inlet) → k < length inlets → received (get_or inlets k d).results ≡ []) → (w : W) (o : O) → TookSome Takes first 0 inlets inlets [] w o w o
    nothing_taken inlets none w o = record {
      long = refl;
      are = tt;
      took = (refl, refl);
      rings = λ k d lt. same_self (get_or inlets k d);
      owned = λ r has. let less : has.0 < 0 = has.1 in absurd (omega arith);
      all = λ k d r lt has. subst (λ (l : List PageResult). Contains l r) (none k d lt) has;
    }

    module _ (taken : ℕ) (start b : List Inlet) (rs : List PageResult) (w : W) (o : O) (v : W) (p : O) (some : TookSome Takes first taken start b rs w o v p) where
      pub after_look : (c : List Inlet) → ((k : ℕ) (d : Inlet) → k < length start → Looked (get_or b k d) (get_or c k d)) → TookSome Takes first taken start c rs w o v p
      after_look c looked = record {
        long = some.long;
        are = some.are;
        took = some.took;
        rings = λ k d lt. same_then (get_or start k d) (get_or b k d) (get_or c k d) (some.rings k d lt) (looked k d lt).0;
        owned = λ r has.
            let own = some.owned r has in
            (own.0, own.1, λ d. subst (λ (l : List PageResult). Contains l r) (sym (looked own.0 d own.1).1) (own.2 d));
        all = λ k d r lt has. some.all k d r lt (subst (λ (l : List PageResult). Contains l r) (looked k d lt).1 has);
      }

      module _ (long : length b ≡ length start) (i : ℕ) (inside : i < length b) (e x : Inlet) (r : PageResult) (head : TookHead r (get_or b i e) x) where
        here_start : i < length start
        here_start = omega (arith, long)

        rings_now : (k : ℕ) (d : Inlet) → k < length start → Same (get_or start k d) (get_or (set b i x) k d)
        rings_now k d lt = dite (ℕ_discrete k i)
            (λ eq. subst (λ (j : ℕ). Same (get_or start j d) (get_or (set b i x) j d)) (sym eq)
            (subst (λ (y : Inlet). Same (get_or start i d) y) (sym (get_or-set_same b i x d inside))
            (same_then (get_or start i d) (get_or b i d) x (some.rings i d here_start) (subst (λ (y : Inlet). Same y x) (same_default b i e d inside) head.ring))))
            (λ other. subst (λ (y : Inlet). Same (get_or start k d) y) (sym (get_or-set_other b i k x d other)) (some.rings k d lt))

        -- what the ring at i has given now
        given_here : (d : Inlet) → received (get_or (set b i x) i d).results ≡ received (get_or b i d).results ++ r ∷ []
        given_here d =
            ap (λ (y : Inlet). received y.results) (get_or-set_same b i x d inside)
            ∙ (head.received ∙ ap (λ (y : Inlet). received y.results ++ r ∷ []) (same_default b i e d inside))

        still_given : (k : ℕ) (d : Inlet) (q : PageResult) → Contains (received (get_or b k d).results) q → Contains (received (get_or (set b i x) k d).results) q
        still_given k d q has = dite (ℕ_discrete k i)
            (λ eq. subst (λ (j : ℕ). Contains (received (get_or (set b i x) j d).results) q) (sym eq)
            (subst (λ (l : List PageResult). Contains l q) (sym (given_here d)) (Contains-append_left (received (get_or b i d).results) (r ∷ []) q (subst (λ (j : ℕ). Contains (received (get_or b j d).results) q) eq has))))
            (λ other. subst (λ (y : Inlet). Contains (received y.results) q) (sym (get_or-set_other b i k x d other)) has)

        owned_now : (q : PageResult) → Contains (rs ++ r ∷ []) q → (k : ℕ) × (k < length start) × ((d : Inlet) → Contains (received (get_or (set b i x) k d).results) q)
        owned_now q has = elim (Contains-append_cases rs (r ∷ []) q has) [
          | inl before ↦ let own = some.owned q before in (own.0, own.1, λ d. still_given own.0 d q (own.2 d))
          | inr here ↦ (i, here_start, λ d. subst (λ (l : List PageResult). Contains l q) (sym (given_here d)) (Contains-append_right (received (get_or b i d).results) (r ∷ []) q here))
        ]

        all_now : (k : ℕ) (d : Inlet) (q : PageResult) → k < length start → Contains (received (get_or (set b i x) k d).results) q → Contains (rs ++ r ∷ []) q
        all_now k d q lt has = dite (ℕ_discrete k i)
            (λ eq. elim (Contains-append_cases (received (get_or b i d).results) (r ∷ []) q
            (subst (λ (l : List PageResult). Contains l q) (given_here d) (subst (λ (j : ℕ). Contains (received (get_or (set b i x) j d).results) q) eq has))) [
              | inl before ↦ Contains-append_left rs (r ∷ []) q (some.all i d q here_start before)
              | inr here ↦ Contains-append_right rs (r ∷ []) q here
            ])
            (λ other. Contains-append_left rs (r ∷ []) q (some.all k d q lt (subst (λ (y : Inlet). Contains (received y.results) q) (get_or-set_other b i k x d other) has)))

        pub one_more : HasAtHead (first + taken) (known_items (get_or b i e).results) → (u : W) (q : O) → Takes v p r u q → TookSome Takes first (taken + 1) start (set b i x) (rs ++ r ∷ []) w o u q
        one_more at u q takes =
            let page : r.page ≡ first + taken = head_page (first + taken) (known_items (get_or b i e).results) r (known_items x.results) at head.known in
            record {
              long = let more = length-append rs (r ∷ []) in let is = some.long in omega (arith, more, is);
              are = from_more first rs r some.are (let is = some.long in omega (arith, page, is));
              took = took_more rs r w o v p u q some.took takes;
              rings = rings_now;
              owned = owned_now;
              all = all_now;
            }

-- ---- one result was taken out of one ring

-- all that was sent, as far as it is known
abbrev pub all_of : Inlet → List PageResult
all_of a = received a.results ++ known_items a.results

pub all_set : (xs b : List Inlet) (i : ℕ) (inside : i < length b) (e x : Inlet) (r : PageResult) → TookHead r (get_or b i e) x → i < length xs
    → ((k : ℕ) (d : Inlet) → k < length xs → all_of (get_or b k d) ≡ all_of (get_or xs k d)) → (k : ℕ) (d : Inlet) → k < length xs → all_of (get_or (set b i x) k d) ≡ all_of (get_or xs k d)
all_set xs b i inside e x r head among was k d lt =
    let a = get_or b i e in
    let here : all_of x ≡ all_of a =
    ap (λ (l : List PageResult). l ++ known_items x.results) head.received ∙ (append_assoc (received a.results) (r ∷ []) (known_items x.results) ∙ ap (λ (l : List PageResult). received a.results ++ l) (sym head.known)) in
    dite (ℕ_discrete k i)
    (λ eq. subst (λ (j : ℕ). all_of (get_or (set b i x) j d) ≡ all_of (get_or xs j d)) (sym eq)
    (ap (λ (y : Inlet). all_of y) (get_or-set_same b i x d inside) ∙ (here ∙ (ap (λ (y : Inlet). all_of y) (same_default b i e d inside) ∙ was i d among))))
    (λ other. ap (λ (y : Inlet). all_of y) (get_or-set_other b i k x d other) ∙ was k d lt)
