-- What a worker's outlet sends.
use Rattle.std.proofs.Common.{◌≡◌, ℕ, ◌+◌, List, [], ◌∷◌, ◌++◌, ◌<◌, ◌≤◌, inl, inr, length, get_or, set, refl, sym, ap, subst, ◌∙◌, arith, length-append}
use Rattle.std.specs.Prelude.{Option, Some}
use Rattle.std.proofs.lemmas.Bool.{cases_lt}
use Rattle.std.proofs.lemmas.List.{get_or-set_same, get_or-set_other}
use mathlib.Core.Logic.{dite}
use native.Mathlib.Decide.{ℕ_discrete}
use Rattle.page_workers.specs.SparePages.{SameButSparePages}
use Rattle.page_workers.proofs.Lists.{same_default}
use Rattle.rtrb.specs.Ring.{sent, known_free, SameProducer, IsPair}
use Rattle.page_workers.specs.declared.rings.Inlet.{Inlet}
use Rattle.page_workers.specs.declared.rings.Outlet.{Outlet}
use Rattle.page_workers.specs.declared.worker.PageResult.{PageResult}
use Rattle.page_workers.specs.declared.worker.Worker.{Worker}
use Rattle.page_workers.specs.Handing.{SendsOn, WithOutlet}
use Rattle.rtrb.specs.Ring.{SameConsumer}

pub last_one : {A : Type 0} (xs : List A) (x r : A) → r ∷ [] ≡ xs ++ x ∷ [] → (xs ≡ []) × (x ≡ r)
last_one [] x r e = (refl, let same : r ≡ x = cc e in sym same)
last_one (y ∷ ys) x r e = let l = ap length e in let long = length-append ys (x ∷ []) in absurd (omega (arith, l, long))

pub some_is : {A : Type 0} (a : Option A) (o p : A) → a ≡ Some o → a ≡ Some p → o ≡ p
some_is a o p i j = let e : Some o ≡ Some p = sym i ∙ j in cc e

pub sends_on_so : (a : Option Outlet) (o p : Outlet) → a ≡ Some o → p.results ≡ o.results → SendsOn a (Some p)
sends_on_so a o p is same = subst (λ (x : Option Outlet). SendsOn x (Some p)) (sym is) (p, refl, same)

-- one result was sent
module _ (o p : Outlet) (ring : SameProducer o.results p.results) (r : PageResult) (more : sent p.results ≡ sent o.results ++ r ∷ []) (room : known_free o.results ≡ known_free p.results + 1) where
  pub sends_one : (a b : Outlet) (q : PageResult) → b ≡ o → r ≡ q → SameProducer b.results p.results × (sent p.results ≡ sent b.results ++ q ∷ []) × (known_free b.results ≡ known_free p.results + 1)
  sends_one a b q same here =
      let back = sym same in (
        subst (λ (x : Outlet). SameProducer x.results p.results) back ring,
        subst (λ (x : Outlet). sent p.results ≡ sent x.results ++ q ∷ []) back (subst (λ (x : PageResult). sent p.results ≡ sent o.results ++ x ∷ []) here more),
        subst (λ (x : Outlet). known_free x.results ≡ known_free p.results + 1) back room,
      )

-- the two ends of one ring are so still
pub pair_kept : (o p : Outlet) (a b : Inlet) → IsPair o.results a.results → SameProducer o.results p.results → SameConsumer a.results b.results → IsPair p.results b.results
pair_kept o p a b pair sends takes = (
  takes.0.0 ∙ (pair.0 ∙ sym sends.0.0),
  takes.0.1 ∙ (pair.1 ∙ sym sends.0.1),
  takes.0.2 ∙ (pair.2 ∙ sym sends.0.2),
  takes.0.3 ∙ (pair.3 ∙ sym sends.0.3),
)

-- of some workers the first ones got an outlet
pub first_got : {F : Type 0} (xs ws : List (Worker F)) (i : ℕ) → ((k : ℕ) (d : Worker F) → k < i → WithOutlet (get_or xs k d) (get_or ws k d)) → ((k : ℕ) (d : Worker F) → i ≤ k → get_or ws k d ≡ get_or xs k d)
    → (k : ℕ) (d : Worker F) → k < length xs → WithOutlet (get_or xs k d) (get_or ws k d)
first_got xs ws i got left k d lt = elim (cases_lt k i) [
  | inl before ↦ got k d before
  | inr from ↦ ((get_or xs k d).outlet, left k d from)
]

-- workers that got or lost spare pages
pub spare_self : {F : Type 0} (a : Worker F) → SameButSparePages a a
spare_self a = record { source = refl; seat = refl; results = refl; loads = refl; pages = refl; counter = refl }

pub spare_then : {F : Type 0} (a b c : Worker F) → SameButSparePages a b → SameButSparePages b c → SameButSparePages a c
spare_then a b c p q = record {
  source = q.source ∙ p.source;
  seat = q.seat ∙ p.seat;
  results = q.results ∙ p.results;
  loads = q.loads ∙ p.loads;
  pages = q.pages ∙ p.pages;
  counter = q.counter ∙ p.counter;
}

pub spare_set : {F : Type 0} (xs ws : List (Worker F)) (i : ℕ) (inside : i < length ws) (e v : Worker F) → SameButSparePages (get_or ws i e) v → i < length xs
    → ((k : ℕ) (d : Worker F) → k < length xs → SameButSparePages (get_or xs k d) (get_or ws k d)) → (k : ℕ) (d : Worker F) → k < length xs → SameButSparePages (get_or xs k d) (get_or (set ws i v) k d)
spare_set xs ws i inside e v new among was k d lt = dite (ℕ_discrete k i)
    (λ eq. subst (λ (j : ℕ). SameButSparePages (get_or xs j d) (get_or (set ws i v) j d)) (sym eq)
    (subst (λ y. SameButSparePages (get_or xs i d) y) (sym (get_or-set_same ws i v d inside))
    (spare_then (get_or xs i d) (get_or ws i d) v (was i d among) (subst (λ y. SameButSparePages y v) (same_default ws i e d inside) new))))
    (λ other. subst (λ y. SameButSparePages (get_or xs k d) y) (sym (get_or-set_other ws i k v d other)) (was k d lt))
