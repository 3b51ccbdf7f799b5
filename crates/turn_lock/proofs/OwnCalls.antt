-- A number's own calls.
use Rattle.std.proofs.Common.{◌≡◌, ◌≢◌, ℕ, eqb, ◌<◌, ◌≤◌, List, [], ◌∷◌, ◌++◌, refl, ap, sym, ◌∙◌, subst, arith, append_assoc, append-nil, eq-eqb, ne_eqb}
use Rattle.std.proofs.lemmas.List.Elements.{filter-append}
use mathlib.Core.List.{IsPrefix}
use Rattle.cache_core.specs.declared.calls.Call.{Call}
use Rattle.cache_core.specs.Histories.{own, AreOf}
use Rattle.turn_lock.specs.Histories.{AllMade}

pub own-append : (n : ℕ) (xs ys : List Call) → own n (xs ++ ys) ≡ own n xs ++ own n ys
own-append n xs ys = filter-append (λ (c : Call). eqb c.seat n) xs ys

-- of another seat's calls none is a number's own
pub own_others : (n m : ℕ) (calls : List Call) → AreOf m calls → n ≢ m → own n calls ≡ []
own_others n m [] of other = refl
own_others n m (c ∷ calls) of other = let not : c.seat ≢ n = λ e. other (sym e ∙ of.0) in rw (ne_eqb c.seat n not) (own_others n m calls of.1 other)

-- more calls of another seat
pub own_grew : (n m : ℕ) (xs calls : List Call) → AreOf m calls → n ≢ m → own n (xs ++ calls) ≡ own n xs
own_grew n m xs calls of other = own-append n xs calls ∙ ap (λ l. own n xs ++ l) (own_others n m calls of other) ∙ append-nil (own n xs)

pub made-append : (n : ℕ) (xs ys : List Call) → AllMade n xs → AllMade n ys → AllMade n (xs ++ ys)
made-append n [] ys p q = q
made-append n (x ∷ xs) ys p q = (p.0, made-append n xs ys p.1 q)

-- the calls of a number that was made
pub made_of : (n m : ℕ) (calls : List Call) → m < n → AreOf m calls → AllMade n calls
made_of n m [] lt of = tt
made_of n m (c ∷ calls) lt of = (let is = of.0 in omega arith, made_of n m calls lt of.1)

pub made_prefix : (n : ℕ) (xs ys : List Call) → AllMade n (xs ++ ys) → AllMade n xs
made_prefix n [] ys p = tt
made_prefix n (x ∷ xs) ys p = (p.0, made_prefix n xs ys p.1)

pub made_back : (n : ℕ) (xs ys : List Call) → AllMade n (xs ++ ys) → AllMade n ys
made_back n [] ys p = p
made_back n (x ∷ xs) ys p = made_back n xs ys p.1

pub made_up : (n m : ℕ) (xs : List Call) → n ≤ m → AllMade n xs → AllMade m xs
made_up n m [] le p = tt
made_up n m (x ∷ xs) le p = (let q = p.0 in omega arith, made_up n m xs le p.1)

-- a number that was not made has no calls
pub none_own : (n m : ℕ) (xs : List Call) → AllMade n xs → n ≤ m → own m xs ≡ []
none_own n m [] p le = refl
none_own n m (x ∷ xs) p le = let q : x.seat < n = p.0 in let not : x.seat ≢ m = λ e. omega arith in rw (ne_eqb x.seat m not) (none_own n m xs p.1 le)

-- where no made number has a call, there is none
pub nobody : (n : ℕ) (xs : List Call) → AllMade n xs → ((m : ℕ) → m < n → own m xs ≡ []) → xs ≡ []
nobody n [] p none = refl
nobody n (x ∷ xs) p none = let h : own x.seat (x ∷ xs) ≡ [] = none x.seat p.0 in let k : own x.seat (x ∷ xs) ≡ x ∷ own x.seat xs = rw (eq-eqb x.seat x.seat refl) in absurd (cc (h, k))

pub append_same : {A : Type 0} (xs ys : List A) → xs ++ ys ≡ xs → ys ≡ []
append_same [] ys e = e
append_same (x ∷ xs) ys e = append_same xs ys (cc (e))

-- a beginning that has every made number's calls is the whole
pub prefix_all : (n : ℕ) (xs ys : List Call) → IsPrefix xs ys → AllMade n ys → ((m : ℕ) → m < n → own m xs ≡ own m ys) → xs ≡ ys
prefix_all n xs ys p made same =
    let none : (m : ℕ) → m < n → own m p.0 ≡ [] = λ m lt. append_same (own m xs) (own m p.0) (sym (own-append m xs p.0) ∙ (ap (own m) p.1 ∙ sym (same m lt))) in
    let e : p.0 ≡ [] = nobody n p.0 (made_back n xs p.0 (subst (AllMade n) (sym p.1) made)) none in
    sym (append-nil xs) ∙ (ap (λ l. xs ++ l) (sym e) ∙ p.1)

-- where a beginning has all calls of a number, so has what lies between it and the whole
pub own_between : (n : ℕ) (xs ys zs : List Call) → IsPrefix xs ys → IsPrefix ys zs → own n xs ≡ own n zs → own n ys ≡ own n zs
own_between n xs ys zs p q same =
    let r : own n xs ++ own n p.0 ≡ own n ys = sym (own-append n xs p.0) ∙ ap (own n) p.1 in
    let s : own n ys ++ own n q.0 ≡ own n zs = sym (own-append n ys q.0) ∙ ap (own n) q.1 in
    let t : own n xs ++ (own n p.0 ++ own n q.0) ≡ own n xs = sym (append_assoc (own n xs) (own n p.0) (own n q.0)) ∙ (ap (λ l. l ++ own n q.0) r ∙ (s ∙ sym same)) in
    let none : own n p.0 ≡ [] = prefix_none (own n p.0) (own n q.0) (append_same (own n xs) (own n p.0 ++ own n q.0) t) in
    sym r ∙ (ap (λ l. own n xs ++ l) none ∙ (append-nil (own n xs) ∙ same))
  where
    prefix_none : (xs bs : List Call) → xs ++ bs ≡ [] → xs ≡ []
    prefix_none [] bs e = refl
    prefix_none (x ∷ xs) bs e = absurd (cc (e))
