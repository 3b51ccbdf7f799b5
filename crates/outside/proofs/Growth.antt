-- Bytes that are known grow in steps.
use Rattle.std.proofs.Common.{◌≡◌, ◌∙◌, ◌≤◌, ◌<◌, ◌+◌, ◌-◌, inl, inr, ◌++◌, ℕ, List, [], length, take, drop, arith, refl, sym, ap, subst, append_assoc, append-nil, Option, Some, None, Bool, true, Result}
use Rattle.std.specs.Prelude.{IsErr, is_err}
use Rattle.std.proofs.Math.Seq.{take-add, take-append-add}
use Rattle.std.proofs.lemmas.List.{take-append-le}
use Rattle.std.proofs.lemmas.Bool.{cases_lt}
use Rattle.std.proofs.lemmas.Grind.{common_steps}
use Rattle.std.specs.Io.KnownBytes.{Appends, Consumes, Keeps}
use Rattle.outside.specs.Counts.{HasCause, Rose}
use Rattle.outside.specs.Streams.{AppendsPrefix}

pub grown_twice : (a b c : Option (List ℕ)) (xs ys : List ℕ) → Appends a b xs → Appends b c ys → Appends a c (xs ++ ys)
grown_twice None b c xs ys p q = tt
grown_twice (Some x) None c xs ys p q = absurd p
grown_twice (Some x) (Some y) None xs ys p q = absurd q
grown_twice (Some x) (Some y) (Some z) xs ys p q = q ∙ ap (λ w. w ++ ys) p ∙ append_assoc x xs ys

pub grown_kept : (a b c : Option (List ℕ)) (xs : List ℕ) → Appends a b xs → Keeps b c → Appends a c xs
grown_kept None b c xs p q = tt
grown_kept (Some x) None c xs p q = absurd p
grown_kept (Some x) (Some y) None xs p q = absurd q
grown_kept (Some x) (Some y) (Some z) xs p q = q ∙ p

pub grown_none : (a : Option (List ℕ)) → Appends a a []
grown_none None = tt
grown_none (Some x) = sym (append-nil x)

pub taken_twice : (a b c : Option (List ℕ)) (xs ys : List ℕ) → Consumes a b xs → Consumes b c ys → Consumes a c (xs ++ ys)
taken_twice None b c xs ys p q = tt
taken_twice (Some x) None c xs ys p q = absurd p
taken_twice (Some x) (Some y) None xs ys p q = absurd q
taken_twice (Some x) (Some y) (Some z) xs ys p q = p ∙ ap (λ w. xs ++ w) q ∙ sym (append_assoc xs ys z)

pub taken_none : (a : Option (List ℕ)) → Consumes a a []
taken_none None = tt
taken_none (Some x) = refl

pub to_end : (xs : List ℕ) (n : ℕ) → take (length xs - n) (drop n xs) ≡ drop n xs
to_end xs n = grind (arith, common_steps)

-- a prefix of a text, and then a prefix of the rest
pub take_more : (xs : List ℕ) (at n : ℕ) → take at xs ++ take n (take (length xs - at) (drop at xs)) ≡ take (at + n) xs
take_more xs at n = ap (λ w. take at xs ++ take n w) (to_end xs at) ∙ sym (take-add at n xs)

-- ---- counts

pub rose_later : (a b c : ℕ) → a ≤ b → Rose b c → b ≤ c → Rose a c
rose_later a b c le (inl lt) later = inl (omega arith)
rose_later a b c le (inr e) later = inr e

pub rose_before : (a b c : ℕ) → a ≤ b → Rose a b → b ≤ c → Rose a c
rose_before a b c le (inl lt) later = inl (omega arith)
rose_before a b c le (inr e) later = elim (cases_lt b c) [ inl lt ↦ inl (omega arith) | inr ge ↦ let same : c ≡ b = omega arith in inr (same ∙ e) ]

pub caused_later : (a b c : ℕ) (failure : Type 0) → a ≤ b → HasCause b c failure → HasCause a c failure
caused_later a b c failure le h = record { never_falls = omega arith; rose = λ f. rose_later a b c le (h.rose f) h.never_falls }

pub caused_earlier : (a b c : ℕ) (failure : Type 0) → HasCause a b failure → b ≤ c → HasCause a c failure
caused_earlier a b c failure h le = let kept = h.never_falls in record { never_falls = omega (arith, kept); rose = λ f. rose_before a b c h.never_falls (h.rose f) le }

-- a write by one that had not failed
pub failed_now : {T E : Type 0} (r : Result T E) (a b c : ℕ) (failed failed2 : Bool) → failed2 ≡ is_err r
    → HasCause a b (failed ≡ true) → HasCause b c (IsErr r) → HasCause a c (failed2 ≡ true)
failed_now r a b c failed failed2 is p q =
    record { never_falls = omega (arith, p.never_falls, q.never_falls); rose = λ e. rose_later a b c p.never_falls (q.rose (sym is ∙ e)) q.never_falls }

-- ---- prefixes

pub prefix_of_more : (a b c : Option (List ℕ)) (xs ys : List ℕ) → Appends a b xs → AppendsPrefix b c ys → AppendsPrefix a c (xs ++ ys)
prefix_of_more a b c xs ys p q =
    let fits : q.0 < length ys = q.1 in
    (length xs + q.0, grind (arith, common_steps), subst (λ t. Appends a c t) (prefixes xs ys q.0) (grown_twice a b c xs (take q.0 ys) p q.2))
  where
    prefixes : (xs ys : List ℕ) (n : ℕ) → xs ++ take n ys ≡ take (length xs + n) (xs ++ ys)
    prefixes xs ys n = sym (take-append-add xs ys n)

pub prefix_of_first : (a b : Option (List ℕ)) (xs ys : List ℕ) → AppendsPrefix a b xs → AppendsPrefix a b (xs ++ ys)
prefix_of_first a b xs ys q =
    let fits : q.0 < length xs = q.1 in
    (q.0, grind (arith, common_steps), subst (λ t. Appends a b t) (prefixes xs ys q.0 (omega (arith, fits))) q.2)
  where
    prefixes : (xs ys : List ℕ) (n : ℕ) → n ≤ length xs → take n xs ≡ take n (xs ++ ys)
    prefixes xs ys n le = sym (take-append-le n xs ys le)
