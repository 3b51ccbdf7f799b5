-- Bytes that a failed call left as they were.
use Rattle.std.proofs.Common.{◌≡◌, ◌∙◌, ◌++◌, ℕ, List, take, append-nil, Option, Some, None, refl, sym, ap}
use Rattle.std.specs.Io.KnownBytes.{Appends, Consumes, Keeps}

pub keeps_same : (a : Option (List ℕ)) → Keeps a a
keeps_same None = tt
keeps_same (Some xs) = refl

pub keeps_twice : (a b c : Option (List ℕ)) → Keeps a b → Keeps b c → Keeps a c
keeps_twice None b c k l = tt
keeps_twice (Some xs) None c k l = absurd k
keeps_twice (Some xs) (Some ys) None k l = absurd l
keeps_twice (Some xs) (Some ys) (Some zs) k l = l ∙ k

pub consumes_kept : (a b c : Option (List ℕ)) (bs : List ℕ) → Keeps a b → Consumes b c bs → Consumes a c bs
consumes_kept None b c bs k h = tt
consumes_kept (Some xs) None c bs k h = absurd k
consumes_kept (Some xs) (Some ys) None bs k h = absurd h
consumes_kept (Some xs) (Some ys) (Some zs) bs k h = sym k ∙ h

pub appends_kept : (a b c : Option (List ℕ)) (bs : List ℕ) → Keeps a b → Appends b c bs → Appends a c bs
appends_kept None b c bs k h = tt
appends_kept (Some xs) None c bs k h = absurd k
appends_kept (Some xs) (Some ys) None bs k h = absurd h
appends_kept (Some xs) (Some ys) (Some zs) bs k h = h ∙ ap (λ w. w ++ bs) k

-- what took no byte was left as it was
pub keeps_none : (a b : Option (List ℕ)) (n : ℕ) (bs : List ℕ) → n ≡ 0 → Appends a b (take n bs) → Keeps a b
keeps_none None b n bs none h = tt
keeps_none (Some xs) None n bs none h = absurd h
keeps_none (Some xs) (Some ys) n bs none h = h ∙ (ap (λ k. xs ++ take k bs) none ∙ append-nil xs)
