-- How often a key is claimed.
use Rattle.std.proofs.Common.{◌≡◌, ◌⊎◌, ℕ, ◌+◌, ◌≤◌, leb, Bool, true, false, cond, not, ◌&&◌, ◌||◌, List, [], ◌∷◌, filter, length, Some, nat_eq, refl, sym, ap, ◌∙◌, subst, inl, inr, arith}
use Rattle.std.specs.Prelude.{IsSome}
use Rattle.std.specs.List.{list_any}
use Rattle.std.specs.Option.{is_some}
use Rattle.std.specs.Map.{remove_entry}
use Rattle.std.proofs.lemmas.Bool.{and_parts}
use Rattle.outside.specs.declared.keys.FontKey.{FontKey}
use Rattle.cache_core.specs.declared.calls.Call.{Call}
use Rattle.cache_core.specs.declared.calls.Done.{Done}
use Rattle.cache_core.specs.declared.calls.Done.TheVariants.{Hit, Claimed, Busy, Filled, Released}
use Rattle.cache_core.specs.declared.limits.Limits.{Limits}
use Rattle.cache_core.specs.Machine.{Machine, empty, key_eq, option_key_eq, has_key, claims_key, claim_of, keys_eq, kept_of, gone_of, allows, allows_done, next, changed_by, machine_after}
use Rattle.cache_core.specs.Laws.{ClaimsAreFew, claims_it, frees_it, leaves_by, is_claim, is_not_kept, is_release}
use Rattle.cache_core.proofs.SameKeys.{keys_are_equal}
use Rattle.cache_core.proofs.Resident.{has_forward, keys_same, kept_or_gone}
use Rattle.cache_core.proofs.Sound.{by_test, not_true, the_key, both_true, either, second_true}

one : Bool → ℕ
one b = cond b 1 0

weigh : (a b d e : Bool) → (a ≡ true → (b ≡ false) × (e ≡ true)) → (a ≡ false → b ≡ true → (d ≡ true) ⊎ (e ≡ true)) → one a + one b ≤ one d + one e
unfolding one
weigh true true d e p q = absurd (let h = (p refl).0 in cc)
weigh true false true e p q = rw (p refl).1 (omega arith)
weigh true false false e p q = rw (p refl).1 (omega arith)
weigh false false d e p q = omega arith
weigh false true true e p q = omega arith
weigh false true false true p q = omega arith
weigh false true false false p q = elim (q refl refl) [ inl h ↦ absurd cc | inr h ↦ absurd cc ]

at_most_one : (b : Bool) → one b ≤ 1
unfolding one
at_most_one true = omega arith
at_most_one false = omega arith

counted : (p : Call → Bool) (c : Call) (cs : List Call) → length (filter p (c ∷ cs)) ≡ one (p c) + length (filter p cs)
unfolding one
counted p c cs = by_test (p c) (λ t. rw t (omega arith)) (λ t. rw t (omega arith))

pub first_true : (a b : Bool) → a ≡ true → (a || b) ≡ true
first_true a b h = rw h refl

-- ---- what stays

claims_kept : (s : ℕ) (k j : FontKey) (cs : List (ℕ × FontKey)) → claim_of s cs ≡ Some j → key_eq k j ≡ false → claims_key k cs ≡ true → claims_key k (remove_entry (nat_eq s) cs) ≡ true
claims_kept s k j [] at_ apart h = absurd cc
claims_kept s k j (c ∷ cs) at_ apart h = by_test (nat_eq s c.0)
    (λ e. rw e (elim (either (key_eq k c.1) (claims_key k cs) h) [
      | inl here ↦ let a = rw e at at_ in let same : c.1 ≡ j = cc in absurd (both_true (key_eq k j) (subst (λ y. key_eq k y ≡ true) same here) apart)
      | inr there ↦ there
    ]))
    (λ e. rw e (elim (either (key_eq k c.1) (claims_key k cs) h) [
      | inl here ↦ first_true (key_eq k c.1) (claims_key k (remove_entry (nat_eq s) cs)) here
      | inr there ↦ second_true (key_eq k c.1) (claims_key k (remove_entry (nat_eq s) cs)) (claims_kept s k j cs (rw e at at_) apart there)
    ]))

-- ---- one call

present : FontKey → Machine → Bool
present k m = has_key k m.resident || claims_key k m.claims

abbrev Weighed : FontKey → Limits → Machine → ℕ → FontKey → Done → Type 0
Weighed k limits m seat j d =
    ((key_eq k j && is_claim d ≡ true → (present k m ≡ false) × (present k (changed_by limits m seat j d) ≡ true))
    × (present k m ≡ true → ((leaves_by k d || (key_eq k j && (is_not_kept d || is_release d))) ≡ true) ⊎ (present k (changed_by limits m seat j d) ≡ true)))

no_claim_here : {P : Type 0} (b : Bool) → b && false ≡ true → P
no_claim_here b h = let parts = and_parts b false h in let f = parts.1 in absurd cc

neither : (a b : Bool) → a ≡ false → b ≡ false → (a || b) ≡ false
neither a b p q = rw (p, q) refl

weighed : (k : FontKey) (limits : Limits) (m : Machine) (seat : ℕ) (j : FontKey) (d : Done) → allows_done limits m seat j d ≡ true → Weighed k limits m seat j d
unfolding present
weighed k limits m seat j Hit h = (
  λ t. no_claim_here (key_eq k j) t,
  λ t. inr (ap (λ b. b || claims_key k m.claims) (has_forward k j m.resident) ∙ t),
)
weighed k limits m seat j Busy h = (λ t. no_claim_here (key_eq k j) t, λ t. inr t)
weighed k limits m seat j Claimed h =
    let two = and_parts (not (is_some (claim_of seat m.claims)) && not (has_key j m.resident)) (not (claims_key j m.claims)) h in
    let parts = and_parts (not (is_some (claim_of seat m.claims))) (not (has_key j m.resident)) two.0 in (
      λ t. let key = (and_parts (key_eq k j) true t).0 in (
        subst (λ x. (has_key x m.resident || claims_key x m.claims) ≡ false) (sym (keys_are_equal k j key))
            (neither (has_key j m.resident) (claims_key j m.claims) (not_true (has_key j m.resident) parts.1) (not_true (claims_key j m.claims) two.1)),
        second_true (has_key k m.resident) (key_eq k j || claims_key k m.claims) (first_true (key_eq k j) (claims_key k m.claims) key),
      ),
      λ t. inr (elim (either (has_key k m.resident) (claims_key k m.claims) t) [
        | inl here ↦ first_true (has_key k m.resident) (key_eq k j || claims_key k m.claims) here
        | inr there ↦ second_true (has_key k m.resident) (key_eq k j || claims_key k m.claims) (second_true (key_eq k j) (claims_key k m.claims) there)
      ]),
    )
weighed k limits m seat j (Filled w false gone) h =
    let one = and_parts (option_key_eq (claim_of seat m.claims) (Some j) && not (leb w limits.budget)) (keys_eq gone []) h in
    let holds = the_key (claim_of seat m.claims) j (and_parts (option_key_eq (claim_of seat m.claims) (Some j)) (not (leb w limits.budget)) one.0).0 in (
      λ t. no_claim_here (key_eq k j) t,
      λ t. by_test (key_eq k j)
          (λ same. inl (second_true (list_any (key_eq k) gone) (key_eq k j && true) (rw same refl)))
          (λ other. inr (elim (either (has_key k m.resident) (claims_key k m.claims) t) [
            | inl here ↦ first_true (has_key k m.resident) (claims_key k (remove_entry (nat_eq seat) m.claims)) here
            | inr claimed ↦ second_true (has_key k m.resident) (claims_key k (remove_entry (nat_eq seat) m.claims)) (claims_kept seat k j m.claims holds other claimed)
          ])),
    )
weighed k limits m seat j (Filled w true gone) h =
    let one = and_parts (option_key_eq (claim_of seat m.claims) (Some j) && leb w limits.budget) (keys_eq gone (gone_of limits ((j, w) ∷ m.resident))) h in
    let holds = the_key (claim_of seat m.claims) j (and_parts (option_key_eq (claim_of seat m.claims) (Some j)) (leb w limits.budget) one.0).0 in
    let is : gone ≡ gone_of limits ((j, w) ∷ m.resident) = keys_same gone (gone_of limits ((j, w) ∷ m.resident)) one.1 in
    let stays : has_key k ((j, w) ∷ m.resident) ≡ true
    → ((list_any (key_eq k) gone || (key_eq k j && false)) ≡ true) ⊎ ((has_key k (kept_of limits ((j, w) ∷ m.resident)) || claims_key k (remove_entry (nat_eq seat) m.claims)) ≡ true) =
    λ there. elim (kept_or_gone limits k ((j, w) ∷ m.resident) there) [
      | inl front ↦ inr (first_true (has_key k (kept_of limits ((j, w) ∷ m.resident))) (claims_key k (remove_entry (nat_eq seat) m.claims)) front)
      | inr last ↦ inl (first_true (list_any (key_eq k) gone) (key_eq k j && false) (ap (list_any (key_eq k)) is ∙ last))
    ] in (
      λ t. no_claim_here (key_eq k j) t,
      λ t. by_test (key_eq k j)
          (λ same. stays (first_true (key_eq k j) (has_key k m.resident) same))
          (λ other. elim (either (has_key k m.resident) (claims_key k m.claims) t) [
            | inl here ↦ stays (second_true (key_eq k j) (has_key k m.resident) here)
            | inr claimed ↦ inr (second_true (has_key k (kept_of limits ((j, w) ∷ m.resident))) (claims_key k (remove_entry (nat_eq seat) m.claims)) (claims_kept seat k j m.claims holds other claimed))
          ]),
    )
weighed k limits m seat j Released h =
    let holds = the_key (claim_of seat m.claims) j h in (
      λ t. no_claim_here (key_eq k j) t,
      λ t. by_test (key_eq k j)
          (λ same. inl (rw same refl))
          (λ other. inr (elim (either (has_key k m.resident) (claims_key k m.claims) t) [
            | inl here ↦ first_true (has_key k m.resident) (claims_key k (remove_entry (nat_eq seat) m.claims)) here
            | inr claimed ↦ second_true (has_key k m.resident) (claims_key k (remove_entry (nat_eq seat) m.claims)) (claims_kept seat k j m.claims holds other claimed)
          ])),
    )

-- ---- all calls

few_from : (k : FontKey) (limits : Limits) (m : Machine) (calls : List Call) → IsSome (machine_after limits m calls)
    → length (filter (claims_it k) calls) + one (present k m) ≤ length (filter (frees_it k) calls) + 1
few_from k limits m [] h = let most = at_most_one (present k m) in omega arith
few_from k limits m (c ∷ calls) h = by_test (allows limits m c)
    (λ t.
    let w = weighed k limits m c.seat c.key c.done t in
    let step = weigh (claims_it k c) (present k m) (frees_it k c) (present k (next limits m c)) w.0 (λ f. w.1) in
    let rest = few_from k limits (next limits m c) calls (rw t at h) in
    let first = counted (claims_it k) c calls in
    let second = counted (frees_it k) c calls in
    omega arith)
    (λ t. let h' = rw t at h in absurd cc)

pub claims_are_few : ClaimsAreFew
claims_are_few limits history h k =
    let all = few_from k limits empty history h in omega arith
