-- A seat's claim, by its own calls.
use Rattle.std.proofs.Common.{◌≡◌, ℕ, Bool, true, false, cond, not, ◌&&◌, List, [], ◌∷◌, Some, None, nat_eq, eqb, refl, sym, ap, ◌∙◌, subst}
use Rattle.std.specs.Option.{is_some}
use Rattle.std.specs.Map.{remove_entry}
use Rattle.std.proofs.lemmas.Bool.{and_parts, eqb-true, eq-eqb}
use Rattle.outside.specs.declared.keys.FontKey.{FontKey}
use Rattle.cache_core.specs.declared.calls.Call.{Call}
use Rattle.cache_core.specs.declared.calls.Done.{Done}
use Rattle.cache_core.specs.declared.calls.Done.TheVariants.{Hit, Claimed, Busy, Filled, Released}
use Rattle.cache_core.specs.declared.limits.Limits.{Limits}
use Rattle.cache_core.specs.Machine.{Machine, empty, has_key, claims_key, claim_of, allows, allows_done, next, changed_by, machine_after}
use Rattle.cache_core.specs.Histories.{own, left_by, open_from}
use Rattle.cache_core.specs.Laws.{ClaimsAreOwn}
use Rattle.cache_core.proofs.Sound.{Sound, Alone, by_test, not_true, nothing, sound_next}

no_more : (n : ℕ) (cs : List (ℕ × FontKey)) → Alone cs → claim_of n (remove_entry (nat_eq n) cs) ≡ None
no_more n [] h = refl
no_more n (c ∷ cs) h = by_test (nat_eq n c.0)
    (λ e. rw e (subst (λ s. claim_of s cs ≡ None) (sym (eqb-true n c.0 e)) h.0))
    (λ e. rw (e, e) (no_more n cs h.2))

others_stay : (n s : ℕ) (cs : List (ℕ × FontKey)) → eqb s n ≡ false → claim_of n (remove_entry (nat_eq s) cs) ≡ claim_of n cs
others_stay n s [] apart = refl
others_stay n s (c ∷ cs) apart = by_test (nat_eq s c.0)
    (λ e. let other : nat_eq n c.0 ≡ false = by_test (nat_eq n c.0)
    (λ t. let one : s ≡ n = eqb-true s c.0 e ∙ sym (eqb-true n c.0 t) in let both = eq-eqb s n one in absurd cc) (λ f. f) in rw (e, other) refl)
    (λ e. rw e (ap (λ o. cond (nat_eq n c.0) (Some c.1) o) (others_stay n s cs apart)))

other_claim : (n s : ℕ) → eqb s n ≡ false → nat_eq n s ≡ false
other_claim n s apart = by_test (nat_eq n s) (λ t. let both = eq-eqb s n (sym (eqb-true n s t)) in absurd cc) (λ f. f)

free_of : (seat : ℕ) (m : Machine) (rest : Bool) → not (is_some (claim_of seat m.claims)) && rest ≡ true → claim_of seat m.claims ≡ None
free_of seat m rest h = nothing (claim_of seat m.claims) (not_true (is_some (claim_of seat m.claims)) (and_parts (not (is_some (claim_of seat m.claims))) rest h).0)

after_own : (limits : Limits) (m : Machine) (seat : ℕ) (k : FontKey) (d : Done) → Sound m → allows_done limits m seat k d ≡ true
    → claim_of seat (changed_by limits m seat k d).claims ≡ left_by k d
after_own limits m seat k Hit s h = free_of seat m (has_key k m.resident) h
after_own limits m seat k Busy s h =
    free_of seat m (not (has_key k m.resident)) (and_parts (not (is_some (claim_of seat m.claims)) && not (has_key k m.resident)) (claims_key k m.claims) h).0
after_own limits m seat k Claimed s h = rw (eq-eqb seat seat refl) refl
after_own limits m seat k (Filled _ true _) s h = no_more seat m.claims s.alone
after_own limits m seat k (Filled _ false _) s h = no_more seat m.claims s.alone
after_own limits m seat k Released s h = no_more seat m.claims s.alone

after_other : (limits : Limits) (m : Machine) (seat n : ℕ) (k : FontKey) (d : Done) → eqb seat n ≡ false
    → claim_of n (changed_by limits m seat k d).claims ≡ claim_of n m.claims
after_other limits m seat n k Hit apart = refl
after_other limits m seat n k Busy apart = refl
after_other limits m seat n k Claimed apart = rw (other_claim n seat apart) refl
after_other limits m seat n k (Filled _ true _) apart = others_stay n seat m.claims apart
after_other limits m seat n k (Filled _ false _) apart = others_stay n seat m.claims apart
after_other limits m seat n k Released apart = others_stay n seat m.claims apart

own_from : (limits : Limits) (n : ℕ) (m last : Machine) (calls : List Call) → Sound m → machine_after limits m calls ≡ Some last
    → claim_of n last.claims ≡ open_from (claim_of n m.claims) (own n calls)
own_from limits n m last [] s h = let same : m ≡ last = cc in ap (λ (x : Machine). claim_of n x.claims) (sym same)
own_from limits n m last (c ∷ calls) s h = by_test (allows limits m c)
    (λ t. let rest = own_from limits n (next limits m c) last calls (sound_next limits m c s t) (rw t at h) in
    by_test (eqb c.seat n)
    (λ e. let one = eqb-true c.seat n e in
    rw e (rest ∙ ap (λ o. open_from o (own n calls)) (subst (λ j. claim_of j (next limits m c).claims ≡ left_by c.key c.done) one (after_own limits m c.seat c.key c.done s t))))
    (λ e. rw e (rest ∙ ap (λ o. open_from o (own n calls)) (after_other limits m c.seat n c.key c.done e))))
    (λ t. let h' = rw t at h in absurd cc)

pub claims_are_own : ClaimsAreOwn
claims_are_own limits history m h seat = own_from limits seat empty m history (record { alone = tt; apart = λ k claimed. absurd cc }) h
