-- What a look is answered: exactly one of three.
use Rattle.std.proofs.Common.{◌≡◌, ◌≢◌, ℕ, true, false, not, List, [], ◌∷◌, Some, None, nat_eq, refl, sym, ap, ◌∙◌, subst, inl, inr, true≢false}
use Rattle.std.proofs.lemmas.Bool.{and_parts, eqb-true, eq-eqb}
use Rattle.outside.specs.declared.keys.FontKey.{FontKey}
use Rattle.cache_core.specs.Machine.{Machine, key_eq, has_key, claims_key, claim_of}
use Rattle.cache_core.specs.Laws.{IsClaimedByAnother, LooksAreAnswered}
use Rattle.cache_core.proofs.SameKeys.{keys_are_equal}
use Rattle.cache_core.proofs.Sound.{Alone, by_test, either, never, not_true, claimed_of, sound_after}

-- a claimed key is the claim of a seat
claimant : (k : FontKey) (cs : List (ℕ × FontKey)) → Alone cs → claims_key k cs ≡ true → (other : ℕ) × (claim_of other cs ≡ Some k)
claimant k [] h t = absurd cc
claimant k (c ∷ cs) h t = elim (either (key_eq k c.1) (claims_key k cs) t) [
  | inl same ↦ (c.0, rw (eq-eqb c.0 c.0 refl) (ap Some (sym (keys_are_equal k c.1 same))))
  | inr more ↦ let o = claimant k cs h.2 more in (
    o.0,
    by_test (nat_eq o.0 c.0)
        (λ e. let none = subst (λ s. claim_of s cs ≡ None) (sym (eqb-true o.0 c.0 e)) h.0 in absurd (cc (none, o.1)))
        (λ e. rw e o.1),
  )
]

module _ (m : Machine) (seat : ℕ) (k : FontKey) (free : claim_of seat m.claims ≡ None) where
  by_another : Alone m.claims → claims_key k m.claims ≡ true → IsClaimedByAnother m seat k
  by_another alone t = let o = claimant k m.claims alone t in (o.0, (λ same. let mine = subst (λ s. claim_of s m.claims ≡ Some k) same o.1 in absurd (cc (free, mine))), o.1)

  by_nobody : Alone m.claims → ((other : ℕ) → claim_of other m.claims ≢ Some k) → claims_key k m.claims ≡ false
  by_nobody alone none = never (claims_key k m.claims) (λ t. let o = claimant k m.claims alone t in none o.0 o.1)

  unclaimed : claims_key k m.claims ≡ false → (other : ℕ) → claim_of other m.claims ≢ Some k
  unclaimed f other holds = true≢false (sym (claimed_of other k m.claims holds) ∙ f)

pub looks_are_answered : LooksAreAnswered
looks_are_answered limits history m is seat k free =
    let alone = (sound_after limits m history is).alone in
    record {
      hit = (λ t. rw free at t, λ t. rw free t);
      busy = (
        λ t. let two = and_parts (not (has_key k m.resident)) (claims_key k m.claims) (rw free at t) in (not_true (has_key k m.resident) two.0, by_another m seat k free alone two.1),
        λ h. rw (free, h.0, claimed_of h.1.0 k m.claims h.1.2) refl,
      );
      claimed = (
        λ t. let two = and_parts (not (has_key k m.resident)) (not (claims_key k m.claims)) (rw free at t) in
            (not_true (has_key k m.resident) two.0, unclaimed m seat k free (not_true (claims_key k m.claims) two.1)),
        λ h. rw (free, h.0, by_nobody m seat k free alone h.1) refl,
      );
    }
