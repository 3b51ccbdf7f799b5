-- In each state that a legal history leads to, no claimed key is resident, and no seat and no key
-- is claimed twice.
use Rattle.std.proofs.Common.{◌≡◌, ◌⊎◌, ℕ, zero, suc, leb, Bool, true, false, cond, not, ◌&&◌, ◌||◌, List, [], ◌∷◌, take, Option, Some, None, nat_eq, refl, sym, ap, ◌∙◌, subst, inl, inr, true≢false}
use Rattle.std.specs.Option.{is_some}
use Rattle.std.specs.Map.{remove_entry}
use Rattle.std.proofs.lemmas.Bool.{and_parts}
use Rattle.outside.specs.declared.keys.FontKey.{FontKey}
use Rattle.cache_core.specs.declared.calls.Call.{Call}
use Rattle.cache_core.specs.declared.calls.Done.{Done}
use Rattle.cache_core.specs.declared.calls.Done.TheVariants.{Hit, Claimed, Busy, Filled, Released}
use Rattle.cache_core.specs.declared.limits.Limits.{Limits}
use Rattle.cache_core.specs.Machine.{Machine, empty, key_eq, option_key_eq, keys_eq, has_key, claims_key, claim_of, stay, kept_of, gone_of, allows, allows_done, next, changed_by, machine_after}
use Rattle.cache_core.proofs.SameKeys.{keys_are_equal, key_is_itself}
use Rattle.cache_core.proofs.Resident.{has_forward}

abbrev Claims : Type 0
Claims = List (ℕ × FontKey)

-- each seat and each key once
abbrev pub Alone : List (ℕ × FontKey) → Type 0
Alone [] = Unit {0}
Alone (c ∷ cs) = (claim_of c.0 cs ≡ None) × (claims_key c.1 cs ≡ false) × Alone cs

pub record Sound (m : Machine) : Type 0 where
  pub alone : Alone m.claims
  pub apart : (k : FontKey) → claims_key k m.claims ≡ true → has_key k m.resident ≡ false

pub by_test : {P : Type 0} (b : Bool) → (b ≡ true → P) → (b ≡ false → P) → P
by_test {P} b here there = (elim b as (λ v. b ≡ v → P) [ true ↦ here | false ↦ there ]) refl

pub never : (b : Bool) → (b ≡ true → ⊥) → b ≡ false
never b refused = (elim b as (λ v. b ≡ v → v ≡ false) [ true ↦ λ t. absurd (refused t) | false ↦ λ t. refl ]) refl

pub both_true : (b : Bool) → b ≡ true → b ≡ false → ⊥
both_true b t f = true≢false (sym t ∙ f)

pub either : (a b : Bool) → (a || b) ≡ true → (a ≡ true) ⊎ (b ≡ true)
either true b h = inl refl
either false b h = inr h

pub second_true : (a b : Bool) → b ≡ true → (a || b) ≡ true
second_true true b h = refl
second_true false b h = h

pub not_true : (b : Bool) → not b ≡ true → b ≡ false
not_true true h = absurd cc
not_true false h = refl

pub nothing : {A : Type 0} (o : Option A) → is_some o ≡ false → o ≡ None
nothing None h = refl
nothing (Some x) h = absurd cc

pub the_key : (o : Option FontKey) (k : FontKey) → option_key_eq o (Some k) ≡ true → o ≡ Some k
the_key None k h = absurd cc
the_key (Some j) k h = ap Some (keys_are_equal j k h)

pub claimed_of : (s : ℕ) (k : FontKey) (cs : Claims) → claim_of s cs ≡ Some k → claims_key k cs ≡ true
claimed_of s k [] h = absurd cc
claimed_of s k (c ∷ cs) h = by_test (nat_eq s c.0)
    (λ t. let h' = rw t at h in let same : c.1 ≡ k = cc in rw same (rw (key_is_itself k) refl))
    (λ t. second_true (key_eq k c.1) (claims_key k cs) (claimed_of s k cs (rw t at h)))

kept_key : (a b : Bool) (x y : Bool) → (y ≡ true → x ≡ true) → cond b x (a || y) ≡ true → (a || x) ≡ true
kept_key true b x y h e = refl
kept_key false true x y h e = e
kept_key false false x y h e = h e

through : (k : FontKey) (b : Bool) (c : ℕ × FontKey) (cs ds : Claims) → claims_key k (cond b cs (c ∷ ds)) ≡ cond b (claims_key k cs) (key_eq k c.1 || claims_key k ds)
through k true c cs ds = refl
through k false c cs ds = refl

claims_less : (s : ℕ) (k : FontKey) (cs : Claims) → claims_key k (remove_entry (nat_eq s) cs) ≡ true → claims_key k cs ≡ true
claims_less s k [] h = h
claims_less s k (c ∷ cs) h = kept_key (key_eq k c.1) (nat_eq s c.0) (claims_key k cs) (claims_key k (remove_entry (nat_eq s) cs)) (claims_less s k cs)
    (sym (through k (nat_eq s c.0) c cs (remove_entry (nat_eq s) cs)) ∙ h)

no_claim : (s t : ℕ) (cs : Claims) → claim_of t cs ≡ None → claim_of t (remove_entry (nat_eq s) cs) ≡ None
no_claim s t [] h = h
no_claim s t (c ∷ cs) h = by_test (nat_eq t c.0)
    (λ here. let h' = rw here at h in absurd cc)
    (λ there. by_test (nat_eq s c.0) (λ e. rw e (rw there at h)) (λ e. rw (e, there) (no_claim s t cs (rw there at h))))

alone_less : (s : ℕ) (cs : Claims) → Alone cs → Alone (remove_entry (nat_eq s) cs)
alone_less s [] h = h
alone_less s (c ∷ cs) h = by_test (nat_eq s c.0)
    (λ e. rw e h.2)
    (λ e. rw e (no_claim s c.0 cs h.0, never (claims_key c.1 (remove_entry (nat_eq s) cs)) (λ t. both_true (claims_key c.1 cs) (claims_less s c.1 cs t) h.1), alone_less s cs h.2))

-- no other claim names the key of a claim
ended_key : (s : ℕ) (k : FontKey) (cs : Claims) → Alone cs → claim_of s cs ≡ Some k → claims_key k (remove_entry (nat_eq s) cs) ≡ false
ended_key s k [] h at_ = absurd cc
ended_key s k (c ∷ cs) h at_ = by_test (nat_eq s c.0)
    (λ e. let a = rw e at at_ in let same : c.1 ≡ k = cc in rw e (subst (λ j. claims_key j cs ≡ false) same h.1))
    (λ e. let rest : claim_of s cs ≡ Some k = rw e at at_ in
    rw e (never (key_eq k c.1 || claims_key k (remove_entry (nat_eq s) cs)) (λ t. elim (either (key_eq k c.1) (claims_key k (remove_entry (nat_eq s) cs)) t) [
      | inl same ↦ both_true (claims_key k cs) (claimed_of s k cs rest) (subst (λ j. claims_key j cs ≡ false) (sym (keys_are_equal k c.1 same)) h.1)
      | inr more ↦ both_true (claims_key k (remove_entry (nat_eq s) cs)) more (ended_key s k cs h.2 rest)
    ])))

pub keys_front : (k : FontKey) (n : ℕ) (keys : List (FontKey × ℕ)) → has_key k (take n keys) ≡ true → has_key k keys ≡ true
keys_front k zero keys h = absurd cc
keys_front k (suc n) [] h = absurd cc
keys_front k (suc n) (x ∷ keys) h = elim (either (key_eq k x.0) (has_key k (take n keys)) h) [
  | inl here ↦ rw here refl
  | inr there ↦ second_true (key_eq k x.0) (has_key k keys) (keys_front k n keys there)
]

sound_changed : (limits : Limits) (m : Machine) (seat : ℕ) (j : FontKey) (d : Done) → Sound m → allows_done limits m seat j d ≡ true → Sound (changed_by limits m seat j d)
sound_changed limits m seat j Hit s h =
    record {
      alone = s.alone;
      apart = λ k claimed. has_forward k j m.resident ∙ s.apart k claimed;
    }
sound_changed limits m seat j Busy s h = s
sound_changed limits m seat j Claimed s h =
    let two = and_parts (not (is_some (claim_of seat m.claims)) && not (has_key j m.resident)) (not (claims_key j m.claims)) h in
    let one = and_parts (not (is_some (claim_of seat m.claims))) (not (has_key j m.resident)) two.0 in
    record {
      alone = (nothing (claim_of seat m.claims) (not_true (is_some (claim_of seat m.claims)) one.0), not_true (claims_key j m.claims) two.1, s.alone);
      apart = λ k claimed. elim (either (key_eq k j) (claims_key k m.claims) claimed) [
        | inl same ↦ subst (λ x. has_key x m.resident ≡ false) (sym (keys_are_equal k j same)) (not_true (has_key j m.resident) one.1)
        | inr more ↦ s.apart k more
      ];
    }
sound_changed limits m seat j (Filled w false gone) s h = record {
  alone = alone_less seat m.claims s.alone;
  apart = λ k claimed. s.apart k (claims_less seat k m.claims claimed);
}
sound_changed limits m seat j (Filled w true gone) s h =
    let one = and_parts (option_key_eq (claim_of seat m.claims) (Some j) && leb w limits.budget) (keys_eq gone (gone_of limits ((j, w) ∷ m.resident))) h in
    let holds = the_key (claim_of seat m.claims) j (and_parts (option_key_eq (claim_of seat m.claims) (Some j)) (leb w limits.budget) one.0).0 in
    record {
      alone = alone_less seat m.claims s.alone;
      apart = λ k claimed. never (has_key k (kept_of limits ((j, w) ∷ m.resident))) (λ t. elim (either (key_eq k j) (has_key k m.resident) (keys_front k (stay limits ((j, w) ∷ m.resident)) ((j, w) ∷ m.resident) t)) [
        | inl same ↦ both_true (claims_key k (remove_entry (nat_eq seat) m.claims)) claimed
            (subst (λ x. claims_key x (remove_entry (nat_eq seat) m.claims) ≡ false) (sym (keys_are_equal k j same)) (ended_key seat j m.claims s.alone holds))
        | inr more ↦ both_true (has_key k m.resident) more (s.apart k (claims_less seat k m.claims claimed))
      ]);
    }
sound_changed limits m seat j Released s h = record {
  alone = alone_less seat m.claims s.alone;
  apart = λ k claimed. s.apart k (claims_less seat k m.claims claimed);
}

pub sound_next : (limits : Limits) (m : Machine) (c : Call) → Sound m → allows limits m c ≡ true → Sound (next limits m c)
sound_next limits m c s h = sound_changed limits m c.seat c.key c.done s h

sound_from : (limits : Limits) (m n : Machine) (calls : List Call) → Sound m → machine_after limits m calls ≡ Some n → Sound n
sound_from limits m n [] s h = let same : m ≡ n = cc in subst Sound same s
sound_from limits m n (c ∷ calls) s h = by_test (allows limits m c)
    (λ t. sound_from limits (next limits m c) n calls (sound_next limits m c s t) (rw t at h))
    (λ t. let h' = rw t at h in absurd cc)

pub sound_after : (limits : Limits) (n : Machine) (calls : List Call) → machine_after limits empty calls ≡ Some n → Sound n
sound_after limits n calls h = sound_from limits empty n calls (record { alone = tt; apart = λ k claimed. absurd cc }) h
