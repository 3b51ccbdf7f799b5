-- A turn in which hits were noted: what the value that was taken and the value that is given say of
-- the seat's history.
use Rattle.std.proofs.Common.{◌≡◌, ℕ, ◌+◌, List, [], ◌∷◌, ◌++◌, Option, Some, None, Result, Ok, Err, OnOk, OnErr, refl, sym, ap, ◌∙◌, subst}
use Rattle.std.proofs.lemmas.List.{append-nil}
use mathlib.Core.List.{IsPrefix}
use Rattle.outside.specs.declared.keys.FontKey.{FontKey}
use Rattle.cache_core.specs.declared.calls.Call.{Call}
use Rattle.cache_core.specs.declared.common.Common.{Common}
use Rattle.cache_core.specs.declared.limits.Limits.{Limits}
use Rattle.cache_core.specs.Histories.{own, open_claim, open_from, left_by, AreOf}
use Rattle.cache_core.specs.Hits.{hits, TakesAll, NotedHits, FirstIsMissing}
use Rattle.cache_core.specs.Laws.{OwnsAreJoined, OwnsAreHistory}
use Rattle.cache_core.specs.Machine.{Machine, empty, machine_after}
use Rattle.cache_core.specs.States.{Cache, machine, IsReached, StateStands, limits_of}
use Rattle.cache_core.specs.Views.{weighed}
use Rattle.turn_lock.specs.declared.view.View.{View}
use Rattle.turn_lock.specs.Histories.{Grows}
use Rattle.font_cache.specs.Turns.{NotedLooks, StopsAtMissing}
use Rattle.font_cache.proofs.Turns.{longer_begins}

pub are_of : (n : ℕ) (keys : List FontKey) → AreOf n (hits n keys)
are_of n [] = tt
are_of n (k ∷ keys) = (refl, are_of n keys)

open_joined : (claim : Option FontKey) (xs ys : List Call) → open_from claim (xs ++ ys) ≡ open_from (open_from claim xs) ys
open_joined claim [] ys = refl
open_joined claim (c ∷ xs) ys = open_joined (left_by c.key c.done) xs ys

-- hits leave no claim
open_hits : (n : ℕ) (keys : List FontKey) → open_claim (hits n keys) ≡ None
open_hits n [] = refl
open_hits n (k ∷ keys) = open_hits n keys

module _ {T E : Type 0} (weighs : T → ℕ) (before after : Cache T) (m : ℕ) (keys left : List FontKey) {R : Type 0} (P : Type 0) (result : Result R E)
    (noted : OnOk result (NotedHits before.limits m (machine weighs before) (machine weighs after) before.history after.history keys left))
    (refused : OnErr result ((after ≡ record before { turns = before.turns + 1 }) × P)) where
  -- the history goes on from what the seat had seen
  pub hits_begin : (seen : List Call) → IsPrefix seen before.history → IsPrefix seen after.history
  hits_begin seen begins = (elim result as (λ r. OnOk r (NotedHits before.limits m (machine weighs before) (machine weighs after) before.history after.history keys left)
      → OnErr r ((after ≡ record before { turns = before.turns + 1 }) × P) → IsPrefix seen after.history) [
        | Ok x ↦ λ h e. longer_begins seen before.history after.history (hits m h.noted) begins h.history_grew
        | Err x ↦ λ h e. subst (IsPrefix seen) (sym (ap (λ c. c.history) e.0)) begins
      ]) noted refused

  -- it grew by calls of the seat
  pub hits_grow : (n : ℕ) → m ≡ n → Grows n before.history after.history
  hits_grow n number = (elim result as (λ r. OnOk r (NotedHits before.limits m (machine weighs before) (machine weighs after) before.history after.history keys left)
      → OnErr r ((after ≡ record before { turns = before.turns + 1 }) × P) → Grows n before.history after.history) [
        | Ok x ↦ λ h e. (hits n h.noted, are_of n h.noted, h.history_grew ∙ ap (λ (j : ℕ). before.history ++ hits j h.noted) number)
        | Err x ↦ λ h e. ([], tt, ap (λ c. c.history) e.0 ∙ sym (append-nil before.history))
      ]) noted refused

module _ {T : Type 0} (weighs : T → ℕ) (before after : Cache T) (keys left : List FontKey) where
  -- the first key that is left isn't resident in the state that the history has led to
  pub stops_at : (now : View) → after.limits ≡ limits_of now.part → now.seen ≡ after.history → IsReached weighs after
      → FirstIsMissing left (weighed weighs after.fonts) → StopsAtMissing left now
  stops_at now limits seen reached missing state h =
      let there : machine_after (limits_of now.part) empty now.seen ≡ Some (machine weighs after) = (λ i. machine_after (sym limits i) empty (seen i)) ∙ reached in
      let same : machine weighs after ≡ state = cc (there, h) in
      subst (λ (m : Machine). FirstIsMissing left m.resident) same missing

  pub noted_looks : OwnsAreJoined → OwnsAreHistory → (stands_for : T → FontKey → Common → Type 0) (m : ℕ) (s t : View) (number : m ≡ s.number)
      → StateStands stands_for weighs before s.part → IsPrefix s.seen before.history → own s.number before.history ≡ own s.number s.seen → t.seen ≡ after.history
      → open_claim (own s.number s.seen) ≡ None
      → NotedHits before.limits m (machine weighs before) (machine weighs after) before.history after.history keys left → NotedLooks keys left s t
  noted_looks joined alone stands_for m s t number stood begins same now free h =
      let n = s.number in
      let calls = hits n h.noted in
      let is : t.seen ≡ before.history ++ calls = now ∙ (h.history_grew ∙ ap (λ (j : ℕ). before.history ++ hits j h.noted) number) in
      let grew : own n t.seen ≡ own n s.seen ++ calls = ap (own n) is ∙ (joined n before.history calls ∙ (ap (λ (l : List Call). own n before.history ++ l) (alone n calls (are_of n h.noted)) ∙ ap (λ (l : List Call). l ++ calls) same)) in
      record {
        noted = h.noted;
        taken_out = h.taken_out;
        last = record {
          log = before.history;
          begins = begins;
          state = machine weighs before;
          reached = subst (λ (l : Limits). machine_after l empty before.history ≡ Some (machine weighs before)) stood.limits stood.reached;
          later = machine weighs after;
          taken = subst (λ (l : Limits). TakesAll l (machine weighs before) (machine weighs after) calls) stood.limits (subst (λ (j : ℕ). TakesAll before.limits (machine weighs before) (machine weighs after) (hits j h.noted)) number h.taken);
          ends = is;
        };
        claim = ap open_claim grew ∙ (open_joined None (own n s.seen) calls ∙ (ap (λ (o : Option FontKey). open_from o calls) free ∙ open_hits n h.noted));
        own = grew;
      }

  -- the same, where the hits may be refused
  pub looks_noted : OwnsAreJoined → OwnsAreHistory → (stands_for : T → FontKey → Common → Type 0) (m : ℕ) (s t : View) (number : m ≡ s.number)
      → StateStands stands_for weighs before s.part → IsPrefix s.seen before.history → own s.number before.history ≡ own s.number s.seen → t.seen ≡ after.history
      → open_claim (own s.number s.seen) ≡ None → {R E : Type 0} (result : Result R E)
      → OnOk result (NotedHits before.limits m (machine weighs before) (machine weighs after) before.history after.history keys left) → OnOk result (NotedLooks keys left s t)
  looks_noted joined alone stands_for m s t number stood begins same now free (Ok x) h = noted_looks joined alone stands_for m s t number stood begins same now free h
  looks_noted joined alone stands_for m s t number stood begins same now free (Err e) h = tt

  pub stops_if : (now : View) (part : Common) → after.limits ≡ limits_of part → now.part ≡ part → now.seen ≡ after.history → IsReached weighs after → {R E : Type 0} (result : Result R E)
      → OnOk result (FirstIsMissing left (weighed weighs after.fonts)) → OnOk result (StopsAtMissing left now)
  stops_if now part limits same seen reached (Ok x) h = stops_at now (limits ∙ ap limits_of (sym same)) seen reached h
  stops_if now part limits same seen reached (Err e) h = tt
