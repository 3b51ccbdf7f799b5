-- One turn at the cache: what the value that was taken and the call that was made say of the seat's
-- history.
use Rattle.std.proofs.Common.{◌≡◌, ℕ, ◌+◌, List, [], ◌∷◌, ◌++◌, Option, Some, None, IsSome, IsTrue, Result, Ok, Err, IfOk, OnErr, refl, sym, ap, ◌∙◌, subst, eq-eqb, append_assoc}
use Rattle.std.specs.declared.alloc.Global.{Global}
use Rattle.std.specs.declared.sync.Arc.{Arc}
use Rattle.std.proofs.lemmas.List.{append-nil}
use mathlib.Core.Option.{some}
use mathlib.Core.List.{IsPrefix}
use lib.ListN.{get_elem?}
use Rattle.outside.specs.declared.keys.FontKey.{FontKey}
use Rattle.cache_core.specs.declared.calls.Call.{Call}
use Rattle.cache_core.specs.declared.calls.Done.{Done}
use Rattle.cache_core.specs.declared.common.Common.{Common}
use Rattle.cache_core.specs.declared.entry.Fill.{Fill}
use Rattle.cache_core.specs.declared.entry.Filling.{Filling}
use Rattle.cache_core.specs.Histories.{own, open_claim}
use Rattle.cache_core.specs.Laws.{ClaimsAreOwn, OwnsAreJoined}
use Rattle.cache_core.specs.declared.limits.Limits.{Limits}
use Rattle.cache_core.specs.Machine.{Legal, claim_of, empty, machine_after, allows}
use Rattle.cache_core.specs.States.{Cache, machine, call, Takes, IsReached, StateStands, limits_of}
use Rattle.turn_lock.specs.declared.view.View.{View}
use Rattle.turn_lock.specs.Histories.{OwnsSame, Grows}
use Rattle.turn_lock.specs.Seats.{SeatView}
use Rattle.turn_lock.specs.Views.{view_with_turn, idle_view}
use Rattle.font_cache.specs.Turns.{SawMore, NotedCall, told_of}
use Rattle.font_cache.proofs.LastCalls.{open_last}

-- a seat's claim in the state is the one that its own calls have left to it
pub claim_is_own : ClaimsAreOwn → {T : Type 0} (stands_for : T → FontKey → Common → Type 0) (weighs : T → ℕ) (c : Cache T) (part : Common) (m n : ℕ) (seen : List Call) (claim : Option FontKey)
    → StateStands stands_for weighs c part → m ≡ n → own n c.history ≡ own n seen → open_claim (own n seen) ≡ claim → claim_of m c.claims ≡ claim
claim_is_own law stands_for weighs c part m n seen claim s number same e =
    subst (λ (j : ℕ). claim_of j c.claims ≡ claim) (sym number) (law c.limits c.history (machine weighs c) s.reached n ∙ (ap open_claim same ∙ e))

-- the history of a state that is reached is legal
pub is_legal : {T : Type 0} (weighs : T → ℕ) (c : Cache T) (limits : Limits) → IsReached weighs c → c.limits ≡ limits → Legal limits c.history
is_legal weighs c limits r e = subst (λ n. Legal n c.history) e (subst IsSome (sym r) refl)

-- ---- the seat

module _ (s u t : SeatView) (turns : ℕ) (log log' : List Call) (took : u.view ≡ view_with_turn s.view turns log) (gave : t.view ≡ idle_view u.view log') where
  -- a turn keeps what seat 0 knows of the numbers joined
  joined_same : (s.view.number ≡ 0 → OwnsSame s.view.joined log s.view.seen) → (u.view.number ≡ 0 → OwnsSame u.view.joined log' u.view.seen)
      → s.view.number ≡ 0 → OwnsSame s.view.joined t.view.seen s.view.seen
  joined_same first second zero i n there =
      let at_u : get_elem? u.view.joined i ≡ some n = ap (λ (v : View). get_elem? v.joined i) took ∙ there in
      ap (λ (v : View). own n v.seen) gave ∙ (second (ap (λ (v : View). v.number) took ∙ zero) i n at_u ∙ (ap (λ (v : View). own n v.seen) took ∙ first zero i n there))

  pub saw_more : {T : Type 0} (stands_for : T → FontKey → Common → Type 0) (weighs : T → ℕ) (before after : Cache T) → after.history ≡ log' → StateStands stands_for weighs before s.view.part → IsReached weighs after
      → after.limits ≡ before.limits → IsPrefix s.view.seen after.history
      → (s.view.number ≡ 0 → OwnsSame s.view.joined log s.view.seen) → (u.view.number ≡ 0 → OwnsSame u.view.joined log' u.view.seen) → SawMore s.view t.view
  saw_more stands_for weighs before after history stood reached limits begins first second =
      let now : t.view.seen ≡ after.history = ap (λ (v : View). v.seen) gave ∙ sym history in
      record {
        begins = subst (IsPrefix s.view.seen) (sym now) begins;
        legal = subst (Legal (limits_of s.view.part)) (sym now) (is_legal weighs after (limits_of s.view.part) reached (limits ∙ stood.limits));
        joined_same = joined_same first second;
      }

-- ---- the call

prefix_more : (xs log ys : List Call) → IsPrefix xs log → IsPrefix xs (log ++ ys)
prefix_more xs log ys p = (p.0 ++ ys, sym (append_assoc xs p.0 ys) ∙ ap (λ l. l ++ ys) p.1)

pub longer_begins : (seen log now ys : List Call) → IsPrefix seen log → now ≡ log ++ ys → IsPrefix seen now
longer_begins seen log now ys p is = subst (IsPrefix seen) (sym is) (prefix_more seen log ys p)

-- a turn that was noted, or refused: the history goes on from what the seat had seen
pub turn_begins : {T R E : Type 0} (f : R → Call) (before after : Cache T) (seen : List Call) (result : Result R E) → IsPrefix seen before.history
    → IfOk result (λ r. after.history ≡ before.history ++ f r ∷ []) → OnErr result (after ≡ record before { turns = before.turns + 1 }) → IsPrefix seen after.history
turn_begins f before after seen (Ok r) p noted refused = longer_begins seen before.history after.history (f r ∷ []) p noted
turn_begins f before after seen (Err e) p noted refused = subst (IsPrefix seen) (sym (ap (λ c. c.history) refused)) p

-- one call more of the seat
pub one_grows : (n : ℕ) (before after : List Call) (c : Call) → c.seat ≡ n → after ≡ before ++ c ∷ [] → Grows n before after
one_grows n before after c mine is = (c ∷ [], (mine, tt), is)

-- a turn that was noted, or refused
pub turn_grows : {T R E : Type 0} (f : R → Call) (before after : Cache T) (n : ℕ) (result : Result R E) → ((r : R) → (f r).seat ≡ n)
    → IfOk result (λ r. after.history ≡ before.history ++ f r ∷ []) → OnErr result (after ≡ record before { turns = before.turns + 1 }) → Grows n before.history after.history
turn_grows f before after n (Ok r) mine noted refused = one_grows n before.history after.history (f r) (mine r) noted
turn_grows f before after n (Err e) mine noted refused = ([], tt, ap (λ c. c.history) refused ∙ sym (append-nil before.history))

own_this : (n : ℕ) (c : Call) → c.seat ≡ n → own n (c ∷ []) ≡ c ∷ []
own_this n c e = rw (eq-eqb c.seat n e) refl

module _ (law : OwnsAreJoined) {T : Type 0} (stands_for : T → FontKey → Common → Type 0) (weighs : T → ℕ) (before after : Cache T) (k : FontKey) (m : ℕ) (s t : View) (number : m ≡ s.number)
    (stood : StateStands stands_for weighs before s.part) (begins : IsPrefix s.seen before.history) (same : own s.number before.history ≡ own s.number s.seen) (now : t.seen ≡ after.history) where
  -- a call that the machine takes is the last of the history that the seat then sees
  pub noted_call : (d : Done) → Takes before.limits (machine weighs before) (machine weighs after) (call m k d) → after.history ≡ before.history ++ call m k d ∷ [] → NotedCall k d s t
  noted_call d takes noted =
      let n = s.number in
      let c = call n k d in
      let is : t.seen ≡ before.history ++ c ∷ [] = now ∙ (noted ∙ ap (λ (j : ℕ). before.history ++ call j k d ∷ []) number) in
      let grew : own n t.seen ≡ own n s.seen ++ c ∷ [] = ap (own n) is ∙ (law n before.history (c ∷ []) ∙ (ap (λ (l : List Call). own n before.history ++ l) (own_this n c refl) ∙ ap (λ (l : List Call). l ++ c ∷ []) same)) in
      record {
        last = record {
          log = before.history;
          begins = begins;
          state = machine weighs before;
          reached = subst (λ (l : Limits). machine_after l empty before.history ≡ Some (machine weighs before)) stood.limits stood.reached;
          allowed = subst (λ (l : Limits). IsTrue (allows l (machine weighs before) c)) stood.limits (subst (λ (j : ℕ). IsTrue (allows before.limits (machine weighs before) (call j k d))) number takes.allowed);
          ends = is;
        };
        own = grew;
        claim = ap open_claim grew ∙ open_last None (own n s.seen) c;
      }

  pub noted_turn : {R E : Type 0} (done : R → Done) (result : Result R E) → IfOk result (λ r. Takes before.limits (machine weighs before) (machine weighs after) (call m k (done r)))
      → IfOk result (λ r. after.history ≡ before.history ++ call m k (done r) ∷ []) → IfOk result (λ r. NotedCall k (done r) s t)
  noted_turn done (Ok r) takes noted = noted_call (done r) takes noted
  noted_turn done (Err e) takes noted = tt

-- what is so of an answer with the fonts is so of the answer alone
pub of_told : {T : Type 0} (P : Fill → Type 0) (filled : Result (Filling T) (Arc T Global)) → IfOk filled (λ f. P f.fill) → IfOk (told_of filled) P
of_told P (Ok f) h = h
of_told P (Err font) h = tt
