-- A seat that has the cache to itself: which calls it makes.
use Rattle.std.proofs.Common.{◌≡◌, ◌⊎◌, inl, inr, ℕ, leb, Bool, true, false, cond, not, ◌&&◌, List, [], ◌∷◌, ◌++◌, Some, None, nat_eq, refl, sym, ap, ◌∙◌, subst}
use Rattle.std.specs.Prelude.{IsSome}
use Rattle.std.specs.Option.{is_some}
use Rattle.std.specs.Map.{remove_entry}
use Rattle.std.proofs.lemmas.Bool.{and_parts, eq-eqb}
use Rattle.outside.specs.declared.keys.FontKey.{FontKey}
use Rattle.cache_core.specs.declared.calls.Call.{Call}
use Rattle.cache_core.specs.declared.calls.Done.{Done}
use Rattle.cache_core.specs.declared.calls.Done.TheVariants.{Hit, Claimed, Busy, Filled, Released}
use Rattle.cache_core.specs.declared.limits.Limits.{Limits}
use Rattle.cache_core.specs.Machine.{Machine, empty, option_key_eq, keys_eq, has_key, claims_key, claim_of, gone_of, allows, allows_done, next, changed_by, machine_after}
use Rattle.cache_core.specs.Histories.{AreOf, NoneReleased, NoneBusy, SeatCalls, IsFilled, WeighSo, weighs_as}
use Rattle.cache_core.specs.Laws.{NoneAloneIsBusy, SoloIsOne, SoloIsThere}
use Rattle.cache_core.specs.Solo.{solo_fill, solo_calls, after_calls, solo_from}
use Rattle.cache_core.specs.States.{call}
use Rattle.cache_core.proofs.SameKeys.{key_is_itself}
use Rattle.cache_core.proofs.Sound.{by_test, not_true}
use Rattle.cache_core.proofs.Resident.{keys_same, keys_self}
use Rattle.cache_core.proofs.Steps.{chosen}

-- ---- no look is busy

-- no claim but one of this seat
abbrev Alone : ℕ → List (ℕ × FontKey) → Type 0
Alone seat claims = (claims ≡ []) ⊎ ((k : FontKey) × (claims ≡ (seat, k) ∷ []))

module _ (seat : ℕ) where
  holder : (k : FontKey) → claim_of seat ((seat, k) ∷ []) ≡ Some k
  holder k = rw (eq-eqb seat seat refl) refl

  ended : (cs : List (ℕ × FontKey)) → Alone seat cs → remove_entry (nat_eq seat) cs ≡ []
  ended cs h = elim h [
    | inl none ↦ ap (remove_entry (nat_eq seat)) none
    | inr one ↦ ap (remove_entry (nat_eq seat)) one.1 ∙ rw (eq-eqb seat seat refl) refl
  ]

  -- a seat without a claim, which alone may have one: there is none
  none_at_all : (cs : List (ℕ × FontKey)) → Alone seat cs → not (is_some (claim_of seat cs)) ≡ true → cs ≡ []
  none_at_all cs h free = elim h [
    | inl none ↦ none
    | inr one ↦ let there : claim_of seat cs ≡ Some one.0 = ap (claim_of seat) one.1 ∙ holder one.0 in let f = rw there at free in absurd cc
  ]

  module _ (limits : Limits) where
    alone_next : (m : Machine) (k : FontKey) (d : Done) → Alone seat m.claims → allows_done limits m seat k d ≡ true → Alone seat (changed_by limits m seat k d).claims
    alone_next m k Hit h a = h
    alone_next m k Busy h a = h
    alone_next m k Claimed h a =
        let two = and_parts (not (is_some (claim_of seat m.claims)) && not (has_key k m.resident)) (not (claims_key k m.claims)) a in
        let one = and_parts (not (is_some (claim_of seat m.claims))) (not (has_key k m.resident)) two.0 in
        inr (k, ap (λ (cs : List (ℕ × FontKey)). (seat, k) ∷ cs) (none_at_all m.claims h one.0))
    alone_next m k (Filled _ true _) h a = inl (ended m.claims h)
    alone_next m k (Filled _ false _) h a = inl (ended m.claims h)
    alone_next m k Released h a = inl (ended m.claims h)

    not_busy : (m : Machine) (k : FontKey) → Alone seat m.claims → allows_done limits m seat k Busy ≡ true → ⊥
    not_busy m k h a =
        let two = and_parts (not (is_some (claim_of seat m.claims)) && not (has_key k m.resident)) (claims_key k m.claims) a in
        let one = and_parts (not (is_some (claim_of seat m.claims))) (not (has_key k m.resident)) two.0 in
        let none : claims_key k m.claims ≡ false = ap (claims_key k) (none_at_all m.claims h one.0) in
        let t = two.1 in cc

    none_busy : (m : Machine) (calls : List Call) → Alone seat m.claims → IsSome (machine_after limits m calls) → AreOf seat calls → NoneBusy calls
    none_busy m [] h legal mine = tt
    none_busy m (c ∷ calls) h legal mine =
        let both = chosen (allows limits m c) (machine_after limits (next limits m c) calls) legal in
        let allowed : allows_done limits m seat c.key c.done ≡ true = subst (λ (s : ℕ). allows_done limits m s c.key c.done ≡ true) mine.0 both.0 in
        let after : Alone seat (next limits m c).claims =
        subst (λ (s : ℕ). Alone seat (changed_by limits m s c.key c.done).claims) (sym mine.0) (alone_next m c.key c.done h allowed) in (
          λ busy. not_busy m c.key h (subst (λ (d : Done). allows_done limits m seat c.key d ≡ true) busy allowed),
          none_busy (next limits m c) calls after both.1 mine.1,
        )

pub none_alone_is_busy : NoneAloneIsBusy
none_alone_is_busy limits seat history legal mine = none_busy seat limits empty history (inl refl) legal mine

-- ---- one history

module _ (limits : Limits) (seat : ℕ) (weight : FontKey → ℕ) where
  abbrev claim : FontKey → Call
  claim k = call seat k Claimed

  abbrev fill : FontKey → Machine → Call
  fill k m = call seat k (solo_fill limits m k (weight k))

  is_call : (c : Call) (k : FontKey) (d : Done) → c.seat ≡ seat → c.key ≡ k → c.done ≡ d → c ≡ call seat k d
  is_call c k d p q r = let whole : call c.seat c.key c.done ≡ call seat k d = rw (p, q, r) refl in whole

  -- after a claim and its end there is no claim
  fill_ends : (m : Machine) (k : FontKey) (d : Done) → IsFilled d → (changed_by limits m seat k d).claims ≡ remove_entry (nat_eq seat) m.claims
  fill_ends m k d f = ap (λ (e : Done). (changed_by limits m seat k e).claims) f.3 ∙ (elim f.1 as (λ b. (changed_by limits m seat k (Filled f.0 b f.2)).claims ≡ remove_entry (nat_eq seat) m.claims) [ true ↦ refl | false ↦ refl ])

  filled_claims : (m : Machine) (k : FontKey) (d : Done) → IsFilled d → m.claims ≡ [] → (next limits (next limits m (claim k)) (call seat k d)).claims ≡ []
  filled_claims m k d f none =
      fill_ends (next limits m (claim k)) k d f ∙ (ap (λ (cs : List (ℕ × FontKey)). remove_entry (nat_eq seat) ((seat, k) ∷ cs)) none ∙ rw (eq-eqb seat seat refl) refl)

  solo_is_filled : (m : Machine) (k : FontKey) (w : ℕ) → IsFilled (solo_fill limits m k w)
  solo_is_filled m k w = elim (leb w limits.budget) as (λ b. IsFilled (cond b (Filled w true (gone_of limits ((k, w) ∷ m.resident))) (Filled w false []))) [
    | true ↦ (w, true, gone_of limits ((k, w) ∷ m.resident), refl)
    | false ↦ (w, false, [], refl)
  ]

  solo_weighs : (m : Machine) (k : FontKey) → weighs_as (λ (j : FontKey) (n : ℕ). n ≡ weight j) k (solo_fill limits m k (weight k))
  solo_weighs m k = elim (leb (weight k) limits.budget) as (λ b. weighs_as (λ (j : FontKey) (n : ℕ). n ≡ weight j) k (cond b (Filled (weight k) true (gone_of limits ((k, weight k) ∷ m.resident))) (Filled (weight k) false []))) [
    | true ↦ refl
    | false ↦ refl
  ]

  -- a claim is filled in one way, and in that way it may be
  is_fill : (m : Machine) (k : FontKey) (w : ℕ) (kept : Bool) (gone : List FontKey) → allows_done limits m seat k (Filled w kept gone) ≡ true → Filled w kept gone ≡ solo_fill limits m k w
  is_fill m k w true gone t =
      let two = and_parts (option_key_eq (claim_of seat m.claims) (Some k) && leb w limits.budget) (keys_eq gone (gone_of limits ((k, w) ∷ m.resident))) t in
      let one = and_parts (option_key_eq (claim_of seat m.claims) (Some k)) (leb w limits.budget) two.0 in
      ap (Filled w true) (keys_same gone (gone_of limits ((k, w) ∷ m.resident)) two.1)
      ∙ ap (λ b. cond b (Filled w true (gone_of limits ((k, w) ∷ m.resident))) (Filled w false [])) (sym one.1)
  is_fill m k w false gone t =
      let two = and_parts (option_key_eq (claim_of seat m.claims) (Some k) && not (leb w limits.budget)) (keys_eq gone []) t in
      let one = and_parts (option_key_eq (claim_of seat m.claims) (Some k)) (not (leb w limits.budget)) two.0 in
      ap (Filled w false) (keys_same gone [] two.1)
      ∙ ap (λ b. cond b (Filled w true (gone_of limits ((k, w) ∷ m.resident))) (Filled w false [])) (sym (not_true (leb w limits.budget) one.1))

  fill_allowed : (m : Machine) (k : FontKey) (w : ℕ) → claim_of seat m.claims ≡ Some k → allows_done limits m seat k (solo_fill limits m k w) ≡ true
  fill_allowed m k w holds = (elim (leb w limits.budget) as (λ b. leb w limits.budget ≡ b
      → allows_done limits m seat k (cond b (Filled w true (gone_of limits ((k, w) ∷ m.resident))) (Filled w false [])) ≡ true) [
        | true ↦ λ t. rw (holds, key_is_itself k, t) (keys_self (gone_of limits ((k, w) ∷ m.resident)))
        | false ↦ λ t. rw (holds, key_is_itself k, t) refl
      ]) refl

  hit_calls : (m : Machine) (k : FontKey) → has_key k m.resident ≡ true → solo_calls limits seat weight m k ≡ call seat k Hit ∷ []
  hit_calls m k t = rw t refl

  claim_calls : (m : Machine) (k : FontKey) → has_key k m.resident ≡ false → solo_calls limits seat weight m k ≡ claim k ∷ fill k m ∷ []
  claim_calls m k t = rw t refl

  -- the calls for the first key, and then for the others
  begins : (m : Machine) (k : FontKey) (keys : List FontKey) (first others : List Call) → solo_calls limits seat weight m k ≡ first
      → others ≡ solo_from limits seat weight (after_calls limits m first) keys → first ++ others ≡ solo_from limits seat weight m (k ∷ keys)
  begins m k keys first others is rest =
      ap (λ (l : List Call). first ++ l) rest ∙ ap (λ (l : List Call). l ++ solo_from limits seat weight (after_calls limits m l) keys) (sym is)

  abbrev Goes : Machine → List FontKey → List Call → Type 0
  Goes m keys calls = calls ≡ solo_from limits seat weight m keys

  hit_from : (m : Machine) (k : FontKey) (keys : List FontKey) (others : List Call) → IsSome (machine_after limits m (call seat k Hit ∷ others))
      → (IsSome (machine_after limits (next limits m (call seat k Hit)) others) → Goes (next limits m (call seat k Hit)) keys others)
      → Goes m (k ∷ keys) (call seat k Hit ∷ others)
  hit_from m k keys others legal rest =
      let both = chosen (allows limits m (call seat k Hit)) (machine_after limits (next limits m (call seat k Hit)) others) legal in
      let there = (and_parts (not (is_some (claim_of seat m.claims))) (has_key k m.resident) both.0).1 in
      begins m k keys (call seat k Hit ∷ []) others (hit_calls m k there) (rest both.1)

  claim_from : (m : Machine) (k : FontKey) (w : ℕ) (kept : Bool) (gone : List FontKey) (keys : List FontKey) (others : List Call) → w ≡ weight k
      → IsSome (machine_after limits m (claim k ∷ call seat k (Filled w kept gone) ∷ others))
      → (IsSome (machine_after limits (next limits (next limits m (claim k)) (call seat k (Filled w kept gone))) others)
      → Goes (next limits (next limits m (claim k)) (call seat k (Filled w kept gone))) keys others)
      → Goes m (k ∷ keys) (claim k ∷ call seat k (Filled w kept gone) ∷ others)
  claim_from m k w kept gone keys others heavy legal rest =
      let m1 = next limits m (claim k) in
      let m2 = next limits m1 (call seat k (Filled w kept gone)) in
      let both = chosen (allows limits m (claim k)) (machine_after limits m1 (call seat k (Filled w kept gone) ∷ others)) legal in
      let two = and_parts (not (is_some (claim_of seat m.claims)) && not (has_key k m.resident)) (not (claims_key k m.claims)) both.0 in
      let one = and_parts (not (is_some (claim_of seat m.claims))) (not (has_key k m.resident)) two.0 in
      let missing = not_true (has_key k m.resident) one.1 in
      let second = chosen (allows limits m1 (call seat k (Filled w kept gone))) (machine_after limits m2 others) both.1 in
      let left : Filled w kept gone ≡ solo_fill limits m k (weight k) = is_fill m1 k w kept gone second.0 ∙ ap (solo_fill limits m k) heavy in
      begins m k keys (claim k ∷ call seat k (Filled w kept gone) ∷ []) others
      (claim_calls m k missing ∙ ap (λ (d : Done). claim k ∷ call seat k d ∷ []) (sym left))
      (rest second.1)

  module _ (m : Machine) (k : FontKey) (keys : List FontKey) (calls others : List Call) (none : m.claims ≡ []) (legal : IsSome (machine_after limits m calls))
      (mine : AreOf seat calls) (kept : NoneReleased calls) (heavy : WeighSo weight calls)
      (rest : (n : Machine) → n.claims ≡ [] → IsSome (machine_after limits n others) → AreOf seat others → NoneReleased others → WeighSo weight others → Goes n keys others) where
    legal_of : (l : List Call) → calls ≡ l → IsSome (machine_after limits m l)
    legal_of l is = subst (λ (x : List Call). IsSome (machine_after limits m x)) is legal

    short_from : (c : Call) → calls ≡ c ∷ others → c.key ≡ k → (c.done ≡ Hit) ⊎ (c.done ≡ Busy) → Goes m (k ∷ keys) calls
    short_from c is key done =
        let own = subst (AreOf seat) is mine in
        let stays = subst NoneReleased is kept in
        let so = subst (WeighSo weight) is heavy in
        elim done [
          | inl hit ↦
              let whole : calls ≡ call seat k Hit ∷ others = is ∙ ap (λ (x : Call). x ∷ others) (is_call c k Hit own.0 key hit) in
              whole ∙ hit_from m k keys others (legal_of (call seat k Hit ∷ others) whole) (λ h. rest (next limits m (call seat k Hit)) none h own.1 stays.1 so.1)
          | inr busy ↦
              let whole : calls ≡ call seat k Busy ∷ others = is ∙ ap (λ (x : Call). x ∷ others) (is_call c k Busy own.0 key busy) in
              let both = chosen (allows limits m (call seat k Busy)) (machine_after limits (next limits m (call seat k Busy)) others) (legal_of (call seat k Busy ∷ others) whole) in
              absurd (not_busy seat limits m k (inl none) both.0)
        ]

    long_from : (c d : Call) → calls ≡ c ∷ d ∷ others → c.key ≡ k → c.done ≡ Claimed → d.key ≡ k
        → IsFilled d.done ⊎ (d.done ≡ Released) → Goes m (k ∷ keys) calls
    long_from c d is key claimed same end_ =
        let own = subst (AreOf seat) is mine in
        let stays = subst NoneReleased is kept in
        let so = subst (WeighSo weight) is heavy in
        elim end_ [
          | inl filled ↦
              let e = Filled filled.0 filled.1 filled.2 in
              let f = call seat k e in
              let whole : calls ≡ claim k ∷ f ∷ others =
              is ∙ ap (λ (x : Call). x ∷ d ∷ others) (is_call c k Claimed own.0 key claimed) ∙ ap (λ (x : Call). claim k ∷ x ∷ others) (is_call d k e own.1.0 same filled.3) in
              let w : filled.0 ≡ weight k = subst (λ (x : FontKey). filled.0 ≡ weight x) same (subst (λ (x : Done). weighs_as (λ (j : FontKey) (n : ℕ). n ≡ weight j) d.key x) filled.3 so.1.0) in
              whole ∙ claim_from m k filled.0 filled.1 filled.2 keys others w (legal_of (claim k ∷ f ∷ others) whole)
              (λ h. rest (next limits (next limits m (claim k)) f) (filled_claims m k e (filled.0, filled.1, filled.2, refl) none) h own.1.1 stays.1.1 so.1.1)
          | inr released ↦ absurd (stays.1.0 released)
        ]

  one_from : (keys : List FontKey) (m : Machine) (calls : List Call) → m.claims ≡ [] → IsSome (machine_after limits m calls) → AreOf seat calls
      → NoneReleased calls → WeighSo weight calls → SeatCalls keys calls → Goes m keys calls
  one_from [] m calls none legal mine kept heavy asked = asked
  one_from (k ∷ keys) m calls none legal mine kept heavy asked =
      let rest : (n : Machine) → n.claims ≡ [] → IsSome (machine_after limits n asked.1) → AreOf seat asked.1 → NoneReleased asked.1 → WeighSo weight asked.1 → Goes n keys asked.1 =
      λ n free h own stays so. one_from keys n asked.1 free h own stays so asked.4 in
      elim asked.3 [
        | inl short ↦ short_from m k keys calls asked.1 none legal mine kept heavy rest short.0 (asked.2 ∙ ap (λ (l : List Call). l ++ asked.1) short.1) short.2 short.3
        | inr long ↦
            long_from m k keys calls asked.1 none legal mine kept heavy rest long.0 long.1 (asked.2 ∙ ap (λ (l : List Call). l ++ asked.1) long.2) long.3 long.4 long.5 long.6
      ]

  -- ---- and it is one

  abbrev Stands : List FontKey → Machine → List Call → Type 0
  Stands keys m calls = IsSome (machine_after limits m calls) × AreOf seat calls × SeatCalls keys calls × NoneReleased calls × WeighSo weight calls

  hit_stands : (k : FontKey) (keys : List FontKey) (m : Machine) (others : List Call) → m.claims ≡ [] → has_key k m.resident ≡ true
      → Stands keys (next limits m (call seat k Hit)) others → Stands (k ∷ keys) m (call seat k Hit ∷ others)
  hit_stands k keys m others none there rest =
      let free : claim_of seat m.claims ≡ None = ap (claim_of seat) none in
      let allowed : allows limits m (call seat k Hit) ≡ true = rw (free, there) refl in (
        rw allowed rest.0,
        (refl, rest.1),
        (call seat k Hit ∷ [], others, refl, inl (call seat k Hit, refl, refl, inl refl), rest.2),
        ((λ e. cc), rest.3),
        (tt, rest.4),
      )

  claim_stands : (k : FontKey) (keys : List FontKey) (m : Machine) (others : List Call) → m.claims ≡ [] → has_key k m.resident ≡ false
      → Stands keys (next limits (next limits m (claim k)) (fill k m)) others → Stands (k ∷ keys) m (claim k ∷ fill k m ∷ others)
  claim_stands k keys m others none missing rest =
      let free : claim_of seat m.claims ≡ None = ap (claim_of seat) none in
      let nobody : claims_key k m.claims ≡ false = ap (claims_key k) none in
      let first : allows limits m (claim k) ≡ true = rw (free, missing, nobody) refl in
      let holds : claim_of seat ((seat, k) ∷ m.claims) ≡ Some k = rw (eq-eqb seat seat refl) refl in
      let filled = solo_is_filled m k (weight k) in
      let second : allows limits (next limits m (claim k)) (fill k m) ≡ true = fill_allowed (next limits m (claim k)) k (weight k) holds in (
        rw first (rw second rest.0),
        (refl, (refl, rest.1)),
        (claim k ∷ fill k m ∷ [], others, refl, inr (claim k, fill k m, refl, refl, refl, refl, inl filled), rest.2),
        ((λ e. cc), ((λ e. let is = filled.3 in cc), rest.3)),
        (tt, (solo_weighs m k, rest.4)),
      )

  there_from : (keys : List FontKey) (m : Machine) → m.claims ≡ [] → Stands keys m (solo_from limits seat weight m keys)
  there_from [] m none = (refl, tt, refl, tt, tt)
  there_from (k ∷ keys) m none = by_test (has_key k m.resident)
      (λ t.
      let n = next limits m (call seat k Hit) in
      subst (Stands (k ∷ keys) m) (begins m k keys (call seat k Hit ∷ []) (solo_from limits seat weight n keys) (hit_calls m k t) refl)
      (hit_stands k keys m (solo_from limits seat weight n keys) none t (there_from keys n none)))
      (λ t.
      let n = next limits (next limits m (claim k)) (fill k m) in
      subst (Stands (k ∷ keys) m) (begins m k keys (claim k ∷ fill k m ∷ []) (solo_from limits seat weight n keys) (claim_calls m k t) refl)
      (claim_stands k keys m (solo_from limits seat weight n keys) none t (there_from keys n (filled_claims m k (solo_fill limits m k (weight k)) (solo_is_filled m k (weight k)) none))))

pub solo_is_one : SoloIsOne
solo_is_one limits seat weight keys history h = one_from limits seat weight keys empty history refl h.legal h.own h.kept h.weighed h.for_keys

pub solo_is_there : SoloIsThere
solo_is_there limits seat weight keys =
    let all = there_from limits seat weight keys empty refl in
    record { legal = all.0; own = all.1; for_keys = all.2; kept = all.3; weighed = all.4 }
