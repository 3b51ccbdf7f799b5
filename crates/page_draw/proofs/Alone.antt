-- What the only seat of a cache did for a key, and that it is still alone.
use Rattle.std.proofs.Common.{◌≡◌, inl, inr, ℕ, ◌*◌, Bool, nat_eq, List, [], ◌∷◌, ◌++◌, Option, Some, None, refl, sym, ap, subst, ◌∙◌, arith, append_assoc, append-nil}
use Rattle.std.specs.Prelude.{Result, Ok, Err, IfOk, IfSome, IsOk, OnOk, OnErr, length}
use Rattle.std.specs.Map.{remove_entry}
use Rattle.outside.specs.Library.{FileTable}
use Rattle.outside.specs.declared.keys.FontKey.{FontKey}
use Rattle.pixel_round.specs.declared.units.Units.{Units}
use Rattle.cache_core.specs.declared.calls.Call.{Call}
use Rattle.cache_core.specs.declared.calls.Done.{Done}
use Rattle.cache_core.specs.declared.calls.Done.TheVariants.{Hit, Claimed, Busy, Filled, Released}
use Rattle.cache_core.specs.declared.limits.Limits.{Limits}
use Rattle.cache_core.specs.Machine.{claim_of, Legal}
use Rattle.cache_core.specs.Histories.{AllWeigh, AreOf, NoneReleased, NoneBusy, SeatCalls, look_of, looks}
use Rattle.cache_core.specs.States.{Cache, IsReached, StateStands, call}
use Rattle.font_decode.specs.Desks.{GrewBy, IsWeightIn, LoadedFiles, ReleasedLast, files_loaded, misses, Loaded, TrailGrew}
use Rattle.font_decode.specs.Files.{looked_for}
use Rattle.font_decode.specs.Loads.{RoseBy, RoseUpTo, MAX_LOADS}
use Rattle.font_decode.proofs.FilesLoaded.{none_loaded, one_loaded}
use Rattle.font_decode.specs.Weights.{weight_of}
use Rattle.font_decode.specs.declared.font_or_fault.Decoded.{Decoded}
use Rattle.page_draw.specs.SoloDesks.{IsAlone, asked_by, common_part, stands_for_key, trail_by}

looks-append : (xs ys : List Call) → looks (xs ++ ys) ≡ looks xs ++ looks ys
looks-append [] ys = refl
looks-append (c ∷ xs) ys = ap (λ (l : List FontKey). look_of c.key c.done ++ l) (looks-append xs ys) ∙ sym (append_assoc (look_of c.key c.done) (looks xs) (looks ys))

of_more : (seat : ℕ) (xs ys : List Call) → AreOf seat xs → AreOf seat ys → AreOf seat (xs ++ ys)
of_more seat [] ys p q = q
of_more seat (c ∷ xs) ys p q = (p.0, of_more seat xs ys p.1 q)

-- ---- the calls by which the history grew

module _ (c d : Cache Decoded) (calls : List Call) (grew : d.history ≡ c.history ++ calls) (same : d.limits ≡ c.limits) where
  pub asked_grew : (keys : List FontKey) → looks calls ≡ keys → GrewBy (asked_by c) (asked_by d) keys
  asked_grew keys e = ap Some (ap looks grew ∙ looks-append c.history calls ∙ ap (λ (l : List FontKey). looks c.history ++ l) e)

  trail_grew : (W : Type 0) (x y : Option FileTable) (v : Units) (keys : List FontKey) (l m : ℕ) → y ≡ x → looks calls ≡ keys → AreOf 1 calls → SeatCalls keys calls
      → AllWeigh (IsWeightIn (common_part x v c.limits)) calls → ReleasedLast calls
      → (W → NoneReleased calls) → Loaded (MAX_LOADS * misses calls) l m l m → IfSome x (λ t. LoadedFiles W (files_loaded t v calls) l m)
      → TrailGrew W (asked_by c) (asked_by d) (trail_by x v l c) (trail_by y v m d)
  trail_grew W x y v keys l m known looked mine for_keys weighed last answered loaded files = (
    record { seat = 1; part = common_part y v d.limits; calls = d.history; loads = m; counted = m },
    refl,
    record {
      keys = keys;
      grew = asked_grew keys looked;
      answers = record { seat = refl; part = λ i. common_part (known i) v (same i); calls = calls; grew = grew; own = mine; for_keys = for_keys; weighed = weighed; last = last; answered = answered; loaded = loaded; files = files };
    },
  )

  -- the seat is alone afterwards
  pub alone_later : (l m : Option FileTable) (u : Units) → IsAlone l u c → m ≡ l → claim_of 1 d.claims ≡ None → AreOf 1 calls
      → (StateStands stands_for_key weight_of c (common_part l u c.limits) → StateStands stands_for_key weight_of d (common_part l u c.limits)) → IsAlone m u d
  alone_later l m u h known free mine stands = record {
    units = h.units;
    free = free;
    own = subst (AreOf 1) (sym grew) (of_more 1 c.history calls h.own mine);
    stands = subst (λ (o : Option FileTable). StateStands stands_for_key weight_of d (common_part o u d.limits)) (sym known)
        (subst (λ (n : Limits). StateStands stands_for_key weight_of d (common_part l u n)) (sym same) (stands h.stands));
  }

-- a count that is both
both_loaded : (most l m : ℕ) → RoseUpTo most l m → Loaded most l m l m
both_loaded most l m r = record { loads = r; counted = r; same = λ low. omega arith }

nothing_loaded : (l : ℕ) → Loaded 0 l l l l
nothing_loaded l = both_loaded 0 l l (record { most = omega arith; never_falls = omega arith })

-- ---- one key

module _ (W : Type 0) (x : Option FileTable) (v : Units) (k : FontKey) (c d : Cache Decoded) (l m : ℕ) (limits : d.limits ≡ c.limits) where
  abbrev Knows : Type 0
  Knows = TrailGrew W (asked_by c) (asked_by d) (trail_by x v l c) (trail_by x v m d)

  -- the look was refused
  pub refused_trail : d.history ≡ c.history → m ≡ l → Knows
  refused_trail same loads =
      trail_grew c d [] (same ∙ sym (append-nil c.history)) limits W x x v [] l m refl refl tt refl tt tt (λ w. tt) (subst (λ (x : ℕ). Loaded 0 l x l x) (sym loads) (nothing_loaded l))
      (none_loaded W x (λ t. files_loaded t v []) l m (λ t. refl) loads)

  pub hit_trail : d.history ≡ c.history ++ call 1 k Hit ∷ [] → m ≡ l → Knows
  hit_trail grew loads =
      trail_grew c d (call 1 k Hit ∷ []) grew limits W x x v (k ∷ []) l m refl refl (refl, tt)
      (call 1 k Hit ∷ [], [], refl, inl (call 1 k Hit, refl, refl, inl refl), refl) (tt, tt) (inl refl) (λ w. ((λ e. cc), tt)) (subst (λ (x : ℕ). Loaded 0 l x l x) (sym loads) (nothing_loaded l))
      (none_loaded W x (λ t. files_loaded t v (call 1 k Hit ∷ [])) l m (λ t. refl) loads)

-- the claim's call, and the one that ends it
pub two_calls : (k : FontKey) (done : Done) (c u d : Cache Decoded) → u.history ≡ c.history ++ call 1 k Claimed ∷ [] → d.history ≡ u.history ++ call 1 k done ∷ []
    → d.history ≡ c.history ++ call 1 k Claimed ∷ call 1 k done ∷ []
two_calls k done c u d first second =
    second ∙ ap (λ (l : List Call). l ++ call 1 k done ∷ []) first ∙ append_assoc c.history (call 1 k Claimed ∷ []) (call 1 k done ∷ [])

module _ (W : Type 0) (x y : Option FileTable) (v : Units) (k : FontKey) (c u d : Cache Decoded) (l m : ℕ) (known : y ≡ x) (claimed : u.history ≡ c.history ++ call 1 k Claimed ∷ []) (limits : d.limits ≡ c.limits) (loads : RoseUpTo MAX_LOADS l m)
    (most : IfSome x (λ t. RoseUpTo (length (looked_for t v k)) l m)) where
  pub filled_trail : (weight : ℕ) (kept : Bool) (gone : List FontKey) → IsWeightIn (common_part x v c.limits) k weight → (W → IfSome x (λ t. RoseBy (length (looked_for t v k)) l m))
      → d.history ≡ u.history ++ call 1 k (Filled weight kept gone) ∷ [] → TrailGrew W (asked_by c) (asked_by d) (trail_by x v l c) (trail_by y v m d)
  filled_trail weight kept gone weighs just filled =
      let f = call 1 k Claimed in
      let s = call 1 k (Filled weight kept gone) in
      trail_grew c d (f ∷ s ∷ []) (two_calls k (Filled weight kept gone) c u d claimed filled) limits W x y v (k ∷ []) l m known refl (refl, (refl, tt))
      (f ∷ s ∷ [], [], refl, inr (f, s, refl, refl, refl, refl, inl (weight, kept, gone, refl)), refl) (tt, (weighs, tt)) (inr ((λ e. cc), inl refl)) (λ w. ((λ e. cc), ((λ e. cc), tt))) (both_loaded MAX_LOADS l m loads)
      (one_loaded W x (λ t. length (looked_for t v k)) (λ t. files_loaded t v (f ∷ s ∷ [])) l m (λ t. omega arith) most just)

  pub released_trail : (W → ⊥) → d.history ≡ u.history ++ call 1 k Released ∷ [] → TrailGrew W (asked_by c) (asked_by d) (trail_by x v l c) (trail_by y v m d)
  released_trail never released =
      let f = call 1 k Claimed in
      let s = call 1 k Released in
      trail_grew c d (f ∷ s ∷ []) (two_calls k Released c u d claimed released) limits W x y v (k ∷ []) l m known refl (refl, (refl, tt))
      (f ∷ s ∷ [], [], refl, inr (f, s, refl, refl, refl, refl, inr refl), refl) (tt, (tt, tt)) (inr ((λ e. cc), inl refl)) (λ w. absurd (never w)) (both_loaded MAX_LOADS l m loads)
      (one_loaded W x (λ t. length (looked_for t v k)) (λ t. files_loaded t v (f ∷ s ∷ [])) l m (λ t. omega arith) most (λ w. absurd (never w)))

-- ---- however a claim was ended

module _ (k : FontKey) (c u d : Cache Decoded) (claimed : u.history ≡ c.history ++ call 1 k Claimed ∷ []) (limits : d.limits ≡ c.limits) where
  pub ended_asked : (done : Done) → look_of k done ≡ [] → d.history ≡ u.history ++ call 1 k done ∷ [] → GrewBy (asked_by c) (asked_by d) (k ∷ [])
  ended_asked done none ended =
      asked_grew c d (call 1 k Claimed ∷ call 1 k done ∷ []) (two_calls k done c u d claimed ended) limits (k ∷ []) (ap (λ (l : List FontKey). k ∷ (l ++ [])) none)

  pub ended_alone : (done : Done) (l m : Option FileTable) (v : Units) → IsAlone l v c → m ≡ l
      → u.claims ≡ (1, k) ∷ c.claims → d.claims ≡ remove_entry (nat_eq 1) u.claims → d.history ≡ u.history ++ call 1 k done ∷ []
      → (StateStands stands_for_key weight_of c (common_part l v c.limits) → StateStands stands_for_key weight_of d (common_part l v c.limits)) → IsAlone m v d
  ended_alone done l m v h same taken freed ended stands =
      alone_later c d (call 1 k Claimed ∷ call 1 k done ∷ []) (two_calls k done c u d claimed ended) limits l m v h same
      (ap (claim_of 1) (freed ∙ ap (remove_entry (nat_eq 1)) taken) ∙ h.free) (refl, (refl, tt)) stands

  module _ {A E : Type 0} (weight : ℕ) (result : Result A E)
      (filled : IfOk result (λ _. (kept : Bool) × (gone : List FontKey) × (d.history ≡ u.history ++ call 1 k (Filled weight kept gone) ∷ [])))
      (released : OnErr result (d.history ≡ u.history ++ call 1 k Released ∷ [])) where
    abbrev Ended : Type 0
    Ended = (done : Done) × (look_of k done ≡ []) × (d.history ≡ u.history ++ call 1 k done ∷ [])

    pub which : Ended
    which =
        elim result as (λ (r : Result A E). IfOk r (λ _. (kept : Bool) × (gone : List FontKey) × (d.history ≡ u.history ++ call 1 k (Filled weight kept gone) ∷ []))
        → OnErr r (d.history ≡ u.history ++ call 1 k Released ∷ []) → Ended) [
          | Ok x ↦ λ f r. (Filled weight f.0 f.1, refl, f.2)
          | Err e ↦ λ f r. (Released, refl, r)
        ] filled released

    pub kept_trail : (x y : Option FileTable) (v : Units) (l m : ℕ) → y ≡ x → IsWeightIn (common_part x v c.limits) k weight → RoseUpTo MAX_LOADS l m
        → IfSome x (λ t. RoseUpTo (length (looked_for t v k)) l m) → IfSome x (λ t. RoseBy (length (looked_for t v k)) l m) → TrailGrew (IsOk result) (asked_by c) (asked_by d) (trail_by x v l c) (trail_by y v m d)
    kept_trail x y v l m known weighs loads most just =
        elim result as (λ (r : Result A E). IfOk r (λ _. (kept : Bool) × (gone : List FontKey) × (d.history ≡ u.history ++ call 1 k (Filled weight kept gone) ∷ []))
        → OnErr r (d.history ≡ u.history ++ call 1 k Released ∷ []) → TrailGrew (IsOk r) (asked_by c) (asked_by d) (trail_by x v l c) (trail_by y v m d)) [
          | Ok a ↦ λ f r. filled_trail _ x y v k c u d l m known claimed limits loads most weight f.0 f.1 weighs (λ w. just) f.2
          | Err e ↦ λ f r. released_trail _ x y v k c u d l m known claimed limits loads most (λ w. cc) r
        ] filled released

-- what is so is so of either answer
pub on_ok : {A E : Type 0} (P : Type 0) (r : Result A E) → P → OnOk r P
on_ok P (Ok x) p = p
on_ok P (Err e) p = tt

pub on_err : {A E : Type 0} (P : Type 0) (r : Result A E) → P → OnErr r P
on_err P (Ok x) p = tt
on_err P (Err e) p = p

-- ---- no look is busy

last_busy : (xs : List Call) (k : FontKey) → NoneBusy (xs ++ call 1 k Busy ∷ []) → ⊥
last_busy [] k h = h.0 refl
last_busy (c ∷ xs) k h = last_busy xs k h.1

pub never_busy : (c d : Cache Decoded) (k : FontKey) → AreOf 1 c.history → d.history ≡ c.history ++ call 1 k Busy ∷ [] → IsReached weight_of d
    → ((limits : Limits) (seat : ℕ) (history : List Call) → Legal limits history → AreOf seat history → NoneBusy history) → ⊥
never_busy c d k own grew reached law =
    let legal : Legal d.limits d.history = rw reached refl in
    let mine : AreOf 1 d.history = subst (AreOf 1) (sym grew) (of_more 1 c.history (call 1 k Busy ∷ []) own (refl, tt)) in
    last_busy c.history k (subst NoneBusy grew (law d.limits 1 d.history legal mine))
