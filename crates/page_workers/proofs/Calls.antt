-- What a seat did for a key, by its own calls.
use Rattle.std.proofs.Common.{◌≡◌, inl, inr, ℕ, ◌*◌, Bool, List, [], ◌∷◌, ◌++◌, Some, refl, sym, ap, subst, ◌∙◌, arith, append_assoc, append-nil}
use Rattle.std.specs.Prelude.{Result, Ok, Err, IfOk, IfSome, IsOk, OnOk, OnErr, length}
use Rattle.outside.specs.Library.{FileTable}
use Rattle.outside.specs.declared.keys.FontKey.{FontKey}
use Rattle.cache_core.specs.declared.calls.Call.{Call}
use Rattle.cache_core.specs.declared.common.Common.{Common}
use Rattle.cache_core.specs.declared.calls.Done.{Done}
use Rattle.cache_core.specs.declared.calls.Done.TheVariants.{Hit, Claimed, Busy, Filled, Released}
use Rattle.cache_core.specs.Histories.{AllWeigh, own, SeatCalls, AreOf, NoneReleased, look_of, looks}
use Rattle.cache_core.specs.States.{call}
use Rattle.turn_lock.specs.Seats.{SeatView}
use Rattle.font_decode.specs.Desks.{GrewBy, IsWeightIn, LoadedFiles, ReleasedLast, files_loaded, misses, Loaded, TrailGrew}
use Rattle.font_decode.specs.Files.{looked_for}
use Rattle.font_decode.specs.Loads.{RoseBy, RoseUpTo, MAX_LOADS}
use Rattle.font_decode.proofs.FilesLoaded.{none_loaded, one_loaded}
use Rattle.page_workers.specs.Seats.{own_calls, asked_at, trail_at}

looks-append : (xs ys : List Call) → looks (xs ++ ys) ≡ looks xs ++ looks ys
looks-append [] ys = refl
looks-append (c ∷ xs) ys = ap (λ (l : List FontKey). look_of c.key c.done ++ l) (looks-append xs ys) ∙ sym (append_assoc (look_of c.key c.done) (looks xs) (looks ys))

-- the calls by which a seat's own calls grew
pub record Grew (s t : SeatView) (calls : List Call) : Type 0 where
  pub number : t.view.number ≡ s.view.number
  pub part : t.view.part ≡ s.view.part
  pub own : own s.view.number t.view.seen ≡ own s.view.number s.view.seen ++ calls

module _ (s t : SeatView) (calls : List Call) (grew : Grew s t calls) where
  own_grew : own_calls t ≡ own_calls s ++ calls
  own_grew = ap (λ (n : ℕ). own n t.view.seen) grew.number ∙ grew.own

  pub asked_grew : (keys : List FontKey) → looks calls ≡ keys → GrewBy (asked_at (Some s)) (asked_at (Some t)) keys
  asked_grew keys e = ap Some (ap looks own_grew ∙ looks-append (own_calls s) calls ∙ ap (λ (l : List FontKey). looks (own_calls s) ++ l) e)

  pub trail_grew : (W : Type 0) (keys : List FontKey) (l m c d : ℕ) → looks calls ≡ keys → AreOf s.view.number calls → SeatCalls keys calls → AllWeigh (IsWeightIn s.view.part) calls → ReleasedLast calls
      → (W → NoneReleased calls) → Loaded (MAX_LOADS * misses calls) l m c d → IfSome s.view.part.library (λ x. LoadedFiles W (files_loaded x s.view.part.units calls) c d)
      → TrailGrew W (asked_at (Some s)) (asked_at (Some t)) (trail_at l c (Some s)) (trail_at m d (Some t))
  trail_grew W keys l m c d looked mine for_keys weighed last answered loaded files = (
    record { seat = t.view.number; part = t.view.part; calls = own_calls t; loads = m; counted = d },
    refl,
    record {
      keys = keys;
      grew = asked_grew keys looked;
      answers = record { seat = grew.number; part = grew.part; calls = calls; grew = own_grew; own = mine; for_keys = for_keys; weighed = weighed; last = last; answered = answered; loaded = loaded; files = files };
    },
  )

-- no load at all
pub nothing_loaded : (l c : ℕ) → Loaded 0 l l c c
nothing_loaded l c = record {
  loads = record { most = omega arith; never_falls = omega arith };
  counted = record { most = omega arith; never_falls = omega arith };
  same = λ low. omega arith;
}

-- ---- one key

module _ (W : Type 0) (k : FontKey) (s t : SeatView) (l m c d : ℕ) where
  abbrev Knows : Type 0
  Knows = TrailGrew W (asked_at (Some s)) (asked_at (Some t)) (trail_at l c (Some s)) (trail_at m d (Some t))

  -- the look was refused
  pub refused_grew : Grew s t [] → m ≡ l → d ≡ c → Knows
  refused_grew grew same counted =
      trail_grew s t [] grew W [] l m c d refl tt refl tt tt (λ w. tt)
      (subst (λ (x : ℕ). Loaded 0 l x c d) (sym same) (subst (λ (x : ℕ). Loaded 0 l l c x) (sym counted) (nothing_loaded l c)))
      (none_loaded W s.view.part.library (λ x. files_loaded x s.view.part.units []) c d (λ x. refl) counted)

  pub hit_grew : Grew s t (call s.view.number k Hit ∷ []) → m ≡ l → d ≡ c → Knows
  hit_grew grew same counted =
      trail_grew s t (call s.view.number k Hit ∷ []) grew W (k ∷ []) l m c d refl (refl, tt)
      (call s.view.number k Hit ∷ [], [], refl, inl (call s.view.number k Hit, refl, refl, inl refl), refl) (tt, tt) (inl refl) (λ w. ((λ e. cc), tt))
      (subst (λ (x : ℕ). Loaded 0 l x c d) (sym same) (subst (λ (x : ℕ). Loaded 0 l l c x) (sym counted) (nothing_loaded l c)))
      (none_loaded W s.view.part.library (λ x. files_loaded x s.view.part.units (call s.view.number k Hit ∷ [])) c d (λ x. refl) counted)

  -- the files that were looked for
  abbrev pub NoMore : Type 0
  NoMore = IfSome s.view.part.library (λ x. RoseUpTo (length (looked_for x s.view.part.units k)) c d)

  abbrev pub Just : Type 0
  Just = IfSome s.view.part.library (λ x. RoseBy (length (looked_for x s.view.part.units k)) c d)

  one_look : (calls : List Call) → ((x : FileTable) → files_loaded x s.view.part.units calls ≡ length (looked_for x s.view.part.units k)) → NoMore → (W → Just)
      → IfSome s.view.part.library (λ x. LoadedFiles W (files_loaded x s.view.part.units calls) c d)
  one_look calls is most just = one_loaded W s.view.part.library (λ x. length (looked_for x s.view.part.units k)) (λ x. files_loaded x s.view.part.units calls) c d is most just

  pub busy_grew : Grew s t (call s.view.number k Busy ∷ []) → Loaded MAX_LOADS l m c d → NoMore → (W → Just) → Knows
  busy_grew grew loaded most just =
      trail_grew s t (call s.view.number k Busy ∷ []) grew W (k ∷ []) l m c d refl (refl, tt)
      (call s.view.number k Busy ∷ [], [], refl, inl (call s.view.number k Busy, refl, refl, inr refl), refl) (tt, tt) (inl refl) (λ w. ((λ e. cc), tt)) loaded
      (one_look (call s.view.number k Busy ∷ []) (λ x. omega arith) most just)

  pub filled_grew : (weight : ℕ) (kept : Bool) (gone : List FontKey) → IsWeightIn s.view.part k weight
      → Grew s t (call s.view.number k Claimed ∷ call s.view.number k (Filled weight kept gone) ∷ []) → Loaded MAX_LOADS l m c d → NoMore → (W → Just) → Knows
  filled_grew weight kept gone weighs grew loaded most just =
      let first = call s.view.number k Claimed in
      let second = call s.view.number k (Filled weight kept gone) in
      trail_grew s t (first ∷ second ∷ []) grew W (k ∷ []) l m c d refl (refl, (refl, tt))
      (first ∷ second ∷ [], [], refl, inr (first, second, refl, refl, refl, refl, inl (weight, kept, gone, refl)), refl) (tt, (weighs, tt)) (inr ((λ e. cc), inl refl)) (λ w. ((λ e. cc), ((λ e. cc), tt))) loaded
      (one_look (first ∷ second ∷ []) (λ x. omega arith) most just)

  pub released_grew : (W → ⊥) → Grew s t (call s.view.number k Claimed ∷ call s.view.number k Released ∷ []) → Loaded MAX_LOADS l m c d → NoMore → Knows
  released_grew never grew loaded most =
      let first = call s.view.number k Claimed in
      let second = call s.view.number k Released in
      trail_grew s t (first ∷ second ∷ []) grew W (k ∷ []) l m c d refl (refl, (refl, tt))
      (first ∷ second ∷ [], [], refl, inr (first, second, refl, refl, refl, refl, inr refl), refl) (tt, (tt, tt)) (inr ((λ e. cc), inl refl)) (λ w. absurd (never w)) loaded
      (one_look (first ∷ second ∷ []) (λ x. omega arith) most (λ w. absurd (never w)))

-- ---- a look, and what ended the claim

-- what is so is so of either answer
pub on_ok : {A E : Type 0} (P : Type 0) (r : Result A E) → P → OnOk r P
on_ok P (Ok x) p = p
on_ok P (Err e) p = tt

pub on_err : {A E : Type 0} (P : Type 0) (r : Result A E) → P → OnErr r P
on_err P (Ok x) p = tt
on_err P (Err e) p = p

pub one_call : (s t : SeatView) (c : Call) → t.view.number ≡ s.view.number → t.view.part ≡ s.view.part → own s.view.number t.view.seen ≡ own s.view.number s.view.seen ++ c ∷ [] → Grew s t (c ∷ [])
one_call s t c number part more = record { number = number; part = part; own = more }

pub no_call : (s t : SeatView) → t.view.number ≡ s.view.number → t.view.part ≡ s.view.part → own s.view.number t.view.seen ≡ own s.view.number s.view.seen → Grew s t []
no_call s t number part same = record { number = number; part = part; own = same ∙ sym (append-nil (own s.view.number s.view.seen)) }

module _ (k : FontKey) (s u t : SeatView) (first : Grew s u (call s.view.number k Claimed ∷ [])) (number : t.view.number ≡ u.view.number) (part : t.view.part ≡ u.view.part) where
  pub two_calls : (d : Done) → own u.view.number t.view.seen ≡ own u.view.number u.view.seen ++ call u.view.number k d ∷ []
      → Grew s t (call s.view.number k Claimed ∷ call s.view.number k d ∷ [])
  two_calls d more =
      let n = s.view.number in
      let here : own n t.view.seen ≡ own n u.view.seen ++ call n k d ∷ [] =
      subst (λ (j : ℕ). own j t.view.seen ≡ own j u.view.seen ++ call j k d ∷ []) first.number more in
      record {
        number = number ∙ first.number;
        part = part ∙ first.part;
        own = here ∙ ap (λ (l : List Call). l ++ call n k d ∷ []) first.own ∙ append_assoc (own n s.view.seen) (call n k Claimed ∷ []) (call n k d ∷ []);
      }

  -- the key was asked, however its claim ended
  pub ended_asked : (d : Done) → look_of k d ≡ [] → own u.view.number t.view.seen ≡ own u.view.number u.view.seen ++ call u.view.number k d ∷ []
      → GrewBy (asked_at (Some s)) (asked_at (Some t)) (k ∷ [])
  ended_asked d none more =
      asked_grew s t (call s.view.number k Claimed ∷ call s.view.number k d ∷ []) (two_calls d more) (k ∷ [])
      (ap (λ (l : List FontKey). k ∷ (l ++ [])) none)

  module _ {A E : Type 0} (result : Result A E) where
    pub kept_asked : IfOk result (λ _. (weight : ℕ) × (kept : Bool) × (gone : List FontKey) × (own u.view.number t.view.seen ≡ own u.view.number u.view.seen ++ call u.view.number k (Filled weight kept gone) ∷ [])
        × IsWeightIn u.view.part k weight)
        → OnErr result (own u.view.number t.view.seen ≡ own u.view.number u.view.seen ++ call u.view.number k Released ∷ [])
        → GrewBy (asked_at (Some s)) (asked_at (Some t)) (k ∷ [])
    kept_asked filled released =
        elim result as (λ (r : Result A E). IfOk r (λ _. (weight : ℕ) × (kept : Bool) × (gone : List FontKey) × (own u.view.number t.view.seen ≡ own u.view.number u.view.seen ++ call u.view.number k (Filled weight kept gone) ∷ [])
        × IsWeightIn u.view.part k weight)
        → OnErr r (own u.view.number t.view.seen ≡ own u.view.number u.view.seen ++ call u.view.number k Released ∷ []) → GrewBy (asked_at (Some s)) (asked_at (Some t)) (k ∷ [])) [
          | Ok x ↦ λ f r. ended_asked (Filled f.0 f.1 f.2) refl f.3
          | Err e ↦ λ f r. ended_asked Released refl r
        ] filled released

    pub kept_trail : (l m c d : ℕ)
        → IfOk result (λ _. (weight : ℕ) × (kept : Bool) × (gone : List FontKey) × (own u.view.number t.view.seen ≡ own u.view.number u.view.seen ++ call u.view.number k (Filled weight kept gone) ∷ [])
        × IsWeightIn u.view.part k weight)
        → OnErr result (own u.view.number t.view.seen ≡ own u.view.number u.view.seen ++ call u.view.number k Released ∷ []) → Loaded MAX_LOADS l m c d
        → IfSome s.view.part.library (λ x. RoseUpTo (length (looked_for x s.view.part.units k)) c d) → IfSome s.view.part.library (λ x. RoseBy (length (looked_for x s.view.part.units k)) c d)
        → TrailGrew (IsOk result) (asked_at (Some s)) (asked_at (Some t)) (trail_at l c (Some s)) (trail_at m d (Some t))
    kept_trail l m c d filled released loaded most just =
        elim result as (λ (r : Result A E). IfOk r (λ _. (weight : ℕ) × (kept : Bool) × (gone : List FontKey) × (own u.view.number t.view.seen ≡ own u.view.number u.view.seen ++ call u.view.number k (Filled weight kept gone) ∷ [])
        × IsWeightIn u.view.part k weight)
        → OnErr r (own u.view.number t.view.seen ≡ own u.view.number u.view.seen ++ call u.view.number k Released ∷ [])
        → TrailGrew (IsOk r) (asked_at (Some s)) (asked_at (Some t)) (trail_at l c (Some s)) (trail_at m d (Some t))) [
          | Ok x ↦ λ f r. filled_grew _ k s t l m c d f.0 f.1 f.2 (subst (λ (p : Common). IsWeightIn p k f.0) first.part f.4) (two_calls (Filled f.0 f.1 f.2) f.3) loaded most (λ w. just)
          | Err e ↦ λ f r. released_grew _ k s t l m c d (λ w. cc) (two_calls Released r) loaded most
        ] filled released
