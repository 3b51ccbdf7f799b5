-- What hits that are noted one after another do to the machine, the history and the fonts.
use Rattle.std.proofs.Common.{◌≡◌, ℕ, true, false, List, [], ◌∷◌, ◌++◌, map, slice_index_or, Option, Some, None, Result, Ok, Err, OnOk, OnErr, refl, sym, ap, ◌∙◌, append_assoc}
use Rattle.std.specs.Option.{is_some}
use Rattle.std.specs.Arc.{arc_value}
use Rattle.std.specs.declared.sync.Arc.{Arc}
use Rattle.std.specs.Map.{lookup}
use Rattle.std.proofs.lemmas.List.{map-append, append-nil}
use Rattle.lru.specs.LruCache.{LruCache, promoted}
use Rattle.outside.specs.declared.keys.FontKey.{FontKey}
use Rattle.cache_core.specs.declared.calls.Call.{Call}
use Rattle.cache_core.specs.declared.calls.Done.TheVariants.{Hit}
use Rattle.cache_core.specs.declared.common.Common.{Common}
use Rattle.cache_core.specs.declared.entry.Entry.{Entry}
use Rattle.cache_core.specs.declared.limits.Limits.{Limits}
use Rattle.cache_core.specs.Hits.{hits, NotedHits, FirstIsMissing}
use Rattle.cache_core.specs.Machine.{Machine, empty, key_eq, has_key, claim_of, weights, allows, next, machine_after}
use Rattle.cache_core.specs.Views.{calls_of, fonts_of, weighed, passes}
use Rattle.cache_core.specs.States.{Cache, machine_of, call, IsReached, SameFonts, StateStands}
use Rattle.cache_core.proofs.ArcLists.{missing, present, promotes}
use Rattle.cache_core.proofs.FontLists.{found_key, not_there, same_values, weights_moved}
use Rattle.cache_core.proofs.Resident.{weights_forward}
use Rattle.cache_core.proofs.Sound.{nothing}
use Rattle.cache_core.proofs.Steps.{after_one}
use Rattle.cache_core.proofs.Turns.{hit_takes, same_stands}

-- several calls more
pub after_all : (limits : Limits) (m n : Machine) (xs ys : List Call) → machine_after limits m xs ≡ Some n → machine_after limits m (xs ++ ys) ≡ machine_after limits n ys
after_all limits m n [] ys h = let same : m ≡ n = cc in ap (λ x. machine_after limits x ys) same
after_all limits m n (c ∷ xs) ys h = (elim (allows limits m c) as (λ b. allows limits m c ≡ b → machine_after limits m (c ∷ xs ++ ys) ≡ machine_after limits n ys) [
  | true ↦ λ t. rw t (after_all limits (next limits m c) n xs ys (rw t at h))
  | false ↦ λ t. let h' = rw t at h in absurd cc
]) refl

the_font : {T : Type 0} (o : Option T) → is_some o ≡ true → (v : T) × (o ≡ Some v)
the_font None h = absurd cc
the_font (Some v) h = (v, refl)

-- ---- the first key of a list

module _ {T A : Type 0} (weighs : T → ℕ) (k : FontKey) (old new : List (Arc FontKey A × Arc T A)) (moved : new ≡ promoted (passes k) old) where
  pub in_front : fonts_of new ≡ promoted (key_eq k) (fonts_of old)
  in_front = ap fonts_of moved ∙ promotes k old

  pub is_there : is_some (lookup (passes k) old) ≡ true → is_some (lookup (key_eq k) (fonts_of old)) ≡ true
  is_there h = let v = the_font (lookup (passes k) old) h in ap is_some (present k old v.0 v.1)

  -- where it isn't there, nothing moves
  pub all_stay : is_some (lookup (passes k) old) ≡ false → fonts_of new ≡ fonts_of old
  all_stay h = in_front ∙ not_there k (fonts_of old) (missing k old (nothing (lookup (passes k) old) h))

  pub not_resident : is_some (lookup (passes k) old) ≡ false → has_key k (weighed weighs (fonts_of new)) ≡ false
  not_resident h =
      sym (found_key weighs k (fonts_of new)) ∙ (ap (λ l. is_some (lookup (key_eq k) l)) (all_stay h) ∙ ap is_some (missing k old (nothing (lookup (passes k) old) h)))

pub first_missing : {A : Type 0} (items : List (Arc FontKey A)) (k : Arc FontKey A) (resident : List (FontKey × ℕ)) → k ≡ slice_index_or items 0 k → has_key (arc_value k) resident ≡ false
    → FirstIsMissing (map arc_value items) resident
first_missing [] k resident is out = tt
first_missing {A = A} (x ∷ items) k resident is out = let same : k ≡ x = is in ap (λ (y : Arc FontKey A). has_key (arc_value y) resident) (sym same) ∙ out

-- ---- the keys that were noted

-- the first keys of a list were noted, and these are the fonts and the calls since
pub record Noting {T : Type 0} (weighs : T → ℕ) (seat : ℕ) (before after : List (FontKey × T)) (history later : List Call) (keys left : List FontKey) : Type 0 where
  pub hits : (limits : Limits) (claims : List (ℕ × FontKey)) → claim_of seat claims ≡ None → NotedHits limits seat (machine_of weighs before claims) (machine_of weighs after claims) history later keys left
  pub fonts : SameFonts before after
  pub total : weights (weighed weighs after) ≡ weights (weighed weighs before)

module _ {T : Type 0} (weighs : T → ℕ) (seat : ℕ) (before : List (FontKey × T)) (history : List Call) (keys : List FontKey) where
  pub none_noted : Noting weighs seat before before history history keys keys
  none_noted = record {
    hits = λ limits claims free. record { noted = []; taken_out = refl; history_grew = sym (append-nil history); taken = refl };
    fonts = λ j. refl;
    total = refl;
  }

  pub one_noted : (after fonts : List (FontKey × T)) (later calls : List Call) (k : FontKey) (left : List FontKey) → Noting weighs seat before after history later keys (k ∷ left)
      → is_some (lookup (key_eq k) after) ≡ true → fonts ≡ promoted (key_eq k) after → calls ≡ later ++ call seat k Hit ∷ []
      → Noting weighs seat before fonts history calls keys left
  one_noted after fonts later calls k left i found moved is =
      let c = call seat k Hit in
      record {
        hits = λ limits claims free.
            let n = i.hits limits claims free in
            let v = the_font (lookup (key_eq k) after) found in
            let t = hit_takes weighs limits after claims seat k fonts v.0 free v.1 moved in
            let more : hits seat (n.noted ++ k ∷ []) ≡ hits seat n.noted ++ c ∷ [] = map-append (λ j. call seat j Hit) n.noted (k ∷ []) in
            record {
              noted = n.noted ++ k ∷ [];
              taken_out = n.taken_out ∙ sym (append_assoc n.noted (k ∷ []) left);
              history_grew = is ∙ (ap (λ (l : List Call). l ++ c ∷ []) n.history_grew ∙ (append_assoc history (hits seat n.noted) (c ∷ []) ∙ ap (λ (l : List Call). history ++ l) (sym more)));
              taken = ap (machine_after limits (machine_of weighs before claims)) more
                  ∙ (after_one limits (machine_of weighs before claims) (machine_of weighs after claims) (hits seat n.noted) c n.taken t.allowed ∙ ap Some (sym t.changed));
            };
        fonts = λ j. ap (lookup (key_eq j)) moved ∙ (same_values j k after ∙ i.fonts j);
        total = ap (λ l. weights (weighed weighs l)) moved ∙ (ap weights (weights_moved weighs k after) ∙ (weights_forward k (weighed weighs after) ∙ i.total));
      }

-- hits that may be refused lead from a state that its history leads to, to another
module _ {T A E : Type 0} (weighs : T → ℕ) (seat : ℕ) (old new : LruCache (Arc FontKey A) (Arc T A)) (entries entries' : List Entry) (keys left : List FontKey) {R : Type 0} (P : Type 0) (r : Result R E)
    (noted : OnOk r ((l : Limits) (claims : List (ℕ × FontKey)) → claim_of seat claims ≡ None
    → NotedHits l seat (machine_of weighs (fonts_of old.entries) claims) (machine_of weighs (fonts_of new.entries) claims) (calls_of entries) (calls_of entries') keys left))
    (same : OnErr r ((new ≡ old) × (entries' ≡ entries) × P)) where
  pub hits_at : (limits : Limits) (claims : List (ℕ × FontKey)) → claim_of seat claims ≡ None
      → OnOk r (NotedHits limits seat (machine_of weighs (fonts_of old.entries) claims) (machine_of weighs (fonts_of new.entries) claims) (calls_of entries) (calls_of entries') keys left)
  hits_at limits claims free = (elim r as (λ r. OnOk r ((l : Limits) (cs : List (ℕ × FontKey)) → claim_of seat cs ≡ None
      → NotedHits l seat (machine_of weighs (fonts_of old.entries) cs) (machine_of weighs (fonts_of new.entries) cs) (calls_of entries) (calls_of entries') keys left)
      → OnOk r (NotedHits limits seat (machine_of weighs (fonts_of old.entries) claims) (machine_of weighs (fonts_of new.entries) claims) (calls_of entries) (calls_of entries') keys left)) [
        | Ok x ↦ λ n. n limits claims free
        | Err e ↦ λ n. tt
      ]) noted

  pub hits_reach : (limits : Limits) (claims : List (ℕ × FontKey)) → claim_of seat claims ≡ None
      → machine_after limits empty (calls_of entries) ≡ Some (machine_of weighs (fonts_of old.entries) claims)
      → machine_after limits empty (calls_of entries') ≡ Some (machine_of weighs (fonts_of new.entries) claims)
  hits_reach limits claims free h = (elim r as (λ r. OnOk r ((l : Limits) (cs : List (ℕ × FontKey)) → claim_of seat cs ≡ None
      → NotedHits l seat (machine_of weighs (fonts_of old.entries) cs) (machine_of weighs (fonts_of new.entries) cs) (calls_of entries) (calls_of entries') keys left)
      → OnErr r ((new ≡ old) × (entries' ≡ entries) × P)
      → machine_after limits empty (calls_of entries') ≡ Some (machine_of weighs (fonts_of new.entries) claims)) [
        | Ok x ↦ λ all e. let n = all limits claims free in
            ap (machine_after limits empty) n.history_grew
            ∙ (after_all limits empty (machine_of weighs (fonts_of old.entries) claims) (calls_of entries) (hits seat n.noted) h ∙ n.taken)
        | Err x ↦ λ all e. ap (λ l. machine_after limits empty (calls_of l)) e.1 ∙ (h ∙ λ i. Some (machine_of weighs (fonts_of (sym e.0 i).entries) claims))
      ]) noted same

  pub hits_stand : (f : T → FontKey → Common → Type 0) (before after : Cache T)
      → after.limits ≡ before.limits → fonts_of old.entries ≡ before.fonts → after.fonts ≡ fonts_of new.entries → IsReached weighs after
      → OnOk r (SameFonts (fonts_of old.entries) (fonts_of new.entries))
      → (part : Common) → StateStands f weighs before part → StateStands f weighs after part
  hits_stand f before after lim fonts fonts' reached kept = (elim r as (λ r. OnOk r (SameFonts (fonts_of old.entries) (fonts_of new.entries)) → OnErr r ((new ≡ old) × (entries' ≡ entries) × P)
      → (part : Common) → StateStands f weighs before part → StateStands f weighs after part) [
        | Ok x ↦ λ s e. same_stands f weighs before after lim reached (λ j. ap (lookup (key_eq j)) fonts' ∙ (s j ∙ ap (lookup (key_eq j)) fonts))
        | Err x ↦ λ s e. same_stands f weighs before after lim reached (λ j. ap (lookup (key_eq j)) (fonts' ∙ (ap (λ (l : LruCache (Arc FontKey A) (Arc T A)). fonts_of l.entries) e.0 ∙ fonts)))
      ]) kept same
