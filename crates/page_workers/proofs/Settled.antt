-- The look at the first of the pending keys, and the hits that are noted behind it.
use Rattle.std.proofs.Common.{◌≡◌, ℕ, ◌+◌, ◌≤◌, List, [], ◌∷◌, ◌++◌, map, length, Some, refl, sym, ap, subst, ◌∙◌, arith, slice_index_or, length-append, Global}
use Rattle.std.proofs.lemmas.List.{length-map}
use Rattle.std.proofs.lemmas.List.Elements.{All-from_recursion, recursion_from_All}
use Rattle.std.specs.Arc.{arc_value}
use Rattle.std.specs.List.{All, AllByRecursion}
use Rattle.std.specs.declared.sync.Arc.{Arc}
use Rattle.outside.specs.FontKeys.{IsFontKey}
use Rattle.outside.specs.declared.keys.FontKey.{FontKey}
use Rattle.cache_core.specs.Hits.{hits}
use Rattle.cache_core.specs.declared.calls.Done.{Done}
use Rattle.font_cache.specs.Turns.{NotedCall, NotedLooks, NotedNothing, TookTurn}
use Rattle.turn_lock.specs.Seats.{SeatView}
use Rattle.font_decode.specs.Desks.{GrewBy, TrailGrew}
use Rattle.font_decode.proofs.Trails.{trail_as, trail_more}
use Rattle.page_workers.specs.Seats.{LookedUp, asked_at, asked_with, trail_at}
use Rattle.page_workers.proofs.Calls.{Grew, asked_grew, no_call, refused_grew}
use Rattle.page_workers.proofs.Hits.{hits_grew, hits_looked}
use Rattle.page_workers.proofs.Pending.{one_noted, some_noted}

abbrev pub Keys : Type 0
Keys = List (Arc FontKey Global)

abbrev pub AreKeys : Keys → Type 0
AreKeys keys = All (λ k. IsFontKey (arc_value k)) keys

-- ---- the first of the keys

pub at_front : (keys rest : Keys) (k first : Arc FontKey Global) → keys ≡ k ∷ rest → first ≡ slice_index_or keys 0 first → first ≡ k
at_front keys rest k first out is = is ∙ ap (λ (l : Keys). slice_index_or l 0 first) out

pub looked_front : (keys rest : Keys) (k first : Arc FontKey Global) (d : Done) (s u : SeatView) → keys ≡ k ∷ rest → first ≡ slice_index_or keys 0 first → TookTurn s u
    → NotedCall (arc_value first) d s.view u.view → LookedUp (arc_value k) d s u
looked_front keys rest k first d s u out is turn noted = record {
  turn = turn;
  noted = subst (λ (j : Arc FontKey Global). NotedCall (arc_value j) d s.view u.view) (at_front keys rest k first out is) noted;
}

pub front_noted : (keys rest : Keys) (k : Arc FontKey Global) (s a : SeatView) → keys ≡ k ∷ rest → GrewBy (asked_at (Some s)) (asked_at (Some a)) (arc_value k ∷ [])
    → asked_with (Some a) rest ≡ asked_with (Some s) keys
front_noted keys rest k s a out grew = one_noted (Some s) (Some a) k rest grew ∙ ap (asked_with (Some s)) (sym out)

-- ---- those that are left

of_keys : (keys : Keys) → AllByRecursion (λ k. IsFontKey (arc_value k)) keys → AllByRecursion IsFontKey (map arc_value keys)
of_keys [] h = tt
of_keys (k ∷ keys) h = (h.0, of_keys keys h.1)

to_keys : (keys : Keys) → AllByRecursion IsFontKey (map arc_value keys) → AllByRecursion (λ k. IsFontKey (arc_value k)) keys
to_keys [] h = tt
to_keys (k ∷ keys) h = (h.0, to_keys keys h.1)

behind : (noted left : List FontKey) → AllByRecursion IsFontKey (noted ++ left) → AllByRecursion IsFontKey left
behind [] left h = h
behind (k ∷ noted) left h = behind noted left h.1

module _ (rest left : Keys) (a t : SeatView) (noted : NotedLooks (map arc_value rest) (map arc_value left) a.view t.view) where
  pub left_keys : AreKeys rest → AreKeys left
  left_keys keys =
      All-from_recursion (λ (k : Arc FontKey Global). IsFontKey (arc_value k)) left
      (to_keys left (behind noted.noted (map arc_value left)
      (subst (AllByRecursion IsFontKey) noted.taken_out (of_keys rest (recursion_from_All (λ (k : Arc FontKey Global). IsFontKey (arc_value k)) rest keys)))))

  pub left_few : length left ≤ length rest
  left_few =
      let before : length (map arc_value rest) ≡ length rest = length-map rest arc_value in
      let after : length (map arc_value left) ≡ length left = length-map left arc_value in
      let taken : length (map arc_value rest) ≡ length noted.noted + length (map arc_value left) = ap length noted.taken_out ∙ length-append noted.noted (map arc_value left) in
      omega arith

  module _ (turn : TookTurn a t) where
    noted_grew : Grew a t (hits a.view.number noted.noted)
    noted_grew = record { number = turn.number; part = turn.common_part; own = noted.own }

    pub left_asked : asked_with (Some t) left ≡ asked_with (Some a) rest
    left_asked =
        some_noted (Some a) (Some t) rest left noted.noted
        (asked_grew a t (hits a.view.number noted.noted) noted_grew noted.noted (hits_looked a.view.number noted.noted)) noted.taken_out

    pub left_trail : (W V : Type 0) (s : SeatView) (l m c d : ℕ) → W → TrailGrew W (asked_at (Some s)) (asked_at (Some a)) (trail_at l c (Some s)) (trail_at m d (Some a))
        → TrailGrew V (asked_at (Some s)) (asked_at (Some t)) (trail_at l c (Some s)) (trail_at m d (Some t))
    left_trail W V s l m c d answered first =
        trail_more V (asked_at (Some s)) (asked_at (Some a)) (asked_at (Some t)) (trail_at l c (Some s)) (trail_at m d (Some a)) (trail_at m d (Some t))
        (trail_as (Unit {0}) W (asked_at (Some s)) (asked_at (Some a)) (trail_at l c (Some s)) (trail_at m d (Some a)) (λ u. answered) first)
        (hits_grew V a t noted.noted m d noted_grew)

-- ---- they weren't noted

module _ (a t : SeatView) (turn : TookTurn a t) (refused : NotedNothing a.view t.view) where
  same_grew : Grew a t []
  same_grew = no_call a t turn.number turn.common_part refused

  pub same_asked : (keys : Keys) → asked_with (Some t) keys ≡ asked_with (Some a) keys
  same_asked keys = some_noted (Some a) (Some t) keys keys [] (asked_grew a t [] same_grew [] refl) refl

  pub same_trail : (W V : Type 0) (k : FontKey) (s : SeatView) (l m c d : ℕ) → W → TrailGrew W (asked_at (Some s)) (asked_at (Some a)) (trail_at l c (Some s)) (trail_at m d (Some a))
      → TrailGrew V (asked_at (Some s)) (asked_at (Some t)) (trail_at l c (Some s)) (trail_at m d (Some t))
  same_trail W V k s l m c d answered first =
      trail_more V (asked_at (Some s)) (asked_at (Some a)) (asked_at (Some t)) (trail_at l c (Some s)) (trail_at m d (Some a)) (trail_at m d (Some t))
      (trail_as (Unit {0}) W (asked_at (Some s)) (asked_at (Some a)) (trail_at l c (Some s)) (trail_at m d (Some a)) (λ u. answered) first)
      (refused_grew V k a t m m d d same_grew refl refl)
