-- The keys asked with those whose looks aren't noted yet.
use Rattle.std.proofs.Common.{◌≡◌, List, [], ◌∷◌, ◌++◌, map, Option, Some, None, refl, sym, ap, subst, ◌∙◌, append-nil, Global}
use Rattle.std.specs.Arc.{arc_value}
use Rattle.std.specs.declared.sync.Arc.{Arc}
use Rattle.outside.specs.declared.keys.FontKey.{FontKey}
use Rattle.turn_lock.specs.Seats.{SeatView}
use Rattle.font_decode.specs.Desks.{GrewBy}
use Rattle.font_decode.proofs.Trails.{asked_more}
use Rattle.page_workers.specs.Seats.{asked_at, asked_with}

pub with_none : (seat : Option SeatView) → asked_with seat [] ≡ asked_at seat
with_none None = refl
with_none (Some s) = ap Some (append-nil _)

-- one look was noted, the first of those that weren't
pub one_noted : (s t : Option SeatView) (k : Arc FontKey Global) (left : List (Arc FontKey Global)) → GrewBy (asked_at s) (asked_at t) (arc_value k ∷ []) → asked_with t left ≡ asked_with s (k ∷ left)
one_noted s t k left grew = asked_more (asked_at s) (asked_at t) (asked_with t left) (arc_value k ∷ []) (map arc_value left) grew refl

-- some of them were noted
pub some_noted : (s t : Option SeatView) (keys left : List (Arc FontKey Global)) (noted : List FontKey) → GrewBy (asked_at s) (asked_at t) noted → map arc_value keys ≡ noted ++ map arc_value left
    → asked_with t left ≡ asked_with s keys
some_noted s t keys left noted grew taken =
    asked_more (asked_at s) (asked_at t) (asked_with t left) noted (map arc_value left) grew refl ∙ sym (subst (λ (l : List FontKey). GrewBy (asked_at s) (asked_with s keys) l) taken refl)
