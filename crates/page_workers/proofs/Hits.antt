-- What a seat did for keys that were noted as hits.
use Rattle.std.proofs.Common.{◌≡◌, inl, inr, ℕ, ◌+◌, ◌*◌, List, [], ◌∷◌, Some, refl, sym, ap, subst, arith}
use Rattle.outside.specs.Library.{FileTable}
use Rattle.outside.specs.declared.keys.FontKey.{FontKey}
use Rattle.pixel_round.specs.declared.units.Units.{Units}
use Rattle.cache_core.specs.Histories.{AllWeigh, SeatCalls, AreOf, NoneReleased, looks}
use Rattle.cache_core.specs.Hits.{hits}
use Rattle.cache_core.specs.States.{call}
use Rattle.cache_core.specs.declared.calls.Done.TheVariants.{Hit}
use Rattle.turn_lock.specs.Seats.{SeatView}
use Rattle.font_decode.specs.Desks.{IsWeightIn, ReleasedLast, files_loaded, misses, Loaded, TrailGrew}
use Rattle.font_decode.specs.Loads.{MAX_LOADS}
use Rattle.font_decode.proofs.FilesLoaded.{none_loaded}
use Rattle.page_workers.specs.Seats.{asked_at, trail_at}
use Rattle.page_workers.proofs.Calls.{Grew, nothing_loaded, trail_grew}

pub hits_looked : (seat : ℕ) (keys : List FontKey) → looks (hits seat keys) ≡ keys
hits_looked seat [] = refl
hits_looked seat (k ∷ keys) = ap (λ (l : List FontKey). k ∷ l) (hits_looked seat keys)

are_of : (seat : ℕ) (keys : List FontKey) → AreOf seat (hits seat keys)
are_of seat [] = tt
are_of seat (k ∷ keys) = (refl, are_of seat keys)

for_keys : (seat : ℕ) (keys : List FontKey) → SeatCalls keys (hits seat keys)
for_keys seat [] = refl
for_keys seat (k ∷ keys) = (call seat k Hit ∷ [], hits seat keys, refl, inl (call seat k Hit, refl, refl, inl refl), for_keys seat keys)

all_weigh : (P : FontKey → ℕ → Type 0) (seat : ℕ) (keys : List FontKey) → AllWeigh P (hits seat keys)
all_weigh P seat [] = tt
all_weigh P seat (k ∷ keys) = (tt, all_weigh P seat keys)

none_released : (seat : ℕ) (keys : List FontKey) → NoneReleased (hits seat keys)
none_released seat [] = tt
none_released seat (k ∷ keys) = ((λ e. cc), none_released seat keys)

released_last : (seat : ℕ) (keys : List FontKey) → ReleasedLast (hits seat keys)
released_last seat [] = tt
released_last seat (k ∷ keys) = inr ((λ e. cc), released_last seat keys)

no_misses : (seat : ℕ) (keys : List FontKey) → misses (hits seat keys) ≡ 0
no_misses seat [] = refl
no_misses seat (k ∷ keys) = ap (λ (n : ℕ). 0 + n) (no_misses seat keys)

no_files : (seat : ℕ) (l : FileTable) (u : Units) (keys : List FontKey) → files_loaded l u (hits seat keys) ≡ 0
no_files seat l u [] = refl
no_files seat l u (k ∷ keys) = ap (λ (n : ℕ). 0 + n) (no_files seat l u keys)

pub hits_grew : (W : Type 0) (s t : SeatView) (keys : List FontKey) (l c : ℕ) → Grew s t (hits s.view.number keys)
    → TrailGrew W (asked_at (Some s)) (asked_at (Some t)) (trail_at l c (Some s)) (trail_at l c (Some t))
hits_grew W s t keys l c grew =
    let seat = s.view.number in
    let zero : MAX_LOADS * misses (hits seat keys) ≡ 0 = let none = no_misses seat keys in omega arith in
    trail_grew s t (hits seat keys) grew W keys l l c c (hits_looked seat keys) (are_of seat keys) (for_keys seat keys) (all_weigh (IsWeightIn s.view.part) seat keys)
    (released_last seat keys) (λ w. none_released seat keys) (subst (λ (n : ℕ). Loaded n l l c c) (sym zero) (nothing_loaded l c))
    (none_loaded W s.view.part.library (λ x. files_loaded x s.view.part.units (hits seat keys)) c c (λ x. no_files seat x s.view.part.units keys) refl)
