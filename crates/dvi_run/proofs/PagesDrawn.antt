-- One page that was drawn: its look-ups, and whether it was written or cut off.
use Rattle.std.proofs.Common.{length, get_or, set, ◌≡◌, ◌≢◌, ◌⊎◌, inl, inr, ℕ, zero, suc, ◌+◌, ◌<◌, ◌≤◌, Bool, List, [], ◌∷◌, ◌++◌, Option, Some, Result, Ok, Err, refl, sym, ap, subst, arith}
use Rattle.std.specs.Prelude.{Contains, IsErrOf, IsOk}
use Rattle.std.proofs.lemmas.List.Elements.{Contains-append_cases}
use mathlib.Core.Logic.{dite}
use Rattle.std.proofs.lemmas.List.{get_or-set_same, get_or-set_other}
use native.Mathlib.Decide.{ℕ_discrete}
use Rattle.std.specs.Io.KnownBytes.{Appends}
use Rattle.outside.specs.declared.keys.FontKey.{FontKey}
use Rattle.page_index.specs.Document.{Reading}
use Rattle.turn_lock.specs.Seats.{SeatView}
use Rattle.page_index.specs.Pages.{Indexed}
use Rattle.page_draw.specs.Members.{Finding}
use Rattle.page_draw.specs.Drawn.{IsWhole}
use Rattle.page_draw.specs.declared.stop.PageStop.{PageStop}
use Rattle.page_draw.specs.declared.stop.PageStop.TheVariants as draw
use Rattle.page_draw.specs.Values.{DrawnValue, value_of_drawn}
use Rattle.page_draw.specs.declared.drawn.Drawn.{Drawn}
use Rattle.page_workers.specs.declared.worker.PageResult.{PageResult}
use Rattle.page_workers.specs.Seats.{asked_at}
use Rattle.page_workers.specs.Rounds.{IsOutcome}
use Rattle.dvi_run.specs.Pages.{Setup, IsValueOf, finding, text_of}
use Rattle.dvi_run.specs.Endings.{EndingValue, Written, Usage, Document, Page, Source, Input, Output, Notes, Memory, IsWriteStop, ending_at}
use Rattle.dvi_run.specs.Looked.{WholeLooks, BrokenLooks, IsAllWritten, WasNotCutOff, sure_pages}
use Rattle.dvi_run.specs.Pressing.{with_outcome}
use Rattle.dvi_run.specs.Rounds.{IsOutcomeOf, WroteOutcome, black_of, keys_of, indexed_of}
use Rattle.dvi_run.specs.declared.pages.WriteStop.{WriteStop}
use Rattle.dvi_run.specs.declared.pages.WriteStop.TheVariants as stop
use Rattle.dvi_run.proofs.Looks.{whole_more, broken_more, keys_grew, broken_keys}

-- ---- one page that was drawn

pub value_of : (g : Setup) (reading : Reading) (i : ℕ) (outcome : Result Drawn PageStop) (old new : Option (List FontKey))
    → IsOutcome (finding g reading) (indexed_of g reading) g.sheet i outcome old new → IsOutcomeOf g reading i outcome
value_of g reading i (Ok page) old new o = (o.0, o.1)
value_of g reading i (Err (draw.Fault fault at)) old new o = (o.0, o.1)
value_of g reading i (Err draw.SourceFault) old new o = tt
value_of g reading i (Err draw.NoMemory) old new o = tt

-- the keys that were looked up for these pages, of which the last had this outcome
abbrev pub LooksTo : ℕ → Result Drawn PageStop → Finding → Indexed → Setup → List ℕ → List FontKey → Type 0
LooksTo i (Ok page) Finds indexed g pages keys = WholeLooks Finds indexed g.sheet pages keys
LooksTo i (Err (draw.Fault fault at)) Finds indexed g pages keys = WholeLooks Finds indexed g.sheet pages keys
LooksTo i (Err draw.SourceFault) Finds indexed g pages keys = BrokenLooks (λ p. p ≡ i) Finds indexed g.sheet pages keys
LooksTo i (Err draw.NoMemory) Finds indexed g pages keys = BrokenLooks (λ p. p ≡ i) Finds indexed g.sheet pages keys

pub looks_to : (g : Setup) (reading : Reading) (i : ℕ) (outcome : Result Drawn PageStop) (old new : Option SeatView) (before after : List ℕ) (so_far keys : List FontKey) → asked_at old ≡ Some (keys_of old)
    → asked_at new ≡ Some (keys_of new) → IsOutcome (finding g reading) (indexed_of g reading) g.sheet i outcome (asked_at old) (asked_at new)
    → WholeLooks (finding g reading) (indexed_of g reading) g.sheet before so_far → after ≡ before ++ i ∷ []
    → ((more : List FontKey) → keys_of new ≡ keys_of old ++ more → keys ≡ so_far ++ more)
    → LooksTo i outcome (finding g reading) (indexed_of g reading) g after keys
looks_to g reading i (Ok page) old new before after so_far keys e h o w is grows =
    let Finds = finding g reading in
    let ix = indexed_of g reading in
    subst (λ (ps : List ℕ). WholeLooks Finds ix g.sheet ps keys) (sym is)
    (subst (λ (ks : List FontKey). WholeLooks Finds ix g.sheet (before ++ i ∷ []) ks) (sym (grows o.0 (keys_grew old new o.0 e h o.2))) (whole_more Finds ix g.sheet before so_far i o.0 w (Ok (value_of_drawn page), o.1)))
looks_to g reading i (Err (draw.Fault fault at)) old new before after so_far keys e h o w is grows =
    let Finds = finding g reading in
    let ix = indexed_of g reading in
    subst (λ (ps : List ℕ). WholeLooks Finds ix g.sheet ps keys) (sym is)
    (subst (λ (ks : List FontKey). WholeLooks Finds ix g.sheet (before ++ i ∷ []) ks) (sym (grows o.0 (keys_grew old new o.0 e h o.2))) (whole_more Finds ix g.sheet before so_far i o.0 w (_, o.1)))
looks_to g reading i (Err draw.SourceFault) old new before after so_far keys e h o w is grows =
    let Finds = finding g reading in
    let ix = indexed_of g reading in
    let b = broken_keys Finds ix g.sheet i old new e h o in
    subst (λ (ps : List ℕ). BrokenLooks (λ p. p ≡ i) Finds ix g.sheet ps keys) (sym is)
    (subst (λ (ks : List FontKey). BrokenLooks (λ p. p ≡ i) Finds ix g.sheet (before ++ i ∷ []) ks) (sym (grows b.0 b.1)) (broken_more (λ p. p ≡ i) Finds ix g.sheet before so_far i b.0 refl w b.2))
looks_to g reading i (Err draw.NoMemory) old new before after so_far keys e h o w is grows =
    let Finds = finding g reading in
    let ix = indexed_of g reading in
    let b = broken_keys Finds ix g.sheet i old new e h o in
    subst (λ (ps : List ℕ). BrokenLooks (λ p. p ≡ i) Finds ix g.sheet ps keys) (sym is)
    (subst (λ (ks : List FontKey). BrokenLooks (λ p. p ≡ i) Finds ix g.sheet (before ++ i ∷ []) ks) (sym (grows b.0 b.1)) (broken_more (λ p. p ≡ i) Finds ix g.sheet before so_far i b.0 refl w b.2))

-- the keys by which those of its seat grew
pub keys_by : (g : Setup) (reading : Reading) (i : ℕ) (outcome : Result Drawn PageStop) (old new : Option SeatView) → asked_at old ≡ Some (keys_of old) → asked_at new ≡ Some (keys_of new)
    → IsOutcome (finding g reading) (indexed_of g reading) g.sheet i outcome (asked_at old) (asked_at new) → (more : List FontKey) × (keys_of new ≡ keys_of old ++ more)
keys_by g reading i (Ok page) old new e h o = (o.0, keys_grew old new o.0 e h o.2)
keys_by g reading i (Err (draw.Fault fault at)) old new e h o = (o.0, keys_grew old new o.0 e h o.2)
keys_by g reading i (Err draw.SourceFault) old new e h o = let b = broken_keys (finding g reading) (indexed_of g reading) g.sheet i old new e h o in (b.0, b.1)
keys_by g reading i (Err draw.NoMemory) old new e h o = let b = broken_keys (finding g reading) (indexed_of g reading) g.sheet i old new e h o in (b.0, b.1)

-- why a page isn't written, by what came of it
module _ (counted : Bool) (before after : Option (List ℕ)) (OutputFails SourceFails : Type 0) (g : Setup) (reading : Reading) (i : ℕ) where
  abbrev pub Why : WriteStop → Type 0
  Why why = IsWriteStop before after OutputFails SourceFails (IsValueOf g reading i) (Unit {0}) why

  pub why_stops : (outcome : Result Drawn PageStop) (why : WriteStop) → IsOutcomeOf g reading i outcome → (IsErrOf outcome draw.SourceFault → SourceFails)
      → WroteOutcome counted before after OutputFails outcome (Err why) → Why why
  why_stops (Ok page) (stop.Draw reason) value rose wrote = absurd wrote
  why_stops (Ok page) stop.Output value rose wrote = (value_of_drawn page, value, wrote.0, wrote.1)
  why_stops (Err (draw.Fault fault at)) (stop.Draw cause) value rose wrote = subst (λ (t : PageStop). Why (stop.Draw t)) (sym wrote.0) (value, wrote.1)
  why_stops (Err draw.SourceFault) (stop.Draw cause) value rose wrote = subst (λ (t : PageStop). Why (stop.Draw t)) (sym wrote.0) (rose refl, tt, wrote.1)
  why_stops (Err draw.NoMemory) (stop.Draw cause) value rose wrote = subst (λ (t : PageStop). Why (stop.Draw t)) (sym wrote.0) (tt, wrote.1)
  why_stops (Err (draw.Fault fault at)) stop.Output value rose wrote = absurd wrote
  why_stops (Err draw.SourceFault) stop.Output value rose wrote = absurd wrote
  why_stops (Err draw.NoMemory) stop.Output value rose wrote = absurd wrote

-- a run that ends with a failed source ends at a page of which a source failed
pub source_failed : (counted : Bool) (before after : Option (List ℕ)) (OutputFails : Type 0) (page i : ℕ) (outcome : Result Drawn PageStop) (why : WriteStop) → WroteOutcome counted before after OutputFails outcome (Err why)
    → ending_at (i + 1) why ≡ Source page → (outcome ≡ Err draw.SourceFault) × (page ≡ i + 1)
source_failed counted before after OutputFails page i (Ok p) (stop.Draw reason) wrote e = absurd wrote
source_failed counted before after OutputFails page i (Ok p) stop.Output wrote e = absurd cc
source_failed counted before after OutputFails page i (Err reason) (stop.Draw (draw.Fault fault at)) wrote e = absurd cc
source_failed counted before after OutputFails page i (Err reason) (stop.Draw draw.SourceFault) wrote e = (ap Err (sym wrote.0), cc)
source_failed counted before after OutputFails page i (Err reason) (stop.Draw draw.NoMemory) wrote e = absurd cc
source_failed counted before after OutputFails page i (Err reason) stop.Output wrote e = absurd wrote

-- a page that isn't written doesn't end a run well
pub never_written : (page : ℕ) (why : WriteStop) → IsAllWritten (ending_at page why) → ⊥
never_written page (stop.Draw (draw.Fault fault at)) all = all
never_written page (stop.Draw draw.SourceFault) all = all
never_written page (stop.Draw draw.NoMemory) all = all
never_written page stop.Output all = all

-- nothing was broken off for a page that isn't written, where the run wasn't
pub whole_outcome : (counted : Bool) (before after : Option (List ℕ)) (OutputFails : Type 0) (page : ℕ) (outcome : Result Drawn PageStop) (why : WriteStop) → WroteOutcome counted before after OutputFails outcome (Err why)
    → WasNotCutOff (ending_at page why) → IsWhole outcome
whole_outcome counted before after OutputFails page (Ok p) why wrote u = tt
whole_outcome counted before after OutputFails page (Err (draw.Fault fault at)) why wrote u = tt
whole_outcome counted before after OutputFails page (Err draw.SourceFault) (stop.Draw (draw.Fault fault at)) wrote u = absurd (let e = wrote.0 in cc)
whole_outcome counted before after OutputFails page (Err draw.SourceFault) (stop.Draw draw.SourceFault) wrote u = absurd u
whole_outcome counted before after OutputFails page (Err draw.SourceFault) (stop.Draw draw.NoMemory) wrote u = absurd u
whole_outcome counted before after OutputFails page (Err draw.SourceFault) stop.Output wrote u = absurd wrote
whole_outcome counted before after OutputFails page (Err draw.NoMemory) (stop.Draw (draw.Fault fault at)) wrote u = absurd (let e = wrote.0 in cc)
whole_outcome counted before after OutputFails page (Err draw.NoMemory) (stop.Draw draw.SourceFault) wrote u = absurd u
whole_outcome counted before after OutputFails page (Err draw.NoMemory) (stop.Draw draw.NoMemory) wrote u = absurd u
whole_outcome counted before after OutputFails page (Err draw.NoMemory) stop.Output wrote u = absurd wrote

-- want of memory at a page that isn't written ends the run so
pub memory_ends : (counted : Bool) (before after : Option (List ℕ)) (OutputFails : Type 0) (page : ℕ) (outcome : Result Drawn PageStop) (why : WriteStop) → outcome ≡ Err draw.NoMemory
    → WroteOutcome counted before after OutputFails outcome (Err why) → ending_at page why ≡ Memory
memory_ends counted before after OutputFails page (Ok p) why is wrote = absurd cc
memory_ends counted before after OutputFails page (Err reason) (stop.Draw cause) is wrote =
    let same = wrote.0 in
    let memory : cause ≡ draw.NoMemory = cc in
    ap (λ (x : PageStop). ending_at page (stop.Draw x)) memory
memory_ends counted before after OutputFails page (Err reason) stop.Output is wrote = absurd wrote

-- a page that was broken off was so by its source or for want of memory
pub cut_cases : (outcome : Result Drawn PageStop) → (IsWhole outcome → ⊥) → IsErrOf outcome draw.SourceFault ⊎ (outcome ≡ Err draw.NoMemory)
cut_cases (Ok page) cut = absurd (cut tt)
cut_cases (Err (draw.Fault fault at)) cut = absurd (cut tt)
cut_cases (Err draw.SourceFault) cut = inl refl
cut_cases (Err draw.NoMemory) cut = inr refl

-- of the pages that surely came to their end none is one that was broken off
pub sure_where_cut : (counted : Bool) (before after : Option (List ℕ)) (OutputFails : Type 0) (page written : ℕ) (outcome : Result Drawn PageStop) (why : WriteStop) → WroteOutcome counted before after OutputFails outcome (Err why)
    → (IsWhole outcome → ⊥) → sure_pages (ending_at page why) written ≡ written
sure_where_cut counted before after OutputFails page written outcome (stop.Draw (draw.Fault fault at)) wrote cut = absurd (cut (whole_outcome counted before after OutputFails page outcome (stop.Draw (draw.Fault fault at)) wrote tt))
sure_where_cut counted before after OutputFails page written outcome (stop.Draw draw.SourceFault) wrote cut = refl
sure_where_cut counted before after OutputFails page written outcome (stop.Draw draw.NoMemory) wrote cut = refl
sure_where_cut counted before after OutputFails page written outcome stop.Output wrote cut = absurd (cut (whole_outcome counted before after OutputFails page outcome stop.Output wrote tt))

-- and they are at most one more than were written
pub few_sure : (e : EndingValue) (written : ℕ) → sure_pages e written ≤ suc written
few_sure Written written = omega arith
few_sure Usage written = omega arith
few_sure (Document fault) written = omega arith
few_sure (Page page) written = omega arith
few_sure (Source page) written = omega arith
few_sure Input written = omega arith
few_sure (Output page) written = omega arith
few_sure Notes written = omega arith
few_sure Memory written = omega arith

-- a page that was written
pub wrote_it : (counted : Bool) (before after : Option (List ℕ)) (OutputFails : Type 0) (g : Setup) (reading : Reading) (i : ℕ) (done : ℕ) (outcome : Result Drawn PageStop) → IsOutcomeOf g reading i outcome
    → WroteOutcome counted before after OutputFails outcome (Ok done) → (page : DrawnValue) × IsValueOf g reading i (Ok page) × Appends before after (text_of page) × (done ≡ black_of counted page)
    × ((pages : List DrawnValue) → with_outcome outcome pages ≡ page ∷ pages)
wrote_it counted before after OutputFails g reading i done (Ok page) value wrote = (value_of_drawn page, value, wrote.0, wrote.1, λ pages. refl)
wrote_it counted before after OutputFails g reading i done (Err reason) value wrote = absurd wrote

-- one member is replaced
pub set_each : {A : Type 0} (P : ℕ → A → A → Type 0) (xs ws : List A) (n j : ℕ) (v : A) → j < length ws → ((d : A) → P j (get_or xs j d) v)
    → ((k : ℕ) (d : A) → k ≢ j → k < n → P k (get_or xs k d) (get_or ws k d)) → (k : ℕ) (d : A) → k < n → P k (get_or xs k d) (get_or (set ws j v) k d)
set_each P xs ws n j v inside new others k d lt = dite (ℕ_discrete k j)
    (λ e. subst (λ (m : ℕ). P m (get_or xs m d) (get_or (set ws j v) m d)) (sym e) (subst (λ x. P j (get_or xs j d) x) (sym (get_or-set_same ws j v d inside)) (new d)))
    (λ other. subst (λ x. P k (get_or xs k d) x) (sym (get_or-set_other ws j k v d other)) (others k d other lt))

pub only : {A : Type 0} (x y : A) (k : ℕ) → k < length (x ∷ []) → get_or (x ∷ []) k y ≡ y → x ≡ y
only x y zero lt e = e
only x y (suc k) lt e = absurd (omega arith)

-- of a list with a first member
pub cons_cases : {A : Type 0} (x : A) (xs : List A) (y : A) → Contains (x ∷ xs) y → (x ≡ y) ⊎ Contains xs y
cons_cases x xs y h = elim (Contains-append_cases (x ∷ []) xs y h) [
  | inl one ↦ inl (only x y one.0 one.1 one.2)
  | inr rest ↦ inr rest
]

-- none of these was broken off
abbrev pub AreWhole : List PageResult → Type 0
AreWhole results = (r : PageResult) → Contains results r → IsWhole r.outcome

-- the page of one of these results was broken off
abbrev pub CutAmong : List PageResult → ℕ → Type 0
CutAmong results p = (r : PageResult) × Contains results r × (r.page ≡ p) × (IsWhole r.outcome → ⊥)

pub none_cut : (results : List PageResult) → AreWhole results → (p : ℕ) → CutAmong results p → ⊥
none_cut results whole p c = c.3 (whole c.0 c.1)

abbrev pub NeverCut : ℕ → Type 0
NeverCut p = ⊥

pub bitmap_whole : (outcome : Result Drawn PageStop) → IsOk outcome → IsWhole outcome
bitmap_whole (Ok page) ok = tt
bitmap_whole (Err stop) ok = absurd cc

pub bitmap_sound : (outcome : Result Drawn PageStop) → IsOk outcome → IsErrOf outcome draw.SourceFault → ⊥
bitmap_sound (Ok page) ok failed = cc
bitmap_sound (Err stop) ok failed = absurd cc
