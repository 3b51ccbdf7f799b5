-- The calls of one worker: what the fonts weigh, and how many files were loaded for them.
use Rattle.std.proofs.Common.{◌≡◌, ℕ, ◌+◌, ◌-◌, ◌≤◌, List, [], ◌∷◌, ◌++◌, length, get_or, Option, Some, sym, ap, subst, ◌∙◌, arith}
use Rattle.std.specs.Prelude.{IfSome, ◌^◌, min}
use Rattle.outside.specs.Library.{FileTable}
use Rattle.outside.specs.declared.keys.FontKey.{FontKey}
use Rattle.pixel_round.specs.declared.units.Units.{Units}
use Rattle.cache_core.specs.declared.calls.Call.{Call}
use Rattle.cache_core.specs.Histories.{AllWeigh, SeatCalls, WeighSo, own}
use Rattle.cache_core.proofs.Weights.{weigh_as, weigh_first, weigh_joined, weigh_second, weight_there}
use Rattle.font_decode.specs.Desks.{LoadedFiles, files_loaded, misses}
use Rattle.font_decode.specs.Weights.{IsWeightOf, OneWeightInALibrary}
use Rattle.page_index.specs.Document.{Reading}
use Rattle.page_index.specs.Pages.{document_units}
use Rattle.page_workers.specs.declared.worker.Worker.{Worker}
use Rattle.dvi_run.specs.Pages.{Setup, finding}
use Rattle.dvi_run.specs.Looked.{WholeLooks}
use Rattle.dvi_run.specs.OneWorker.{OneWorkerHasOneHistory}
use Rattle.dvi_run.specs.Outside.{setup_of}
use Rattle.dvi_run.specs.Report.{loads_of}
use Rattle.dvi_run.specs.Rounds.{LoadsAreOf, indexed_of}

-- ---- the weights

-- the calls of two runs weigh by one function of keys
pub weigh_alike : (one : OneWeightInALibrary) (g : Setup) (files : FileTable) (known : g.library ≡ Some files) (r : Reading) (pages : List ℕ) (keys : List FontKey) (xs ys : List Call) → WholeLooks (finding g r) (indexed_of g r) g.sheet pages keys
    → SeatCalls keys xs → SeatCalls keys ys → AllWeigh (IsWeightOf g.library (document_units g.res r)) xs → AllWeigh (IsWeightOf g.library (document_units g.res r)) ys → (weight : FontKey → ℕ) × WeighSo weight xs × WeighSo weight ys
weigh_alike one g files known r [] keys xs ys none for_xs for_ys p q =
    let no_call : xs ≡ [] = subst (λ (ks : List FontKey). SeatCalls ks xs) none for_xs in
    let neither : ys ≡ [] = subst (λ (ks : List FontKey). SeatCalls ks ys) none for_ys in
    ((λ k. 0), subst (WeighSo (λ k. 0)) (sym no_call) tt, subst (WeighSo (λ k. 0)) (sym neither) tt)
weigh_alike one g files known r (page ∷ pages) keys xs ys looked for_xs for_ys p q =
    let u = looked.3.1.units in
    let is : document_units g.res r ≡ Some u = looked.3.1.of_document in
    let Here : FontKey → ℕ → Type 0 = IsWeightOf (Some files) (Some u) in
    let here : (cs : List Call) → AllWeigh (IsWeightOf g.library (document_units g.res r)) cs → AllWeigh Here cs =
    λ cs all. subst (λ (o : Option Units). AllWeigh (IsWeightOf (Some files) o) cs) is (subst (λ (o : Option FileTable). AllWeigh (IsWeightOf o (document_units g.res r)) cs) known all) in
    let there = weight_there Here (one files u) (xs ++ ys) (weigh_joined Here xs ys (here xs p) (here ys q)) in
    (there.0, weigh_first _ xs ys there.1, weigh_second _ xs ys there.1)

-- ---- the loads

-- the same pages, look-ups and calls have as many loads
pub same_loads : (V W : Type 0) (v : V) (w : W) (g : Setup) (files : FileTable) (known : g.library ≡ Some files) (r : Reading) (pages : List ℕ) (keys : List FontKey) (calls : List Call) (m n : ℕ) → WholeLooks (finding g r) (indexed_of g r) g.sheet pages keys
    → SeatCalls keys calls → LoadsAreOf V g r calls m → LoadsAreOf W g r calls n → m ≡ n
same_loads V W v w g files known r [] keys calls m n none for_keys a b =
    let no_call : calls ≡ [] = subst (λ (ks : List FontKey). SeatCalls ks calls) none for_keys in
    let no_miss : misses calls ≡ 0 = ap misses no_call in
    let few = a.few in
    let also = b.few in
    omega (arith, no_miss, few, also)
same_loads V W v w g files known r (page ∷ pages) keys calls m n looked for_keys a b =
    let u = looked.3.1.units in
    let is : document_units g.res r ≡ Some u = looked.3.1.of_document in
    let just : (X : Type 0) (x : X) (k : ℕ) → LoadsAreOf X g r calls k → k ≡ min (0 + files_loaded files u calls) (2 ^ 64 - 1) =
    λ X x k h.
    (subst (λ (o : Option Units). IfSome o (λ y. LoadedFiles X (files_loaded files y calls) 0 k)) is
    (subst (λ (o : Option FileTable). IfSome o (λ l. IfSome (document_units g.res r) (λ y. LoadedFiles X (files_loaded l y calls) 0 k))) known h.files)).just x (omega arith) in
    just V v m a ∙ sym (just W w n b)

pub one_loads : {F : Type 0} (ws : List (Worker F)) (d : Worker F) → 1 ≤ length ws → loads_of 1 ws ≡ (get_or ws 0 d).loads
one_loads [] d long = absurd (omega (arith, long))
one_loads (x ∷ ws) d long = omega arith

-- ---- the history by the weights of keys

pub one_history_by : (F : Type 0) → OneWeightInALibrary → OneWorkerHasOneHistory F
one_history_by F one task files reading history end after units weight single unbroken known is weighs drew =
    let so : AllWeigh (IsWeightOf (Some files) (Some units)) (own 1 history) =
    subst (λ (o : Option Units). AllWeigh (IsWeightOf (Some files) o) (own 1 history)) is (subst (λ (o : Option FileTable). AllWeigh (IsWeightOf o (document_units (setup_of task).res reading)) (own 1 history)) known drew.weighed) in
    drew.one single unbroken weight (weigh_as (IsWeightOf (Some files) (Some units)) (λ k w. w ≡ weight k) (λ k w h. one files units k w (weight k) h (weighs k)) (own 1 history) so)
