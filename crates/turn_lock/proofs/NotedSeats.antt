-- A turn in which a seat was noted in the diary, or wasn't.
use Rattle.std.proofs.Common.{◌≡◌, ℕ, List, [], ◌∷◌, ◌++◌, refl, ap, sym, ◌∙◌, append-nil}
use Rattle.std.specs.Prelude.{Result, Ok, Err, OnOk, OnErr}
use Rattle.turn_lock.specs.Diaries.{call_by, calls_by}
use Rattle.turn_lock.specs.Histories.{Grows}

pub grows_noted : {A E : Type 0} (n : ℕ) (before after : List ℕ) (noted : Result A E)
    → OnOk noted (calls_by after ≡ calls_by before ++ call_by n ∷ []) → OnErr noted (after ≡ before) → Grows n (calls_by before) (calls_by after)
grows_noted n before after (Ok u) more same = (call_by n ∷ [], (refl, tt), more)
grows_noted n before after (Err e) more same = ([], tt, ap calls_by same ∙ sym (append-nil (calls_by before)))
