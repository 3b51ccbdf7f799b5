-- Loads that are added to a count.
use Rattle.std.proofs.Common.{ℕ, ◌+◌, ◌^◌, ◌≤◌, Option, Some, None, Result, Ok, Err, arith}
use Rattle.std.specs.Prelude.{IfSome, OnOk}
use Rattle.outside.specs.Library.{FileTable}
use Rattle.font_decode.specs.Loads.{RoseBy, RoseUpTo, MAX_LOADS}

pub added_just : {A E : Type 0} (r : Result A E) (o : Option FileTable) (n : FileTable → ℕ) (from more : ℕ) → more ≤ MAX_LOADS → from + 8 ≤ 2 ^ 62 → OnOk r (IfSome o (λ l. RoseBy (n l) 0 more))
    → OnOk r (IfSome o (λ l. RoseBy (n l) from (from + more)))
added_just (Err e) o n from more few room h = tt
added_just (Ok a) None n from more few room h = tt
added_just (Ok a) (Some l) n from more few room h = λ lt. let all = h (omega arith) in omega (arith, few, room, all)

pub added_most : (o : Option FileTable) (n : FileTable → ℕ) (from more : ℕ) → IfSome o (λ l. RoseUpTo (n l) 0 more) → IfSome o (λ l. RoseUpTo (n l) from (from + more))
added_most None n from more h = tt
added_most (Some l) n from more h = let most = h.most in record { most = omega (arith, most); never_falls = omega arith }
