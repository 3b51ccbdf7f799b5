-- What a read takes from the bytes that are left.
use Rattle.std.proofs.Common.{◌≡◌, ◌∙◌, ◌≤◌, ◌<◌, ◌+◌, ◌-◌, ◌++◌, ℕ, List, [], length, take, drop, length-drop, arith, min, sym, ap}
use Rattle.std.proofs.lemmas.List.{drop-drop, take-append-drop}
use Rattle.std.proofs.Math.Seq.{take-add}
use Rattle.std.proofs.lemmas.Grind.{common_steps}
use Rattle.outside.proofs.Growth.{to_end}

-- the bytes are those that a read gave, and then those that are left
pub taken : (xs text buf : List ℕ) (at n : ℕ) → text ≡ xs → take n buf ≡ take n (take (length text - at) (drop at text))
    → drop at xs ≡ take n buf ++ drop (at + n) xs
taken xs text buf at n same copied =
    let is : take n buf ≡ take n (drop at xs) = copied ∙ (ap (take n) (to_end text at) ∙ ap (λ t. take n (drop at t)) same) in
    sym (take-append-drop n (drop at xs)) ∙ (ap (λ w. w ++ drop n (drop at xs)) (sym is) ∙ ap (λ w. take n buf ++ w) (drop-drop n at xs))

-- what was given before, and then by this read
pub given : (xs text buf : List ℕ) (at n : ℕ) → text ≡ xs → take n buf ≡ take n (take (length text - at) (drop at text))
    → take (at + n) xs ≡ take at xs ++ take n buf
given xs text buf at n same copied =
    let is : take n buf ≡ take n (drop at xs) = copied ∙ (ap (take n) (to_end text at) ∙ ap (λ t. take n (drop at t)) same) in
    take-add at n xs ∙ ap (λ w. take at xs ++ w) (sym is)

-- a read gives no byte only at the end
pub all_taken : (xs text : List ℕ) (at piece room n : ℕ) → text ≡ xs → at ≤ length xs → 1 ≤ piece → n ≡ min (length (take (length text - at) (drop at text))) (min piece room)
    → n ≡ 0 → 0 < room → drop (at + n) xs ≡ []
all_taken xs text at piece room n same inside some count none room_left =
    let left : length (take (length text - at) (drop at text)) ≡ length xs - at = ap length (to_end text at) ∙ (length-drop at text ∙ ap (λ t. length t - at) same) in
    none_left xs at n (omega arith)
  where
    none_left : (xs : List ℕ) (at n : ℕ) → length xs ≤ at + n → drop (at + n) xs ≡ []
    none_left xs at n e = grind (arith, common_steps)
