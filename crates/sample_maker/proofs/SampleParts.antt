-- The pages and the files of the sample, a piece more.
use Rattle.std.proofs.Common.{◌≡◌, ◌∙◌, ℕ, zero, suc, ◌+◌, List, ◌++◌, sym, ap, arith, append_assoc, append-nil}
use Rattle.std.specs.List.{repeat}
use Rattle.std.specs.FinMap.{insert}
use Rattle.outside.specs.Library.{FileTable}

pub repeat_more : (n : ℕ) (xs : List ℕ) → repeat (n + 1) xs ≡ repeat n xs ++ xs
repeat_more zero xs = append-nil xs
repeat_more (suc n) xs =
    let one : suc n + 1 ≡ suc (n + 1) = omega arith in
    ap (λ k. repeat k xs) one ∙ ap (λ t. xs ++ t) (repeat_more n xs) ∙ sym (append_assoc xs (repeat n xs) xs)

pub one_file : (before now told : FileTable) (name bytes text : List ℕ) → now ≡ insert before name bytes → before ≡ told → bytes ≡ text → now ≡ insert told name text
one_file before now told name bytes text e eb et = e ∙ ap (λ (m : FileTable). insert m name bytes) eb ∙ ap (λ (t : List ℕ). insert told name t) et
