-- By what a list grew.
use Rattle.std.proofs.Common.{length, drop, ◌≡◌, List, [], ◌++◌, sym, ap, ◌∙◌, append_assoc, append-nil, arith}
use Rattle.std.proofs.lemmas.List.{drop-append-le, drop_all, length-append}

pub none_since : {A : Type 0} (xs : List A) → drop (length xs) xs ≡ []
none_since xs = drop_all (length xs) xs (omega arith)

pub still_since : {A : Type 0} (xs : List A) → xs ≡ xs ++ drop (length xs) xs
still_since xs = sym (ap (λ l. xs ++ l) (none_since xs) ∙ append-nil xs)

-- and by some more
pub more_since : {A : Type 0} (base old new more : List A) → old ≡ base ++ drop (length base) old → new ≡ old ++ more → drop (length base) new ≡ drop (length base) old ++ more
more_since base old new more grew is =
    let long = ap length grew in
    let parts = length-append base (drop (length base) old) in
    ap (drop (length base)) is ∙ drop-append-le (length base) old more (omega (arith, long, parts))

pub grew_more : {A : Type 0} (base old new more : List A) → old ≡ base ++ drop (length base) old → new ≡ old ++ more → new ≡ base ++ drop (length base) new
grew_more base old new more grew is =
    is ∙ ap (λ l. l ++ more) grew ∙ append_assoc base (drop (length base) old) more ∙ ap (λ l. base ++ l) (sym (more_since base old new more grew is))
