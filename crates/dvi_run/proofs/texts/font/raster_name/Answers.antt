use Rattle.std.proofs.Common.{◌≡◌, ◌∙◌, ◌++◌, ◌<◌, ◌^◌, ℕ, ℤ, pos, List, [], sym, ap, ap₂, append_assoc, append-nil, codes, decimal, arith, w64, to_z, of_z}
use Rattle.std.specs.Fmt.{signed_decimal}
use Rattle.std.proofs.lemmas.Int.{ints}
use Rattle.dvi_run.proofs.texts.font.raster_name.Goals as goal

-- the fault's own text after the code
after : (code own : List ℕ) → codes "pk runs " ++ code ++ (codes " " ++ own) ≡ codes "pk " ++ (codes "runs " ++ code ++ codes " " ++ own)
after code own = ap (λ (t : List ℕ). codes "pk runs " ++ t) (sym (append_assoc code (codes " ") own))

-- and a number after it
after_number : (code own number : List ℕ) → codes "pk runs " ++ code ++ (codes " " ++ own) ++ number ≡ codes "pk " ++ (codes "runs " ++ code ++ codes " " ++ (own ++ number))
after_number code own number =
    ap (λ (t : List ℕ). codes "pk runs " ++ t) (append_assoc code (codes " " ++ own) number) ∙ after code (own ++ number)

-- a code is printed as it is
code_is : (z : ℤ) (code : ℕ) → z ≡ pos code → code < 2 ^ 32 → to_z w64 (of_z w64 z) ≡ pos code
code_is z code is fits = omega (arith, ints, is, fits)

plain : (whole : List ℕ) (z : ℤ) (code : ℕ) (own : List ℕ) → z ≡ pos code → whole ≡ codes "pk runs " ++ signed_decimal z ++ (codes " " ++ own) ++ [] → whole ≡ codes "pk " ++ (codes "runs " ++ decimal code ++ codes " " ++ own)
plain whole z code own is h = h ∙ append-nil _ ∙ ap (λ (z : ℤ). codes "pk runs " ++ signed_decimal z ++ (codes " " ++ own)) is ∙ after (decimal code) own

pub returns-in-Short : goal.returns-in-Short
returns-in-Short c = rw c.in-Short.is (plain _ _ c.args.code (codes "short") (code_is _ c.args.code c.from-code.ensures c.ranges.code.fits) c.followed.ensures)

pub returns-in-Overrun : goal.returns-in-Overrun
returns-in-Overrun c = rw c.in-Overrun.is (plain _ _ c.args.code (codes "overrun") (code_is _ c.args.code c.from-code.ensures c.ranges.code.fits) c.followed-in-Overrun.ensures)

pub returns-in-SecondRepeat : goal.returns-in-SecondRepeat
returns-in-SecondRepeat c =
    let row : to_z w64 (of_z w64 c.from.result) ≡ pos c.in-SecondRepeat.row = omega (arith, ints) in
    rw c.in-SecondRepeat.is
    (c.followed-in-SecondRepeat.ensures
    ∙ ap₂ (λ (z w : ℤ). codes "pk runs " ++ signed_decimal z ++ codes " second repeat " ++ signed_decimal w) (code_is _ c.args.code c.from-code.ensures c.ranges.code.fits) row
    ∙ after_number (decimal c.args.code) (codes "second repeat ") (decimal c.in-SecondRepeat.row))

pub returns-in-TooManyRows : goal.returns-in-TooManyRows
returns-in-TooManyRows c = rw c.in-TooManyRows.is (plain _ _ c.args.code (codes "too many rows") (code_is _ c.args.code c.from-code.ensures c.ranges.code.fits) c.followed-in-TooManyRows.ensures)
