-- A mark is set on a page of marks.
use Rattle.std.proofs.Common.{◌≡◌, ℕ, ◌+◌, ◌^◌, ◌≤◌, ℤ, pos, ◌+ℤ◌, List, [], ◌∷◌, ◌++◌, sym, ap, ap₂, ◌∙◌, arith, w64, to_z, of_z}
use Rattle.std.specs.Prelude.{unsigned_abs}
use Rattle.std.proofs.lemmas.Int.{ints}
use Rattle.packed_rows.specs.Bitmap.{Bitmap}
use Rattle.raster_page.specs.Ink.{Inked, page_of}
use Rattle.raster_page.proofs.MarkedPages.{newest_may_stand_last}
use Rattle.packed_rows.specs.declared.offset.TheConstants.{MAX_COORDINATE}
use Rattle.raster_page.specs.Limits.{MAX_PAGE_SIDE}
use Rattle.page_draw.specs.declared.sheet.Sheet.{Sheet}

own_sides : (page : Bitmap) (w h : ℕ) (done : List Inked) → page ≡ page_of w h done → page_of w h done ≡ page_of page.width page.height done
own_sides page w h done is = ap₂ (λ (a b : ℕ). page_of a b done) (sym (ap (λ (p : Bitmap). p.width) is)) (sym (ap (λ (p : Bitmap). p.height) is))

pub inked_by : (page new : Bitmap) (sheet : Sheet) (set : Inked) (inks : List Inked) → set ∷ [] ≡ inks
    → ((marks : List Inked) → page ≡ page_of page.width page.height marks → new ≡ page_of page.width page.height (set ∷ marks))
    → (done : List Inked) → page ≡ page_of sheet.width sheet.height done → new ≡ page_of sheet.width sheet.height (done ++ inks)
inked_by page new sheet set inks are marks done has =
    marks done (has ∙ own_sides page sheet.width sheet.height done has)
    ∙ ap₂ (λ (a b : ℕ). page_of a b (set ∷ done)) (ap (λ (p : Bitmap). p.width) has) (ap (λ (p : Bitmap). p.height) has)
    ∙ sym (newest_may_stand_last sheet.width sheet.height done set)
    ∙ ap (λ (set : List Inked). page_of sheet.width sheet.height (done ++ set)) are

-- ---- sums that fit

abbrev pub kept : ℤ → ℤ
kept z = to_z w64 (of_z w64 z)

-- a margin is added
pub kept_sum : (z : ℤ) (n : ℕ) → unsigned_abs z + 2 ^ 20 ≤ MAX_COORDINATE → n ≤ MAX_PAGE_SIDE → kept (z +ℤ pos n) ≡ z +ℤ pos n
kept_sum z n near few = omega (arith, ints)
