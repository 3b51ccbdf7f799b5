-- How many dots of a page can be black.
use Rattle.std.proofs.Common.{◌≡◌, ℕ, zero, suc, ◌*◌, ◌≤◌, Bool, true, false, List, [], ◌∷◌, length, arith, subst, sym, Ok}
use Rattle.std.specs.List.{count_by, sum_by}
use Rattle.std.proofs.Math.Nat.{mul-le-mul}
use Rattle.std.proofs.lemmas.List.Sums.{count_by-le-length, sum_by_push}
use Rattle.drift_rules.specs.Position.{State, at_origin}
use Rattle.drift_rules.specs.declared.flat.Registers.{Registers}
use Rattle.packed_rows.specs.Bitmap.{from_fn}
use Rattle.packed_rows.specs.Changes.{black_count}
use Rattle.packed_rows.proofs.Lists.{length-from_fn}
use Rattle.pixel_round.specs.Pixels.{Fraction, conversion}
use Rattle.raster_page.specs.Ink.{Inked, is_inked, page_of}
use Rattle.vf_expand.specs.Course.{Course, Gives, Asks, Lacks, Ends, Stops}
use Rattle.page_draw.specs.Members.{marks_from}
use Rattle.page_draw.specs.Sheets.{IsDrawable}
use Rattle.page_draw.specs.Values.{DrawnValue, EndsIn, drawn_of, ended_with}
use Rattle.page_index.specs.Document.{Reading}
use Rattle.dvi_run.specs.Pages.{Setup, IsValueOf, black_in}
use Rattle.dvi_run.specs.Rounds.{black_of}

few_in_rows : (w n : ℕ) (f : ℕ → List Bool) → ((y : ℕ) → length (f y) ≡ w) → sum_by (λ row. count_by (λ p. p) row) (from_fn n f) ≤ n * w
few_in_rows w zero f long = omega arith
few_in_rows w (suc n) f long =
    let less = few_in_rows w n f long in
    let more = sum_by_push (λ (row : List Bool). count_by (λ p. p) row) (from_fn n f) (f n) in
    let row = count_by-le-length (λ (p : Bool). p) (f n) in
    omega (arith, less, more, row, long n)

few_in_page : (w h : ℕ) (marks : List Inked) → black_count (page_of w h marks) ≤ h * w
few_in_page w h marks = few_in_rows w h (λ y. from_fn w (λ x. is_inked marks x y)) (λ y. length-from_fn w (λ x. is_inked marks x y))

-- a page that came to a bitmap came to that of its marks
ended : (saved : List Registers) (eop : ℕ) (b page : DrawnValue) → Ok page ≡ ended_with saved eop b → page ≡ b
ended [] eop b page is = cc
ended (r ∷ saved) eop b page is = cc

drawn : (c : Fraction) (s : State) (b : DrawnValue) (to : Course) (page : DrawnValue) → EndsIn c s b to (Ok page) → page ≡ b
drawn c s b (Gives f g at rest) page h = let is = h.2 in cc
drawn c s b (Asks k at rest) page h = absurd h
drawn c s b (Lacks f at rest) page h = absurd h
drawn c s b (Ends at) page h = ended s.saved at b page h
drawn c s b (Stops fault at) page h = cc

-- no more than the sheet has
pub few_on_sheet : (g : Setup) (reading : Reading) (i : ℕ) (page : DrawnValue) → IsDrawable g.sheet → IsValueOf g reading i (Ok page) → black_in page ≤ 20000 * 20000
few_on_sheet g reading i page sheet value =
    let has = value.1.has in
    let is : page ≡ drawn_of (conversion value.1.units) g.sheet has.members = drawn (conversion value.1.units) has.state (drawn_of (conversion value.1.units) g.sheet has.members) has.to page has.ends in
    let few = few_in_page g.sheet.width g.sheet.height (marks_from (conversion value.1.units) g.sheet at_origin has.members) in
    let all : g.sheet.height * g.sheet.width ≤ 20000 * 20000 = mul-le-mul sheet.height sheet.width in
    subst (λ (b : DrawnValue). black_in b ≤ 20000 * 20000) (sym is) (omega (arith, few, all))

pub few_counted : (counted : Bool) (page : DrawnValue) → black_in page ≤ 20000 * 20000 → black_of counted page ≤ 20000 * 20000
few_counted true page few = few
few_counted false page few = omega arith
