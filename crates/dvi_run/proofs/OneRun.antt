-- Bytes are one document, and over known font files each page has one value.
use Rattle.std.proofs.Common.{◌≡◌, ◌≤◌, ℕ, suc, List, [], ◌∷◌, ◌++◌, length, append-nil, arith, refl, sym, ap, ap₂, subst, ◌∙◌, inl, inr, Option, Some, None}
use Rattle.std.specs.Prelude.{IsSome, unwrap_or}
use Rattle.std.proofs.lemmas.Bool.{cases_lt}
use Rattle.std.proofs.lemmas.List.{length-append}
use Rattle.std.specs.Io.KnownBytes.{Appends}
use Rattle.outside.specs.Library.{FileTable}
use Rattle.outside.specs.declared.keys.FontKey.{FontKey}
use Rattle.pixel_round.specs.declared.units.Units.{Units}
use Rattle.page_index.specs.Document.{Reading, pages_begun}
use Rattle.page_index.specs.Pages.{Indexed, document_units}
use Rattle.font_decode.specs.Decoding.{IsFontIn, IsFontOf}
use Rattle.page_draw.specs.Values.{PageValue}
use Rattle.page_draw.specs.Drawn.{IsPageValue}
use Rattle.page_draw.specs.Laws.{PagesHaveOneValue}
use Rattle.dvi_run.specs.Pages.{FailingPage, Setup, HaveValues, IsRun, IsValueOf, IsWholeRun, run_fault, run_text}
use Rattle.dvi_run.specs.Laws.{GoodRunsWriteAlike, OneReading, OneRun, RunsHavePrefixes, StoppedRunsWriteAlike}
use Rattle.dvi_run.proofs.Prefixes.{faults_end_the_run, prefix_is_good}

pub is_there : (o : Option ℕ) → IsSome o → o ≡ Some (unwrap_or o 0)
is_there None some = cc
is_there (Some at) some = refl

-- ---- the first values

first_values : (g : Setup) (r : Reading) (i : ℕ) (values rest : List PageValue) → HaveValues g r i (values ++ rest) → HaveValues g r i values
first_values g r i [] rest have = tt
first_values g r i (v ∷ values) rest have = (have.0, first_values g r (suc i) values rest have.1)

pub prefixes : RunsHavePrefixes
prefixes g bytes reading values rest run = record {
  document = run.document;
  pages = record {
    few = let few = run.pages.few in let size = length-append values rest in omega (arith, few, size);
    are = first_values g reading 0 values rest run.pages.are;
  };
}

-- ---- one value

module _ (one : PagesHaveOneValue) (g : Setup) (files : FileTable) (known : g.library ≡ Some files) where
  abbrev indexed : Reading → Indexed
  indexed r = record { res = g.res; reading = r }

  pub found : (r : Reading) (i : ℕ) (v : PageValue) (looks : List FontKey) (u : Units) → document_units g.res r ≡ Some u
      → IsPageValue (IsFontOf g.library (document_units g.res r)) (indexed r) g.sheet i v looks → IsPageValue (IsFontIn files u) (indexed r) g.sheet i v looks
  found r i v looks u is value =
      subst (λ (m : Option Units). IsPageValue (IsFontOf (Some files) m) (indexed r) g.sheet i v looks) is
      (subst (λ (o : Option FileTable). IsPageValue (IsFontOf o (document_units g.res r)) (indexed r) g.sheet i v looks) known value)

  same_value : (r : Reading) (i : ℕ) (v w : PageValue) → IsValueOf g r i v → IsValueOf g r i w → v ≡ w
  same_value r i v w a b =
      let u = a.1.units in
      let is = a.1.of_document in
      (one files u (indexed r) g.sheet i v w a.0 b.0 (found r i v a.0 u is a.1) (found r i w b.0 u is b.1)).0

  pub longer : (r : Reading) (i : ℕ) (v w : List PageValue) → HaveValues g r i v → HaveValues g r i w → length v ≤ length w → (rest : List PageValue) × (w ≡ v ++ rest)
  longer r i [] w a b le = (w, refl)
  longer r i (x ∷ v) [] a b le = absurd (omega (arith, le))
  longer r i (x ∷ v) (y ∷ w) a b le =
      let more = longer r (suc i) v w a.1 b.1 (omega (arith, le)) in
      (more.0, ap₂ (λ (p : PageValue) (ps : List PageValue). p ∷ ps) (same_value r i y x b.0 a.0) more.1)

pub one_run : PagesHaveOneValue → OneReading → OneRun
one_run one reading g files bytes r s v w known a b le =
    let same : r ≡ s = reading g bytes r s v w a b in
    longer one g files known s 0 v w (subst (λ (x : Reading). HaveValues g x 0 v) same a.pages.are) b.pages.are le

-- ---- two lists of one run

module _ (reading : OneReading) (one : OneRun) (g : Setup) (files : FileTable) (known : g.library ≡ Some files) (bytes : List ℕ) where
  -- one fails where the other does
  pub ends_once : (r s : Reading) (v w : List PageValue) (p q : FailingPage) → IsRun g bytes r v → IsRun g bytes s w → run_fault v ≡ Some p → run_fault w ≡ Some q → p ≡ q
  ends_once r s v w p q a b is other = elim (cases_lt (length v) (length w)) [
    | inl shorter ↦ shorter_first r s v w p q a b is other (omega (arith, shorter))
    | inr longer ↦ sym (shorter_first s r w v q p b a other is longer)
  ]
    where
      shorter_first : (r s : Reading) (v w : List PageValue) (p q : FailingPage) → IsRun g bytes r v → IsRun g bytes s w → run_fault v ≡ Some p → run_fault w ≡ Some q
          → length v ≤ length w → p ≡ q
      shorter_first r s v w p q a b is other le =
          let more = one g files bytes r s v w known a b le in
          let same : Some p ≡ Some q = sym (faults_end_the_run v more.0 p is).0 ∙ ap run_fault (sym more.1) ∙ other in
          cc

  -- where all pages have bitmaps, the first ones do
  pub all_good : (r s : Reading) (v w : List PageValue) → IsWholeRun g bytes r v → run_fault v ≡ None → IsRun g bytes s w → run_fault w ≡ None
  all_good r s v w a good b =
      let same : r ≡ s = reading g bytes r s v w a.run b in
      let few : length w ≤ length v = rw a.all (rw same b.pages.few) in
      let more = one g files bytes s r w v known b a.run few in
      prefix_is_good w more.0 (ap run_fault (sym more.1) ∙ good)

-- ---- what two runs wrote

none_after : (v rest : List PageValue) → length (v ++ rest) ≤ length v → run_text (v ++ rest) ≡ run_text v
none_after v [] le = ap run_text (append-nil v)
none_after v (x ∷ rest) le = let size = length-append v (x ∷ rest) in absurd (omega (arith, le, size))

module _ (reading : OneReading) (one : OneRun) (g : Setup) (files : FileTable) (known : g.library ≡ Some files) (bytes : List ℕ) where
  -- all pages
  all_alike : (r s : Reading) (v w : List PageValue) → IsRun g bytes r v → IsRun g bytes s w → length v ≡ pages_begun r → length w ≡ pages_begun s → run_text v ≡ run_text w
  all_alike r s v w a b all other =
      let same = ap pages_begun (reading g bytes r s v w a b) in
      let le : length v ≤ length w = omega (arith, all, other, same) in
      let ge : length w ≤ length v = omega (arith, all, other, same) in
      let more = one g files bytes r s v w known a b le in
      sym (none_after v more.0 (subst (λ (l : List PageValue). length l ≤ length v) more.1 ge)) ∙ ap run_text (sym more.1)

  -- the pages before the first without a bitmap
  stopped_alike : (r s : Reading) (v w : List PageValue) (p q : FailingPage) → IsRun g bytes r v → IsRun g bytes s w → run_fault v ≡ Some p → run_fault w ≡ Some q → run_text v ≡ run_text w
  stopped_alike r s v w p q a b is other = elim (cases_lt (length v) (length w)) [
    | inl shorter ↦ shorter_alike r s v w p a b is (omega (arith, shorter))
    | inr longer ↦ sym (shorter_alike s r w v q b a other longer)
  ]
    where
      shorter_alike : (r s : Reading) (v w : List PageValue) (p : FailingPage) → IsRun g bytes r v → IsRun g bytes s w → run_fault v ≡ Some p → length v ≤ length w → run_text v ≡ run_text w
      shorter_alike r s v w p a b is le =
          let more = one g files bytes r s v w known a b le in
          sym (faults_end_the_run v more.0 p is).1 ∙ ap run_text (sym more.1)

pub good_alike : OneReading → OneRun → GoodRunsWriteAlike
good_alike reading one g files bytes old new other later known a b = (
  run_text a.1,
  a.3.grew,
  subst (λ (t : List ℕ). Appends other later t)
      (sym (all_alike reading one g files known bytes a.0 b.0 a.1 b.1 a.2 b.2 a.3.all b.3.all)) b.3.grew,
)

pub refused_alike : OneReading → OneRun → StoppedRunsWriteAlike
refused_alike reading one g files bytes old new other later p q known a b = (
  ends_once reading one g files known bytes a.0 b.0 a.1 b.1 p q a.2 b.2 a.3.fails b.3.fails,
  (
    run_text a.1,
    a.3.grew,
    subst (λ (t : List ℕ). Appends other later t)
        (sym (stopped_alike reading one g files known bytes a.0 b.0 a.1 b.1 p q a.2 b.2 a.3.fails b.3.fails)) b.3.grew,
  ),
)
