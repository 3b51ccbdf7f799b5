-- Over known files of bytes a document has one list of the values of all its pages.
use Rattle.std.proofs.Common.{◌≡◌, ◌<◌, ℕ, zero, suc, List, [], ◌∷◌, ◌++◌, length, append-nil, arith, refl, sym, ap, subst, ◌∙◌, eqb-true, Option, Some, None}
use Rattle.std.specs.Prelude.{IsSome, slice_index}
use Rattle.std.specs.Option.{option_map}
use Rattle.std.proofs.lemmas.List.{length-append}
use Rattle.outside.specs.Library.{FileTable}
use Rattle.pixel_round.specs.declared.units.Units.{Units}
use Rattle.dvi_commands.specs.Spelling.{DviCommand, Preamble, Pre, Spells}
use Rattle.dvi_commands.specs.Reading.{Placed, command_of}
use Rattle.dvi_commands.proofs.Determined.{determined_by_bytes}
use Rattle.page_index.specs.Document.{IsDocument, Reading, Sound, pages_begun, preamble_of, preamble_or, units_of}
use Rattle.page_index.specs.Pages.{Indexed, document_units}
use Rattle.font_decode.specs.Decoding.{IsFontOf}
use Rattle.font_decode.specs.Laws.{AreByteFiles}
use Rattle.page_draw.specs.Values.{PageValue}
use Rattle.page_draw.specs.Drawn.{IsPageValue}
use Rattle.page_draw.specs.Laws.{EachPageHasOneValue}
use Rattle.dvi_run.specs.Pages.{Setup, HaveValues, IsRun, IsValueOf}
use Rattle.dvi_run.specs.Laws.{EachDocumentHasOneRun, OneReading, OneRun}

-- ---- a document begins with a preamble, and so has units

first_is : (bytes : List ℕ) (op : ℕ) → 0 < op → slice_index bytes 0 ≡ op → (fields : List ℕ) × (bytes ≡ op ∷ fields)
first_is [] op some e = absurd (omega (arith, e, some))
first_is (b ∷ fields) op some e = (fields, ap (λ x. x ∷ fields) e)

is_pre : (c : DviCommand) (bytes : List ℕ) → Spells c bytes → slice_index bytes 0 ≡ 247 → (p : Preamble) × (c ≡ Pre p)
is_pre c bytes h e =
    let first = first_is bytes 247 (omega arith) e in
    (_, determined_by_bytes c bytes h ∙ ap command_of first.1)

keeps : (o : Option Preamble) (c : DviCommand) → IsSome o → IsSome (preamble_or o c)
keeps o (Pre x) some = refl
keeps o _ some = some

has_preamble : (res : ℕ) (p : Placed) (before : Reading) → Sound res (p ∷ before) → IsSome (preamble_of (p ∷ before))
has_preamble res p [] s =
    let op : slice_index p.bytes 0 ≡ 247 = eqb-true (slice_index p.bytes 0) 247 s.1.allowed in
    let pre = is_pre p.command p.bytes s.1.spelled op in
    subst (λ (c : DviCommand). IsSome (preamble_or None c)) (sym pre.1) refl
has_preamble res p (q ∷ before) s = keeps (preamble_of (q ∷ before)) p.command (has_preamble res q before s.0)

units_there : (res : ℕ) (o : Option Preamble) → IsSome o → (p : Preamble) × (o ≡ Some p)
units_there res None some = absurd cc
units_there res (Some p) some = (p, refl)

has_units : (res : ℕ) (bytes : List ℕ) (r : Reading) → IsDocument res bytes r → (u : Units) × (document_units res r ≡ Some u)
has_units res bytes [] d = absurd cc (d.ended)
has_units res bytes (p ∷ before) d =
    let there = units_there res (preamble_of (p ∷ before)) (has_preamble res p before d.sound) in
    (units_of res there.0, ap (λ (o : Option Preamble). option_map (units_of res) o) there.1)

-- ---- a value for each page

module _ (exactly : EachPageHasOneValue) (g : Setup) (files : FileTable) (known : g.library ≡ Some files) (byte_files : AreByteFiles files)
    (r : Reading) (u : Units) (is : document_units g.res r ≡ Some u) where
  abbrev indexed : Indexed
  indexed = record { res = g.res; reading = r }

  value_of : (i : ℕ) → (value : PageValue) × IsValueOf g r i value
  value_of i =
      let one = exactly files u indexed g.sheet i byte_files is in (
        one.value,
        (
          one.looks,
          subst (λ (o : Option FileTable). IsPageValue (IsFontOf o (document_units g.res r)) indexed g.sheet i one.value one.looks) (sym known)
              (subst (λ (m : Option Units). IsPageValue (IsFontOf (Some files) m) indexed g.sheet i one.value one.looks) (sym is) one.has),
        ),
      )

  values_from : (n i : ℕ) → (values : List PageValue) × (length values ≡ n) × HaveValues g r i values
  values_from zero i = ([], refl, tt)
  values_from (suc n) i =
      let first = value_of i in
      let more = values_from n (suc i) in
      (first.0 ∷ more.0, ap suc more.1, (first.1, more.2))

-- ---- exactly one

same_length : (one : OneRun) (g : Setup) (files : FileTable) (bytes : List ℕ) (r s : Reading) (v w : List PageValue) → g.library ≡ Some files
    → IsRun g bytes r v → IsRun g bytes s w → length v ≡ length w → w ≡ v
same_length one g files bytes r s v w known a b same =
    let more = one g files bytes r s v w known a b (omega (arith, same)) in
    by more.0 more.1
  where
    by : (rest : List PageValue) → w ≡ v ++ rest → w ≡ v
    by [] e = e ∙ append-nil v
    by (x ∷ rest) e = absurd (omega (arith, same, ap length e, length-append v (x ∷ rest)))

pub each_has_one : EachPageHasOneValue → OneReading → OneRun → EachDocumentHasOneRun
each_has_one exactly reading one g files bytes r byte_files known d =
    let units = has_units g.res bytes r d in
    let made = values_from exactly g files known byte_files r units.0 units.1 (pages_begun r) 0 in
    let size : length made.0 ≡ pages_begun r = made.1 in
    let run : IsRun g bytes r made.0 = record { document = d; pages = record { few = omega (arith, size); are = made.2 } } in
    record {
      values = made.0;
      whole = record { run = run; all = size };
      only = λ s others other.
          let same : r ≡ s = reading g bytes r s made.0 others run other.run in
          same_length one g files bytes r s made.0 others known run other.run (size ∙ ap pages_begun same ∙ sym other.all);
    }
