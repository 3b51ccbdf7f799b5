-- Pages on tolerant sheets and on others.
use Rattle.std.proofs.Common.{◌≡◌, ◌∙◌, ℕ, zero, suc, Bool, true, false, List, [], ◌∷◌, ◌++◌, refl, sym, ap, ap₂, subst, Option, Some, None, Result, Ok, Err}
use Rattle.std.specs.Prelude.{not, unwrap_or}
use Rattle.std.specs.List.{filter}
use Rattle.std.proofs.lemmas.Bool.Decides.{Decides-int_eq}
use Rattle.outside.specs.declared.keys.FontKey.{FontKey}
use Rattle.pixel_round.specs.Pixels.{conversion, Fraction}
use Rattle.cache_core.proofs.SameKeys.{key_is_itself}
use Rattle.drift_rules.specs.Position.{FlatCommand, State, state_after, at_origin}
use Rattle.drift_rules.specs.Marks.{mark_of}
use Rattle.drift_rules.specs.declared.faults.PenFault.{PenFault}
use Rattle.drift_rules.specs.declared.faults.PenFault.TheVariants.{StackLeft}
use Rattle.drift_rules.specs.declared.flat.Mark.{Mark}
use Rattle.drift_rules.specs.declared.flat.Mark.TheVariants as mark
use Rattle.drift_rules.specs.declared.flat.Registers.{Registers}
use Rattle.pk_runs.specs.declared.glyph.Glyph.{Glyph}
use Rattle.page_index.specs.Document.{Reading}
use Rattle.page_index.specs.Pages.{eop_at, page_commands}
use Rattle.font_decode.specs.Decoding.{IsFontOf}
use Rattle.font_decode.specs.declared.font_or_fault.Decoded.{Decoded}
use Rattle.font_decode.specs.declared.faults.FileKind.TheVariants as kind
use Rattle.font_decode.specs.declared.faults.FontFault.TheVariants as file
use Rattle.raster_page.specs.Ink.{Inked, page_of}
use Rattle.vf_expand.specs.Course.{Course, Gives, Asks, Lacks, Ends, Stops, NoFont, course_of, cut, page_from}
use Rattle.vf_expand.specs.Expansion.{HasNoLack}
use Rattle.vf_expand.specs.Faults.{PageFaultValue, NoFont, NoCurrentFont, NoCharacter, NoGlyph, NoPacket, NoLocalFont, Depth, TooLong, Font, Pen, is_lack}
use Rattle.vf_expand.specs.Lacks.{AreLacks}
use Rattle.vf_expand.specs.Limits.{MAX_FLAT_COMMANDS}
use Rattle.vf_expand.proofs.Heads.{strict_page}
use Rattle.vf_expand.proofs.Lacking.{Tolerates, tolerant_page}
use Rattle.page_draw.specs.Lacks.{LackValue, each_once, is_same, lacks_of}
use Rattle.page_draw.specs.Members.{Member, Flat, LookUp, Lack, Finding, Unfolds, marks_after, marks_from}
use Rattle.page_draw.specs.Sheets.{inks_of}
use Rattle.page_draw.specs.Tolerance.{AreMissing, EqualLacksAreOne, LacksEndNoTolerantPage, PagesLackWhatIsMissing, WholePagesAgree}
use Rattle.page_draw.specs.Values.{DrawnValue, EndsIn, HasValue, PlacedFault, drawn_of, ended_with, fault_at}
use Rattle.page_draw.specs.declared.sheet.Sheet.{Sheet}
use Rattle.page_draw.proofs.EachOnce.{same_fault}

-- ---- equal faults

same_as_itself : (f : PageFaultValue) → is_lack f ≡ true → is_same f f ≡ true
same_as_itself (NoCharacter k c) lack = rw ((Decides-int_eq c c).1 refl, key_is_itself k) refl
same_as_itself (NoGlyph k c) lack = rw ((Decides-int_eq c c).1 refl, key_is_itself k) refl
same_as_itself (NoPacket k c) lack = rw ((Decides-int_eq c c).1 refl, key_is_itself k) refl
same_as_itself (Font k (file.Missing kind.Tfm)) lack = rw (key_is_itself k) refl
same_as_itself (Font k (file.Missing kind.Pk)) lack = rw (key_is_itself k) refl
same_as_itself (Font k (file.Missing kind.Vf)) lack = absurd cc
same_as_itself (Font k (file.Missing kind.Gf)) lack = absurd cc
same_as_itself (Font k (file.Tfm fault)) lack = absurd cc
same_as_itself (Font k (file.Vf fault)) lack = absurd cc
same_as_itself (Font k (file.Pk fault)) lack = absurd cc
same_as_itself (Font k (file.Gf fault)) lack = absurd cc
same_as_itself (Font k file.Name) lack = absurd cc
same_as_itself (Font k file.Size) lack = absurd cc
same_as_itself (Font k (file.TooLong which)) lack = absurd cc
same_as_itself (NoFont number) lack = absurd cc
same_as_itself NoCurrentFont lack = absurd cc
same_as_itself (NoLocalFont k number) lack = absurd cc
same_as_itself (Depth k c) lack = absurd cc
same_as_itself TooLong lack = absurd cc
same_as_itself (Pen fault) lack = absurd cc

pub equal_lacks_are_one : EqualLacksAreOne
equal_lacks_are_one f g lack = (same_fault f g, λ e. subst (λ (x : PageFaultValue). is_same f x ≡ true) e (same_as_itself f lack))

-- ---- what stands at the head of a course that is cut

from_gives : (t : Bool) (n : ℕ) (x : Course) (f : FlatCommand) (g : Option Glyph) (at : ℕ) (rest : Course) → cut t n x ≡ Gives f g at rest
    → (m : ℕ) × (y : Course) × (n ≡ suc m) × (x ≡ Gives f g at y) × (cut t m y ≡ rest)
from_gives t zero (Gives f' g' at' y) f g at rest e = absurd cc
from_gives t zero (Asks k at' y) f g at rest e = absurd cc
from_gives t zero (Lacks f' at' y) f g at rest e = absurd cc
from_gives t zero (Ends at') f g at rest e = absurd cc
from_gives t zero (Stops f' at') f g at rest e = absurd cc
from_gives t (suc n) (Gives f' g' at' y) f g at rest e =
    let whole : Gives f' g' at' y ≡ Gives f g at y = cc in
    let left : cut t n y ≡ rest = cc in
    (n, y, refl, whole, left)
from_gives t (suc n) (Asks k at' y) f g at rest e = absurd cc
from_gives true (suc n) (Lacks f' at' y) f g at rest e = absurd cc
from_gives false (suc n) (Lacks f' at' y) f g at rest e = absurd cc
from_gives t (suc n) (Ends at') f g at rest e = absurd cc
from_gives t (suc n) (Stops f' at') f g at rest e = absurd cc

from_asks : (t : Bool) (n : ℕ) (x : Course) (k : FontKey) (at : ℕ) (rest : Decoded → Course) → cut t n x ≡ Asks k at rest
    → (m : ℕ) × (y : Decoded → Course) × (n ≡ suc m) × (x ≡ Asks k at y) × ((d : Decoded) → cut t (suc m) (y d) ≡ rest d)
from_asks t zero (Gives f' g' at' y) k at rest e = absurd cc
from_asks t zero (Asks k' at' y) k at rest e = absurd cc
from_asks t zero (Lacks f' at' y) k at rest e = absurd cc
from_asks t zero (Ends at') k at rest e = absurd cc
from_asks t zero (Stops f' at') k at rest e = absurd cc
from_asks t (suc n) (Gives f' g' at' y) k at rest e = absurd cc
from_asks t (suc n) (Asks k' at' y) k at rest e =
    let whole : Asks k' at' y ≡ Asks k at y = cc in
    let left : (λ (d : Decoded). cut t (suc n) (y d)) ≡ rest = cc in
    (n, y, refl, whole, λ d. ap (λ (r : Decoded → Course). r d) left)
from_asks true (suc n) (Lacks f' at' y) k at rest e = absurd cc
from_asks false (suc n) (Lacks f' at' y) k at rest e = absurd cc
from_asks t (suc n) (Ends at') k at rest e = absurd cc
from_asks t (suc n) (Stops f' at') k at rest e = absurd cc

from_ends : (t : Bool) (n : ℕ) (x : Course) (at : ℕ) → cut t n x ≡ Ends at → x ≡ Ends at
from_ends t zero (Gives f' g' at' y) at e = absurd cc
from_ends t zero (Asks k' at' y) at e = absurd cc
from_ends t zero (Lacks f' at' y) at e = absurd cc
from_ends t zero (Ends at') at e = e
from_ends t zero (Stops f' at') at e = absurd cc
from_ends t (suc n) (Gives f' g' at' y) at e = absurd cc
from_ends t (suc n) (Asks k' at' y) at e = absurd cc
from_ends true (suc n) (Lacks f' at' y) at e = absurd cc
from_ends false (suc n) (Lacks f' at' y) at e = absurd cc
from_ends t (suc n) (Ends at') at e = e
from_ends t (suc n) (Stops f' at') at e = absurd cc

ends_cut : (t : Bool) (n at : ℕ) → cut t n (Ends at) ≡ Ends at
ends_cut t zero at = refl
ends_cut t (suc n) at = refl

-- ---- members that lead to the end

module _ (Finds : Finding) where
  -- without a lack they do so whether lacks are tolerated or aren't
  leads_alike : (t u : Bool) (n : ℕ) (x : Course) (members : List Member) (at : ℕ) → lacks_of members ≡ [] → Unfolds Finds (cut t n x) members (Ends at) → Unfolds Finds (cut u n x) members (Ends at)
  leads_alike t u n x [] at none h = ap (cut u n) (from_ends t n x at h) ∙ ends_cut u n at
  leads_alike t u n x (Flat f g p ∷ members) at none h =
      let b = from_gives t n x f g p h.0 h.1 in
      (cut u b.0 b.1, ap₂ (cut u) b.2 b.3, leads_alike t u b.0 b.1 members at none (subst (λ (y : Course). Unfolds Finds y members (Ends at)) (sym b.4) h.2))
  leads_alike t u n x (LookUp k p ∷ members) at none h =
      let b = from_asks t n x k p h.0 h.2 in (
        λ d. cut u (suc b.0) (b.1 d),
        h.1,
        ap₂ (cut u) b.2 b.3,
        h.3,
        leads_alike t u (suc b.0) (b.1 h.1) members at none (subst (λ (y : Course). Unfolds Finds y members (Ends at)) (sym (b.4 h.1)) h.4),
      )
  leads_alike t u n x (Lack f p ∷ members) at none h = absurd cc

  no_lacks : (x : Course) (members : List Member) (to : Course) → HasNoLack x → Unfolds Finds x members to → lacks_of members ≡ []
  no_lacks x [] to none h = refl
  no_lacks x (Flat f g p ∷ members) to none h = no_lacks h.0 members to (subst HasNoLack h.1 none) h.2
  no_lacks x (LookUp k p ∷ members) to none h = no_lacks (h.0 h.1) members to ((subst HasNoLack h.2 none) h.1) h.4
  no_lacks x (Lack f p ∷ members) to none h = absurd (subst HasNoLack h.1 none)

  tolerated : (x : Course) (members : List Member) (to : Course) → Tolerates x → Unfolds Finds x members to → Tolerates to × AreLacks members
  tolerated x [] to goes h = (subst Tolerates h goes, tt)
  tolerated x (Flat f g p ∷ members) to goes h = tolerated h.0 members to (subst Tolerates h.1 goes) h.2
  tolerated x (LookUp k p ∷ members) to goes h = tolerated (h.0 h.1) members to ((subst Tolerates h.2 goes) h.1) h.4
  tolerated x (Lack f p ∷ members) to goes h =
      let here = subst Tolerates h.1 goes in
      let rest = tolerated h.0 members to here.1 h.2 in
      (rest.0, (here.0, rest.1))

-- ---- what is drawn on both sheets

abbrev pub with_tolerance : Bool → Sheet → Sheet
with_tolerance tolerant sheet = record sheet { tolerant = tolerant }

inks_alike : (t u : Bool) (sheet : Sheet) (m : Option Mark) (g : Option Glyph) → inks_of (with_tolerance t sheet) m g ≡ inks_of (with_tolerance u sheet) m g
inks_alike t u sheet None g = refl
inks_alike t u sheet (Some (mark.Rule x y w h)) g = refl
inks_alike t u sheet (Some (mark.Char hh vv)) None = refl
inks_alike t u sheet (Some (mark.Char hh vv)) (Some g) = refl

after_alike : (r : Result State PenFault) (f g : State → List Inked) → ((s : State) → f s ≡ g s) → marks_after r f ≡ marks_after r g
after_alike (Ok s) f g same = same s
after_alike (Err fault) f g same = refl

marks_alike : (c : Fraction) (t u : Bool) (sheet : Sheet) (s : State) (members : List Member) → marks_from c (with_tolerance t sheet) s members ≡ marks_from c (with_tolerance u sheet) s members
marks_alike c t u sheet s [] = refl
marks_alike c t u sheet s (Flat f g at ∷ members) =
    ap₂ (λ (here rest : List Inked). here ++ rest) (inks_alike t u sheet (mark_of c s.now f) g)
    (after_alike (state_after c s f) (λ v. marks_from c (with_tolerance t sheet) v members) (λ v. marks_from c (with_tolerance u sheet) v members) (λ v. marks_alike c t u sheet v members))
marks_alike c t u sheet s (LookUp k at ∷ members) = marks_alike c t u sheet s members
marks_alike c t u sheet s (Lack f at ∷ members) = marks_alike c t u sheet s members

drawn_alike : (c : Fraction) (t u : Bool) (sheet : Sheet) (members : List Member) → drawn_of c (with_tolerance t sheet) members ≡ drawn_of c (with_tolerance u sheet) members
drawn_alike c t u sheet members =
    ap (λ (marks : List Inked). record { page = page_of sheet.width sheet.height marks; lacks = each_once (lacks_of members) }) (marks_alike c t u sheet at_origin members)

-- ---- ends

whole_is : (saved : List Registers) (at : ℕ) (d drawn : DrawnValue) → Ok drawn ≡ ended_with saved at d → drawn ≡ d
whole_is [] at d drawn e = cc
whole_is (r ∷ saved) at d drawn e = absurd cc

whole_at : (c : Fraction) (s : State) (d drawn : DrawnValue) (to : Course) → EndsIn c s d to (Ok drawn) → (at : ℕ) × (to ≡ Ends at) × (Ok drawn ≡ ended_with s.saved at d)
whole_at c s d drawn (Gives f g at rest) h = let e : Ok drawn ≡ fault_at (Pen h.0) at = h.2 in absurd cc
whole_at c s d drawn (Asks k at rest) h = absurd h
whole_at c s d drawn (Lacks f at rest) h = absurd h
whole_at c s d drawn (Ends at) h = (at, refl, h)
whole_at c s d drawn (Stops f at) h = absurd cc

left_over : (saved : List Registers) (at : ℕ) (d : DrawnValue) (f : PlacedFault) → Err f ≡ ended_with saved at d → is_lack f.fault ≡ false
left_over [] at d f e = absurd cc
left_over (r ∷ saved) at d f e = let same : f ≡ record { fault = Pen StackLeft; at = at } = cc in ap (λ (x : PlacedFault). is_lack x.fault) same

fails_otherwise : (c : Fraction) (s : State) (d : DrawnValue) (to : Course) (f : PlacedFault) → Tolerates to → EndsIn c s d to (Err f) → is_lack f.fault ≡ false
fails_otherwise c s d (Gives g glyph at rest) f goes h =
    let e : Err f ≡ fault_at (Pen h.0) at = h.2 in
    let same : f ≡ record { fault = Pen h.0; at = at } = cc in
    ap (λ (x : PlacedFault). is_lack x.fault) same
fails_otherwise c s d (Asks k at rest) f goes h = absurd h
fails_otherwise c s d (Lacks g at rest) f goes h = absurd h
fails_otherwise c s d (Ends at) f goes h = left_over s.saved at d f h
fails_otherwise c s d (Stops g at) f goes h =
    let same : f ≡ record { fault = g; at = at } = cc in
    ap (λ (x : PlacedFault). is_lack x.fault) same ∙ goes

-- ---- lacks

none_once : (lacks : List LackValue) → each_once lacks ≡ [] → lacks ≡ []
none_once [] e = refl
none_once (l ∷ lacks) e = absurd cc

missing_left : (keeps : LackValue → Bool) (lacks : List LackValue) → AreMissing lacks → AreMissing (filter keeps lacks)
missing_left keeps [] h = tt
missing_left keeps (l ∷ lacks) h = by (missing_left keeps lacks h.1) (keeps l) refl
  where
    by : AreMissing (filter keeps lacks) → (b : Bool) → keeps l ≡ b → AreMissing (filter keeps (l ∷ lacks))
    by rest true e = rw e (h.0, rest)
    by rest false e = rw e rest

missing_once : (lacks : List LackValue) → AreMissing lacks → AreMissing (each_once lacks)
missing_once [] h = tt
missing_once (l ∷ lacks) h = (h.0, missing_left (λ x. not (is_same l.fault x.fault)) (each_once lacks) (missing_once lacks h.1))

missing_of_members : (members : List Member) → AreLacks members → AreMissing (lacks_of members)
missing_of_members [] h = tt
missing_of_members (Flat f g at ∷ members) h = missing_of_members members h
missing_of_members (LookUp k at ∷ members) h = missing_of_members members h
missing_of_members (Lack f at ∷ members) h = (h.0, missing_of_members members h.1)

-- ---- values

module _ (Finds : Finding) (c : Fraction) (sheet : Sheet) (reading : Reading) (i : ℕ) where
  abbrev HasWhere : Bool → DrawnValue → List FontKey → Type 0
  HasWhere t drawn looks = HasValue Finds c (with_tolerance t sheet) (course_of t reading i) (Ok drawn) looks

  drawn_is : (t : Bool) (drawn : DrawnValue) (looks : List FontKey) (h : HasWhere t drawn looks) → drawn ≡ drawn_of c (with_tolerance t sheet) h.members
  drawn_is t drawn looks h =
      let w = whole_at c h.state (drawn_of c (with_tolerance t sheet) h.members) drawn h.to h.ends in
      whole_is h.state.saved w.0 (drawn_of c (with_tolerance t sheet) h.members) drawn w.2

  has_alike : (t u : Bool) (drawn : DrawnValue) (looks : List FontKey) → drawn.lacks ≡ [] → HasWhere t drawn looks → HasWhere u drawn looks
  has_alike t u drawn looks none h =
      let d = drawn_of c (with_tolerance t sheet) h.members in
      let w = whole_at c h.state d drawn h.to h.ends in
      let page = page_from reading (unwrap_or (eop_at i reading) 0) NoFont (page_commands i reading) in
      let lacks : lacks_of h.members ≡ [] = none_once (lacks_of h.members) (sym (ap (λ (x : DrawnValue). x.lacks) (drawn_is t drawn looks h)) ∙ none) in
      record {
        members = h.members;
        to = Ends w.0;
        state = h.state;
        leads = leads_alike Finds t u MAX_FLAT_COMMANDS page h.members w.0 lacks (subst (Unfolds Finds (course_of t reading i) h.members) w.1 h.leads);
        moved = h.moved;
        ends = w.2 ∙ ap (ended_with h.state.saved w.0) (drawn_alike c t u sheet h.members);
        looked = h.looked;
      }

  lacks_nothing : (drawn : DrawnValue) (looks : List FontKey) → HasWhere false drawn looks → drawn.lacks ≡ []
  lacks_nothing drawn looks h =
      ap (λ (x : DrawnValue). x.lacks) (drawn_is false drawn looks h) ∙ ap each_once (no_lacks Finds (course_of false reading i) h.members h.to (strict_page reading i) h.leads)

  lacks_missing : (drawn : DrawnValue) (looks : List FontKey) → HasWhere true drawn looks → AreMissing drawn.lacks
  lacks_missing drawn looks h =
      subst (λ (x : DrawnValue). AreMissing x.lacks) (sym (drawn_is true drawn looks h))
      (missing_once (lacks_of h.members) (missing_of_members h.members (tolerated Finds (course_of true reading i) h.members h.to (tolerant_page reading i) h.leads).1))

  ends_otherwise : (f : PlacedFault) (looks : List FontKey) → HasValue Finds c (with_tolerance true sheet) (course_of true reading i) (Err f) looks → is_lack f.fault ≡ false
  ends_otherwise f looks h =
      fails_otherwise c h.state (drawn_of c (with_tolerance true sheet) h.members) h.to f (tolerated Finds (course_of true reading i) h.members h.to (tolerant_page reading i) h.leads).0 h.ends

pub whole_pages_agree : WholePagesAgree
whole_pages_agree known units indexed sheet i drawn looks none = (
  λ h. record { units = h.units; of_document = h.of_document; has = has_alike (IsFontOf known units) (conversion h.units) sheet indexed.reading i false true drawn looks none h.has },
  λ h. record { units = h.units; of_document = h.of_document; has = has_alike (IsFontOf known units) (conversion h.units) sheet indexed.reading i true false drawn looks none h.has },
)

pub pages_lack_what_is_missing : PagesLackWhatIsMissing
pages_lack_what_is_missing known units indexed sheet i drawn looks = (
  λ h. lacks_missing (IsFontOf known units) (conversion h.units) sheet indexed.reading i drawn looks h.has,
  λ h. lacks_nothing (IsFontOf known units) (conversion h.units) sheet indexed.reading i drawn looks h.has,
)

pub lacks_end_no_tolerant_page : LacksEndNoTolerantPage
lacks_end_no_tolerant_page known units indexed sheet i f looks h =
    ends_otherwise (IsFontOf known units) (conversion h.units) sheet indexed.reading i f looks h.has
