-- What a page becomes is the same with fonts that can't be told apart.
use Rattle.std.proofs.Common.{◌≡◌, ℕ, zero, suc, ℤ, Bool, true, false, List, [], ◌∷◌, refl, ap, subst, ◌∙◌, Option, Some, None}
use Rattle.std.specs.Prelude.{unwrap_or}
use Rattle.outside.specs.declared.keys.FontKey.{FontKey}
use Rattle.fix_word.specs.Scale.{scale}
use Rattle.dvi_commands.specs.Spelling.{DviCommand, Set, Put, SetRule, PutRule, Push, Pop, Right, W0, W, X0, X, Down, Y0, Y, Z0, Z, Font}
use Rattle.dvi_commands.specs.Reading.{Placed, commands_of}
use Rattle.drift_rules.specs.Position.{FlatCommand}
use Rattle.drift_rules.specs.Position as flat
use Rattle.page_index.specs.Document.{Reading, font_table}
use Rattle.page_index.specs.Pages.{eop_at, page_commands}
use Rattle.pk_runs.specs.declared.glyph.Glyph.{Glyph}
use Rattle.font_decode.specs.Fonts.{FontValue, scaled_width_of, glyph_at, is_virtual_of, packet_of, local_of, first_local_of}
use Rattle.font_decode.specs.Decoding.{AreAlike, AreAlikeFonts}
use Rattle.font_decode.specs.declared.font_or_fault.Decoded.{Decoded}
use Rattle.font_decode.specs.declared.font_or_fault.Decoded.TheVariants as decoded
use Rattle.font_decode.specs.declared.faults.FileKind.TheVariants.{Pk}
use Rattle.font_decode.specs.declared.faults.FontFault.{FontFault}
use Rattle.font_decode.specs.declared.faults.FontFault.TheVariants.{Missing}
use Rattle.vf_expand.specs.Faults.{PageFaultValue, is_missing}
use Rattle.vf_expand.specs.Faults as fault
use Rattle.vf_expand.specs.Course.{Course, Gives, Asks, Lacks, Ends, Stops, bare_advance, by_fault, lack_or_stop, lacking, Place, Current, Deeper, dimension, space, changed_to, no_local, font_change, local_key, current_of, first_font, leave, packet, number_of, virtual, with_glyph, by_kind, with_width, char_of_decoded, no_font, character, expand_one, expand_list, deeper, page_from, cut, course_of, advance_of}
use Rattle.vf_expand.specs.Limits.{MAX_FLAT_COMMANDS}
use Rattle.vf_expand.specs.Limits.{MAX_DEPTH}
use Rattle.vf_expand.specs.Course as course

-- two courses that come to the same, whichever of alike fonts are found
abbrev pub Similar : Course → Course → Type 0
Similar (Gives f g at x) (Gives f2 g2 at2 y) = (f ≡ f2) × (g ≡ g2) × (at ≡ at2) × Similar x y
Similar (Asks k at x) (Asks k2 at2 y) = (k ≡ k2) × (at ≡ at2) × ((d e : Decoded) → AreAlike d e → Similar (x d) (y e))
Similar (Lacks f at x) (Lacks f2 at2 y) = (f ≡ f2) × (at ≡ at2) × Similar x y
Similar (Ends at) (Ends at2) = at ≡ at2
Similar (Stops f at) (Stops f2 at2) = (f ≡ f2) × (at ≡ at2)
Similar _ _ = ⊥

-- ---- pairs of alike current fonts, and of places

data Both : Type 0 where
  NoFont : Both
  Chosen : FontKey → Both
  Known : FontKey → (d e : Decoded) → AreAlike d e → Both

abbrev first : Both → Current
first NoFont = course.NoFont
first (Chosen k) = course.Chosen k
first (Known k d e h) = course.Known k d

abbrev second : Both → Current
second NoFont = course.NoFont
second (Chosen k) = course.Chosen k
second (Known k d e h) = course.Known k e

data Places : Type 0 where
  OnPage : Reading → Places
  InPacket : FontKey → (f g : FontValue) → AreAlikeFonts f g → Places

abbrev here : Places → Place
here (OnPage reading) = course.OnPage reading
here (InPacket k f g h) = course.InPacket k f

abbrev there : Places → Place
there (OnPage reading) = course.OnPage reading
there (InPacket k f g h) = course.InPacket k g

abbrev AreSimilar : (Current → Course) → (Current → Course) → Type 0
AreSimilar x y = (b : Both) → Similar (x (first b)) (y (second b))

-- packets of alike fonts become the same, before what is the same
abbrev AreDeeper : Deeper → Deeper → Type 0
AreDeeper None None = Unit {0}
AreDeeper (Some i) (Some j) = (k : FontKey) (f g : FontValue) (commands : List DviCommand) (x y : Course) → AreAlikeFonts f g → Similar x y → Similar (i k f commands x) (j k g commands y)
AreDeeper _ _ = ⊥

-- ---- lacks

similar_lacking : (at : ℕ) (f : PageFaultValue) (advance : Option ℤ) (x y : Course) → Similar x y → Similar (lacking at f advance x) (lacking at f advance y)
similar_lacking at f advance x y h = (refl, refl, (refl, refl, refl, h))

-- ---- virtual characters

similar_leave : (advance : Option ℤ) (at : ℕ) (x y : Course) → Similar x y → Similar (leave advance at x) (leave advance at y)
similar_leave None at x y h = (refl, refl, refl, h)
similar_leave (Some width) at x y h = (refl, refl, refl, (refl, refl, refl, h))

module _ (at : ℕ) (k : FontKey) (f g : FontValue) (alike : AreAlikeFonts f g) where
  similar_packet : (i j : FontKey → FontValue → List DviCommand → Course → Course) → AreDeeper (Some i) (Some j) → (c : ℤ) (advance : Option ℤ) (text : Option (List ℕ)) (x y : Course) → Similar x y
      → Similar (packet i at k f c advance text x) (packet j at k g c advance text y)
  similar_packet i j deep c advance None x y h = similar_lacking at (fault.NoPacket k c) advance x y h
  similar_packet i j deep c advance (Some text) x y h =
      (refl, refl, refl, deep k f g (commands_of text) (leave advance at x) (leave advance at y) alike (similar_leave advance at x y h))

  similar_virtual : (i j : Deeper) → AreDeeper i j → (c : ℤ) (advance : Option ℤ) (x y : Course) → Similar x y → Similar (virtual i at k f c advance x) (virtual j at k g c advance y)
  similar_virtual None None deep c advance x y h = (refl, refl)
  similar_virtual (Some i) (Some j) deep c advance x y h =
      subst (λ (text : Option (List ℕ)). Similar (packet i at k f c advance (packet_of f (number_of c)) x) (packet j at k g c advance text y)) (alike.packets (number_of c))
      (similar_packet i j deep c advance (packet_of f (number_of c)) x y h)
  similar_virtual None (Some j) deep c advance x y h = absurd deep
  similar_virtual (Some i) None deep c advance x y h = absurd deep

  -- ---- characters

  similar_glyph : (c width : ℤ) (put : Bool) (glyph : Option Glyph) (x y : Course) → Similar x y → Similar (with_glyph at k c width put glyph x) (with_glyph at k c width put glyph y)
  similar_glyph c width put None x y h = similar_lacking at (fault.NoGlyph k c) (advance_of width put) x y h
  similar_glyph c width put (Some glyph) x y h = (refl, refl, refl, h)

  module _ (i j : Deeper) (deep : AreDeeper i j) (c : ℤ) (put : Bool) (x y : Course) (h : Similar x y) where
    similar_kind : (width : ℤ) (is_virtual : Bool) → Similar (by_kind i at k f c width put is_virtual x) (by_kind j at k g c width put is_virtual y)
    similar_kind width false =
        subst (λ (glyph : Option Glyph). Similar (with_glyph at k c width put (glyph_at f (number_of c)) x) (with_glyph at k c width put glyph y)) (alike.glyphs (number_of c))
        (similar_glyph c width put (glyph_at f (number_of c)) x y h)
    similar_kind width true = similar_virtual i j deep c (advance_of width put) x y h

    similar_width : (width : Option ℤ) → Similar (with_width i at k f c put width x) (with_width j at k g c put width y)
    similar_width None = similar_lacking at (fault.NoCharacter k c) None x y h
    similar_width (Some width) =
        subst (λ (b : Bool). Similar (by_kind i at k f c width put (is_virtual_of f) x) (by_kind j at k g c width put b y)) alike.virtual
        (similar_kind width (is_virtual_of f))

    similar_font : Similar (char_of_decoded i at k (decoded.Font f) c put x) (char_of_decoded j at k (decoded.Font g) c put y)
    similar_font =
        subst (λ (width : Option ℤ). Similar (with_width i at k f c put (scaled_width_of f c) x) (with_width j at k g c put width y)) (alike.widths c)
        (similar_width (scaled_width_of f c))

similar_fault : (at : ℕ) (k : FontKey) (f : FontFault) (b : Bool) (x y : Course) → Similar x y → Similar (by_fault at k f b x) (by_fault at k f b y)
similar_fault at k f true x y h = similar_lacking at (fault.Font k f) None x y h
similar_fault at k f false x y h = (refl, refl)

similar_bare : (at : ℕ) (k : FontKey) (f g : FontValue) → AreAlikeFonts f g → (c : ℤ) (put : Bool) (x y : Course) → Similar x y
    → Similar (lacking at (fault.Font k (Missing Pk)) (bare_advance (scaled_width_of f c) put) x) (lacking at (fault.Font k (Missing Pk)) (bare_advance (scaled_width_of g c) put) y)
similar_bare at k f g alike c put x y h =
    subst (λ (width : Option ℤ). Similar (lacking at (fault.Font k (Missing Pk)) (bare_advance (scaled_width_of f c) put) x) (lacking at (fault.Font k (Missing Pk)) (bare_advance width put) y)) (alike.widths c)
    (similar_lacking at (fault.Font k (Missing Pk)) (bare_advance (scaled_width_of f c) put) x y h)

similar_found : (i j : Deeper) → AreDeeper i j → (at : ℕ) (k : FontKey) (d e : Decoded) → AreAlike d e → (c : ℤ) (put : Bool) (x y : Course) → Similar x y
    → Similar (char_of_decoded i at k d c put x) (char_of_decoded j at k e c put y)
similar_found i j deep at k (decoded.Font f) (decoded.Font g) alike c put x y h = similar_font at k f g alike i j deep c put x y h
similar_found i j deep at k (decoded.Font f) (decoded.Bare g) alike c put x y h = absurd alike
similar_found i j deep at k (decoded.Font f) (decoded.Fault g) alike c put x y h = absurd alike
similar_found i j deep at k (decoded.Bare f) (decoded.Font g) alike c put x y h = absurd alike
similar_found i j deep at k (decoded.Bare f) (decoded.Bare g) alike c put x y h = similar_bare at k f g alike c put x y h
similar_found i j deep at k (decoded.Bare f) (decoded.Fault g) alike c put x y h = absurd alike
similar_found i j deep at k (decoded.Fault f) (decoded.Font g) alike c put x y h = absurd alike
similar_found i j deep at k (decoded.Fault f) (decoded.Bare g) alike c put x y h = absurd alike
similar_found i j deep at k (decoded.Fault f) (decoded.Fault g) alike c put x y h =
    subst (λ (e : FontFault). Similar (by_fault at k f (is_missing f) x) (by_fault at k e (is_missing e) y)) alike (similar_fault at k f (is_missing f) x y h)

same_no_font : (p : Places) → no_font (here p) ≡ no_font (there p)
same_no_font (OnPage reading) = refl
same_no_font (InPacket k f g h) = refl

-- ---- commands

same_space : (b : Both) → space (first b) ≡ space (second b)
same_space NoFont = refl
same_space (Chosen k) = refl
same_space (Known k d e h) = refl

same_dimension : (p : Places) (z : ℤ) → dimension (here p) z ≡ dimension (there p) z
same_dimension (OnPage reading) z = refl
same_dimension (InPacket k f g h) z = ap (scale z) h.size

module _ (i j : Deeper) (deep : AreDeeper i j) (p : Places) (at : ℕ) (x y : Current → Course) (next : AreSimilar x y) where
  similar_character : (b : Both) (c : ℤ) (put : Bool) → Similar (character i (here p) at (first b) c put x) (character j (there p) at (second b) c put y)
  similar_character NoFont c put = (same_no_font p, refl)
  similar_character (Chosen k) c put =
      (refl, refl, λ d e alike. similar_found i j deep at k d e alike c put (x (course.Known k d)) (y (course.Known k e)) (next (Known k d e alike)))
  similar_character (Known k d e h) c put = similar_found i j deep at k d e h c put (x (course.Known k d)) (y (course.Known k e)) (next (Known k d e h))

  similar_changed : (o : Option FontKey) (f : PageFaultValue) → Similar (changed_to o f at x) (changed_to o f at y)
  similar_changed None f = (refl, refl)
  similar_changed (Some k) f = (refl, refl, refl, next (Chosen k))

  -- a motion, a rule
  similar_motion : (make : ℤ → ℤ → FlatCommand) (b : Both) (z : ℤ)
      → Similar (Gives (make (dimension (here p) z) (space (first b))) None at (x (first b))) (Gives (make (dimension (there p) z) (space (second b))) None at (y (second b)))
  similar_motion make b z =
      (ap (λ (w : ℤ). make w (space (first b))) (same_dimension p z) ∙ ap (make (dimension (there p) z)) (same_space b), refl, refl, next b)

  similar_rule : (put : Bool) (b : Both) (z w : ℤ)
      → Similar (Gives (flat.Rule (dimension (here p) z) (dimension (here p) w) put) None at (x (first b))) (Gives (flat.Rule (dimension (there p) z) (dimension (there p) w) put) None at (y (second b)))
  similar_rule put b z w =
      (ap (λ (v : ℤ). flat.Rule v (dimension (here p) w) put) (same_dimension p z) ∙ ap (λ (v : ℤ). flat.Rule (dimension (there p) z) v put) (same_dimension p w), refl, refl, next b)

  similar_again : (make : ℤ → FlatCommand) (b : Both) → Similar (Gives (make (space (first b))) None at (x (first b))) (Gives (make (space (second b))) None at (y (second b)))
  similar_again make b = (ap make (same_space b), refl, refl, next b)

similar_font_change : (p : Places) (at : ℕ) (n : ℤ) (x y : Current → Course) → AreSimilar x y → Similar (font_change (here p) at n x) (font_change (there p) at n y)
similar_font_change (OnPage reading) at n x y next = similar_changed None None tt (OnPage reading) at x y next (font_table reading n) (fault.NoFont n)
similar_font_change (InPacket k f g h) at n x y next =
    subst (λ (o : Option ℤ). Similar (font_change (course.InPacket k f) at n x) (changed_to (local_of g n) (no_local k o n) at y)) h.first
    (subst (λ (o : Option FontKey). Similar (font_change (course.InPacket k f) at n x) (changed_to o (no_local k (first_local_of f) n) at y)) (h.locals n)
    (similar_changed None None tt (InPacket k f g h) at x y next (local_of f n) (no_local k (first_local_of f) n)))

module _ (i j : Deeper) (deep : AreDeeper i j) (p : Places) (at : ℕ) where
  similar_one : (x y : Current → Course) → AreSimilar x y → (b : Both) (c : DviCommand) → Similar (expand_one i (here p) at (first b) c x) (expand_one j (there p) at (second b) c y)
  similar_one x y next b (Set c) = similar_character i j deep p at x y next b c false
  similar_one x y next b (Put c) = similar_character i j deep p at x y next b c true
  similar_one x y next b (Font n) = similar_font_change p at n x y next
  similar_one x y next b (SetRule z w) = similar_rule i j deep p at x y next false b z w
  similar_one x y next b (PutRule z w) = similar_rule i j deep p at x y next true b z w
  similar_one x y next b (Right z) = similar_motion i j deep p at x y next flat.Right b z
  similar_one x y next b (W z) = similar_motion i j deep p at x y next flat.W b z
  similar_one x y next b (X z) = similar_motion i j deep p at x y next flat.X b z
  similar_one x y next b (Down z) = similar_motion i j deep p at x y next flat.Down b z
  similar_one x y next b (Y z) = similar_motion i j deep p at x y next flat.Y b z
  similar_one x y next b (Z z) = similar_motion i j deep p at x y next flat.Z b z
  similar_one x y next b W0 = similar_again i j deep p at x y next flat.W0 b
  similar_one x y next b X0 = similar_again i j deep p at x y next flat.X0 b
  similar_one x y next b Y0 = similar_again i j deep p at x y next flat.Y0 b
  similar_one x y next b Z0 = similar_again i j deep p at x y next flat.Z0 b
  similar_one x y next b Push = (refl, refl, refl, next b)
  similar_one x y next b Pop = (refl, refl, refl, next b)
  similar_one x y next b _ = (refl, refl, refl, next b)

  similar_list : (commands : List DviCommand) (x y : Course) → Similar x y → (b : Both)
      → Similar (expand_list (expand_one i (here p) at) (first b) commands x) (expand_list (expand_one j (there p) at) (second b) commands y)
  similar_list [] x y h b = h
  similar_list (c ∷ commands) x y h b =
      similar_one (λ now. expand_list (expand_one i (here p) at) now commands x) (λ now. expand_list (expand_one j (there p) at) now commands y) (similar_list commands x y h) b c

  -- from the font on that is current first
  similar_begun : (o : Option FontKey) (commands : List DviCommand) (x y : Course) → Similar x y
      → Similar (expand_list (expand_one i (here p) at) (current_of o) commands x) (expand_list (expand_one j (there p) at) (current_of o) commands y)
  similar_begun None commands x y h = similar_list commands x y h NoFont
  similar_begun (Some k) commands x y h = similar_list commands x y h (Chosen k)

same_first : (f g : FontValue) → AreAlikeFonts f g → local_key f (first_local_of f) ≡ local_key g (first_local_of g)
same_first f g alike = same_key (first_local_of f) ∙ ap (local_key g) alike.first where
  same_key : (o : Option ℤ) → local_key f o ≡ local_key g o
  same_key None = refl
  same_key (Some n) = alike.locals n

similar_deeper : (n at : ℕ) → AreDeeper (deeper n at) (deeper n at)
unfolding deeper
similar_deeper zero at = tt
similar_deeper (suc n) at = λ k f g commands x y alike h.
    subst (λ (o : Option FontKey). Similar (expand_list (expand_one (deeper n at) (course.InPacket k f) at) (first_font f) commands x)
    (expand_list (expand_one (deeper n at) (course.InPacket k g) at) (current_of o) commands y)) (same_first f g alike)
    (similar_begun (deeper n at) (deeper n at) (similar_deeper n at) (InPacket k f g alike) at (local_key f (first_local_of f)) commands x y h)

-- ---- pages

similar_page : (reading : Reading) (eop : ℕ) (commands : List Placed) (b : Both) → Similar (page_from reading eop (first b) commands) (page_from reading eop (second b) commands)
similar_page reading eop [] b = refl
similar_page reading eop (p ∷ commands) b =
    similar_one (deeper MAX_DEPTH p.at) (deeper MAX_DEPTH p.at) (similar_deeper MAX_DEPTH p.at) (OnPage reading) p.at
    (λ now. page_from reading eop now commands) (λ now. page_from reading eop now commands) (similar_page reading eop commands) b p.command

similar_lack : (t : Bool) (f f2 : PageFaultValue) (at at2 : ℕ) (x y : Course) → f ≡ f2 → at ≡ at2 → Similar x y → Similar (lack_or_stop t f at x) (lack_or_stop t f2 at2 y)
similar_lack true f f2 at at2 x y same place h = (same, place, h)
similar_lack false f f2 at at2 x y same place h = (same, place)

similar_cut : (t : Bool) (n : ℕ) (x y : Course) → Similar x y → Similar (cut t n x) (cut t n y)
similar_cut t n (Ends at) (Ends at2) h = h
similar_cut t zero (Gives f g at x) (Gives f2 g2 at2 y) h = (refl, h.2)
similar_cut t zero (Asks k at x) (Asks k2 at2 y) h = (refl, h.1)
similar_cut t zero (Lacks f at x) (Lacks f2 at2 y) h = (refl, h.1)
similar_cut t zero (Stops f at) (Stops f2 at2) h = (refl, h.1)
similar_cut t (suc n) (Gives f g at x) (Gives f2 g2 at2 y) h = (h.0, h.1, h.2, similar_cut t n x y h.3)
similar_cut t (suc n) (Asks k at x) (Asks k2 at2 y) h = (h.0, h.1, λ d e alike. similar_cut t (suc n) (x d) (y e) (h.2 d e alike))
similar_cut t (suc n) (Lacks f at x) (Lacks f2 at2 y) h = similar_lack t f f2 at at2 (cut t (suc n) x) (cut t (suc n) y) h.0 h.1 (similar_cut t (suc n) x y h.2)
similar_cut t (suc n) (Stops f at) (Stops f2 at2) h = h
similar_cut t n _ _ h = absurd h

pub course_similar : (t : Bool) (reading : Reading) (i : ℕ) → Similar (course_of t reading i) (course_of t reading i)
course_similar t reading i =
    let page = page_from reading (unwrap_or (eop_at i reading) 0) course.NoFont (page_commands i reading) in
    similar_cut t MAX_FLAT_COMMANDS page page (similar_page reading (unwrap_or (eop_at i reading) 0) (page_commands i reading) NoFont)
