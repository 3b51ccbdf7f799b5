-- Readings in which nothing is wrong with a command.
use Rattle.std.proofs.Common.{◌≡◌, ◌∙◌, ◌⊎◌, inl, inr, ℕ, zero, suc, ◌+◌, ◌^◌, ◌<◌, ◌≤◌, ℤ, pos, Bool, true, false, List, [], ◌∷◌, ◌++◌, length, Option, Some, None, refl, sym, ap, subst, arith}
use Rattle.std.specs.Prelude.{All, IsTrue, not, ◌&&◌, ◌==◌, nat_eq, if◌then◌else◌, slice_index}
use Rattle.std.specs.List.{AllByRecursion, flat_map, list_any}
use Rattle.std.specs.Cmp.Lexicographic.{pointwise}
use Rattle.std.proofs.lemmas.Bool.{and_parts, and_from, cases_Bool, cond-true, cond-false, eq-eqb, lt-leb, lt-ltb, not-true, or_parts}
use Rattle.big_endian.specs.Numbers.{IsSigned, int_eq}
use Rattle.big_endian.proofs.Integers.{int_eq_same, int_eq_refl}
use Rattle.outside.specs.declared.keys.FontKey.{FontKey}
use Rattle.dvi_commands.specs.Spelling.{DviCommand, Definition, Preamble, Bop, Define, Eop, Post, PostPost, Pre}
use Rattle.dvi_commands.specs.ShortestSpelling.{shortest_spelling}
use Rattle.dvi_commands.specs.Refusal.{may_stand}
use Rattle.dvi_commands.specs.Reading.{AreCommands, Placed, commands_of, placed}
use Rattle.dvi_commands.specs.declared.command.Context.{Context}
use Rattle.dvi_commands.specs.declared.command.Context.TheVariants as context
use Rattle.page_index.specs.Limits.{MAX_PAGES}
use Rattle.page_index.specs.Judged.{agrees_with, bop_fault, define_fault, is_same_font, is_size}
use Rattle.page_index.specs.Document.{Reading, Sound, context_after, end_of, font_table, is_eop, key_of, key_or, last_bop, whole_fault}
use Rattle.page_index.proofs.Keys.{key_is, sizes_agree}
use Rattle.outside.specs.Limits.{SIZES}
use Rattle.sample_maker.specs.DviFile.{DefineRightly, IsFontSpelled, IsPageText, IsRightDefinition, IsWritable, are_apart, beginning, reading_after, after_text, definition, with_fonts, with_page, with_pages}
use Rattle.sample_maker.proofs.Spelled.{AreSpelled}
use Rattle.sample_maker.proofs.PageTexts.{IsEven, IsOfPage, Stands, commands_are, plain, plain_more, text_more, text_none, with}
use Rattle.sample_maker.proofs.DviTexts.{page_even, pages_grow}
use Rattle.sample_maker.proofs.DviPages.{filled_stands, first_font, fonts_stand, opened_stands, page_stands, position_fits}

-- ---- what a sound reading has beside its spelling

pub record IsRight (res : ℕ) (before : Reading) (p : Placed) : Type 0 where
  pub allowed : IsTrue (may_stand (context_after before) (slice_index p.bytes 0))
  pub right : whole_fault res before p.at p.bytes p.command ≡ None

abbrev pub AreRight : ℕ → Reading → Type 0
AreRight res [] = Unit {0}
AreRight res (p ∷ before) = AreRight res before × IsRight res before p

pub sound_of : (res : ℕ) (r : Reading) → AreSpelled r → AreRight res r → Sound res r
sound_of res [] s h = tt
sound_of res (p ∷ before) s h =
    (sound_of res before s.0 h.0, record { unfinished = s.1.unfinished; place = s.1.place; spelled = s.1.spelled; allowed = h.1.allowed; right = h.1.right })

-- ---- where commands may stand

abbrev pub place_by : Bool → Bool → Context
place_by post open_page = if post then context.Post else if open_page then context.Page else context.Between

pub place_is : (q : Preamble) (post open_page : Bool) (n : ℕ) (back : ℤ) (r : Reading) → Stands q post open_page n back r → place_by post open_page ≡ context_after r
place_is q post open_page n back [] h = let none : None ≡ Some q = h.preamble in cc
place_is q post open_page n back (p ∷ r) h = rw (h.post_is, h.open_is) refl

pub allowed_there : (place : Context) (r : Reading) (op : ℕ) → place ≡ context_after r → IsTrue (may_stand place op) → IsTrue (may_stand (context_after r) op)
allowed_there place r op e h = subst (λ (c : Context). IsTrue (may_stand c op)) e h

-- ---- definitions

defines_may : (post : Bool) (n : ℕ) → 1 ≤ n → n ≤ 4 → may_stand (place_by post false) (242 + n) ≡ true
defines_may post zero a b = absurd (omega (arith, a))
defines_may true (suc zero) a b = refl
defines_may true (suc (suc zero)) a b = refl
defines_may true (suc (suc (suc zero))) a b = refl
defines_may true (suc (suc (suc (suc zero)))) a b = refl
defines_may false (suc zero) a b = refl
defines_may false (suc (suc zero)) a b = refl
defines_may false (suc (suc (suc zero))) a b = refl
defines_may false (suc (suc (suc (suc zero)))) a b = refl
defines_may post (suc (suc (suc (suc (suc n))))) a b = absurd (omega (arith, b))

-- a definition has an opcode from 243 to 246
definition_opcode : (f : ℤ × FontKey) → IsFontSpelled f → (n : ℕ) × (1 ≤ n) × (n ≤ 4) × (slice_index (shortest_spelling (definition f)) 0 ≡ 242 + n)
definition_opcode f h = (h.spelled.0, bounds.0, bounds.1, ap (λ (t : List ℕ). slice_index t 0) h.spelled.2)
  where
    bounds : (1 ≤ h.spelled.0) × (h.spelled.0 ≤ 4)
    bounds = elim h.spelled.1.0 [
      | inl few ↦ (few.0, omega (arith, few.1))
      | inr four ↦ (omega (arith, four.0), omega (arith, four.0))
    ]

name_same : (xs : List ℕ) → pointwise nat_eq xs xs ≡ true
name_same [] = refl
name_same (x ∷ xs) = and_from (nat_eq x x) (pointwise nat_eq xs xs) (eq-eqb x x refl) (name_same xs)

nat_same : (m : ℕ) → (m == m) ≡ true
nat_same m = eq-eqb m m refl

size_right : (n : ℕ) → 1 ≤ n → n < SIZES → is_size (pos n) ≡ true
size_right n some few = rw (lt-ltb 0 n (omega (arith, some)), lt-ltb n SIZES (omega (arith, few))) refl

abbrev defined : ℤ × FontKey → Definition
defined f = record { number = f.0; check = 0; size = pos f.1.size; design = pos f.1.design; area = f.1.area; name = f.1.name }

same_font : (f : ℤ × FontKey) → is_same_font f.1 (defined f) ≡ true
same_font f = rw (nat_same f.1.size, nat_same f.1.design, nat_same f.1.area, name_same f.1.name) refl

-- no key, or that of the font
abbrev pub IsFree : (ℤ → Option FontKey) → ℤ × FontKey → Type 0
IsFree known f = (known f.0 ≡ None) ⊎ (known f.0 ≡ Some f.1)

definition_right : (f : ℤ × FontKey) (at : ℕ) (known : ℤ → Option FontKey) → IsWritable f → IsFree known f → define_fault (known f.0) at (defined f) ≡ None
definition_right f at known w free = by (known f.0) free
  where
    sizes : (is_size (pos f.1.size) && is_size (pos f.1.design)) ≡ true
    sizes = and_from _ _ (size_right f.1.size w.key.size.0 w.key.size.1) (size_right f.1.design w.key.design.0 w.key.design.1)

    by : (o : Option FontKey) → (o ≡ None) ⊎ (o ≡ Some f.1) → define_fault o at (defined f) ≡ None
    by o (inl none) = ap (λ (x : Option FontKey). define_fault x at (defined f)) none ∙ rw sizes refl
    by o (inr some) = ap (λ (x : Option FontKey). define_fault x at (defined f)) some ∙ rw (sizes, same_font f) refl

-- a font of another number leaves them free
int_apart : (a b : ℤ) → int_eq b a ≡ false → int_eq a b ≡ false
int_apart a b h = elim (cases_Bool (int_eq a b)) [
  | inl same ↦ let e : a ≡ b = int_eq_same a b same in let bad : true ≡ false = sym (int_eq_refl b) ∙ ap (int_eq b) (sym e) ∙ h in cc
  | inr other ↦ other
]

still_free : (f : ℤ × FontKey) (fonts : List (ℤ × FontKey)) (r : Reading) → list_any (λ (g : ℤ × FontKey). int_eq g.0 f.0) fonts ≡ false → AllByRecursion (IsFree (font_table r)) fonts
    → AllByRecursion (IsFree (font_table (reading_after r (definition f)))) fonts
still_free f [] r apart h = tt
still_free f (g ∷ fonts) r apart h =
    let parts = or_parts (int_eq g.0 f.0) (list_any (λ (x : ℤ × FontKey). int_eq x.0 f.0) fonts) apart in
    let same : font_table (reading_after r (definition f)) g.0 ≡ font_table r g.0 = cond-false (int_eq f.0 g.0) (Some f.1) (font_table r g.0) (int_apart f.0 g.0 parts.0) in
    (elim h.0 [ inl none ↦ inl (same ∙ none) | inr some ↦ inr (same ∙ some) ], still_free f fonts r parts.1 h.1)

pub fonts_right : (res : ℕ) (q : Preamble) (post : Bool) (n : ℕ) (back : ℤ) (fonts : List (ℤ × FontKey)) (r : Reading) → All IsFontSpelled fonts → AllByRecursion IsWritable fonts → IsTrue (are_apart fonts)
    → Stands q post false n back r → AllByRecursion (IsFree (font_table r)) fonts → AreRight res r → AreRight res (with_fonts r fonts)
fonts_right res q post n back [] r spelled writable apart h free right = right
fonts_right res q post n back (f ∷ fonts) r spelled writable apart h free right =
    let parts = first_font f fonts spelled in
    let op = definition_opcode f parts.0 in
    let may : IsTrue (may_stand (context_after r) (242 + op.0)) = allowed_there (place_by post false) r (242 + op.0) (place_is q post false n back r h) (defines_may post op.0 op.1 op.2) in
    let allowed : IsTrue (may_stand (context_after r) (slice_index (shortest_spelling (definition f)) 0)) = subst (λ (k : ℕ). IsTrue (may_stand (context_after r) k)) (sym op.3) may in
    let apart_parts = and_parts (not (list_any (λ (g : ℤ × FontKey). int_eq g.0 f.0) fonts)) (are_apart fonts) apart in
    fonts_right res q post n back fonts (reading_after r (definition f)) parts.1 writable.1 apart_parts.1
    (fonts_stand q post n back (f ∷ []) r (λ k g lt. one f parts.0 k g lt) h)
    (still_free f fonts r (not-true _ apart_parts.0) free.1)
    (right, record { allowed = allowed; right = definition_right f (end_of r) (font_table r) writable.0 free.0 })
  where
    one : (f : ℤ × FontKey) → IsFontSpelled f → All IsFontSpelled (f ∷ [])
    one f h zero g lt = h
    one f h (suc k) g lt = absurd (omega (arith, lt))

-- ---- commands on a page

-- nothing is wrong with a command that is part of no frame
plain_right : (res : ℕ) (r : Reading) (at : ℕ) (bytes : List ℕ) (c : DviCommand) → IsOfPage c → IsRightDefinition (font_table r) c → whole_fault res r at bytes c ≡ None
plain_right res r at bytes (Bop counts back) is d = let no = is.bop in cc
plain_right res r at bytes (Pre q) is d = let no : Some q ≡ None = is.pre None in cc
plain_right res r at bytes (Post q) is d = let no = is.post in cc
plain_right res r at bytes (PostPost q id) is d = let no = is.postpost in cc
plain_right res r at bytes (Define e) is d = d at
plain_right res r at bytes _ is d = refl

-- so a number that has a key keeps it
key_stays : (known : ℤ → Option FontKey) (c : DviCommand) (k : ℤ) (key : FontKey) → IsRightDefinition known c → known k ≡ Some key → key_or (known k) k c ≡ Some key
key_stays known (Define d) k key right h = elim (cases_Bool (int_eq d.number k)) [
  | inl same ↦
      let here : known d.number ≡ Some key = ap known (int_eq_same d.number k same) ∙ h in
      let fits : agrees_with (Some key) d ≡ true = sizes_agree d (Some key) 0 (ap (λ (o : Option FontKey). define_fault o 0 d) (sym here) ∙ right 0) in
      cond-true (int_eq d.number k) (Some (key_of d)) (known k) same ∙ ap Some (key_is key d fits)
  | inr other ↦ cond-false (int_eq d.number k) (Some (key_of d)) (known k) other ∙ h
]
key_stays known _ k key right h = h

-- from one reading to a later one all is right, font numbers keep their keys, and the definitions
-- to come are right
pub record Rightly (res : ℕ) (r later : Reading) (more : List DviCommand) : Type 0 where
  pub right : AreRight res later
  pub keeps : (k : ℤ) (key : FontKey) → font_table r k ≡ Some key → font_table later k ≡ Some key
  pub rest : DefineRightly (font_table later) more

text_right : (res n : ℕ) (q : Preamble) (back : ℤ) (more commands : List DviCommand) (body : List ℕ) (r : Reading) → AreCommands context.Page commands body → AllByRecursion (λ c. is_eop c ≡ false) commands
    → Stands q false true n back r → AreRight res r → DefineRightly (font_table r) (commands ++ more) → Rightly res r (after_text r body) more
text_right res n q back more [] body r are ends h right define =
    subst (λ (x : Reading). Rightly res r x more) (sym (ap (after_text r) are ∙ text_none r)) (record { right = right; keeps = λ k key e. e; rest = define })
text_right res n q back more (c ∷ commands) body r are ends h right define =
    let is = plain c are.0 are.2.spelled are.2.allowed ends.0 in
    let next = with r c are.0 in
    let here : IsRight res r (placed (end_of r) c are.0) = record {
      allowed = allowed_there context.Page r (slice_index are.0 0) (place_is q false true n back r h) are.2.allowed;
      right = plain_right res r (end_of r) are.0 c is define.0;
    } in
    let later = text_right res n q back more commands are.1 next are.3 ends.1 (plain_more q false true n back r c are.0 is h are.2.spelled) (right, here) define.1 in
    subst (λ (x : Reading). Rightly res r x more) (sym (ap (after_text r) are.2.whole ∙ text_more r c are.0 are.1 are.2.spelled))
    (record { right = later.right; keeps = λ k key e. later.keeps k key (key_stays (font_table r) c k key define.0 e); rest = later.rest })

-- ---- pages

bop_right : (n at : ℕ) (back : ℤ) → n < MAX_PAGES → bop_fault n back at back ≡ None
bop_right n at back few = rw (lt-leb MAX_PAGES n few, int_eq_refl back) refl

page_right : (res n : ℕ) (q : Preamble) (back : ℤ) (r : Reading) (number : ℕ) (body : List ℕ) (more : List DviCommand) → number < 2 ^ 31 → IsSigned 4 back → IsPageText body → n < MAX_PAGES
    → Stands q false false n back r → AreRight res r → DefineRightly (font_table r) (commands_of body ++ more) → Rightly res r (with_page r number body) more
page_right res n q back r number body more small fits is few h right define =
    let opened = reading_after r (beginning number (last_bop r)) in
    let bop : IsRight res r (placed (end_of r) (beginning number (last_bop r)) (shortest_spelling (beginning number (last_bop r)))) = record {
      allowed = allowed_there context.Between r 139 (place_is q false false n back r h) refl;
      right = ap (λ (k : ℕ). bop_fault k (last_bop r) (end_of r) (last_bop r)) h.begun ∙ bop_right n (end_of r) (last_bop r) few;
    } in
    let told : DefineRightly (font_table r) (is.commands ++ more) = subst (λ (cs : List DviCommand). DefineRightly (font_table r) (cs ++ more)) (commands_are is.commands body is.are) define in
    let filled = text_right res (suc n) q (pos (end_of r)) more is.commands body opened is.are is.no_end (opened_stands q n back r h number small fits body is) (right, bop) told in
    let eop : IsRight res (after_text opened body) (placed (end_of (after_text opened body)) Eop (shortest_spelling Eop)) = record {
      allowed = allowed_there context.Page (after_text opened body) 140 (place_is q false true (suc n) (pos (end_of r)) (after_text opened body) (filled_stands q n back r h number small fits body is)) refl;
      right = refl;
    } in
    record { right = (filled.right, eop); keeps = filled.keeps; rest = filled.rest }

pub pages_right : (res n : ℕ) (q : Preamble) (pages : List (List ℕ)) (back : ℤ) (r : Reading) (number : ℕ) → AllByRecursion IsPageText pages → Stands q false false n back r → IsEven r → IsSigned 4 back
    → n + length pages ≤ MAX_PAGES → number + length pages < 2 ^ 31 → end_of (with_pages r number pages) < 2 ^ 31 → AreRight res r → DefineRightly (font_table r) (flat_map commands_of pages)
    → Rightly res r (with_pages r number pages) []
pages_right res n q [] back r number all h even fits few small short right define = record { right = right; keeps = λ k key e. e; rest = define }
pages_right res n q (body ∷ pages) back r number all h even fits few small short right define =
    let next = with_page r number body in
    let low : number < 2 ^ 31 = omega (arith, small) in
    let at : end_of r < 2 ^ 31 = omega (arith, pages_grow (body ∷ []) r number (all.0, tt) even, pages_grow pages next (number + 1) all.1 (page_even r number body all.0 even), short) in
    let here = page_right res n q back r number body (flat_map commands_of pages) low fits all.0 (omega (arith, few)) h right define in
    let later = pages_right res (suc n) q pages (pos (end_of r)) next (number + 1) all.1 (page_stands q n back r h number low fits body all.0) (page_even r number body all.0 even) (position_fits (end_of r) at)
    (omega (arith, few)) (omega (arith, small)) short here.right here.rest in
    record { right = later.right; keeps = λ k key e. later.keeps k key (here.keeps k key e); rest = later.rest }
