-- The DVI file of given units, fonts and pages: Knuth, DVItype, "Device-independent file format".
-- The file is given as its reading, the last command first, so that a pointer is the position of
-- the last Bop of the commands before it.
use Rattle.std.specs.Prelude.{◌≡◌, ℕ, ◌+◌, ◌-◌, ◌%◌, ◌^◌, ◌<◌, ◌≤◌, ℤ, pos, Bool, true, false, not, ◌&&◌, List, [], ◌∷◌, ◌++◌, length, replicate, reverse, get_or, if◌then◌else◌, Option, Some, None}
use Rattle.std.specs.List.{AllByRecursion, flat_map, list_any}
use Rattle.big_endian.specs.Numbers.{int_eq}
use Rattle.outside.specs.FontKeys.{IsFontKey}
use Rattle.outside.specs.declared.keys.FontKey.{FontKey}
use Rattle.pixel_round.specs.declared.units.Units.{Units}
use Rattle.dvi_commands.specs.Spelling.{DviCommand, Bop, Define, Eop, Post, PostPost, Pre, Spells}
use Rattle.dvi_commands.specs.ShortestSpelling.{shortest_spelling}
use Rattle.dvi_commands.specs.Reading.{AreCommands, commands_of, placed, placed_from}
use Rattle.dvi_commands.specs.declared.command.Context.TheVariants as context
use Rattle.page_index.specs.Document.{Reading, end_of, font_table, is_eop, key_or, last_bop, pages_begun, text_of}
use Rattle.page_index.specs.Judged.{define_fault}
use Rattle.page_index.specs.Pages.{document_units, page_commands}

-- ---- what is given

-- the numbers of a preamble are more than 0, and signed numbers of four bytes
pub record AreSigned (u : Units) : Type 0 where
  pub num : (1 ≤ u.num) × (u.num < 2 ^ 31)
  pub den : (1 ≤ u.den) × (u.den < 2 ^ 31)
  pub mag : (1 ≤ u.mag) × (u.mag < 2 ^ 31)

-- whole commands that may stand on a page, without its end
pub record IsPageText (body : List ℕ) : Type 0 where
  pub commands : List DviCommand
  pub are : AreCommands context.Page commands body
  pub no_end : AllByRecursion (λ c. is_eop c ≡ false) commands

-- a font whose sizes are right, with a name whose rest after the area has a length of one byte
pub record IsWritable (font : ℤ × FontKey) : Type 0 where
  pub key : IsFontKey font.1
  pub rest : length font.1.name - font.1.area ≤ 255

-- no two fonts have one number
abbrev pub are_apart : List (ℤ × FontKey) → Bool
are_apart [] = true
are_apart (f ∷ fonts) = not (list_any (λ g. int_eq g.0 f.0) fonts) && are_apart fonts

-- the key of a font number, where a font has it
abbrev pub key_given : List (ℤ × FontKey) → ℤ → Option FontKey
key_given [] k = None
key_given (f ∷ fonts) k = if int_eq f.0 k then Some f.1 else key_given fonts k

-- ---- the commands

abbrev pub preamble : Units → DviCommand
preamble u = Pre (record { id = 2; num = pos u.num; den = pos u.den; mag = pos u.mag; text = [] })

-- with the checksum 0
abbrev pub definition : ℤ × FontKey → DviCommand
definition f = Define (record {
  number = f.0;
  check = 0;
  size = pos f.1.size;
  design = pos f.1.design;
  area = f.1.area;
  name = f.1.name;
})

abbrev pub beginning : ℕ → ℤ → DviCommand
beginning number back = Bop (pos number ∷ replicate 9 (pos 0)) back

-- with the greatest height, width and stack depth 0
abbrev pub postamble : Units → ℤ → ℕ → DviCommand
postamble u back count = Post (record {
  back = back;
  num = pos u.num;
  den = pos u.den;
  mag = pos u.mag;
  tallest = pos 0;
  widest = pos 0;
  deepest = 0;
  pages = count % 65536;
})

-- ---- one after another

-- a command in its shortest spelling
abbrev pub reading_after : Reading → DviCommand → Reading
reading_after before c = placed (end_of before) c (shortest_spelling c) ∷ before

-- the commands of bytes
abbrev pub after_text : Reading → List ℕ → Reading
after_text before body = reverse (placed_from (end_of before) body) ++ before

abbrev pub with_fonts : Reading → List (ℤ × FontKey) → Reading
with_fonts before [] = before
with_fonts before (f ∷ fonts) = with_fonts (reading_after before (definition f)) fonts

-- a page, with its number in the first of the ten counts and the pointer to the page before it
abbrev pub with_page : Reading → ℕ → List ℕ → Reading
with_page before number body =
    reading_after (after_text (reading_after before (beginning number (last_bop before))) body) Eop

abbrev pub with_pages : Reading → ℕ → List (List ℕ) → Reading
with_pages before number [] = before
with_pages before number (body ∷ pages) =
    with_pages (with_page before number body) (number + 1) pages

-- ---- the file

-- up to the last page, which are numbered from 1
unfoldable pub pages_reading : Units → List (ℤ × FontKey) → List (List ℕ) → Reading
pages_reading u fonts pages = with_pages (with_fonts (reading_after [] (preamble u)) fonts) 1 pages

-- and up to PostPost: the postamble defines the fonts again
unfoldable pub document_reading : Units → List (ℤ × FontKey) → List (List ℕ) → Reading
document_reading u fonts pages =
    let before = pages_reading u fonts pages in
    reading_after (with_fonts (reading_after before (postamble u (last_bop before) (length pages)))
    fonts) (PostPost (pos (end_of before)) 2)

-- n bytes after these make a multiple of four, and are at least four
abbrev pub filler_after : ℕ → ℕ
filler_after n = 4 + (4 - n % 4) % 4

unfoldable pub document_text : Units → List (ℤ × FontKey) → List (List ℕ) → List ℕ
document_text u fonts pages =
    let text = text_of (document_reading u fonts pages) in
    text ++ replicate (filler_after (length text)) 223

-- the shortest spelling of a font's definition is one: each field holds what is put into it
pub record IsFontSpelled (font : ℤ × FontKey) : Type 0 where
  pub spelled : Spells (definition font) (shortest_spelling (definition font))

-- the definitions of fonts
abbrev pub fonts_text : List (ℤ × FontKey) → List ℕ
fonts_text fonts = flat_map (λ font. shortest_spelling (definition font)) fonts

-- ---- what is appended for pages that begin at a position, with the pointer of the first

unfoldable pub page_bytes : ℕ → ℤ → List ℕ → List ℕ
page_bytes number back body =
    shortest_spelling (beginning number back) ++ body ++ shortest_spelling Eop

abbrev pub pages_text : ℕ → ℕ → ℤ → List (List ℕ) → List ℕ
pages_text at number back [] = []
pages_text at number back (body ∷ pages) =
    page_bytes number back body
    ++ pages_text (at + length (page_bytes number back body)) (number + 1) (pos at) pages

-- the pointer to the last of them
abbrev pub last_page : ℕ → ℕ → ℤ → List (List ℕ) → ℤ
last_page at number back [] = back
last_page at number back (body ∷ pages) =
    last_page (at + length (page_bytes number back body)) (number + 1) (pos at) pages

-- ---- read again

-- no command of the bytes defines a font number
abbrev pub NeverDefines : ℤ → List ℕ → Type 0
NeverDefines k body = AllByRecursion (λ c. key_or None k c ≡ None) (commands_of body)

-- a document's reading, at a resolution, gives the units, the pages and the fonts
pub record GivesBack (u : Units) (fonts : List (ℤ × FontKey)) (pages : List (List ℕ))
    (res : ℕ) (r : Reading) : Type 0 where
  pub units : document_units res r
      ≡ Some (record { num = u.num; den = u.den; mag = u.mag; res = res })
  pub count : pages_begun r ≡ length pages
  pub page : (i : ℕ) → i < length pages
      → (at : ℕ) × (page_commands i r ≡ placed_from at (get_or pages i []))
  pub font : (k : ℤ) (key : FontKey) → key_given fonts k ≡ Some key → font_table r k ≡ Some key
  pub other : (k : ℤ) → key_given fonts k ≡ None → AllByRecursion (NeverDefines k) pages
      → font_table r k ≡ None

-- ---- a document

-- where font numbers have these keys, a command is no definition, or one with which nothing is
-- wrong, wherever it stands
abbrev pub IsRightDefinition : (ℤ → Option FontKey) → DviCommand → Type 0
IsRightDefinition known (Define d) = (at : ℕ) → define_fault (known d.number) at d ≡ None
IsRightDefinition known _ = Unit {0}

-- commands whose definitions have right sizes, and agree with these keys and with one another
abbrev pub DefineRightly : (ℤ → Option FontKey) → List DviCommand → Type 0
DefineRightly known [] = Unit {0}
DefineRightly known (c ∷ commands) =
    IsRightDefinition known c × DefineRightly (λ k. key_or (known k) k c) commands
