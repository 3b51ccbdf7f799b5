-- A DVI file as a list of commands: Knuth, DVItype, "Device-independent file format" (preamble,
-- postamble, postpostamble), "Defining fonts" and "Reading the postamble". A reading is a list of
-- commands with their positions, the last one first, so that what stands before a command is the
-- rest of the list.
use Rattle.std.specs.Prelude.{◌≡◌, ℕ, suc, ◌+◌, ◌≤◌, ℤ, pos, negsuc, Bool, true, false, not, ◌&&◌, ◌||◌, List, [], ◌∷◌, ◌++◌, length, replicate, if◌then◌else◌, slice_index, Option, Some, None, IsTrue, IsFalse, unsigned_abs}
use Rattle.std.specs.List.{list_any}
use Rattle.big_endian.specs.Numbers.{int_eq}
use Rattle.outside.specs.declared.keys.FontKey.{FontKey}
use Rattle.pixel_round.specs.declared.units.Units.{Units}
use Rattle.dvi_commands.specs.Spelling.{DviCommand, Definition, Preamble, Bop, Eop, Define, Pre, Post, PostPost, Spells}
use Rattle.dvi_commands.specs.Refusal.{may_stand}
use Rattle.dvi_commands.specs.Reading.{Placed}
use Rattle.dvi_commands.specs.declared.command.Context.{Context}
use Rattle.dvi_commands.specs.declared.command.Context.TheVariants as context
use Rattle.page_index.specs.Limits.{MAX_DOCUMENT_LENGTH}
use Rattle.page_index.specs.Judged.{bop_fault, define_fault, post_fault, postpost_fault, preamble_fault}
use Rattle.page_index.specs.declared.faults.DocFault.{DocFault}

-- the last command first
abbrev pub Reading : Type 0
Reading = List Placed

-- the bytes that the commands spell together, and the position after them
abbrev pub text_of : Reading → List ℕ
text_of [] = []
text_of (p ∷ before) = text_of before ++ p.bytes

abbrev pub end_of : Reading → ℕ
end_of [] = 0
end_of (p ∷ before) = p.at + length p.bytes

-- ---- what stands before a command

abbrev pub is_post : DviCommand → Bool
is_post (Post q) = true
is_post _ = false

abbrev pub is_bop : DviCommand → Bool
is_bop (Bop counts back) = true
is_bop _ = false

abbrev pub is_eop : DviCommand → Bool
is_eop Eop = true
is_eop _ = false

abbrev pub is_postpost : DviCommand → Bool
is_postpost (PostPost q id) = true
is_postpost _ = false

-- a Bop has no Eop after it
abbrev pub is_page_open : Reading → Bool
is_page_open [] = false
is_page_open (p ∷ before) = is_bop p.command || not (is_eop p.command) && is_page_open before

abbrev pub is_post_read : Reading → Bool
is_post_read before = list_any (λ p. is_post p.command) before

abbrev pub context_after : Reading → Context
context_after [] = context.Start
context_after (p ∷ before) =
    if is_post_read (p ∷ before) then context.Post
    else if is_page_open (p ∷ before) then context.Page
    else context.Between

-- the last command is PostPost: no command may follow it
abbrev pub is_ended : Reading → Bool
is_ended [] = false
is_ended (p ∷ before) = is_postpost p.command

-- the number of pages begun, and the position of the last Bop, or -1
abbrev pub pages_begun : Reading → ℕ
pages_begun [] = 0
pages_begun (p ∷ before) = if is_bop p.command then suc (pages_begun before) else pages_begun before

abbrev pub last_bop : Reading → ℤ
last_bop [] = negsuc 0
last_bop (p ∷ before) = if is_bop p.command then pos p.at else last_bop before

-- the position of the postamble
abbrev pub post_at : Reading → Option ℕ
post_at [] = None
post_at (p ∷ before) = if is_post p.command then Some p.at else post_at before

abbrev pub preamble_or : Option Preamble → DviCommand → Option Preamble
preamble_or other (Pre q) = Some q
preamble_or other _ = other

abbrev pub preamble_of : Reading → Option Preamble
preamble_of [] = None
preamble_of (p ∷ before) = preamble_or (preamble_of before) p.command

-- the fractions of the preamble, at a resolution
abbrev pub units_of : ℕ → Preamble → Units
units_of res p =
    record {
      num = unsigned_abs p.num;
      den = unsigned_abs p.den;
      mag = unsigned_abs p.mag;
      res = res;
    }

-- ---- the font table

-- the key of a definition whose sizes are right
abbrev pub key_of : Definition → FontKey
key_of d = record {
  area = d.area;
  name = d.name;
  size = unsigned_abs d.size;
  design = unsigned_abs d.design;
}

abbrev pub key_or : Option FontKey → ℤ → DviCommand → Option FontKey
key_or other k (Define d) = if int_eq d.number k then Some (key_of d) else other
key_or other k _ = other

-- the key that a font number is defined to be, wherever the definition stands
abbrev pub font_table : Reading → ℤ → Option FontKey
font_table [] k = None
font_table (p ∷ before) k = key_or (font_table before k) k p.command

-- ---- what is wrong with a whole command, given the commands before it

-- of a Pre and a PostPost the fields are judged one by one, by the bytes
abbrev pub whole_fault : ℕ → Reading → ℕ → List ℕ → DviCommand → Option DocFault
whole_fault res before at bytes (Define d) = define_fault (font_table before d.number) at d
whole_fault res before at bytes (Bop counts back) =
    bop_fault (pages_begun before) (last_bop before) at back
whole_fault res before at bytes (Post q) =
    post_fault (pages_begun before) (last_bop before) (preamble_of before) at q
whole_fault res before at bytes (Pre q) = preamble_fault res bytes
whole_fault res before at bytes (PostPost q id) = postpost_fault (post_at before) at bytes
whole_fault res before at bytes _ = None

-- ---- sound readings

-- the command is spelled where it stands, may stand there, and nothing is wrong with it
pub record IsSound (res : ℕ) (before : Reading) (p : Placed) : Type 0 where
  pub unfinished : IsFalse (is_ended before)
  pub place : p.at ≡ end_of before
  pub spelled : Spells p.command p.bytes
  pub allowed : IsTrue (may_stand (context_after before) (slice_index p.bytes 0))
  pub right : whole_fault res before p.at p.bytes p.command ≡ None

abbrev pub Sound : ℕ → Reading → Type 0
Sound res [] = Unit {0}
Sound res (p ∷ before) = Sound res before × IsSound res before p

-- the bytes are a document, of which this is the reading, at a resolution
pub record IsDocument (res : ℕ) (bytes : List ℕ) (reading : Reading) : Type 0 where
  pub fits : length bytes ≤ MAX_DOCUMENT_LENGTH
  pub sound : Sound res reading
  pub ended : IsTrue (is_ended reading)
  pub filler : ℕ
  pub filled : 4 ≤ filler
  pub whole : bytes ≡ text_of reading ++ replicate filler 223
