-- What a context says of the commands before it.
use Rattle.std.proofs.Common.{◌≡◌, ℕ, suc, ◌≤◌, Bool, true, false, List, [], ◌∷◌, refl, ap, ◌∙◌, arith}
use Rattle.std.specs.Prelude.{slice_index, IsTrue, ◌||◌, ◌&&◌, not, if◌then◌else◌}
use Rattle.dvi_commands.specs.Spelling.{DviCommand, Pre, Spells}
use Rattle.dvi_commands.specs.Refusal.{may_stand}
use Rattle.dvi_commands.specs.Reading.{Placed, command_of}
use Rattle.dvi_commands.specs.declared.command.Context.{Context}
use Rattle.dvi_commands.specs.declared.command.Context.TheVariants as context
use Rattle.dvi_commands.proofs.Determined.{determined_by_bytes}
use Rattle.page_index.specs.Document.{Reading, context_after, is_bop, is_eop, is_page_open, is_post, is_post_read, pages_begun}

abbrev pub SaysOf : Context → Reading → Type 0
SaysOf context.Start r = r ≡ []
SaysOf context.Between r = (is_post_read r ≡ false) × (is_page_open r ≡ false)
SaysOf context.Page r = (is_post_read r ≡ false) × (is_page_open r ≡ true)
SaysOf context.Packet r = ⊥
SaysOf context.Post r = is_post_read r ≡ true

abbrev by_tests : Bool → Bool → Context
by_tests post open_page = if post then context.Post else if open_page then context.Page else context.Between

said_of : (r : Reading) (post open_page : Bool) → is_post_read r ≡ post → is_page_open r ≡ open_page → SaysOf (by_tests post open_page) r
said_of r true b p o = p
said_of r false true p o = (p, o)
said_of r false false p o = (p, o)

pub says_of : (r : Reading) → SaysOf (context_after r) r
says_of [] = refl
says_of (p ∷ before) = said_of (p ∷ before) (is_post_read (p ∷ before)) (is_page_open (p ∷ before)) refl refl

-- the context after one command more
pub context_next : (q : Placed) (r : Reading) (post open_page : Bool) → (is_post q.command || is_post_read r) ≡ post → (is_bop q.command || not (is_eop q.command) && is_page_open r) ≡ open_page
    → by_tests post open_page ≡ context_after (q ∷ r)
context_next q r post open_page p o = rw (p, o) refl

begun : (bop eop open_page : Bool) (n : ℕ) → (bop || not eop && open_page) ≡ true → (open_page ≡ true → 1 ≤ n) → 1 ≤ (if bop then suc n else n)
begun true eop open_page n h before = omega arith
begun false true open_page n h before = cc
begun false false open_page n h before = before h

-- where a page is open, one was begun
pub open_is_begun : (r : Reading) → is_page_open r ≡ true → 1 ≤ pages_begun r
open_is_begun [] h = cc
open_is_begun (p ∷ before) h = begun (is_bop p.command) (is_eop p.command) (is_page_open before) (pages_begun before) h (open_is_begun before)

-- by what may stand there
pub at_start : (place : Context) → IsTrue (may_stand place 247) → place ≡ context.Start
at_start context.Start h = refl
at_start context.Between h = cc
at_start context.Page h = cc
at_start context.Packet h = cc
at_start context.Post h = cc

pub between_pages : (place : Context) → IsTrue (may_stand place 139) → place ≡ context.Between
between_pages context.Start h = cc
between_pages context.Between h = refl
between_pages context.Page h = cc
between_pages context.Packet h = cc
between_pages context.Post h = cc

pub on_page : (place : Context) → IsTrue (may_stand place 140) → place ≡ context.Page
on_page context.Start h = cc
on_page context.Between h = cc
on_page context.Page h = refl
on_page context.Packet h = cc
on_page context.Post h = cc

pub after_pages : (place : Context) → IsTrue (may_stand place 248) → place ≡ context.Between
after_pages context.Start h = cc
after_pages context.Between h = refl
after_pages context.Page h = cc
after_pages context.Packet h = cc
after_pages context.Post h = cc

pub after_post : (place : Context) → IsTrue (may_stand place 249) → place ≡ context.Post
after_post context.Start h = cc
after_post context.Between h = cc
after_post context.Page h = cc
after_post context.Packet h = cc
after_post context.Post h = refl

-- a command with the opcode 247 is a preamble
abbrev pub is_pre : DviCommand → Bool
is_pre (Pre q) = true
is_pre _ = false

pub pre_by_opcode : (c : DviCommand) (bytes : List ℕ) → Spells c bytes → slice_index bytes 0 ≡ 247 → is_pre c ≡ true
pre_by_opcode c [] h op = cc
pre_by_opcode c (b ∷ bytes) h op =
    let first : b ≡ 247 = op in
    ap is_pre (determined_by_bytes c (b ∷ bytes) h ∙ ap (λ (n : ℕ). command_of (n ∷ bytes)) first)
