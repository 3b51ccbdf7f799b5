-- Where no character stands next.
use Rattle.std.proofs.Common.{◌≡◌, ◌∙◌, ℕ, zero, suc, ◌+◌, ◌-◌, ℤ, Bool, true, false, List, [], ◌∷◌, length, drop, refl, sym, ap, subst, Option, Some, None}
use Rattle.std.specs.Prelude.{is_some}
use Rattle.outside.specs.declared.keys.FontKey.{FontKey}
use Rattle.dvi_commands.specs.declared.command.Context.{Context}
use Rattle.dvi_commands.specs.declared.command.Context.TheVariants as context
use Rattle.dvi_commands.specs.Spelling.{DviCommand, Set, Put, SetRule, PutRule, Push, Pop, Right, W0, W, X0, X, Down, Y0, Y, Z0, Z, Font}
use Rattle.dvi_commands.specs.Reading.{AreCommands, Begins, Placed, commands_of, placed, placed_from}
use Rattle.dvi_commands.proofs.Commands.{commands_first, commands_none, placed_first, placed_none}
use Rattle.page_index.specs.Document.{Reading, font_table}
use Rattle.font_decode.specs.Fonts.{FontValue, local_of, first_local_of, packet_of}
use Rattle.vf_expand.specs.Faults.{PageFaultValue}
use Rattle.vf_expand.specs.Faults as fault
use Rattle.vf_expand.specs.Course.{Asks, Lacks, lack_or_stop, Course, Current, Deeper, Ends, Gives, OnPage, InPacket, Place, Stops, changed_to, cut, deeper, expand_list, expand_one, font_change, leave, no_local, number_of, packet, page_from, gives, virtual}
use Rattle.vf_expand.specs.Limits.{MAX_DEPTH}
use Rattle.vf_expand.specs.Expansion.{Expansion, GivesNoPackedChar, course_left, depth, after_pending, flat_of_pending, rest_of, place_in, stack_left}
use Rattle.vf_expand.specs.Effects.{SetsNoPackedChar, value_of_current}
use Rattle.vf_expand.specs.Sets.{character_command}
use Rattle.vf_expand.specs.Levels.{AreLevels, context_of, stack_of, text_in, level_text}
use Rattle.vf_expand.specs.declared.outer_levels.Level.{Level}
use Rattle.vf_expand.specs.declared.pending.Pending.{Pending}
use Rattle.vf_expand.specs.declared.pending.Pending.TheVariants as pending
use Rattle.vf_expand.proofs.Levels.{rest_reads}

-- ---- by what is left

none_lack : (t : Bool) (f : PageFaultValue) (at : ℕ) (rest : Course) → GivesNoPackedChar (lack_or_stop t f at rest)
none_lack true f at rest = tt
none_lack false f at rest = tt

none_cut : (t : Bool) (b : ℕ) (x : Course) → GivesNoPackedChar x → GivesNoPackedChar (cut t b x)
none_cut t zero (Gives f g at rest) h = tt
none_cut t zero (Asks k at rest) h = tt
none_cut t zero (Lacks f at rest) h = tt
none_cut t zero (Ends at) h = tt
none_cut t zero (Stops f at) h = tt
none_cut t (suc b) (Gives f g at rest) h = h
none_cut t (suc b) (Asks k at rest) h = tt
none_cut t (suc b) (Lacks f at rest) h = none_lack t f at (cut t (suc b) rest)
none_cut t (suc b) (Ends at) h = tt
none_cut t (suc b) (Stops f at) h = tt

none_over : (t : Bool) (x : Course) → GivesNoPackedChar (cut t 0 x)
none_over t (Gives f g at rest) = tt
none_over t (Asks k at rest) = tt
none_over t (Lacks f at rest) = tt
none_over t (Ends at) = tt
none_over t (Stops f at) = tt

none_leave : (advance : Option ℤ) (at : ℕ) (x : Course) → GivesNoPackedChar (leave advance at x)
none_leave None at x = tt
none_leave (Some width) at x = tt

is_pending : (o : Option Pending) → is_some o ≡ true → (p : Pending) × (o ≡ Some p)
is_pending None e = absurd cc
is_pending (Some p) e = (p, refl)

pub has_nothing_pending : (o : Option Pending) → is_some o ≡ false → o ≡ None
has_nothing_pending None e = refl
has_nothing_pending (Some p) e = absurd cc

none_of_pending : (p : Pending) (at : ℕ) (x : Course) → GivesNoPackedChar (gives (flat_of_pending p) at x)
none_of_pending pending.Skip at x = tt
none_of_pending (pending.Advance width) at x = tt

module _ (v : Expansion) where
  -- what comes after a packet or a lack is pending
  pending_first : (p : Pending) → v.pending ≡ Some p → GivesNoPackedChar (rest_of v)
  unfolding course_left
  pending_first p there =
      let x = stack_left v.reading v.eop v.at v.current v.stack in
      subst (λ (o : Option Pending). GivesNoPackedChar (cut v.tolerant v.budget (after_pending o v.at x))) (sym there)
      (none_cut v.tolerant v.budget (gives (flat_of_pending p) v.at x) (none_of_pending p v.at x))

  pub none_advance : is_some v.pending ≡ true → GivesNoPackedChar (rest_of v)
  none_advance is = let found = is_pending v.pending is in pending_first found.0 found.1

  -- no flat command may be given
  pub none_late : v.budget ≡ 0 → GivesNoPackedChar (rest_of v)
  unfolding course_left
  none_late none =
      let x = after_pending v.pending v.at (stack_left v.reading v.eop v.at v.current v.stack) in
      subst (λ (b : ℕ). GivesNoPackedChar (cut v.tolerant b x)) (sym none) (none_over v.tolerant x)

  pub none_pending : v.pending ≡ None → GivesNoPackedChar (stack_left v.reading v.eop v.at v.current v.stack) → GivesNoPackedChar (rest_of v)
  unfolding course_left
  none_pending nothing_pending h =
      let x = stack_left v.reading v.eop v.at v.current v.stack in
      subst (λ (o : Option Pending). GivesNoPackedChar (cut v.tolerant v.budget (after_pending o v.at x))) (sym nothing_pending) (none_cut v.tolerant v.budget x h)

-- ---- a character of a virtual font

none_packet : (inner : FontKey → FontValue → List DviCommand → Course → Course) (at : ℕ) (k : FontKey) (f : FontValue) (c : ℤ) (advance : Option ℤ) (text : Option (List ℕ)) (rest : Course)
    → GivesNoPackedChar (packet inner at k f c advance text rest)
none_packet inner at k f c advance None rest = tt
none_packet inner at k f c advance (Some text) rest = tt

pub none_virtual : (deep : Deeper) (at : ℕ) (k : FontKey) (f : FontValue) (c : ℤ) (advance : Option ℤ) (rest : Course) → GivesNoPackedChar (virtual deep at k f c advance rest)
none_virtual None at k f c advance rest = tt
none_virtual (Some inner) at k f c advance rest = none_packet inner at k f c advance (packet_of f (number_of c)) rest

-- ---- any other command

none_changed : (k : Option FontKey) (f : PageFaultValue) (at : ℕ) (others : Current → Course) → GivesNoPackedChar (changed_to k f at others)
none_changed None f at others = tt
none_changed (Some k) f at others = tt

none_font : (place : Place) (at : ℕ) (n : ℤ) (others : Current → Course) → GivesNoPackedChar (font_change place at n others)
none_font (OnPage reading) at n others = none_changed (font_table reading n) (fault.NoFont n) at others
none_font (InPacket k f) at n others = none_changed (local_of f n) (no_local k (first_local_of f) n) at others

module _ (n at : ℕ) (place : Place) (current : Current) where
  none_one : (c : DviCommand) (others : Current → Course) → ((code : ℤ) (put : Bool) → c ≡ character_command code put → SetsNoPackedChar current code)
      → GivesNoPackedChar (expand_one (deeper n at) place at current c others)
  none_one (Set c) others h = h c false refl false place n at others
  none_one (Put c) others h = h c true refl true place n at others
  none_one (Font k) others h = none_font place at k others
  none_one (SetRule a b) others h = tt
  none_one (PutRule a b) others h = tt
  none_one (Right b) others h = tt
  none_one (W b) others h = tt
  none_one (X b) others h = tt
  none_one (Down b) others h = tt
  none_one (Y b) others h = tt
  none_one (Z b) others h = tt
  none_one W0 others h = tt
  none_one X0 others h = tt
  none_one Y0 others h = tt
  none_one Z0 others h = tt
  none_one Push others h = tt
  none_one Pop others h = tt
  none_one _ others h = tt

-- ---- what is read of a level

-- a character at the head of the bytes is none of a packed font that was found and has its glyph
abbrev pub AtHead : Context → Current → List ℕ → Type 0
AtHead place current bytes = (code : ℤ) (put : Bool) (first rest : List ℕ) → Begins place (character_command code put) first rest bytes → SetsNoPackedChar current code

on_page : (reading : Reading) (eop start : ℕ) (current : Current) (commands : List DviCommand) (bytes : List ℕ) → AreCommands context.Page commands bytes → AtHead context.Page current bytes
    → GivesNoPackedChar (page_from reading eop current (placed_from start bytes))
on_page reading eop start current [] bytes are none =
    subst (λ (b : List ℕ). GivesNoPackedChar (page_from reading eop current (placed_from start b))) (sym are)
    (subst (λ (p : List Placed). GivesNoPackedChar (page_from reading eop current p)) (sym (placed_none start)) tt)
on_page reading eop start current (c ∷ commands) bytes are none =
    let after = placed_from (start + length are.0) are.1 in
    let is : placed_from start bytes ≡ placed start c are.0 ∷ after = ap (placed_from start) are.2.whole ∙ placed_first start c are.0 are.1 are.2.spelled in
    subst (λ (p : List Placed). GivesNoPackedChar (page_from reading eop current p)) (sym is)
    (none_one MAX_DEPTH start (OnPage reading) current c (λ next. page_from reading eop next after)
    (λ code put same. none code put are.0 are.1 (subst (λ (d : DviCommand). Begins context.Page d are.0 are.1 bytes) same are.2)))

in_packet : (n at : ℕ) (place : Place) (current : Current) (advance : Option ℤ) (rest : Course) (commands : List DviCommand) (bytes : List ℕ) → AreCommands context.Packet commands bytes
    → AtHead context.Packet current bytes → GivesNoPackedChar (expand_list (expand_one (deeper n at) place at) current (commands_of bytes) (leave advance at rest))
in_packet n at place current advance rest [] bytes are none =
    let one = expand_one (deeper n at) place at in
    subst (λ (b : List ℕ). GivesNoPackedChar (expand_list one current (commands_of b) (leave advance at rest))) (sym are)
    (subst (λ (l : List DviCommand). GivesNoPackedChar (expand_list one current l (leave advance at rest))) (sym commands_none) (none_leave advance at rest))
in_packet n at place current advance rest (c ∷ commands) bytes are none =
    let one = expand_one (deeper n at) place at in
    let is : commands_of bytes ≡ c ∷ commands_of are.1 = ap commands_of are.2.whole ∙ commands_first c are.0 are.1 are.2.spelled in
    subst (λ (l : List DviCommand). GivesNoPackedChar (expand_list one current l (leave advance at rest))) (sym is)
    (none_one n at place current c (λ next. expand_list one next (commands_of are.1) (leave advance at rest))
    (λ code put same. none code put are.0 are.1 (subst (λ (d : DviCommand). Begins context.Packet d are.0 are.1 bytes) same are.2)))

pub none_stack : (reading : Reading) (eop start at : ℕ) (bytes : List ℕ) (level : Level) (outer : List Level) → AreLevels bytes level outer
    → AtHead (context_of outer) (value_of_current level.current) (drop level.pos (level_text bytes level outer))
    → GivesNoPackedChar (stack_left reading eop at (value_of_current level.current) (stack_of bytes start level outer))
none_stack reading eop start at bytes level [] fine none =
    on_page reading eop (start + level.pos) (value_of_current level.current) fine.readable.commands (drop level.pos bytes) fine.readable.are none
none_stack reading eop start at bytes level (o ∷ outer) fine none =
    let outside = value_of_current o.current in
    let text = drop level.pos (text_in outside level.code) in
    let reads = rest_reads level.code text fine.0.sound in
    in_packet (MAX_DEPTH - suc (depth (stack_of bytes start o outer))) at (place_in reading outside) (value_of_current level.current) level.advance
    (stack_left reading eop at outside (stack_of bytes start o outer)) reads.commands text reads.are none
