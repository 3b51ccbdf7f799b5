-- The steps of a page that is being expanded.
use Rattle.std.proofs.Common.{◌≡◌, ℕ, suc, ◌+◌, ◌-◌, ◌<◌, ℤ, Bool, true, false, List, [], drop, refl, sym, ap, subst, ◌∙◌, arith, Some, None, Option}
use Rattle.std.specs.Prelude.{unwrap_or}
use Rattle.std.specs.Arc.{arc_value}
use Rattle.dvi_commands.specs.Spelling.{DviCommand}
use Rattle.dvi_commands.specs.Reading.{Placed, commands_of}
use Rattle.outside.specs.declared.keys.FontKey.{FontKey}
use Rattle.drift_rules.specs.Position.{FlatCommand, value_of_flat}
use Rattle.drift_rules.specs.Position as flat
use Rattle.drift_rules.specs.declared.flat.Flat.{Flat}
use Rattle.pk_runs.specs.declared.glyph.Glyph.{Glyph}
use Rattle.font_decode.specs.declared.font_or_fault.Decoded.{Decoded}
use Rattle.vf_expand.specs.Faults.{value_of_fault, TooLong}
use Rattle.vf_expand.specs.Course.{Course, Gives, Asks, Ends, Stops, gives, in_place, lack_or_stop, Place, InPacket, Current, Chosen, character, deeper, expand_one, expand_list, first_font, leave, page_from, cut}
use Rattle.vf_expand.specs.Limits.{MAX_DEPTH}
use Rattle.vf_expand.specs.Effects.{HasEffect, IsEntry, IsCharEffect, IsNoCharacter, Meaning, value_of_current}
use Rattle.vf_expand.specs.Expansion.{Expansion, IsAtLook, OpenPacket, Stack, Page, Within, after_answer, after_pending, asks_from, course_left, depth, flat_of_pending, lacks_from, pending_advance, font_of, glyph_in, rest_of, place_in, stack_left}
use Rattle.vf_expand.specs.Levels.{value_of_packet, text_in}
use Rattle.vf_expand.specs.Steps.{AsksOne, GivesOne, HasItsGlyph, LacksOne, Stays}
use Rattle.vf_expand.specs.Sets.{character_command}
use Rattle.vf_expand.specs.declared.effect.Effect.TheVariants as effect
use Rattle.vf_expand.specs.declared.outer_levels.Level.{Level}
use Rattle.vf_expand.specs.declared.pending.Pending.{Pending}
use Rattle.vf_expand.specs.declared.pending.Pending.TheVariants as pending
use Rattle.vf_expand.proofs.Fewer.{falls, fewer}
use Rattle.vf_expand.proofs.Late.{ask_cut, end_cut, give_cut, lack_cut, late_list, stop_cut}

asks_again : (x : Course) (k : FontKey) (at : ℕ) (rest : Decoded → Course) → x ≡ Asks k at rest → x ≡ Asks k at (after_answer x)
asks_again x k at rest e = e ∙ ap (λ (y : Course). Asks k at (after_answer y)) (sym e)

-- a flat command that is no character comes with no font and no glyph
without : (f : FlatCommand) → IsNoCharacter f → HasItsGlyph None f None
without (flat.Char k c width put) h = absurd (h k c width put refl)
without _ h = (refl, refl)

glyph_of_flat : Option Decoded → FlatCommand → Option Glyph
glyph_of_flat font (flat.Char k c width put) = glyph_in font c
glyph_of_flat font _ = None

module _ (meaning : Meaning) (current : Current) (f : FlatCommand) (mark : IsCharEffect meaning current f) where
  here_is : Some mark.glyph ≡ glyph_in (font_of current) mark.code
  here_is = sym (ap (λ (x : Current). glyph_in (font_of x) mark.code) mark.known ∙ mark.has)

  with_glyph : HasItsGlyph (font_of current) f (Some mark.glyph)
  with_glyph = subst (λ (g : FlatCommand). HasItsGlyph (font_of current) g (Some mark.glyph)) (sym mark.char) (refl, here_is)

  -- its glyph is the one of its code in the font that is current
  pub only_glyph : (key : FontKey) (code : ℕ) (width : ℤ) (put : Bool) (glyph : Glyph) → f ≡ flat.Char key code width put → glyph_in (font_of current) code ≡ Some glyph → Some mark.glyph ≡ Some glyph
  unfolding glyph_of_flat
  only_glyph key code width put glyph is has =
      here_is ∙ ap (glyph_of_flat (font_of current)) (sym mark.char ∙ is) ∙ has

-- a character that a command sets or puts
pub mark_command : (place : Place) (n : ℕ) (current : Current) (f : FlatCommand) (code : ℤ) (put : Bool) → IsCharEffect (λ now at others. character (deeper n at) place at now code put others) current f
    → IsCharEffect (λ now at others. expand_one (deeper n at) place at now (character_command code put) others) current f
mark_command place n current f code false h = h
mark_command place n current f code true h = h

-- ---- after a command of the page or of a packet

module _ (v : Expansion) (nothing_pending : v.pending ≡ None) (room : 0 < v.budget) (n at : ℕ) (place : Place) (c : DviCommand) (rest : Stack)
    (head : (current : Current) → stack_left v.reading v.eop v.at current v.stack
    ≡ expand_one (deeper n at) place at current c (λ next. stack_left v.reading v.eop at next rest))
    (same : stack_left v.reading v.eop at v.current v.stack ≡ stack_left v.reading v.eop v.at v.current v.stack) where
  abbrev others : Current → Course
  others next = stack_left v.reading v.eop at next rest

  abbrev given : Bool → Expansion
  given marked = record v { at = at; budget = v.budget - 1; marked = marked; stack = rest }

  abbrev stopped : Expansion
  stopped = record v { at = at; marked = false }

  here : rest_of v ≡ cut v.tolerant v.budget (expand_one (deeper n at) place at v.current c others)
  unfolding course_left
  here = ap (λ (pending : Option Pending). cut v.tolerant v.budget (after_pending pending v.at (stack_left v.reading v.eop v.at v.current v.stack))) nothing_pending ∙ ap (cut v.tolerant v.budget) (head v.current)

  after : (current : Current) (stack : Stack) → cut v.tolerant (v.budget - 1) (stack_left v.reading v.eop at current stack) ≡ course_left v.tolerant v.reading v.eop at (v.budget - 1) v.pending current stack
  unfolding course_left
  after current stack = ap (λ (pending : Option Pending). cut v.tolerant (v.budget - 1) (after_pending pending at (stack_left v.reading v.eop at current stack))) (sym nothing_pending)

  stays : rest_of stopped ≡ rest_of v
  unfolding course_left
  stays = ap (λ (pending : Option Pending). cut v.tolerant v.budget (after_pending pending at (stack_left v.reading v.eop at v.current v.stack))) nothing_pending
      ∙ ap (cut v.tolerant v.budget) same
      ∙ ap (λ (pending : Option Pending). cut v.tolerant v.budget (after_pending pending v.at (stack_left v.reading v.eop v.at v.current v.stack))) (sym nothing_pending)

  pub flat_step : (f : Flat) → HasEffect place n v.current c (effect.Flat f) → IsNoCharacter (value_of_flat f) → GivesOne v (given false) (value_of_flat f) None
  flat_step f has_effect no_character = record {
    given = here ∙ give_cut v.tolerant v.budget _ (others v.current) (value_of_flat f) None at room (has_effect at others) ∙ ap (gives (value_of_flat f) at) (after v.current rest);
    has = without (value_of_flat f) no_character;
    asks = falls v.budget v.current v.current;
    fewer = fewer v.budget v.current v.current v.pending v.pending room;
  }

  pub mark_step : (f : FlatCommand) (mark : IsCharEffect (λ now at others. expand_one (deeper n at) place at now c others) v.current f) → GivesOne v (given true) f (Some mark.glyph)
  mark_step f mark = record {
    given = here ∙ give_cut v.tolerant v.budget _ (others v.current) f (Some mark.glyph) at room (mark.gives at others) ∙ ap (Gives f (Some mark.glyph) at) (after v.current rest);
    has = with_glyph _ v.current f mark;
    asks = falls v.budget v.current v.current;
    fewer = fewer v.budget v.current v.current v.pending v.pending room;
  }

  pub change_step : (key : _) → HasEffect place n v.current c (effect.Change key) → GivesOne v (record (given false) { current = Chosen (arc_value key) }) flat.Skip None
  change_step key has_effect =
      let now = Chosen (arc_value key) in
      record {
        given = here ∙ give_cut v.tolerant v.budget _ (others now) flat.Skip None at room (has_effect at others) ∙ ap (gives flat.Skip at) (after now rest);
        has = (refl, refl);
        asks = falls v.budget v.current now;
        fewer = fewer v.budget v.current now v.pending v.pending room;
      }

  pub ask_step : (key : _) → HasEffect place n v.current c (effect.Ask key) → AsksOne v stopped (arc_value key)
  ask_step key has_effect =
      let asked = here ∙ ask_cut v.tolerant v.budget _ (arc_value key) at _ room (has_effect.1 at others) in
      record {
        asked = asks_again (rest_of v) (arc_value key) at _ asked;
        look = subst IsAtLook (sym (stays ∙ asked)) tt;
        left = stays;
        unmarked = refl;
        some = subst (λ (x : Current). 0 < asks_from v.budget x) (sym has_effect.0) room;
        asks = refl;
        steps = refl;
      }

  pub stop_step : (fault : _) → HasEffect place n v.current c (effect.Stop fault) → (rest_of v ≡ Stops (value_of_fault fault) at) × Stays v stopped
  stop_step fault has_effect =
      (here ∙ stop_cut v.tolerant v.budget _ (value_of_fault fault) at room (has_effect at others), record { left = stays; unmarked = refl; asks = refl })

  -- a lack, where it is tolerated, and where it isn't
  abbrev lacked : Pending → Expansion
  lacked p = record v { at = at; marked = false; pending = Some p; stack = rest }

  in_its_place : (p : Pending) → cut v.tolerant v.budget (gives (flat_of_pending p) at (others v.current)) ≡ rest_of (lacked p)
  unfolding course_left
  in_its_place p = refl

  lack_here : (fault : _) (advance : Option ℤ) (p : Pending) → flat_of_pending p ≡ in_place advance → HasEffect place n v.current c (effect.Lack fault advance)
      → rest_of v ≡ lack_or_stop v.tolerant (value_of_fault fault) at (rest_of (lacked p))
  lack_here fault advance p same_flat has_effect =
      let later = gives (in_place advance) at (others v.current) in
      here ∙ lack_cut v.tolerant v.budget _ later (value_of_fault fault) at room (has_effect at others)
      ∙ ap (λ (f : FlatCommand). lack_or_stop v.tolerant (value_of_fault fault) at (cut v.tolerant v.budget (gives f at (others v.current)))) (sym same_flat)
      ∙ ap (lack_or_stop v.tolerant (value_of_fault fault) at) (in_its_place p)

  pub lack_step : (fault : _) (advance : Option ℤ) (p : Pending) → flat_of_pending p ≡ in_place advance → v.tolerant ≡ true → HasEffect place n v.current c (effect.Lack fault advance)
      → LacksOne v (lacked p) (value_of_fault fault)
  lack_step fault advance p same_flat tolerant has_effect =
      let a = asks_from v.budget v.current in
      let less : v.budget + a + (v.budget - 1) < v.budget + a + v.budget = omega (arith, room) in
      record {
        lacked = lack_here fault advance p same_flat has_effect ∙ ap (λ (t : Bool). lack_or_stop t (value_of_fault fault) at (rest_of (lacked p))) tolerant;
        unmarked = refl;
        asks = refl;
        fewer = subst (λ (o : Option Pending). v.budget + a + (v.budget - 1) < v.budget + a + lacks_from v.budget o) (sym nothing_pending) less;
      }

  pub lack_stop_step : (fault : _) (advance : Option ℤ) → v.tolerant ≡ false → HasEffect place n v.current c (effect.Lack fault advance)
      → (rest_of v ≡ Stops (value_of_fault fault) at) × Stays v stopped
  lack_stop_step fault advance strict has_effect =
      let later = gives (in_place advance) at (others v.current) in (
        here ∙ lack_cut v.tolerant v.budget _ later (value_of_fault fault) at room (has_effect at others)
            ∙ ap (λ (t : Bool). lack_or_stop t (value_of_fault fault) at (cut v.tolerant v.budget later)) strict,
        record { left = stays; unmarked = refl; asks = refl },
      )

  -- a packet is entered
  module _ (deep : n ≡ MAX_DEPTH - depth rest) (level : Level) (has_effect : IsEntry n (λ now at others. expand_one (deeper n at) place at now c others) v.current level) where
    abbrev entered : Stack
    entered = Within (value_of_packet v.current level) rest

    text_is : has_effect.text ≡ drop level.pos (text_in v.current level.code)
    text_is =
        let prefix = ap (λ (p : ℕ). drop p has_effect.text) (sym has_effect.prefix) in
        prefix ∙ sym (ap (λ (o : Option (List ℕ)). drop level.pos (unwrap_or o [])) has_effect.packet)
        ∙ ap (λ (x : Current). drop level.pos (text_in x level.code)) (sym has_effect.known)

    below : n - 1 ≡ MAX_DEPTH - suc (depth rest)
    below = omega (arith, deep)

    inside : expand_list (expand_one (deeper (n - 1) at) (InPacket has_effect.key has_effect.font) at) (first_font has_effect.font) (commands_of has_effect.text) (leave level.advance at (others v.current))
        ≡ stack_left v.reading v.eop at (value_of_current level.current) entered
    inside =
        let later = leave level.advance at (others v.current) in
        ap (λ (m : ℕ). expand_list (expand_one (deeper m at) (InPacket has_effect.key has_effect.font) at) (first_font has_effect.font) (commands_of has_effect.text) later) below
        ∙ ap (λ (x : Current). expand_list (expand_one (deeper (MAX_DEPTH - suc (depth rest)) at) (place_in v.reading x) at) (first_font has_effect.font) (commands_of has_effect.text) later) (sym has_effect.known)
        ∙ ap (λ (x : Current). expand_list (expand_one (deeper (MAX_DEPTH - suc (depth rest)) at) (place_in v.reading v.current) at) x (commands_of has_effect.text) later) (sym has_effect.first)
        ∙ ap (λ (text : List ℕ). expand_list (expand_one (deeper (MAX_DEPTH - suc (depth rest)) at) (place_in v.reading v.current) at) (value_of_current level.current) (commands_of text) later) text_is

    pub enter_step : GivesOne v (record v { at = at; budget = v.budget - 1; marked = false; current = value_of_current level.current; stack = entered }) flat.Enter None
    enter_step = record {
      given = here ∙ give_cut v.tolerant v.budget _ _ flat.Enter None at room (has_effect.gives at others ∙ ap (gives flat.Enter at) inside) ∙ ap (gives flat.Enter at) (after (value_of_current level.current) entered);
      has = (refl, refl);
      asks = falls v.budget v.current (value_of_current level.current);
      fewer = fewer v.budget v.current (value_of_current level.current) v.pending v.pending room;
    }

-- ---- after a packet

leave_is : (advance : Option ℤ) (at : ℕ) (x : Course) → leave advance at x ≡ gives flat.Leave at (after_pending (pending_advance advance) at x)
leave_is None at x = refl
leave_is (Some width) at x = refl

module _ (v : Expansion) (nothing_pending : v.pending ≡ None) (p : OpenPacket) (outer : Stack) (inside : v.stack ≡ Within p outer) where
  packet_here : rest_of v ≡ course_left v.tolerant v.reading v.eop v.at v.budget None v.current (Within p outer)
  packet_here = ap (λ (pending : Option Pending). course_left v.tolerant v.reading v.eop v.at v.budget pending v.current v.stack) nothing_pending
      ∙ ap (course_left v.tolerant v.reading v.eop v.at v.budget None v.current) inside

  leaves : 0 < v.budget → p.commands ≡ [] → course_left v.tolerant v.reading v.eop v.at v.budget None v.current (Within p outer)
      ≡ gives flat.Leave v.at (course_left v.tolerant v.reading v.eop v.at (v.budget - 1) (pending_advance p.advance) p.outside outer)
  unfolding course_left
  leaves room ended =
      let one = expand_one (deeper (MAX_DEPTH - suc (depth outer)) v.at) (place_in v.reading p.outside) v.at in
      let later = stack_left v.reading v.eop v.at p.outside outer in
      give_cut v.tolerant v.budget _ (after_pending (pending_advance p.advance) v.at later) flat.Leave None v.at room
      (ap (λ (commands : List DviCommand). expand_list one v.current commands (leave p.advance v.at later)) ended ∙ leave_is p.advance v.at later)

  pub leave_step : 0 < v.budget → p.commands ≡ [] → GivesOne v (record v { budget = v.budget - 1; marked = false; pending = pending_advance p.advance; current = p.outside; stack = outer }) flat.Leave None
  leave_step room ended = record {
    given = packet_here ∙ leaves room ended;
    has = (refl, refl);
    asks = falls v.budget v.current p.outside;
    fewer = fewer v.budget v.current p.outside v.pending (pending_advance p.advance) room;
  }

  late : course_left v.tolerant v.reading v.eop v.at 0 None v.current (Within p outer) ≡ Stops TooLong v.at
  unfolding course_left
  late = late_list v.tolerant (deeper (MAX_DEPTH - suc (depth outer)) v.at) (place_in v.reading p.outside) v.at v.current p.commands p.advance (stack_left v.reading v.eop v.at p.outside outer)

  pub late_packet_step : v.budget ≡ 0 → (rest_of v ≡ Stops TooLong v.at) × Stays v (record v { marked = false })
  late_packet_step none =
      (packet_here ∙ ap (λ (b : ℕ). course_left v.tolerant v.reading v.eop v.at b None v.current (Within p outer)) none ∙ late, record { left = refl; unmarked = refl; asks = refl })

-- ---- what comes after a packet or a lack

pending_has : (p : Pending) → HasItsGlyph None (flat_of_pending p) None
pending_has pending.Skip = (refl, refl)
pending_has (pending.Advance width) = (refl, refl)

module _ (v : Expansion) (p : Pending) (there : v.pending ≡ Some p) where
  pending_here : rest_of v ≡ course_left v.tolerant v.reading v.eop v.at v.budget (Some p) v.current v.stack
  pending_here = ap (λ (o : Option Pending). course_left v.tolerant v.reading v.eop v.at v.budget o v.current v.stack) there

  advances : 0 < v.budget → course_left v.tolerant v.reading v.eop v.at v.budget (Some p) v.current v.stack
      ≡ gives (flat_of_pending p) v.at (course_left v.tolerant v.reading v.eop v.at (v.budget - 1) None v.current v.stack)
  unfolding course_left
  advances room = give_cut v.tolerant v.budget _ (stack_left v.reading v.eop v.at v.current v.stack) (flat_of_pending p) None v.at room refl

  pub pending_step : 0 < v.budget → GivesOne v (record v { budget = v.budget - 1; marked = false; pending = None }) (flat_of_pending p) None
  pending_step room = record {
    given = pending_here ∙ advances room;
    has = pending_has p;
    asks = falls v.budget v.current v.current;
    fewer = fewer v.budget v.current v.current v.pending None room;
  }

  late_pending : course_left v.tolerant v.reading v.eop v.at 0 (Some p) v.current v.stack ≡ Stops TooLong v.at
  unfolding course_left
  late_pending = refl

  pub late_pending_step : v.budget ≡ 0 → (rest_of v ≡ Stops TooLong v.at) × Stays v (record v { marked = false })
  late_pending_step none =
      (pending_here ∙ ap (λ (b : ℕ). course_left v.tolerant v.reading v.eop v.at b (Some p) v.current v.stack) none ∙ late_pending, record { left = refl; unmarked = refl; asks = refl })

-- ---- the page's end, and a command that comes too late

module _ (v : Expansion) (nothing_pending : v.pending ≡ None) where
  undue_here : rest_of v ≡ course_left v.tolerant v.reading v.eop v.at v.budget None v.current v.stack
  undue_here = ap (λ (o : Option Pending). course_left v.tolerant v.reading v.eop v.at v.budget o v.current v.stack) nothing_pending

  ends : (at : ℕ) (commands : List Placed) → commands ≡ [] → course_left v.tolerant v.reading v.eop at v.budget None v.current (Page commands) ≡ Ends v.eop
  unfolding course_left
  ends at commands none = end_cut v.tolerant v.budget _ v.eop (ap (page_from v.reading v.eop v.current) none)

  pub end_step : (commands : List Placed) → v.stack ≡ Page commands → commands ≡ [] → (rest_of v ≡ Ends v.eop) × Stays v (record v { at = v.eop; marked = false })
  end_step commands page none =
      let at_end : (at : ℕ) → course_left v.tolerant v.reading v.eop at v.budget v.pending v.current v.stack ≡ Ends v.eop = λ at.
      ap (λ (o : Option Pending). course_left v.tolerant v.reading v.eop at v.budget o v.current v.stack) nothing_pending
      ∙ ap (course_left v.tolerant v.reading v.eop at v.budget None v.current) page ∙ ends at commands none in
      (at_end v.at, record { left = at_end v.eop ∙ sym (at_end v.at); unmarked = refl; asks = refl })

  late_here : (at : ℕ) (x : Course) → cut v.tolerant 0 (stack_left v.reading v.eop v.at v.current v.stack) ≡ x → v.budget ≡ 0 → course_left v.tolerant v.reading v.eop v.at v.budget None v.current v.stack ≡ x
  unfolding course_left
  late_here at x late none = ap (λ (b : ℕ). cut v.tolerant b (stack_left v.reading v.eop v.at v.current v.stack)) none ∙ late

  moved : (at : ℕ) → stack_left v.reading v.eop at v.current v.stack ≡ stack_left v.reading v.eop v.at v.current v.stack
      → course_left v.tolerant v.reading v.eop at v.budget v.pending v.current v.stack ≡ rest_of v
  unfolding course_left
  moved at same =
      ap (λ (o : Option Pending). cut v.tolerant v.budget (after_pending o at (stack_left v.reading v.eop at v.current v.stack))) nothing_pending ∙ ap (cut v.tolerant v.budget) same
      ∙ ap (λ (o : Option Pending). cut v.tolerant v.budget (after_pending o v.at (stack_left v.reading v.eop v.at v.current v.stack))) (sym nothing_pending)

  pub late_step : (at : ℕ) → stack_left v.reading v.eop at v.current v.stack ≡ stack_left v.reading v.eop v.at v.current v.stack
      → cut v.tolerant 0 (stack_left v.reading v.eop v.at v.current v.stack) ≡ Stops TooLong at → v.budget ≡ 0 → (rest_of v ≡ Stops TooLong at) × Stays v (record v { at = at; marked = false })
  late_step at same late none = (undue_here ∙ late_here at (Stops TooLong at) late none, record { left = moved at same; unmarked = refl; asks = refl })
