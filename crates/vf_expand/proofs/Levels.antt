-- The levels of an expansion, as commands are read.
use Rattle.std.proofs.Common.{◌≡◌, ℕ, ◌-◌, ◌<◌, ◌≤◌, ℤ, pos, Bool, true, false, not, List, [], ◌∷◌, ◌++◌, length, length-append, length-take, length-drop, drop, refl, sym, ap, subst, ◌∙◌, arith, Option, Some, None}
use Rattle.std.specs.Prelude.{slice_range, unwrap_or, IfSome, if◌then◌else◌, int_le, int_lt}
use Rattle.std.specs.List.{list_all}
use Rattle.std.proofs.lemmas.Bool.{and_parts}
use Rattle.std.proofs.lemmas.Int.{ints}
use Rattle.dvi_commands.specs.declared.command.Context.{Context}
use Rattle.dvi_commands.specs.declared.command.Context.TheVariants as context
use Rattle.dvi_commands.specs.Spelling.{DviCommand, Spells, SetRule, PutRule, Right, W, X, Down, Y, Z}
use Rattle.dvi_commands.specs.Reading.{AreCommands, Reads}
use Rattle.dvi_commands.proofs.Commands.{parted}
use Rattle.dvi_commands.proofs.Prefix.{no_spelling_begins_another}
use Rattle.dvi_commands.proofs.Determined.{spelling_determines_the_command}
use Rattle.outside.specs.declared.keys.FontKey.{FontKey}
use Rattle.drift_rules.specs.Bounds.{IsNumber}
use Rattle.page_index.specs.Document.{Reading}
use Rattle.vf_reader.specs.Programs.{AreSoundFrom, command_fault, open_after, dimensions, is_dimension}
use Rattle.font_decode.specs.Fonts.{FontValue}
use Rattle.fix_word.specs.FixWords.{FIX_WORDS, IsFixWord, LEAST_FIX_WORD}
use Rattle.vf_expand.specs.Course.{Current, Place, OnPage, InPacket}
use Rattle.vf_expand.specs.Expansion.{place_in}
use Rattle.vf_expand.specs.Effects.{HasDimensions, HasKey, IsEntry, Meaning, value_of_current}
use Rattle.vf_expand.specs.Levels.{AreLevels, IsSoundRest, IsVirtual, context_of, place_at, text_in, level_text}
use Rattle.vf_expand.specs.declared.outer_levels.Level.{Level}
use Rattle.vf_expand.specs.declared.current.Current as code

-- ---- the commands of a packet

sound_reads : (c depth : ℕ) (commands : List DviCommand) (bytes : List ℕ) → AreSoundFrom c depth commands bytes → AreCommands context.Packet commands bytes
sound_reads c depth [] bytes h = h.0
sound_reads c depth (d ∷ commands) bytes h = (h.0, h.1, h.2, sound_reads c (open_after depth d) commands h.1 h.4)

pub rest_reads : (c : ℕ) (bytes : List ℕ) → IsSoundRest c bytes → Reads context.Packet bytes
rest_reads c bytes h = record { commands = h.1; are = sound_reads c h.0 h.1 bytes h.2 }

-- nothing is wrong with the command that was read, nor with those after it
record IsRead (c : ℕ) (command : DviCommand) (rest : List ℕ) : Type 0 where
  pub depth : ℕ
  pub right : command_fault c depth command ≡ None
  pub sound : IsSoundRest c rest

read_first : (c depth : ℕ) (commands : List DviCommand) (command : DviCommand) (bytes prefix rest : List ℕ) → bytes ≡ prefix ++ rest → Spells command prefix → 0 < length prefix
    → AreSoundFrom c depth commands bytes → IsRead c command rest
read_first c depth [] command bytes prefix rest whole spelled some h = absurd (omega (arith, some, ap length (sym whole ∙ h.0), length-append prefix rest))
read_first c depth (d ∷ commands) command bytes prefix rest whole spelled some h =
    let same = no_spelling_begins_another command d prefix h.0 rest h.1 spelled h.2.spelled (sym whole ∙ h.2.whole) in
    let is : command ≡ d = spelling_determines_the_command command d h.0 (subst (Spells command) same.0 spelled) h.2.spelled in
    record {
      depth = depth;
      right = ap (command_fault c depth) is ∙ h.3;
      sound = (open_after depth d, commands, subst (λ (b : List ℕ). AreSoundFrom c (open_after depth d) commands b) (sym same.1) h.4);
    }

sound_on : (c : ℕ) (text : List ℕ) (at end : ℕ) (command : DviCommand) → at < end → end ≤ length text → Spells command (slice_range text at end)
    → IsSoundRest c (drop at text) → IsRead c command (drop end text)
sound_on c text at end command h inside spelled sound =
    let size : length (slice_range text at end) ≡ end - at = grind (arith, length-take, length-drop) in
    read_first c sound.0 sound.1 command (drop at text) (slice_range text at end) (drop end text) (parted text at end h) spelled (omega (arith, size)) sound.2

-- ---- dimensions

no_fault : {A : Type 0} (right : Bool) (f : A) (other : Option A) → (if not right then Some f else other) ≡ None → right ≡ true
no_fault true f other e = refl
no_fault false f other e = absurd cc

in_range : (z : ℤ) → is_dimension z ≡ true → IsFixWord z
in_range z e = let parts = and_parts (int_le LEAST_FIX_WORD z) (int_lt z (pos FIX_WORDS)) e in (omega (arith, ints, parts.0), omega (arith, ints, parts.1))

one_in_range : (z : ℤ) → list_all is_dimension (z ∷ []) ≡ true → IsFixWord z
one_in_range z e = in_range z (and_parts (is_dimension z) true e).0

two_in_range : (z w : ℤ) → list_all is_dimension (z ∷ w ∷ []) ≡ true
    → IsFixWord z × IsFixWord w
two_in_range z w e =
    let parts = and_parts (is_dimension z) (list_all is_dimension (w ∷ [])) e in
    (in_range z parts.0, one_in_range w parts.1)

in_a_packet : (k : FontKey) (f : FontValue) (c : DviCommand) → list_all is_dimension (dimensions c) ≡ true → HasDimensions (InPacket k f) c
in_a_packet k f (SetRule a b) e = two_in_range a b e
in_a_packet k f (PutRule a b) e = two_in_range a b e
in_a_packet k f (Right b) e = one_in_range b e
in_a_packet k f (W b) e = one_in_range b e
in_a_packet k f (X b) e = one_in_range b e
in_a_packet k f (Down a) e = one_in_range a e
in_a_packet k f (Y a) e = one_in_range a e
in_a_packet k f (Z a) e = one_in_range a e
in_a_packet k f _ e = tt

on_a_page : (reading : Reading) (c : DviCommand) → HasDimensions (OnPage reading) c
on_a_page reading (SetRule a b) = (tt, tt)
on_a_page reading (PutRule a b) = (tt, tt)
on_a_page reading (Right b) = tt
on_a_page reading (W b) = tt
on_a_page reading (X b) = tt
on_a_page reading (Down a) = tt
on_a_page reading (Y a) = tt
on_a_page reading (Z a) = tt
on_a_page reading _ = tt

-- ---- what holds of the level that is read

pub has_key : (bytes : List ℕ) (level : Level) (outer : List Level) → AreLevels bytes level outer → HasKey (value_of_current level.current)
has_key bytes level [] fine = fine.keyed
has_key bytes level (o ∷ outer) fine = fine.0.keyed

pub is_inside : (bytes : List ℕ) (level : Level) (outer : List Level) → AreLevels bytes level outer → level.pos ≤ length (level_text bytes level outer)
is_inside bytes level [] fine = fine.inside
is_inside bytes level (o ∷ outer) fine = fine.0.inside

pub is_readable : (bytes : List ℕ) (level : Level) (outer : List Level) → AreLevels bytes level outer → Reads (context_of outer) (drop level.pos (level_text bytes level outer))
is_readable bytes level [] fine = fine.readable
is_readable bytes level (o ∷ outer) fine = rest_reads level.code (drop level.pos (text_in (value_of_current o.current) level.code)) fine.0.sound

pub is_virtual : (bytes : List ℕ) (level o : Level) (outer : List Level) → AreLevels bytes level (o ∷ outer) → IsVirtual (value_of_current o.current)
is_virtual bytes level o outer fine = (fine.0.key, fine.0.font, fine.0.known)

-- ---- after a command

module _ (bytes : List ℕ) (level : Level) (end : ℕ) (c : DviCommand) where
  pub has_dimensions : (reading : Reading) (outer : List Level) → level.pos < end → end ≤ length (level_text bytes level outer) → Spells c (slice_range (level_text bytes level outer) level.pos end)
      → AreLevels bytes level outer → HasDimensions (place_at reading outer) c
  has_dimensions reading [] h inside spelled fine = on_a_page reading c
  has_dimensions reading (o ∷ outer) h inside spelled fine =
      let in_packet = fine.0 in
      let read = sound_on level.code (text_in (value_of_current o.current) level.code) level.pos end c h inside spelled in_packet.sound in
      let right = no_fault (list_all is_dimension (dimensions c)) _ _ read.right in
      subst (λ (x : Current). HasDimensions (place_in reading x) c) (sym in_packet.known) (in_a_packet in_packet.key in_packet.font c right)

  pub read_on_levels : (now : code.Current) (outer : List Level) → level.pos < end → end ≤ length (level_text bytes level outer) → Spells c (slice_range (level_text bytes level outer) level.pos end)
      → Reads (context_of outer) (drop end (level_text bytes level outer)) → HasKey (value_of_current now) → AreLevels bytes level outer
      → AreLevels bytes (record level { pos = end; current = now }) outer
  read_on_levels now [] h inside spelled reads key fine = record { inside = inside; readable = reads; keyed = key }
  read_on_levels now (o ∷ outer) h inside spelled reads key fine =
      let in_packet = fine.0 in
      let read = sound_on level.code (text_in (value_of_current o.current) level.code) level.pos end c h inside spelled in_packet.sound in
      (record { key = in_packet.key; font = in_packet.font; known = in_packet.known; inside = inside; sound = read.sound; keyed = key; advance = in_packet.advance }, fine.1)

-- the same, by what the code has of them
module _ (bytes : List ℕ) (level : Level) (outer : List Level) (end : ℕ) (c : DviCommand) (text : List ℕ) (same_text : text ≡ level_text bytes level outer)
    (h : level.pos < end) (inside : end ≤ length text) (spelled : Spells c (slice_range text level.pos end)) (fine : AreLevels bytes level outer) where
  room_in : end ≤ length (level_text bytes level outer)
  room_in = subst (λ (t : List ℕ). end ≤ length t) same_text inside

  spelled_in : Spells c (slice_range (level_text bytes level outer) level.pos end)
  spelled_in = subst (λ (t : List ℕ). Spells c (slice_range t level.pos end)) same_text spelled

  pub dimensions_at : (reading : Reading) (place : Place) → place ≡ place_at reading outer → HasDimensions place c
  dimensions_at reading place same_place =
      subst (λ (p : Place). HasDimensions p c) (sym same_place) (has_dimensions bytes level end c reading outer h room_in spelled_in fine)

  pub read_on_at : (now : code.Current) (place : Context) → place ≡ context_of outer → Reads place (drop end text) → HasKey (value_of_current now)
      → AreLevels bytes (record level { pos = end; current = now }) outer
  read_on_at now place same_place reads key =
      read_on_levels bytes level end c now outer h room_in spelled_in
      (subst (λ (p : Context). Reads p (drop end (level_text bytes level outer))) same_place (subst (λ (t : List ℕ). Reads place (drop end t)) same_text reads)) key fine

-- with another font in the level that is read
pub same_levels : (bytes : List ℕ) (level : Level) (now : code.Current) (outer : List Level) → HasKey (value_of_current now) → AreLevels bytes level outer
    → AreLevels bytes (record level { current = now }) outer
same_levels bytes level now [] key fine = record { inside = fine.inside; readable = fine.readable; keyed = key }
same_levels bytes level now (o ∷ outer) key fine =
    let it = fine.0 in
    (record { key = it.key; font = it.font; known = it.known; inside = it.inside; sound = it.sound; keyed = key; advance = it.advance }, fine.1)

-- a packet that is entered
pub entered_levels : (bytes : List ℕ) (level outside : Level) (outer : List Level) (n : ℕ) (part : Meaning) → IsEntry n part (value_of_current outside.current) level
    → HasKey (value_of_current level.current) → IfSome level.advance IsNumber → AreLevels bytes outside outer → AreLevels bytes level (outside ∷ outer)
entered_levels bytes level outside outer n part has_effect key advance fine =
    let text : text_in (value_of_current outside.current) level.code ≡ has_effect.text =
    ap (λ (x : Current). text_in x level.code) has_effect.known ∙ ap (λ (o : Option (List ℕ)). unwrap_or o []) has_effect.packet in
    let all : drop level.pos (text_in (value_of_current outside.current) level.code) ≡ has_effect.text = ap (λ (p : ℕ). drop p (text_in (value_of_current outside.current) level.code)) has_effect.prefix ∙ text in (
      record {
        key = has_effect.key;
        font = has_effect.font;
        known = has_effect.known;
        inside = omega (arith, has_effect.prefix);
        sound = subst (IsSoundRest level.code) (sym all) (0, has_effect.program.0, has_effect.program.1);
        keyed = key;
        advance = advance;
      },
      fine,
    )
