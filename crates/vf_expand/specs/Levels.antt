-- The levels of an expansion: the page, and the packets inside one another. The levels outside the
-- one that is read are a list, the innermost first; the page is the last of all.
use Rattle.std.specs.Prelude.{◌≡◌, ℕ, ◌+◌, ◌≤◌, List, [], ◌∷◌, length, drop, unwrap_or, IfSome}
use Rattle.outside.specs.declared.keys.FontKey.{FontKey}
use Rattle.dvi_commands.specs.Spelling.{DviCommand}
use Rattle.dvi_commands.specs.Reading.{Placed, commands_of, placed_from, Reads}
use Rattle.dvi_commands.specs.declared.command.Context.{Context}
use Rattle.dvi_commands.specs.declared.command.Context.TheVariants as context
use Rattle.drift_rules.specs.Bounds.{IsNumber}
use Rattle.page_index.specs.Document.{Reading}
use Rattle.vf_reader.specs.Programs.{AreSoundFrom}
use Rattle.font_decode.specs.Fonts.{FontValue, packet_of}
use Rattle.font_decode.specs.declared.font_or_fault.Decoded.TheVariants as decoded
use Rattle.vf_expand.specs.Course.{Current, Known, Place, OnPage}
use Rattle.vf_expand.specs.Expansion.{OpenPacket, Stack, place_in}
use Rattle.vf_expand.specs.Effects.{HasKey, value_of_current}
use Rattle.vf_expand.specs.declared.outer_levels.Level.{Level}

-- the bytes of a packet of the font that was found
abbrev pub text_in : Current → ℕ → List ℕ
text_in (Known k (decoded.Font f)) code = unwrap_or (packet_of f code) []
text_in _ code = []

-- a packet, by the current font outside it
abbrev pub value_of_packet : Current → Level → OpenPacket
value_of_packet outside f =
    record {
      outside = outside;
      advance = f.advance;
      commands = commands_of (drop f.pos
          (text_in outside f.code));
    }

-- the page's commands that are left, by its bytes, the position of the first, the level that is
-- read, and those outside it
abbrev pub page_rest : List ℕ → ℕ → Level → List Level → List Placed
page_rest bytes start level [] = placed_from (start + level.pos) (drop level.pos bytes)
page_rest bytes start level (o ∷ outer) = page_rest bytes start o outer

-- the packets
abbrev pub values_of_packets : Level → List Level → List OpenPacket
values_of_packets level [] = []
values_of_packets level (o ∷ outer) =
    value_of_packet (value_of_current o.current) level ∷ values_of_packets o outer

abbrev pub stack_of : List ℕ → ℕ → Level → List Level → Stack
stack_of bytes start level outer =
    record { page = page_rest bytes start level outer; packets = values_of_packets level outer }

-- a virtual font was found
abbrev pub IsVirtual : Current → Type 0
IsVirtual current = (k : FontKey) × (f : FontValue) × (current ≡ Known k (decoded.Font f))

-- ---- what is read of the level

abbrev pub level_text : List ℕ → Level → List Level → List ℕ
level_text bytes level [] = bytes
level_text bytes level (o ∷ outer) = text_in (value_of_current o.current) level.code

abbrev pub context_of : List Level → Context
context_of [] = context.Page
context_of (o ∷ outer) = context.Packet

abbrev pub place_at : Reading → List Level → Place
place_at reading [] = OnPage reading
place_at reading (o ∷ outer) = place_in reading (value_of_current o.current)

-- the position of the page's own command; in a packet it stays
abbrev pub position : ℕ → ℕ → Level → List Level → ℕ
position start at level [] = start + level.pos
position start at level (o ∷ outer) = at

-- ---- what holds of the levels

-- the page can be read to its end
pub record IsOnPage (bytes : List ℕ) (f : Level) : Type 0 where
  pub inside : f.pos ≤ length bytes
  pub readable : Reads context.Page (drop f.pos bytes)
  pub keyed : HasKey (value_of_current f.current)

-- the rest of a packet's commands
abbrev pub IsSoundRest : ℕ → List ℕ → Type 0
IsSoundRest code bytes =
    (depth : ℕ) × (commands : List DviCommand) × AreSoundFrom code depth commands bytes

-- the level stands in a packet of the font outside it
pub record IsEntered (outside : Current) (f : Level) : Type 0 where
  pub key : FontKey
  pub font : FontValue
  pub known : outside ≡ Known key (decoded.Font font)
  pub inside : f.pos ≤ length (text_in outside f.code)
  pub sound : IsSoundRest f.code (drop f.pos (text_in outside f.code))
  pub keyed : HasKey (value_of_current f.current)
  pub advance : IfSome f.advance IsNumber

abbrev pub AreLevels : List ℕ → Level → List Level → Type 0
AreLevels bytes level [] = IsOnPage bytes level
AreLevels bytes level (o ∷ outer) =
    IsEntered (value_of_current o.current) level × AreLevels bytes o outer
