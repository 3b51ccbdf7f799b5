-- The first fault of a PK file, by items in the order of the file.
use Rattle.std.specs.Prelude.{◌≡◌, ℕ, ◌≤◌, ◌⊎◌, List, ◌++◌, drop, IsTrue}
use Rattle.std.specs.Option.{MatchOption}
use Rattle.pk_runs.specs.Raster.{IsRunFault}
use Rattle.pk_runs.specs.declared.faults.RunFault.{RunFault}
use Rattle.pk_packets.specs.Preamble.{preamble_fault, preamble_size}
use Rattle.pk_packets.specs.Items.{IsCut, IsItem, is_packet, opcode, text_of}
use Rattle.pk_packets.specs.Packets.{code_of, dyn_f_of, raster_height, packet_fault, raster_of, raster_width}
use Rattle.pk_packets.specs.Fonts.{AreSound}
use Rattle.pk_packets.specs.declared.faults.PkFault.{PkFault}
use Rattle.pk_packets.specs.declared.faults.PkFault.TheVariants.{Short, Undefined, Runs}

-- no whole item stands here, nor the closing command
abbrev pub IsItemFault : List ℕ → PkFault → Type 0
IsItemFault rest f =
    (IsCut rest × (f ≡ Short)) ⊎ ((247 ≤ opcode rest) × (f ≡ Undefined (opcode rest)))

-- what is wrong with the runs of a packet
abbrev pub HasRunFault : List ℕ → RunFault → Type 0
HasRunFault bytes r =
    IsRunFault (raster_of bytes) (dyn_f_of bytes) (raster_width bytes) (raster_height bytes) r

-- what is wrong with a whole packet after these items: a length, a side or the sum of rasters
-- before the runs
abbrev pub IsPacketFault : List (List ℕ) → List ℕ → PkFault → Type 0
IsPacketFault before bytes f = MatchOption (packet_fault before bytes)
    ((r : RunFault) × HasRunFault bytes r × (f ≡ Runs (code_of bytes) r))
    (λ found. f ≡ found)

-- a packet that stands first in these bytes, and what is wrong with it
pub record IsFaultOfPacket (before : List (List ℕ)) (rest : List ℕ) (f : PkFault) : Type 0 where
  pub packet : List ℕ
  pub more : List ℕ
  pub here : rest ≡ packet ++ more
  pub item : IsItem packet
  pub kind : IsTrue (is_packet packet)
  pub wrong : IsPacketFault before packet f

-- what is wrong after sound items, where these bytes stand
abbrev pub IsFaultAfter : List (List ℕ) → List ℕ → PkFault → Type 0
IsFaultAfter items rest f = IsItemFault rest f ⊎ IsFaultOfPacket items rest f

-- sound items after the preamble, and the fault after them
pub record IsFaultOfItems (bytes : List ℕ) (f : PkFault) : Type 0 where
  pub items : List (List ℕ)
  pub rest : List ℕ
  pub sound : AreSound items
  pub text : drop (preamble_size bytes) bytes ≡ text_of items ++ rest
  pub after : IsFaultAfter items rest f

-- the first fault of the bytes
abbrev pub IsFirstFault : List ℕ → PkFault → Type 0
IsFirstFault bytes f =
    MatchOption (preamble_fault bytes) (IsFaultOfItems bytes f) (λ found. f ≡ found)
