-- What is read of a packet.
use Rattle.std.specs.Prelude.{◌≡◌, ℕ, List}
use Rattle.pk_packets.specs.Packets.{code_of, dyn_f_of, raster_height, hoff_of, is_first_black, raster_of, voff_of, raster_width}
use Rattle.pk_packets.specs.declared.packet.Packet.{Packet}

-- the fields are those of the packet's bytes
pub record IsPacketOf (p : Packet) (bytes : List ℕ) : Type 0 where
  pub code : p.code ≡ code_of bytes
  pub dyn_f : p.dyn_f ≡ dyn_f_of bytes
  pub black : p.black ≡ is_first_black bytes
  pub width : p.width ≡ raster_width bytes
  pub height : p.height ≡ raster_height bytes
  pub hoff : p.hoff ≡ hoff_of bytes
  pub voff : p.voff ≡ voff_of bytes
  pub raster : p.raster.now ≡ raster_of bytes
