-- Character packets: Rokicki, PKtype, "Packed file format". Each function takes the bytes of a
-- whole packet.
use Rattle.std.specs.Prelude.{ℕ, ◌+◌, ◌*◌, ◌/◌, ◌%◌, ℤ, Bool, ◌||◌, List, [], ◌∷◌, drop, nat_lt, ◌==◌, if◌then◌else◌, Option, Some, None}
use Rattle.std.specs.Int.{div_ceil}
use Rattle.big_endian.specs.Fields.{unsigned_at, signed_at}
use Rattle.pk_packets.specs.Items.{by_form, code_size, count_size, head_size, is_packet, opcode, given_size}
use Rattle.pk_packets.specs.declared.faults.PkFault.{PkFault}
use Rattle.pk_packets.specs.declared.faults.PkFault.TheVariants.{TooBig, FontTooBig, Length}
use Rattle.pk_runs.specs.Limits.{MAX_GLYPH_SIDE, MAX_RASTER_BYTES}

-- ---- the fields

-- how many bytes have the width and the escapements, which are passed over
abbrev pub escapement_size : ℕ → ℕ
escapement_size flag = by_form flag 4 5 12

-- and each of the sides and the offsets
abbrev pub side_size : ℕ → ℕ
side_size flag = by_form flag 1 2 4

-- those of the bytes given by the length that each packet of the form has
abbrev pub fixed_size : ℕ → ℕ
fixed_size flag = escapement_size flag + 4 * side_size flag

-- where the sides begin
abbrev pub sides_at : ℕ → ℕ
sides_at flag = head_size flag + escapement_size flag

abbrev pub dyn_f_of : List ℕ → ℕ
dyn_f_of bytes = opcode bytes / 16

abbrev pub is_first_black : List ℕ → Bool
is_first_black bytes = opcode bytes / 8 % 2 == 1

abbrev pub code_of : List ℕ → ℕ
code_of bytes = unsigned_at bytes (1 + count_size (opcode bytes)) (code_size (opcode bytes))

abbrev pub raster_width : List ℕ → ℕ
raster_width bytes = unsigned_at bytes (sides_at (opcode bytes)) (side_size (opcode bytes))

abbrev pub raster_height : List ℕ → ℕ
raster_height bytes =
    unsigned_at bytes (sides_at (opcode bytes) + side_size (opcode bytes))
    (side_size (opcode bytes))

abbrev pub hoff_of : List ℕ → ℤ
hoff_of bytes =
    signed_at bytes (sides_at (opcode bytes) + 2 * side_size (opcode bytes))
    (side_size (opcode bytes))

abbrev pub voff_of : List ℕ → ℤ
voff_of bytes =
    signed_at bytes (sides_at (opcode bytes) + 3 * side_size (opcode bytes))
    (side_size (opcode bytes))

abbrev pub raster_of : List ℕ → List ℕ
raster_of bytes = drop (head_size (opcode bytes) + fixed_size (opcode bytes)) bytes

-- ---- limits

-- the bytes that a raster takes, each row in whole bytes
abbrev pub raster_size : List ℕ → ℕ
raster_size bytes = raster_height bytes * div_ceil (raster_width bytes) 8

-- those of all packets among the items, also of packets that a later one replaces
abbrev pub raster_sum : List (List ℕ) → ℕ
raster_sum [] = 0
raster_sum (item ∷ before) = raster_sum before + (if is_packet item then raster_size item else 0)

-- what is wrong with a whole packet after these items, its runs apart
abbrev pub packet_fault : List (List ℕ) → List ℕ → Option PkFault
packet_fault before bytes =
    if nat_lt (given_size bytes) (fixed_size (opcode bytes)) then Some (Length (code_of bytes))
    else if nat_lt MAX_GLYPH_SIDE (raster_width bytes) || nat_lt MAX_GLYPH_SIDE
    (raster_height bytes) then Some (TooBig (code_of bytes))
    else if nat_lt MAX_RASTER_BYTES (raster_sum before + raster_size bytes) then Some FontTooBig
    else None
