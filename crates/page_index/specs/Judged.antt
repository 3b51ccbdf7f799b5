-- What is wrong with a command or a field, by what stands before it: Knuth, DVItype,
-- "Device-independent file format" (preamble, postamble, postpostamble), "Defining fonts" and
-- "Reading the postamble". Which of two faults comes first, and at which byte, is this project's
-- own choice: a field is judged as soon as it is whole.
use Rattle.std.specs.Prelude.{ℕ, ◌+◌, ◌*◌, ◌%◌, ℤ, pos, Bool, true, false, not, ◌&&◌, List, [], ◌∷◌, length, nat_eq, nat_lt, nat_le, ◌==◌, if◌then◌else◌, slice_index, int_lt, Option, Some, None}
use Rattle.std.specs.List.{list_all, take_while}
use Rattle.std.specs.Cmp.Lexicographic.{pointwise}
use Rattle.big_endian.specs.Numbers.{int_eq}
use Rattle.big_endian.specs.Fields.{judge, whole_until, signed_at, Field}
use Rattle.outside.specs.declared.keys.FontKey.{FontKey}
use Rattle.dvi_commands.specs.Spelling.{Definition, Preamble, Postamble}
use Rattle.outside.specs.Limits.{SIZES}
use Rattle.page_index.specs.Limits.{MAX_PAGES}
use Rattle.page_index.specs.declared.faults.DocFault.{DocFault}
use Rattle.page_index.specs.declared.faults.DocFault.TheVariants as fault
use Rattle.page_index.specs.declared.faults.PostField.TheVariants as field

-- ---- the preamble

-- num*res*mag / (254000000*den), the conversion to pixels, is at most 512
abbrev pub is_scale_right : ℕ → ℤ → ℤ → ℤ → Bool
is_scale_right res (pos num) (pos den) (pos mag) =
    nat_le (num * res * mag) (512 * (254000000 * den))
is_scale_right res _ _ _ = false

-- what is wrong with a preamble at the beginning of the file: the fields in their order, each with
-- the byte after it
abbrev pub preamble_fields : ℕ → List ℕ → List (Field DocFault)
preamble_fields res bytes =
    record { until = 1; right = slice_index bytes 0 == 247; fault = Some (fault.Preamble 0) }
    ∷ record { until = 2; right = slice_index bytes 1 == 2; fault = Some (fault.Preamble 1) }
    ∷ record {
      until = 6;
      right = int_lt (pos 0) (signed_at bytes 2 4);
      fault = Some (fault.Preamble 2);
    }
    ∷ record {
      until = 10;
      right = int_lt (pos 0) (signed_at bytes 6 4);
      fault = Some (fault.Preamble 6);
    }
    ∷ record {
      until = 14;
      right = int_lt (pos 0) (signed_at bytes 10 4);
      fault = Some (fault.Preamble 10);
    }
    ∷ record {
      until = 14;
      right = is_scale_right res (signed_at bytes 2 4) (signed_at bytes 6 4)
          (signed_at bytes 10 4);
      fault = Some (fault.Scale 2);
    }
    ∷ whole_until 15
    ∷ whole_until (15 + slice_index bytes 14)
    ∷ []

abbrev pub preamble_fault : ℕ → List ℕ → Option DocFault
preamble_fault res bytes =
    judge (length bytes) (fault.Truncated (length bytes)) (preamble_fields res bytes)

-- ---- pages

-- the pages begun before, the position of the last Bop or -1, and where this Bop stands with its
-- pointer
abbrev pub bop_fault : ℕ → ℤ → ℕ → ℤ → Option DocFault
bop_fault pages last at back =
    if nat_le MAX_PAGES pages then Some (fault.TooManyPages at)
    else if not (int_eq back last) then Some (fault.BackPointer at)
    else None

-- ---- fonts

-- a size or a design size, in DVI units
abbrev pub is_size : ℤ → Bool
is_size z = int_lt (pos 0) z && int_lt z (pos SIZES)

-- a definition says what the font number was defined to be before, if it was; the checksum is not
-- compared
abbrev pub is_same_font : FontKey → Definition → Bool
is_same_font k d =
    int_eq (pos k.size) d.size && int_eq (pos k.design)
    d.design && k.area == d.area && pointwise nat_eq k.name d.name

abbrev pub agrees_with : Option FontKey → Definition → Bool
agrees_with None d = true
agrees_with (Some k) d = is_same_font k d

abbrev pub define_fault : Option FontKey → ℕ → Definition → Option DocFault
define_fault known at d =
    if not (is_size d.size && is_size d.design) then Some (fault.FontDef d.number at)
    else if not (agrees_with known d) then Some (fault.FontClash d.number at)
    else None

-- ---- the postamble

-- against the pages begun, the position of the last Bop or -1, and the preamble's num, den and mag
abbrev pub post_fault_against : ℕ → ℤ → ℤ → ℤ → ℤ → ℕ → Postamble → Option DocFault
post_fault_against pages last num den mag at q =
    if not (int_eq q.back last) then Some (fault.Postamble field.Pointer at)
    else if not (int_eq q.num num) then Some (fault.Postamble field.Num at)
    else if not (int_eq q.den den) then Some (fault.Postamble field.Den at)
    else if not (int_eq q.mag mag) then Some (fault.Postamble field.Mag at)
    else if not (q.pages == pages % 65536) then Some (fault.Postamble field.Pages at)
    else None

-- no Post stands before a preamble
abbrev pub post_fault : ℕ → ℤ → Option Preamble → ℕ → Postamble → Option DocFault
post_fault pages last None at q = None
post_fault pages last (Some p) at q = post_fault_against pages last p.num p.den p.mag at q

-- the pointer of a PostPost is the position of Post
abbrev pub leads_to : Option ℕ → ℤ → Bool
leads_to None q = false
leads_to (Some p) q = int_eq q (pos p)

abbrev pub postpost_fields : Option ℕ → ℕ → List ℕ → List (Field DocFault)
postpost_fields post at bytes =
    whole_until 1
    ∷ record {
      until = 5;
      right = leads_to post (signed_at bytes 1 4);
      fault = Some (fault.Trailer (at + 1));
    }
    ∷ record { until = 6; right = slice_index bytes 5 == 2; fault = Some (fault.Trailer (at + 5)) }
    ∷ []

-- where Post stands, and what is wrong with a PostPost at a position, at the beginning of the bytes
-- that stand there
abbrev pub postpost_fault : Option ℕ → ℕ → List ℕ → Option DocFault
postpost_fault post at bytes =
    judge (length bytes) (fault.Truncated (at + length bytes)) (postpost_fields post at bytes)

-- what is wrong after PostPost, where there are at least four bytes 223 to the end: the first other
-- byte, or else the end
abbrev pub is_filler : ℕ → Bool
is_filler b = b == 223

abbrev pub tail_fault : ℕ → List ℕ → Option DocFault
tail_fault at bytes =
    if not (list_all is_filler bytes) then Some (fault.Trailer
    (at + length (take_while is_filler bytes)))
    else if nat_lt (length bytes) 4 then Some (fault.Truncated (at + length bytes))
    else None
