-- Where a command may stand, and what is no command: Knuth, DVItype, "Device-independent file
-- format".
use Rattle.std.specs.Prelude.{ℕ, ◌+◌, ◌-◌, ℤ, pos, Bool, not, ◌&&◌, ◌||◌, List, [], ◌∷◌, length, take, nat_lt, nat_le, ◌==◌, if◌then◌else◌, slice_index, int_lt, unsigned_abs, Option, Some, None}
use Rattle.std.specs.Int.{is_in_range}
use Rattle.big_endian.specs.Numbers.{unsigned_of, signed_of}
use Rattle.dvi_commands.specs.declared.command.Context.{Context}
use Rattle.dvi_commands.specs.declared.command.Context.TheVariants as context
use Rattle.dvi_commands.specs.declared.command.CommandFault.{CommandFault}
use Rattle.dvi_commands.specs.declared.command.CommandFault.TheVariants.{Short, Undefined, Misplaced, NegativeLength}

-- the last opcode of a command, that of PostPost
abbrev pub LAST_OPCODE : ℕ
LAST_OPCODE = 249

-- by the opcode, in the order of the table's last column
abbrev pub may_stand : Context → ℕ → Bool
may_stand context.Start op = op == 247
may_stand context.Between op = op == 138 || op == 139 || is_in_range 243 246 op || op == 248
may_stand context.Page op = nat_le op 138 || is_in_range 140 246 op
may_stand context.Packet op = nat_le op 138 || is_in_range 141 242 op
may_stand context.Post op = op == 138 || is_in_range 243 246 op || op == 249

-- where the opcode is at most the first number, its fields but for texts have the second number of
-- bytes. A row of opcodes that differ in the width of a number is written by the opcode less the
-- one before the row.
abbrev pub fixed_size : ℕ → ℕ
fixed_size op =
    if nat_le op 127 then 0
    else if nat_le op 131 then op - 127
    else if nat_le op 132 then 8
    else if nat_le op 136 then op - 132
    else if nat_le op 137 then 8
    else if nat_le op 138 then 0
    else if nat_le op 139 then 44
    else if nat_le op 142 then 0
    else if nat_le op 146 then op - 142
    else if nat_le op 151 then op - 147
    else if nat_le op 156 then op - 152
    else if nat_le op 160 then op - 156
    else if nat_le op 165 then op - 161
    else if nat_le op 170 then op - 166
    else if nat_le op 234 then 0
    else if nat_le op 238 then op - 234
    else if nat_le op 242 then op - 238
    else if nat_le op 246 then op - 242 + 14
    else if nat_le op 247 then 14
    else if nat_le op 248 then 28
    else if nat_le op 249 then 5
    else 0

-- the length that a special's field gives: up to three bytes unsigned, four signed
abbrev pub given_length : ℕ → List ℕ → ℤ
given_length op fields =
    if op == 242 then signed_of (take 4 fields) else pos (unsigned_of (take (op - 238) fields))

-- only a length of four bytes can be negative
abbrev pub gives_negative_length : ℕ → List ℕ → Bool
gives_negative_length op fields = op == 242 && int_lt (given_length op fields) (pos 0)

-- how many bytes of text the fixed fields give, none where the length is negative
abbrev pub text_size : ℕ → List ℕ → ℕ
text_size op fields =
    if is_in_range 239 242 op then (if int_lt (given_length op fields) (pos 0) then 0
    else unsigned_abs (given_length op fields))
    else if is_in_range 243 246 op then slice_index fields (op - 242 + 12) + slice_index fields
    (op - 242 + 13)
    else if op == 247 then slice_index fields 13
    else 0

-- why the bytes do not begin with a command that may stand there, in the order in which the causes
-- come
abbrev pub refusal : Context → List ℕ → Option CommandFault
refusal place [] = Some Short
refusal place (op ∷ fields) =
    if nat_lt LAST_OPCODE op then Some (Undefined op)
    else if not (may_stand place op) then Some (Misplaced op)
    else if nat_lt (length fields) (fixed_size op) then Some Short
    else if gives_negative_length op fields then Some NegativeLength
    else if nat_lt (length fields) (fixed_size op + text_size op fields) then Some Short
    else None

-- how many bytes the command has with which these bytes begin
abbrev pub size_of : List ℕ → ℕ
size_of [] = 0
size_of (op ∷ fields) = 1 + fixed_size op + text_size op fields
