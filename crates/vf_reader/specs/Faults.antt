-- The first fault of a VF file, by items in the order of the file.
use Rattle.std.specs.Prelude.{◌≡◌, ℕ, ◌≤◌, ◌⊎◌, List, ◌++◌, drop, Some, IsTrue, IsFalse}
use Rattle.std.specs.Option.{MatchOption}
use Rattle.vf_reader.specs.Preamble.{preamble_fault, preamble_size}
use Rattle.vf_reader.specs.Items.{IsCut, IsItem, code_of, is_packet, opcode, program_of, text_of}
use Rattle.vf_reader.specs.Programs.{IsProgramFault}
use Rattle.vf_reader.specs.Locals.{local_fault}
use Rattle.vf_reader.specs.Fonts.{AreSound}
use Rattle.vf_reader.specs.declared.faults.VfFault.{VfFault}
use Rattle.vf_reader.specs.declared.faults.VfFault.TheVariants.{Short, Misplaced}

-- the opcodes that may not stand after the preamble
abbrev pub IsMisplaced : ℕ → Type 0
IsMisplaced op = (op ≡ 247) ⊎ (249 ≤ op)

-- no whole item stands here, nor the closing command
abbrev pub IsItemFault : List ℕ → VfFault → Type 0
IsItemFault rest f =
    (IsCut rest × (f ≡ Short)) ⊎ (IsMisplaced (opcode rest) × (f ≡ Misplaced (opcode rest)))

-- what is wrong with a whole item after these items: with the commands of a packet, or with the
-- definition of a local font
abbrev pub IsWholeFault : List (List ℕ) → List ℕ → VfFault → Type 0
IsWholeFault before item f =
    (IsTrue (is_packet item) × IsProgramFault (code_of item) (program_of item) f)
    ⊎ (IsFalse (is_packet item) × (local_fault before item ≡ Some f))

-- an item that stands first in these bytes, and what is wrong with it
pub record IsFaultOfItem (before : List (List ℕ)) (rest : List ℕ) (f : VfFault) : Type 0 where
  pub item : List ℕ
  pub more : List ℕ
  pub here : rest ≡ item ++ more
  pub is : IsItem item
  pub wrong : IsWholeFault before item f

-- what is wrong after sound items, where these bytes stand
abbrev pub IsFaultAfter : List (List ℕ) → List ℕ → VfFault → Type 0
IsFaultAfter items rest f = IsItemFault rest f ⊎ IsFaultOfItem items rest f

-- sound items after the preamble, and the fault after them
pub record IsFaultOfItems (bytes : List ℕ) (f : VfFault) : Type 0 where
  pub items : List (List ℕ)
  pub rest : List ℕ
  pub sound : AreSound items
  pub text : drop (preamble_size bytes) bytes ≡ text_of items ++ rest
  pub after : IsFaultAfter items rest f

-- the first fault of the bytes
abbrev pub IsFirstFault : List ℕ → VfFault → Type 0
IsFirstFault bytes f =
    MatchOption (preamble_fault bytes) (IsFaultOfItems bytes f) (λ found. f ≡ found)
