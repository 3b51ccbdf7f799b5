-- The commands of a DVI file and their spellings: Knuth, DVItype, "Device-independent file format".
-- A command is seen here without where its texts lie in memory. Most commands have several
-- spellings, since a field may be wider than it has to be: `spelling n` is the one whose number has
-- n bytes, or, at 0, the one without a number.
use Rattle.std.specs.Prelude.{◌≡◌, ℕ, zero, suc, ◌+◌, ◌-◌, ◌^◌, ◌<◌, ◌≤◌, ◌⊎◌, ℤ, pos, negsuc, List, [], ◌∷◌, ◌++◌, length}
use Rattle.std.specs.List.{flat_map, AllByRecursion}
use Rattle.big_endian.specs.Numbers.{IsUnsigned, IsSigned, number_bytes}
use Rattle.dvi_commands.specs.declared.command.Command.{Command}
use Rattle.dvi_commands.specs.declared.command.FontDef.{FontDef}
use Rattle.dvi_commands.specs.declared.command.Command.TheVariants as lent

-- the definition of a font; the name begins with the area
pub record Definition : Type 0 where
  pub number : ℤ
  pub check : ℕ
  pub size : ℤ
  pub design : ℤ
  pub area : ℕ
  pub name : List ℕ

pub record Preamble : Type 0 where
  pub id : ℕ
  pub num : ℤ
  pub den : ℤ
  pub mag : ℤ
  pub text : List ℕ

pub record Postamble : Type 0 where
  pub back : ℤ
  pub num : ℤ
  pub den : ℤ
  pub mag : ℤ
  pub tallest : ℤ
  pub widest : ℤ
  pub deepest : ℕ
  pub pages : ℕ

-- each field of a definition but the number holds what is put into it. A text is a part of the
-- bytes, and needs no bound.
pub record FieldsFit (d : Definition) : Type 0 where
  pub check : d.check < 2 ^ 32
  pub size : IsSigned 4 d.size
  pub design : IsSigned 4 d.design
  pub area : d.area ≤ length d.name
  pub area_fits : d.area < 256
  pub name_fits : length d.name - d.area < 256

pub data DviCommand : Type 0 where
  Set : ℤ → DviCommand
  Put : ℤ → DviCommand
  SetRule : ℤ → ℤ → DviCommand
  PutRule : ℤ → ℤ → DviCommand
  Nop : DviCommand
  Bop : List ℤ → ℤ → DviCommand
  Eop : DviCommand
  Push : DviCommand
  Pop : DviCommand
  Right : ℤ → DviCommand
  W0 : DviCommand
  W : ℤ → DviCommand
  X0 : DviCommand
  X : ℤ → DviCommand
  Down : ℤ → DviCommand
  Y0 : DviCommand
  Y : ℤ → DviCommand
  Z0 : DviCommand
  Z : ℤ → DviCommand
  Font : ℤ → DviCommand
  Special : List ℕ → DviCommand
  Define : Definition → DviCommand
  Pre : Preamble → DviCommand
  Post : Postamble → DviCommand
  PostPost : ℤ → ℕ → DviCommand

-- ---- spellings

-- an opcode that stands n above another, and the n bytes of a number
abbrev pub with_number : ℕ → ℕ → ℤ → List ℕ
with_number opcode n z = (opcode + n) ∷ number_bytes n z

-- an opcode that stands a small number above another
abbrev pub with_small : ℕ → ℤ → List ℕ
with_small opcode (pos m) = (opcode + m) ∷ []
with_small opcode (negsuc m) = []

-- four bytes, signed
abbrev pub quad : ℤ → List ℕ
quad z = number_bytes 4 z

-- one case for each row of the table of commands
abbrev pub spelling : DviCommand → ℕ → List ℕ
spelling (Set c) zero = with_small 0 c
spelling (Set c) (suc n) = with_number 127 (suc n) c
spelling (SetRule a b) n = 132 ∷ quad a ++ quad b
spelling (Put c) n = with_number 132 n c
spelling (PutRule a b) n = 137 ∷ quad a ++ quad b
spelling Nop n = 138 ∷ []
spelling (Bop counts back) n = 139 ∷ flat_map quad counts ++ quad back
spelling Eop n = 140 ∷ []
spelling Push n = 141 ∷ []
spelling Pop n = 142 ∷ []
spelling (Right b) n = with_number 142 n b
spelling W0 n = 147 ∷ []
spelling (W b) n = with_number 147 n b
spelling X0 n = 152 ∷ []
spelling (X b) n = with_number 152 n b
spelling (Down a) n = with_number 156 n a
spelling Y0 n = 161 ∷ []
spelling (Y a) n = with_number 161 n a
spelling Z0 n = 166 ∷ []
spelling (Z a) n = with_number 166 n a
spelling (Font k) zero = with_small 171 k
spelling (Font k) (suc n) = with_number 234 (suc n) k
spelling (Special text) n = with_number 238 n (pos (length text)) ++ text
spelling (Define d) n =
    with_number 242 n d.number ++ number_bytes 4 (pos d.check) ++ quad d.size ++ quad d.design
    ++ d.area ∷ (length d.name - d.area) ∷ d.name
spelling (Pre p) n = 247 ∷ p.id ∷ quad p.num ++ quad p.den ++ quad p.mag ++ length p.text ∷ p.text
spelling (Post p) n =
    248 ∷ quad p.back ++ quad p.num ++ quad p.den ++ quad p.mag ++ quad p.tallest ++ quad p.widest
    ++ number_bytes 2 (pos p.deepest) ++ number_bytes 2 (pos p.pages)
spelling (PostPost q id) n = 249 ∷ quad q ++ id ∷ []

-- a number from 0 up to top
abbrev pub IsSmall : ℕ → ℤ → Type 0
IsSmall top (pos m) = m ≤ top
IsSmall top (negsuc m) = ⊥

-- the number of a character, a font or a special: up to three bytes hold it unsigned, four bytes
-- signed
abbrev pub IsOperand : ℕ → ℤ → Type 0
IsOperand n z = ((1 ≤ n) × (n ≤ 3) × IsUnsigned n z) ⊎ ((n ≡ 4) × IsSigned 4 z)

-- the number of a motion: one to four bytes hold it signed
abbrev pub IsMotion : ℕ → ℤ → Type 0
IsMotion n z = (1 ≤ n) × (n ≤ 4) × IsSigned n z

-- the command can be spelled with a number of n bytes: n is one of its row, and each field holds
-- what is put into it
abbrev pub HasWidth : DviCommand → ℕ → Type 0
HasWidth (Set c) zero = IsSmall 127 c
HasWidth (Set c) (suc n) = IsOperand (suc n) c
HasWidth (SetRule a b) n = (n ≡ 0) × IsSigned 4 a × IsSigned 4 b
HasWidth (Put c) n = IsOperand n c
HasWidth (PutRule a b) n = (n ≡ 0) × IsSigned 4 a × IsSigned 4 b
HasWidth (Bop counts back) n =
    (n ≡ 0) × (length counts ≡ 10) × AllByRecursion (IsSigned 4) counts × IsSigned 4 back
HasWidth (Right b) n = IsMotion n b
HasWidth (W b) n = IsMotion n b
HasWidth (X b) n = IsMotion n b
HasWidth (Down a) n = IsMotion n a
HasWidth (Y a) n = IsMotion n a
HasWidth (Z a) n = IsMotion n a
HasWidth (Font k) zero = IsSmall 63 k
HasWidth (Font k) (suc n) = IsOperand (suc n) k
HasWidth (Special text) n = IsOperand n (pos (length text))
HasWidth (Define d) n = IsOperand n d.number × FieldsFit d
HasWidth (Pre p) n =
    (n ≡ 0) × (p.id < 256) × IsSigned 4 p.num × IsSigned 4 p.den × IsSigned 4 p.mag
    × (length p.text < 256)
HasWidth (Post p) n =
    (n ≡ 0) × AllByRecursion (IsSigned 4) (p.back ∷ p.num ∷ p.den ∷ p.mag ∷ p.tallest ∷ p.widest
    ∷ []) × (p.deepest < 2 ^ 16) × (p.pages < 2 ^ 16)
HasWidth (PostPost q id) n = (n ≡ 0) × IsSigned 4 q × (id < 256)
HasWidth Nop n = n ≡ 0
HasWidth Eop n = n ≡ 0
HasWidth Push n = n ≡ 0
HasWidth Pop n = n ≡ 0
HasWidth W0 n = n ≡ 0
HasWidth X0 n = n ≡ 0
HasWidth Y0 n = n ≡ 0
HasWidth Z0 n = n ≡ 0

-- the bytes are a spelling of the command
abbrev pub Spells : DviCommand → List ℕ → Type 0
Spells c bytes = (n : ℕ) × HasWidth c n × (bytes ≡ spelling c n)

-- ---- a command of the code

abbrev pub value_of_definition : FontDef → Definition
value_of_definition d =
    record {
      number = d.number;
      check = d.check;
      size = d.size;
      design = d.design;
      area = d.area;
      name = d.name.now;
    }

abbrev pub value_of_command : Command → DviCommand
value_of_command (lent.Set c) = Set c
value_of_command (lent.Put c) = Put c
value_of_command (lent.SetRule a b) = SetRule a b
value_of_command (lent.PutRule a b) = PutRule a b
value_of_command lent.Nop = Nop
value_of_command (lent.Bop counts back) = Bop counts back
value_of_command lent.Eop = Eop
value_of_command lent.Push = Push
value_of_command lent.Pop = Pop
value_of_command (lent.Right b) = Right b
value_of_command lent.W0 = W0
value_of_command (lent.W b) = W b
value_of_command lent.X0 = X0
value_of_command (lent.X b) = X b
value_of_command (lent.Down a) = Down a
value_of_command lent.Y0 = Y0
value_of_command (lent.Y a) = Y a
value_of_command lent.Z0 = Z0
value_of_command (lent.Z a) = Z a
value_of_command (lent.Font k) = Font k
value_of_command (lent.Special text) = Special text.now
value_of_command (lent.Define d) = Define (value_of_definition d)
value_of_command (lent.Pre id num den mag text) =
    Pre (record { id = id; num = num; den = den; mag = mag; text = text.now })
value_of_command (lent.Post back num den mag tallest widest deepest pages) =
    Post (record {
      back = back;
      num = num;
      den = den;
      mag = mag;
      tallest = tallest;
      widest = widest;
      deepest = deepest;
      pages = pages;
    })
value_of_command (lent.PostPost q id) = PostPost q id
