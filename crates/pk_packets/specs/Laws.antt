-- What is true of PK files.
use Rattle.std.specs.Prelude.{◌≡◌, ℕ, ◌+◌, ◌≤◌, ◌⊎◌, List, [], ◌++◌, length, take, Option}
use Rattle.big_endian.specs.Numbers.{AreBytes}
use Rattle.pk_runs.specs.declared.glyph.Glyph.{Glyph}
use Rattle.pk_packets.specs.Preamble.{preamble_size}
use Rattle.pk_packets.specs.Items.{IsItem, text_of}
use Rattle.pk_packets.specs.Fonts.{AreSound, Glyphs, HasGlyphsOf, IsAnswer, IsPkFile}
use Rattle.pk_packets.specs.Faults.{IsFirstFault}
use Rattle.pk_packets.specs.declared.faults.PkFault.{PkFault}
use Rattle.pk_packets.specs.declared.faults.PkFault.TheVariants.{Short}

-- no item begins another
abbrev pub NoItemBeginsAnother : Type 0
NoItemBeginsAnother = (a b x y : List ℕ) → IsItem a → IsItem b → a ++ x ≡ b ++ y → (a ≡ b) × (x ≡ y)

-- a PK file has one list of items
abbrev pub FilesAreReadOneWay : Type 0
FilesAreReadOneWay =
    (bytes : List ℕ) (items others : List (List ℕ)) → IsPkFile bytes items → IsPkFile bytes others
    → items ≡ others

-- and one answer for each code
abbrev pub AnswersAreOne : Type 0
AnswersAreOne =
    (bytes : List ℕ) (items others : List (List ℕ)) (c : ℕ) (answer other : Option Glyph)
    → IsPkFile bytes items → IsPkFile bytes others
    → IsAnswer items c answer → IsAnswer others c other → answer ≡ other

-- a PK file has no fault
abbrev pub FilesHaveNoFault : Type 0
FilesHaveNoFault =
    (bytes : List ℕ) (items : List (List ℕ)) (f : PkFault) → IsPkFile bytes items
    → IsFirstFault bytes f → ⊥

-- bytes have one first fault at most
abbrev pub FirstFaultsAreOne : Type 0
FirstFaultsAreOne =
    (bytes : List ℕ) (f g : PkFault) → IsFirstFault bytes f → IsFirstFault bytes g → f ≡ g

-- bytes are a PK file or have a first fault
abbrev pub FilesAreReadOrHaveAFault : Type 0
FilesAreReadOrHaveAFault =
    (bytes : List ℕ) → AreBytes bytes → ((items : List (List ℕ)) × IsPkFile bytes items) ⊎
    ((f : PkFault) × IsFirstFault bytes f)

-- sound items have their glyphs
abbrev pub SoundItemsHaveGlyphs : Type 0
SoundItemsHaveGlyphs =
    (items : List (List ℕ)) → AreSound items → (font : Glyphs) × HasGlyphsOf items font

-- the place of the closing command
abbrev pub closing_at : List ℕ → List (List ℕ) → ℕ
closing_at bytes items = preamble_size bytes + length (text_of items)

-- a PK file is too short at each cut before its closing command
abbrev pub CutFilesAreShort : Type 0
CutFilesAreShort =
    (bytes : List ℕ) (items : List (List ℕ)) (n : ℕ) → IsPkFile bytes items
    → n ≤ closing_at bytes items → IsFirstFault (take n bytes) Short

-- no byte at all is too short
abbrev pub EmptyFileIsShort : Type 0
EmptyFileIsShort = IsFirstFault [] Short
