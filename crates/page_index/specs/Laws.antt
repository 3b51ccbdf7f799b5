-- Laws over documents and their faults.
use Rattle.std.specs.Prelude.{◌≡◌, ◌≢◌, ◌<◌, ◌≤◌, ◌+◌, ◌⊎◌, ◌++◌, ℕ, List, length, replicate, take, All, IsSome, Some}
use Rattle.big_endian.specs.Numbers.{AreBytes}
use Rattle.page_index.specs.Document.{Reading, IsDocument, pages_begun, text_of}
use Rattle.page_index.specs.Pages.{eop_at, page_commands}
use Rattle.page_index.specs.Faults.{IsFirstFault}
use Rattle.page_index.specs.declared.faults.DocFault.{DocFault}
use Rattle.page_index.specs.declared.faults.DocFault.TheVariants.{Truncated}

-- a document has no fault, and no two readings
abbrev pub DocumentsHaveNoFault : Type 0
DocumentsHaveNoFault =
    (res : ℕ) (bytes : List ℕ) (reading : Reading) (f : DocFault) → IsDocument res bytes reading
    → IsFirstFault res bytes f → ⊥

-- a file has at most one first fault
abbrev pub FirstFaultsAreOne : Type 0
FirstFaultsAreOne =
    (res : ℕ) (bytes : List ℕ) (f g : DocFault) → IsFirstFault res bytes f
    → IsFirstFault res bytes g → f ≡ g

-- all bytes are a document or have a first fault
abbrev pub BytesAreADocumentOrHaveAFault : Type 0
BytesAreADocumentOrHaveAFault =
    (res : ℕ) (bytes : List ℕ) → AreBytes bytes → ((reading : Reading)
    × IsDocument res bytes reading) ⊎ ((f : DocFault) × IsFirstFault res bytes f)

-- and a document has one reading
abbrev pub DocumentsHaveOneReading : Type 0
DocumentsHaveOneReading =
    (res : ℕ) (bytes : List ℕ) (r s : Reading) → IsDocument res bytes r → IsDocument res bytes s
    → r ≡ s

-- a document that ends with exactly four bytes 223 is truncated at each cut, where it is cut
abbrev pub CutDocumentsAreTruncated : Type 0
CutDocumentsAreTruncated =
    (res : ℕ) (bytes : List ℕ) (reading : Reading) (n : ℕ) → IsDocument res bytes reading
    → bytes ≡ text_of reading ++ replicate 4 223 → n < length bytes
    → IsFirstFault res (take n bytes) (Truncated n)

-- each page that a document begins has its end
abbrev pub EachPageEnds : Type 0
EachPageEnds =
    (res : ℕ) (bytes : List ℕ) (reading : Reading) (i : ℕ) → IsDocument res bytes reading
    → i < pages_begun reading → IsSome (eop_at i reading)

-- pages follow one another: the commands of a page end before its Eop, and those of a later page
-- stand after it
abbrev pub PagesFollowOneAnother : Type 0
PagesFollowOneAnother =
    (res : ℕ) (bytes : List ℕ) (reading : Reading) (i j end : ℕ) → IsDocument res bytes reading
    → i < j → eop_at i reading ≡ Some end
    → All (λ p. p.at + length p.bytes ≤ end) (page_commands i reading)
    × All (λ p. end < p.at) (page_commands j reading)

-- no command lies on two pages: the positions of the commands of two pages are disjoint
abbrev pub PagesAreApart : Type 0
PagesAreApart =
    (res : ℕ) (bytes : List ℕ) (reading : Reading) (i j : ℕ) → IsDocument res bytes reading → i ≢ j
    → All (λ p. All (λ q. p.at ≢ q.at) (page_commands j reading)) (page_commands i reading)
