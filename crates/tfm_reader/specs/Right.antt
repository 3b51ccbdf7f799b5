-- What is right in a TFM file, fact by fact: Knuth, TFtoPL, "Font metric data".
use Rattle.std.specs.Prelude.{◌≡◌, ◌⊎◌, ◌↔◌, ◌<◌, ◌≤◌, ℕ, ◌+◌, ◌*◌, pos, List, length, slice_index, Some, None}
use Rattle.tfm_reader.specs.Tfm.{bc, codes_of, ec, lf, lh, nw, others, tfm_fault, width_at, width_index, width_word}
use Rattle.tfm_reader.specs.declared.faults.TfmFault.{TfmFault}

-- the counts go together and their words are there, each width index has a width, and each width
-- lies between -16 and 16, the first at 0
pub record IsTfm (bytes : List ℕ) : Type 0 where
  pub counted : 24 ≤ length bytes
  pub rise : bc bytes ≤ ec bytes + 1
  pub last : ec bytes ≤ 255
  pub some : 0 < nw bytes
  pub words : lf bytes ≡ 6 + lh bytes + codes_of bytes + nw bytes + others bytes
  pub whole : 4 * lf bytes ≤ length bytes
  pub indices : (i : ℕ) → i < codes_of bytes → width_index bytes i < nw bytes
  pub narrow : (i : ℕ) → i < nw bytes
      → (slice_index bytes (width_at bytes i) ≡ 0) ⊎ (slice_index bytes (width_at bytes i) ≡ 255)
  pub nothing : width_word bytes 0 ≡ pos 0

-- ---- laws: bytes without a fault are a TFM file, and so all bytes are a TFM file or have a first
-- fault, and never both

abbrev pub FilesHaveNoFault : Type 0
FilesHaveNoFault = (bytes : List ℕ) → (tfm_fault bytes ≡ None) ↔ IsTfm bytes

abbrev pub FilesAreRightOrHaveAFault : Type 0
FilesAreRightOrHaveAFault =
    (bytes : List ℕ) → IsTfm bytes ⊎ ((f : TfmFault) × (tfm_fault bytes ≡ Some f))
