-- The places of a TFM file, as its counts give them.
use Rattle.std.specs.Prelude.{◌≡◌, ℕ, ◌+◌, ◌*◌, ◌≤◌, ◌<◌, List, length}
use Rattle.tfm_reader.specs.Tfm.{bc, codes_of, ec, lf, lh, nw, others}
use Rattle.tfm_reader.specs.declared.layout.Counts.{Counts}
use Rattle.tfm_reader.specs.declared.layout.Layout.{Layout}

-- the counts are those of the file
pub record AreCountsOf (c : Counts) (bytes : List ℕ) : Type 0 where
  pub words : c.words ≡ lf bytes
  pub header : c.header ≡ lh bytes
  pub first : c.first ≡ bc bytes
  pub last : c.last ≡ ec bytes
  pub widths : c.widths ≡ nw bytes
  pub others : c.others ≡ others bytes

-- the places are those of the file, and lie in it
pub record IsLayoutOf (l : Layout) (bytes : List ℕ) : Type 0 where
  pub first : l.first ≡ bc bytes
  pub codes : l.codes ≡ codes_of bytes
  pub infos : l.infos ≡ 4 * (6 + lh bytes)
  pub widths : l.widths ≡ 4 * (6 + lh bytes + codes_of bytes)
  pub count : l.count ≡ nw bytes
  pub some : 1 ≤ l.count
  pub few : l.count < 65536
  pub last : l.first + l.codes ≤ 256
  pub inside : l.widths + 4 * l.count ≤ length bytes
