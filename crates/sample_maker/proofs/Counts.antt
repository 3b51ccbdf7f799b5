-- The twelve counts, read again.
use Rattle.std.proofs.Common.{◌≡◌, ℕ, ◌<◌, List, [], ◌∷◌, ◌++◌, refl, arith}
use Rattle.std.specs.List.{flat_map}
use Rattle.big_endian.proofs.Bytes.{unsigned-number_bytes}
use Rattle.tfm_reader.specs.Tfm.{bc, ec, lf, lh, nw, others}
use Rattle.sample_maker.specs.TfmFile.{header, two}

-- the counts and the header, which stand before char_info
abbrev pub head : ℕ → ℕ → ℕ → ℕ → List ℕ
head words first last widths = flat_map two (words ∷ 2 ∷ first ∷ last ∷ widths ∷ 1 ∷ 1 ∷ 1 ∷ 0 ∷ 0 ∷ 0 ∷ 0 ∷ []) ++ header

pub record AreRead (w f l n : ℕ) (bytes : List ℕ) : Type 0 where
  pub words : lf bytes ≡ w
  pub header : lh bytes ≡ 2
  pub first : bc bytes ≡ f
  pub last : ec bytes ≡ l
  pub widths : nw bytes ≡ n
  pub others : others bytes ≡ 3

pub counts_read : (words first last widths : ℕ) (rest : List ℕ) → words < 65536 → first < 65536 → last < 65536 → widths < 65536
    → AreRead words first last widths (head words first last widths ++ rest)
counts_read words first last widths rest w f l n = record {
  words = unsigned-number_bytes 2 words (omega arith) (omega arith) w;
  header = refl;
  first = unsigned-number_bytes 2 first (omega arith) (omega arith) f;
  last = unsigned-number_bytes 2 last (omega arith) (omega arith) l;
  widths = unsigned-number_bytes 2 widths (omega arith) (omega arith) n;
  others = refl;
}
