-- Which names a fetch asks for, whatever is known of its source's files.
use Rattle.std.specs.Prelude.{◌≡◌, ◌⊎◌, ◌≤◌, ℕ, List, [], ◌∷◌, take, None, if◌then◌else◌}
use Rattle.outside.specs.Library.{Asks, Names}
use Rattle.outside.specs.declared.keys.FontKey.{FontKey}
use Rattle.pixel_round.specs.declared.units.Units.{Units}
use Rattle.font_decode.specs.Names.{is_valid_name, tfm_name, vf_name}
use Rattle.font_decode.specs.Files.{glyph_choices}

-- all the names that may be asked for, in their order
abbrev pub choices : Units → FontKey → List (List ℕ)
choices u k = if is_valid_name k then tfm_name k ∷ vf_name k ∷ glyph_choices u k else []

-- the first of these names were asked for, one after another: n from `low` to `high`
pub record AskedFirst (low high : ℕ) (old new : Names) (names : List (List ℕ)) : Type 0 where
  pub count : ℕ
  pub least : low ≤ count
  pub most : count ≤ high
  pub asked : Asks old new (take count names)

-- up to a stop: the first of these names were asked for, or the names are no longer known
pub record AskedUntil (old new : Names) (names : List (List ℕ)) : Type 0 where
  pub count : ℕ
  pub asked : Asks old new (take count names) ⊎ (new ≡ None)
