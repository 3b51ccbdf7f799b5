-- The characters of a GF file have glyphs by their codes.
use Rattle.std.proofs.Common.{◌≡◌, ◌∙◌, ◌<◌, inl, inr, ℕ, ℤ, pos, negsuc, List, [], ◌∷◌, length, Option, Some, None, get_or, ap, refl}
use Rattle.std.specs.Prelude.{◌==◌, if◌then◌else◌}
use Rattle.std.specs.Map.{lookup}
use Rattle.std.proofs.lemmas.Bool.{cases_lt, lt-ltb, le-ltb}
use Rattle.big_endian.specs.Numbers.{int_eq}
use Rattle.pk_runs.specs.Glyphs.{Glyphs, glyph_of}
use Rattle.pk_runs.specs.declared.glyph.Glyph.{Glyph}
use Rattle.gf_reader.specs.Characters.{Character, code_of, glyph_of_character, glyph_for}
use Rattle.font_decode.proofs.VfTotal.{build, same_way}

-- glyphs by their codes
abbrev Listed : Type 0
Listed = List (ℕ × Glyph)

abbrev in_list : Listed → ℕ → Option Glyph
in_list all c = lookup (λ k. c == k) all

-- one more glyph; a negative code is never asked for
one_more : (code : ℤ) (g : Glyph) (rest : Listed) (of : ℕ → Option Glyph) → ((c : ℕ) → in_list rest c ≡ of c)
    → (all : Listed) × ((c : ℕ) → in_list all c ≡ (if int_eq code (pos c) then Some g else of c))
one_more (pos n) g rest of h = ((n, g) ∷ rest, λ c. ap (λ b. if b then Some g else in_list rest c) (same_way c n) ∙ ap (λ o. if n == c then Some g else o) (h c))
one_more (negsuc n) g rest of h = (rest, h)

listed : (characters : List Character) → (all : Listed) × ((c : ℕ) → in_list all c ≡ glyph_for characters c)
listed [] = ([], λ c. refl)
listed (ch ∷ earlier) =
    let r = listed earlier in
    one_more (code_of ch.head) (glyph_of_character ch) r.0 (glyph_for earlier) r.1

pub characters_have_glyphs : (characters : List Character) → (font : Glyphs) × ((c : ℕ) → glyph_of font c ≡ glyph_for characters c)
characters_have_glyphs characters = (font, λ c. same c ∙ r.1 c)
  where
    r : (all : Listed) × ((c : ℕ) → in_list all c ≡ glyph_for characters c)
    r = listed characters

    places : (xs : List (Option Glyph)) × (length xs ≡ 256) × ((c : ℕ) → c < 256 → get_or xs c None ≡ in_list r.0 c)
    places = build (in_list r.0) None 256

    font : Glyphs
    font = record { by_place = places.0; others = r.0 }

    same : (c : ℕ) → glyph_of font c ≡ in_list r.0 c
    same c = elim (cases_lt c 256) [
      | inl low ↦ rw (lt-ltb c 256 low) (places.2 c low)
      | inr high ↦ rw (le-ltb c 256 high) refl
    ]
