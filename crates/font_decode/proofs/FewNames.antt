-- Few names are looked for.
use Rattle.std.proofs.Common.{◌≡◌, ◌≤◌, ◌+◌, ℕ, Bool, true, false, List, [], ◌∷◌, length, refl, arith}
use Rattle.std.specs.Prelude.{not, is_none, is_some, if◌then◌else◌}
use Rattle.std.specs.FinMap.{get}
use Rattle.outside.specs.Library as library
use Rattle.outside.specs.declared.keys.FontKey.{FontKey}
use Rattle.pixel_round.specs.declared.units.Units.{Units}
use Rattle.font_decode.specs.Names.{is_valid_name, dpi, is_resolution, glyph_names, tfm_name, vf_name}
use Rattle.font_decode.specs.Files.{glyph_choices, up_to_there}
use Rattle.font_decode.specs.Laws.{FewAreLookedFor}

-- no more names than there are
up_to_few : (l : library.FileTable) (names : List (List ℕ)) → length (up_to_there l names) ≤ length names
up_to_few l [] = omega arith
up_to_few l (name ∷ names) = by (is_some (get l name)) (up_to_few l names)
  where
    by : (there : Bool) → length (up_to_there l names) ≤ length names → length (name ∷ (if there then [] else up_to_there l names)) ≤ length (name ∷ names)
    by true few = let one : length (name ∷ []) ≡ 1 = refl in let more : length (name ∷ names) ≡ length names + 1 = omega arith in omega (arith, one, more)
    by false few =
        let here : length (name ∷ up_to_there l names) ≡ length (up_to_there l names) + 1 = omega arith in
        let more : length (name ∷ names) ≡ length names + 1 = omega arith in
        omega (arith, few, here, more)

six_at_most : (u : Units) (k : FontKey) → length (glyph_choices u k) ≤ 6
six_at_most u k = by (is_resolution (dpi u k))
  where
    by : (near : Bool) → length (if near then glyph_names u k else []) ≤ 6
    by true = let six : length (glyph_names u k) ≡ 6 = refl in omega (arith, six)
    by false = omega arith

pub few_are_looked_for : FewAreLookedFor
few_are_looked_for l u k =
    let few = up_to_few l (glyph_choices u k) in
    let six = six_at_most u k in
    by (is_valid_name k) (is_none (get l (tfm_name k))) (is_some (get l (vf_name k))) (up_to_there l (glyph_choices u k)) (omega (arith, few, six))
  where
    by : (valid no_tfm has_vf : Bool) (names : List (List ℕ)) → length names ≤ 6
        → length (if not valid then [] else if no_tfm then tfm_name k ∷ [] else if has_vf then tfm_name k ∷ vf_name k ∷ [] else tfm_name k ∷ vf_name k ∷ names) ≤ 8
    by false no_tfm has_vf names few = omega arith
    by true true has_vf names few = let one : length (tfm_name k ∷ []) ≡ 1 = refl in omega (arith, one)
    by true false true names few = let two : length (tfm_name k ∷ vf_name k ∷ []) ≡ 2 = refl in omega (arith, two)
    by true false false names few = let all : length (tfm_name k ∷ vf_name k ∷ names) ≡ length names + 2 = omega arith in omega (arith, few, all)
