-- The keys of local fonts, from the last one on.
use Rattle.std.proofs.Common.{◌≡◌, ◌∙◌, ◌<◌, ◌-◌, ℕ, ℤ, Bool, true, false, ◌&&◌, cond, List, [], ◌∷◌, ◌++◌, length, get_or, Some, sym, ap, subst, arith, Bor}
use Rattle.std.specs.Prelude.{map, reverse, IsTrue, IsFalse, All}
use Rattle.std.specs.Option.{option_map}
use Rattle.std.specs.Ordering.{int_cmp, is_eq}
use Rattle.std.proofs.lemmas.List.{map-append, reverse-append, reverse-reverse, get_or-reverse, length-reverse}
use Rattle.std.proofs.lemmas.List.Elements.{All-get_or}
use Rattle.std.proofs.lemmas.List.Folds.{list_all_at}
use Rattle.big_endian.specs.Numbers.{int_eq}
use Rattle.outside.specs.declared.keys.FontKey.{FontKey}
use Rattle.pixel_round.specs.declared.units.Units.{Units}
use Rattle.vf_reader.specs.Locals.{local_with}
use Rattle.vf_reader.specs.declared.locals.LocalDef.{LocalDef}
use Rattle.vf_reader.proofs.Found.{same_test}
use Rattle.font_decode.specs.Fonts.{key_with}
use Rattle.font_decode.specs.Locals.{are_local_sizes, is_local_size, local_key}

abbrev Defs : Type 0
Defs = List LocalDef

-- the definitions that were seen, and one more before them
abbrev values_of_locals : List (Bor LocalDef) → Defs
values_of_locals xs = reverse (map (λ d. d.now) xs)

pub seen_more : (xs : List (Bor LocalDef)) (x : Bor LocalDef) → values_of_locals (xs ++ x ∷ []) ≡ x.now ∷ values_of_locals xs
seen_more xs x = ap reverse (map-append (λ (d : Bor LocalDef). d.now) xs (x ∷ [])) ∙ reverse-append (map (λ d. d.now) xs) (x.now ∷ [])

module _ (u : Units) (size : ℕ) where
  pub right_more : (locals : Defs) (d : LocalDef) → IsTrue (is_local_size u size d) → IsTrue (are_local_sizes u size locals) → IsTrue (are_local_sizes u size (d ∷ locals))
  right_more locals d a b = by (is_local_size u size d) (are_local_sizes u size locals) a b
    where
      by : (x y : Bool) → IsTrue x → IsTrue y → IsTrue (x && y)
      by true y a b = b
      by false y a b = cc

  -- a key for the number of one more definition before it
  pub keys_more : (locals : Defs) (d : LocalDef) (k : FontKey) (old new : List (ℤ × FontKey)) → k ≡ local_key u size d
      → ((n : ℤ) → key_with new n ≡ cond (is_eq (int_cmp d.number n)) (Some k) (key_with old n))
      → ((n : ℤ) → key_with old n ≡ option_map (local_key u size) (local_with locals n))
      → (n : ℤ) → key_with new n ≡ option_map (local_key u size) (local_with (d ∷ locals) n)
  keys_more locals d k old new is put before n =
      put n ∙ ap (λ b. cond b (Some k) (key_with old n)) (sym (same_test d.number n)) ∙ by (int_eq d.number n)
    where
      by : (b : Bool) → cond b (Some k) (key_with old n) ≡ option_map (local_key u size) (cond b (Some d) (local_with locals n))
      by true = ap Some is
      by false = before n

  -- one that is out of range, from the last one on
  pub wrong_one : (locals : Defs) (i : ℕ) (d : LocalDef) → i < length (reverse locals) → d ≡ get_or (reverse locals) i d → IsFalse (is_local_size u size d) → IsFalse (are_local_sizes u size locals)
  wrong_one locals i d lt at wrong =
      let len : length (reverse locals) ≡ length locals = length-reverse locals in
      let inside : i < length locals = omega (arith, lt, len) in
      let there : d ≡ get_or locals (length locals - 1 - i) d = at ∙ get_or-reverse locals i d inside in
      list_all_at (is_local_size u size) locals (length locals - 1 - i) d (omega (arith, inside)) (ap (is_local_size u size) (sym there) ∙ wrong)

-- what holds of all holds of each, from the last one on
pub one_of_all : (P : LocalDef → Type 0) (locals : Defs) (i : ℕ) (d : LocalDef) → i < length (reverse locals) → d ≡ get_or (reverse locals) i d → All P locals → P d
one_of_all P locals i d lt at all =
    let len : length (reverse locals) ≡ length locals = length-reverse locals in
    let inside : i < length locals = omega (arith, lt, len) in
    let there : d ≡ get_or locals (length locals - 1 - i) d = at ∙ get_or-reverse locals i d inside in
    subst P (sym there) (All-get_or P locals (length locals - 1 - i) d (omega (arith, inside)) all)

-- all were seen
pub all_seen : (xs : List (Bor LocalDef)) (locals : Defs) → map (λ d. d.now) xs ≡ reverse locals → values_of_locals xs ≡ locals
all_seen xs locals e = ap reverse e ∙ reverse-reverse locals
