-- What a font is by the library that a source knows, and by the one that the common part knows.
use Rattle.std.proofs.Common.{◌≡◌, List, [], Bool, true, false, Option, Some, None, Result, Ok, Err, IfOk, refl, ap, subst, ◌∙◌}
use Rattle.std.specs.Prelude.{IfSome, IsNone, IsOk, IsSome, OnOk, ◌&&◌, is_some, is_none, if◌then◌else◌, ℕ}
use Rattle.std.specs.FinMap.{get}
use Rattle.outside.specs.Library as library
use Rattle.outside.specs.declared.keys.FontKey.{FontKey}
use Rattle.pixel_round.specs.declared.units.Units.{Units}
use Rattle.font_decode.specs.Names.{is_valid_name, dpi, is_resolution, tfm_name, vf_name, gf_names, pk_names}
use Rattle.font_decode.specs.Files.{FontFiles, IsFound, IsInOrder, first_there, gf_choices, pk_choices}
use Rattle.font_decode.specs.Decoding.{IsFontOf, IsFontBySome}
use Rattle.font_decode.specs.declared.font_or_fault.Decoded.{Decoded}

-- ---- files that are found in a library are found in their order

only_where : (b : Bool) (o x : Option (List ℕ)) → o ≡ (if b then x else None) → IsSome o → b ≡ true
only_where true o x e some = refl
only_where false o x e some = let none : Option (List ℕ) = None in let bad : is_some none ≡ true = subst IsSome e some in absurd cc

both : (a b : Bool) → (a && b) ≡ true → (a ≡ true) × (b ≡ true)
both true true e = (refl, refl)
both true false e = absurd cc
both false b e = absurd cc

only_near : (l : library.FileTable) (b : Bool) (names : List (List ℕ)) (o : Option (List ℕ)) → o ≡ first_there l (if b then names else []) → IsSome o → b ≡ true
only_near l true names o e some = refl
only_near l false names o e some = let none : Option (List ℕ) = None in let bad : is_some none ≡ true = subst IsSome e some in absurd cc

none_of : (o : Option (List ℕ)) → is_none o ≡ true → IsNone o
none_of None e = refl
none_of (Some x) e = absurd cc

in_order : (l : library.FileTable) (u : Units) (k : FontKey) (f : FontFiles) → IsFound l u k f → IsInOrder u k f
in_order l u k f found = record {
  tfm = only_where (is_valid_name k) f.tfm (get l (tfm_name k)) found.tfm;
  vf = only_where (is_some f.tfm) f.vf (get l (vf_name k)) found.vf;
  pk = λ some.
      let asked = only_where (is_some f.tfm && is_none f.vf) f.pk (first_there l (pk_choices u k)) found.pk some in
      let parts = both (is_some f.tfm) (is_none f.vf) asked in
      let pk = found.pk ∙ ap (λ (b : Bool). if b then first_there l (pk_choices u k) else None) asked in
      (parts.0, none_of f.vf parts.1, only_near l (is_resolution (dpi u k)) (pk_names u k) f.pk pk some);
  gf = λ some.
      let asked = only_where (is_some f.tfm && is_none f.vf && is_none f.pk) f.gf (first_there l (gf_choices u k)) found.gf some in
      let parts = both (is_some f.tfm && is_none f.vf) (is_none f.pk) asked in
      let first = both (is_some f.tfm) (is_none f.vf) parts.0 in
      let gf = found.gf ∙ ap (λ (b : Bool). if b then first_there l (gf_choices u k) else None) asked in
      (first.0, none_of f.vf first.1, none_of f.pk parts.1, only_near l (is_resolution (dpi u k)) (gf_names u k) f.gf gf some);
}

-- a font of a library is one by some files
by_some : (known : Option library.FileTable) (u : Units) (k : FontKey) (d : Decoded) → IsFontOf known (Some u) k d → IsFontBySome u k d
by_some None u k d font = font
by_some (Some l) u k d font = record { files = font.files; order = in_order l u k font.files font.found; decoding = font.decoding }

-- a font by what the source tells is one by what the common part tells, where the source tells as
-- much
pub as_known : (common known : Option library.FileTable) (u v : Units) (k : FontKey) (d : Decoded) → IfSome common (λ l. known ≡ Some l) → u ≡ v → IsFontOf known (Some u) k d
    → IsFontOf common (Some v) k d
as_known None known u v k d knows_library same font = subst (λ (w : Units). IsFontBySome w k d) same (by_some known u k d font)
as_known (Some l) known u v k d knows_library same font =
    subst (λ (w : Units). IsFontOf (Some l) (Some w) k d) same (subst (λ (o : Option library.FileTable). IsFontOf o (Some u) k d) knows_library font)

-- what holds by the library that the source tells holds by that of the common part
pub as_told : (common known : Option library.FileTable) (u v : Units) (P : library.FileTable → Units → Type 0) → IfSome common (λ l. known ≡ Some l) → u ≡ v → IfSome known (λ l. P l u) → IfSome common (λ l. P l v)
as_told None known u v P knows_library same h = tt
as_told (Some l) known u v P knows_library same h = subst (λ (w : Units). P l w) same (subst (λ (o : Option library.FileTable). IfSome o (λ x. P x u)) knows_library h)

-- ---- of a result

pub from_ok : {A E : Type 0} (P : Type 0) (r : Result A E) → OnOk r P → IsOk r → P
from_ok P (Ok a) h is = h
from_ok P (Err e) h is = absurd cc

pub of_ok : {A E : Type 0} (P Q : A → Type 0) (r : Result A E) → ((a : A) → P a → Q a) → IfOk r P → IfOk r Q
of_ok P Q (Ok a) f h = f a h
of_ok P Q (Err e) f h = tt
