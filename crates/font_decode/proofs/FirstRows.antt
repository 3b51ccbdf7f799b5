-- A row that holds decides the decoding, and one that doesn't leaves it to the rows after it.
use Rattle.std.proofs.Common.{◌≡◌, ◌≢◌, inl, inr, List, ◌∷◌, Some, None, sym, subst, ap}
use Rattle.std.specs.Prelude.{◌↔◌}
use Rattle.outside.specs.declared.keys.FontKey.{FontKey}
use Rattle.pixel_round.specs.declared.units.Units.{Units}
use Rattle.font_decode.specs.Files.{FontFiles}
use Rattle.font_decode.specs.Rows.{Row, Holds, HoldsNot, NO_GLYPHS, IsFirstOf}
use Rattle.font_decode.specs.declared.font_or_fault.Decoded.{Decoded}
use Rattle.font_decode.specs.declared.font_or_fault.Decoded.TheVariants.{Font, Bare, Fault}
use Rattle.font_decode.specs.declared.faults.FontFault.{FontFault}

module _ (u : Units) (k : FontKey) (files : FontFiles) where
  -- a row that doesn't hold
  pub passed : (row : Row) (others : List Row) (P : Type 0) (d : Decoded) → HoldsNot u k files row → P ↔ IsFirstOf u k files others d → P ↔ IsFirstOf u k files (row ∷ others) d
  passed row others P (Font f) not h = (λ p. let q = h.0 p in ((not, q.0), q.1), λ q. h.1 (q.0.1, q.1))
  passed row others P (Bare f) not h = (
    λ p. let q = h.0 p in (inr (not, q.0), q.1),
    λ q. elim q.0 [ inl here ↦ absurd (not NO_GLYPHS here) | inr later ↦ h.1 (later.1, q.1) ],
  )
  passed row others P (Fault f) not h = (
    λ p. let q = h.0 p in (inr (not, q.0), q.1),
    λ q. elim q.0 [ inl here ↦ absurd (not f here) | inr later ↦ h.1 (later.1, q.1) ],
  )

  -- the row that holds, with one fault, which isn't that of files of glyphs which are missing
  pub held : (row : Row) (others : List Row) (g : FontFault) (d : Decoded) → g ≢ NO_GLYPHS → Holds u k files row g → ((f : FontFault) → Holds u k files row f → f ≡ g)
      → (d ≡ Fault g) ↔ IsFirstOf u k files (row ∷ others) d
  held row others g (Font f) other here one = (λ e. absurd (cc), λ q. absurd (q.0.0 g here))
  held row others g (Bare f) other here one = (
    λ e. absurd (cc),
    λ q. elim q.0 [ inl h ↦ absurd (other (sym (one NO_GLYPHS h))) | inr later ↦ absurd (later.0 g here) ],
  )
  held row others g (Fault f) other here one = (
    λ e. let same : g ≡ f = cc in (inl (subst (Holds u k files row) same here), subst (λ (x : FontFault). x ≢ NO_GLYPHS) same other),
    λ q. elim q.0 [ inl h ↦ ap (λ (x : FontFault). Fault x) (one f h) | inr later ↦ absurd (later.0 g here) ],
  )

-- ---- which rows don't hold

pub some_none : {A : Type 0} (a : A) → Some a ≡ None → ⊥
some_none a e = cc

pub none_some : {A : Type 0} (a : A) → None ≡ Some a → ⊥
none_some a e = cc

pub some_is : {A : Type 0} (a b : A) → Some a ≡ Some b → b ≡ a
some_is a b e = cc
