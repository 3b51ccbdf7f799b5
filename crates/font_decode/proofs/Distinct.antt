-- No two files of a font have the same name.
use Rattle.std.proofs.Common.{◌≡◌, ◌≢◌, ℕ, ◌+◌, ◌-◌, ◌^◌, ◌<◌, ◌≤◌, List, [], ◌∷◌, ◌++◌, arith, sym, ap, ◌∙◌}
use Rattle.std.specs.Prelude.{All, AllPairs, codes, decimal, fold}
use Rattle.std.proofs.lemmas.List.{append_cancel_left, append_cancel_right}
use Rattle.std.proofs.lemmas.List.Elements.{All-cons}
use Rattle.std.proofs.lemmas.List.Kept.{AllPairs-cons}
use Rattle.std.proofs.lemmas.List.Sums.{fold-append}
use Rattle.std.proofs.lemmas.Fmt.{decimal_injective}
use Rattle.outside.specs.declared.keys.FontKey.{FontKey}
use Rattle.font_decode.specs.Names.{tfm_name, vf_name, glyph_name, dpi}
use Rattle.font_decode.specs.Laws.{NamesAreDistinct}
use Rattle.font_decode.proofs.NameBytes.{resolution_range}

-- ---- endings

-- the last two bytes of a name, after two others
abbrev last_two : ℕ × ℕ → List ℕ → ℕ × ℕ
last_two others xs = fold (λ (two : ℕ × ℕ) (x : ℕ). (two.1, x)) others xs

-- the last byte but one
abbrev kind_of : List ℕ → ℕ
kind_of xs = (last_two (0, 0) xs).0

kind_append : (xs ys : List ℕ) → kind_of (xs ++ ys) ≡ (last_two (last_two (0, 0) xs) ys).0
kind_append xs ys = ap (λ (two : ℕ × ℕ). two.0) (fold-append (λ (two : ℕ × ℕ) (x : ℕ). (two.1, x)) (0, 0) xs ys)

apart : (xs ys : List ℕ) (m n : ℕ) → kind_of xs ≡ m → kind_of ys ≡ n → m ≢ n → xs ≢ ys
apart xs ys m n p q ne e = ne (sym p ∙ ap kind_of e ∙ q)

tfm_kind : (k : FontKey) → kind_of (tfm_name k) ≡ 102
tfm_kind k = kind_append k.name (codes ".tfm")

vf_kind : (k : FontKey) → kind_of (vf_name k) ≡ 118
vf_kind k = kind_append k.name (codes ".vf")

pk_kind : (k : FontKey) (n : ℕ) → kind_of (glyph_name (codes "pk") k n) ≡ 112
pk_kind k n = kind_append (k.name ++ codes "." ++ decimal n) (codes "pk")

gf_kind : (k : FontKey) (n : ℕ) → kind_of (glyph_name (codes "gf") k n) ≡ 103
gf_kind k n = kind_append (k.name ++ codes "." ++ decimal n) (codes "gf")

other_resolution : (kind : List ℕ) (k : FontKey) (m n : ℕ) → m < 2 ^ 64 → n < 2 ^ 64 → m ≢ n → glyph_name kind k m ≢ glyph_name kind k n
other_resolution kind k m n lt_m lt_n ne e =
    let prefix : k.name ++ codes "." ++ decimal m ≡ k.name ++ codes "." ++ decimal n = append_cancel_right _ _ kind e in
    ne (decimal_injective m n lt_m lt_n (append_cancel_left (k.name ++ codes ".") _ _ prefix))

-- ---- lists of names

abbrev Differ : List (List ℕ) → Type 0
Differ names = AllPairs (λ x y. x ≢ y) names

abbrev DiffersFrom : List (List ℕ) → List ℕ → Type 0
DiffersFrom names x = All (λ y. x ≢ y) names

none_differ : Differ []
none_differ i j y lt less = absurd (omega (arith, less))

from_none : (x : List ℕ) → DiffersFrom [] x
from_none x i y lt = absurd (omega (arith, lt))

from_more : (x a : List ℕ) (names : List (List ℕ)) → x ≢ a → DiffersFrom names x → DiffersFrom (a ∷ names) x
from_more x a names first rest = All-cons (λ z. x ≢ z) a names first rest

one_more : (x : List ℕ) (names : List (List ℕ)) → DiffersFrom names x → Differ names → Differ (x ∷ names)
one_more x names first rest = AllPairs-cons (λ y z. y ≢ z) x names first rest

from_three : (x a b c : List ℕ) (names : List (List ℕ)) → x ≢ a → x ≢ b → x ≢ c → DiffersFrom names x → DiffersFrom (a ∷ b ∷ c ∷ names) x
from_three x a b c names xa xb xc rest = from_more x a (b ∷ c ∷ names) xa (from_more x b (c ∷ names) xb (from_more x c names xc rest))

-- three names that differ from each other and from the others
three_more : (a b c : List ℕ) (names : List (List ℕ)) → a ≢ b → a ≢ c → b ≢ c → DiffersFrom names a → DiffersFrom names b → DiffersFrom names c → Differ names
    → Differ (a ∷ b ∷ c ∷ names)
three_more a b c names ab ac bc from_a from_b from_c rest =
    one_more a (b ∷ c ∷ names) (from_more a b (c ∷ names) ab (from_more a c names ac from_a))
    (one_more b (c ∷ names) (from_more b c names bc from_b) (one_more c names from_c rest))

-- ---- the names of a font's files

module _ (k : FontKey) (n : ℕ) (least : 1 ≤ n) (most : n ≤ 1000000) where
  abbrev three_of : List ℕ → List (List ℕ) → List (List ℕ)
  three_of kind names = glyph_name kind k n ∷ glyph_name kind k (n + 1) ∷ glyph_name kind k (n - 1) ∷ names

  -- the files of one kind
  three_differ : (kind : List ℕ) (names : List (List ℕ)) → ((m : ℕ) → DiffersFrom names (glyph_name kind k m)) → Differ names → Differ (three_of kind names)
  three_differ kind names from rest =
      let here : n < 2 ^ 64 = omega (arith, most) in
      let above : n + 1 < 2 ^ 64 = omega (arith, most) in
      let below : n - 1 < 2 ^ 64 = omega (arith, most) in
      three_more (glyph_name kind k n) (glyph_name kind k (n + 1)) (glyph_name kind k (n - 1)) names
      (other_resolution kind k n (n + 1) here above (λ e. omega (arith, e)))
      (other_resolution kind k n (n - 1) here below (λ e. omega (arith, e, least)))
      (other_resolution kind k (n + 1) (n - 1) above below (λ e. omega (arith, e)))
      (from n) (from (n + 1)) (from (n - 1)) rest

  -- a name of another kind
  from_kind : (x kind : List ℕ) (names : List (List ℕ)) → ((m : ℕ) → x ≢ glyph_name kind k m) → DiffersFrom names x → DiffersFrom (three_of kind names) x
  from_kind x kind names other rest =
      from_three x (glyph_name kind k n) (glyph_name kind k (n + 1)) (glyph_name kind k (n - 1)) names (other n) (other (n + 1)) (other (n - 1)) rest

  abbrev gf : List (List ℕ)
  gf = three_of (codes "gf") []

  abbrev pk_and_gf : List (List ℕ)
  pk_and_gf = three_of (codes "pk") gf

  from_both : (x : List ℕ) → ((m : ℕ) → x ≢ glyph_name (codes "pk") k m) → ((m : ℕ) → x ≢ glyph_name (codes "gf") k m) → DiffersFrom pk_and_gf x
  from_both x pk other = from_kind x (codes "pk") gf pk (from_kind x (codes "gf") [] other (from_none x))

  glyphs_differ : Differ pk_and_gf
  glyphs_differ =
      three_differ (codes "pk") gf
      (λ m. from_kind (glyph_name (codes "pk") k m) (codes "gf") []
      (λ other. apart (glyph_name (codes "pk") k m) (glyph_name (codes "gf") k other) 112 103 (pk_kind k m) (gf_kind k other) (λ e. omega (arith, e)))
      (from_none (glyph_name (codes "pk") k m)))
      (three_differ (codes "gf") [] (λ m. from_none (glyph_name (codes "gf") k m)) none_differ)

  vf_differs : DiffersFrom pk_and_gf (vf_name k)
  vf_differs = from_both (vf_name k)
      (λ m. apart (vf_name k) (glyph_name (codes "pk") k m) 118 112 (vf_kind k) (pk_kind k m) (λ e. omega (arith, e)))
      (λ m. apart (vf_name k) (glyph_name (codes "gf") k m) 118 103 (vf_kind k) (gf_kind k m) (λ e. omega (arith, e)))

  tfm_differs : DiffersFrom (vf_name k ∷ pk_and_gf) (tfm_name k)
  tfm_differs = from_more (tfm_name k) (vf_name k) pk_and_gf
      (apart (tfm_name k) (vf_name k) 102 118 (tfm_kind k) (vf_kind k) (λ e. omega (arith, e)))
      (from_both (tfm_name k)
      (λ m. apart (tfm_name k) (glyph_name (codes "pk") k m) 102 112 (tfm_kind k) (pk_kind k m) (λ e. omega (arith, e)))
      (λ m. apart (tfm_name k) (glyph_name (codes "gf") k m) 102 103 (tfm_kind k) (gf_kind k m) (λ e. omega (arith, e))))

  all_differ : Differ (tfm_name k ∷ vf_name k ∷ pk_and_gf)
  all_differ = one_more (tfm_name k) (vf_name k ∷ pk_and_gf) tfm_differs (one_more (vf_name k) pk_and_gf vf_differs glyphs_differ)

pub names_are_distinct : NamesAreDistinct
names_are_distinct u k r =
    let range = resolution_range (dpi u k) r in
    all_differ k (dpi u k) range.0 range.1
