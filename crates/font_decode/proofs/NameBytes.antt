-- File names of a font with a valid name stay in their folder.
use Rattle.std.proofs.Common.{◌≡◌, ◌≢◌, ℕ, zero, suc, Bool, ◌+◌, ◌-◌, ◌/◌, ◌%◌, ◌<◌, ◌≤◌, true, false, eqb, List, [], ◌∷◌, ◌++◌, length, get_or, take, arith, refl, sym, subst, ◌∙◌, append_assoc, length-append}
use Rattle.std.specs.Prelude.{if◌then◌else◌, ◌&&◌, not, ◌==◌, All, slice_index, codes, decimal}
use Rattle.std.specs.List.{list_all}
use Rattle.std.specs.Int.{is_in_range}
use Rattle.std.proofs.lemmas.Bool.{and_parts, cond_both, eqb-false, leb-true, lt-ltb, not-true}
use Rattle.std.proofs.lemmas.List.Folds.{list_all-append}
use Rattle.std.proofs.lemmas.List.Sums.{AllPass-from_list_all}
use Rattle.std.proofs.lemmas.List.Elements.{All-append, All-cons, All-nil, All-same, All-take}
use Rattle.std.specs.Fmt.{digit_glyph, digits, digits_onto}
use Rattle.outside.specs.declared.keys.FontKey.{FontKey}
use Rattle.pixel_round.specs.declared.units.Units.{Units}
use Rattle.font_decode.specs.Names.{is_name_byte, is_valid_name, is_resolution, tfm_name, vf_name, glyph_name, gf_names, glyph_names, file_names, dpi}
use Rattle.font_decode.specs.Asked.{choices}
use Rattle.font_decode.specs.Files.{glyph_choices}
use Rattle.font_decode.specs.Laws.{StaysInFolder, NamesStayInFolder, AskedNamesStayInFolder}

-- texts of such bytes
abbrev IsNameText : List ℕ → Type 0
IsNameText xs = list_all is_name_byte xs ≡ true

name_append : (xs ys : List ℕ) → IsNameText xs → IsNameText ys → IsNameText (xs ++ ys)
name_append xs ys p q = rw (list_all-append is_name_byte xs ys, p, q) refl

digit : (n : ℕ) → n < 10 → is_name_byte (48 + n) ≡ true
digit n lt = grind arith

name_onto : (k n : ℕ) (acc : List ℕ) → IsNameText acc → IsNameText (digits_onto k 10 false n acc)
name_onto zero n acc h = h
name_onto (suc k) n acc h = cond_both (eqb (n / 10) 0) _ _ IsNameText (λ _. one) (λ _. name_onto k (n / 10) (digit_glyph false (n % 10) ∷ acc) one)
  where
    small : n % 10 < 10
    small = omega arith

    glyph : digit_glyph false (n % 10) ≡ 48 + n % 10
    glyph = rw (lt-ltb (n % 10) 10 small) refl

    one : IsNameText (digit_glyph false (n % 10) ∷ acc)
    one = subst (λ (d : ℕ). IsNameText (d ∷ acc)) (sym glyph) (name_append ((48 + n % 10) ∷ []) acc (rw (digit (n % 10) small) refl) h)

name_decimal : (n : ℕ) → IsNameText (decimal n)
unfolding digits
name_decimal n = name_onto 64 n [] refl

slash : (b : ℕ) → is_name_byte b ≡ true → b ≢ 47
slash b h e = let no : is_name_byte 47 ≡ true = subst (λ (n : ℕ). is_name_byte n ≡ true) e h in absurd (cc)

no_slash : (xs : List ℕ) → IsNameText xs → All (λ b. b ≢ 47) xs
no_slash xs h = λ k d lt. slash (get_or xs k d) (AllPass-from_list_all is_name_byte xs h k d lt)

-- ---- what a valid name gives

valid : (k : FontKey) → is_valid_name k ≡ true → (0 < length k.name) × IsNameText k.name × (slice_index k.name 0 ≢ 46)
valid k h =
    let prefix = and_parts (k.area == 0 && is_in_range 1 100 (length k.name) && list_all is_name_byte k.name) (not (slice_index k.name 0 == 46)) h in
    let sized = and_parts (k.area == 0 && is_in_range 1 100 (length k.name)) (list_all is_name_byte k.name) prefix.0 in
    let ranged = and_parts (k.area == 0) (is_in_range 1 100 (length k.name)) sized.0 in
    let least = leb-true 1 (length k.name) (and_parts _ _ ranged.1).0 in
    (least, sized.1, eqb-false (slice_index k.name 0) 46 (not-true _ prefix.1))

pub resolution_range : (n : ℕ) → is_resolution n ≡ true → (1 ≤ n) × (n ≤ 1000000)
resolution_range n h = let parts = and_parts _ _ h in (leb-true 1 n parts.0, leb-true n 1000000 parts.1)

-- ---- a name with an ending

prefix_byte : (xs ys : List ℕ) → 0 < length xs → slice_index (xs ++ ys) 0 ≡ slice_index xs 0
prefix_byte [] ys lt = absurd (omega (arith, lt))
prefix_byte (x ∷ xs) ys lt = refl

longer : (xs ys : List ℕ) → 0 < length xs → 0 < length (xs ++ ys)
longer xs ys lt = rw (length-append xs ys) (omega (arith, lt))

with_ending : (xs ys : List ℕ) → (0 < length xs) × IsNameText xs × (slice_index xs 0 ≢ 46) → IsNameText ys → StaysInFolder (xs ++ ys)
with_ending xs ys (some, plain, dot) q = record {
  some = longer xs ys some;
  no_leading_dot = λ e. dot (sym (prefix_byte xs ys some) ∙ e);
  no_slash = no_slash (xs ++ ys) (name_append xs ys plain q);
  plain = name_append xs ys plain q;
}

at_resolution : (kind : List ℕ) (k : FontKey) (n : ℕ) → is_valid_name k ≡ true → IsNameText kind → StaysInFolder (glyph_name kind k n)
at_resolution kind k n h plain =
    let ending : IsNameText (codes "." ++ (decimal n ++ kind)) = name_append (codes ".") (decimal n ++ kind) refl (name_append (decimal n) kind (name_decimal n) plain) in
    subst StaysInFolder (regrouped k.name (codes ".") (decimal n) kind) (with_ending k.name (codes "." ++ (decimal n ++ kind)) (valid k h) ending)
  where
    regrouped : (a b c d : List ℕ) → a ++ (b ++ (c ++ d)) ≡ ((a ++ b) ++ c) ++ d
    regrouped a b c d = sym (append_assoc (a ++ b) c d ∙ append_assoc a b (c ++ d))

-- three files of glyphs, and others
three_stay : (kind : List ℕ) (k : FontKey) (n : ℕ) (names : List (List ℕ)) → is_valid_name k ≡ true → IsNameText kind → All StaysInFolder names
    → All StaysInFolder (glyph_name kind k n ∷ glyph_name kind k (n + 1) ∷ glyph_name kind k (n - 1) ∷ names)
three_stay kind k n names h plain rest =
    All-cons StaysInFolder (glyph_name kind k n) (glyph_name kind k (n + 1) ∷ glyph_name kind k (n - 1) ∷ names) (at_resolution kind k n h plain)
    (All-cons StaysInFolder (glyph_name kind k (n + 1)) (glyph_name kind k (n - 1) ∷ names) (at_resolution kind k (n + 1) h plain)
    (All-cons StaysInFolder (glyph_name kind k (n - 1)) names (at_resolution kind k (n - 1) h plain) rest))

pub names_stay_in_folder : NamesStayInFolder
names_stay_in_folder u k h =
    let ok = valid k h in
    All-cons StaysInFolder (tfm_name k) (vf_name k ∷ glyph_names u k) (with_ending k.name (codes ".tfm") ok refl)
    (All-cons StaysInFolder (vf_name k) (glyph_names u k) (with_ending k.name (codes ".vf") ok refl)
    (three_stay (codes "pk") k (dpi u k) (gf_names u k) h refl
    (three_stay (codes "gf") k (dpi u k) [] h refl (All-nil StaysInFolder))))

-- ---- the names that a fetch may ask for

choices_near : (u : Units) (k : FontKey) → is_valid_name k ≡ true → (r : Bool) → All StaysInFolder (tfm_name k ∷ vf_name k ∷ (if r then glyph_names u k else []))
choices_near u k h true = names_stay_in_folder u k h
choices_near u k h false = All-take StaysInFolder 2 (file_names u k) (names_stay_in_folder u k h)

choices_stay : (u : Units) (k : FontKey) → All StaysInFolder (choices u k)
choices_stay u k = by (is_valid_name k) refl
  where
    by : (b : Bool) → is_valid_name k ≡ b → All StaysInFolder (if b then tfm_name k ∷ vf_name k ∷ glyph_choices u k else [])
    by true h = choices_near u k h (is_resolution (dpi u k))
    by false h = All-nil StaysInFolder

pub asked_names_stay_in_folder : AskedNamesStayInFolder
asked_names_stay_in_folder u k count before after e h =
    let more = take count (choices u k) in
    let same : after ≡ before ++ take count (choices u k) = cc in
    All-same StaysInFolder after (before ++ more) same (All-append StaysInFolder before more h (All-take StaysInFolder count (choices u k) (choices_stay u k)))
