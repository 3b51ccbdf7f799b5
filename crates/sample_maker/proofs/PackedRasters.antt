-- The packed form of a raster: what the packer chooses, and the shortest.
use Rattle.std.proofs.Common.{◌≡◌, ◌∙◌, inl, inr, ℕ, zero, suc, ◌+◌, ◌*◌, ◌/◌, ◌%◌, ◌<◌, ◌≤◌, Bool, true, false, List, [], ◌∷◌, ◌++◌, length, replicate, refl, sym, ap, subst, arith}
use Rattle.std.specs.Prelude.{nat_le, nat_lt, if◌then◌else◌}
use Rattle.std.specs.Bool.{MatchBool}
use Rattle.std.specs.Int.{div_ceil}
use Rattle.std.proofs.lemmas.Bool.{cases_Bool, leb-false, leb-true, lt-ltb, ltb-false, ltb-true}
use Rattle.packed_rows.specs.Bitmap.{Bitmap, IsShaped}
use Rattle.pk_runs.specs.Raster.{IsRaster}
use Rattle.pk_runs.specs.Numbers.{nybbles_of}
use Rattle.pk_packer.specs.Choice.{AreFewest, IsChosen, IsShortest, length_of, plain_bytes, plain_size, run_bytes}
use Rattle.pk_packer.specs.Spelling.{HoldNybbles, items_text, text_length}
use Rattle.pk_packer.specs.Written.{first_colour, pixel_rows, written_runs}
use Rattle.pk_packer.proofs.PlainBits.{length_of_bytes, raster_again}
use Rattle.pk_packer.proofs.PlainLaws.{by_pixels}
use Rattle.sample_maker.specs.Coded.{ChosenRastersArePacked, Coded, PackedRastersAreShortest, StandsFor, by_bitmap, by_runs, joined, packed, shorter, shortest_up_to}

-- ---- the shortest

record IsLeast (n : ℕ) (lengths : ℕ → ℕ) (f : ℕ) : Type 0 where
  form : f ≤ n
  least : (g : ℕ) → g ≤ n → lengths f ≤ lengths g
  first : (g : ℕ) → g < f → lengths f < lengths g

at_zero : (lengths : ℕ → ℕ) (g : ℕ) → g ≤ 0 → lengths 0 ≤ lengths g
at_zero lengths zero h = omega arith
at_zero lengths (suc g) h = absurd (omega (arith, h))

-- one number more
at_next : (n : ℕ) (lengths : ℕ → ℕ) (g : ℕ) (P : ℕ → Type 0) → g ≤ suc n → (g ≤ n → P g) → P (suc n) → P g
at_next n lengths g P h before last = elim (cases_Bool (nat_le g n)) [
  | inl low ↦ before (leb-true g n low)
  | inr high ↦ let above : n < g = leb-false g n high in let same : suc n ≡ g = omega (arith, h, above) in subst P same last
]

next_least : (n : ℕ) (lengths : ℕ → ℕ) (f : ℕ) → IsLeast n lengths f → IsLeast (suc n) lengths (shorter lengths f (suc n))
next_least n lengths f before = elim (cases_Bool (nat_lt (lengths (suc n)) (lengths f))) [
  | inl less ↦
      let less : lengths (suc n) < lengths f = ltb-true _ _ less in
      rw (lt-ltb (lengths (suc n)) (lengths f) less) (record {
        form = omega arith;
        least = λ g h. at_next n lengths g (λ k. lengths (suc n) ≤ lengths k) h (λ low. omega (arith, less, before.least g low)) (omega arith);
        first = λ g h. omega (arith, less, before.least g (omega (arith, h)));
      })
  | inr other ↦
      let more : lengths f ≤ lengths (suc n) = ltb-false _ _ other in
      rw other (record {
        form = omega (arith, before.form);
        least = λ g h. at_next n lengths g (λ k. lengths f ≤ lengths k) h (before.least g) more;
        first = before.first;
      })
]

least_chosen : (n : ℕ) (lengths : ℕ → ℕ) → IsLeast n lengths (shortest_up_to n lengths)
least_chosen zero lengths = record { form = omega arith; least = at_zero lengths; first = λ g h. absurd (omega (arith, h)) }
least_chosen (suc n) lengths = next_least n lengths (shortest_up_to n lengths) (least_chosen n lengths)

-- there is one
one_least : (lengths : ℕ → ℕ) (f g : ℕ) → IsShortest lengths f → IsLeast 13 lengths g → f ≡ g
one_least lengths f g a b = elim (cases_Bool (nat_lt f g)) [
  | inl below ↦ let h : f < g = ltb-true f g below in absurd (omega (arith, b.first f h, a.least g b.form))
  | inr above ↦ elim (cases_Bool (nat_lt g f)) [
    | inl below ↦ let h : g < f = ltb-true g f below in absurd (omega (arith, a.first g h, b.least f a.form))
    | inr other ↦ omega (arith, ltb-false f g above, ltb-false g f other)
  ]
]

-- ---- nybbles in bytes

joined_again : (bytes : List ℕ) → joined (nybbles_of bytes) ≡ bytes
joined_again [] = refl
joined_again (b ∷ bytes) =
    let same : 16 * (b / 16) + b % 16 ≡ b = omega arith in
    ap (λ x. x ∷ joined (nybbles_of bytes)) same ∙ ap (λ l. b ∷ l) (joined_again bytes)

joined_whole : (nybbles : List ℕ) → joined (nybbles ++ replicate (length nybbles % 2) 0) ≡ joined nybbles
joined_whole [] = refl
joined_whole (high ∷ []) = let same : 16 * high + 0 ≡ 16 * high = omega arith in ap (λ x. x ∷ []) same
joined_whole (high ∷ low ∷ nybbles) =
    let even : suc (suc (length nybbles)) % 2 ≡ length nybbles % 2 = omega arith in
    ap (λ n. (16 * high + low) ∷ joined (nybbles ++ replicate n 0)) even ∙ ap (λ l. (16 * high + low) ∷ l) (joined_whole nybbles)

held_joined : (bytes nybbles : List ℕ) → HoldNybbles bytes nybbles → bytes ≡ joined nybbles
held_joined bytes nybbles hold = sym (joined_again bytes) ∙ ap joined hold ∙ joined_whole nybbles

length-joined : (nybbles : List ℕ) → length (joined nybbles) ≡ div_ceil (length nybbles) 2
length-joined [] = refl
length-joined (high ∷ []) = refl
length-joined (high ∷ low ∷ nybbles) = omega (arith, length-joined nybbles)

-- ---- what is chosen

abbrev coded_as : ℕ → Bool → List ℕ → Coded
coded_as d b t = record { dyn_f = d; first_black = b; bytes = t }

same_coded : (c : Coded) (d : ℕ) (b : Bool) (t : List ℕ) → c.dyn_f ≡ d → c.first_black ≡ b → c.bytes ≡ t → c ≡ coded_as d b t
same_coded c d b t e f g =
    ap (λ (x : ℕ). coded_as x c.first_black c.bytes) e ∙ ap (λ (x : Bool). coded_as d x c.bytes) f ∙ ap (λ (x : List ℕ). coded_as d b x) g

abbrev Runs : Bitmap → Coded → ℕ → Type 0
Runs r c f = (c.dyn_f ≡ f) × (c.first_black ≡ first_colour (pixel_rows r)) × HoldNybbles c.bytes (items_text f (written_runs (pixel_rows r))) × (length c.bytes ≡ run_bytes r f)

abbrev Plain : Bitmap → Coded → Type 0
Plain r c = (c.dyn_f ≡ 14) × (c.first_black ≡ false) × (c.bytes ≡ plain_bytes r)

abbrev are_shorter : Bitmap → ℕ → Bool
are_shorter r f = nat_le (run_bytes r f) (plain_size r)

of_runs : (b : Bool) (P Q : Type 0) → b ≡ true → MatchBool b P Q → P
of_runs b P Q e = subst (λ (x : Bool). MatchBool x P Q) e

of_plain : (b : Bool) (P Q : Type 0) → b ≡ false → MatchBool b P Q → Q
of_plain b P Q e = subst (λ (x : Bool). MatchBool x P Q) e

by_choice : (r : Bitmap) (c : Coded) (f : ℕ) → MatchBool (are_shorter r f) (Runs r c f) (Plain r c) → c ≡ (if are_shorter r f then by_runs f r else by_bitmap r)
by_choice r c f m = elim (cases_Bool (are_shorter r f)) [
  | inl runs ↦
      let m : Runs r c f = of_runs (are_shorter r f) (Runs r c f) (Plain r c) runs m in
      rw runs (same_coded c f (first_colour (pixel_rows r)) (joined (items_text f (written_runs (pixel_rows r)))) m.0 m.1 (held_joined c.bytes _ m.2))
  | inr plain ↦
      let m : Plain r c = of_plain (are_shorter r f) (Runs r c f) (Plain r c) plain m in
      rw plain (same_coded c 14 false (plain_bytes r) m.0 m.1 m.2)
]

pub chosen_rasters_are_packed : ChosenRastersArePacked
unfolding packed
chosen_rasters_are_packed r c chosen =
    let f = chosen.0 in
    let s = shortest_up_to 13 (length_of r) in
    let same : f ≡ s = one_least (length_of r) f s chosen.1 (least_chosen 13 (length_of r)) in
    by_choice r c f chosen.2 ∙ ap (λ (k : ℕ). if are_shorter r k then by_runs k r else by_bitmap r) same

-- ---- the fewest bytes

ceil_up : (a b : ℕ) → a ≤ b → div_ceil a 2 ≤ div_ceil b 2
ceil_up a b h = omega (arith, h)

length_by_runs : (r : Bitmap) (f : ℕ) → length (by_runs f r).bytes ≡ run_bytes r f
unfolding text_length
length_by_runs r f = length-joined (items_text f (written_runs (pixel_rows r)))

fewest : (r : Bitmap) (f : ℕ) → IsLeast 13 (length_of r) f → AreFewest r (length (if are_shorter r f then by_runs f r else by_bitmap r).bytes)
fewest r f least = elim (cases_Bool (are_shorter r f)) [
  | inl runs ↦
      let few : run_bytes r f ≤ plain_size r = leb-true _ _ runs in
      rw runs (record {
        runs = λ g form. omega (arith, length_by_runs r f, ceil_up (length_of r f) (length_of r g) (least.least g form));
        plain = omega (arith, length_by_runs r f, few);
      })
  | inr plain ↦
      let many : plain_size r < run_bytes r f = leb-false _ _ plain in
      rw plain (record {
        runs = λ g form. omega (arith, length_of_bytes r, many, ceil_up (length_of r f) (length_of r g) (least.least g form));
        plain = omega (arith, length_of_bytes r);
      })
]

pub packed_rasters_are_shortest : PackedRastersAreShortest
unfolding packed
packed_rasters_are_shortest r = fewest r (shortest_up_to 13 (length_of r)) (least_chosen 13 (length_of r))

-- ---- a reader finds the raster

pub bitmap_stands : (r : Bitmap) → IsShaped r → (bytes : List ℕ) → bytes ≡ plain_bytes r → StandsFor (record { dyn_f = 14; first_black = false; bytes = bytes }) r
bitmap_stands r shaped bytes e = record {
  dyn_f = omega arith;
  few = omega (arith, ap length e, length_of_bytes r);
  raster = subst (λ (t : List ℕ). IsRaster t 14 false r.width r.height r) (sym e) (by_pixels (plain_bytes r) 14 false r shaped (raster_again r false));
}

small_form : (r : Bitmap) (c : Coded) (f : ℕ) → f ≤ 13 → MatchBool (are_shorter r f) (Runs r c f) (Plain r c) → c.dyn_f ≤ 14
small_form r c f few m = elim (cases_Bool (are_shorter r f)) [
  | inl runs ↦ let m : Runs r c f = of_runs (are_shorter r f) (Runs r c f) (Plain r c) runs m in omega (arith, m.0, few)
  | inr plain ↦ let m : Plain r c = of_plain (are_shorter r f) (Runs r c f) (Plain r c) plain m in omega (arith, m.0)
]

pub packed_stands : (r : Bitmap) (c : Coded) → IsRaster c.bytes c.dyn_f c.first_black r.width r.height r → IsChosen r c.dyn_f c.first_black c.bytes → AreFewest r (length c.bytes) → StandsFor c r
packed_stands r c raster chosen fewest = record { dyn_f = small_form r c chosen.0 chosen.1.form chosen.2; few = fewest.plain; raster = raster }
