-- Bytes that stand for a raster have no fault, and bytes have at most one fault.
use Rattle.std.proofs.Common.{◌≡◌, ℕ, ◌≤◌, ◌⊎◌, Bool, false, List, [], ◌∷◌, ◌++◌, refl, sym, ap, subst, ◌∙◌, arith, inl, inr, append_assoc}
use Rattle.std.proofs.lemmas.Bool.{true≢false, cases_Bool, cases_eq, eq-eqb, MatchBool-at_true, MatchBool-at_false}
use Rattle.std.specs.Prelude.{◌==◌}
use Rattle.std.specs.Bool.{MatchBool}
use Rattle.packed_rows.specs.Bitmap.{Bitmap}
use Rattle.pk_runs.specs.Numbers.{Item, Run, Repeat, SpellsItem, SpellsItems}
use Rattle.pk_runs.specs.Raster.{ItemsFit, CanAdd, CantGoOn, IsPlainRaster, IsRunRaster, IsStuck, has_repeat, next_row, rows_complete, is_empty, RunRastersAreNeverStuck, RastersHaveNoFault, RunFaultsAreOne, RastersAreOne}
use Rattle.pk_runs.specs.declared.faults.RunFault.{RunFault}
use Rattle.pk_runs.specs.declared.faults.RunFault.TheVariants as fault
use Rattle.pk_runs.proofs.ListEnds.{split_last, cancelled}
use Rattle.pk_runs.proofs.Apart.{apart, repeats_alike, no_number_begins_another, one_text, spells_older, fits_older, Begins, items_agree, complete_is_last, run_rasters_are_one}
use Rattle.pk_runs.proofs.Cut.{short_no_run, short_no_repeat, short_no_second, second_no_run, second_no_repeat}

abbrev repeated : ℕ → List Item → Bool
repeated w items = has_repeat w items (next_row w items)

-- where an item can be added there is no fault
can_go_on : (d w h : ℕ) (items : List Item) (q : Item) (x a y : List ℕ) (f : RunFault) → d ≤ 13
    → CanAdd w h items q → SpellsItem d a q → x ≡ a ++ y → CantGoOn d w h items x f → ⊥
can_go_on d w h items (Run n) x a y fault.Short small can s e c = short_no_run d n (repeated w items) x a y small c s e
can_go_on d w h items (Run n) x a y (fault.SecondRepeat row) small can s e c = second_no_run d n (repeated w items) x a y small c.1 s e
can_go_on d w h items (Run n) x a y fault.TooManyRows small can s e c = apart d n c.0 a c.1 y c.2 small s c.4 (sym e ∙ c.3)
can_go_on d w h items (Run n) x a y fault.Overrun small can s e c =
    let r = no_number_begins_another d n c.0 a c.1 y c.2 s c.4 (sym e ∙ c.3) in
    absurd (omega (arith, r.1, can, c.5))
can_go_on d w h items (Repeat n) x a y fault.Short small can s e c = short_no_repeat d n (repeated w items) x a y small c s e
can_go_on d w h items (Repeat n) x a y (fault.SecondRepeat row) small can s e c = second_no_repeat d n (repeated w items) x a y small can.0 c.1 s e
can_go_on d w h items (Repeat n) x a y fault.TooManyRows small can s e c =
    let r = repeats_alike d n c.0 a c.1 y c.2 s c.4 (sym e ∙ c.3) in
    absurd (omega (arith, r.1, can.1, c.6))
can_go_on d w h items (Repeat n) x a y fault.Overrun small can s e c = apart d c.0 n c.1 a c.2 y small c.4 s (sym c.3 ∙ e)

-- the faults after the same items are one
one_there : (d w h : ℕ) (items : List Item) (x : List ℕ) (f g : RunFault) → d ≤ 13 → CantGoOn d w h items x f → CantGoOn d w h items x g → f ≡ g
one_there d w h items x fault.Short fault.Short small c e = refl
one_there d w h items x fault.Short (fault.SecondRepeat row) small c e = absurd (short_no_second d (repeated w items) x small c e.1)
one_there d w h items x fault.Short fault.TooManyRows small c e = absurd (short_no_repeat d e.0 (repeated w items) x e.1 e.2 small c e.4 e.3)
one_there d w h items x fault.Short fault.Overrun small c e = absurd (short_no_run d e.0 (repeated w items) x e.1 e.2 small c e.4 e.3)
one_there d w h items x (fault.SecondRepeat row) fault.Short small c e = absurd (short_no_second d (repeated w items) x small e c.1)
one_there d w h items x (fault.SecondRepeat row) (fault.SecondRepeat other) small c e = ap fault.SecondRepeat (c.0 ∙ sym e.0)
one_there d w h items x (fault.SecondRepeat row) fault.TooManyRows small c e = absurd (second_no_repeat d e.0 (repeated w items) x e.1 e.2 small e.5 c.1 e.4 e.3)
one_there d w h items x (fault.SecondRepeat row) fault.Overrun small c e = absurd (second_no_run d e.0 (repeated w items) x e.1 e.2 small c.1 e.4 e.3)
one_there d w h items x fault.TooManyRows fault.Short small c e = absurd (short_no_repeat d c.0 (repeated w items) x c.1 c.2 small e c.4 c.3)
one_there d w h items x fault.TooManyRows (fault.SecondRepeat row) small c e = absurd (second_no_repeat d c.0 (repeated w items) x c.1 c.2 small c.5 e.1 c.4 c.3)
one_there d w h items x fault.TooManyRows fault.TooManyRows small c e = refl
one_there d w h items x fault.TooManyRows fault.Overrun small c e = apart d e.0 c.0 e.1 c.1 e.2 c.2 small e.4 c.4 (sym e.3 ∙ c.3)
one_there d w h items x fault.Overrun fault.Short small c e = absurd (short_no_run d c.0 (repeated w items) x c.1 c.2 small e c.4 c.3)
one_there d w h items x fault.Overrun (fault.SecondRepeat row) small c e = absurd (second_no_run d c.0 (repeated w items) x c.1 c.2 small e.1 c.4 c.3)
one_there d w h items x fault.Overrun fault.TooManyRows small c e = apart d c.0 e.0 c.1 e.1 c.2 e.2 small c.4 e.4 (sym c.3 ∙ e.3)
one_there d w h items x fault.Overrun fault.Overrun small c e = refl

-- a longer list of items has a next item after the shorter one, and there is no fault there
no_fault_there : (d w h : ℕ) (short long newer : List Item) (n : Item) (u v x y : List ℕ) (f : RunFault) → d ≤ 13
    → SpellsItems d u short → SpellsItems d v long → ItemsFit w h long → long ≡ (n ∷ newer) ++ short → u ++ x ≡ v ++ y → CantGoOn d w h short x f → ⊥
no_fault_there d w h short long newer n u v x y f small s t fits e same c =
    let parts = split_last n newer in
    let j = parts.1 in
    let regrouped : long ≡ parts.0 ++ (j ∷ short) = e ∙ ap (λ l. l ++ short) parts.2 ∙ append_assoc parts.0 (j ∷ []) short in
    let fit : ItemsFit w h (j ∷ short) = fits_older w h parts.0 (j ∷ short) (subst (λ (l : List Item). ItemsFit w h l) regrouped fits) in
    let older = spells_older d parts.0 (j ∷ short) v (subst (λ (l : List Item). SpellsItems d v l) regrouped t) in
    let right : v ++ y ≡ older.2.0 ++ (older.2.1 ++ (older.1 ++ y)) =
    ap (λ l. l ++ y) older.3 ∙ append_assoc older.0 older.1 y ∙ ap (λ l. l ++ (older.1 ++ y)) older.2.2 ∙ append_assoc older.2.0 older.2.1 (older.1 ++ y) in
    let prefixes : u ≡ older.2.0 = one_text d short u older.2.0 x (older.2.1 ++ (older.1 ++ y)) small s older.2.3 (same ∙ right) in
    let next : x ≡ older.2.1 ++ (older.1 ++ y) = cancelled older.2.0 x _ (ap (λ l. l ++ x) (sym prefixes) ∙ same ∙ right) in
    can_go_on d w h short j x older.2.1 (older.1 ++ y) f small fit.2 older.2.4 next c

pub run_rasters_are_never_stuck : RunRastersAreNeverStuck
run_rasters_are_never_stuck bytes d w h first rows f small a b = by (items_agree d a.items b.items a.used b.used a.unused b.rest small a.spelled b.spelled same)
  where
    same : a.used ++ a.unused ≡ b.used ++ b.rest
    same = sym a.nybbles ∙ b.nybbles

    here : a.items ≡ b.items → ⊥
    here eq = absurd (omega (arith, ap (rows_complete w) eq, a.complete, b.incomplete))

    longer : (newer : List Item) → b.items ≡ newer ++ a.items → ⊥
    longer [] eq = here (sym eq)
    longer (n ∷ newer) eq = complete_is_last w h a.items b.items newer n a.complete b.fits eq

    shorter : (newer : List Item) → a.items ≡ newer ++ b.items → ⊥
    shorter [] eq = here eq
    shorter (n ∷ newer) eq = no_fault_there d w h b.items a.items newer n b.used a.used b.rest a.unused f small b.spelled a.spelled a.fits eq (sym same) b.because

    by : (Begins a.items b.items ⊎ Begins b.items a.items) → ⊥
    by (inl x) = longer x.0 x.1
    by (inr x) = shorter x.0 x.1

stuck_once : (bytes : List ℕ) (d w h : ℕ) (f g : RunFault) → d ≤ 13 → IsStuck bytes d w h f → IsStuck bytes d w h g → f ≡ g
stuck_once bytes d w h f g small a b = by (items_agree d a.items b.items a.used b.used a.rest b.rest small a.spelled b.spelled same)
  where
    same : a.used ++ a.rest ≡ b.used ++ b.rest
    same = sym a.nybbles ∙ b.nybbles

    here : a.items ≡ b.items → f ≡ g
    here eq =
        let spelled : SpellsItems d b.used a.items = subst (λ (l : List Item). SpellsItems d b.used l) (sym eq) b.spelled in
        let prefixes : a.used ≡ b.used = one_text d a.items a.used b.used a.rest b.rest small a.spelled spelled same in
        let rests : a.rest ≡ b.rest = cancelled b.used a.rest b.rest (ap (λ l. l ++ a.rest) (sym prefixes) ∙ same) in
        let moved : CantGoOn d w h a.items b.rest g = subst (λ (l : List Item). CantGoOn d w h l b.rest g) (sym eq) b.because in
        one_there d w h a.items a.rest f g small a.because (subst (λ (l : List ℕ). CantGoOn d w h a.items l g) (sym rests) moved)

    longer : (newer : List Item) → b.items ≡ newer ++ a.items → f ≡ g
    longer [] eq = here (sym eq)
    longer (n ∷ newer) eq = absurd (no_fault_there d w h a.items b.items newer n a.used b.used a.rest b.rest f small a.spelled b.spelled b.fits eq same a.because)

    shorter : (newer : List Item) → a.items ≡ newer ++ b.items → f ≡ g
    shorter [] eq = here eq
    shorter (n ∷ newer) eq = absurd (no_fault_there d w h b.items a.items newer n b.used a.used b.rest a.rest g small b.spelled a.spelled a.fits eq (sym same) b.because)

    by : (Begins a.items b.items ⊎ Begins b.items a.items) → f ≡ g
    by (inl x) = longer x.0 x.1
    by (inr x) = shorter x.0 x.1

-- ---- with the plain form

not_14 : (d : ℕ) → d ≤ 14 → (d == 14) ≡ false → d ≤ 13
not_14 d small other = by (cases_eq d 14)
  where
    by : (d ≡ 14) ⊎ (d ≡ 14 → ⊥) → d ≤ 13
    by (inl e) = absurd (true≢false (sym (eq-eqb d 14 e) ∙ other))
    by (inr e) = omega (arith, small, e)

pub rasters_have_no_fault : RastersHaveNoFault
rasters_have_no_fault bytes d w h first raster f small a b =
    let r = MatchBool-at_false _ _ b.0 a in
    elim (cases_Bool (d == 14)) [
      | inl plain ↦ let p = MatchBool-at_true _ _ plain r.2 in let q = MatchBool-at_true _ _ plain b.1 in absurd (omega (arith, p.0, q.0))
      | inr runs ↦ run_rasters_are_never_stuck bytes d w h first r.0 f (not_14 d small runs) (MatchBool-at_false _ _ runs r.2) (MatchBool-at_false _ _ runs b.1)
    ]

pub run_faults_are_one : RunFaultsAreOne
run_faults_are_one bytes d w h f g small a b = elim (cases_Bool (d == 14)) [
  | inl plain ↦ let p = MatchBool-at_true _ _ plain a.1 in let q = MatchBool-at_true _ _ plain b.1 in p.1 ∙ sym q.1
  | inr runs ↦ stuck_once bytes d w h f g (not_14 d small runs) (MatchBool-at_false _ _ runs a.1) (MatchBool-at_false _ _ runs b.1)
]

abbrev sized : ℕ → ℕ → List (List Bool) → Bitmap
sized w h rows = record { width = w; height = h; rows = rows }

same_rows : (bytes : List ℕ) (d w h : ℕ) (first : Bool) (r s : List (List Bool)) → d ≤ 14
    → MatchBool (d == 14) (IsPlainRaster bytes w h r) (IsRunRaster bytes d first w h r) → MatchBool (d == 14) (IsPlainRaster bytes w h s) (IsRunRaster bytes d first w h s) → r ≡ s
same_rows bytes d w h first r s small a b = elim (cases_Bool (d == 14)) [
  | inl plain ↦ let p = MatchBool-at_true _ _ plain a in let q = MatchBool-at_true _ _ plain b in p.1 ∙ sym q.1
  | inr runs ↦ run_rasters_are_one bytes d w h first r s (not_14 d small runs) (MatchBool-at_false _ _ runs a) (MatchBool-at_false _ _ runs b)
]

pub rasters_are_one : RastersAreOne
rasters_are_one bytes d w h first r s small a b = elim (cases_Bool (is_empty w h)) [
  | inl empty ↦ MatchBool-at_true _ _ empty a ∙ sym (MatchBool-at_true _ _ empty b)
  | inr some ↦
      let p = MatchBool-at_false _ _ some a in
      let q = MatchBool-at_false _ _ some b in
      p.1 ∙ ap (sized w h) (same_rows bytes d w h first p.0 q.0 small p.2 q.2) ∙ sym q.1
]
