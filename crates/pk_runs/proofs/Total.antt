-- Bytes stand for a raster, or have a fault.
use Rattle.std.proofs.Common.{◌≡◌, ℕ, zero, suc, ◌+◌, ◌-◌, ◌*◌, ◌/◌, ◌%◌, ◌^◌, ◌<◌, ◌≤◌, ◌⊎◌, inl, inr, Bool, true, false, eqb, List, [], ◌∷◌, ◌++◌, length, replicate, min, refl, sym, ap, subst, ◌∙◌, arith, append_assoc, length-append}
use Rattle.std.specs.List.{AllByRecursion}
use Rattle.std.specs.Prelude.{◌==◌}
use Rattle.std.specs.Bool.{MatchBool}
use Rattle.std.proofs.lemmas.Bool.{true≢false, cases_Bool, cases_lt, cases_eq, cond-true, cond-false, ne_eqb, eq-eqb, or_left, or_right}
use Rattle.std.proofs.Math.Nat.{mul-le-mul_left, mod-lt, div-le_self}
use Rattle.std.proofs.lemmas.Nat.{div-add-mod', le-div}
use Rattle.packed_rows.specs.Bitmap.{Bitmap}
use Rattle.pk_runs.specs.Numbers.{nybbles_of, hex_of, Item, Run, Repeat, SpellsNumber, SpellsItem, SpellsItems, CutsNumber, IsRepeatMark}
use Rattle.pk_runs.specs.Raster.{pixel_count, next_row, has_repeat, copies, count_with_copies, rows_complete, rows_of, pixels_left, CanAdd, ItemsFit, CantGoOn, IsRunRaster, IsPlainRaster, IsRaster, IsRunFault, IsStuck, is_empty, plain_rows, HasRows, BytesHaveARasterOrAFault}
use Rattle.pk_runs.specs.declared.faults.RunFault.{RunFault}
use Rattle.pk_runs.specs.declared.faults.RunFault.TheVariants as fault
use Rattle.pk_runs.proofs.Apart.{number_head, repeat_head}
use Rattle.pk_runs.proofs.Hex.{cut_in_zeros, cut_in_digits, long_is_whole, one_nybble, two_nybbles}

-- ---- nybbles

abbrev pub AreNybbles : List ℕ → Type 0
AreNybbles [] = Unit {0}
AreNybbles (i ∷ x) = (i < 16) × AreNybbles x

abbrev AreBytes : List ℕ → Type 0
AreBytes x = AllByRecursion (λ b. b < 256) x

nybbles_are_small : (bytes : List ℕ) → AreBytes bytes → AreNybbles (nybbles_of bytes)
nybbles_are_small [] h = tt
nybbles_are_small (b ∷ bytes) h = (omega (arith, h.0), (omega arith, nybbles_are_small bytes h.1))

rest_are_nybbles : (prefix rest : List ℕ) → AreNybbles (prefix ++ rest) → AreNybbles rest
rest_are_nybbles [] rest h = h
rest_are_nybbles (i ∷ prefix) rest h = rest_are_nybbles prefix rest h.1

-- ---- numbers

-- a number stands first
abbrev pub Found : ℕ → List ℕ → Type 0
Found d x = (n : ℕ) × (number : List ℕ) × (rest : List ℕ) × (x ≡ number ++ rest) × SpellsNumber d number n

zeros_then : (x : List ℕ) → ((k : ℕ) × (x ≡ replicate k 0)) ⊎ ((k : ℕ) × (i : ℕ) × (rest : List ℕ) × (x ≡ replicate k 0 ++ i ∷ rest) × (1 ≤ i))
zeros_then [] = inl (0, refl)
zeros_then (zero ∷ x) = elim (zeros_then x) [
  | inl z ↦ inl (suc z.0, ap (λ l. 0 ∷ l) z.1)
  | inr z ↦ inr (suc z.0, z.1, z.2, ap (λ l. 0 ∷ l) z.3, z.4)
]
zeros_then (suc i ∷ x) = inr (0, suc i, x, refl, omega arith)

digits_then : (n : ℕ) (x : List ℕ) → (length x < n) ⊎ ((a : List ℕ) × (rest : List ℕ) × (length a ≡ n) × (x ≡ a ++ rest))
digits_then zero x = inr ([], x, refl, refl)
digits_then (suc n) [] = inl (omega arith)
digits_then (suc n) (i ∷ x) = elim (digits_then n x) [
  | inl s ↦ inl (omega (arith, s))
  | inr s ↦ inr (i ∷ s.0, s.1, ap suc s.2, ap (λ l. i ∷ l) s.3)
]

long_then : (d : ℕ) (x : List ℕ) → d ≤ 13 → CutsNumber d (0 ∷ x) ⊎ Found d (0 ∷ x)
long_then d x small = elim (zeros_then x) [
  | inl z ↦ inl (cut_in_zeros d z.0 x z.1)
  | inr z ↦ elim (digits_then (z.0 + 1) z.2) [
    | inl s ↦ inl (cut_in_digits d z.0 z.1 x z.2 z.4 z.3 s)
    | inr s ↦
        let p = long_is_whole d z.0 z.1 (min (hex_of (z.1 ∷ s.0)) (2 ^ 40)) x z.2 s.1 s.0 small z.4 z.3 s.2 s.3 refl in
        inr (p.0, p.1, s.1, p.2, p.3)
  ]
]

two_then : (d i : ℕ) (x : List ℕ) → d ≤ 13 → d < i → i ≤ 13 → AreNybbles x → CutsNumber d (i ∷ x) ⊎ Found d (i ∷ x)
two_then d i [] small high low fits = inl (inr (inl (i, refl, high, low)))
two_then d i (j ∷ x) small high low fits =
    let p = two_nybbles d i j ((i - d - 1) * 16 + j + d + 1) (j ∷ x) x small high low refl fits.0 refl in
    inr (p.0, p.1, x, p.2, p.3)

number_then : (d i : ℕ) (x : List ℕ) → d ≤ 13 → i ≤ 13 → AreNybbles x → CutsNumber d (i ∷ x) ⊎ Found d (i ∷ x)
number_then d zero x small low fits = long_then d x small
number_then d (suc i) x small low fits = elim (cases_lt d (suc i)) [
  | inl high ↦ two_then d (suc i) x small high low fits
  | inr le ↦ let p = one_nybble d (suc i) x small (omega arith) le in inr (p.0, p.1, x, p.2, p.3)
]

-- ---- the next item, or a fault

marked : (i : ℕ) → i < 16 → 14 ≤ i → IsRepeatMark i
marked i few high = elim (cases_eq i 14) [
  | inl e ↦ inl e
  | inr other ↦ inr (omega (arith, few, high, other))
]

module _ (d w h : ℕ) (items : List Item) where
  abbrev CanStep : List ℕ → Type 0
  CanStep x = (q : Item) × (prefix : List ℕ) × (rest : List ℕ) × (x ≡ prefix ++ rest) × SpellsItem d prefix q × CanAdd w h items q

  abbrev CantStep : List ℕ → Type 0
  CantStep x = (f : RunFault) × CantGoOn d w h items x f

  run_then : (x : List ℕ) → CutsNumber d x ⊎ Found d x → CanStep x ⊎ CantStep x
  run_then x (inl cut) = inr (fault.Short, inl cut)
  run_then x (inr p) = elim (cases_lt (pixels_left w h items) p.0) [
    | inl long ↦ inr (fault.Overrun, (p.0, p.1, p.2, p.3, p.4, long))
    | inr fits ↦ inl (Run p.0, p.1, p.2, p.3, p.4, fits)
  ]

  repeat_then : (n : ℕ) (x prefix rest : List ℕ) → x ≡ prefix ++ rest → SpellsItem d prefix (Repeat n) → has_repeat w items (next_row w items) ≡ false → CanStep x ⊎ CantStep x
  repeat_then n x prefix rest e spelled first = elim (cases_lt h (rows_complete w items + 1 + n)) [
    | inl many ↦ inr (fault.TooManyRows, (n, prefix, rest, e, spelled, first, many))
    | inr fits ↦ inl (Repeat n, prefix, rest, e, spelled, (first, fits))
  ]

  fourteen_then : (x : List ℕ) → d ≤ 13 → AreNybbles x → has_repeat w items (next_row w items) ≡ false → CanStep (14 ∷ x) ⊎ CantStep (14 ∷ x)
  fourteen_then [] small few first = inr (fault.Short, inr (first, [], refl, inl refl))
  fourteen_then (j ∷ x) small few first = elim (cases_lt j 14) [
    | inl low ↦ elim (number_then d j x small (omega (arith, low)) few.1) [
      | inl cut ↦ inr (fault.Short, inr (first, j ∷ x, refl, cut))
      | inr p ↦ repeat_then p.0 (14 ∷ j ∷ x) (14 ∷ p.1) p.2 (ap (λ l. 14 ∷ l) p.3) (inr (p.1, refl, p.4)) first
    ]
    | inr high ↦ inr (fault.SecondRepeat (rows_complete w items), (refl, inr (j, x, refl, marked j few.0 high)))
  ]

  mark_then : (i : ℕ) (x : List ℕ) → d ≤ 13 → i < 16 → 14 ≤ i → AreNybbles x → has_repeat w items (next_row w items) ≡ false → CanStep (i ∷ x) ⊎ CantStep (i ∷ x)
  mark_then i x small few high more first = elim (cases_eq i 14) [
    | inl e ↦ subst (λ (k : ℕ). CanStep (k ∷ x) ⊎ CantStep (k ∷ x)) (sym e) (fourteen_then x small more first)
    | inr other ↦
        let e : i ≡ 15 = omega (arith, few, high, other) in
        subst (λ (k : ℕ). CanStep (k ∷ x) ⊎ CantStep (k ∷ x)) (sym e) (repeat_then 1 (15 ∷ x) (15 ∷ []) x refl (inl (refl, refl)) first)
  ]

  next_then : (x : List ℕ) → d ≤ 13 → AreNybbles x → CanStep x ⊎ CantStep x
  next_then [] small few = inr (fault.Short, inl (inl refl))
  next_then (i ∷ x) small few = elim (cases_lt i 14) [
    | inl low ↦ run_then (i ∷ x) (number_then d i x small (omega (arith, low)) few.1)
    | inr high ↦ elim (cases_Bool (has_repeat w items (next_row w items))) [
      | inl second ↦ inr (fault.SecondRepeat (rows_complete w items), (refl, inl (i, x, refl, marked i few.0 high, second)))
      | inr first ↦ mark_then i x small few.0 high few.1 first
    ]
  ]

-- ---- no item leads below the last row

count_to : (rep : ℕ → ℕ) (a b : ℕ) → a ≤ b → count_with_copies rep a ≤ count_with_copies rep b
count_to rep a zero h = let e : a ≡ 0 = omega (arith, h) in omega (arith, ap (count_with_copies rep) e)
count_to rep a (suc b) h = elim (cases_lt b a) [
  | inl high ↦ let e : a ≡ suc b = omega (arith, h, high) in omega (arith, ap (count_with_copies rep) e)
  | inr low ↦ omega (arith, count_to rep a b low)
]

count_same : (rep other : ℕ → ℕ) (n : ℕ) → ((r : ℕ) → r < n → rep r ≡ other r) → count_with_copies rep n ≡ count_with_copies other n
count_same rep other zero h = refl
count_same rep other (suc n) h = omega (arith, count_same rep other n (λ r l. h r (omega (arith, l))), h n (omega arith))

-- rows after q have no copies
count_after : (rep : ℕ → ℕ) (q z : ℕ) → q < z → ((r : ℕ) → q < r → rep r ≡ 0) → count_with_copies rep z ≡ count_with_copies rep q + rep q + (z - q)
count_after rep q zero h none = absurd (omega (arith, h))
count_after rep q (suc z) h none = elim (cases_lt q z) [
  | inl low ↦ omega (arith, count_after rep q z low none, none z low, low)
  | inr high ↦
      let e : q ≡ z = omega (arith, h, high) in
      omega (arith, ap (count_with_copies rep) e, ap rep e, e)
]

pub record IsInside (w h : ℕ) (items : List Item) : Type 0 where
  pub low : rows_complete w items ≤ h
  pub fit : rows_complete w items < h → rows_complete w items + 1 + copies w items (next_row w items) ≤ h
  pub none : (r : ℕ) → next_row w items < r → copies w items r ≡ 0

div_up : (a n w : ℕ) → 1 ≤ w → a / w ≤ (a + n) / w
div_up a n w some = le-div (a / w) (a + n) w some (omega (arith, div-add-mod' a w))

-- how far a run leads
div_far : (a n w k : ℕ) → 1 ≤ w → n ≤ (w - a % w) + w * k → (a + n) / w ≤ a / w + 1 + k
div_far a n w k some fits = elim (cases_lt (a / w + 1 + k) ((a + n) / w)) [
  | inr low ↦ low
  | inl high ↦
      let up : w * (a / w + 1 + k + 1) ≤ w * ((a + n) / w) = mul-le-mul_left w (omega (arith, high)) in
      let m : a % w < w = mod-lt a some in
      absurd (omega (arith, up, m, fits, div-add-mod' a w, div-add-mod' (a + n) w))
]

inside_run : (w h n : ℕ) (items : List Item) → 1 ≤ w → rows_complete w items < h → n ≤ pixels_left w h items → IsInside w h items → IsInside w h (Run n ∷ items)
inside_run w h n items some before fits i = record { low = low; fit = fit; none = λ r above. i.none r (omega (arith, above, up)) }
  where
    rep : ℕ → ℕ
    rep = copies w items

    q : ℕ
    q = next_row w items

    next : ℕ
    next = next_row w (Run n ∷ items)

    up : q ≤ next
    up = div_up (pixel_count items) n w some

    far : next ≤ q + 1 + (h - (rows_complete w items + 1 + rep q))
    far = div_far (pixel_count items) n w (h - (rows_complete w items + 1 + rep q)) some fits

    same : (m : ℕ) → count_with_copies (copies w (Run n ∷ items)) m ≡ count_with_copies rep m
    same m = count_same (copies w (Run n ∷ items)) rep m (λ r l. refl)

    at : (q < next) ⊎ (next ≤ q) → (count_with_copies rep next ≤ h) × (count_with_copies rep next < h → count_with_copies rep next + 1 + rep next ≤ h)
    at (inl moved) =
        let e = count_after rep q next moved i.none in
        let z = i.none next moved in
        let room = i.fit before in
        (omega (arith, e, far, room), λ l. omega (arith, l, z))
    at (inr here) =
        let e : next ≡ q = omega (arith, up, here) in
        subst (λ (m : ℕ). (count_with_copies rep m ≤ h) × (count_with_copies rep m < h → count_with_copies rep m + 1 + rep m ≤ h)) (sym e) (i.low, i.fit)

    low : rows_complete w (Run n ∷ items) ≤ h
    low = omega (arith, same next, (at (cases_lt q next)).0)

    fit : rows_complete w (Run n ∷ items) < h → rows_complete w (Run n ∷ items) + 1 + copies w (Run n ∷ items) (next_row w (Run n ∷ items)) ≤ h
    fit l = omega (arith, same next, (at (cases_lt q next)).1 (omega (arith, l, same next)))

inside_repeat : (w h n : ℕ) (items : List Item) → rows_complete w items + 1 + n ≤ h → IsInside w h items → IsInside w h (Repeat n ∷ items)
inside_repeat w h n items fits i = record {
  low = omega (arith, same, i.low);
  fit = λ l. omega (arith, same, here, fits);
  none = λ r above. other r (λ e. absurd (omega (arith, e, above))) ∙ i.none r above;
}
  where
    q : ℕ
    q = next_row w items

    other : (r : ℕ) → (q ≡ r → ⊥) → copies w (Repeat n ∷ items) r ≡ copies w items r
    other r apart = cond-false (eqb q r) n (copies w items r) (ne_eqb q r apart)

    here : copies w (Repeat n ∷ items) q ≡ n
    here = cond-true (eqb q q) n (copies w items q) (eq-eqb q q refl)

    same : count_with_copies (copies w (Repeat n ∷ items)) q ≡ count_with_copies (copies w items) q
    same = count_same (copies w (Repeat n ∷ items)) (copies w items) q (λ r l. other r (λ e. absurd (omega (arith, e, l))))

inside_none : (w h : ℕ) → 1 ≤ w → 1 ≤ h → IsInside w h []
inside_none w h some high = record {
  low = omega (arith, ap (count_with_copies (copies w [])) start);
  fit = λ l. omega (arith, ap (count_with_copies (copies w [])) start, high);
  none = λ r above. refl;
}
  where
    start : 0 / w ≡ 0
    start = omega (arith, div-add-mod' 0 w, div-le_self 0 w)

inside : (w h : ℕ) (items : List Item) → 1 ≤ w → 1 ≤ h → ItemsFit w h items → IsInside w h items
inside w h [] some high fits = inside_none w h some high
inside w h (Run n ∷ items) some high fits = inside_run w h n items some fits.1 fits.2 (inside w h items some high fits.0)
inside w h (Repeat n ∷ items) some high fits = inside_repeat w h n items fits.2.1 (inside w h items some high fits.0)

-- ---- all items

item_is_some : (d : ℕ) (prefix : List ℕ) (q : Item) → d ≤ 13 → SpellsItem d prefix q → 1 ≤ length prefix
item_is_some d prefix (Run n) small s = let p = number_head d n prefix small s in omega (arith, ap length p.2)
item_is_some d prefix (Repeat n) small s = let p = repeat_head d n prefix s in omega (arith, ap length p.2)

pub runs_end : (fuel : ℕ) (bytes : List ℕ) (d w h : ℕ) (first : Bool) (items : List Item) (used x : List ℕ) → 1 ≤ w → 1 ≤ h → d ≤ 13 → AreNybbles x → nybbles_of bytes ≡ used ++ x
    → SpellsItems d used items → ItemsFit w h items → length x < fuel → ((rows : List (List Bool)) × IsRunRaster bytes d first w h rows) ⊎ ((f : RunFault) × IsStuck bytes d w h f)
runs_end zero bytes d w h first items used x some high small few e spelled fits short = absurd (omega (arith, short))
runs_end (suc fuel) bytes d w h first items used x some high small few e spelled fits short = elim (cases_lt (rows_complete w items) h) [
  | inr done ↦ inl (
    rows_of first w items,
    record {
      items = items;
      used = used;
      unused = x;
      nybbles = e;
      spelled = spelled;
      fits = fits;
      complete = omega (arith, done, (inside w h items some high fits).low);
      stand = refl;
    },
  )
  | inl below ↦ elim (next_then d w h items x small few) [
    | inr stop ↦ inr (
      stop.0,
      record {
        items = items;
        used = used;
        rest = x;
        nybbles = e;
        spelled = spelled;
        fits = fits;
        incomplete = below;
        because = stop.1;
      },
    )
    | inl step ↦
        runs_end fuel bytes d w h first (step.0 ∷ items) (used ++ step.1) step.2 some high small
        (rest_are_nybbles step.1 step.2 (subst AreNybbles step.3 few))
        (e ∙ ap (λ l. used ++ l) step.3 ∙ sym (append_assoc used step.1 step.2))
        (used, step.1, refl, spelled, step.4) (fits, below, step.5)
        (omega (arith, short, ap length step.3, length-append step.1 step.2, item_is_some d step.1 step.0 small step.4))
  ]
]

-- ---- with the plain form

abbrev sized : ℕ → ℕ → List (List Bool) → Bitmap
sized w h rows = record { width = w; height = h; rows = rows }

abbrev End : List ℕ → ℕ → Bool → ℕ → ℕ → Type 0
End bytes d first w h = ((raster : Bitmap) × IsRaster bytes d first w h raster) ⊎ ((f : RunFault) × IsRunFault bytes d w h f)

-- a raster that is not empty
some_rows : (bytes : List ℕ) (d w h : ℕ) (first : Bool) (rows : List (List Bool)) → is_empty w h ≡ false
    → MatchBool (d == 14) (IsPlainRaster bytes w h rows) (IsRunRaster bytes d first w h rows) → End bytes d first w h
some_rows bytes d w h first rows some made =
    inl (sized w h rows, subst (λ b. MatchBool b (HasRows w h (sized w h rows) (replicate h [])) ((r : List (List Bool)) × HasRows w h (sized w h rows) r × MatchBool (d == 14) (IsPlainRaster bytes w h r) (IsRunRaster bytes d first w h r))) (sym some) (rows, refl, made))

plain_end : (bytes : List ℕ) (d w h : ℕ) (first : Bool) → is_empty w h ≡ false → (d == 14) ≡ true → End bytes d first w h
plain_end bytes d w h first some plain = elim (cases_lt (8 * length bytes) (w * h)) [
  | inl short ↦ inr (fault.Short, (some, subst (λ b. MatchBool b ((8 * length bytes < w * h) × (fault.Short ≡ fault.Short)) (IsStuck bytes d w h fault.Short)) (sym plain) (short, refl)))
  | inr enough ↦ some_rows bytes d w h first (plain_rows w h bytes) some
      (subst (λ b. MatchBool b (IsPlainRaster bytes w h (plain_rows w h bytes)) (IsRunRaster bytes d first w h (plain_rows w h bytes))) (sym plain) (enough, refl))
]

runs_then_end : (bytes : List ℕ) (d w h : ℕ) (first : Bool) → is_empty w h ≡ false → (d == 14) ≡ false → ((rows : List (List Bool)) × IsRunRaster bytes d first w h rows) ⊎ ((f : RunFault) × IsStuck bytes d w h f)
    → End bytes d first w h
runs_then_end bytes d w h first some runs (inl r) =
    some_rows bytes d w h first r.0 some (subst (λ b. MatchBool b (IsPlainRaster bytes w h r.0) (IsRunRaster bytes d first w h r.0)) (sym runs) r.1)
runs_then_end bytes d w h first some runs (inr f) =
    inr (f.0, (some, subst (λ b. MatchBool b ((8 * length bytes < w * h) × (f.0 ≡ fault.Short)) (IsStuck bytes d w h f.0)) (sym runs) f.1))

some_sides : (w h : ℕ) → is_empty w h ≡ false → (1 ≤ w) × (1 ≤ h)
some_sides w h e = (side w (λ z. absurd (true≢false (sym (or_left (w == 0) (h == 0) (eq-eqb w 0 z)) ∙ e))), side h (λ z. absurd (true≢false (sym (or_right (w == 0) (h == 0) (eq-eqb h 0 z)) ∙ e))))
  where
    side : (n : ℕ) → (n ≡ 0 → ⊥) → 1 ≤ n
    side zero some = absurd (some refl)
    side (suc n) some = omega arith

not_14 : (d : ℕ) → d ≤ 14 → (d == 14) ≡ false → d ≤ 13
not_14 d small other = elim (cases_eq d 14) [
  | inl e ↦ absurd (true≢false (sym (eq-eqb d 14 e) ∙ other))
  | inr e ↦ omega (arith, small, e)
]

pub bytes_have_a_raster_or_a_fault : BytesHaveARasterOrAFault
bytes_have_a_raster_or_a_fault bytes d w h first small few = elim (cases_Bool (is_empty w h)) [
  | inl empty ↦ inl (sized w h (replicate h []), subst (λ b. MatchBool b (HasRows w h (sized w h (replicate h [])) (replicate h [])) ((r : List (List Bool)) × HasRows w h (sized w h (replicate h [])) r × MatchBool (d == 14) (IsPlainRaster bytes w h r) (IsRunRaster bytes d first w h r))) (sym empty) refl)
  | inr some ↦ elim (cases_Bool (d == 14)) [
    | inl plain ↦ plain_end bytes d w h first some plain
    | inr runs ↦
        let sides = some_sides w h some in
        runs_then_end bytes d w h first some runs
        (runs_end (suc (length (nybbles_of bytes))) bytes d w h first [] [] (nybbles_of bytes) sides.0 sides.1 (not_14 d small runs) (nybbles_are_small bytes few) refl refl tt (omega arith))
  ]
]
