-- One item more is read and painted, or none can be.
use Rattle.std.proofs.Common.{◌≡◌, ℕ, ◌+◌, ◌-◌, ◌*◌, ◌/◌, ◌%◌, ◌^◌, ◌<◌, ◌≤◌, ◌⊎◌, inl, inr, Bool, true, false, not, eqb, List, [], ◌∷◌, ◌++◌, length, replicate, min, refl, sym, ap, subst, ◌∙◌, arith, append_assoc, length-append}
use Rattle.std.specs.Prelude.{IsTrue}
use Rattle.std.proofs.lemmas.Bool.{cases_lt, cond-true, cond-false, eq-eqb, ne_eqb, or_left, or_from, eqb-true, eqb-false}
use Rattle.std.proofs.lemmas.List.{length-replicate}
use Rattle.std.proofs.lemmas.Nat.{div-mul-add, mod-mul-add, mul-le}
use Rattle.pk_runs.specs.Numbers.{nybbles_of, Item, Run, Repeat, SpellsNumber, IsRepeatMark}
use Rattle.pk_runs.specs.Raster.{pixel_count, colour_after, pixels, next_row, has_repeat, copies, count_with_copies, rows_complete, pixels_left, CantGoOn, IsStuck}
use Rattle.pk_runs.specs.Painting.{painted, IsDrawn}
use Rattle.pk_runs.specs.Reading.{IsItemRead, CantRead, IsPaintedTo}
use Rattle.pk_runs.specs.declared.faults.RunFault.{RunFault}
use Rattle.pk_runs.specs.declared.faults.RunFault.TheVariants as fault
use Rattle.pk_runs.specs.declared.items.PackedNumber.TheVariants as read
use Rattle.pk_runs.specs.declared.painter.Painter.{Painter}
use Rattle.pk_runs.proofs.Drawn.{drawn_in_row, drawn_turned, drawn_repeat}

-- ---- items read

pub read_one : (dyn_f i : ℕ) (old rest : List ℕ) (repeated : Bool) → old ≡ i ∷ rest → i ≡ 15 → repeated ≡ false → IsItemRead dyn_f old rest repeated (read.Repeat 1)
read_one dyn_f i old rest repeated e f h = (h, 1, 15 ∷ [], e ∙ ap (λ k. k ∷ rest) f, inl (refl, refl), omega arith)

pub read_repeat : (dyn_f i j m : ℕ) (old middle late rest : List ℕ) (repeated : Bool) → old ≡ i ∷ middle → i < 16 → 14 ≤ i → (i ≡ 15 → ⊥) → repeated ≡ false → middle ≡ j ∷ late
    → ((n : ℕ) × (number : List ℕ) × (j ∷ late ≡ number ++ rest) × SpellsNumber dyn_f number n × (m ≡ min n (2 ^ 32 - 1))) → IsItemRead dyn_f old rest repeated (read.Repeat m)
read_repeat dyn_f i j m old middle late rest repeated e small large other h f r =
    let mark : i ≡ 14 = omega (arith, small, large, other) in
    (h, r.0, 14 ∷ r.1, e ∙ ap (λ k. k ∷ middle) mark ∙ ap (λ l. 14 ∷ l) (f ∙ r.2), inr (r.1, refl, r.3), r.4)

pub second_mark : (dyn_f i j row : ℕ) (old middle late : List ℕ) (repeated : Bool) → old ≡ i ∷ middle → i < 16 → 14 ≤ i → (i ≡ 15 → ⊥) → middle ≡ j ∷ late → j < 16 → 14 ≤ j
    → CantRead dyn_f old row repeated (fault.SecondRepeat row)
second_mark dyn_f i j row old middle late repeated e small large other f fits high =
    let mark : i ≡ 14 = omega (arith, small, large, other) in
    (refl, inr (j, late, e ∙ ap (λ k. k ∷ middle) mark ∙ ap (λ l. 14 ∷ l) f, marked j fits high))
  where
    marked : (k : ℕ) → k < 16 → 14 ≤ k → IsRepeatMark k
    marked k a b = by (eqb k 14) refl
      where
        by : (t : Bool) → eqb k 14 ≡ t → IsRepeatMark k
        by true g = inl (eqb-true k 14 g)
        by false g = inr (omega (arith, a, b, eqb-false k 14 g))

-- ---- where the painter stands

pub length-pixels : (first : Bool) (items : List Item) → length (pixels first items) ≡ pixel_count items
length-pixels first [] = refl
length-pixels first (Run n ∷ before) =
    length-append (pixels first before) (replicate n (colour_after first before)) ∙ omega (arith, length-pixels first before, length-replicate n (colour_after first before))
length-pixels first (Repeat n ∷ before) = length-pixels first before

quotient : (n w q c : ℕ) → n ≡ q * w + c → c < w → n / w ≡ q
quotient n w q c e h = ap (λ k. k / w) e ∙ div-mul-add q w c h

remainder : (n w q c : ℕ) → n ≡ q * w + c → c < w → n % w ≡ c
remainder n w q c e h = ap (λ k. k % w) e ∙ mod-mul-add q w c h

pub at_next_row : (first : Bool) (items : List Item) (w h : ℕ) (p : Painter) → (d : IsDrawn (pixels first items) (copies w items) (has_repeat w items) w h p) → next_row w items ≡ d.whole
at_next_row first items w h p d = quotient (pixel_count items) w d.whole p.column (sym (length-pixels first items) ∙ d.len) d.inside

at_column : (first : Bool) (items : List Item) (w h : ℕ) (p : Painter) → IsDrawn (pixels first items) (copies w items) (has_repeat w items) w h p → pixel_count items % w ≡ p.column
at_column first items w h p d = remainder (pixel_count items) w d.whole p.column (sym (length-pixels first items) ∙ d.len) d.inside

pub at_row : (first : Bool) (items : List Item) (w h : ℕ) (p : Painter) → IsDrawn (pixels first items) (copies w items) (has_repeat w items) w h p → rows_complete w items ≡ p.row
at_row first items w h p d = ap (count_with_copies (copies w items)) (at_next_row first items w h p d) ∙ sym d.row

pub at_repeated : (first : Bool) (items : List Item) (w h : ℕ) (p : Painter) → IsDrawn (pixels first items) (copies w items) (has_repeat w items) w h p → has_repeat w items (next_row w items) ≡ p.repeated
at_repeated first items w h p d = ap (has_repeat w items) (at_next_row first items w h p d) ∙ sym d.repeated

at_copies : (first : Bool) (items : List Item) (w h : ℕ) (p : Painter) → IsDrawn (pixels first items) (copies w items) (has_repeat w items) w h p → copies w items (next_row w items) ≡ p.copies
at_copies first items w h p d = ap (copies w items) (at_next_row first items w h p d) ∙ sym d.copies

pub left_is : (first : Bool) (items : List Item) (w h : ℕ) (p : Painter) → IsDrawn (pixels first items) (copies w items) (has_repeat w items) w h p
    → pixels_left w h items ≡ (w - p.column) + w * (h - (p.row + 1 + p.copies))
left_is first items w h p d =
    ap (λ c. (w - c) + w * (h - (rows_complete w items + 1 + copies w items (next_row w items)))) (at_column first items w h p d)
    ∙ ap (λ r. (w - p.column) + w * (h - (r + 1 + copies w items (next_row w items)))) (at_row first items w h p d)
    ∙ ap (λ k. (w - p.column) + w * (h - (p.row + 1 + k))) (at_copies first items w h p d)

-- the room of a row and of those below it, without subtraction
pub times_rest : (w h k : ℕ) → k ≤ h → w * (h - k) + w * k ≡ w * h
times_rest w h k fit =
    let whole : h - k + k ≡ h = omega (arith, fit) in
    omega (arith, ap (λ z. w * z) whole)

pub room_is_enough : (n c w k r h : ℕ) → c < w → r + 1 + k ≤ h → n ≤ (w - c) + w * (h - (r + 1 + k)) → n + c + w * k + w * r ≤ w * h
room_is_enough n c w k r h inside fit small = omega (arith, small, inside, times_rest w h (r + 1 + k) fit)

pub room_is_small : (c w k r h : ℕ) → w ≤ 16384 → h ≤ 16384 → (w - c) + w * (h - (r + 1 + k)) < 2 ^ 32 - 1
room_is_small c w k r h narrow short = omega (arith, narrow, short, mul-le w (h - (r + 1 + k)) 16384 16384 narrow (omega (arith, short)))

-- where a test says so, there is room for n, or there isn't
pub no_room : (n room : ℕ) (b : Bool) → ((IsTrue b → n ≤ room) × (n ≤ room → IsTrue b)) → b ≡ false → room < n
no_room n room b e h = by (cases_lt room n)
  where
    by : (room < n) ⊎ (n ≤ room) → room < n
    by (inl below) = below
    by (inr fits) = let clash : ⊥ = cc (e.1 fits, h) in absurd clash

-- ---- steps

cant_go_on : (dyn_f w h row : ℕ) (items : List Item) (nybbles : List ℕ) (repeated : Bool) (f : RunFault) → rows_complete w items ≡ row → has_repeat w items (next_row w items) ≡ repeated
    → CantRead dyn_f nybbles row repeated f → CantGoOn dyn_f w h items nybbles f
cant_go_on dyn_f w h row items nybbles repeated fault.Short e g (inl cut) = inl cut
cant_go_on dyn_f w h row items nybbles repeated fault.Short e g (inr r) = inr (g ∙ r.0, r.1, r.2, r.3)
cant_go_on dyn_f w h row items nybbles repeated (fault.SecondRepeat k) e g r = (r.0 ∙ sym e, by r.1)
  where
    by : (((i : ℕ) × (more : List ℕ) × (nybbles ≡ i ∷ more) × IsRepeatMark i × IsTrue repeated) ⊎ ((i : ℕ) × (more : List ℕ) × (nybbles ≡ 14 ∷ i ∷ more) × IsRepeatMark i))
        → (((i : ℕ) × (more : List ℕ) × (nybbles ≡ i ∷ more) × IsRepeatMark i × IsTrue (has_repeat w items (next_row w items))) ⊎ ((i : ℕ) × (more : List ℕ) × (nybbles ≡ 14 ∷ i ∷ more) × IsRepeatMark i))
    by (inl s) = inl (s.0, s.1, s.2, s.3, g ∙ s.4)
    by (inr s) = inr s
cant_go_on dyn_f w h row items nybbles repeated fault.Overrun e g r = absurd r
cant_go_on dyn_f w h row items nybbles repeated fault.TooManyRows e g r = absurd r

pub stuck_by : (bytes : List ℕ) (dyn_f : ℕ) (first : Bool) (w h : ℕ) (rest : List ℕ) (p : Painter) (f : RunFault) → p.row < h → (d : IsPaintedTo bytes dyn_f first w h rest p)
    → CantGoOn dyn_f w h d.items rest f → IsStuck bytes dyn_f w h f
stuck_by bytes dyn_f first w h rest p f low d because = record {
  items = d.items;
  used = d.used;
  rest = rest;
  nybbles = d.nybbles;
  spelled = d.spelled;
  fits = d.fits;
  incomplete = omega (arith, low, at_row first d.items w h p d.drawn);
  because = because;
}

pub cant_read : (bytes : List ℕ) (dyn_f : ℕ) (first : Bool) (w h : ℕ) (rest : List ℕ) (p : Painter) (f : RunFault) → p.row < h → IsPaintedTo bytes dyn_f first w h rest p
    → CantRead dyn_f rest p.row p.repeated f → IsStuck bytes dyn_f w h f
cant_read bytes dyn_f first w h rest p f low d r =
    stuck_by bytes dyn_f first w h rest p f low d (cant_go_on dyn_f w h p.row d.items rest p.repeated f (at_row first d.items w h p d.drawn) (at_repeated first d.items w h p d.drawn) r)

-- the code asks the painter for its row, and whether that has a repeat count
pub cant_read_at : (bytes : List ℕ) (dyn_f : ℕ) (first : Bool) (w h row : ℕ) (repeated : Bool) (rest : List ℕ) (p : Painter) (f : RunFault) → row ≡ p.row → repeated ≡ p.repeated → p.row < h
    → IsPaintedTo bytes dyn_f first w h rest p → CantRead dyn_f rest row repeated f → IsStuck bytes dyn_f w h f
cant_read_at bytes dyn_f first w h row repeated rest p f e g low d r =
    cant_read bytes dyn_f first w h rest p f low d (subst (λ (n : ℕ). CantRead dyn_f rest n p.repeated f) e (subst (λ (b : Bool). CantRead dyn_f rest row b f) g r))

pub run_too_long : (bytes : List ℕ) (dyn_f : ℕ) (first : Bool) (w h m : ℕ) (old rest : List ℕ) (p : Painter) → p.row < h → (w - p.column) + w * (h - (p.row + 1 + p.copies)) < m
    → IsItemRead dyn_f old rest p.repeated (read.Run m) → IsPaintedTo bytes dyn_f first w h old p → IsStuck bytes dyn_f w h fault.Overrun
run_too_long bytes dyn_f first w h m old rest p low long r d =
    stuck_by bytes dyn_f first w h old p fault.Overrun low d (r.0, r.1, rest, r.2, r.3, omega (arith, long, r.4, left_is first d.items w h p d.drawn))

pub too_many_rows : (bytes : List ℕ) (dyn_f : ℕ) (first : Bool) (w h m : ℕ) (old rest : List ℕ) (p : Painter) → p.row < h → h - p.row - 1 < m
    → IsItemRead dyn_f old rest p.repeated (read.Repeat m) → IsPaintedTo bytes dyn_f first w h old p → IsStuck bytes dyn_f w h fault.TooManyRows
too_many_rows bytes dyn_f first w h m old rest p low many r d =
    stuck_by bytes dyn_f first w h old p fault.TooManyRows low d
    (r.1, r.2, rest, r.3, r.4, at_repeated first d.items w h p d.drawn ∙ r.0, omega (arith, many, low, r.5, at_row first d.items w h p d.drawn))

grown_by : (whole used old number rest : List ℕ) → whole ≡ used ++ old → old ≡ number ++ rest → whole ≡ (used ++ number) ++ rest
grown_by whole used old number rest e f = e ∙ ap (λ l. used ++ l) f ∙ sym (append_assoc used number rest)

pub ran : (bytes : List ℕ) (dyn_f : ℕ) (first : Bool) (w h m : ℕ) (old rest : List ℕ) (p next : Painter) → p.row < h → w ≤ 16384 → h ≤ 16384 → m ≤ (w - p.column) + w * (h - (p.row + 1 + p.copies))
    → IsItemRead dyn_f old rest p.repeated (read.Run m) → next.black ≡ not p.black
    → ((ps : List Bool) (rep : ℕ → ℕ) (mark : ℕ → Bool) → IsDrawn ps rep mark w h p → IsDrawn (ps ++ replicate m p.black) rep mark w h next)
    → IsPaintedTo bytes dyn_f first w h old p → IsPaintedTo bytes dyn_f first w h rest next
ran bytes dyn_f first w h m old rest p next low narrow short small r turned drawn d = record {
  items = Run r.0 ∷ d.items;
  used = d.used ++ r.1;
  nybbles = grown_by (nybbles_of bytes) d.used old r.1 rest d.nybbles r.2;
  spelled = (d.used, r.1, refl, d.spelled, r.3);
  fits = (d.fits, omega (arith, low, at_row first d.items w h p d.drawn), omega (arith, exact, small, left_is first d.items w h p d.drawn));
  drawn = subst (λ (l : List Bool). IsDrawn l (copies w d.items) (has_repeat w d.items) w h next)
      (ap (λ k. pixels first d.items ++ replicate k p.black) exact ∙ ap (λ b. pixels first d.items ++ replicate r.0 b) d.colour)
      (drawn (pixels first d.items) (copies w d.items) (has_repeat w d.items) d.drawn);
  colour = turned ∙ ap not d.colour;
}
  where
    exact : m ≡ r.0
    exact = omega (arith, r.4, small, room_is_small p.column w p.copies p.row h narrow short)

-- a run that ends within the row
pub ran_within : (bytes : List ℕ) (dyn_f : ℕ) (first : Bool) (w h m : ℕ) (old rest : List ℕ) (p next : Painter) → p.row < h → w ≤ 16384 → h ≤ 16384 → m < w - p.column
    → IsItemRead dyn_f old rest p.repeated (read.Run m) → next ≡ record (painted p m) { black = not p.black } → IsPaintedTo bytes dyn_f first w h old p → IsPaintedTo bytes dyn_f first w h rest next
ran_within bytes dyn_f first w h m old rest p next low narrow short within r is d =
    ran bytes dyn_f first w h m old rest p next low narrow short (omega (arith, within)) r (ap (λ (q : Painter). q.black) is)
    (λ ps rep mark e. subst (λ (q : Painter). IsDrawn (ps ++ replicate m p.black) rep mark w h q) (sym is)
    (drawn_turned (ps ++ replicate m p.black) rep mark w h (painted p m) (not p.black) (drawn_in_row ps rep mark w h m p (omega (arith, within)) e))) d

pub repeated_by : (bytes : List ℕ) (dyn_f : ℕ) (first : Bool) (w h m : ℕ) (old rest : List ℕ) (p : Painter) → p.row < h → h ≤ 16384 → m ≤ h - p.row - 1
    → IsItemRead dyn_f old rest p.repeated (read.Repeat m) → IsPaintedTo bytes dyn_f first w h old p → IsPaintedTo bytes dyn_f first w h rest (record p { copies = m; repeated = true })
repeated_by bytes dyn_f first w h m old rest p low short small r d = record {
  items = Repeat r.1 ∷ d.items;
  used = d.used ++ r.2;
  nybbles = grown_by (nybbles_of bytes) d.used old r.2 rest d.nybbles r.3;
  spelled = (d.used, r.2, refl, d.spelled, r.4);
  fits = (d.fits, omega (arith, low, at_row first d.items w h p d.drawn), (at_repeated first d.items w h p d.drawn ∙ r.0, omega (arith, exact, small, low, at_row first d.items w h p d.drawn)));
  drawn = drawn_repeat (pixels first d.items) (copies w d.items) (copies w (Repeat r.1 ∷ d.items)) (has_repeat w d.items) (has_repeat w (Repeat r.1 ∷ d.items)) w h m p d.drawn
      (cond-true (eqb (next_row w d.items) d.drawn.whole) r.1 (copies w d.items d.drawn.whole) (eq-eqb (next_row w d.items) d.drawn.whole place) ∙ sym exact)
      (or_left (eqb (next_row w d.items) d.drawn.whole) (has_repeat w d.items d.drawn.whole) (eq-eqb (next_row w d.items) d.drawn.whole place))
      (λ k above. sym (cond-false (eqb (next_row w d.items) k) r.1 (copies w d.items k) (ne_eqb (next_row w d.items) k (λ e. absurd (omega (arith, e, above, place))))))
      (λ k below. (
        cond-false (eqb (next_row w d.items) k) r.1 (copies w d.items k) (ne_eqb (next_row w d.items) k (λ e. absurd (omega (arith, e, below, place)))) ∙ (d.drawn.none_after k below).0,
        or_from (eqb (next_row w d.items) k) (has_repeat w d.items k) (ne_eqb (next_row w d.items) k (λ e. absurd (omega (arith, e, below, place)))) (d.drawn.none_after k below).1,
      ));
  colour = d.colour;
}
  where
    place : next_row w d.items ≡ d.drawn.whole
    place = at_next_row first d.items w h p d.drawn

    exact : m ≡ r.1
    exact = omega (arith, r.5, small, short)
