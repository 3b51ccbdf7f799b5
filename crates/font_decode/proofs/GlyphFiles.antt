-- Files of glyphs: three PK files are looked for first, and then three GF files.
use Rattle.std.proofs.Common.{◌≡◌, ◌∙◌, ◌+◌, ◌≤◌, inl, inr, ℕ, zero, suc, Bool, true, false, List, [], ◌∷◌, ◌++◌, length, take, Option, Some, None, refl, sym, ap, subst, arith, append-nil}
use Rattle.std.specs.Prelude.{◌-◌, ◌^◌, ◌<◌, not, min, IfSome, is_none, is_some, if◌then◌else◌}
use Rattle.std.specs.FinMap.{get}
use Rattle.std.specs.Option.{option_map, option_or}
use Rattle.std.proofs.lemmas.Bool.{cases_Bool, cases_lt}
use Rattle.std.proofs.lemmas.List.{length-append, take-append-le}
use Rattle.std.proofs.Math.Seq.{take-append_seam}
use Rattle.outside.specs.Library as library
use Rattle.outside.specs.Library.{Asks, Names}
use Rattle.font_decode.specs.Asked.{AskedFirst, AskedUntil}
use Rattle.font_decode.specs.Files.{first_there, up_to_there}
use Rattle.font_decode.specs.Loads.{RoseBy, RoseUpTo, RoseWithin}
use Rattle.font_decode.proofs.Asking.{asked_none, first_later, some_of, until_later}

-- ---- names in two parts

-- the file is there in the first part
first_part : (x : List ℕ) (o rest : Option (List ℕ)) (names more : List (List ℕ)) → (is_some rest ≡ true → more ≡ names) → is_some (option_or o rest) ≡ true
    → (x ∷ (if is_some o then [] else more)) ≡ (x ∷ (if is_some o then [] else names))
first_part x None rest names more h e = ap (λ (t : List (List ℕ)). x ∷ t) (h e)
first_part x (Some v) rest names more h e = refl

up_to_first : (l : library.FileTable) (xs ys : List (List ℕ)) → is_some (first_there l xs) ≡ true → up_to_there l (xs ++ ys) ≡ up_to_there l xs
up_to_first l [] ys e = absurd (cc)
up_to_first l (x ∷ xs) ys e = first_part x (get l x) (first_there l xs) (up_to_there l xs) (up_to_there l (xs ++ ys)) (up_to_first l xs ys) e

-- it isn't
second_part : (x : List ℕ) (o rest : Option (List ℕ)) (names more after : List (List ℕ)) → (is_some rest ≡ false → more ≡ names ++ after) → is_some (option_or o rest) ≡ false
    → (x ∷ (if is_some o then [] else more)) ≡ (x ∷ (if is_some o then [] else names)) ++ after
second_part x None rest names more after h e = ap (λ (t : List (List ℕ)). x ∷ t) (h e)
second_part x (Some v) rest names more after h e = absurd (cc)

up_to_second : (l : library.FileTable) (xs ys : List (List ℕ)) → is_some (first_there l xs) ≡ false → up_to_there l (xs ++ ys) ≡ up_to_there l xs ++ up_to_there l ys
up_to_second l [] ys e = refl
up_to_second l (x ∷ xs) ys e = second_part x (get l x) (first_there l xs) (up_to_there l xs) (up_to_there l (xs ++ ys)) (up_to_there l ys) (up_to_second l xs ys) e

-- either way the names of the first part come first
begins : (l : library.FileTable) (xs ys : List (List ℕ)) → (more : List (List ℕ)) × (up_to_there l (xs ++ ys) ≡ up_to_there l xs ++ more)
begins l xs ys = elim (cases_Bool (is_some (first_there l xs))) [
  | inl there ↦ ([], up_to_first l xs ys there ∙ sym (append-nil (up_to_there l xs)))
  | inr gone ↦ (up_to_there l ys, up_to_second l xs ys gone)
]

-- ---- up to a stop among the names of the first part

take_past : (xs : List (List ℕ)) (n : ℕ) → length xs ≤ n → take n xs ≡ xs
take_past [] zero h = refl
take_past [] (suc n) h = refl
take_past (x ∷ xs) zero h = absurd (omega (arith, h))
take_past (x ∷ xs) (suc n) h = ap (λ (t : List (List ℕ)). x ∷ t) (take_past xs n (omega (arith, h)))

pub until_begins : (a b : Names) (xs ys : List (List ℕ)) → AskedUntil a b xs → AskedUntil a b (xs ++ ys)
until_begins a b xs ys q = elim q.asked [
  | inl asked ↦ elim (cases_lt q.count (length xs)) [
    | inl few ↦
        let fits : q.count ≤ length xs = omega (arith, few) in
        record { count = q.count; asked = inl (subst (Asks a b) (sym (take-append-le q.count xs ys fits)) asked) }
    | inr many ↦ record { count = length xs; asked = inl (subst (Asks a b) (take_past xs q.count many ∙ sym (take-append_seam xs ys)) asked) }
  ]
  | inr lost ↦ record { count = 0; asked = inr lost }
]

-- ---- both parts, where a resolution is in range

abbrev pub if_near : Bool → List (List ℕ) → List (List ℕ)
if_near near names = if near then names else []

at_near : (near : Bool) (names : List (List ℕ)) (P : List (List ℕ) → Type 0) → near ≡ true → P names → P (if_near near names)
at_near true names P e p = p
at_near false names P e p = absurd (cc)

-- what is so of the names near a resolution in range is so of those that may be looked for
pub known_near : (near : Bool) (names : List (List ℕ)) (known : Option library.FileTable) (P : library.FileTable → List (List ℕ) → Type 0) → near ≡ true
    → IfSome known (λ l. P l names) → IfSome known (λ l. P l (if_near near names))
known_near near names None P e p = tt
known_near near names (Some l) P e p = at_near near names (P l) e p

-- a GF file is found where no PK file is
pub not_looked_for : {V : Type 0} (seen : V → List ℕ) (o : Option V) (known : Option library.FileTable) (P : library.FileTable → Option (List ℕ)) → is_some o ≡ true
    → IfSome known (λ l. None ≡ (if is_none (option_map seen o) then P l else None))
not_looked_for seen o None P there = tt
not_looked_for seen None (Some l) P there = absurd (cc)
not_looked_for seen (Some v) (Some l) P there = refl

pub is_looked_for : {V : Type 0} (seen : V → List ℕ) (o gf : Option V) (known : Option library.FileTable) (P : library.FileTable → Option (List ℕ)) → is_some o ≡ false
    → IfSome known (λ l. option_map seen gf ≡ P l) → IfSome known (λ l. option_map seen gf ≡ (if is_none (option_map seen o) then P l else None))
is_looked_for seen o gf None P gone found = tt
is_looked_for seen None gf (Some l) P gone found = found
is_looked_for seen (Some v) gf (Some l) P gone found = absurd (cc)

module _ (near : Bool) (xs ys : List (List ℕ)) (e : near ≡ true) where
  pub stopped_first : (a b : Names) → AskedUntil a b xs → AskedUntil a b (if_near near (xs ++ ys))
  stopped_first a b q = at_near near (xs ++ ys) (AskedUntil a b) e (until_begins a b xs ys q)

  pub stopped_second : (a b c : Names) → Asks a b xs → AskedUntil b c ys → AskedUntil a c (if_near near (xs ++ ys))
  stopped_second a b c p q = at_near near (xs ++ ys) (AskedUntil a c) e (until_later a b c xs ys p q)

  -- a library is known
  pub known_begins : (known : Option library.FileTable) (P : List (List ℕ) → Type 0) → ((names more : List (List ℕ)) → P names → P (names ++ more))
      → IfSome known (λ l. P (up_to_there l xs)) → IfSome known (λ l. P (up_to_there l (if_near near (xs ++ ys))))
  known_begins None P longer q = tt
  known_begins (Some l) P longer q =
      let r = begins l xs ys in
      at_near near (xs ++ ys) (λ (names : List (List ℕ)). P (up_to_there l names)) e (subst P (sym r.1) (longer (up_to_there l xs) r.0 q))

  module _ {V : Type 0} (seen : V → List ℕ) (pk : Option V) where
    first_is : (l : library.FileTable) (b : Bool) → is_some pk ≡ b → option_map seen pk ≡ first_there l xs → is_some (first_there l xs) ≡ b
    first_is l b is found = subst (λ (o : Option (List ℕ)). is_some o ≡ b) found (some_of seen pk b is)

    -- the file was found in the first part
    pub known_first : (known : Option library.FileTable) (P : List (List ℕ) → Type 0) → is_some pk ≡ true → IfSome known (λ l. option_map seen pk ≡ first_there l xs)
        → IfSome known (λ l. P (up_to_there l xs)) → IfSome known (λ l. P (up_to_there l (if_near near (xs ++ ys))))
    known_first None P there found q = tt
    known_first (Some l) P there found q =
        at_near near (xs ++ ys) (λ (names : List (List ℕ)). P (up_to_there l names)) e (subst P (sym (up_to_first l xs ys (first_is l true there found))) q)

    -- it was not, and the second part came after it
    pub known_second : (known : Option library.FileTable) (P Q R : List (List ℕ) → Type 0) → ((p q : List (List ℕ)) → P p → Q q → R (p ++ q)) → is_some pk ≡ false
        → IfSome known (λ l. option_map seen pk ≡ first_there l xs) → IfSome known (λ l. P (up_to_there l xs)) → IfSome known (λ l. Q (up_to_there l ys))
        → IfSome known (λ l. R (up_to_there l (if_near near (xs ++ ys))))
    known_second None P Q R both gone found p q = tt
    known_second (Some l) P Q R both gone found p q =
        at_near near (xs ++ ys) (λ (names : List (List ℕ)). R (up_to_there l names)) e
        (subst R (sym (up_to_second l xs ys (first_is l false gone found))) (both (up_to_there l xs) (up_to_there l ys) p q))

-- ---- how many

-- a count rose by as many as there are names, or by as many at most
abbrev pub RoseByAll : ℕ → ℕ → List (List ℕ) → Type 0
RoseByAll a b names = RoseBy (length names) a b

abbrev pub RoseUpToAll : ℕ → ℕ → List (List ℕ) → Type 0
RoseUpToAll a b names = RoseUpTo (length names) a b

pub rose_longer : (a b : ℕ) (names more : List (List ℕ)) → RoseUpTo (length names) a b → RoseUpTo (length (names ++ more)) a b
rose_longer a b names more r = record { most = omega (arith, r.most, length-append names more); never_falls = r.never_falls }

pub rose_both : (a b c : ℕ) (p q : List (List ℕ)) → RoseUpTo (length p) a b → RoseUpTo (length q) b c → RoseUpTo (length (p ++ q)) a c
rose_both a b c p q r s = record {
  most = omega (arith, r.most, s.most, length-append p q);
  never_falls = omega (arith, r.never_falls, s.never_falls);
}

pub counted_both : (a b c : ℕ) (p q : List (List ℕ)) → RoseBy (length p) a b → RoseBy (length q) b c → RoseBy (length (p ++ q)) a c
counted_both a b c p q r s = λ lt.
    let first : b ≡ min (a + length p) (2 ^ 64 - 1) = r lt in
    let fits : b < 2 ^ 64 = omega arith in
    let second : c ≡ min (b + length q) (2 ^ 64 - 1) = s fits in
    omega (arith, length-append p q)

-- the least and the most, by whether a PK and a GF file was found
abbrev fewest_of : Bool → Bool → Bool → ℕ
fewest_of near has_pk has_gf = if not near then 0 else if has_pk then 1 else if has_gf then 4 else 6

abbrev most_of : Bool → Bool → ℕ
most_of near has_pk = if not near then 0 else if has_pk then 3 else 6

abbrev of_three : Bool → ℕ
of_three there = if there then 1 else 3

-- none of the three was there
pub all_three : (there : Bool) (a b : Names) (x y z : List ℕ) → there ≡ false → AskedFirst (of_three there) 3 a b (x ∷ y ∷ z ∷ []) → Asks a b (x ∷ y ∷ z ∷ [])
all_three true a b x y z e q = absurd (cc)
all_three false a b x y z e q =
    let three : q.count ≡ 3 = omega (arith, q.least, q.most) in
    subst (λ (n : ℕ). Asks a b (take n (x ∷ y ∷ z ∷ []))) three q.asked

pub none_asked : (near : Bool) (names : List (List ℕ)) (a : Names) → near ≡ false → AskedFirst (fewest_of near false false) (most_of near false) a a (if_near near names)
none_asked true names a e = absurd (cc)
none_asked false names a e = record { count = 0; least = omega arith; most = omega arith; asked = asked_none a }

pub first_asked : (near has_pk : Bool) (a b : Names) (x y z : List ℕ) (ys : List (List ℕ)) → near ≡ true → has_pk ≡ true
    → AskedFirst (of_three has_pk) 3 a b (x ∷ y ∷ z ∷ []) → AskedFirst (fewest_of near has_pk false) (most_of near has_pk) a b (if_near near (x ∷ y ∷ z ∷ ys))
first_asked false has_pk a b x y z ys e f q = absurd (cc)
first_asked true false a b x y z ys e f q = absurd (cc)
first_asked true true a b x y z ys e f q = record {
  count = q.count;
  least = q.least;
  most = q.most;
  asked = subst (Asks a b) (sym (take-append-le q.count (x ∷ y ∷ z ∷ []) ys q.most)) q.asked;
}

pub second_asked : (near has_pk has_gf : Bool) (a b c : Names) (x y z : List ℕ) (ys : List (List ℕ)) → near ≡ true → has_pk ≡ false
    → AskedFirst (of_three has_pk) 3 a b (x ∷ y ∷ z ∷ []) → AskedFirst (of_three has_gf) 3 b c ys
    → AskedFirst (fewest_of near has_pk has_gf) (most_of near has_pk) a c (if_near near (x ∷ y ∷ z ∷ ys))
second_asked false has_pk has_gf a b c x y z ys e f p q = absurd (cc)
second_asked true true has_gf a b c x y z ys e f p q = absurd (cc)
second_asked true false has_gf a b c x y z ys e f p q =
    let all = first_later a b c (x ∷ y ∷ z ∷ []) ys (of_three has_gf) 3 (all_three false a b x y z refl p) q in
    record { count = all.count; least = least has_gf all.least; most = all.most; asked = all.asked }
  where
    least : (has_gf : Bool) {n : ℕ} → 3 + of_three has_gf ≤ n → (if has_gf then 4 else 6) ≤ n
    least true h = h
    least false h = h

pub first_rose : (near has_pk : Bool) (a b : ℕ) → near ≡ true → has_pk ≡ true → RoseWithin (of_three has_pk) 3 a b → RoseWithin (fewest_of near has_pk false) (most_of near has_pk) a b
first_rose false has_pk a b e f r = absurd (cc)
first_rose true false a b e f r = absurd (cc)
first_rose true true a b e f r = r

pub second_rose : (near has_pk has_gf : Bool) (a b c : ℕ) → near ≡ true → has_pk ≡ false → RoseWithin (of_three has_pk) 3 a b → RoseUpTo 3 b c
    → RoseWithin (of_three has_gf) 3 b c → RoseWithin (fewest_of near has_pk has_gf) (most_of near has_pk) a c
second_rose false has_pk has_gf a b c e f r v s = absurd (cc)
second_rose true true has_gf a b c e f r v s = absurd (cc)
second_rose true false has_gf a b c e f r v s = record { most = omega (arith, r.most, s.most); least = least has_gf s.least }
  where
    least : (has_gf : Bool) → (b < 2 ^ 64 → min (b + of_three has_gf) (2 ^ 64 - 1) ≤ c) → a < 2 ^ 64 → min (a + (if has_gf then 4 else 6)) (2 ^ 64 - 1) ≤ c
    least true h lt = let first = r.least lt in elim (cases_lt b (2 ^ 64)) [
      | inl fits ↦ let second = h fits in omega arith
      | inr over ↦ omega (arith, over, v.never_falls)
    ]
    least false h lt = let first = r.least lt in elim (cases_lt b (2 ^ 64)) [
      | inl fits ↦ let second = h fits in omega arith
      | inr over ↦ omega (arith, over, v.never_falls)
    ]
