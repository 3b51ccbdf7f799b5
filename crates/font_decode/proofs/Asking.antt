-- The names that were asked for, call by call.
use Rattle.std.proofs.Common.{◌≡◌, ◌∙◌, ◌≤◌, ◌+◌, ◌⊎◌, inl, inr, ℕ, zero, suc, Bool, true, false, List, [], ◌∷◌, ◌++◌, length, take, Option, Some, None, refl, sym, ap, subst, append_assoc, append-nil, arith}
use Rattle.std.specs.Option.{option_map}
use Rattle.std.specs.Prelude.{◌-◌, ◌^◌, ◌<◌, not, min, IfOk, IfSome, OnErr, OnOk, Result, Ok, Err, IsSome, IsNone, IsTrue, is_some, is_none, if◌then◌else◌}
use Rattle.std.specs.FinMap.{get}
use Rattle.std.proofs.Math.Seq.{take-append-add}
use Rattle.outside.specs.Library as library
use Rattle.outside.specs.Library.{Asks, AskedFor, Names}
use Rattle.outside.specs.declared.keys.FontKey.{FontKey}
use Rattle.pixel_round.specs.declared.units.Units.{Units}
use Rattle.font_decode.specs.Names.{is_valid_name, dpi, is_resolution, tfm_name, vf_name}
use Rattle.font_decode.specs.Files.{up_to_there, glyph_choices, looked_for, fewest_glyphs, most_glyphs, IsInOrder}
use Rattle.font_decode.specs.Loads.{RoseBy, RoseUpTo, RoseWithin}
use Rattle.font_decode.specs.Asked.{AskedFirst, AskedUntil}

pub asked_none : (a : Names) → Asks a a []
asked_none None = refl
asked_none (Some xs) = ap Some (sym (append-nil xs))

pub asked_twice : (a b c : Names) (xs ys : List (List ℕ)) → Asks a b xs → Asks b c ys → Asks a c (xs ++ ys)
asked_twice None b c xs ys p q = q ∙ ap (option_map (λ (l : List (List ℕ)). l ++ ys)) p
asked_twice (Some l) b c xs ys p q = q ∙ (ap (option_map (λ (l : List (List ℕ)). l ++ ys)) p ∙ ap Some (append_assoc l xs ys))

-- after names that were asked for, the first of some more
pub first_later : (a b c : Names) (xs names : List (List ℕ)) (low high : ℕ) → Asks a b xs → AskedFirst low high b c names → AskedFirst (length xs + low) (length xs + high) a c (xs ++ names)
first_later a b c xs names low high p q = record {
  count = length xs + q.count;
  least = omega (arith, q.least);
  most = omega (arith, q.most);
  asked = subst (Asks a c) (sym (take-append-add xs names q.count)) (asked_twice a b c xs (take q.count names) p q.asked);
}

-- ---- up to a stop

pub until_none : (a : Names) (names : List (List ℕ)) → AskedUntil a a names
until_none a names = record { count = 0; asked = inl (asked_none a) }

pub until_now : (a b : Names) (x : List ℕ) (rest : List (List ℕ)) → AskedUntil a b (x ∷ []) → AskedUntil a b (x ∷ rest)
until_now a b x rest q = elim q.asked [
  | inl more ↦ by q.count more
  | inr lost ↦ record { count = 0; asked = inr lost }
]
  where
    by : (n : ℕ) → Asks a b (take n (x ∷ [])) → AskedUntil a b (x ∷ rest)
    by zero h = record { count = 0; asked = inl h }
    by (suc zero) h = record { count = 1; asked = inl h }
    by (suc (suc n)) h = record { count = 1; asked = inl h }

pub until_later : (a b c : Names) (xs names : List (List ℕ)) → Asks a b xs → AskedUntil b c names → AskedUntil a c (xs ++ names)
until_later a b c xs names p q = record {
  count = length xs + q.count;
  asked = elim q.asked [
    | inl more ↦ inl (subst (Asks a c) (sym (take-append-add xs names q.count)) (asked_twice a b c xs (take q.count names) p more))
    | inr lost ↦ inr lost
  ];
}

-- ---- where a library is known: after the first name, which was answered

-- the file is there
pub named_there : {V : Type 0} (seen : V → List ℕ) (known : Option library.FileTable) (x : List ℕ) (rest : List (List ℕ)) (o : Option V) (a b : Names)
    → IfSome known (λ l. option_map seen o ≡ get l x) → is_some o ≡ true → Asks a b (x ∷ []) → IfSome known (λ l. Asks a b (up_to_there l (x ∷ rest)))
named_there seen None x rest o a b found there p = tt
named_there seen (Some l) x rest None a b found there p = absurd (cc)
named_there seen (Some l) x rest (Some v) a b found there p = subst (λ (o : Option (List ℕ)). Asks a b (x ∷ (if is_some o then [] else up_to_there l rest))) found p

-- it isn't, and others are asked for
pub named_later : {V : Type 0} (seen : V → List ℕ) (known : Option library.FileTable) (x : List ℕ) (rest : List (List ℕ)) (o : Option V) (a b c : Names)
    → IfSome known (λ l. option_map seen o ≡ get l x) → is_some o ≡ false → Asks a b (x ∷ []) → IfSome known (λ l. Asks b c (up_to_there l rest))
    → IfSome known (λ l. Asks a c (up_to_there l (x ∷ rest)))
named_later seen None x rest o a b c found gone p q = tt
named_later seen (Some l) x rest (Some v) a b c found gone p q = absurd (cc)
named_later seen (Some l) x rest None a b c found gone p q =
    subst (λ (o : Option (List ℕ)). Asks a c (x ∷ (if is_some o then [] else up_to_there l rest))) found (asked_twice a b c (x ∷ []) (up_to_there l rest) p q)

-- and these up to a stop
pub named_until : {V : Type 0} (seen : V → List ℕ) (known : Option library.FileTable) (x : List ℕ) (rest : List (List ℕ)) (o : Option V) (a b c : Names)
    → IfSome known (λ l. option_map seen o ≡ get l x) → is_some o ≡ false → Asks a b (x ∷ []) → IfSome known (λ l. AskedUntil b c (up_to_there l rest))
    → IfSome known (λ l. AskedUntil a c (up_to_there l (x ∷ rest)))
named_until seen None x rest o a b c found gone p q = tt
named_until seen (Some l) x rest (Some v) a b c found gone p q = absurd (cc)
named_until seen (Some l) x rest None a b c found gone p q =
    subst (λ (o : Option (List ℕ)). AskedUntil a c (x ∷ (if is_some o then [] else up_to_there l rest))) found (until_later a b c (x ∷ []) (up_to_there l rest) p q)

pub named_until_now : (known : Option library.FileTable) (x : List ℕ) (rest : List (List ℕ)) (a b : Names) → AskedUntil a b (x ∷ []) → IfSome known (λ l. AskedUntil a b (up_to_there l (x ∷ rest)))
named_until_now None x rest a b q = tt
named_until_now (Some l) x rest a b q = until_now a b x (if is_some (get l x) then [] else up_to_there l rest) q

-- a library that is the same under another name
pub moved : (known other : Option library.FileTable) (P : library.FileTable → Type 0) → other ≡ known → IfSome other P → IfSome known P
moved known other P e p = subst (λ (o : Option library.FileTable). IfSome o P) e p

-- ---- of a result

pub on_err : {T E : Type 0} (r : Result T E) (P : Type 0) → P → OnErr r P
on_err (Ok x) P p = tt
on_err (Err e) P p = p

pub on_err_then : {T E : Type 0} (r : Result T E) (P Q : Type 0) → (P → Q) → OnErr r P → OnErr r Q
on_err_then (Ok x) P Q f p = tt
on_err_then (Err e) P Q f p = f p

-- ---- three files of glyphs

pub second_until : (a b c : Names) (x y : List ℕ) (rest : List (List ℕ)) → Asks a b (x ∷ []) → AskedUntil b c (y ∷ []) → AskedUntil a c (x ∷ y ∷ rest)
second_until a b c x y rest p q = until_later a b c (x ∷ []) (y ∷ rest) p (until_now b c y rest q)

pub third_until : (a b c d : Names) (x y z : List ℕ) → Asks a b (x ∷ []) → Asks b c (y ∷ []) → AskedUntil c d (z ∷ []) → AskedUntil a d (x ∷ y ∷ z ∷ [])
third_until a b c d x y z p q r = until_later a b d (x ∷ []) (y ∷ z ∷ []) p (second_until b c d y z [] q r)

pub exact_asked : (there : Bool) (a b : Names) (x y z : List ℕ) → there ≡ true → Asks a b (x ∷ []) → AskedFirst (if there then 1 else 3) 3 a b (x ∷ y ∷ z ∷ [])
exact_asked false a b x y z e p = absurd (cc)
exact_asked true a b x y z e p = record { count = 1; least = omega arith; most = omega arith; asked = p }

pub above_asked : (there : Bool) (a b c : Names) (x y z : List ℕ) → there ≡ true → Asks a b (x ∷ []) → Asks b c (y ∷ []) → AskedFirst (if there then 1 else 3) 3 a c (x ∷ y ∷ z ∷ [])
above_asked false a b c x y z e p q = absurd (cc)
above_asked true a b c x y z e p q = record { count = 2; least = omega arith; most = omega arith; asked = asked_twice a b c (x ∷ []) (y ∷ []) p q }

pub below_asked : {V E : Type 0} (r : Result (Option V) E) (a b c d : Names) (x y z : List ℕ) → Asks a b (x ∷ []) → Asks b c (y ∷ []) → OnOk r (Asks c d (z ∷ []))
    → IfOk r (λ found. AskedFirst (if is_some found then 1 else 3) 3 a d (x ∷ y ∷ z ∷ []))
below_asked (Err e) a b c d x y z p q h = tt
below_asked (Ok found) a b c d x y z p q h = record {
  count = 3;
  least = least (is_some found);
  most = omega arith;
  asked = asked_twice a b d (x ∷ []) (y ∷ z ∷ []) p (asked_twice b c d (y ∷ []) (z ∷ []) q h);
}
  where
    least : (there : Bool) → (if there then 1 else 3) ≤ 3
    least true = omega arith
    least false = omega arith

-- ---- all the files of a font: by whether its name is valid, its TFM file is missing, and it has a VF file

abbrev loads : Bool → Bool → Bool → ℕ → ℕ
loads valid no_tfm has_vf n = if not valid then 0 else if no_tfm then 1 else if has_vf then 2 else 2 + n

abbrev chosen : Bool → List ℕ → List ℕ → List (List ℕ) → List (List ℕ)
chosen valid x y pks = if valid then x ∷ y ∷ pks else []

abbrev looked : Bool → Bool → Bool → List ℕ → List ℕ → List (List ℕ) → List (List ℕ)
looked valid no_tfm has_vf x y pks = if not valid then [] else if no_tfm then x ∷ [] else if has_vf then x ∷ y ∷ [] else x ∷ y ∷ pks

pub none_of : {V W : Type 0} (seen : V → W) (o : Option V) (b : Bool) → is_none o ≡ b → is_none (option_map seen o) ≡ b
none_of seen None b e = e
none_of seen (Some v) b e = e

pub some_of : {V W : Type 0} (seen : V → W) (o : Option V) (b : Bool) → is_some o ≡ b → is_some (option_map seen o) ≡ b
some_of seen None b e = e
some_of seen (Some v) b e = e

pub is_there : {V : Type 0} (o : Option V) (r : Bool) → is_some o ≡ not r → r ≡ false → is_none o ≡ false
is_there None true e f = absurd (cc)
is_there None false e f = absurd (cc)
is_there (Some v) r e f = refl

pub glyphs_seen : {V : Type 0} (seen : V → List ℕ) (pk gf : Option V) (u : Units) (k : FontKey) (a b : Names) (names : List (List ℕ))
    → AskedFirst (fewest_glyphs u k (is_some pk) (is_some gf)) (most_glyphs u k (is_some pk)) a b names
    → AskedFirst (fewest_glyphs u k (is_some (option_map seen pk)) (is_some (option_map seen gf))) (most_glyphs u k (is_some (option_map seen pk))) a b names
glyphs_seen seen None None u k a b names p = p
glyphs_seen seen None (Some g) u k a b names p = p
glyphs_seen seen (Some v) None u k a b names p = p
glyphs_seen seen (Some v) (Some g) u k a b names p = p

pub glyphs_counted : {V : Type 0} (seen : V → List ℕ) (pk gf : Option V) (u : Units) (k : FontKey) (a b : ℕ)
    → RoseWithin (fewest_glyphs u k (is_some pk) (is_some gf)) (most_glyphs u k (is_some pk)) a b
    → RoseWithin (fewest_glyphs u k (is_some (option_map seen pk)) (is_some (option_map seen gf))) (most_glyphs u k (is_some (option_map seen pk))) a b
glyphs_counted seen None None u k a b p = p
glyphs_counted seen None (Some g) u k a b p = p
glyphs_counted seen (Some v) None u k a b p = p
glyphs_counted seen (Some v) (Some g) u k a b p = p

pub nothing_asked : (valid no_tfm has_vf : Bool) (low high : ℕ) (a : Names) (x y : List ℕ) (pks : List (List ℕ)) → valid ≡ false
    → AskedFirst (loads valid no_tfm has_vf low) (loads valid no_tfm has_vf high) a a (chosen valid x y pks)
nothing_asked true no_tfm has_vf low high a x y pks e = absurd (cc)
nothing_asked false no_tfm has_vf low high a x y pks e = record { count = 0; least = omega arith; most = omega arith; asked = asked_none a }

pub tfm_asked : (valid no_tfm has_vf : Bool) (low high : ℕ) (a b : Names) (x y : List ℕ) (pks : List (List ℕ)) → valid ≡ true → no_tfm ≡ true → Asks a b (x ∷ [])
    → AskedFirst (loads valid no_tfm has_vf low) (loads valid no_tfm has_vf high) a b (chosen valid x y pks)
tfm_asked false no_tfm has_vf low high a b x y pks e f p = absurd (cc)
tfm_asked true false has_vf low high a b x y pks e f p = absurd (cc)
tfm_asked true true has_vf low high a b x y pks e f p = record { count = 1; least = omega arith; most = omega arith; asked = p }

pub vf_asked : (valid no_tfm has_vf : Bool) (low high : ℕ) (a b c : Names) (x y : List ℕ) (pks : List (List ℕ)) → valid ≡ true → no_tfm ≡ false → has_vf ≡ true → Asks a b (x ∷ []) → Asks b c (y ∷ [])
    → AskedFirst (loads valid no_tfm has_vf low) (loads valid no_tfm has_vf high) a c (chosen valid x y pks)
vf_asked false no_tfm has_vf low high a b c x y pks e f g p q = absurd (cc)
vf_asked true true has_vf low high a b c x y pks e f g p q = absurd (cc)
vf_asked true false false low high a b c x y pks e f g p q = absurd (cc)
vf_asked true false true low high a b c x y pks e f g p q = record { count = 2; least = omega arith; most = omega arith; asked = asked_twice a b c (x ∷ []) (y ∷ []) p q }

pub glyphs_asked : (valid no_tfm has_vf : Bool) (low high : ℕ) (a b c d : Names) (x y : List ℕ) (pks : List (List ℕ)) → valid ≡ true → no_tfm ≡ false → has_vf ≡ false
    → Asks a b (x ∷ []) → Asks b c (y ∷ []) → AskedFirst low high c d pks → AskedFirst (loads valid no_tfm has_vf low) (loads valid no_tfm has_vf high) a d (chosen valid x y pks)
glyphs_asked false no_tfm has_vf low high a b c d x y pks e f g p q r = absurd (cc)
glyphs_asked true true has_vf low high a b c d x y pks e f g p q r = absurd (cc)
glyphs_asked true false true low high a b c d x y pks e f g p q r = absurd (cc)
glyphs_asked true false false low high a b c d x y pks e f g p q r = first_later a c d (x ∷ y ∷ []) pks low high (asked_twice a b c (x ∷ []) (y ∷ []) p q) r

pub rose_all : (valid no_tfm has_vf : Bool) (low high a b c d : ℕ) → valid ≡ true → no_tfm ≡ false → has_vf ≡ false
    → RoseBy 1 a b → RoseUpTo 1 a b → RoseBy 1 b c → RoseUpTo 1 b c → RoseWithin low high c d → RoseWithin (loads valid no_tfm has_vf low) (loads valid no_tfm has_vf high) a d
rose_all false no_tfm has_vf low high a b c d e f g p p2 q q2 r = absurd (cc)
rose_all true true has_vf low high a b c d e f g p p2 q q2 r = absurd (cc)
rose_all true false true low high a b c d e f g p p2 q q2 r = absurd (cc)
rose_all true false false low high a b c d e f g p p2 q q2 r = record {
  most = omega (arith, p2.most, q2.most, r.most);
  least = λ lt.
      let first : b ≡ min (a + 1) (2 ^ 64 - 1) = p lt in
      let fits : b < 2 ^ 64 = omega arith in
      let second : c ≡ min (b + 1) (2 ^ 64 - 1) = q fits in
      let fits_too : c < 2 ^ 64 = omega arith in
      let third = r.least fits_too in
      omega arith;
}

pub in_order : {V : Type 0} (seen : V → List ℕ) (u : Units) (k : FontKey) (tfm vf pk gf : Option V) → is_valid_name k ≡ true → is_none tfm ≡ false → is_some vf ≡ false
    → (IsSome pk → IsTrue (is_resolution (dpi u k))) → (IsSome gf → IsNone pk × IsTrue (is_resolution (dpi u k)))
    → IsInOrder u k (record { tfm = option_map seen tfm; vf = option_map seen vf; pk = option_map seen pk; gf = option_map seen gf })
in_order seen u k None vf pk gf v f g r q = absurd (cc)
in_order seen u k (Some t) (Some w) pk gf v f g r q = absurd (cc)
in_order seen u k (Some t) None None None v f g r q = record { tfm = λ _. v; vf = λ no. absurd (cc); pk = λ no. absurd (cc); gf = λ no. absurd (cc) }
in_order seen u k (Some t) None None (Some h) v f g r q = record { tfm = λ _. v; vf = λ no. absurd (cc); pk = λ no. absurd (cc); gf = λ _. (refl, refl, refl, (q refl).1) }
in_order seen u k (Some t) None (Some p) None v f g r q = record { tfm = λ _. v; vf = λ no. absurd (cc); pk = λ _. (refl, refl, r refl); gf = λ no. absurd (cc) }
in_order seen u k (Some t) None (Some p) (Some h) v f g r q = let both = (q refl).0 in absurd (cc)

-- ---- up to a stop, of all the files

pub chosen_until : (valid : Bool) (a b : Names) (x y : List ℕ) (pks : List (List ℕ)) → valid ≡ true → AskedUntil a b (x ∷ y ∷ pks) → AskedUntil a b (chosen valid x y pks)
chosen_until false a b x y pks e q = absurd (cc)
chosen_until true a b x y pks e q = q

pub pks_until : (a b c d : Names) (x y : List ℕ) (pks : List (List ℕ)) → Asks a b (x ∷ []) → Asks b c (y ∷ []) → AskedUntil c d pks → AskedUntil a d (x ∷ y ∷ pks)
pks_until a b c d x y pks p q r = until_later a c d (x ∷ y ∷ []) pks (asked_twice a b c (x ∷ []) (y ∷ []) p q) r

looked_first : (valid no_tfm has_vf : Bool) (a b : Names) (x y : List ℕ) (pks : List (List ℕ)) → valid ≡ true → AskedUntil a b (x ∷ []) → AskedUntil a b (looked valid no_tfm has_vf x y pks)
looked_first false no_tfm has_vf a b x y pks e q = absurd (cc)
looked_first true true has_vf a b x y pks e q = q
looked_first true false true a b x y pks e q = until_now a b x (y ∷ []) q
looked_first true false false a b x y pks e q = until_now a b x (y ∷ pks) q

looked_second : (valid no_tfm has_vf : Bool) (a b c : Names) (x y : List ℕ) (pks : List (List ℕ)) → valid ≡ true → no_tfm ≡ false → Asks a b (x ∷ []) → AskedUntil b c (y ∷ [])
    → AskedUntil a c (looked valid no_tfm has_vf x y pks)
looked_second false no_tfm has_vf a b c x y pks e f p q = absurd (cc)
looked_second true true has_vf a b c x y pks e f p q = absurd (cc)
looked_second true false true a b c x y pks e f p q = second_until a b c x y [] p q
looked_second true false false a b c x y pks e f p q = second_until a b c x y pks p q

looked_third : (valid no_tfm has_vf : Bool) (a b c d : Names) (x y : List ℕ) (pks : List (List ℕ)) → valid ≡ true → no_tfm ≡ false → has_vf ≡ false → Asks a b (x ∷ []) → Asks b c (y ∷ [])
    → AskedUntil c d pks → AskedUntil a d (looked valid no_tfm has_vf x y pks)
looked_third false no_tfm has_vf a b c d x y pks e f g p q r = absurd (cc)
looked_third true true has_vf a b c d x y pks e f g p q r = absurd (cc)
looked_third true false true a b c d x y pks e f g p q r = absurd (cc)
looked_third true false false a b c d x y pks e f g p q r = pks_until a b c d x y pks p q r

module _ {V : Type 0} (seen : V → List ℕ) (u : Units) (k : FontKey) where
  pub told_first : (known : Option library.FileTable) (a b : Names) → is_valid_name k ≡ true → AskedUntil a b (tfm_name k ∷ []) → IfSome known (λ l. AskedUntil a b (looked_for l u k))
  told_first None a b v q = tt
  told_first (Some l) a b v q =
      looked_first (is_valid_name k) (is_none (get l (tfm_name k))) (is_some (get l (vf_name k))) a b (tfm_name k) (vf_name k) (up_to_there l (glyph_choices u k)) v q

  pub told_second : (known : Option library.FileTable) (tfm : Option V) (a b c : Names) → is_valid_name k ≡ true → is_none tfm ≡ false
      → IfSome known (λ l. option_map seen tfm ≡ get l (tfm_name k)) → Asks a b (tfm_name k ∷ []) → AskedUntil b c (vf_name k ∷ []) → IfSome known (λ l. AskedUntil a c (looked_for l u k))
  told_second None tfm a b c v f found p q = tt
  told_second (Some l) tfm a b c v f found p q =
      let there : is_none (get l (tfm_name k)) ≡ false = subst (λ (o : Option (List ℕ)). is_none o ≡ false) found (none_of seen tfm false f) in
      looked_second (is_valid_name k) (is_none (get l (tfm_name k))) (is_some (get l (vf_name k))) a b c (tfm_name k) (vf_name k) (up_to_there l (glyph_choices u k)) v there p q

  pub told_third : (known : Option library.FileTable) (tfm vf : Option V) (a b c d : Names) → is_valid_name k ≡ true → is_none tfm ≡ false → is_some vf ≡ false
      → IfSome known (λ l. option_map seen tfm ≡ get l (tfm_name k)) → IfSome known (λ l. option_map seen vf ≡ get l (vf_name k))
      → Asks a b (tfm_name k ∷ []) → Asks b c (vf_name k ∷ []) → IfSome known (λ l. AskedUntil c d (up_to_there l (glyph_choices u k))) → IfSome known (λ l. AskedUntil a d (looked_for l u k))
  told_third None tfm vf a b c d v f g found found_vf p q r = tt
  told_third (Some l) tfm vf a b c d v f g found found_vf p q r =
      let there : is_none (get l (tfm_name k)) ≡ false = subst (λ (o : Option (List ℕ)). is_none o ≡ false) found (none_of seen tfm false f) in
      let none : is_some (get l (vf_name k)) ≡ false = subst (λ (o : Option (List ℕ)). is_some o ≡ false) found_vf (some_of seen vf false g) in
      looked_third (is_valid_name k) (is_none (get l (tfm_name k))) (is_some (get l (vf_name k))) a b c d (tfm_name k) (vf_name k) (up_to_there l (glyph_choices u k)) v there none p q r

-- ---- one load

pub until_of : {T E : Type 0} (r : Result T E) (a b : Names) (name x : List ℕ) → name ≡ x → AskedFor a b name r → OnErr r (AskedUntil a b (x ∷ []))
until_of (Ok v) a b name x e h = tt
until_of (Err w) a b name x e h = record { count = 1; asked = subst (λ (n : List ℕ). Asks a b (n ∷ []) ⊎ (b ≡ None)) e h }
