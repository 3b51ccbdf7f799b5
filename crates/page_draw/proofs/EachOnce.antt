-- The lacks of a page grow by one at their end.
use Rattle.std.proofs.Common.{◌≡◌, ◌∙◌, ℕ, zero, suc, ℤ, pos, Bool, true, false, List, [], ◌∷◌, ◌++◌, Option, Some, None, refl, sym, ap, subst, append-nil}
use Rattle.std.specs.Prelude.{◌==◌, ◌&&◌, ◌||◌, not}
use Rattle.std.specs.Ordering.{int_eq}
use Rattle.std.specs.List.{filter}
use Rattle.std.proofs.lemmas.List.Elements.{filter-append}
use Rattle.std.proofs.lemmas.Bool.Decides.{Decides-int_eq}
use Rattle.std.proofs.lemmas.Bool.{eqb-true, and_parts}
use Rattle.outside.specs.declared.keys.FontKey.{FontKey}
use Rattle.font_decode.specs.declared.faults.FileKind.TheVariants as kind
use Rattle.font_decode.specs.declared.faults.FontFault.TheVariants as file
use Rattle.cache_core.proofs.SameKeys.{keys_are_equal}
use Rattle.cache_core.specs.Machine.{key_eq}
use Rattle.vf_expand.specs.Faults.{PageFaultValue, NoFont, NoCurrentFont, NoCharacter, NoGlyph, NoPacket, NoLocalFont, Depth, TooLong, Font, Pen}
use Rattle.page_draw.specs.Lacks.{LackValue, MissingValue, each_once, is_known, is_same, is_same_missing, missing_of, with_lack}

-- ---- faults that are the same

abbrev fault_by : ℕ → ℤ → FontKey → PageFaultValue
fault_by zero c k = NoCharacter k c
fault_by (suc zero) c k = NoGlyph k c
fault_by (suc (suc zero)) c k = NoPacket k c
fault_by (suc (suc (suc zero))) c k = Font k (file.Missing kind.Tfm)
fault_by _ c k = Font k (file.Missing kind.Pk)

abbrev fault_of : MissingValue → PageFaultValue
fault_of m = fault_by m.kind m.code m.font

back : (f : PageFaultValue) (m : MissingValue) → missing_of f ≡ Some m → f ≡ fault_of m
back (NoCharacter k c) m e = let same : record { kind = 0; code = c; font = k } ≡ m = cc in ap fault_of same
back (NoGlyph k c) m e = let same : record { kind = 1; code = c; font = k } ≡ m = cc in ap fault_of same
back (NoPacket k c) m e = let same : record { kind = 2; code = c; font = k } ≡ m = cc in ap fault_of same
back (Font k (file.Missing kind.Tfm)) m e = let same : record { kind = 3; code = pos 0; font = k } ≡ m = cc in ap fault_of same
back (Font k (file.Missing kind.Pk)) m e = let same : record { kind = 4; code = pos 0; font = k } ≡ m = cc in ap fault_of same
back (Font k (file.Missing kind.Vf)) m e = absurd cc
back (Font k (file.Missing kind.Gf)) m e = absurd cc
back (Font k (file.Tfm fault)) m e = absurd cc
back (Font k (file.Vf fault)) m e = absurd cc
back (Font k (file.Pk fault)) m e = absurd cc
back (Font k (file.Gf fault)) m e = absurd cc
back (Font k file.Name) m e = absurd cc
back (Font k file.Size) m e = absurd cc
back (Font k (file.TooLong which)) m e = absurd cc
back (NoFont number) m e = absurd cc
back NoCurrentFont m e = absurd cc
back (NoLocalFont k number) m e = absurd cc
back (Depth k c) m e = absurd cc
back TooLong m e = absurd cc
back (Pen fault) m e = absurd cc

abbrev made : ℕ → ℤ → FontKey → MissingValue
made kind code font = record { kind = kind; code = code; font = font }

same_missing : (m n : MissingValue) → is_same_missing (Some m) (Some n) ≡ true → m ≡ n
same_missing m n e =
    let one = and_parts (m.kind == n.kind) (int_eq m.code n.code && key_eq m.font n.font) e in
    let two = and_parts (int_eq m.code n.code) (key_eq m.font n.font) one.1 in
    let kind : m.kind ≡ n.kind = eqb-true _ _ one.0 in
    let code : m.code ≡ n.code = (Decides-int_eq m.code n.code).0 two.0 in
    let font : m.font ≡ n.font = keys_are_equal m.font n.font two.1 in
    let whole : made m.kind m.code m.font ≡ made n.kind n.code n.font = rw (kind, code, font) refl in
    whole

pub same_fault : (f g : PageFaultValue) → is_same f g ≡ true → f ≡ g
same_fault f g e = by (missing_of f) refl (missing_of g) refl e
  where
    by : (m : Option MissingValue) → missing_of f ≡ m → (n : Option MissingValue) → missing_of g ≡ n → is_same_missing m n ≡ true → f ≡ g
    by (Some m) first (Some n) second same = back f m first ∙ ap fault_of (same_missing m n same) ∙ sym (back g n second)
    by (Some m) first None second same = absurd cc
    by None first n second same = absurd cc

-- ---- one lack more

abbrev out : PageFaultValue → List LackValue → List LackValue
out f lacks = filter (λ l. not (is_same f l.fault)) lacks

-- a fault is known among those that another leaves
still_known : (f g : PageFaultValue) → is_same f g ≡ false → (lacks : List LackValue) → is_known (out f lacks) g ≡ is_known lacks g
still_known f g other [] = refl
still_known f g other (l ∷ lacks) = by (still_known f g other lacks) (is_same f l.fault) refl
  where
    by : is_known (out f lacks) g ≡ is_known lacks g → (b : Bool) → is_same f l.fault ≡ b → is_known (out f (l ∷ lacks)) g ≡ is_known (l ∷ lacks) g
    by rest true e =
        let apart : is_same l.fault g ≡ false = subst (λ (x : PageFaultValue). is_same x g ≡ false) (same_fault f l.fault e) other in
        rw (e, apart) rest
    by rest false e = rw e (ap (λ (b : Bool). is_same l.fault g || b) rest)

out_more : (f : PageFaultValue) (lacks : List LackValue) (l : LackValue) → out f (lacks ++ l ∷ []) ≡ out f lacks ++ out f (l ∷ [])
out_more f lacks l = filter-append (λ x. not (is_same f x.fault)) lacks (l ∷ [])

first_stays : (x l : LackValue) (lacks : List LackValue) → x ∷ out x.fault (with_lack lacks l) ≡ with_lack (x ∷ out x.fault lacks) l
first_stays x l lacks = by (is_same x.fault l.fault) refl (is_known lacks l.fault) refl
  where
    by : (same : Bool) → is_same x.fault l.fault ≡ same → (known : Bool) → is_known lacks l.fault ≡ known
        → x ∷ out x.fault (with_lack lacks l) ≡ with_lack (x ∷ out x.fault lacks) l
    by true s true k = rw (s, k) refl
    by true s false k =
        let gone : out x.fault (l ∷ []) ≡ [] = rw s refl in
        rw (s, k) (ap (λ (ls : List LackValue). x ∷ ls) (out_more x.fault lacks l ∙ ap (λ (ls : List LackValue). out x.fault lacks ++ ls) gone ∙ append-nil (out x.fault lacks)))
    by false s true k =
        let still : is_known (out x.fault lacks) l.fault ≡ true = still_known x.fault l.fault s lacks ∙ k in
        rw (s, k, still) refl
    by false s false k =
        let still : is_known (out x.fault lacks) l.fault ≡ false = still_known x.fault l.fault s lacks ∙ k in
        let stays : out x.fault (l ∷ []) ≡ l ∷ [] = rw s refl in
        rw (s, k, still) (ap (λ (ls : List LackValue). x ∷ ls) (out_more x.fault lacks l ∙ ap (λ (ls : List LackValue). out x.fault lacks ++ ls) stays))

pub once_more : (lacks : List LackValue) (l : LackValue) → each_once (lacks ++ l ∷ []) ≡ with_lack (each_once lacks) l
once_more [] l = refl
once_more (x ∷ lacks) l = ap (λ (ls : List LackValue). x ∷ out x.fault ls) (once_more lacks l) ∙ first_stays x l (each_once lacks)
