-- Of two sound readings of one file the one is the beginning of the other.
use Rattle.std.proofs.Common.{◌≡◌, ℕ, ◌⊎◌, List, [], ◌∷◌, ◌++◌, length, drop, refl, sym, ap, subst, ◌∙◌, inl, inr, append_assoc}
use Rattle.std.proofs.lemmas.List.{drop_at, append-nil}
use Rattle.dvi_commands.specs.Spelling.{DviCommand, Spells}
use Rattle.dvi_commands.specs.Reading.{Placed}
use Rattle.page_index.specs.Document.{Reading, text_of, Sound, IsSound}
use Rattle.dvi_commands.proofs.Prefix.{no_spelling_begins_another}
use Rattle.dvi_commands.proofs.Determined.{spelling_determines_the_command}

-- the last element apart from those before it
pub split_last : {A : Type 0} (x : A) (xs : List A) → (init : List A) × (last : A) × (x ∷ xs ≡ init ++ last ∷ [])
split_last x [] = ([], x, refl)
split_last x (y ∷ ys) =
    let s = split_last y ys in
    (x ∷ s.0, s.1, ap (λ zs. x ∷ zs) s.2)

pub cancelled : (a x y : List ℕ) → a ++ x ≡ a ++ y → x ≡ y
cancelled a x y same = sym (drop_at a x (length a) refl) ∙ ap (drop (length a)) same ∙ drop_at a y (length a) refl

-- what the newer commands spell
pub text_after : (newer older : Reading) → (later : List ℕ) × (text_of (newer ++ older) ≡ text_of older ++ later)
text_after [] older = ([], sym (append-nil (text_of older)))
text_after (p ∷ newer) older =
    let s = text_after newer older in
    (s.0 ++ p.bytes, ap (λ t. t ++ p.bytes) s.1 ∙ append_assoc (text_of older) s.0 p.bytes)

pub sound_older : (res : ℕ) (newer older : Reading) → Sound res (newer ++ older) → Sound res older
sound_older res [] older h = h
sound_older res (p ∷ newer) older h = sound_older res newer older h.0

-- two commands that may stand at one place and are followed by one text are one
abbrev made : ℕ → DviCommand → List ℕ → Placed
made at command bytes = record { at = at; command = command; bytes = bytes }

one_command : (res : ℕ) (before : Reading) (p q : Placed) (x y : List ℕ) → IsSound res before p → IsSound res before q → p.bytes ++ x ≡ q.bytes ++ y → (p ≡ q) × (x ≡ y)
one_command res before p q x y hp hq same =
    let parts = no_spelling_begins_another p.command q.command p.bytes q.bytes x y hp.spelled hq.spelled same in
    let bytes : p.bytes ≡ q.bytes = parts.0 in
    let spelled : Spells q.command p.bytes = subst (λ (b : List ℕ). Spells q.command b) (sym bytes) hq.spelled in
    let command : p.command ≡ q.command = spelling_determines_the_command p.command q.command p.bytes hp.spelled spelled in
    let at : p.at ≡ q.at = hp.place ∙ sym hq.place in
    let whole : made p.at p.command p.bytes ≡ made q.at q.command q.bytes = rw (at, command, bytes) refl in
    (whole, parts.1)

abbrev pub Begins : Reading → Reading → Type 0
Begins short long = (newer : Reading) × (long ≡ newer ++ short)

begins_by : (res : ℕ) (p : Placed) (b r : Reading) (newer : Reading) (x y : List ℕ) → Sound res (p ∷ b) → Sound res r → r ≡ newer ++ b → text_of (p ∷ b) ++ x ≡ text_of r ++ y → Begins (p ∷ b) r ⊎ Begins r (p ∷ b)
begins_by res p b r [] x y hb hr e same = inr (p ∷ [], ap (λ t. p ∷ t) (sym e))
begins_by res p b r (n ∷ newer) x y hb hr e same =
    let s = split_last n newer in
    let q = s.1 in
    let regrouped : r ≡ s.0 ++ (q ∷ b) = e ∙ ap (λ t. t ++ b) s.2 ∙ append_assoc s.0 (q ∷ []) b in
    let sound : Sound res (q ∷ b) = sound_older res s.0 (q ∷ b) (subst (λ (t : Reading). Sound res t) regrouped hr) in
    let after = text_after s.0 (q ∷ b) in
    let text : text_of r ≡ (text_of b ++ q.bytes) ++ after.0 = ap text_of regrouped ∙ after.1 in
    let left : text_of b ++ (p.bytes ++ x) ≡ text_of (p ∷ b) ++ x = sym (append_assoc (text_of b) p.bytes x) in
    let right : text_of r ++ y ≡ text_of b ++ (q.bytes ++ (after.0 ++ y)) =
    ap (λ t. t ++ y) text ∙ append_assoc (text_of b ++ q.bytes) after.0 y ∙ append_assoc (text_of b) q.bytes (after.0 ++ y) in
    let next : p.bytes ++ x ≡ q.bytes ++ (after.0 ++ y) = cancelled (text_of b) _ _ (left ∙ same ∙ right) in
    let one = one_command res b p q x (after.0 ++ y) hb.1 sound.1 next in
    inl (s.0, regrouped ∙ ap (λ t. s.0 ++ (t ∷ b)) (sym one.0))

pub readings_agree : (res : ℕ) (r s : Reading) (x y : List ℕ) → Sound res r → Sound res s → text_of r ++ x ≡ text_of s ++ y → Begins r s ⊎ Begins s r
readings_agree res [] s x y hr hs same = inl (s, sym (append-nil s))
readings_agree res (p ∷ b) s x y hr hs same =
    elim (readings_agree res b s (p.bytes ++ x) y hr.0 hs (sym (append_assoc (text_of b) p.bytes x) ∙ same)) [
      | inl shorter ↦ begins_by res p b s shorter.0 x y hr hs shorter.1 same
      | inr longer ↦ inr (p ∷ longer.0, ap (λ t. p ∷ t) longer.1)
    ]
