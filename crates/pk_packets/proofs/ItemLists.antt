-- Of two lists of items of one file the one is the beginning of the other.
use Rattle.std.proofs.Common.{◌≡◌, ◌∙◌, ◌⊎◌, inl, inr, ℕ, List, [], ◌∷◌, ◌++◌, length, drop, refl, sym, ap, subst, append_assoc}
use Rattle.std.proofs.lemmas.List.{append-nil, drop_at}
use Rattle.pk_packets.specs.Items.{text_of}
use Rattle.pk_packets.specs.Fonts.{AreSound}
use Rattle.pk_packets.proofs.OneItem.{no_item_begins_another}

-- the last element apart from those before it
split_last : {A : Type 0} (x : A) (xs : List A) → (init : List A) × (last : A) × (x ∷ xs ≡ init ++ last ∷ [])
split_last x [] = ([], x, refl)
split_last x (y ∷ ys) = let s = split_last y ys in (x ∷ s.0, s.1, ap (λ zs. x ∷ zs) s.2)

pub cancelled : (a x y : List ℕ) → a ++ x ≡ a ++ y → x ≡ y
cancelled a x y same = sym (drop_at a x (length a) refl) ∙ ap (drop (length a)) same ∙ drop_at a y (length a) refl

-- what the newer items have
text_after : (newer older : List (List ℕ)) → (later : List ℕ) × (text_of (newer ++ older) ≡ text_of older ++ later)
text_after [] older = ([], sym (append-nil (text_of older)))
text_after (item ∷ newer) older =
    let s = text_after newer older in
    (s.0 ++ item, ap (λ t. t ++ item) s.1 ∙ append_assoc (text_of older) s.0 item)

sound_older : (newer older : List (List ℕ)) → AreSound (newer ++ older) → AreSound older
sound_older [] older h = h
sound_older (item ∷ newer) older h = sound_older newer older h.0

-- a longer list has a next item after the shorter one
pub next_item : (short long newer : List (List ℕ)) (n x y : List ℕ) → AreSound long → long ≡ (n ∷ newer) ++ short → text_of short ++ x ≡ text_of long ++ y
    → (item : List ℕ) × (more : List ℕ) × (prefix : List (List ℕ)) × AreSound (item ∷ short) × (x ≡ item ++ more) × (long ≡ prefix ++ (item ∷ short))
next_item short long newer n x y sound e same =
    let parts = split_last n newer in
    let item = parts.1 in
    let regrouped : long ≡ parts.0 ++ (item ∷ short) = e ∙ ap (λ t. t ++ short) parts.2 ∙ append_assoc parts.0 (item ∷ []) short in
    let older : AreSound (item ∷ short) = sound_older parts.0 (item ∷ short) (subst AreSound regrouped sound) in
    let after = text_after parts.0 (item ∷ short) in
    let text : text_of long ≡ (text_of short ++ item) ++ after.0 = ap text_of regrouped ∙ after.1 in
    let right : text_of long ++ y ≡ text_of short ++ (item ++ (after.0 ++ y)) =
    ap (λ t. t ++ y) text ∙ append_assoc (text_of short ++ item) after.0 y ∙ append_assoc (text_of short) item (after.0 ++ y) in
    (item, after.0 ++ y, parts.0, older, cancelled (text_of short) x (item ++ (after.0 ++ y)) (same ∙ right), regrouped)

abbrev pub Begins : List (List ℕ) → List (List ℕ) → Type 0
Begins short long = (newer : List (List ℕ)) × (long ≡ newer ++ short)

begins_by : (item : List ℕ) (before long newer : List (List ℕ)) (x y : List ℕ) → AreSound (item ∷ before) → AreSound long → long ≡ newer ++ before
    → text_of (item ∷ before) ++ x ≡ text_of long ++ y → Begins (item ∷ before) long ⊎ Begins long (item ∷ before)
begins_by item before long [] x y h sound e same = inr (item ∷ [], ap (λ t. item ∷ t) (sym e))
begins_by item before long (n ∷ newer) x y h sound e same =
    let next = next_item before long newer n (item ++ x) y sound e (sym (append_assoc (text_of before) item x) ∙ same) in
    let one = no_item_begins_another item next.0 x next.1 h.1 next.3.1 next.4 in
    inl (next.2, next.5 ∙ ap (λ i. next.2 ++ (i ∷ before)) (sym one.0))

pub items_agree : (items others : List (List ℕ)) (x y : List ℕ) → AreSound items → AreSound others → text_of items ++ x ≡ text_of others ++ y
    → Begins items others ⊎ Begins others items
items_agree [] others x y h sound same = inl (others, sym (append-nil others))
items_agree (item ∷ before) others x y h sound same =
    elim (items_agree before others (item ++ x) y h.0 sound (sym (append_assoc (text_of before) item x) ∙ same)) [
      | inl shorter ↦ begins_by item before others shorter.0 x y h sound shorter.1 same
      | inr longer ↦ inr (item ∷ longer.0, ap (λ t. item ∷ t) longer.1)
    ]
