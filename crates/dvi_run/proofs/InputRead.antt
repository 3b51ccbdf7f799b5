-- What was read of an input whose bytes are known.
use Rattle.std.proofs.Common.{◌≡◌, ◌∙◌, ◌≤◌, ◌⊎◌, ◌++◌, inl, inr, ℕ, List, [], length, drop, refl, sym, ap, subst, append-nil, Option, Some, None}
use Rattle.std.proofs.Math.Seq.{drop-append_seam}
use Rattle.std.proofs.lemmas.List.{take_all, take_at}
use Rattle.dvi_run.specs.Reading.{InputChange, IsAllRead, IsRead, HoldsOfInput, ReadsGave, read_of, read_since}

read_is : (xs ys bytes : List ℕ) → xs ≡ bytes ++ ys → length bytes ≤ 67108865 → (length bytes ≡ 67108865) ⊎ (ys ≡ []) → read_of xs ≡ bytes
read_is xs ys bytes is few (inl full) = ap read_of is ∙ take_at bytes ys 67108865 full
read_is xs ys bytes is few (inr none) = ap read_of (is ∙ (ap (λ w. bytes ++ w) none ∙ append-nil bytes)) ∙ take_all 67108865 bytes few

-- what holds of the bytes that were read holds of what is read, where it is known
pub of_read : (P : List ℕ → Type 0) (old new : Option (List ℕ)) (bytes : List ℕ) → IsRead old new bytes → P bytes → HoldsOfInput old P
of_read P None new bytes r p = tt
of_read P (Some xs) None bytes r p = absurd r.taken
of_read P (Some xs) (Some ys) bytes r p = subst P (sym (read_is xs ys bytes r.taken r.few r.ends)) p

pub all_read : (old new : Option (List ℕ)) (bytes : List ℕ) → IsRead old new bytes → IsAllRead old new
all_read None new bytes r = tt
all_read (Some xs) None bytes r = absurd r.taken
all_read (Some xs) (Some ys) bytes r = r.taken ∙ ap (λ w. w ++ ys) (sym (read_is xs ys bytes r.taken r.few r.ends))

-- ---- what reads gave

since : (input : InputChange) (bytes : List ℕ) → ReadsGave input bytes → drop (length input.before.taken) input.after.taken ≡ bytes
since input bytes gave = ap (drop (length input.before.taken)) gave.grew ∙ drop-append_seam input.before.taken bytes

-- it is read whole
pub gave_whole : (input : InputChange) (bytes : List ℕ) → ReadsGave input bytes → IsRead (read_since input.before.taken input.after.taken) (Some []) bytes
gave_whole input bytes gave = record { taken = since input bytes gave ∙ sym (append-nil bytes); few = gave.known.few; ends = inr refl }

-- what holds of it holds of what the input had left, where that is known
pub of_known : (P : List ℕ → Type 0) (input : InputChange) (bytes : List ℕ) → ReadsGave input bytes → HoldsOfInput (read_since input.before.taken input.after.taken) P → HoldsOfInput input.before.left P
of_known P input bytes gave p =
    of_read P input.before.left input.after.left bytes gave.known
    (subst P (take_all 67108865 _ (subst (λ (n : ℕ). n ≤ 67108865) (sym (ap length is)) gave.known.few) ∙ is) p)
  where
    is : drop (length input.before.taken) input.after.taken ≡ bytes
    is = since input bytes gave
