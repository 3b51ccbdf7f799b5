-- A VF file has one list of items and no fault; bytes have one first fault at most.
use Rattle.std.proofs.Common.{◌≡◌, ◌∙◌, ◌≤◌, ◌⊎◌, inl, inr, ℕ, List, [], ◌∷◌, ◌++◌, Option, Some, None, sym, ap, subst, arith}
use Rattle.std.specs.Option.{MatchOption}
use Rattle.std.proofs.lemmas.Bool.{true≢false}
use Rattle.vf_reader.specs.Preamble.{preamble_fault}
use Rattle.vf_reader.specs.Items.{IsCut, code_of, opcode, program_of, text_of}
use Rattle.vf_reader.specs.Locals.{local_fault}
use Rattle.vf_reader.specs.Fonts.{AreSound, IsItemSound, IsVfFile}
use Rattle.vf_reader.specs.Faults.{IsFaultAfter, IsFaultOfItems, IsMisplaced, IsWholeFault}
use Rattle.vf_reader.specs.Laws.{FilesAreReadOneWay, FilesHaveNoFault, FirstFaultsAreOne}
use Rattle.vf_reader.specs.declared.faults.VfFault.{VfFault}
use Rattle.vf_reader.proofs.OneItem.{misplaced_high, no_item_begins_another, not_closing, not_cut, not_misplaced}
use Rattle.vf_reader.proofs.OneProgram.{none_some, one_program_fault, some_is, sound_has_no_fault}
use Rattle.vf_reader.proofs.ItemLists.{Begins, cancelled, items_agree, next_item}

-- ---- whole items

sound_is_not_wrong : (before : List (List ℕ)) (item : List ℕ) (f : VfFault) → IsItemSound before item → IsWholeFault before item f → ⊥
sound_is_not_wrong before item f sound (inl wrong) =
    let are = sound.packet wrong.0 in
    sound_has_no_fault (code_of item) 0 are.0 wrong.1.0 (program_of item) f are.1 wrong.1.1
sound_is_not_wrong before item f sound (inr wrong) = none_some (local_fault before item) f (sound.local wrong.0) wrong.1

one_wrong : (before : List (List ℕ)) (item : List ℕ) (f g : VfFault) → IsWholeFault before item f → IsWholeFault before item g → f ≡ g
one_wrong before item f g (inl a) (inl b) = one_program_fault (code_of item) 0 a.1.0 b.1.0 (program_of item) f g a.1.1 b.1.1
one_wrong before item f g (inl a) (inr b) = absurd (true≢false (sym a.0 ∙ b.0))
one_wrong before item f g (inr a) (inl b) = absurd (true≢false (sym b.0 ∙ a.0))
one_wrong before item f g (inr a) (inr b) = some_is (local_fault before item) f g a.1 b.1

-- ---- after sound items

-- where a sound item follows there is no fault
no_fault_there : (items : List (List ℕ)) (item more : List ℕ) (f : VfFault) → AreSound (item ∷ items) → IsFaultAfter items (item ++ more) f → ⊥
no_fault_there items item more f h (inl (inl cut)) = not_cut item more h.1 cut.0
no_fault_there items item more f h (inl (inr misplaced)) = not_misplaced item more h.1 misplaced.0
no_fault_there items item more f h (inr w) =
    let same : w.item ≡ item = (no_item_begins_another w.item item w.more more w.is h.1 (sym w.here)).0 in
    sound_is_not_wrong items item f h.2 (subst (λ (p : List ℕ). IsWholeFault items p f) same w.wrong)

-- nor where the closing command follows
closing_is_placed : IsMisplaced 248 → ⊥
closing_is_placed (inl same) = omega (arith, same)
closing_is_placed (inr high) = omega (arith, high)

no_fault_at_end : (items : List (List ℕ)) (unused : List ℕ) (f : VfFault) → IsFaultAfter items (248 ∷ unused) f → ⊥
no_fault_at_end items unused f (inl (inl cut)) = absurd (omega (arith, cut.0.0))
no_fault_at_end items unused f (inl (inr misplaced)) = closing_is_placed misplaced.0
no_fault_at_end items unused f (inr w) = not_closing w.item w.more unused w.is w.here

apart : (rest : List ℕ) → IsCut rest → IsMisplaced (opcode rest) → ⊥
apart rest cut misplaced = by (opcode rest) cut.0 (misplaced_high (opcode rest) misplaced)
  where
    by : (op : ℕ) → op ≤ 246 → 247 ≤ op → ⊥
    by op low high = omega arith

one_after : (items : List (List ℕ)) (rest : List ℕ) (f g : VfFault) → IsFaultAfter items rest f → IsFaultAfter items rest g → f ≡ g
one_after items rest f g (inl (inl a)) (inl (inl b)) = a.1 ∙ sym b.1
one_after items rest f g (inl (inl a)) (inl (inr b)) = absurd (apart rest a.0 b.0)
one_after items rest f g (inl (inr a)) (inl (inl b)) = absurd (apart rest b.0 a.0)
one_after items rest f g (inl (inr a)) (inl (inr b)) = a.1 ∙ sym b.1
one_after items rest f g (inl (inl a)) (inr w) = not_cut w.item w.more w.is (subst IsCut w.here a.0)
one_after items rest f g (inl (inr a)) (inr w) = not_misplaced w.item w.more w.is (subst (λ (r : List ℕ). IsMisplaced (opcode r)) w.here a.0)
one_after items rest f g (inr v) (inl (inl b)) = not_cut v.item v.more v.is (subst IsCut v.here b.0)
one_after items rest f g (inr v) (inl (inr b)) = not_misplaced v.item v.more v.is (subst (λ (r : List ℕ). IsMisplaced (opcode r)) v.here b.0)
one_after items rest f g (inr v) (inr w) =
    let same : w.item ≡ v.item = (no_item_begins_another w.item v.item w.more v.more w.is v.is (sym w.here ∙ v.here)).0 in
    one_wrong items v.item f g v.wrong (subst (λ (p : List ℕ). IsWholeFault items p g) same w.wrong)

-- ---- files

pub files_are_read_one_way : FilesAreReadOneWay
files_are_read_one_way bytes r s hr hs = by (items_agree r s (248 ∷ hr.unused) (248 ∷ hs.unused) hr.sound hs.sound same)
  where
    same : text_of r ++ 248 ∷ hr.unused ≡ text_of s ++ 248 ∷ hs.unused
    same = sym hr.whole ∙ hs.whole

    by : (Begins r s ⊎ Begins s r) → r ≡ s
    by (inl b) = longer b.0 b.1
      where
        longer : (newer : List (List ℕ)) → s ≡ newer ++ r → r ≡ s
        longer [] eq = sym eq
        longer (m ∷ newer) eq = let q = next_item r s newer m _ _ hs.sound eq same in not_closing q.0 q.1 hr.unused q.3.1 q.4
    by (inr b) = shorter b.0 b.1
      where
        shorter : (newer : List (List ℕ)) → r ≡ newer ++ s → r ≡ s
        shorter [] eq = eq
        shorter (m ∷ newer) eq = let q = next_item s r newer m _ _ hr.sound eq (sym same) in not_closing q.0 q.1 hs.unused q.3.1 q.4

no_fault : (d r : List (List ℕ)) (unused rest : List ℕ) (f : VfFault) → AreSound d → AreSound r → text_of d ++ 248 ∷ unused ≡ text_of r ++ rest → IsFaultAfter r rest f → ⊥
no_fault d r unused rest f hd hr same e = by (items_agree d r (248 ∷ unused) rest hd hr same)
  where
    here : r ≡ d → ⊥
    here eq =
        let is : rest ≡ 248 ∷ unused = cancelled (text_of r) rest (248 ∷ unused) (sym same ∙ ap (λ t. text_of t ++ 248 ∷ unused) (sym eq)) in
        no_fault_at_end r unused f (subst (λ (b : List ℕ). IsFaultAfter r b f) is e)

    by : (Begins d r ⊎ Begins r d) → ⊥
    by (inl b) = longer b.0 b.1
      where
        longer : (newer : List (List ℕ)) → r ≡ newer ++ d → ⊥
        longer [] eq = here eq
        longer (m ∷ newer) eq = let q = next_item d r newer m (248 ∷ unused) rest hr eq same in not_closing q.0 q.1 unused q.3.1 q.4
    by (inr b) = shorter b.0 b.1
      where
        shorter : (newer : List (List ℕ)) → d ≡ newer ++ r → ⊥
        shorter [] eq = here (sym eq)
        shorter (m ∷ newer) eq =
            let q = next_item r d newer m rest (248 ∷ unused) hd eq (sym same) in
            no_fault_there r q.0 q.1 f q.3 (subst (λ (b : List ℕ). IsFaultAfter r b f) q.4 e)

-- by the fault of the preamble, or the items
abbrev FaultBy : Option VfFault → List ℕ → VfFault → Type 0
FaultBy o bytes f = MatchOption o (IsFaultOfItems bytes f) (λ found. f ≡ found)

never_by : (o : Option VfFault) (bytes : List ℕ) (items : List (List ℕ)) (f : VfFault) → o ≡ None → IsVfFile bytes items → FaultBy o bytes f → ⊥
never_by None bytes items f none h a = no_fault items a.items h.unused a.rest f h.sound a.sound (sym h.whole ∙ a.text) a.after
never_by (Some found) bytes items f none h a = cc

pub files_have_no_fault : FilesHaveNoFault
files_have_no_fault bytes items f h e = never_by (preamble_fault bytes) bytes items f h.begins h e

one_fault : (r s : List (List ℕ)) (x y : List ℕ) (f g : VfFault) → AreSound r → AreSound s → text_of r ++ x ≡ text_of s ++ y → IsFaultAfter r x f → IsFaultAfter s y g → f ≡ g
one_fault r s x y f g hr hs same e h = by (items_agree r s x y hr hs same)
  where
    here : s ≡ r → f ≡ g
    here eq =
        let tail : x ≡ y = cancelled (text_of r) x y (same ∙ ap (λ t. text_of t ++ y) eq) in
        one_after r x f g e (subst (λ (t : List (List ℕ)). IsFaultAfter t x g) eq (subst (λ (b : List ℕ). IsFaultAfter s b g) (sym tail) h))

    by : (Begins r s ⊎ Begins s r) → f ≡ g
    by (inl b) = longer b.0 b.1
      where
        longer : (newer : List (List ℕ)) → s ≡ newer ++ r → f ≡ g
        longer [] eq = here eq
        longer (m ∷ newer) eq = let q = next_item r s newer m x y hs eq same in absurd (no_fault_there r q.0 q.1 f q.3 (subst (λ (b : List ℕ). IsFaultAfter r b f) q.4 e))
    by (inr b) = shorter b.0 b.1
      where
        shorter : (newer : List (List ℕ)) → r ≡ newer ++ s → f ≡ g
        shorter [] eq = here (sym eq)
        shorter (m ∷ newer) eq = let q = next_item s r newer m y x hr eq (sym same) in absurd (no_fault_there s q.0 q.1 g q.3 (subst (λ (b : List ℕ). IsFaultAfter s b g) q.4 h))

one_by : (o : Option VfFault) (bytes : List ℕ) (f g : VfFault) → FaultBy o bytes f → FaultBy o bytes g → f ≡ g
one_by None bytes f g a b = one_fault a.items b.items a.rest b.rest f g a.sound b.sound (sym a.text ∙ b.text) a.after b.after
one_by (Some found) bytes f g a b = a ∙ sym b

pub first_faults_are_one : FirstFaultsAreOne
first_faults_are_one bytes f g a b = one_by (preamble_fault bytes) bytes f g a b
