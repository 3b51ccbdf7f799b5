-- Fields that are judged one by one: where they are all there, and that bytes after them change
-- nothing.
use Rattle.std.proofs.Common.{◌≡◌, ℕ, ◌+◌, ◌≤◌, ℤ, Bool, true, false, cond, List, [], ◌∷◌, ◌++◌, length, Option, Some, None, refl, sym, ap, ◌∙◌, arith}
use Rattle.std.specs.Prelude.{◌||◌, nat_lt, is_some}
use Rattle.std.proofs.lemmas.Bool.{le-ltb}
use Rattle.std.proofs.lemmas.List.{length-append}
use Rattle.big_endian.specs.Fields.{Field, judge}
use Rattle.dvi_commands.specs.Spelling.{Preamble, Pre, PostPost, spelling}
use Rattle.page_index.specs.Judged.{preamble_fields, postpost_fields, preamble_fault, postpost_fault}
use Rattle.page_index.specs.declared.faults.DocFault.TheVariants.{Truncated}

abbrev first_wrong : {F : Type 0} → List (Field F) → Option F
first_wrong [] = None
first_wrong (f ∷ fields) = cond f.right (first_wrong fields) f.fault

abbrev pub AllThere : {F : Type 0} → ℕ → List (Field F) → Type 0
AllThere len [] = Unit {0}
AllThere len (f ∷ fields) = (f.until ≤ len) × AllThere len fields

judge_whole : {F : Type 0} (len : ℕ) (missing : F) (fields : List (Field F)) → AllThere len fields → judge len missing fields ≡ first_wrong fields
judge_whole len missing [] h = refl
judge_whole len missing (f ∷ fields) h = rw (le-ltb len f.until h.0) (ap (λ x. cond f.right x f.fault) (judge_whole len missing fields h.1))

-- ---- where nothing is wrong all fields are there

-- each field that may be wrong has a fault
abbrev pub AreNamed : {F : Type 0} → List (Field F) → Type 0
AreNamed [] = Unit {0}
AreNamed (f ∷ fields) = ((is_some f.fault || f.right) ≡ true) × AreNamed fields

ltb-false : (a b : ℕ) → nat_lt a b ≡ false → b ≤ a
ltb-false a b h = grind arith

pub all_there : {F : Type 0} (len : ℕ) (missing : F) (fields : List (Field F)) → AreNamed fields → judge len missing fields ≡ None → AllThere len fields
all_there len missing [] named h = tt
all_there len missing (f ∷ fields) named h = by (nat_lt len f.until) refl f.right f.fault named.0 h (all_there len missing fields named.1)
  where
    by : (less : Bool) → nat_lt len f.until ≡ less → (right : Bool) (fault : Option _) → (is_some fault || right) ≡ true → cond less (Some missing) (cond right (judge len missing fields) fault) ≡ None
        → (judge len missing fields ≡ None → AllThere len fields) → (f.until ≤ len) × AllThere len fields
    by true e right fault n h rest = cc
    by false e true fault n h rest = (ltb-false len f.until e, rest h)
    by false e false None n h rest = cc
    by false e false (Some x) n h rest = cc

pub preamble_there : (res : ℕ) (bytes : List ℕ) → preamble_fault res bytes ≡ None → AllThere (length bytes) (preamble_fields res bytes)
preamble_there res bytes h = all_there (length bytes) (Truncated (length bytes)) (preamble_fields res bytes) (refl, (refl, (refl, (refl, (refl, (refl, (refl, (refl, tt)))))))) h

pub postpost_there : (post : Option ℕ) (at : ℕ) (bytes : List ℕ) → postpost_fault post at bytes ≡ None → AllThere (length bytes) (postpost_fields post at bytes)
postpost_there post at bytes h = all_there (length bytes) (Truncated (at + length bytes)) (postpost_fields post at bytes) (refl, (refl, (refl, tt))) h

-- ---- bytes after

pub preamble_same : (res : ℕ) (p : Preamble) (more : List ℕ) → preamble_fault res (spelling (Pre p) 0 ++ more) ≡ preamble_fault res (spelling (Pre p) 0)
preamble_same res p more =
    let own : AllThere (length (spelling (Pre p) 0)) (preamble_fields res (spelling (Pre p) 0)) =
    (omega arith, (omega arith, (omega arith, (omega arith, (omega arith, (omega arith, (omega arith, (omega arith, tt)))))))) in
    let long : AllThere (length (spelling (Pre p) 0 ++ more)) (preamble_fields res (spelling (Pre p) 0)) = (
      omega (arith, length-append p.text more),
      (
        omega (arith, length-append p.text more),
        (
          omega (arith, length-append p.text more),
          (
            omega (arith, length-append p.text more),
            (omega (arith, length-append p.text more), (omega (arith, length-append p.text more), (omega (arith, length-append p.text more), (omega (arith, length-append p.text more), tt)))),
          ),
        ),
      ),
    ) in
    judge_whole _ _ (preamble_fields res (spelling (Pre p) 0)) long ∙ sym (judge_whole _ _ (preamble_fields res (spelling (Pre p) 0)) own)

pub postpost_same : (post : Option ℕ) (at : ℕ) (q : ℤ) (id : ℕ) (more : List ℕ) → postpost_fault post at (spelling (PostPost q id) 0 ++ more) ≡ postpost_fault post at (spelling (PostPost q id) 0)
postpost_same post at q id more =
    let own : AllThere (length (spelling (PostPost q id) 0)) (postpost_fields post at (spelling (PostPost q id) 0)) = (omega arith, (omega arith, (omega arith, tt))) in
    let long : AllThere (length (spelling (PostPost q id) 0 ++ more)) (postpost_fields post at (spelling (PostPost q id) 0)) = (omega arith, (omega arith, (omega arith, tt))) in
    judge_whole _ _ (postpost_fields post at (spelling (PostPost q id) 0)) long ∙ sym (judge_whole 6 (Truncated (at + 6)) (postpost_fields post at (spelling (PostPost q id) 0)) own)
