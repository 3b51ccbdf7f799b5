-- Readings whose commands are spelled one after another, of which only the last may be PostPost:
-- their bytes tell them.
use Rattle.std.proofs.Common.{◌≡◌, ◌∙◌, ℕ, ◌+◌, true, false, List, [], ◌∷◌, ◌++◌, length, refl, sym, ap, arith, append_assoc, length-append}
use Rattle.std.specs.Prelude.{reverse, IsFalse, if◌then◌else◌}
use Rattle.std.proofs.lemmas.Bool.{cond-true, cond-false}
use Rattle.std.proofs.lemmas.List.{reverse-append, reverse-reverse}
use Rattle.dvi_commands.specs.Spelling.{Spells}
use Rattle.dvi_commands.specs.Reading.{Placed, placed, placed_from}
use Rattle.dvi_commands.proofs.Commands.{placed_first}
use Rattle.page_index.specs.Document.{Reading, Sound, end_of, is_ended, is_postpost, text_of}

pub record IsSpelled (before : Reading) (p : Placed) : Type 0 where
  pub unfinished : IsFalse (is_ended before)
  pub place : p.at ≡ end_of before
  pub spelled : Spells p.command p.bytes

abbrev pub AreSpelled : Reading → Type 0
AreSpelled [] = Unit {0}
AreSpelled (p ∷ before) = AreSpelled before × IsSpelled before p

pub sound_spelled : (res : ℕ) (r : Reading) → Sound res r → AreSpelled r
sound_spelled res [] s = tt
sound_spelled res (p ∷ before) s = (sound_spelled res before s.0, record { unfinished = s.1.unfinished; place = s.1.place; spelled = s.1.spelled })

pub text_length : (r : Reading) → AreSpelled r → length (text_of r) ≡ end_of r
text_length [] s = refl
text_length (p ∷ before) s = length-append (text_of before) p.bytes ∙ omega (arith, text_length before s.0, s.1.place)

pub reversed_onto : (p : Placed) (before x : List Placed) → reverse (p ∷ before) ++ x ≡ reverse before ++ (p ∷ x)
reversed_onto p before x = ap (λ t. t ++ x) (reverse-append (p ∷ []) before) ∙ append_assoc (reverse before) (p ∷ []) x

all_placed : (r : Reading) (rest : List ℕ) → AreSpelled r → placed_from 0 (text_of r ++ rest) ≡ reverse r ++ placed_from (end_of r) rest
all_placed [] rest s = refl
all_placed (p ∷ before) rest s =
    ap (placed_from 0) (append_assoc (text_of before) p.bytes rest)
    ∙ all_placed before (p.bytes ++ rest) s.0
    ∙ ap (λ cs. reverse before ++ cs) (placed_first (end_of before) p.command p.bytes rest s.1.spelled)
    ∙ ap (λ n. reverse before ++ (placed n p.command p.bytes ∷ placed_from (n + length p.bytes) rest)) (sym s.1.place)
    ∙ sym (reversed_onto p before (placed_from (p.at + length p.bytes) rest))

-- ---- up to PostPost

up_to_end : List Placed → List Placed
up_to_end [] = []
up_to_end (p ∷ ps) = if is_postpost p.command then p ∷ [] else p ∷ up_to_end ps

passed : (before x : List Placed) → AreSpelled before → is_ended before ≡ false → up_to_end (reverse before ++ x) ≡ reverse before ++ up_to_end x
unfolding up_to_end
passed [] x s e = refl
passed (q ∷ before) x s e =
    ap up_to_end (reversed_onto q before x)
    ∙ passed before (q ∷ x) s.0 s.1.unfinished
    ∙ ap (λ t. reverse before ++ t) (cond-false (is_postpost q.command) (q ∷ []) (q ∷ up_to_end x) e)
    ∙ sym (reversed_onto q before (up_to_end x))

told : (r : Reading) (rest : List ℕ) → AreSpelled r → is_ended r ≡ true → up_to_end (placed_from 0 (text_of r ++ rest)) ≡ reverse r
unfolding up_to_end
told [] rest s e = cc
told (p ∷ before) rest s e =
    let more = placed_from (p.at + length p.bytes) rest in
    ap up_to_end (all_placed (p ∷ before) rest s ∙ reversed_onto p before more)
    ∙ passed before (p ∷ more) s.0 s.1.unfinished
    ∙ ap (λ t. reverse before ++ t) (cond-true (is_postpost p.command) (p ∷ []) (p ∷ up_to_end more) e)
    ∙ sym (reverse-append (p ∷ []) before)

-- two such readings of one file are one
pub one_reading : (r s : Reading) (x y : List ℕ) → AreSpelled r → AreSpelled s → is_ended r ≡ true → is_ended s ≡ true → text_of r ++ x ≡ text_of s ++ y → r ≡ s
one_reading r s x y hr hs er es same =
    sym (reverse-reverse r)
    ∙ ap reverse (sym (told r x hr er) ∙ ap (λ t. up_to_end (placed_from 0 t)) same ∙ told s y hs es)
    ∙ reverse-reverse s
