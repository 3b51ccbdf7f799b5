-- A gathered text grows.
use Rattle.std.proofs.Common.{◌≡◌, ◌∙◌, ◌++◌, ℕ, Bool, true, false, List, [], sym, ap, subst, append_assoc, append-nil, Option, Result, Ok, Err}
use Rattle.std.specs.Prelude.{MatchBool, is_err}
use Rattle.std.specs.Io.KnownBytes.{Appends}
use Rattle.outside.specs.Streams.{AppendsPrefix, Ends}
use Rattle.outside.specs.Gather.{IsHeld}
use Rattle.outside.proofs.Growth.{prefix_of_first, prefix_of_more, grown_twice}

-- by what a gather holds and whether it failed
abbrev pub Grown : Bool → List ℕ → Option (List ℕ) → Option (List ℕ) → List ℕ → Type 0
Grown failed held start now text = MatchBool failed (AppendsPrefix start now text) (IsHeld held start now text)

-- after a failure nothing changes, whatever is put
pub put_after_failure : (failed : Bool) (held held2 : List ℕ) (start now : Option (List ℕ)) (text bytes : List ℕ) → failed ≡ true → Grown failed held start now text → Grown failed held2 start now (text ++ bytes)
put_after_failure true held held2 start now text bytes e h = prefix_of_first start now text bytes h
put_after_failure false held held2 start now text bytes e h = cc

pub same_failure : (failed : Bool) (held held2 : List ℕ) (start now : Option (List ℕ)) (text : List ℕ) → failed ≡ true → Grown failed held start now text → Grown failed held2 start now text
same_failure true held held2 start now text e h = h
same_failure false held held2 start now text e h = cc

-- bytes are held after what is held
pub put_held : (failed : Bool) (held bytes held2 : List ℕ) (start now : Option (List ℕ)) (text : List ℕ) → failed ≡ false → held2 ≡ held ++ bytes
    → Grown failed held start now text → Grown failed held2 start now (text ++ bytes)
put_held true held bytes held2 start now text e is h = cc
put_held false held bytes held2 start now text e is h = record {
  prefix = h.prefix;
  grew = h.grew;
  text_is = ap (λ t. t ++ bytes) h.text_is ∙ (append_assoc h.prefix held bytes ∙ ap (λ t. h.prefix ++ t) (sym is));
}

-- what is held is written, and bytes after it
pub written_out : {T E : Type 0} (r : Result T E) (failed failed2 : Bool) (held bytes : List ℕ) (start now next : Option (List ℕ)) (text : List ℕ) → failed ≡ false → failed2 ≡ is_err r
    → Ends now next (held ++ bytes) r → Grown failed held start now text → Grown failed2 [] start next (text ++ bytes)
written_out r true failed2 held bytes start now next text e is w h = cc
written_out (Ok v) false failed2 held bytes start now next text e is w h = rw is (record {
  prefix = text ++ bytes;
  grew = subst (λ t. Appends start next t) (sym (ap (λ t. t ++ bytes) h.text_is ∙ append_assoc h.prefix held bytes)) (grown_twice start now next h.prefix (held ++ bytes) h.grew w);
  text_is = sym (append-nil _);
})
written_out (Err v) false failed2 held bytes start now next text e is w h =
    rw is (subst (λ t. AppendsPrefix start next t) (sym (ap (λ t. t ++ bytes) h.text_is ∙ append_assoc h.prefix held bytes)) (prefix_of_more start now next h.prefix (held ++ bytes) h.grew w))

-- with nothing held the text is written
pub all_written : (start now : Option (List ℕ)) (text : List ℕ) → IsHeld [] start now text → Appends start now text
all_written start now text h = subst (λ t. Appends start now t) (sym (h.text_is ∙ append-nil h.prefix)) h.grew

-- what is held is written
pub flushed : {T E : Type 0} (r : Result T E) (failed failed2 : Bool) (held : List ℕ) (start now next : Option (List ℕ)) (text : List ℕ) → failed ≡ false → failed2 ≡ is_err r
    → Ends now next held r → Grown failed held start now text → Grown failed2 [] start next text
flushed r failed failed2 held start now next text e is w h =
    subst (λ t. Grown failed2 [] start next t) (append-nil text)
    (written_out r failed failed2 held [] start now next text e is (subst (λ t. Ends now next t r) (sym (append-nil held)) w) h)

-- with nothing held, bytes are written at once
pub written_past : {T E : Type 0} (r : Result T E) (failed failed2 : Bool) (held bytes : List ℕ) (start now next : Option (List ℕ)) (text : List ℕ)
    → failed ≡ false → failed2 ≡ is_err r → held ≡ []
    → Ends now next bytes r → Grown failed held start now text → Grown failed2 held start next (text ++ bytes)
written_past r failed failed2 held bytes start now next text e is none w h =
    subst (λ t. Grown failed2 t start next (text ++ bytes)) (sym none)
    (written_out r failed failed2 [] bytes start now next text e is w (subst (λ t. Grown failed t start now text) none h))

-- the end, where nothing is held
pub ended_well : (failed : Bool) (start now : Option (List ℕ)) (text : List ℕ) → failed ≡ false → Grown failed [] start now text → Appends start now text
ended_well true start now text e h = cc
ended_well false start now text e h = all_written start now text h

pub ended_badly : (failed : Bool) (held : List ℕ) (start now : Option (List ℕ)) (text : List ℕ) → failed ≡ true → Grown failed held start now text → AppendsPrefix start now text
ended_badly true held start now text e h = h
ended_badly false held start now text e h = cc
