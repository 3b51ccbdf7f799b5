-- What is appended, one page more.
use Rattle.std.proofs.Common.{◌≡◌, ◌∙◌, ℕ, zero, suc, ◌+◌, ◌%◌, ◌<◌, ◌≤◌, ℤ, pos, List, [], ◌∷◌, ◌++◌, length, get_or, take, drop, map, Vec, Global, sym, ap, subst, arith, append_assoc, append-nil, length-append}
use Rattle.std.proofs.lemmas.List.{drop_more, take_all, take_more}
use Rattle.std.proofs.lemmas.List.Elements.{All-push}
use Rattle.std.proofs.lemmas.List.Concat.{flat_map-append}
use Rattle.std.specs.Prelude.{All}
use Rattle.std.specs.List.{AllByRecursion}
use Rattle.dvi_commands.specs.Spelling.{Bop, DviCommand, Eop, Post, PostPost, Pre}
use Rattle.dvi_commands.specs.ShortestSpelling.{shortest_spelling}
use Rattle.pixel_round.specs.declared.units.Units.{Units}
use Rattle.outside.specs.declared.keys.FontKey.{FontKey}
use Rattle.sample_maker.specs.DviFile.{IsFontSpelled, IsWritable, beginning, definition, fonts_text, last_page, page_bytes, pages_text, postamble, preamble}

abbrev texts : List (Vec ℕ Global) → List (List ℕ)
texts pages = map (λ page. page.items) pages

here : (pages : List (Vec ℕ Global)) (i : ℕ) (p : Vec ℕ Global) → i < length pages → p ≡ get_or pages i p → texts (drop i pages) ≡ p.items ∷ texts (drop (i + 1) pages)
here pages i p lt e = ap texts (drop_more pages i p lt) ∙ ap (λ x. x.items ∷ texts (drop (i + 1) pages)) (sym e)

module _ (prefix now : List ℕ) (number : ℕ) (back next : ℤ) (pages : List (Vec ℕ Global)) (i : ℕ) (p : Vec ℕ Global) (lt : i < length pages) (e : p ≡ get_or pages i p)
    (appended : now ≡ prefix ++ page_bytes number back p.items) (at : next ≡ pos (length prefix)) where
  long : length prefix + length (page_bytes number back p.items) ≡ length now
  long = omega (arith, length-append prefix (page_bytes number back p.items), ap length appended)

  pub one_page : (whole : List ℕ) → whole ≡ prefix ++ pages_text (length prefix) number back (texts (drop i pages))
      → whole ≡ now ++ pages_text (length now) (number + 1) next (texts (drop (i + 1) pages))
  one_page whole w =
      w ∙ ap (λ t. prefix ++ pages_text (length prefix) number back t) (here pages i p lt e)
      ∙ sym (append_assoc prefix (page_bytes number back p.items) (pages_text (length prefix + length (page_bytes number back p.items)) (number + 1) (pos (length prefix)) (texts (drop (i + 1) pages))))
      ∙ ap (λ t. t ++ pages_text (length prefix + length (page_bytes number back p.items)) (number + 1) (pos (length prefix)) (texts (drop (i + 1) pages))) (sym appended)
      ∙ ap (λ n. now ++ pages_text n (number + 1) (pos (length prefix)) (texts (drop (i + 1) pages))) long
      ∙ ap (λ z. now ++ pages_text (length now) (number + 1) z (texts (drop (i + 1) pages))) (sym at)

  pub one_pointer : (last : ℤ) → last ≡ last_page (length prefix) number back (texts (drop i pages)) → last ≡ last_page (length now) (number + 1) next (texts (drop (i + 1) pages))
  one_pointer last w =
      w ∙ ap (last_page (length prefix) number back) (here pages i p lt e)
      ∙ ap (λ n. last_page n (number + 1) (pos (length prefix)) (texts (drop (i + 1) pages))) long
      ∙ ap (λ z. last_page (length now) (number + 1) z (texts (drop (i + 1) pages))) (sym at)

pub prefix_fits : (a b prefix rest : List ℕ) (n : ℕ) → a ++ b ≡ prefix ++ rest → length a + length b < n → length prefix < n
prefix_fits a b prefix rest n e lt = omega (arith, ap length e, length-append a b, length-append prefix rest, lt)

-- the three parts of a page
abbrev noughts : List ℤ
noughts = pos 0 ∷ pos 0 ∷ pos 0 ∷ pos 0 ∷ pos 0 ∷ pos 0 ∷ pos 0 ∷ pos 0 ∷ pos 0 ∷ []

pub page_joined : (out a b body : List ℕ) (number : ℕ) (back x y : ℤ) → x ≡ pos number → y ≡ back → a ≡ out ++ shortest_spelling (Bop (x ∷ noughts) y) → b ≡ a ++ body
    → b ++ shortest_spelling Eop ≡ out ++ page_bytes number back body
unfolding page_bytes
page_joined out a b body number back x y ex ey ea eb =
    let bop : a ≡ out ++ shortest_spelling (beginning number back) = ea ∙ ap (λ z. out ++ shortest_spelling (Bop (z ∷ noughts) y)) ex ∙ ap (λ z. out ++ shortest_spelling (beginning number z)) ey in
    ap (λ t. t ++ shortest_spelling Eop) (eb ∙ ap (λ t. t ++ body) bop)
    ∙ three out (shortest_spelling (beginning number back)) body (shortest_spelling Eop)
  where
    three : (o a b c : List ℕ) → ((o ++ a) ++ b) ++ c ≡ o ++ ((a ++ b) ++ c)
    three o a b c = simp append_assoc

pub writable_at : (fonts : List (ℤ × FontKey)) (i : ℕ) (d : ℤ × FontKey) → AllByRecursion IsWritable fonts → i < length fonts → IsWritable (get_or fonts i d)
writable_at [] i d h lt = absurd (omega arith)
writable_at (f ∷ fonts) zero d h lt = h.0
writable_at (f ∷ fonts) (suc i) d h lt = writable_at fonts i d h.1 (omega (arith, lt))

-- one font more
pub one_font : (prefix before now : List ℕ) (fonts : List (ℤ × FontKey)) (i : ℕ) (f : ℤ × FontKey) → i < length fonts → f ≡ get_or fonts i f → before ≡ prefix ++ fonts_text (take i fonts)
    → now ≡ before ++ shortest_spelling (definition f) → now ≡ prefix ++ fonts_text (take (i + 1) fonts)
one_font prefix before now fonts i f lt e eb en =
    en ∙ ap (λ t. t ++ shortest_spelling (definition f)) eb
    ∙ append_assoc prefix (fonts_text (take i fonts)) (shortest_spelling (definition f))
    ∙ ap (λ t. prefix ++ t) (ap (λ t. fonts_text (take i fonts) ++ t) (sym (append-nil (shortest_spelling (definition f))))
    ∙ sym (flat_map-append (λ (font : ℤ × FontKey). shortest_spelling (definition font)) (take i fonts) (f ∷ []))
    ∙ ap fonts_text (sym (taken_more fonts i f lt e)))
  where
    taken_more : (fonts : List (ℤ × FontKey)) (i : ℕ) (f : ℤ × FontKey) → i < length fonts → f ≡ get_or fonts i f → take (i + 1) fonts ≡ take i fonts ++ f ∷ []
    taken_more fonts i f lt e = take_more fonts i f lt ∙ ap (λ x. take i fonts ++ x ∷ []) (sym e)

pub spelled_more : (fonts : List (ℤ × FontKey)) (i : ℕ) (f : ℤ × FontKey) → i < length fonts → f ≡ get_or fonts i f → All IsFontSpelled (take i fonts) → IsFontSpelled f → All IsFontSpelled (take (i + 1) fonts)
spelled_more fonts i f lt e all one = subst (All IsFontSpelled) (sym (take_more fonts i f lt ∙ ap (λ x. take i fonts ++ x ∷ []) (sym e))) (All-push IsFontSpelled (take i fonts) f all one)

pub all_taken : (fonts : List (ℤ × FontKey)) (i : ℕ) → length fonts ≤ i → All IsFontSpelled (take i fonts) → All IsFontSpelled fonts
all_taken fonts i le h = subst (All IsFontSpelled) (take_all i fonts le) h

-- ---- the numbers of units, as they are written

pub preamble_same : (u : Units) (x y z : ℤ) → x ≡ pos u.num → y ≡ pos u.den → z ≡ pos u.mag
    → shortest_spelling (Pre (record { id = 2; num = x; den = y; mag = z; text = [] })) ≡ shortest_spelling (preamble u)
preamble_same u x y z ex ey ez =
    ap (λ k. shortest_spelling (Pre (record { id = 2; num = k; den = y; mag = z; text = [] }))) ex
    ∙ ap (λ k. shortest_spelling (Pre (record { id = 2; num = pos u.num; den = k; mag = z; text = [] }))) ey
    ∙ ap (λ k. shortest_spelling (Pre (record { id = 2; num = pos u.num; den = pos u.den; mag = k; text = [] }))) ez

abbrev closing : ℤ → ℤ → ℤ → ℤ → ℕ → DviCommand
closing back x y z n = Post (record { back = back; num = x; den = y; mag = z; tallest = pos 0; widest = pos 0; deepest = 0; pages = n })

pub postamble_same : (u : Units) (back b x y z : ℤ) (count n : ℕ) → b ≡ back → x ≡ pos u.num → y ≡ pos u.den → z ≡ pos u.mag → n ≡ count % 65536
    → shortest_spelling (closing b x y z n) ≡ shortest_spelling (postamble u back count)
postamble_same u back b x y z count n eb ex ey ez en =
    ap (λ k. shortest_spelling (closing k x y z n)) eb
    ∙ ap (λ k. shortest_spelling (closing back k y z n)) ex
    ∙ ap (λ k. shortest_spelling (closing back (pos u.num) k z n)) ey
    ∙ ap (λ k. shortest_spelling (closing back (pos u.num) (pos u.den) k n)) ez
    ∙ ap (λ k. shortest_spelling (closing back (pos u.num) (pos u.den) (pos u.mag) k)) en

pub post_post_same : (q : ℤ) (post : ℕ) → q ≡ pos post → shortest_spelling (PostPost q 2) ≡ shortest_spelling (PostPost (pos post) 2)
post_post_same q post e = ap (λ k. shortest_spelling (PostPost k 2)) e
