-- Which fonts leave, found from the least recently used on.
use Rattle.std.proofs.Common.{◌≡◌, ℕ, zero, suc, ◌+◌, ◌-◌, ◌≤◌, leb, Bool, true, false, cond, ◌&&◌, List, [], ◌∷◌, ◌++◌, length, map, take, drop, reverse, refl, sym, ap, ◌∙◌, arith}
use Rattle.std.specs.Arc.{arc_value}
use Rattle.std.specs.declared.sync.Arc.{Arc}
use Rattle.std.specs.Map.{keys_of, values_of}
use Rattle.std.proofs.lemmas.List.{reverse-append, map-append, length-map, length-append, length-reverse, length-drop, length-take-le, take_all, drop_all, take-map, take-take, take_at, drop_at, drop-drop, take-append-drop, append_assoc}
use Rattle.outside.specs.declared.keys.FontKey.{FontKey}
use Rattle.cache_core.specs.declared.limits.Limits.{Limits}
use Rattle.cache_core.specs.Machine.{weights, fit, staying, stay, gone_of}
use Rattle.cache_core.specs.Views.{fonts_of, weighed, fonts_to_evict}

weights_append : (xs ys : List (FontKey × ℕ)) → weights (xs ++ ys) ≡ weights xs + weights ys
weights_append [] ys = omega arith
weights_append (x ∷ xs) ys = let rest = weights_append xs ys in omega arith

module _ {T A : Type 0} where
  abbrev pub font_seen : Arc FontKey A × Arc T A → FontKey × T
  font_seen f = (arc_value f.0, arc_value f.1)

  module _ (weighs : T → ℕ) where
    abbrev pub heavy : List (Arc FontKey A × Arc T A) → List (FontKey × ℕ)
    heavy es = weighed weighs (fonts_of es)

    pub heavy_length : (es : List (Arc FontKey A × Arc T A)) → length (heavy es) ≡ length es
    heavy_length es = length-map (fonts_of es) (λ (f : FontKey × T). (f.0, weighs f.1)) ∙ length-map es font_seen

    pub heavy_take : (n : ℕ) (es : List (Arc FontKey A × Arc T A)) → take n (heavy es) ≡ heavy (take n es)
    heavy_take n es = take-map (λ (f : FontKey × T). (f.0, weighs f.1)) n (fonts_of es) ∙ ap (weighed weighs) (take-map font_seen n es)

    pub heavy_more : (t : List (Arc FontKey A × Arc T A)) (e : Arc FontKey A × Arc T A) → weights (heavy (t ++ e ∷ [])) ≡ weights (heavy t) + weighs (arc_value e.1)
    heavy_more t e =
        ap (λ l. weights (weighed weighs l)) (map-append font_seen t (e ∷ []))
        ∙ (ap weights (map-append (λ (f : FontKey × T). (f.0, weighs f.1)) (fonts_of t) (font_seen e ∷ []))
        ∙ (weights_append (heavy t) ((arc_value e.0, weighs (arc_value e.1)) ∷ []) ∙ omega arith))

    module _ (limits : Limits) (w : ℕ) (es : List (Arc FontKey A × Arc T A)) where
      -- the keys, where one more has come in
      abbrev pub all : FontKey → List (FontKey × ℕ)
      all k = (k, w) ∷ heavy es

      -- n of the others may be left: what the search has found until then
      pub record Searched (n : ℕ) (oldest : List (Arc FontKey A × Arc T A)) (xs ys : List (Arc FontKey A)) (r : ℕ) : Type 0 where
        pub left : oldest ≡ take n es
        pub same : (k : FontKey) → stay limits (all k) ≡ staying limits (all k) (suc n)
        pub noted : map arc_value xs ≡ reverse (keys_of (drop n (fonts_of es)))
        pub told : map arc_value ys ≡ map arc_value xs
        pub rest : r ≡ weights (heavy (take n es))

      abbrev pub test : ℕ → ℕ → Bool
      test n rest = leb (n + 1) limits.capacity && leb (w + rest) limits.budget

      pub starts : (n total : ℕ) → n ≡ length es → total ≡ weights (heavy es) → Searched n es [] [] total
      starts n total is same = record {
        left = sym (take_all n es (omega arith));
        same = λ k. ap (λ m. staying limits (all k) (suc m)) (heavy_length es ∙ sym is);
        noted = ap (λ (l : List (FontKey × T)). reverse (keys_of l)) (sym (drop_all n (fonts_of es) (let l = length-map es font_seen in omega arith)));
        told = refl;
        rest = same ∙ ap (λ l. weights (heavy l)) (sym (take_all n es (omega arith)));
      }

      fit_is : (k : FontKey) (n rest : ℕ) → n ≤ length es → rest ≡ weights (heavy (take n es)) → fit limits (take (suc n) (all k)) ≡ test n rest
      fit_is k n rest some is =
          let l : length (take n (heavy es)) ≡ n = length-take-le n (heavy es) (let h = heavy_length es in omega arith) in
          let a : suc (length (take n (heavy es))) ≡ n + 1 = omega arith in
          let b : w + weights (take n (heavy es)) ≡ w + rest = ap (λ l. w + weights l) (heavy_take n es) ∙ ap (λ m. w + m) (sym is) in
          λ i. leb (a i) limits.capacity && leb (b i) limits.budget

      pub stops : (k : FontKey) (n rest : ℕ) → n ≤ length es → rest ≡ weights (heavy (take n es)) → test n rest ≡ true → staying limits (all k) (suc n) ≡ n + 1
      stops k n rest some is t =
          let one : suc n ≡ n + 1 = omega arith in
          ap (λ b. cond b (suc n) (staying limits (all k) n)) (fit_is k n rest some is ∙ t) ∙ one

      goes : (k : FontKey) (n rest : ℕ) → n ≤ length es → rest ≡ weights (heavy (take n es)) → test n rest ≡ false → staying limits (all k) (suc n) ≡ staying limits (all k) n
      goes k n rest some is f = ap (λ b. cond b (suc n) (staying limits (all k) n)) (fit_is k n rest some is ∙ f)

      module _ (m : ℕ) (oldest t : List (Arc FontKey A × Arc T A)) (e : Arc FontKey A × Arc T A) (noted told : List (Arc FontKey A)) (rest : ℕ) (some : suc m ≤ length es)
          (s : Searched (suc m) oldest noted told rest) (last : oldest ≡ t ++ e ∷ []) where
        split : take (suc m) es ≡ t ++ e ∷ []
        split = sym s.left ∙ last

        count : length t ≡ m
        count =
            let a = length-take-le (suc m) es some in
            let b = ap length split in
            let c = length-append t (e ∷ []) in
            omega arith

        front : t ≡ take m es
        front = sym (take_at t (e ∷ []) m count) ∙ (ap (take m) (sym split) ∙ take-take m (suc m) es (omega arith))

        whole : es ≡ t ++ e ∷ drop (suc m) es
        whole = sym (take-append-drop (suc m) es) ∙ (ap (λ l. l ++ drop (suc m) es) split ∙ append_assoc t (e ∷ []) (drop (suc m) es))

        fonts_whole : fonts_of es ≡ fonts_of t ++ font_seen e ∷ fonts_of (drop (suc m) es)
        fonts_whole = ap fonts_of whole ∙ map-append font_seen t (e ∷ drop (suc m) es)

        back : drop m (fonts_of es) ≡ font_seen e ∷ fonts_of (drop (suc m) es)
        back = ap (drop m) fonts_whole ∙ drop_at (fonts_of t) (font_seen e ∷ fonts_of (drop (suc m) es)) m (length-map t font_seen ∙ count)

        behind : drop (suc m) (fonts_of es) ≡ fonts_of (drop (suc m) es)
        behind =
            let one : suc m ≡ m + 1 = omega arith in
            ap (λ n. drop n (fonts_of es)) one ∙ (sym (drop-drop 1 m (fonts_of es)) ∙ ap (drop 1) back)

        pub enough : weighs (arc_value e.1) ≤ rest
        enough =
            let a = heavy_more t e in
            let b : rest ≡ weights (heavy (t ++ e ∷ [])) = s.rest ∙ ap (λ l. weights (heavy l)) split in
            omega arith

        pub searched : (x y : Arc FontKey A) (xs ys : List (Arc FontKey A)) (rest' : ℕ) → xs ≡ noted ++ x ∷ [] → ys ≡ told ++ y ∷ [] → arc_value x ≡ arc_value e.0 → arc_value y ≡ arc_value e.0 → rest' ≡ rest - weighs (arc_value e.1)
            → test (suc m) rest ≡ false → Searched m t xs ys rest'
        searched x y xs ys rest' xs_are ys_are p q less f = record {
          left = front;
          same = λ k. s.same k ∙ goes k (suc m) rest some s.rest f;
          noted = ap (map arc_value) xs_are ∙ (map-append arc_value noted (x ∷ []) ∙ ((λ i. (s.noted ∙ ap (λ l. reverse (keys_of l)) behind) i ++ p i ∷ [])
              ∙ (sym (reverse-append (arc_value e.0 ∷ []) (keys_of (fonts_of (drop (suc m) es)))) ∙ ap (λ l. reverse (keys_of l)) (sym back))));
          told = ap (map arc_value) ys_are ∙ (map-append arc_value told (y ∷ []) ∙ ((λ i. s.told i ++ (q ∙ sym p) i ∷ []) ∙ (sym (map-append arc_value noted (x ∷ [])) ∙ sym (ap (map arc_value) xs_are))));
          rest =
              let a = heavy_more t e in
              let b : rest ≡ weights (heavy (t ++ e ∷ [])) = s.rest ∙ ap (λ l. weights (heavy l)) split in
              let c : weights (heavy t) ≡ weights (heavy (take m es)) = ap (λ l. weights (heavy l)) front in
              omega arith;
        }

-- ---- what the search has found, and the machine's words

keys_behind : {T : Type 0} (weighs : T → ℕ) (n : ℕ) (fs : List (FontKey × T)) → keys_of (drop n (weighed weighs fs)) ≡ keys_of (drop n fs)
keys_behind weighs zero [] = refl
keys_behind weighs zero (f ∷ fs) = ap (λ l. f.0 ∷ l) (keys_behind weighs zero fs)
keys_behind weighs (suc n) [] = refl
keys_behind weighs (suc n) (f ∷ fs) = keys_behind weighs n fs

pub gone_are : {T : Type 0} (weighs : T → ℕ) (limits : Limits) (k : FontKey) (w s : ℕ) (fs : List (FontKey × T)) → stay limits ((k, w) ∷ weighed weighs fs) ≡ s + 1
    → gone_of limits ((k, w) ∷ weighed weighs fs) ≡ reverse (keys_of (drop s fs))
gone_are weighs limits k w s fs is =
    let one : s + 1 ≡ suc s = omega arith in
    ap (λ n. reverse (keys_of (drop n ((k, w) ∷ weighed weighs fs)))) (is ∙ one) ∙ ap reverse (keys_behind weighs s fs)

pub fonts_behind : {T : Type 0} (n : ℕ) (f : FontKey × T) (fs : List (FontKey × T)) → drop (n + 1) (f ∷ fs) ≡ drop n fs
fonts_behind n f fs = let one : n + 1 ≡ suc n = omega arith in ap (λ m. drop m (f ∷ fs)) one

-- the fonts that leave
pub left_are : {T : Type 0} (weighs : T → ℕ) (limits : Limits) (k : FontKey) (font : T) (s : ℕ) (fs : List (FontKey × T)) → stay limits ((k, weighs font) ∷ weighed weighs fs) ≡ s + 1
    → fonts_to_evict limits weighs ((k, font) ∷ fs) ≡ reverse (values_of (drop s fs))
left_are weighs limits k font s fs is = ap (λ n. reverse (values_of (drop n ((k, font) ∷ fs)))) is ∙ ap (λ l. reverse (values_of l)) (fonts_behind s (k, font) fs)

pub gone_count : {T A : Type 0} (n : ℕ) (es : List (Arc FontKey A × Arc T A)) (xs : List (Arc FontKey A)) → map arc_value xs ≡ reverse (keys_of (drop n (fonts_of es)))
    → length xs ≡ length es - n
gone_count n es xs is =
    sym (length-map xs arc_value) ∙ (ap length is ∙ (length-reverse (keys_of (drop n (fonts_of es))) ∙ (length-map (drop n (fonts_of es)) (λ f. f.0)
    ∙ (length-drop n (fonts_of es) ∙ ap (λ m. m - n) (length-map es font_seen)))))
