-- Trails that grow by what a seat did for some keys, and then for others.
use Rattle.std.proofs.Common.{◌≡◌, inr, ℕ, ◌+◌, ◌-◌, ◌*◌, ◌^◌, ◌<◌, List, [], ◌∷◌, ◌++◌, Option, Some, None, refl, sym, ap, subst, ◌∙◌, arith, append_assoc, append-nil}
use Rattle.std.specs.Option.{option_map}
use Rattle.std.specs.Prelude.{IfSome}
use Rattle.outside.specs.declared.keys.FontKey.{FontKey}
use Rattle.cache_core.specs.declared.calls.Call.{Call}
use Rattle.cache_core.specs.declared.common.Common.{Common}
use Rattle.cache_core.specs.Histories.{AllWeigh, SeatCalls, AreOf, NoneReleased}
use Rattle.cache_core.proofs.Weights.{weigh_joined}
use Rattle.font_decode.specs.Desks.{GrewBy, IsWeightIn, LoadedFiles, Trail, ReleasedLast, files_loaded, misses, Loaded, SeatAnswered, TrailGrew}
use Rattle.font_decode.specs.Loads.{MAX_LOADS}
use Rattle.font_decode.proofs.FilesLoaded.{files_as, files_more, none_loaded}

-- ---- the keys asked

pub asked_none : (old : Option (List FontKey)) → GrewBy old old []
asked_none None = refl
asked_none (Some keys) = ap Some (sym (append-nil keys))

pub asked_more : (old mid new : Option (List FontKey)) (first second : List FontKey) → GrewBy old mid first → GrewBy mid new second → GrewBy old new (first ++ second)
asked_more None mid new first second e h = h ∙ ap (option_map (λ keys. keys ++ second)) e
asked_more (Some keys) mid new first second e h = h ∙ ap (option_map (λ asked. asked ++ second)) e ∙ ap Some (append_assoc keys first second)

-- ---- calls, and then others

of_more : (seat : ℕ) (xs ys : List Call) → AreOf seat xs → AreOf seat ys → AreOf seat (xs ++ ys)
of_more seat [] ys p q = q
of_more seat (c ∷ xs) ys p q = (p.0, of_more seat xs ys p.1 q)

none_more : (xs ys : List Call) → NoneReleased xs → NoneReleased ys → NoneReleased (xs ++ ys)
none_more [] ys p q = q
none_more (c ∷ xs) ys p q = (p.0, none_more xs ys p.1 q)

last_more : (xs ys : List Call) → NoneReleased xs → ReleasedLast ys → ReleasedLast (xs ++ ys)
last_more [] ys p q = q
last_more (c ∷ xs) ys p q = inr (p.0, last_more xs ys p.1 q)

for_more : (a b : List FontKey) (xs ys : List Call) → SeatCalls a xs → SeatCalls b ys → SeatCalls (a ++ b) (xs ++ ys)
for_more [] b xs ys e q = subst (λ (l : List Call). SeatCalls b (l ++ ys)) (sym e) q
for_more (k ∷ a) b xs ys s q = (s.0, s.1 ++ ys, ap (λ (l : List Call). l ++ ys) s.2 ∙ append_assoc s.0 s.1 ys, s.3, for_more a b s.1 ys s.4 q)

misses_more : (xs ys : List Call) → misses (xs ++ ys) ≡ misses xs + misses ys
misses_more [] ys = omega arith
misses_more (c ∷ xs) ys = let rest = misses_more xs ys in omega arith

loaded_more : (k l n a b c x y z : ℕ) → n ≡ k + l → Loaded k a b x y → Loaded l b c y z → Loaded n a c x z
loaded_more k l n a b c x y z is p q = record {
  loads = record { most = omega (arith, p.loads.most, q.loads.most); never_falls = omega (arith, p.loads.never_falls, q.loads.never_falls) };
  counted = record { most = omega (arith, p.counted.most, q.counted.most); never_falls = omega (arith, p.counted.never_falls, q.counted.never_falls) };
  same = λ low.
      let before : b < 2 ^ 64 - 1 = omega (arith, q.loads.never_falls) in
      let first = p.same before in
      let second = q.same low in
      omega arith;
}

-- ---- what a seat did

module _ (W : Type 0) where
  went_more : (a b : List FontKey) (s t u : Trail) → SeatAnswered (Unit {0}) a s t → SeatAnswered W b t u → SeatAnswered W (a ++ b) s u
  went_more a b s t u p q = record {
    seat = q.seat ∙ p.seat;
    part = q.part ∙ p.part;
    calls = p.calls ++ q.calls;
    grew = q.grew ∙ ap (λ (l : List Call). l ++ q.calls) p.grew ∙ append_assoc s.calls p.calls q.calls;
    own = of_more s.seat p.calls q.calls p.own (subst (λ (n : ℕ). AreOf n q.calls) p.seat q.own);
    for_keys = for_more a b p.calls q.calls p.for_keys q.for_keys;
    weighed = weigh_joined (IsWeightIn s.part) p.calls q.calls p.weighed (subst (λ (c : Common). AllWeigh (IsWeightIn c) q.calls) p.part q.weighed);
    last = last_more p.calls q.calls (p.answered tt) q.last;
    answered = λ w. none_more p.calls q.calls (p.answered tt) (q.answered w);
    loaded = loaded_more (MAX_LOADS * misses p.calls) (MAX_LOADS * misses q.calls) (MAX_LOADS * misses (p.calls ++ q.calls)) _ _ _ _ _ _
        (let e = misses_more p.calls q.calls in omega arith) p.loaded q.loaded;
    files = files_more W s.part.library s.part.units p.calls q.calls s.counted t.counted u.counted p.files
        (subst (λ (c : Common). IfSome c.library (λ l. LoadedFiles W (files_loaded l c.units q.calls) t.counted u.counted)) p.part q.files);
  }

  -- nothing was asked for and nothing was done
  pub trail_none : (asked : Option (List FontKey)) (t : Option Trail) → TrailGrew W asked asked t t
  trail_none asked None = refl
  trail_none asked (Some t) = (
    t,
    refl,
    record {
      keys = [];
      grew = asked_none asked;
      answers = record {
        seat = refl;
        part = refl;
        calls = [];
        grew = sym (append-nil t.calls);
        own = tt;
        for_keys = refl;
        weighed = tt;
        last = tt;
        answered = λ w. tt;
        loaded = record {
          loads = record { most = omega arith; never_falls = omega arith };
          counted = record { most = omega arith; never_falls = omega arith };
          same = λ low. omega arith;
        };
        files = none_loaded W t.part.library (λ l. files_loaded l t.part.units []) t.counted t.counted (λ l. refl) refl;
      };
    },
  )

  -- first what was answered, and then more
  pub trail_more : (a b c : Option (List FontKey)) (s t u : Option Trail) → TrailGrew (Unit {0}) a b s t → TrailGrew W b c t u → TrailGrew W a c s u
  trail_more a b c None t u p q = subst (λ (o : Option Trail). TrailGrew W b c o u) p q
  trail_more a b c (Some s) t u p q =
      let r = subst (λ (o : Option Trail). TrailGrew W b c o u) p.1 q in (
        r.0,
        r.1,
        record {
          keys = p.2.keys ++ r.2.keys;
          grew = asked_more a b c p.2.keys r.2.keys p.2.grew r.2.grew;
          answers = went_more p.2.keys r.2.keys s p.0 r.0 p.2.answers r.2.answers;
        },
      )

-- the same with less that was answered
went_as : (V W : Type 0) (keys : List FontKey) (s t : Trail) → (V → W) → SeatAnswered W keys s t → SeatAnswered V keys s t
went_as V W keys s t f p = record {
  seat = p.seat;
  part = p.part;
  calls = p.calls;
  grew = p.grew;
  own = p.own;
  for_keys = p.for_keys;
  weighed = p.weighed;
  last = p.last;
  answered = λ v. p.answered (f v);
  loaded = p.loaded;
  files = files_as V W s.part.library (λ l. files_loaded l s.part.units p.calls) s.counted t.counted f p.files;
}

pub trail_as : (V W : Type 0) (a b : Option (List FontKey)) (s t : Option Trail) → (V → W) → TrailGrew W a b s t → TrailGrew V a b s t
trail_as V W a b None t f p = p
trail_as V W a b (Some s) t f p = (p.0, p.1, record { keys = p.2.keys; grew = p.2.grew; answers = went_as V W p.2.keys s p.0 f p.2.answers })
