-- How many files a seat's looks load, where the library is known.
use Rattle.std.proofs.Common.{◌≡◌, ℕ, ◌+◌, ◌-◌, ◌^◌, ◌<◌, ◌≤◌, List, [], ◌∷◌, ◌++◌, Option, Some, None, sym, subst, arith}
use Rattle.std.specs.Prelude.{IfSome}
use Rattle.outside.specs.Library.{FileTable}
use Rattle.pixel_round.specs.declared.units.Units.{Units}
use Rattle.cache_core.specs.declared.calls.Call.{Call}
use Rattle.font_decode.specs.Desks.{LoadedFiles, files_loaded}
use Rattle.font_decode.specs.Loads.{RoseBy, RoseUpTo}

-- none was loaded
pub none_loaded : (W : Type 0) (o : Option FileTable) (n : FileTable → ℕ) (before now : ℕ) → ((l : FileTable) → n l ≡ 0) → now ≡ before → IfSome o (λ l. LoadedFiles W (n l) before now)
none_loaded W None n before now none same = tt
none_loaded W (Some l) n before now none same = let zero = none l in record { most = omega (arith, zero, same); just = λ w lt. omega (arith, zero, same, lt) }

-- those of one look
pub one_loaded : (W : Type 0) (o : Option FileTable) (files n : FileTable → ℕ) (before now : ℕ) → ((l : FileTable) → n l ≡ files l) → IfSome o (λ l. RoseUpTo (files l) before now)
    → (W → IfSome o (λ l. RoseBy (files l) before now)) → IfSome o (λ l. LoadedFiles W (n l) before now)
one_loaded W None files n before now is most just = tt
one_loaded W (Some l) files n before now is most just = subst (λ (m : ℕ). LoadedFiles W m before now) (sym (is l)) (record { most = most.most; just = just })

files_joined : (l : FileTable) (u : Units) (xs ys : List Call) → files_loaded l u (xs ++ ys) ≡ files_loaded l u xs + files_loaded l u ys
files_joined l u [] ys = omega arith
files_joined l u (c ∷ xs) ys = let rest = files_joined l u xs ys in omega arith

-- first those of some calls, then those of others
pub files_more : (W : Type 0) (o : Option FileTable) (u : Units) (xs ys : List Call) (a b c : ℕ) → IfSome o (λ l. LoadedFiles (Unit {0}) (files_loaded l u xs) a b) → IfSome o (λ l. LoadedFiles W (files_loaded l u ys) b c)
    → IfSome o (λ l. LoadedFiles W (files_loaded l u (xs ++ ys)) a c)
files_more W None u xs ys a b c p q = tt
files_more W (Some l) u xs ys a b c p q =
    let is = files_joined l u xs ys in
    record {
      most = let first = p.most in let second = q.most in omega (arith, is, first, second);
      just = λ w lt.
          let first = p.just tt lt in
          let below : b < 2 ^ 64 = omega (arith, first) in
          let second = q.just w below in
          omega (arith, is, first, second, lt);
    }

-- the same where less was answered
pub files_as : (V W : Type 0) (o : Option FileTable) (n : FileTable → ℕ) (a b : ℕ) → (V → W) → IfSome o (λ l. LoadedFiles W (n l) a b) → IfSome o (λ l. LoadedFiles V (n l) a b)
files_as V W None n a b f p = tt
files_as V W (Some l) n a b f p = record { most = p.most; just = λ v. p.just (f v) }
