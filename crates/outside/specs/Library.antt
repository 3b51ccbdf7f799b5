-- Font files by their names.
use Rattle.std.specs.Prelude.{◌≡◌, ◌⊎◌, [], ◌∷◌, ◌++◌, ℕ, List, Option, None, Result, MatchResult, IfSome}
use Rattle.std.specs.Option.{option_map}
use Rattle.std.specs.Cmp.Lexicographic.{slice_cmp}
use Rattle.std.specs.Ordering.{nat_cmp}
use Rattle.std.specs.FinMap.{FinMap, get}

-- a finite map from the bytes of a file's name to the file's bytes
abbrev pub FileTable : Type 0
FileTable = FinMap (slice_cmp nat_cmp) (List ℕ)

-- what a source gives for a name: where the library is known, its bytes of that name, and none
-- where it has none
abbrev pub IsFileOf : Option FileTable → List ℕ → Option (List ℕ) → Type 0
IsFileOf known name found = IfSome known (λ files. found ≡ get files name)

-- the names that a source was asked for, in order, where they are known
abbrev pub Names : Type 0
Names = Option (List (List ℕ))

-- these names came after those that are known
abbrev pub Asks : Names → Names → List (List ℕ) → Type 0
Asks old new names = new ≡ option_map (λ before. before ++ names) old

-- this name was asked for; where the load stopped, it may be that the names are no longer known
abbrev pub AskedFor : {T E : Type 0} → Names → Names → List ℕ → Result T E → Type 0
AskedFor old new name r =
    MatchResult r (λ _. Asks old new (name ∷ [])) (λ _. Asks old new (name ∷ []) ⊎ (new ≡ None))
