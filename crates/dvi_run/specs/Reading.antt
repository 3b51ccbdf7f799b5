-- Reading an input to its end or to a limit.
use Rattle.std.specs.Prelude.{◌≡◌, ◌⊎◌, ◌≤◌, ◌++◌, ℕ, List, length, take, drop, Option, Some, IfSome}
use Rattle.std.specs.Io.KnownBytes.{Consumes, IsAtEnd}

-- one byte more than a document may have
abbrev pub MAX_READ : ℕ
MAX_READ = 67108865

-- what is read of an input that has these bytes left
abbrev pub read_of : List ℕ → List ℕ
read_of bytes = take MAX_READ bytes

-- the bytes were read, and then the input was at its end or n bytes were read
pub record IsRead (old new : Option (List ℕ)) (bytes : List ℕ) : Type 0 where
  pub taken : Consumes old new bytes
  pub few : length bytes ≤ MAX_READ
  pub ends : (length bytes ≡ MAX_READ) ⊎ IsAtEnd new

-- where the bytes are known, they were read to their end or to the limit
abbrev pub IsAllRead : Option (List ℕ) → Option (List ℕ) → Type 0
IsAllRead old new = IfSome old (λ bytes. Consumes old new (read_of bytes))

-- where the bytes are known, what is read of them has P
abbrev pub HoldsOfInput : Option (List ℕ) → (List ℕ → Type 0) → Type 0
HoldsOfInput old P = IfSome old (λ bytes. P (read_of bytes))

-- ---- an input before and after

-- an input at one time: the bytes that it has left, where they are known, those that its reads gave
-- so far, and how often it failed
pub record InputState : Type 0 where
  pub left : Option (List ℕ)
  pub taken : List ℕ
  pub faults : ℕ

pub record InputChange : Type 1 where
  pub before : InputState
  pub after : InputState
  -- its end was seen
  pub Ended : Type 0
  -- it is the same one, as if no call of it had been made
  pub Kept : Type 0
  -- the bytes of which it is said what they are and what came of them, where they are known
  pub bytes : Option (List ℕ)

-- what reads gave since then
abbrev pub read_since : (before now : List ℕ) → Option (List ℕ)
read_since before now = Some (drop (length before) now)

-- of any input it is known what its reads gave
abbrev pub input_change : {I : Type 0} → (left : I → Option (List ℕ)) → (taken : I → List ℕ)
    → (ended : I → Type 0) → (faults : I → ℕ) → (before after : I) → InputChange
input_change left taken ended faults before after =
    record {
      before =
          record { left = left before; taken = taken before; faults = faults before };
      after = record { left = left after; taken = taken after; faults = faults after };
      Ended = ended after;
      Kept = after ≡ before;
      bytes = read_since (taken before) (taken after);
    }

-- These bytes are what reads gave: all that the input had left, where they are known, or one more
-- than a document may have. Unless they are that many a read saw the end.
pub record ReadsGave (input : InputChange) (bytes : List ℕ) : Type 0 where
  pub grew : input.after.taken ≡ input.before.taken ++ bytes
  pub known : IsRead input.before.left input.after.left bytes
  pub ends : (length bytes ≡ MAX_READ) ⊎ input.Ended

-- the input was read so, or it wasn't since something else happened
abbrev pub WasRead : InputChange → (Unread : Type 0) → Type 0
WasRead input Unread = ((bytes : List ℕ) × ReadsGave input bytes) ⊎ Unread
