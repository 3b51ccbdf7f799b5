-- What logs say: of a write, and of a file that is opened when it is first used.
use Rattle.std.specs.Prelude.{◌≡◌, ◌++◌, ℕ, List, [], take, Option, Result, MatchResult, MatchOption, IsTrue}
use Rattle.std.specs.Option.{option_and_then, option_map_or}
use Rattle.real_streams.specs.declared.logged_reader.LoggedReader.{LoggedReader}
use Rattle.real_streams.specs.declared.logged_writer.LoggedWriter.{LoggedWriter}

-- a write took the first n bytes at `Ok(n)`, and nothing at `Err`
abbrev pub Logs : {E : Type 0} → (old new : List ℕ) → Result ℕ E → List ℕ → Type 0
Logs old new r bytes = MatchResult r (λ n. new ≡ old ++ take n bytes) (λ _. new ≡ old)

-- what a file has left, where it is open and that is known
abbrev pub left_of : {R : Type 0} → (R → Option (List ℕ)) → Option (LoggedReader R)
    → Option (List ℕ)
left_of remaining opened = option_and_then (λ file. remaining file.reader) opened

-- what a file's reads gave
abbrev pub given : {R : Type 0} → Option (LoggedReader R) → List ℕ
given opened = option_map_or (λ file. file.log.bytes) opened []

-- the last read of a file that didn't fail gave no byte
abbrev pub IsEnded : {R : Type 0} → Option (LoggedReader R) → Type 0
IsEnded opened = MatchOption opened ⊥ (λ file. IsTrue file.is_ended)

-- what a file's writes took
abbrev pub written : {W : Type 0} → Option (LoggedWriter W) → List ℕ
written opened = option_map_or (λ file. file.log.bytes) opened []
