-- What is found where a file is opened by its name.
use Rattle.std.specs.Prelude.{◌≡◌, ℕ, List, map, take, Option, Some, None, IfSome, Result, MatchResult}
use Rattle.std.specs.FinMap.{entries, from_entries, get}
use Rattle.std.specs.IoError.{error_kind}
use Rattle.std.specs.declared.io.Error.{Error}
use Rattle.std.specs.declared.io.ErrorKind.TheVariants.{NotFound}
use Rattle.outside.specs.Library.{FileTable}

-- one byte more than a font file may have
abbrev pub MAX_FILE_READ : ℕ
MAX_FILE_READ = 8388609

-- all that is left, where that is known, up to one byte more than a font file may have
abbrev pub IsCut : Option (List ℕ) → List ℕ → Type 0
IsCut known bytes = IfSome known (λ left. bytes ≡ take MAX_FILE_READ left)

-- what was opened is the file of this name, and "not found" is said only where there is none
abbrev pub IsOpened : {T : Type 0} → (remaining : T → Option (List ℕ)) → FileTable → List ℕ
    → Result T Error → Type 0
IsOpened remaining table name r = MatchResult r
    (λ file. (bytes : List ℕ) × (get table name ≡ Some bytes) × (remaining file ≡ Some bytes))
    (λ error. error_kind error ≡ NotFound → get table name ≡ None)

-- the files, of a long one no more than one byte more than a font file may have
abbrev pub cut_files : FileTable → FileTable
cut_files table = from_entries (map (λ file. (file.0, take MAX_FILE_READ file.1)) (entries table))
