-- What is read of a file up to a limit, and what is found by a name.
use Rattle.std.proofs.Common.{◌≡◌, ◌∙◌, ◌++◌, ℕ, List, [], ◌∷◌, map, take, cond, true, false, Option, Some, None, IfSome, Ok, Err, refl, sym, ap, subst}
use Rattle.std.specs.Option.{option_map}
use Rattle.std.specs.Ordering.{nat_cmp, eq_by_cmp}
use Rattle.std.specs.Cmp.Lexicographic.{slice_cmp, nat_list_cmp_total}
use Rattle.std.specs.FinMap.{entries, find, get, get-entries, get-from_entries}
use Rattle.std.specs.Io.Take.{take_remaining}
use Rattle.std.specs.declared.io.traits.Take.{Take}
use Rattle.std.specs.IoError.{error_kind}
use Rattle.std.specs.declared.io.Error.{Error}
use Rattle.std.specs.declared.io.ErrorKind.TheVariants.{NotFound}
use Rattle.outside.specs.Library.{FileTable, IsFileOf}
use Rattle.real_streams.specs.Files.{IsCut, IsOpened, cut_files, MAX_FILE_READ}

cut_known : (o : Option (List ℕ)) (limit n : ℕ) (old got : List ℕ) → limit ≡ n → old ≡ [] → IfSome (option_map (take limit) o) (λ xs. got ≡ old ++ xs) → IfSome o (λ xs. got ≡ take n xs)
cut_known None limit n old got l e h = tt
cut_known (Some xs) limit n old got l e h = h ∙ (ap (λ w. w ++ take limit xs) e ∙ ap (λ k. take k xs) l)

-- all that a reader gives up to n bytes
pub cut_all : {R : Type 0} (remaining : R → Option (List ℕ)) (t : Take R) (file : R) (n : ℕ) (old got : List ℕ) → t.inner ≡ file → t.limit ≡ n → old ≡ []
    → IfSome (take_remaining remaining t) (λ xs. got ≡ old ++ xs) → IfSome (remaining file) (λ xs. got ≡ take n xs)
cut_all {R} remaining t file n old got i l e h = subst (λ (r : R). IfSome (remaining r) (λ xs. got ≡ take n xs)) i (cut_known (remaining t.inner) t.limit n old got l e h)

found_cut : (name : List ℕ) (files : List (List ℕ × List ℕ))
    → find (slice_cmp nat_cmp) name (map (λ file. (file.0, take MAX_FILE_READ file.1)) files) ≡ option_map (take MAX_FILE_READ) (find (slice_cmp nat_cmp) name files)
found_cut name [] = refl
found_cut name (file ∷ files) =
    elim (eq_by_cmp (slice_cmp nat_cmp) name file.0) as (λ b. cond b (Some (take MAX_FILE_READ file.1)) (find (slice_cmp nat_cmp) name (map (λ file. (file.0, take MAX_FILE_READ file.1)) files))
    ≡ option_map (take MAX_FILE_READ) (cond b (Some file.1) (find (slice_cmp nat_cmp) name files))) [
      | true ↦ refl
      | false ↦ found_cut name files
    ]

-- the file of a name among files that are cut
pub cut_of : (table : FileTable) (name : List ℕ) → get (cut_files table) name ≡ option_map (take MAX_FILE_READ) (get table name)
cut_of table name =
    get-from_entries nat_list_cmp_total _ name
    ∙ (found_cut name (entries table) ∙ ap (option_map (take MAX_FILE_READ)) (sym (get-entries table name)))

-- what was read of the file that was opened is that of the name
pub found : {T : Type 0} (remaining : T → Option (List ℕ)) (files : Option FileTable) (name : List ℕ) (file : T) (got : List ℕ)
    → IfSome files (λ table. IsOpened remaining table name (Ok file)) → IsCut (remaining file) got
    → IsFileOf (option_map cut_files files) name (Some got)
found remaining None name file got h cut = tt
found remaining (Some table) name file got h cut =
    let is : got ≡ take MAX_FILE_READ h.0 = subst (λ (o : Option (List ℕ)). IsCut o got) h.2 cut in
    ap Some is ∙ sym (cut_of table name ∙ ap (option_map (take MAX_FILE_READ)) h.1)

-- nothing was found where the opener says that there is no such file
pub not_found : {T : Type 0} (remaining : T → Option (List ℕ)) (files : Option FileTable) (name : List ℕ) (error : Error) → IfSome files (λ table. IsOpened remaining table name (Err error))
    → error_kind error ≡ NotFound → IsFileOf (option_map cut_files files) name None
not_found remaining None name error h kind = tt
not_found remaining (Some table) name error h kind = sym (cut_of table name ∙ ap (option_map (take MAX_FILE_READ)) (h kind))
