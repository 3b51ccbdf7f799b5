-- The first fault of a DVI file: what speaks against the bytes at the end of their longest sound
-- reading.
use Rattle.std.specs.Prelude.{◌≡◌, ◌⊎◌, ℕ, ◌+◌, ◌<◌, ◌≤◌, Bool, ◌&&◌, ◌==◌, List, [], ◌∷◌, ◌++◌, length, slice_index, Some, IsTrue}
use Rattle.std.specs.Bool.{MatchBool}
use Rattle.dvi_commands.specs.Spelling.{DviCommand, PostPost, Spells}
use Rattle.dvi_commands.specs.Refusal.{may_stand, refusal}
use Rattle.dvi_commands.specs.declared.command.Context.{Context}
use Rattle.dvi_commands.specs.declared.command.CommandFault.{CommandFault}
use Rattle.dvi_commands.specs.declared.command.CommandFault.TheVariants as command_fault
use Rattle.page_index.specs.Judged.{preamble_fault, postpost_fault, tail_fault}
use Rattle.page_index.specs.Limits.{MAX_DOCUMENT_LENGTH}
use Rattle.page_index.specs.Document.{Reading, Sound, context_after, end_of, post_at, text_of, whole_fault}
use Rattle.page_index.specs.declared.faults.DocFault.{DocFault}
use Rattle.page_index.specs.declared.faults.DocFault.TheVariants as fault
use Rattle.page_index.specs.declared.faults.IndexStop.{IndexStop}
use Rattle.page_index.specs.declared.faults.IndexStop.TheVariants as stop

-- the fault that stands for a refusal at a position, with these bytes there
abbrev pub as_doc_fault : ℕ → List ℕ → CommandFault → DocFault
as_doc_fault at rest command_fault.Short = fault.Truncated (at + length rest)
as_doc_fault at rest (command_fault.Undefined op) = fault.Command (command_fault.Undefined op) at
as_doc_fault at rest (command_fault.Misplaced op) = fault.Command (command_fault.Misplaced op) at
as_doc_fault at rest command_fault.NegativeLength = fault.Command command_fault.NegativeLength at

-- a command of a reading may not be judged before it is whole, but for a PostPost
abbrev pub is_postpost_at : Context → List ℕ → Bool
is_postpost_at place rest = may_stand place 249 && slice_index rest 0 == 249

-- no command can be read, or one can, and something is wrong with it
abbrev pub FaultAtCommand : ℕ → Reading → List ℕ → DocFault → Type 0
FaultAtCommand res before rest f =
    ((c : CommandFault) × (refusal (context_after before) rest ≡ Some c)
    × (f ≡ as_doc_fault (end_of before) rest c))
    ⊎ ((c : DviCommand) × (bytes : List ℕ) × (more : List ℕ) × (rest ≡ bytes ++ more)
    × Spells c bytes
    × IsTrue (may_stand (context_after before) (slice_index bytes 0))
    × (whole_fault res before (end_of before) bytes c ≡ Some f))

-- a sound reading of a file whose last command is not PostPost can't go on, for this reason
abbrev pub FaultWithin : ℕ → Reading → List ℕ → DocFault → Type 0
FaultWithin res before rest f =
    MatchBool (is_postpost_at (context_after before) rest)
    (postpost_fault (post_at before) (end_of before) rest ≡ Some f)
    (FaultAtCommand res before rest f)

-- by the last command
abbrev pub FaultAfterCommand : ℕ → Reading → DviCommand → List ℕ → DocFault → Type 0
FaultAfterCommand res reading (PostPost q id) rest f = tail_fault (end_of reading) rest ≡ Some f
FaultAfterCommand res reading _ rest f = FaultWithin res reading rest f

-- what is wrong with the bytes after a sound reading
abbrev pub FaultAfter : ℕ → Reading → List ℕ → DocFault → Type 0
FaultAfter res [] rest f = preamble_fault res rest ≡ Some f
FaultAfter res (p ∷ before) rest f = FaultAfterCommand res (p ∷ before) p.command rest f

-- the first fault of a file at a resolution
abbrev pub IsFirstFault : ℕ → List ℕ → DocFault → Type 0
IsFirstFault res bytes f =
    ((MAX_DOCUMENT_LENGTH < length bytes) × (f ≡ fault.TooLong MAX_DOCUMENT_LENGTH))
    ⊎ ((length bytes ≤ MAX_DOCUMENT_LENGTH) × (reading : Reading) × (rest : List ℕ)
    × Sound res reading × (bytes ≡ text_of reading ++ rest) × FaultAfter res reading rest f)

-- why a file was not read: a fault is its first one; want of memory may come at any file
abbrev pub IsStopFor : IndexStop → ℕ → List ℕ → Type 0
IsStopFor (stop.Fault f) res bytes = IsFirstFault res bytes f
IsStopFor stop.NoMemory res bytes = Unit {0}
