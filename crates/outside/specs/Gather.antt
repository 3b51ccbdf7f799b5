-- A text that is written in pieces.
use Rattle.std.specs.Prelude.{◌≡◌, ◌++◌, ◌-◌, ℕ, true, List, [], length, Option, MatchBool}
use Rattle.std.specs.Option.{option_map_or}
use Rattle.std.specs.Vec.{vec_capacity}
use Rattle.std.specs.Io.KnownBytes.{Appends}
use Rattle.outside.specs.Counts.{HasCause}
use Rattle.outside.specs.Streams.{AppendsPrefix}
use Rattle.outside.specs.declared.gather.Gather.{Gather}

-- what is put and not yet written
abbrev pub held : Gather → List ℕ
held g = option_map_or (λ piece. piece.items) g.piece []

-- how many bytes more are held before they are written
abbrev pub room_of : Gather → ℕ
room_of g = option_map_or (λ piece. vec_capacity piece - length piece.items) g.piece 0

-- what is known grew by a prefix of the text; the rest is held
pub record IsHeld (held : List ℕ) (start now : Option (List ℕ)) (text : List ℕ) : Type 0 where
  pub prefix : List ℕ
  pub grew : Appends start now prefix
  pub text_is : text ≡ prefix ++ held

-- since the start the text was put: it is written or held, or a prefix of it is written
abbrev pub Gathered : Gather → Option (List ℕ) → Option (List ℕ) → List ℕ → Type 0
Gathered g start now text =
    MatchBool g.failed (AppendsPrefix start now text) (IsHeld (held g) start now text)

-- Since what is known was `start` and the count of faults `before`, the text was put and no other
-- byte was written: `written` and `now` are what is known and the count since then.
pub record Gathers (start : Option (List ℕ)) (before : ℕ) (g : Gather)
    (written : Option (List ℕ)) (now : ℕ) (text : List ℕ) : Type 0 where
  pub gathered : Gathered g start written text
  pub cause : HasCause before now (g.failed ≡ true)
