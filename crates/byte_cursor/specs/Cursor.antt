-- A place in a list of bytes.
use Rattle.std.specs.Prelude.{ℕ, ◌+◌, ◌-◌, List, length, take, drop}

-- the bytes, and how many of them were read
pub record CursorValue : Type 0 where
  pub bytes : List ℕ
  pub at : ℕ

-- how many bytes are left
abbrev pub bytes_left : CursorValue → ℕ
bytes_left p = length p.bytes - p.at

-- the next n bytes
abbrev pub next_bytes : CursorValue → ℕ → List ℕ
next_bytes p n = take n (drop p.at p.bytes)

-- the place after the next n bytes
abbrev pub cursor_after : CursorValue → ℕ → CursorValue
cursor_after p n = record { bytes = p.bytes; at = p.at + n }
