-- Bytes written into a lent buffer from a place on.
use Rattle.std.specs.Prelude.{◌≡◌, List, ◌++◌, ℕ, ◌+◌, ◌≤◌, length, take, drop}

-- the buffer has room for them
abbrev pub Room : ℕ → List ℕ → List ℕ → Type 0
Room at bytes out = at + length bytes ≤ length out

unfoldable pub put_at : ℕ → List ℕ → List ℕ → List ℕ
put_at at bytes out = take at out ++ (bytes ++ drop (at + length bytes) out)

-- What such a call leaves, and the place behind the bytes, which it answers.
pub record Put (at : ℕ) (bytes before after : List ℕ) (next : ℕ) : Type 0 where
  pub ends : next ≡ at + length bytes
  pub holds : after ≡ put_at at bytes before
