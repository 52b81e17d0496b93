-- What a call that moves bytes ensures of the count that it answers. Assumes nothing.
use Rattle.std.specs.Prelude.{ℕ, ◌<◌, List, Result, IfOk}
use Rattle.std.specs.Io.{ReadsAtMost, WritesAtMost}

-- the count, where there is one, is of bytes at the front of xs
abbrev pub Fits : {E : Type 0} → Result ℕ E → List ℕ → Type 0
Fits r xs = ReadsAtMost r xs

-- and is not 0
abbrev pub Advances : {E : Type 0} → Result ℕ E → List ℕ → Type 0
Advances r xs = IfOk r (λ n. 0 < n) × WritesAtMost r xs
