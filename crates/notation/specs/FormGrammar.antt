-- The forms of fields, said and not computed: numbers, levels, records behind the header, and the header (docs/SCOPE.md, 'Reading text').
use Rattle.std.specs.Prelude.{◌≡◌, List, [], ◌∷◌, ◌++◌, ◌↔◌, ℕ, suc, ◌+◌, ◌*◌, ◌≤◌, ℤ, pos, length, replicate}
use Rattle.std.proofs.Math.Option.{some}
use Rattle.residue.specs.Layout.{fill}
use Rattle.notation.specs.Words.{bytes_of}
use Rattle.notation.specs.Forms.{negative, level_of, entry_of, Header, header_of}

-- one to three digits write this number
pub data IsNumber : List ℕ → ℕ → Type 0 where
  one : {a : ℕ} → a ≤ 9 → IsNumber ((48 + a) ∷ []) a
  two : {a b : ℕ} → a ≤ 9 → b ≤ 9 → IsNumber ((48 + a) ∷ (48 + b) ∷ []) (10 * a + b)
  three : {a b c : ℕ} → a ≤ 9 → b ≤ 9 → c ≤ 9 → IsNumber ((48 + a) ∷ (48 + b) ∷ (48 + c) ∷ []) (100 * a + 10 * b + c)

-- an optional minus sign and one to three digits
pub data IsLevel : List ℕ → ℤ → Type 0 where
  unsigned : {l : List ℕ} {n : ℕ} → IsNumber l n → IsLevel l (pos n)
  signed : {l : List ℕ} {n : ℕ} → IsNumber l n → IsLevel (45 ∷ l) (negative n)

-- each field a level
pub data AreLevels : List (List ℕ) → List ℤ → Type 0 where
  no_levels : AreLevels [] []
  levels : {f : List ℕ} {fs : List (List ℕ)} {z : ℤ} {zs : List ℤ} → IsLevel f z → AreLevels fs zs → AreLevels (f ∷ fs) (z ∷ zs)

-- a record behind a header of m names: m levels and one value, which has the same form
pub record IsEntry (m : ℕ) (fields : List (List ℕ)) (zs : List ℤ) : Type 0 where
  pub count : length fields ≡ suc m
  pub each : AreLevels fields zs

-- weights of one or two digits, a space before each
pub data AreWeights : List ℕ → List ℕ → Type 0 where
  no_weights : AreWeights [] []
  weights : {d l ws : List ℕ} {w : ℕ} → IsNumber d w → length d ≤ 2 → AreWeights l ws → AreWeights (32 ∷ (d ++ l)) (w ∷ ws)

-- In a header of m names: nothing, for grevlex (M-104), or a space and the order's word, which for order 3 is `weight` with as many weights as there are names
-- (M-109). The settings have eight weights, zeros but for order 3; a header of more names is refused for their number.
pub data IsOrder : ℕ → List ℕ → ℕ → List ℕ → Type 0 where
  unsaid : {m : ℕ} → IsOrder m [] 2 (replicate 8 0)
  lex : {m : ℕ} → IsOrder m (bytes_of " lex") 0 (replicate 8 0)
  grlex : {m : ℕ} → IsOrder m (bytes_of " grlex") 1 (replicate 8 0)
  grevlex : {m : ℕ} → IsOrder m (bytes_of " grevlex") 2 (replicate 8 0)
  weighted : {m : ℕ} {l ws : List ℕ} → AreWeights l ws → length ws ≡ m → IsOrder m (bytes_of " weight" ++ l) 3 (fill 8 ws)

-- names, which may be anything, and a last field: `mod`, a space, one to three digits, and optionally the order
pub record IsHeader (fields : List (List ℕ)) (h : Header) : Type 0 where
  pub names : List (List ℕ)
  pub digits : List ℕ
  pub word : List ℕ
  pub made : fields ≡ names ++ ((bytes_of "mod " ++ (digits ++ word)) ∷ [])
  pub variables : h.variables ≡ length names
  pub modulus : IsNumber digits h.modulus
  pub order : IsOrder (length names) word h.order h.weights

abbrev pub LevelGrammar : Type 0
LevelGrammar = (l : List ℕ) (z : ℤ) → IsLevel l z ↔ (level_of l ≡ some z)

abbrev pub EntryGrammar : Type 0
EntryGrammar = (m : ℕ) (fields : List (List ℕ)) (zs : List ℤ) → IsEntry m fields zs ↔ (entry_of m fields ≡ some zs)

abbrev pub HeaderGrammar : Type 0
HeaderGrammar = (fields : List (List ℕ)) (h : Header) → IsHeader fields h ↔ (header_of fields ≡ some h)
