-- The forms of fields: docs/SCOPE.md, 'Reading text'. Quoted fields count by their content.
use Rattle.std.specs.Prelude.{cond, List, [], ◌∷◌, ℕ, zero, suc, ℤ, pos, negsuc, length, take, drop, replicate, eqb, leb}
use Rattle.std.proofs.Math.Option.{Option, some, none, map}
use Rattle.residue.specs.Lists.{same_list}
use Rattle.residue.specs.Layout.{fill}
use Rattle.notation.specs.Digits.{is_digit, decimal_number}
use Rattle.notation.specs.Fields.{front, Part, part, faulty, kept}

unfoldable pub negative : ℕ → ℤ
negative zero = pos 0
negative (suc k) = negsuc k

-- a level or a value: an optional minus sign and one to three digits
unfoldable pub level_of : List ℕ → Option ℤ
level_of [] = none
level_of (b ∷ l) = cond (eqb b 45) (map negative (decimal_number l)) (map pos (decimal_number (b ∷ l)))

unfoldable pub together : Option ℤ → Option (List ℤ) → Option (List ℤ)
together (some z) (some zs) = some (z ∷ zs)
together (some z) none = none
together none zs = none

-- the levels of all fields
unfoldable pub levels_of : List (List ℕ) → Option (List ℤ)
levels_of [] = some []
levels_of (f ∷ fs) = together (level_of f) (levels_of fs)

-- a record behind the header: m levels and one value
unfoldable pub entry_of : ℕ → List (List ℕ) → Option (List ℤ)
entry_of m fields = cond (eqb (length fields) (suc m)) (levels_of fields) none

-- the words of the last header field, byte by byte
abbrev pub mod_word : List ℕ
mod_word = 109 ∷ 111 ∷ 100 ∷ 32 ∷ []

abbrev pub lex_word : List ℕ
lex_word = 32 ∷ 108 ∷ 101 ∷ 120 ∷ []

abbrev pub grlex_word : List ℕ
grlex_word = 32 ∷ 103 ∷ 114 ∷ 108 ∷ 101 ∷ 120 ∷ []

abbrev pub grevlex_word : List ℕ
grevlex_word = 32 ∷ 103 ∷ 114 ∷ 101 ∷ 118 ∷ 108 ∷ 101 ∷ 120 ∷ []

abbrev pub weight_word : List ℕ
weight_word = 32 ∷ 119 ∷ 101 ∷ 105 ∷ 103 ∷ 104 ∷ 116 ∷ []

-- one or two digits
unfoldable pub weight_of : List ℕ → Option ℕ
weight_of l = cond (leb (length l) 2) (decimal_number l) none

-- a weight at the front, with a space before it
unfoldable pub weight_first : List ℕ → Part ℕ
weight_first [] = faulty
weight_first (b ∷ l) = cond (eqb b 32) (kept (weight_of (take (front is_digit l) l)) (drop (front is_digit l) l)) faulty

-- behind a weight; `next` reads the others
unfoldable pub behind_weight : (List ℕ → Option (List ℕ)) → Part ℕ → Option (List ℕ)
behind_weight next (part w rest) = map (λ ws. w ∷ ws) (next rest)
behind_weight next faulty = none

-- so many weights, and nothing behind them
unfoldable pub weights_of : ℕ → List ℕ → Option (List ℕ)
weights_of zero [] = some []
weights_of zero (b ∷ l) = none
weights_of (suc k) l = behind_weight (weights_of k) (weight_first l)

-- The order's number and the weights of the settings, which are eight: of order 3 those that were read, without any beyond the eighth; of the others zeros.
abbrev pub Ordered : Type 0
Ordered = ℕ × List ℕ

abbrev pub unweighted : ℕ → Ordered
unweighted k = (k, replicate 8 0)

abbrev pub weighted : List ℕ → Ordered
weighted ws = (3, fill 8 ws)

-- without the word the order is grevlex (M-104)
abbrev pub default_order : ℕ
default_order = 2

-- the order by weights, by what stands behind the word in a header of m names
abbrev pub weight_order : ℕ → List ℕ → Option Ordered
weight_order m l = map weighted (weights_of m l)

-- the order, by what stands behind the digits in a header of m names: a word, or `weight` with a weight for each name (M-109)
unfoldable pub order_word : ℕ → List ℕ → Option Ordered
order_word m l = cond (same_list l []) (some (unweighted default_order))
    (cond (same_list l lex_word) (some (unweighted 0)) (cond (same_list l grlex_word) (some (unweighted 1)) (cond (same_list l grevlex_word) (some (unweighted 2))
    (cond (same_list (take 7 l) weight_word) (weight_order m (drop 7 l)) none))))

-- what the header says
pub record Header : Type 0 where
  pub variables : ℕ
  pub modulus : ℕ
  pub order : ℕ
  pub weights : List ℕ

unfoldable pub header : ℕ → Option ℕ → Option Ordered → Option Header
header m (some p) (some (k, ws)) = some (record { variables = m; modulus = p; order = k; weights = ws })
header m (some p) none = none
header m none o = none

-- one to three digits, and the order if it is said
unfoldable pub modulus_and_order : ℕ → List ℕ → Option Header
modulus_and_order m l = header m (decimal_number (take (front is_digit l) l)) (order_word m (drop (front is_digit l) l))

-- the last field: `mod`, a space, and these
unfoldable pub last_field : ℕ → List ℕ → Option Header
last_field m l = cond (same_list (take 4 l) mod_word) (modulus_and_order m (drop 4 l)) none

-- m names so far, which may be anything, and the last field behind them all
unfoldable pub header_from : ℕ → List (List ℕ) → Option Header
header_from m [] = none
header_from m (last ∷ []) = last_field m last
header_from m (name ∷ f ∷ fields) = header_from (suc m) (f ∷ fields)

unfoldable pub header_of : List (List ℕ) → Option Header
header_of fields = header_from 0 fields
