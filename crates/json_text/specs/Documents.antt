-- What the text of a sheet holds, and the text itself: document 02, M-112.
use Rattle.std.specs.Prelude.{Bool, ◌&&◌, cond, List, [], ◌∷◌, ℕ, length, eqb, leb}
use Rattle.residue.specs.Lists.{every}
use Rattle.json_text.specs.Writing.{object, member, number_text, list_text, rows_text}

pub record Document : Type 0 where
  pub coefficients : List (List ℕ)
  pub counts : List ℕ
  pub leads : List (List ℕ)
  pub modulus : ℕ
  pub order : ℕ
  pub points : List (List ℕ)
  pub standard : List (List ℕ)
  pub variables : ℕ
  pub weights : List ℕ

-- the members' names, byte by byte
abbrev pub coefficients_name : List ℕ
coefficients_name = 99 ∷ 111 ∷ 101 ∷ 102 ∷ 102 ∷ 105 ∷ 99 ∷ 105 ∷ 101 ∷ 110 ∷ 116 ∷ 115 ∷ []

abbrev pub counts_name : List ℕ
counts_name = 99 ∷ 111 ∷ 117 ∷ 110 ∷ 116 ∷ 115 ∷ []

abbrev pub leads_name : List ℕ
leads_name = 108 ∷ 101 ∷ 97 ∷ 100 ∷ 115 ∷ []

abbrev pub modulus_name : List ℕ
modulus_name = 109 ∷ 111 ∷ 100 ∷ 117 ∷ 108 ∷ 117 ∷ 115 ∷ []

abbrev pub order_name : List ℕ
order_name = 111 ∷ 114 ∷ 100 ∷ 101 ∷ 114 ∷ []

abbrev pub points_name : List ℕ
points_name = 112 ∷ 111 ∷ 105 ∷ 110 ∷ 116 ∷ 115 ∷ []

abbrev pub standard_name : List ℕ
standard_name = 115 ∷ 116 ∷ 97 ∷ 110 ∷ 100 ∷ 97 ∷ 114 ∷ 100 ∷ []

abbrev pub variables_name : List ℕ
variables_name = 118 ∷ 97 ∷ 114 ∷ 105 ∷ 97 ∷ 98 ∷ 108 ∷ 101 ∷ 115 ∷ []

abbrev pub weights_name : List ℕ
weights_name = 119 ∷ 101 ∷ 105 ∷ 103 ∷ 104 ∷ 116 ∷ 115 ∷ []

-- The text: the members in the order of their names.
unfoldable pub written : Document → List ℕ
written d =
    object (member coefficients_name (rows_text d.coefficients)
    ∷ member counts_name (list_text d.counts)
    ∷ member leads_name (rows_text d.leads)
    ∷ member modulus_name (number_text d.modulus)
    ∷ member order_name (number_text d.order)
    ∷ member points_name (rows_text d.points)
    ∷ member standard_name (rows_text d.standard)
    ∷ member variables_name (number_text d.variables)
    ∷ member weights_name (list_text d.weights) ∷ [])

-- 'Every number is 0 to 255'
unfoldable pub is_byte : ℕ → Bool
is_byte k = leb k 255

unfoldable pub are_bytes : List ℕ → Bool
are_bytes l = every is_byte l

unfoldable pub bytes_only : Document → Bool
bytes_only d =
    every are_bytes d.coefficients && are_bytes d.counts && every are_bytes d.leads && is_byte d.modulus && is_byte d.order
    && every are_bytes d.points && every are_bytes d.standard && is_byte d.variables && are_bytes d.weights

-- so many lists of so many numbers
unfoldable pub is_table : ℕ → ℕ → List (List ℕ) → Bool
is_table rows columns L = eqb (length L) rows && every (λ l. eqb (length l) columns) L

-- 'weights m numbers for order 3, else empty'
abbrev pub weight_count : ℕ → ℕ → ℕ
weight_count order m = cond (eqb order 3) m 0

-- 'inner lists of length m or n as the table has them', 'lists that belong to the same states or rows are equally long'. There are as many states
-- as counts, and as many rows as leads.
unfoldable pub fitting : Document → Bool
fitting d = let n = length d.counts in let r = length d.leads in let m = d.variables in
    is_table n m d.points && is_table n m d.standard && is_table r m d.leads && is_table r n d.coefficients
    && eqb (length d.weights) (weight_count d.order m)

unfoldable pub well_formed : Document → Bool
well_formed d = bytes_only d && fitting d
