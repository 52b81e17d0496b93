-- How lists of numbers lie in lent bytes: docs/SCOPE.md, 'The sheet'.
use Rattle.std.specs.Prelude.{◌≡◌, refl, Bool, List, [], ◌∷◌, ◌++◌, ℕ, zero, suc, ◌*◌, take, drop, length}
use Rattle.std.proofs.Common.{ap}
use Rattle.residue.specs.Lists.{same_list}

-- a list cut or filled up with zeros to k numbers
unfoldable pub fill : ℕ → List ℕ → List ℕ
fill zero l = []
fill (suc k) [] = 0 ∷ fill k []
fill (suc k) (a ∷ l) = a ∷ fill k l

-- it has k numbers: monomials and points of m numbers carry that with them
pub length_fill : (k : ℕ) (l : List ℕ) → length (fill k l) ≡ k
unfolding fill
length_fill zero l = refl
length_fill (suc k) [] = ap suc (length_fill k [])
length_fill (suc k) (a ∷ l) = ap suc (length_fill k l)

-- k groups of m
unfoldable pub groups : {A : Type 0} → ℕ → ℕ → List A → List (List A)
groups m zero l = []
groups m (suc k) l = take m l ∷ groups m k (drop m l)

-- rows one after the other, each in a place of the given width
unfoldable pub in_places : ℕ → List (List ℕ) → List ℕ
in_places width [] = []
in_places width (row ∷ rows) = fill width row ++ in_places width rows

-- new numbers in the place of the first ones of a lent list; any length beyond is left untouched
unfoldable pub over : List ℕ → List ℕ → List ℕ
over new old = new ++ drop (length new) old

-- the first numbers of a lent list are these
unfoldable pub begins : List ℕ → List ℕ → Bool
begins new old = same_list new (take (length new) old)

-- numbers at the front of place k of a table whose places have the given width
unfoldable pub with_place : ℕ → ℕ → List ℕ → List ℕ → List ℕ
with_place width k new table = take (width * k) table ++ (over new (take width (drop (width * k) table)) ++ drop width (drop (width * k) table))

-- row i of a table
abbrev pub row_at : ℕ → ℕ → List ℕ → List ℕ
row_at w i t = take w (drop (w * i) t)
