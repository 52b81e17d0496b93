-- The monomial orders, in the words of docs/SCOPE.md, 'Monomial orders'. In orders 0 to 2 x1 is the greatest variable, xm the smallest.
use Rattle.std.specs.Prelude.{List, [], ◌∷◌}
use Prim.Native.Nat.{ℕ, zero, suc, ◌+◌, ◌*◌, ◌≤◌, compare, Ordering}
use Rattle.monomial.specs.Monomial.{degree}

-- orders 0, 1, 2 and 3; the weights of order 3, x1's first
pub data Order : Type 0 where
  lex : Order
  grlex : Order
  grevlex : Order
  weighted : List ℕ → Order

-- The order of a number and of the settings' weights. A number above 3 is refused before it is read here (docs/SCOPE.md, 'Refused, in this order of
-- checking', 5).
unfoldable pub order_of : ℕ → List ℕ → Order
order_of zero weights = lex
order_of (suc zero) weights = grlex
order_of (suc (suc zero)) weights = grevlex
order_of (suc (suc (suc n))) weights = weighted weights

-- a first comparison, and a second that decides where the first finds no difference
abbrev pub and_then : Ordering → Ordering → Ordering
and_then Ordering.lt o = Ordering.lt
and_then Ordering.eq o = o
and_then Ordering.gt o = Ordering.gt

-- the first variable that differs decides; the larger exponent is greater
abbrev pub by_first : List ℕ → List ℕ → Ordering
by_first [] [] = Ordering.eq
by_first [] (y ∷ ys) = Ordering.lt
by_first (x ∷ xs) [] = Ordering.gt
by_first (x ∷ xs) (y ∷ ys) = and_then (compare x y) (by_first xs ys)

-- the last variable that differs decides; the smaller exponent there is greater
abbrev pub by_last : List ℕ → List ℕ → Ordering
by_last [] [] = Ordering.eq
by_last [] (y ∷ ys) = Ordering.lt
by_last (x ∷ xs) [] = Ordering.gt
by_last (x ∷ xs) (y ∷ ys) = and_then (by_last xs ys) (compare y x)

-- the sum of weight times exponent; a variable without a weight adds nothing
abbrev pub weigh : List ℕ → List ℕ → ℕ
weigh [] a = 0
weigh (w ∷ ws) [] = 0
weigh (w ∷ ws) (x ∷ xs) = w * x + weigh ws xs

-- how a stands to b; in grlex and grevlex the larger total degree is greater, and only a tie is decided by the variables; order 3 'compares the sum of weight
-- times exponent, then lex' (request M-109)
unfoldable pub cmp : Order → List ℕ → List ℕ → Ordering
cmp lex a b = by_first a b
cmp grlex a b = and_then (compare (degree a) (degree b)) (by_first a b)
cmp grevlex a b = and_then (compare (degree a) (degree b)) (by_last a b)
cmp (weighted w) a b = and_then (compare (weigh w a) (weigh w b)) (by_first a b)

-- no weight is above 99: ranks then fit 64 bits
abbrev pub Light : List ℕ → Type 0
Light [] = Unit {0}
Light (w ∷ ws) = (w ≤ 99) × Light ws

abbrev pub LightOrder : Order → Type 0
LightOrder lex = Unit {0}
LightOrder grlex = Unit {0}
LightOrder grevlex = Unit {0}
LightOrder (weighted w) = Light w
