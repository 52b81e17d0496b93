-- What the readers of a field's content answer, in the terms of the definitions of forms: for each case of an answer its number in docs/SCOPE.md's list of
-- refusals and its values. What was read is not refused; what breaks the rules of the text is, with 2.
-- `Answer` is the code's Option, with Some and None; the definitions' own has some and none.
use Rattle.std.specs.Prelude.{◌≡◌, Bool, true, false, cond, List, ℕ, ◌≤◌, ℤ, pos, take, drop, eqb, Option as Answer, Some, None}
use Rattle.std.proofs.Math.Option.{Option, some, none}
use Rattle.notation.specs.Digits.{is_digit, decimal_number}
use Rattle.notation.specs.Fields.{front, Part, part, faulty}
use Rattle.notation.specs.Forms.{negative, Ordered, Header}
use Rattle.notation.specs.declared.digits.Leading.{Leading}
use Rattle.notation.specs.declared.forms.Weight.{Weight}
use Rattle.notation.specs.declared.forms.Settings.{Settings}

-- of what a definition reads, or does not
unfoldable pub form_number : {A : Type 0} → Option A → ℕ
form_number (some a) = 0
form_number none = 2

-- the number that the digits at the front write, one to three of them, and how many they are
unfoldable pub leading_of : ℕ → ℕ → Answer Leading
leading_of size count = cond (eqb count 0) None (Some (record { size = size; count = count }))

unfoldable pub leading_said : Answer Leading → Option ℕ
leading_said (Some l) = some l.size
leading_said None = none

unfoldable pub leading_number : Answer Leading → ℕ
leading_number (Some l) = 0
leading_number None = 2

abbrev pub LeadingEnds : ℕ → Answer Leading → Type 0
LeadingEnds k (Some l) = l.count ≡ k
LeadingEnds k None = Unit {0}

pub record LeadingRead (content : List ℕ) (r : Answer Leading) : Type 0 where
  pub said : leading_said r ≡ decimal_number (take (front is_digit content) content)
  pub number : leading_number r ≡ form_number (decimal_number (take (front is_digit content) content))
  pub ends : LeadingEnds (front is_digit content) r

-- a weight, and where the content goes on
unfoldable pub weight_said : List ℕ → Answer Weight → Part ℕ
weight_said content (Some w) = part w.weight (drop w.next content)
weight_said content None = faulty

abbrev pub WeightWithin : ℕ → Answer Weight → Type 0
WeightWithin n (Some w) = w.next ≤ n
WeightWithin n None = Unit {0}

-- the order, with the weights in the lent buffer
unfoldable pub order_said : List ℕ → Answer ℕ → Option Ordered
order_said weights (Some k) = some (k, weights)
order_said weights None = none

unfoldable pub order_number : Answer ℕ → ℕ
order_number (Some k) = 0
order_number None = 2

pub record OrderRead (reads : Option Ordered) (weights : List ℕ) (r : Answer ℕ) : Type 0 where
  pub said : order_said weights r ≡ reads
  pub number : order_number r ≡ form_number reads

-- a level by its sign and size
unfoldable pub with_sign : Bool → ℕ → ℤ
with_sign true size = negative size
with_sign false size = pos size

-- the last header field, behind m names, with the weights in the lent buffer
unfoldable pub last_said : ℕ → List ℕ → Answer Settings → Option Header
last_said m weights (Some s) = some (record { variables = m; modulus = s.modulus; order = s.order; weights = weights })
last_said m weights None = none

unfoldable pub last_number : Answer Settings → ℕ
last_number (Some s) = 0
last_number None = 2

-- what a definition reads behind m names: the whole field, or what stands behind `mod ` in it
pub record LastRead (m : ℕ) (reads : Option Header) (weights : List ℕ) (r : Answer Settings) : Type 0 where
  pub said : last_said m weights r ≡ reads
  pub number : last_number r ≡ form_number reads
