-- What an accepted text says meets what printing asks of points and values.
use mathlib.Core.Path.{◌≡◌, refl, sym, ap, subst}
use mathlib.Core.Bool.{Bool, true, false, not, cond}
use mathlib.Core.List.{List, [], ◌∷◌, map}
use mathlib.Core.Logic.{inl, inr}
use mathlib.Core.Option
use mathlib.Core.Option.{Option, some, none, get_or}
use Prim.Native.Nat.{ℕ, suc, ◌≤◌}
use native.Mathlib.Omega.{arith}
use lib.IntN.{ℤ}
use lib.ListN.{take, drop}
use lib.Dec.{T}
use borrow.Author.Tests.{not-false}
use Rattle.residue.specs.Lists.{Among, same_list}
use Rattle.residue.proofs.Tests.{of_true}
use Rattle.specification.specs.Levels.{in_range}
use Rattle.notation.specs.Fields.{front}
use Rattle.notation.specs.Digits.{is_digit, decimal_number}
use Rattle.notation.specs.Forms.{mod_word, lex_word, grlex_word, grevlex_word, weight_word, weights_of, Ordered, unweighted, weighted, default_order, order_word}
use Rattle.notation.specs.Forms.{Header, header, modulus_and_order, last_field, header_from, header_of}
use Rattle.comma_text.specs.reading.Text.{first_fault, is_none, header_in, entry_in, entries_in, form_fault, is_outside}
use Rattle.comma_text.proofs.reading.FirstPlaces.{fault_step}
use Rattle.comma_text.proofs.reading.EntryLengths.{AllLong, entries_long}

-- The order's number is at most 3.
abbrev Small : Option Ordered → Type 0
Small none = Unit {0}
Small (some o) = o.0 ≤ 3

abbrev pub SmallOrder : Option Header → Type 0
SmallOrder none = Unit {0}
SmallOrder (some h) = h.order ≤ 3

either : (b : Bool) (x y : Option Ordered) → Small x → Small y → Small (cond b x y)
either true x y h k = h
either false x y h k = k

weighted_small : (o : Option (List ℕ)) → Small (Option.map weighted o)
weighted_small none = tt
weighted_small (some ws) = omega arith

word_small : (m : ℕ) (l : List ℕ) → Small (order_word m l)
unfolding order_word
word_small m l =
    either (same_list l []) (some (unweighted default_order)) _ (omega arith)
    (either (same_list l lex_word) (some (unweighted 0)) _ (omega arith)
    (either (same_list l grlex_word) (some (unweighted 1)) _ (omega arith)
    (either (same_list l grevlex_word) (some (unweighted 2)) _ (omega arith)
    (either (same_list (take 7 l) weight_word) _ none (weighted_small (weights_of m (drop 7 l))) tt))))

header_small : (m : ℕ) (p : Option ℕ) (o : Option Ordered) → Small o → SmallOrder (header m p o)
unfolding header
header_small m none o h = tt
header_small m (some p) none h = tt
header_small m (some p) (some (k, ws)) h = h

last_small : (m : ℕ) (l : List ℕ) → SmallOrder (last_field m l)
unfolding last_field modulus_and_order
last_small m l = go (same_list (take 4 l) mod_word) (drop 4 l)
  where
    go : (b : Bool) (r : List ℕ) → SmallOrder (cond b (header m (decimal_number (take (front is_digit r) r)) (order_word m (drop (front is_digit r) r))) none)
    go true r = header_small m (decimal_number (take (front is_digit r) r)) (order_word m (drop (front is_digit r) r)) (word_small m _)
    go false r = tt

from_small : (m : ℕ) (fields : List (List ℕ)) → SmallOrder (header_from m fields)
unfolding header_from
from_small m [] = tt
from_small m (last ∷ []) = last_small m last
from_small m (name ∷ f ∷ fields) = from_small (suc m) (f ∷ fields)

pub in_small : (t : List (Option (List (List ℕ)))) → SmallOrder (header_in t)
unfolding header_in header_of
in_small [] = tt
in_small (none ∷ t) = tt
in_small (some fields ∷ t) = from_small 0 fields

pub or_small : (o : Option Header) (d : Header) → SmallOrder o → d.order ≤ 3 → (get_or o d).order ≤ 3
or_small none d h k = k
or_small (some x) d h k = h

-- Every record behind the header is an entry.
pub no_fault : (o : Option Header) (d : Header) (t : List (Option (List (List ℕ)))) → form_fault o t ≡ 0 → first_fault is_none (entries_in (get_or o d).variables t) ≡ 0
unfolding form_fault
no_fault none d t h = absurd (omega arith)
no_fault (some x) d t h = (fault_step false (first_fault is_none (entries_in x.variables t)) h).1

pub all_some : {A : Type 0} (l : List (Option (List A))) → first_fault is_none l ≡ 0 → l ≡ map some (map (λ e. get_or e []) l)
unfolding first_fault is_none
all_some [] h = refl
all_some (none ∷ l) h = absurd (omega arith)
all_some (some a ∷ l) h = ap (λ (z : List (Option _)). some a ∷ z) (all_some l (fault_step false (first_fault is_none l) h).1)

pub all_long : (m : ℕ) (t : List (Option (List (List ℕ)))) → first_fault is_none (entries_in m t) ≡ 0 → AllLong (suc m) (map (λ e. get_or e []) (entries_in m t))
unfolding entries_in
all_long m t h = entries_long m (drop 1 t) (map (λ e. get_or e []) (map (entry_in m) (drop 1 t))) (all_some (map (entry_in m) (drop 1 t)) h)

-- Every entry is in range.
pub all_inside : (p : ℕ) (S : List (List ℤ)) → first_fault (is_outside p) S ≡ 0 → (zs : List ℤ) → Among zs S → T (in_range p zs)
unfolding first_fault is_outside
all_inside p (z ∷ S) h zs (inl e) = subst (λ (y : List ℤ). T (in_range p y)) (sym e) (of_true (not-false (in_range p z) (fault_step (not (in_range p z)) (first_fault (is_outside p) S) h).0))
all_inside p (z ∷ S) h zs (inr q) = all_inside p S (fault_step (not (in_range p z)) (first_fault (is_outside p) S) h).1 zs q
all_inside p [] h zs x'' = elim x'' [ ]
