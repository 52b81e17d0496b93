-- One field of a record, one record of a text: the turns that the definitions are given are never used up.
use mathlib.Core.Path.{◌≡◌, refl, sym, ap, subst}
use mathlib.Core.Bool.{Bool, true, false, cond}
use mathlib.Core.List.{List, [], ◌∷◌}
use mathlib.Core.Option.{Option, some}
use Prim.Native.Nat.{ℕ, zero, suc, ◌-◌, ◌<◌, ◌≤◌}
use native.Mathlib.Nat.{not-suc-le-zero}
use native.Mathlib.Omega.{arith}
use lib.ListN.{length, take, drop, length-drop}
use lib.Dec.{eqb}
use Rattle.notation.specs.Fields.{quote, comma, lf, cr, Field, field, broken, Part, part, faulty, front, is_plain, after_cr, ending, unquoted, quoted, field_of, with_first, behind_field, record_from, record_of, behind_record, records_from, records_of}
use Rattle.notation.specs.Spans.{closing, undoubled, closed}
use Rattle.notation.proofs.fields.FieldSpans.{quoted_is}

-- a field that was read from n bytes leaves fewer, if another follows it or there were any
pub data Left (n : ℕ) : Field (List ℕ) → Type 0 where
  going : {content rest : List ℕ} → length rest < n → Left n (field content true rest)
  ended : {content rest : List ℕ} → length rest ≤ n - 1 → Left n (field content false rest)
  unread : Left n broken

either : {n : ℕ} {x y : Field (List ℕ)} (t : Bool) → Left n x → Left n y → Left n (cond t x y)
either true h k = h
either false h k = k

wider : {n m : ℕ} {f : Field (List ℕ)} → n ≤ m → Left n f → Left m f
wider h (going {rest = r} k) = going {rest = r} (omega arith)
wider h (ended {rest = r} k) = ended {rest = r} (omega arith)
wider h unread = unread

ending_left : (content l : List ℕ) → Left (length l) (ending content l)
unfolding ending after_cr
ending_left content [] = ended {rest = []} (omega arith)
ending_left content (b ∷ []) =
    either (eqb b comma) (going {rest = []} (omega arith))
    (either (eqb b lf) (ended {rest = []} (omega arith)) (either (eqb b cr) unread unread))
ending_left content (b ∷ c ∷ l) =
    either (eqb b comma) (going {rest = c ∷ l} (omega arith))
    (either (eqb b lf) (ended {rest = c ∷ l} (omega arith))
    (either (eqb b cr) (either (eqb c lf) (ended {rest = l} (omega arith)) unread) unread))

closed_left : (content l : List ℕ) → Left (length l) (closed content l)
unfolding closed
closed_left content [] = unread
closed_left content (b ∷ l) = either (eqb b quote) (wider (omega arith) (ending_left content l)) unread

quoted_left : (l : List ℕ) → Left (length l) (quoted l)
quoted_left l =
    subst (Left (length l)) (sym (quoted_is l)) (wider (simp length-drop (omega arith)) (closed_left (undoubled (take (closing l) l)) (drop (closing l) l)))

unquoted_left : (l : List ℕ) → Left (length l) (unquoted l)
unfolding unquoted
unquoted_left l = wider (simp length-drop (omega arith)) (ending_left (take (front is_plain l) l) (drop (front is_plain l) l))

pub field_left : (l : List ℕ) → Left (length l) (field_of l)
unfolding field_of
field_left [] = unquoted_left []
field_left (b ∷ l) = either (eqb b quote) (wider (omega arith) (quoted_left l)) (unquoted_left (b ∷ l))

-- a record that was read leaves fewer bytes, if there were any
pub data Behind {A : Type 0} (n : ℕ) : Part A → Type 0 where
  shorter : {said : A} {rest : List ℕ} → length rest ≤ n - 1 → Behind n (part said rest)
  stopped : Behind n faulty

with_first_lem : {n m : ℕ} {p : Part (List (List ℕ))} (c : List ℕ) → n ≤ m → Behind n p → Behind m (with_first c p)
unfolding with_first
with_first_lem c h (shorter {rest = r} k) = shorter {rest = r} (omega arith)
with_first_lem c h stopped = stopped

pub record_left : (k : ℕ) (l : List ℕ) → Behind (length l) (record_from k l)
unfolding record_from behind_field
record_left zero l = stopped
record_left (suc k) l = go (field_left l) (λ r. record_left k r)
  where
    go : {f : Field (List ℕ)} → Left (length l) f → ((r : List ℕ) → Behind (length r) (record_from k r)) → Behind (length l) (behind_field (record_from k) f)
    go (going {content = c} {rest = r} h) rec = with_first_lem c (omega arith) (rec r)
    go (ended h) rec = shorter h
    go unread rec = stopped

-- any number of turns above the number of bytes
record_enough : (k j : ℕ) (l : List ℕ) → length l < k → length l < j → record_from k l ≡ record_from j l
unfolding record_from behind_field
record_enough zero j l h i = absurd (not-suc-le-zero h)
record_enough (suc k) zero l h i = absurd (not-suc-le-zero i)
record_enough (suc k) (suc j) l h i = go (field_left l) (λ r. record_enough k j r)
  where
    go : {f : Field (List ℕ)} → Left (length l) f → ((r : List ℕ) → length r < k → length r < j → record_from k r ≡ record_from j r)
        → behind_field (record_from k) f ≡ behind_field (record_from j) f
    go (going {content = c} {rest = r} g) rec = ap (with_first c) (rec r (omega arith) (omega arith))
    go (ended g) rec = refl
    go unread rec = refl

pub record_unroll : (l : List ℕ) → record_of l ≡ behind_field record_of (field_of l)
unfolding record_of record_from behind_field
record_unroll l = go (field_left l)
  where
    go : {f : Field (List ℕ)} → Left (length l) f → behind_field (record_from (length l)) f ≡ behind_field record_of f
    go (going {content = c} {rest = r} g) = ap (with_first c) (record_enough (length l) (suc (length r)) r (omega arith) (omega arith))
    go (ended g) = refl
    go unread = refl

-- any number of turns not below the number of bytes
records_enough : (k j : ℕ) (l : List ℕ) → length l ≤ k → length l ≤ j → records_from k l ≡ records_from j l
unfolding records_from behind_record record_of
records_enough zero zero l h i = refl
records_enough zero (suc j) [] h i = refl
records_enough zero (suc j) (b ∷ l) h i = absurd (not-suc-le-zero h)
records_enough (suc k) zero [] h i = refl
records_enough (suc k) zero (b ∷ l) h i = absurd (not-suc-le-zero i)
records_enough (suc k) (suc j) [] h i = refl
records_enough (suc k) (suc j) (b ∷ l) h i = go (record_left (suc (suc (length l))) (b ∷ l)) (λ r. records_enough k j r)
  where
    go : {p : Part (List (List ℕ))} → Behind (suc (length l)) p → ((r : List ℕ) → length r ≤ k → length r ≤ j → records_from k r ≡ records_from j r)
        → behind_record (records_from k) p ≡ behind_record (records_from j) p
    go (shorter {said = s} {rest = r} g) rec = ap (λ (x : List (Option (List (List ℕ)))). some s ∷ x) (rec r (omega arith) (omega arith))
    go stopped rec = refl

pub records_unroll : (l : List ℕ) → 0 < length l → records_of l ≡ behind_record records_of (record_of l)
unfolding records_of records_from behind_record record_of
records_unroll [] h = absurd (not-suc-le-zero h)
records_unroll (b ∷ l) h = go (record_left (suc (suc (length l))) (b ∷ l))
  where
    go : {p : Part (List (List ℕ))} → Behind (suc (length l)) p → behind_record (records_from (length l)) p ≡ behind_record records_of p
    go (shorter {said = s} {rest = r} g) = ap (λ (x : List (Option (List (List ℕ)))). some s ∷ x) (records_enough (length l) (length r) r (omega arith) (omega arith))
    go stopped = refl
