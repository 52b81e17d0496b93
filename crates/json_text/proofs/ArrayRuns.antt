-- The loop that writes an array into a lent buffer: the bracket, run after run, the other bracket. A run is an item, behind a comma but for the first.
use mathlib.Core.Path.{◌≡◌, refl, sym, ap, subst}
use mathlib.Core.List.{List, [], ◌∷◌, ◌++◌, map, flatten, append-nil}
use Prim.Native.Nat.{ℕ, zero, suc, ◌+◌, ◌≤◌, ◌<◌}
use native.Mathlib.Nat.{not-suc-le-zero, le_of_suc-le-suc}
use native.Mathlib.Omega.{arith}
use lib.ListN.{length, get_or, take, length-map}
use lib.Dec.{eqb-suc-zero}
use borrow.Author.Tests.{eq-eqb, ne_eqb}
use Rattle.writing.specs.Appending.{Room, Put}
use Rattle.residue.proofs.vector.Vectors.{map_at}
use Rattle.json_text.specs.Writing.{separated, before, array}
use Rattle.writing.proofs.appending.Appends.{first_room, put_more, put_room, turn_room, turn, turns_all}

pub runs : List (List ℕ) → List (List ℕ)
runs [] = []
runs (x ∷ l) = x ∷ map (λ y. 44 ∷ y) l

pub before_first : (i : ℕ) → i ≡ 0 → before i ≡ []
unfolding before
before_first i e = rw (eq-eqb i 0 e)

pub before_other : (i : ℕ) → (i ≡ 0 → ⊥) → before i ≡ 44 ∷ []
unfolding before
before_other i n = rw (ne_eqb i 0 n)

separated_runs : (x : List ℕ) (l : List (List ℕ)) → separated (x ∷ l) ≡ x ++ flatten (map (λ y. 44 ∷ y) l)
unfolding separated flatten
separated_runs x [] = sym (append-nil x)
separated_runs x (y ∷ l) = ap (λ (z : List ℕ). x ++ (44 ∷ z)) (separated_runs y l)

pub array_runs : (l : List (List ℕ)) → array l ≡ 91 ∷ (flatten (runs l) ++ (93 ∷ []))
unfolding array separated runs flatten
array_runs [] = refl
array_runs (x ∷ l) = ap (λ (z : List ℕ). 91 ∷ (z ++ (93 ∷ []))) (separated_runs x l)

pub runs_length : (l : List (List ℕ)) → length (runs l) ≡ length l
unfolding runs
runs_length [] = refl
runs_length (x ∷ l) = ap suc (length-map l (λ y. 44 ∷ y))

pub run_at : (l : List (List ℕ)) (i : ℕ) → i < length l → get_or (runs l) i [] ≡ before i ++ get_or l i []
unfolding runs before
run_at [] i h = absurd (not-suc-le-zero h)
run_at (x ∷ l) zero h = refl
run_at (x ∷ l) (suc i) h = rw (eqb-suc-zero i) (map_at (λ y. 44 ∷ y) l [] [] i (le_of_suc-le-suc h))

-- the bracket that opens it
pub open_room : (l : List (List ℕ)) (at : ℕ) (o : List ℕ) → Room at (array l) o → Room at (91 ∷ []) o
open_room l at o room = first_room at (91 ∷ []) (flatten (runs l) ++ (93 ∷ [])) o (subst (λ (z : List ℕ). Room at z o) (array_runs l) room)

-- Behind it, in the buffer as it is then: the runs before item i stand there.
module _ (l : List (List ℕ)) (at : ℕ) (o : List ℕ) (room : Room at (array l) o) {first : ℕ} {opened : List ℕ} (p : Put at (91 ∷ []) o opened first) where
  whole : Room at ((91 ∷ []) ++ (flatten (runs l) ++ (93 ∷ []))) o
  whole = subst (λ (z : List ℕ). Room at z o) (array_runs l) room

  behind : Room first (flatten (runs l) ++ (93 ∷ [])) opened
  behind = put_room p (flatten (runs l) ++ (93 ∷ [])) whole

  all : Room first (flatten (runs l)) opened
  all = first_room first (flatten (runs l)) (93 ∷ []) opened behind

  module _ {next : ℕ} {mid : List ℕ} (i : ℕ) (q : Put first (flatten (take i (runs l))) opened mid next) where
    -- an item more
    pub item_room : i < length l → Room next (before i ++ get_or l i []) mid
    item_room h = turn_room (runs l) i (before i ++ get_or l i []) (omega (arith, runs_length l)) (run_at l i h) q all

    pub item_put : i < length l → {last : ℕ} {after : List ℕ} → Put next (before i ++ get_or l i []) mid after last → Put first (flatten (take (i + 1) (runs l))) opened after last
    item_put h {last} {after} w = turn (runs l) i (before i ++ get_or l i []) (omega (arith, runs_length l)) (run_at l i h) q all w

    -- the bracket that closes it
    pub close_room : length l ≤ i → Room next (93 ∷ []) mid
    close_room h = put_room (turns_all (runs l) i (omega (arith, runs_length l)) q) (93 ∷ []) behind

    pub array_put : length l ≤ i → {last : ℕ} {after : List ℕ} → Put next (93 ∷ []) mid after last → Put at (array l) o after last
    array_put h {last} {after} w = rw (array_runs l) (put_more p whole (put_more (turns_all (runs l) i (omega (arith, runs_length l)) q) behind w))
