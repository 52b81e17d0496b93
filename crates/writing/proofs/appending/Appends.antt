-- Laws of bytes written into a lent buffer, one run after the other.
use mathlib.Core.Path.{◌≡◌, refl, sym, ◌∙◌, ap, ap₂}
use mathlib.Core.List.{List, [], ◌∷◌, ◌++◌, append_assoc, append-nil, flatten}
use Prim.Native.Nat.{ℕ, zero, suc, ◌+◌, ◌-◌, ◌<◌, ◌≤◌}
use native.Mathlib.Nat.{add-zero, not-suc-le-zero, le_of_suc-le-suc}
use native.Mathlib.Numerals.{add-one}
use native.Mathlib.Omega.{arith}
use lib.ListN.{length, get_or, take, drop, set, length-append, length-drop, take-append-drop}
use lib.Seq.{length-take-le, take_all, take_at, drop_at, drop-drop, set_split}
use borrow.Rule.Slice.PartMut.{put_mid}
use Rattle.writing.specs.Appending.{Room, put_at, Put}

length_put : (at : ℕ) (a o : List ℕ) → Room at a o → length (put_at at a o) ≡ length o
unfolding put_at
length_put at a o h =
    let n = at + length a in
    length-append (take at o) (a ++ drop n o)
    ∙ omega (arith, length-take-le at o (omega arith), length-append a (drop n o), length-drop n o)

put_put : (at : ℕ) (a b o : List ℕ) → at ≤ length o → put_at (at + length a) b (put_at at a o) ≡ put_at at (a ++ b) o
unfolding put_at
put_put at a b o h =
    let n = at + length a in
    let P = take at o in
    let D = drop n o in
    let l : length (P ++ a) ≡ n = length-append P a ∙ ap (λ (k : ℕ). k + length a) (length-take-le at o h) in
    let e : P ++ (a ++ D) ≡ (P ++ a) ++ D = sym (append_assoc P a D) in
    let f : take n (P ++ (a ++ D)) ≡ P ++ a = ap (λ (z : List ℕ). take n z) e ∙ take_at (P ++ a) D n l in
    let m : n + length b ≡ at + length (a ++ b) = omega (arith, length-append a b) in
    let g : drop (n + length b) (P ++ (a ++ D)) ≡ drop (at + length (a ++ b)) o =
    sym (drop-drop (length b) n (P ++ (a ++ D)))
    ∙ ap (λ (z : List ℕ). drop (length b) z) (ap (λ (z : List ℕ). drop n z) e ∙ drop_at (P ++ a) D n l)
    ∙ drop-drop (length b) n o ∙ ap (λ (k : ℕ). drop k o) m in
    ap₂ (λ (x y : List ℕ). x ++ (b ++ y)) f g ∙ append_assoc P a _ ∙ ap (λ (z : List ℕ). P ++ z) (sym (append_assoc a b _))

pub put_nothing : (at : ℕ) (o : List ℕ) → Put at [] o o at
unfolding put_at
put_nothing at o = record { ends = omega arith; holds = rw add-zero (sym (take-append-drop at o)) }

pub put_set : (at b : ℕ) (o : List ℕ) → at < length o → Put at (b ∷ []) o (set o at b) (at + 1)
unfolding put_at
put_set at b o h = record { ends = refl; holds = set_split o at b h ∙ rw (sym (add-one at)) }

-- a part that was lent and came back as the bytes
pub put_part : (at : ℕ) (w o new : List ℕ) → new ≡ w → Put at w o (put_mid at ((at + length w) - at) o new) (at + length w)
unfolding put_at
put_part at w o new e =
    let k : at + ((at + length w) - at) ≡ at + length w = omega arith in
    record { ends = refl; holds = ap₂ (λ (x y : List ℕ). take at o ++ (x ++ y)) e (drop-drop ((at + length w) - at) at o ∙ ap (λ (j : ℕ). drop j o) k) }

module _ {at next : ℕ} {a o mid : List ℕ} (p : Put at a o mid next) where
  pub put_length : Room at a o → length mid ≡ length o
  put_length h = ap length p.holds ∙ length_put at a o h

  -- room for what follows
  pub put_room : (b : List ℕ) → Room at (a ++ b) o → Room next b mid
  put_room b h = omega (arith, p.ends, put_length (omega (arith, length-append a b)), length-append a b)

  -- room for the first part of it
  pub put_front : (b d : List ℕ) → Room at (a ++ (b ++ d)) o → Room next b mid
  put_front b d h = omega (arith, put_room (b ++ d) h, length-append b d)

  pub put_more : {last : ℕ} {b after : List ℕ} → Room at (a ++ b) o → Put next b mid after last → Put at (a ++ b) o after last
  put_more {last} {b} {after} h q = record {
    ends = omega (arith, p.ends, q.ends, length-append a b);
    holds = q.holds ∙ ap₂ (λ (n : ℕ) (l : List ℕ). put_at n b l) p.ends p.holds ∙ put_put at a b o (omega arith);
  }

-- what was written stands at the front
pub put_within : {end : ℕ} {a o after : List ℕ} → Put 0 a o after end → Room 0 a o → (end ≤ length after) × (end ≡ length (take end after))
put_within {end} {a} {o} {after} p h =
    let l = put_length p h in
    let k : end ≤ length after = omega (arith, p.ends) in
    (k, sym (length-take-le end after k))

pub first_room : (at : ℕ) (a b o : List ℕ) → Room at (a ++ b) o → Room at a o
first_room at a b o h = omega (arith, length-append a b)

-- Runs of bytes from a list, one after the other.
step : (L : List (List ℕ)) (i : ℕ) → i < length L → flatten (take (suc i) L) ≡ flatten (take i L) ++ get_or L i []
unfolding flatten
step [] i h = absurd (not-suc-le-zero h)
step (x ∷ L) zero h = append-nil x
step (x ∷ L) (suc i) h = ap (λ (z : List ℕ). x ++ z) (step L i (le_of_suc-le-suc h)) ∙ sym (append_assoc x (flatten (take i L)) (get_or L i []))

within : (L : List (List ℕ)) (i : ℕ) → length (flatten (take i L)) ≤ length (flatten L)
unfolding flatten
within L zero = omega arith
within [] (suc i) = omega arith
within (x ∷ L) (suc i) = omega (arith, within L i, length-append x (flatten (take i L)), length-append x (flatten L))

module _ {at next : ℕ} {o mid : List ℕ} (L : List (List ℕ)) (i : ℕ) (x : List ℕ) (h : i < length L) (e : get_or L i [] ≡ x) (p : Put at (flatten (take i L)) o mid next) where
  more : flatten (take (suc i) L) ≡ flatten (take i L) ++ x
  more = step L i h ∙ ap (λ (z : List ℕ). flatten (take i L) ++ z) e

  room : Room at (flatten L) o → Room at (flatten (take i L) ++ x) o
  room k = omega (arith, within L (suc i), ap (λ (z : List ℕ). length z) more)

  pub turn_room : Room at (flatten L) o → Room next x mid
  turn_room k = put_room p x (room k)

  pub turn : {last : ℕ} {after : List ℕ} → Room at (flatten L) o → Put next x mid after last → Put at (flatten (take (i + 1) L)) o after last
  turn {last} {after} k q = rw (add-one i, more) (put_more p (room k) q)

pub turns_all : {at next : ℕ} {o mid : List ℕ} (L : List (List ℕ)) (i : ℕ) → length L ≤ i → Put at (flatten (take i L)) o mid next → Put at (flatten L) o mid next
turns_all L i h p = rw (take_all i L h) at p
