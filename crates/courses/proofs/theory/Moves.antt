-- M-111: the moves of records. Consecutive states of a course are a move; without refusal 17 a state has one successor.
use mathlib.Core.Path.{◌≡◌, refl, sym, ◌∙◌, ap, subst}
use mathlib.Core.Bool.{Bool, true, false, not, cond, ◌&&◌, ◌||◌}
use mathlib.Core.Logic.{inl, inr}
use mathlib.Core.List.{List, [], ◌∷◌, ◌++◌}
use Prim.Native.Nat.{ℕ, zero, suc, ◌≤◌, ◌<◌}
use native.Mathlib.Omega.{arith}
use lib.ListN.{length, get_or}
use lib.Dec.{T, eqb}
use Rattle.residue.specs.Lists.{Among, some, same_list}
use Rattle.residue.proofs.Tests.{Decides, so, not_so, and_left, and_right, neither}
use Rattle.specification.proofs.ideal.Lists.{snoc_in}
use Rattle.specification.proofs.needed.Decided.{equal_told, lists_told}
use Rattle.courses.specs.TimeCourse.{Timed, in_runs, course_of, Move, move, moves_from, first_move, other_next, successor_of}

-- Courses. A number that no record has is no course.
no_course : (c : ℕ) (l : List Timed) → T (not (some (λ e. eqb e.1 c) l)) → course_of c l ≡ []
unfolding course_of
no_course c [] t = refl
no_course c (a ∷ l) t = go (eqb a.1 c) t (λ z. no_course c l z)
  where
    go : (b : Bool) → T (not (b || some (λ e. eqb e.1 c) l)) → (T (not (some (λ e. eqb e.1 c) l)) → course_of c l ≡ [])
        → cond b (a.0 ∷ course_of c l) (course_of c l) ≡ []
    go true z rec = absurd z
    go false z rec = rec z

-- the move from the k-th state of a course to the next
abbrev MoveAt : ℕ → List Move → List (List ℕ) → ℕ → Type 0
MoveAt c ms C k = (a : Move) × Among a ms × (a.state ≡ get_or C k []) × (a.next ≡ get_or C (suc k) [])

pub course_moves : (c j : ℕ) (l : List Timed) → T (in_runs l) → (k : ℕ) → suc k < length (course_of c l)
    → (a : Move) × Among a (moves_from j l) × (a.state ≡ get_or (course_of c l) k []) × (a.next ≡ get_or (course_of c l) (suc k) [])
unfolding in_runs course_of moves_from
course_moves c j [] t k h = absurd (omega arith)
course_moves c j (a ∷ []) t k h = absurd (single (eqb a.1 c) h)
  where
    single : (b : Bool) → suc k < length (cond {A = List (List ℕ)} b (a.0 ∷ []) []) → ⊥
    single true z = omega arith
    single false z = omega arith
course_moves c j (a ∷ b ∷ l) t k h =
    let joined = eqb a.1 b.1 || not (some (λ e. eqb e.1 a.1) (b ∷ l)) in
    go (equal_told a.1 b.1) (equal_told a.1 c) k (and_left joined (in_runs (b ∷ l)) t) h
    (λ i z. course_moves c (suc j) (b ∷ l) (and_right joined (in_runs (b ∷ l)) t) i z)
  where
    C : List (List ℕ)
    C = course_of c (b ∷ l)

    ms : List Move
    ms = moves_from (suc j) (b ∷ l)

    -- the next record is of this course: it begins the rest
    begins : b.1 ≡ c → C ≡ b.0 ∷ course_of c l
    begins e = head (equal_told b.1 c)
      where
        head : {t : Bool} → Decides (b.1 ≡ c) t → cond t (b.0 ∷ course_of c l) (course_of c l) ≡ b.0 ∷ course_of c l
        head (so z) = refl
        head (not_so n) = absurd (n e)

    go : {x y : Bool} → Decides (a.1 ≡ b.1) x → Decides (a.1 ≡ c) y → (i : ℕ) → T (x || not (some (λ e. eqb e.1 a.1) (b ∷ l)))
        → suc i < length (cond y (a.0 ∷ C) C) → ((n : ℕ) → suc n < length C → MoveAt c ms C n)
        → MoveAt c (cond x (move j a.0 b.0 ∷ ms) ms) (cond y (a.0 ∷ C) C) i
    go (so e) (so f) zero u z rec = (move j a.0 b.0, inl refl, refl, ap (λ (D : List (List ℕ)). get_or D 0 []) (sym (begins (sym e ∙ f))))
    go (so e) (so f) (suc i) u z rec = let w = rec i (omega arith) in (w.0, inr w.1, w.2, w.3)
    go (so e) (not_so f) i u z rec = let w = rec i z in (w.0, inr w.1, w.2, w.3)
    go (not_so e) (so f) i u z rec = absurd (omega (arith, ap length (no_course c (b ∷ l) (subst (λ (n : ℕ). T (not (some (λ d. eqb d.1 n) (b ∷ l)))) f u))))
    go (not_so e) (not_so f) i u z rec = rec i z

-- the number of a record is not 0
pub moves_at : (j : ℕ) (l : List Timed) → 1 ≤ j → (a : Move) → Among a (moves_from j l) → 1 ≤ a.at
unfolding moves_from
moves_at j [] h a mem = absurd mem
moves_at j (x ∷ []) h a mem = absurd mem
moves_at j (x ∷ y ∷ l) h a mem = go (eqb x.1 y.1) mem (λ z. moves_at (suc j) (y ∷ l) (omega arith) a z)
  where
    go : (b : Bool) → Among a (cond b (move j x.0 y.0 ∷ moves_from (suc j) (y ∷ l)) (moves_from (suc j) (y ∷ l)))
        → (Among a (moves_from (suc j) (y ∷ l)) → 1 ≤ a.at) → 1 ≤ a.at
    go true (inl e) rec = rw e h
    go true (inr z) rec = rec z
    go false z rec = rec z

-- No move has a fault by those before it.
abbrev pub Faultless : (List Move → Move → Bool) → List Move → List Move → Type 0
Faultless f seen [] = Unit {0}
Faultless f seen (a ∷ l) = (f seen a ≡ false) × Faultless f (seen ++ (a ∷ [])) l

pub faultless : (f : List Move → Move → Bool) (seen l : List Move) → ((a : Move) → Among a l → 1 ≤ a.at) → first_move f seen l ≡ 0 → Faultless f seen l
unfolding first_move
faultless f seen [] h e = tt
faultless f seen (a ∷ l) h e = go (f seen a) refl e (λ z. faultless f (seen ++ (a ∷ [])) l (λ b mem. h b (inr mem)) z)
  where
    go : (b : Bool) → f seen a ≡ b → cond b a.at (first_move f (seen ++ (a ∷ [])) l) ≡ 0
        → (first_move f (seen ++ (a ∷ [])) l ≡ 0 → Faultless f (seen ++ (a ∷ [])) l)
        → (f seen a ≡ false) × Faultless f (seen ++ (a ∷ [])) l
    go true g z rec = absurd (omega (arith, h a (inl refl), z))
    go false g z rec = (g, rec z)

-- Without 17: what stands before a move with its state has its successor.
pub one_next : (seen : List Move) (a : Move) → other_next seen a ≡ false → (b : Move) → Among b seen → b.state ≡ a.state → b.next ≡ a.next
unfolding other_next
one_next (x ∷ seen) a e b (inl u) same = go (lists_told x.state a.state) (lists_told x.next a.next) (neither _ (other_next seen a) e).0
  where
    go : {y z : Bool} → Decides (x.state ≡ a.state) y → Decides (x.next ≡ a.next) z → (y && not z) ≡ false → b.next ≡ a.next
    go (so h) (so g) q = ap (λ (m : Move). m.next) u ∙ g
    go (so h) (not_so g) q = absurd (let z : ◌≡◌ {A = ℕ} 0 1 = cc in omega arith)
    go (not_so h) g q = absurd (h (ap (λ (m : Move). m.state) (sym u) ∙ same))
one_next (x ∷ seen) a e b (inr mem) same =
    one_next seen a (neither (same_list x.state a.state && not (same_list x.next a.next)) (other_next seen a) e).1 b mem same
one_next [] a e b x3 same = elim x3 [ ]

before_same : (seen l : List Move) → Faultless other_next seen l → (b : Move) → Among b seen → (a : Move) → Among a l → b.state ≡ a.state → b.next ≡ a.next
before_same seen (x ∷ l) h b mem a (inl e) same = one_next seen x h.0 b mem (same ∙ ap (λ (m : Move). m.state) e) ∙ ap (λ (m : Move). m.next) (sym e)
before_same seen (x ∷ l) h b mem a (inr q) same = before_same (seen ++ (x ∷ [])) l h.1 b (snoc_in seen x b (inl mem)) a q same
before_same seen [] h b mem a x4 same = elim x4 [ ]

pub same_next : (seen l : List Move) → Faultless other_next seen l → (a b : Move) → Among a l → Among b l → a.state ≡ b.state → a.next ≡ b.next
same_next seen (x ∷ l) h a b (inl e) (inl f) same = ap (λ (m : Move). m.next) (e ∙ sym f)
same_next seen (x ∷ l) h a b (inl e) (inr q) same = before_same (seen ++ (x ∷ [])) l h.1 a (snoc_in seen x a (inr e)) b q same
same_next seen (x ∷ l) h a b (inr p) (inl f) same = sym (before_same (seen ++ (x ∷ [])) l h.1 b (snoc_in seen x b (inr f)) a p (sym same))
same_next seen (x ∷ l) h a b (inr p) (inr q) same = same_next (seen ++ (x ∷ [])) l h.1 a b p q same
same_next seen [] h a b x4 _ same = elim x4 [ ]

-- the successor that is found is a move's
pub next_found : (ms : List Move) (a : Move) → Among a ms → (b : Move) × Among b ms × (b.state ≡ a.state) × (successor_of a.state ms ≡ b.next)
unfolding successor_of
next_found (x ∷ ms) a mem = go (lists_told a.state x.state) mem (λ z. next_found ms a z)
  where
    go : {y : Bool} → Decides (a.state ≡ x.state) y → Among a (x ∷ ms)
        → (Among a ms → (b : Move) × Among b ms × (b.state ≡ a.state) × (successor_of a.state ms ≡ b.next))
        → (b : Move) × Among b (x ∷ ms) × (b.state ≡ a.state) × (cond y x.next (successor_of a.state ms) ≡ b.next)
    go (so e) z rec = (x, inl refl, sym e, refl)
    go (not_so n) (inl e) rec = absurd (n (ap (λ (m : Move). m.state) e))
    go (not_so n) (inr z) rec = let w = rec z in (w.0, inr w.1, w.2, w.3)
next_found [] a mem = elim mem [ ]

pub next_is : (ms : List Move) → Faultless other_next [] ms → (a : Move) → Among a ms → successor_of a.state ms ≡ a.next
next_is ms h a mem = let w = next_found ms a mem in w.3 ∙ same_next [] ms h w.0 a w.1 mem w.2
