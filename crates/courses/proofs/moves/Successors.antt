-- The successor of a state while moves come one after the other, and how 17 is told by it.
use mathlib.Core.Path.{◌≡◌, refl, sym, ◌∙◌, ap, subst}
use mathlib.Core.Bool.{Bool, true, false, not, cond}
use mathlib.Core.Logic.{inl, inr, ◌↔◌}
use mathlib.Core.List.{List, [], ◌∷◌, ◌++◌}
use Prim.Native.Nat.{ℕ}
use Rattle.residue.specs.Lists.{Among, same_list}
use Rattle.residue.proofs.Tests.{Decides, so, not_so, true_of, of_true}
use Rattle.specification.specs.Levels.{is_among}
use Rattle.specification.specs.Counted.{points_of, gathered}
use Rattle.specification.proofs.Repeats.{among_is, is_among_lem}
use Rattle.specification.proofs.counted.Gathered.{among_gathered}
use Rattle.specification.proofs.ideal.Lists.{among_map, map_among}
use Rattle.specification.proofs.needed.Decided.{lists_told}
use Rattle.courses.specs.TimeCourse.{Move, states_of, points_of_moves, first_move, other_next, successor_of}
use Rattle.courses.proofs.theory.Moves.{Faultless, faultless, one_next, next_is}
use Rattle.courses.proofs.theory.Records.{other_next_lem}
use Rattle.courses.proofs.moves.FirstMoves.{Numbered}

-- a state is a point where it is the state of a move
pub among_states : (P : List ℕ) (ms : List Move) → is_among P (points_of (points_of_moves ms)) ≡ is_among P (states_of ms)
unfolding points_of_moves
among_states P ms = go (is_among P (points_of (gathered (states_of ms)))) refl (is_among P (states_of ms)) refl
  where
    both : Among P (points_of (gathered (states_of ms))) ↔ Among P (states_of ms)
    both = among_gathered (states_of ms) P

    go : (b : Bool) → is_among P (points_of (gathered (states_of ms))) ≡ b → (c : Bool) → is_among P (states_of ms) ≡ c → b ≡ c
    go true e true f = refl
    go false e false f = refl
    go true e false f =
        sym (true_of (is_among P (states_of ms)) (is_among_lem P (states_of ms) (both.0 (among_is P (points_of (gathered (states_of ms))) (of_true e))))) ∙ f
    go false e true f =
        sym e ∙ true_of (is_among P (points_of (gathered (states_of ms))))
        (is_among_lem P (points_of (gathered (states_of ms))) (both.1 (among_is P (states_of ms) (of_true f))))

-- a state that stands there keeps its successor, and one that is new has that of its own move
pub next_there : (P : List ℕ) (ms rest : List Move) → Among P (states_of ms) → successor_of P (ms ++ rest) ≡ successor_of P ms
unfolding successor_of
next_there P [] rest mem = absurd mem
next_there P (a ∷ ms) rest mem = go (lists_told P a.state) mem (λ z. next_there P ms rest z)
  where
    go : {b : Bool} → Decides (P ≡ a.state) b → Among P (states_of (a ∷ ms)) → (Among P (states_of ms) → successor_of P (ms ++ rest) ≡ successor_of P ms)
        → cond b a.next (successor_of P (ms ++ rest)) ≡ cond b a.next (successor_of P ms)
    go (so e) z k = refl
    go (not_so n) (inl e) k = absurd (n e)
    go (not_so n) (inr z) k = k z

pub next_new : (ms : List Move) (a : Move) → ¬ Among a.state (states_of ms) → successor_of a.state (ms ++ (a ∷ [])) ≡ a.next
unfolding successor_of
next_new [] a new = go (lists_told a.state a.state)
  where
    go : {b : Bool} → Decides (a.state ≡ a.state) b → cond b a.next [] ≡ a.next
    go (so e) = refl
    go (not_so n) = absurd (n refl)
next_new (b ∷ ms) a new = go (lists_told a.state b.state) (next_new ms a (λ mem. new (inr mem)))
  where
    go : {x : Bool} → Decides (a.state ≡ b.state) x → successor_of a.state (ms ++ (a ∷ [])) ≡ a.next
        → cond x b.next (successor_of a.state (ms ++ (a ∷ []))) ≡ a.next
    go (so e) k = absurd (new (inl e))
    go (not_so n) k = k

-- 17 is not met by a new state; one that stands there meets it where its successor is another
pub new_same : (ms : List Move) (a : Move) → ¬ Among a.state (states_of ms) → other_next ms a ≡ false
new_same ms a new = go (other_next ms a) refl
  where
    go : (b : Bool) → other_next ms a ≡ b → b ≡ false
    go false e = refl
    go true e = let w = other_next_lem ms a e in
        absurd (new (subst (λ (P : List ℕ). Among P (states_of ms)) w.2 (map_among (λ (b : Move). b.state) ms w.0 w.1)))

pub other_told : (ms : List Move) → Numbered ms → first_move other_next [] ms ≡ 0 → (a : Move) → Among a.state (states_of ms)
    → other_next ms a ≡ not (same_list (successor_of a.state ms) a.next)
other_told ms h z a mem = go (other_next ms a) refl (lists_told (successor_of a.state ms) a.next)
  where
    one : Faultless other_next [] ms
    one = faultless other_next [] ms h z

    -- an earlier move of the state has the successor that is found
    found : (b : Move) → Among b ms → b.state ≡ a.state → successor_of a.state ms ≡ b.next
    found b q e = ap (λ (P : List ℕ). successor_of P ms) (sym e) ∙ next_is ms one b q

    go : (x : Bool) → other_next ms a ≡ x → {y : Bool} → Decides (successor_of a.state ms ≡ a.next) y → x ≡ not y
    go true e (so f) = let w = other_next_lem ms a e in absurd (w.3 (sym (found w.0 w.1 w.2) ∙ f))
    go true e (not_so n) = refl
    go false e (so f) = refl
    go false e (not_so n) =
        let w = among_map (λ (b : Move). b.state) ms a.state mem in
        absurd (n (found w.0 w.1 (sym w.2) ∙ one_next ms a e w.0 w.1 (sym w.2)))
