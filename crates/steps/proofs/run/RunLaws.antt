-- The run of the model: the states met, from the end of their table to its front.
use mathlib.Core.Path.{◌≡◌, refl, sym, ◌∙◌, ap, ap₂, subst}
use mathlib.Core.Bool.{Bool, true, false, cond}
use mathlib.Core.List.{List, [], ◌++◌}
use Prim.Native.Nat.{ℕ, suc, ◌+◌, ◌*◌, ◌-◌, ◌<◌, ◌≤◌}
use native.Mathlib.Numerals.{add-one}
use native.Mathlib.Omega.{arith}
use lib.ListN.{length, take, drop, length-append, length-drop}
use lib.Seq.{length-take-le, take_at, drop_at, drop-drop, take_all}
use lib.Dec.{ltb}
use borrow.Author.Tests.{lt-ltb, le-ltb}
use Rattle.residue.specs.Vector.{Below}
use Rattle.residue.specs.Layout.{groups, over}
use Rattle.residue.proofs.Layouts.{over_all}
use Rattle.residue.proofs.Replaced.{part_long}
use Rattle.residue.proofs.Places.{length_groups}
use Rattle.residue.proofs.vector.Vectors.{below_take, below_drop, below_append}
use Rattle.specification.specs.Levels.{is_among}
use Rattle.specification.specs.Counted.{place_in}
use Rattle.points.proofs.places.PointPlaces.{among_place}
use Rattle.std.specs.Prelude.{Some, None}
use Rattle.courses.specs.TimeCourse.{return_at, run_from, return_of}

-- a state written at a place of a table
module _ (p at j : ℕ) (t Q part : List ℕ) (room : at + 8 ≤ length t) (eight : j ≡ 8) (long : length Q ≡ 8) (put : part ≡ over Q (take j (drop at t))) where
  abbrev placed : List ℕ
  placed = take at t ++ (part ++ drop j (drop at t))

  part_is : part ≡ Q
  part_is = put ∙ over_all Q (take j (drop at t)) (long ∙ sym (part_long at j 8 t eight room))

  placed_drop : drop at placed ≡ Q ++ drop j (drop at t)
  placed_drop = drop_at (take at t) (part ++ drop j (drop at t)) at (length-take-le at t (omega arith)) ∙ ap (λ (l : List ℕ). l ++ drop j (drop at t)) part_is

  placed_state : take 8 (drop at placed) ≡ Q
  placed_state = ap (take 8) placed_drop ∙ take_at Q (drop j (drop at t)) 8 long

  placed_behind : drop 8 (drop at placed) ≡ drop (at + 8) t
  placed_behind = ap (drop 8) placed_drop ∙ drop_at Q (drop j (drop at t)) 8 long ∙ drop-drop j at t ∙ ap (λ (k : ℕ). drop (at + k) t) eight

  placed_long : length placed ≡ length t
  placed_long =
      length-append (take at t) (part ++ drop j (drop at t))
      ∙ omega (arith, room, eight, long, length-take-le at t (omega arith), length-append part (drop j (drop at t)), ap length part_is, length-drop j (drop at t), length-drop at t)

  placed_below : Below p t → Below p Q → Below p placed
  placed_below low new =
      below_append p (take at t) (part ++ drop j (drop at t)) (below_take p at t low)
      (below_append p part (drop j (drop at t)) (subst (Below p) (sym part_is) new) (below_drop p j (drop at t) (below_drop p at t low)))

module _ (f : List ℕ → List ℕ) (start : List ℕ) (p : ℕ) where
  -- After k steps: the last k + 1 places have the states met, the latest first, and what is left of the run from there is the whole run.
  pub record Running (k : ℕ) (met : List ℕ) : Type 0 where
    pub few : k ≤ 256
    pub size : length met ≡ 2056
    pub low : Below p met
    pub rest : run_from f (256 - k) k (take 8 (drop (8 * (256 - k)) met)) (groups 8 k (drop 8 (drop (8 * (256 - k)) met))) ≡ return_of f start

  pub running_start : (zeros part : List ℕ) → length zeros ≡ 2056 → Below p zeros → length start ≡ 8 → Below p start → part ≡ over start (take 8 (drop 2048 zeros))
      → Running 0 (take 2048 zeros ++ (part ++ drop 8 (drop 2048 zeros)))
  unfolding return_of groups
  running_start zeros part h z long low put = let room : 2048 + 8 ≤ length zeros = omega arith in record {
    few = omega arith;
    size = placed_long p 2048 8 zeros start part room refl long put ∙ h;
    low = placed_below p 2048 8 zeros start part room refl long put z low;
    rest = ap (λ (P : List ℕ). run_from f 256 0 P []) (placed_state p 2048 8 zeros start part room refl long put);
  }

  module _ (k : ℕ) (met : List ℕ) (r : Running k met) where
    pub running_end : 256 ≤ k → None ≡ return_of f start
    unfolding run_from
    running_end h = let e : 256 - k ≡ 0 = omega arith in
        sym (ap (λ (n : ℕ). run_from f n k (take 8 (drop (8 * (256 - k)) met)) (groups 8 k (drop 8 (drop (8 * (256 - k)) met)))) e) ∙ r.rest

    -- one step more
    module _ (h : k < 256) (next : List ℕ) where
      abbrev behind : List ℕ
      behind = drop (8 * (256 - k)) met

      turn : next ≡ f (take 8 behind)
          → cond (is_among next (groups 8 (suc k) behind)) (Some (return_at (suc k) (suc (place_in next (groups 8 (suc k) behind))))) (run_from f (256 - (k + 1)) (suc k) next (groups 8 (suc k) behind))
          ≡ return_of f start
      unfolding run_from groups
      turn e = let n : 256 - k ≡ suc (256 - (k + 1)) = omega arith in
          ap (λ (Q : List ℕ). cond (is_among Q (groups 8 (suc k) behind)) (Some (return_at (suc k) (suc (place_in Q (groups 8 (suc k) behind))))) (run_from f (256 - (k + 1)) (suc k) Q (groups 8 (suc k) behind))) e
          ∙ sym (ap (λ (left : ℕ). run_from f left k (take 8 behind) (groups 8 k (drop 8 behind))) n)
          ∙ r.rest

      -- the state handed to a step, and the places looked up
      pub latest : (j : ℕ) → j ≡ 8 → take j behind ≡ take 8 behind
      latest j e = ap (λ (n : ℕ). take n behind) e

      pub all_met : take (2056 - 8 * (256 - k)) behind ≡ behind
      all_met = take_all (2056 - 8 * (256 - k)) behind (omega (arith, length-drop (8 * (256 - k)) met, r.size))

      module _ (e : next ≡ f (take 8 behind)) (at : ℕ) (place : at ≡ place_in next (groups 8 (k + 1) (take (2056 - 8 * (256 - k)) behind))) where
        placed_at : at ≡ place_in next (groups 8 (suc k) behind)
        placed_at = place ∙ ap₂ (λ (l : List ℕ) (n : ℕ). place_in next (groups 8 n l)) all_met (add-one k)

        among_is : (b : Bool) → ltb at (suc k) ≡ b → is_among next (groups 8 (suc k) behind) ≡ b
        among_is b t = sym (among_place next (groups 8 (suc k) behind)) ∙ ap₂ ltb (sym placed_at) (length_groups 8 (suc k) behind) ∙ t

        -- it gives a state met before
        pub running_hit : at ≤ k → Some (return_at (k + 1) (at + 1)) ≡ return_of f start
        running_hit low =
            ap₂ (λ (x y : ℕ). Some (return_at x y)) (add-one k) (add-one at ∙ ap suc placed_at)
            ∙ sym (ap (λ (b : Bool). cond b (Some (return_at (suc k) (suc (place_in next (groups 8 (suc k) behind))))) (run_from f (256 - (k + 1)) (suc k) next (groups 8 (suc k) behind)))
            (among_is true (lt-ltb at (suc k) (omega arith))))
            ∙ turn e

        -- it gives a new one, which is written in front
        pub running_on : k < at → (j : ℕ) (part : List ℕ) → j ≡ 8 → length next ≡ 8 → Below p next → part ≡ over next (take j (drop (8 * (256 - k) - 8) met))
            → Running (k + 1) (take (8 * (256 - k) - 8) met ++ (part ++ drop j (drop (8 * (256 - k) - 8) met)))
        running_on new j part eight long low put =
            let place : ℕ = 8 * (256 - k) - 8 in
            let room : place + 8 ≤ length met = omega (arith, r.size) in
            let there : 8 * (256 - (k + 1)) ≡ place = omega arith in
            let back : place + 8 ≡ 8 * (256 - k) = omega arith in
            let now : List ℕ = take place met ++ (part ++ drop j (drop place met)) in record {
              few = omega arith;
              size = placed_long p place j met next part room eight long put ∙ r.size;
              low = placed_below p place j met next part room eight long put r.low low;
              rest =
                  ap (λ (n : ℕ). run_from f (256 - (k + 1)) (k + 1) (take 8 (drop n now)) (groups 8 (k + 1) (drop 8 (drop n now)))) there
                  ∙ ap₂ (λ (Q l : List ℕ). run_from f (256 - (k + 1)) (k + 1) Q (groups 8 (k + 1) l)) (placed_state p place j met next part room eight long put)
                  (placed_behind p place j met next part room eight long put ∙ ap (λ (n : ℕ). drop n met) back)
                  ∙ ap (λ (n : ℕ). run_from f (256 - (k + 1)) n next (groups 8 n behind)) (add-one k)
                  ∙ sym (ap (λ (b : Bool). cond b (Some (return_at (suc k) (suc (place_in next (groups 8 (suc k) behind))))) (run_from f (256 - (k + 1)) (suc k) next (groups 8 (suc k) behind)))
                  (among_is false (le-ltb at (suc k) (omega arith))))
                  ∙ turn e;
            }
