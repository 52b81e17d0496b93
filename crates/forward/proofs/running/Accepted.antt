-- Records that nothing refuses: what is written of them is what the definitions say.
use mathlib.Core.Path.{◌≡◌, refl, sym, ap, ap₂, subst, ◌∙◌}
use mathlib.Core.Bool.{Bool, true, false, cond, ◌||◌}
use mathlib.Core.Logic.{inl, inr}
use mathlib.Core.List.{List, [], ◌∷◌}
use Prim.Native.Nat.{ℕ, suc, ◌+◌, ◌*◌, ◌<◌, ◌≤◌}
use native.Mathlib.Numerals.{add-one}
use native.Mathlib.Omega.{arith}
use lib.ListN.{length, get_or, drop, length-map}
use lib.Seq.{get_or-take, get_or-drop}
use lib.Dec.{T, eqb}
use Rattle.residue.specs.Lists.{Among, some}
use Rattle.residue.specs.Vector.{Below}
use Rattle.residue.specs.Layout.{fill, in_places, over, row_at}
use Rattle.residue.proofs.Layouts.{fill_at}
use Rattle.specification.specs.declared.settings.Settings.{Settings}
use Rattle.specification.specs.Settings.{Accepted}
use Rattle.specification.specs.Counted.{Counted, points_of, counts_of}
use Rattle.specification.specs.Tables.{Tables, points_in, states_table, standard_table}
use Rattle.specification.specs.Adding.{DrawOutcome, uncosted}
use Rattle.specification.specs.Points.{IsPoint}
use Rattle.specification.proofs.counted.Gathered.{Entries}
use Rattle.specification.proofs.counted.Saturated.{none_capped}
use Rattle.construction.specs.Drawing.{PointsGiven, Solves}
use Rattle.construction.proofs.drawing.Given.{table_points}
use Rattle.points.specs.Gathering.{count_byte, TabledAs}
use Rattle.basis.proofs.drawing.Outcomes.{tabled_given, tabled_done}
use Rattle.courses.specs.declared.returns.Return.{Return}
use Rattle.courses.specs.TimeCourse.{Timed, course_of, Move, moves_of, points_of_moves, successor_of, genes_of, course_refusal, told_return, course_return, course_sheet, course_model, return_of}
use Rattle.courses.specs.Moves.{FirstsOf}
use Rattle.steps.specs.Stepping.{step_of}
use Rattle.steps.proofs.model.ModelLaws.{next_below}
use Rattle.courses.proofs.theory.Forward.{passes, rare_points, course_entries}
use Rattle.steps.proofs.InBytes.{Followed, genes_are, model_bytes, run_bytes}
use Rattle.forward.specs.Outcome.{Course}
use Rattle.forward.specs.Running.{sheet_of, pivots_of, genes_in, return_in, CourseWritten}

false_true : false ≡ true → ⊥
false_true e = subst T (sym e) tt

-- the first state of a course that is there
first_state : (X : List ℕ → Type 0) (c : ℕ) (l : List Timed) → ((a : Timed) → Among a l → X a.0) → some (λ a. eqb a.1 c) l ≡ true → X (get_or (course_of c l) 0 [])
unfolding course_of
first_state X c [] h e = absurd (false_true e)
first_state X c (a ∷ l) h e = go (eqb a.1 c) e (first_state X c l (λ d m. h d (inr m)))
  where
    go : (b : Bool) → (b || some (λ a. eqb a.1 c) l) ≡ true → (some (λ a. eqb a.1 c) l ≡ true → X (get_or (course_of c l) 0 []))
        → X (get_or (cond b (a.0 ∷ course_of c l) (course_of c l)) 0 [])
    go true q rest = h a (inl refl)
    go false q rest = rest q

module _ (s : Settings) (ok : Accepted s) (c : ℕ) (l : List Timed) (each : (a : Timed) → Among a l → IsPoint s a.0) (zero : (course_refusal c l).0 ≡ 0) where
  abbrev ms : List Move
  ms = moves_of l

  abbrev L : Counted
  L = points_of_moves ms

  abbrev S : List (List ℕ)
  S = points_of L

  entries : Entries s L
  entries = course_entries s ok c l each zero

  module _ {n : ℕ} {points times : List ℕ} (tab : TabledAs L n points times) where
    pub given : PointsGiven s n points
    given = tabled_given s ok L entries n points tab.number tab.states

    many : n ≡ length S
    many = tab.number ∙ sym (length-map L (λ q. q.0))

    back : points_in s n points ≡ S
    unfolding states_table
    back = ap₂ (points_in s) many tab.states ∙ table_points s ok S entries.points

    module _ {records firsts : List ℕ} (kept : FirstsOf ms (length l) records firsts) (room : 8 * length l ≤ length records) (low : Below s.modulus records)
        (long : length firsts ≡ 64) where
      -- the successors are inside the table
      pub inside : (j : ℕ) → j < n → 8 * get_or firsts j 0 + 16 ≤ length records
      inside j h = omega (arith, kept.behind j (omega (arith, h, tab.number)), room)

      followed : Followed s ok ms entries.points records firsts
      followed = record {
        named = omega (arith, entries.points.few, long);
        low = λ g h.
            next_below g (length S) records firsts (omega (arith, entries.points.few, long)) s.modulus (omega (arith, h, ok.few)) low
            (λ j k. inside j (omega (arith, k, many)));
        next = λ j g h k.
            let small : g < 8 = omega (arith, k, ok.few) in
            let at : ℕ = suc (get_or firsts j 0) in
            ap (λ (i : ℕ). get_or records (8 * i + g) 0) (add-one (get_or firsts j 0))
            ∙ sym (get_or-drop (8 * at) records g 0) ∙ sym (get_or-take 8 (drop (8 * at) records) g 0 small)
            ∙ ap (λ (row : List ℕ). get_or row g 0) (kept.next j (omega (arith, h, many, tab.number)))
            ∙ fill_at 8 (successor_of (get_or S j []) ms) g small;
      }

      module _ {first : ℕ} {t left : Tables} {buffer genes : List ℕ} {r : Course} (row : row_at 8 first records ≡ fill 8 (get_or (course_of c l) 0 []))
          (w : CourseWritten s n first records firsts points times t buffer r left genes) where
        solved : Solves s S (pivots_of s S).rows (pivots_of s S).pivots
        solved = subst (λ (K : List (List ℕ)). Solves s K (pivots_of s K).rows (pivots_of s K).pivots) back w.solves

        sheet_is : (r.n, r.r, left) ≡ sheet_of (course_sheet s l t)
        unfolding course_sheet count_byte
        sheet_is =
            w.sheet
            ∙ ap (λ (o : DrawOutcome). sheet_of (uncosted o))
            (tabled_done s ok L entries n points tab.number tab.states t times (tab.times ∙ ap (fill 64) (none_capped (counts_of L) (rare_points s ok c l each zero))))

        model_is : genes ≡ course_model s l buffer
        model_is =
            w.model ∙ ap₂ (λ (k : ℕ) (K : List (List ℕ)). over (genes_in s k K records firsts) buffer) many back
            ∙ model_bytes s ok l entries.points (pivots_of s S).rows (pivots_of s S).pivots records firsts solved followed buffer

        table : genes_in s (length S) S records firsts ≡ fill 512 (in_places 64 (genes_of s ms s.variables))
        table = ap (λ (G : List (List ℕ)). fill 512 (in_places 64 G))
            (genes_are s ok ms entries.points (pivots_of s S).rows (pivots_of s S).pivots records firsts solved followed s.variables (omega arith))

        return_is : record { step = r.step; back = r.back } ≡ told_return (course_return s c l)
        unfolding course_return
        return_is =
            w.back ∙ ap₂ (λ (k : ℕ) (K : List (List ℕ)). return_in s k K records firsts first) many back
            ∙ ap (λ (P : List ℕ). told_return (return_of (step_of s.modulus s.variables (length S) (standard_table s S) (genes_in s (length S) S records firsts)) P)) row
            ∙ ap told_return (run_bytes s ok ms entries.points (genes_in s (length S) S records firsts) table (get_or (course_of c l) 0 [])
            (first_state (IsPoint s) c l each (passes c l zero).named))

        -- the answer
        pub answer_is : let o = course_sheet s l t in let b = told_return (course_return s c l) in
            r ≡ record { refusal = 0; at = 0; modulus = s.modulus; variables = s.variables; order = s.order; n = o.answer.n; r = o.answer.r; step = b.step; back = b.back }
        answer_is =
            let o = course_sheet s l t in
            let b = told_return (course_return s c l) in
            let q = w.settings in
            rw (
              q.0,
              q.1,
              q.2,
              q.3,
              q.4,
              ap (λ (x : ℕ × ℕ × Tables). x.0) sheet_is,
              ap (λ (x : ℕ × ℕ × Tables). x.1) sheet_is,
              ap (λ (x : Return). x.step) return_is,
              ap (λ (x : Return). x.back) return_is,
            ) refl

        pub tables_are : left ≡ (course_sheet s l t).tables
        tables_are = ap (λ (x : ℕ × ℕ × Tables). x.2) sheet_is

        pub genes_told : genes ≡ course_model s l buffer
        genes_told = model_is
