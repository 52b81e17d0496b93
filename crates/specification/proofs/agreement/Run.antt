-- The run of a list of operations, with refused calls between them: each call's number, and what is held at the end. One induction, over the laws of each
-- operation.
use mathlib.Core.Path.{◌≡◌, refl, sym, ◌∙◌, ap, ap₂, subst}
use mathlib.Core.Bool.{Bool, true, false, cond}
use mathlib.Core.List.{List, [], ◌∷◌, ◌++◌}
use Prim.Native.Nat.{ℕ, ◌≤◌}
use native.Mathlib.Omega.{arith}
use lib.ListN.{length, take, drop, take-append-drop, length-map}
use lib.Dec.{eqb}
use borrow.Author.Tests.{eqb-true, ne_eqb}
use Rattle.residue.specs.Sizes.{states_size, standard_size, leads_size, coefficients_size, counts_size}
use Rattle.residue.specs.Layout.{fill, over, length_fill}
use Rattle.residue.proofs.Layouts.{over_over}
use Rattle.specification.specs.declared.settings.Settings.{Settings}
use Rattle.specification.specs.Refusal.{first_of}
use Rattle.specification.specs.Settings.{Accepted, settings_cases}
use Rattle.specification.specs.Counted.{Counted, points_of}
use Rattle.specification.specs.Tables.{Tables, five_tables, row_count, states_table, standard_table, leads_table, coefficients_table, tables_of, written, too_short, held_in, recognised}
use Rattle.specification.specs.Adding.{Outcome, refused, holding, by_refusal}
use Rattle.specification.specs.Reference
use Rattle.specification.specs.Reference.{Operation, outcome_of, refusal_of, reference_answer, list_after, reference_after, Table, states, standard, leads, coefficients, counts, table_in, with_table, Lent, part, other, Event, own, interposed, Held, lent_tables, tables_after, outcome_at, keeping, held_after, numbers, held_at_end, fed, reference_at_end, due_at, due, RefusesAt, Refuses}
use Rattle.specification.proofs.counted.Gathered.{Entries}
use Rattle.specification.proofs.agreement.Refusals.{accepted, Large, not_short, written_large, written_held, written_recognised}
use Rattle.specification.proofs.agreement.Operations.{lawful}

-- the number of an outcome is that of its refusal
pub number_of_lem : (k : ℕ) (t : Tables) (s : Settings) (S : Counted) → (by_refusal k t (holding s S t)).answer.refusal ≡ k
unfolding by_refusal refused holding
number_of_lem k t s S = pick (eqb k 0) refl
  where
    pick : (b : Bool) → eqb k 0 ≡ b → (cond b (holding s S t) (refused k t)).answer.refusal ≡ k
    pick true e = sym (eqb-true k 0 e)
    pick false e = refl

-- tables are equal where each of the five is
pub same_tables : {t u : Tables} → t.states ≡ u.states → t.standard ≡ u.standard → t.leads ≡ u.leads → t.coefficients ≡ u.coefficients → t.counts ≡ u.counts → t ≡ u
same_tables {t} {u} a b c d e =
    ap₂ (λ (w x : List ℕ). five_tables w x t.leads t.coefficients t.counts) a b
    ∙ ap₂ (λ (y z : List ℕ). five_tables u.states u.standard y z t.counts) c d
    ∙ ap (λ (v : List ℕ). five_tables u.states u.standard u.leads u.coefficients v) e

-- tables written twice are those of the second time
pub written_twice : (s : Settings) (L L' : Counted) (t : Tables) → written (tables_of s L') (written (tables_of s L) t) ≡ written (tables_of s L') t
unfolding written tables_of states_table standard_table leads_table coefficients_table
written_twice s L L' t =
    same_tables (twice states_size _ _ t.states) (twice standard_size _ _ t.standard) (twice leads_size _ _ t.leads) (twice coefficients_size _ _ t.coefficients) (twice counts_size _ _ t.counts)
  where
    twice : (k : ℕ) (l l' u : List ℕ) → over (fill k l') (over (fill k l) u) ≡ over (fill k l') u
    twice k l l' u = over_over (fill k l') (fill k l) u (length_fill k l' ∙ sym (length_fill k l))

-- a call that leaves what it was lent leaves the list's tables
put_back : (k : Table) (t : Tables) → with_table k (table_in k t) t ≡ t
unfolding with_table table_in
put_back states t = refl
put_back standard t = refl
put_back leads t = refl
put_back coefficients t = refl
put_back counts t = refl

unlent : (a : Lent) (t : Tables) → Reference.after a (Reference.lent a t) t ≡ t
unfolding Reference.after Reference.lent
unlent (part k from count) t =
    ap (λ (u : List ℕ). with_table k u t) (ap (λ (u : List ℕ). take from (table_in k t) ++ u) (take-append-drop count (drop from (table_in k t))) ∙ take-append-drop from (table_in k t))
    ∙ put_back k t
unlent (other bytes) t = refl

untouched : (a b c d e : Lent) (t : Tables) → tables_after a b c d e (lent_tables a b c d e t) t ≡ t
unfolding tables_after lent_tables
untouched a b c d e t = rw (unlent e t, unlent d t, unlent c t, unlent b t, unlent a t)

module _ (s : Settings) (fine : first_of 0 (settings_cases s) ≡ 0) (start : Tables) (large : Large start) where
  ok : Accepted s
  ok = accepted s fine

  -- What is held is the basis of the reference list.
  pub record At (h : Held) (L : Counted) : Type 0 where
    pub entries : Entries s L
    pub count : h.n ≡ length L
    pub rows : h.r ≡ row_count s (points_of L)
    pub tables : h.tables ≡ written (tables_of s L) start

  module _ (h : Held) (L : Counted) (a : At h L) where
    not_too_short : too_short h.tables ≡ false
    not_too_short = not_short h.tables (subst Large (sym a.tables) (written_large s L start large))

    held_recognised : recognised s h.n h.r h.tables ≡ true
    held_recognised = rw (a.count, a.rows, a.tables) (written_recognised s ok L a.entries start)

    pub held_list : held_in s h.n h.tables ≡ L
    held_list = rw (a.count, a.tables) (written_held s ok L a.entries start)

    few : h.n ≤ 64
    few = omega (arith, a.count, length-map L (λ q. q.0), a.entries.points.few)

    module _ (o : Operation) where
      -- an operation answers as the reference list does
      number : refusal_of o s h.n h.r h.tables ≡ reference_answer o s L
      number = (lawful o).number s fine h.n h.r h.tables few not_too_short held_recognised ∙ ap (reference_answer o s) held_list

      abbrev due_outcome : Outcome
      due_outcome = by_refusal (reference_answer o s L) h.tables (holding s (list_after o s L) h.tables)

      outcome : outcome_of o s h.n h.r h.tables ≡ due_outcome
      outcome = (lawful o).outcome s h.n h.r h.tables
          ∙ ap₂ (λ (k : ℕ) (S : Counted). by_refusal k h.tables (holding s (list_after o s S) h.tables)) number held_list

      -- and what is held afterwards is the basis of the reference list then
      own_held : At (keeping h due_outcome) (reference_after o s L)
      unfolding keeping reference_after by_refusal holding refused
      own_held = pick (eqb (reference_answer o s L) 0) refl
        where
          pick : (b : Bool) → eqb (reference_answer o s L) 0 ≡ b
              → At (keeping h (cond b (holding s (list_after o s L) h.tables) (refused (reference_answer o s L) h.tables))) (cond b (list_after o s L) L)
          pick true e = record {
            entries = (lawful o).entries s ok L a.entries (eqb-true (reference_answer o s L) 0 e);
            count = refl;
            rows = refl;
            tables = ap (written (tables_of s (list_after o s L))) a.tables ∙ written_twice s L (list_after o s L) start;
          }
          pick false e = rw e a

    -- one call: its number, and what is held after it
    step : (e : Event) → RefusesAt h e → ((outcome_at s h e).answer.refusal ≡ due_at s L h e) × At (held_after s h e) (fed s L e)
    unfolding outcome_at held_after fed due_at RefusesAt by_refusal refused
    step (own o) t = (ap (λ (w : Outcome). w.answer.refusal) (outcome o) ∙ number_of_lem (reference_answer o s L) h.tables s _, rw (outcome o) (own_held o))
    step (interposed u n r b c d e f o) t =
        let k = refusal_of o u n r (lent_tables b c d e f h.tables) in
        let is : outcome_of o u n r (lent_tables b c d e f h.tables) ≡ refused k (lent_tables b c d e f h.tables) = (lawful o).outcome u n r _ ∙ rw (ne_eqb k 0 t) in
        (ap (λ (w : Outcome). w.answer.refusal) is, rw (is, untouched b c d e f h.tables) a)

  -- Every list of calls, from tables that hold the basis of a list of points.
  pub run : (es : List Event) (h : Held) (L : Counted) → At h L → Refuses s h es → (numbers s h es ≡ due s L h es) × At (held_at_end s h es) (reference_at_end s L es)
  unfolding numbers due held_at_end reference_at_end Refuses
  run [] h L a t = (refl, a)
  run (e ∷ es) h L a t =
      let w = step h L a e t.0 in
      let v = run es (held_after s h e) (fed s L e) w.1 t.1 in
      (ap₂ (λ (k : ℕ) (l : List ℕ). k ∷ l) w.0 v.0, v.1)
