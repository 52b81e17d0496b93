-- The outcome of a call by its number.
use mathlib.Core.Path.{◌≡◌, refl, ap₂, ◌∙◌}
use native.Mathlib.Omega.{arith}
use Rattle.std.specs.Prelude.{Err}
use mathlib.Core.Bool.{cond}
use mathlib.Core.List.{List, ◌++◌}
use Prim.Native.Nat.{ℕ}
use lib.Dec.{eqb}
use borrow.Author.Tests.{ne_eqb}
use Rattle.residue.specs.Layout.{over}
use Rattle.specification.specs.declared.refusals.Refusal.{Refusal}
use Rattle.specification.specs.declared.refusals.Refusal.TheVariants.{LongText, Form, Modulus, Variables, Order, ShortBuffer, Length, TooMany, OutOfRange}
use Rattle.specification.specs.declared.refusals.Refusal.TheVariants.{NoBasis, NotThere, TooOften, OtherValue, Weights, Variable, OtherSuccessor}
use Rattle.specification.specs.declared.refusals.Refusal.TheVariants.{NoCourse, Json}
use Rattle.specification.specs.Answers.{number_of, answer_of, drawn_of}
use Rattle.specification.specs.declared.settings.Settings.{Settings}
use Rattle.specification.specs.Refusal.{Case, first_of}
use Rattle.specification.specs.Settings.{settings_cases}
use Rattle.specification.specs.Tables.{Tables}
pub use Rattle.specification.proofs.Refused.{number_above_0}
use Rattle.specification.proofs.Cases.{first_stop}
use Rattle.specification.specs.Adding.{Outcome, ended, refused, by_refusal, draw_ended, costing}
use Rattle.specification.specs.Solving.{Filled, filling}

-- the settings are refused
pub settings_stop : (s : Settings) (l : List Case) (e : Refusal) → number_of e ≡ first_of 0 (settings_cases s) → number_of e ≡ first_of 0 (settings_cases s ++ l)
settings_stop s l e h = h ∙ first_stop (settings_cases s) l (λ z. number_above_0 e (h ∙ z))

-- a refusal alone, with the tables as they were
pub alone : (e : Refusal) (t : Tables) → ended (answer_of (Err e)) t ≡ refused (number_of e) t
unfolding refused answer_of
alone e t = refl

-- and that of drawing up
pub drawn_alone : (e : Refusal) (t : Tables) → draw_ended (drawn_of (Err e)) t ≡ costing 0 (refused (number_of e) t)
unfolding refused drawn_of
drawn_alone e t = refl

-- the outcome of a call that writes tables
module _ (t : Tables) (new : Outcome) (k : ℕ) where
  pub when_refused : (j : ℕ) → j ≡ k → (j ≡ 0 → ⊥) → refused j t ≡ by_refusal k t new
  unfolding by_refusal
  when_refused j e n = rw (← e) (simp (ne_eqb j 0 n))

  pub when_accepted : 0 ≡ k → new ≡ by_refusal k t new
  unfolding by_refusal
  when_accepted e = rw (← e) refl

  -- with its cost
  module _ (cost : ℕ) where
    pub cost_refused : (j : ℕ) → j ≡ k → (j ≡ 0 → ⊥) → costing 0 (refused j t) ≡ costing (cond (eqb k 0) cost 0) (by_refusal k t new)
    cost_refused j e n = ap₂ (λ (c : ℕ) (o : Outcome). costing c o) (rw (← e) (simp (ne_eqb j 0 n))) (when_refused j e n)

    pub cost_accepted : 0 ≡ k → costing cost new ≡ costing (cond (eqb k 0) cost 0) (by_refusal k t new)
    cost_accepted e = ap₂ (λ (c : ℕ) (o : Outcome). costing c o) (rw (← e) refl) (when_accepted e)

-- and of one that fills a buffer
module _ (new buffer : List ℕ) (k : ℕ) where
  pub fill_refused : (j : ℕ) → j ≡ k → (j ≡ 0 → ⊥) → ◌≡◌ {A = Filled} (record { refusal = j; buffer = buffer }) (filling k new buffer)
  unfolding filling
  fill_refused j e n = rw (← e) (simp (ne_eqb j 0 n))

  pub fill_accepted : (end : List ℕ) → 0 ≡ k → end ≡ over new buffer → ◌≡◌ {A = Filled} (record { refusal = 0; buffer = end }) (filling k new buffer)
  unfolding filling
  fill_accepted end e f = rw (← e, f) refl
