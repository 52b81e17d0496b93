-- The first cause of a list that holds, by a list of tests that tell the causes.
use mathlib.Core.Path.{◌≡◌, refl, sym, ap, ◌∙◌, subst}
use mathlib.Core.Bool.{Bool, true, false, not, cond}
use mathlib.Core.List.{List, [], ◌∷◌, ◌++◌}
use mathlib.Core.Logic.{◌≢◌, inl, inr, ◌↔◌}
use Prim.Native.Nat.{ℕ, zero, suc}
use native.Mathlib.Omega.{arith}
use lib.Dec.{eqb}
use borrow.Author.Tests.{ne_eqb}
use Rattle.residue.specs.Lists.{Among}
use Rattle.residue.proofs.Tests.{Decides, told_true, true_told}
use Rattle.specification.specs.Refusal.{first_of}
use Rattle.comma_text.specs.reading.Text.{refusal_at, not_refused, TextCase}
use Rattle.comma_text.specs.reading.Faults.{FirstAt}
use Rattle.comma_text.specs.reading.Causes.{Cause, length_of_text, form, modulus, variables, weights, buffers, range, points, replicates, values}
use Rattle.comma_text.specs.reading.Causes.{cause_number, FirstCause}

-- a cause by its number
cause_of : ℕ → Cause
cause_of k = cond (eqb k 1) length_of_text (cond (eqb k 2) form (cond (eqb k 3) modulus (cond (eqb k 4) variables (cond (eqb k 15) weights
    (cond (eqb k 6) buffers (cond (eqb k 9) range (cond (eqb k 8) points (cond (eqb k 13) replicates values))))))))

cause_back : (c : Cause) → cause_of (cause_number c) ≡ c
unfolding cause_of cause_number
cause_back length_of_text = refl
cause_back form = refl
cause_back modulus = refl
cause_back variables = refl
cause_back weights = refl
cause_back buffers = refl
cause_back range = refl
cause_back points = refl
cause_back replicates = refl
cause_back values = refl

same_cause : (b c : Cause) → cause_number b ≡ cause_number c → b ≡ c
same_cause b c e = sym (cause_back b) ∙ ap cause_of e ∙ cause_back c

pub number_some : (c : Cause) → 0 ≡ cause_number c → ⊥
unfolding cause_number
number_some length_of_text e = omega arith
number_some form e = omega arith
number_some modulus e = omega arith
number_some variables e = omega arith
number_some weights e = omega arith
number_some buffers e = omega arith
number_some range e = omega arith
number_some points e = omega arith
number_some replicates e = omega arith
number_some values e = omega arith

module _ (X : Cause → ℕ → Type 0) where
  -- a test tells whether a cause holds, and at which record
  pub record Told (c : Cause) (b : Bool) (at : ℕ) : Type 0 where
    pub holds : b ≡ true → X c at
    pub only : (k : ℕ) → X c k → (b ≡ true) × (k ≡ at)

  -- each test of a list tells its cause where those before it do not hold
  pub data Tells : List Cause → List TextCase → Type 0 where
    none : Tells [] []
    more : {c : Cause} {b : Bool} {at : ℕ} {l : List Cause} {cs : List TextCase}
        → Told c b at → (b ≡ false → Tells l cs) → Tells (c ∷ l) ((b, refusal_at (cause_number c) at) ∷ cs)

  pub tells : {Y : Type 0} {b : Bool} {c : Cause} {at : ℕ} → Decides Y b → (Y → X c at) → ((k : ℕ) → X c k → Y × (k ≡ at)) → Told c b at
  tells d f g = record { holds = λ e. f (true_told d e); only = λ k x. (told_true d (g k x).0, (g k x).1) }

  -- a cause that holds at the first of some entries
  pub entry_tells : {A : Type 0} {Fault : List A → A → Type 0} {l : List A} {c : Cause} (place : ℕ) → ((k : ℕ) → FirstAt Fault l k ↔ (place ≡ suc k))
      → ((k : ℕ) → FirstAt Fault l k → X c (suc (suc k))) → ((at : ℕ) → X c at → (k : ℕ) × FirstAt Fault l k × (at ≡ suc (suc k)))
      → Told c (not (eqb place 0)) (suc place)
  entry_tells {Fault = Fault} {l = l} {c = c} zero first make apart =
      record {
        holds = λ e. absurd (let z : ◌≡◌ {A = ℕ} 0 1 = cc in omega arith);
        only = λ at x. absurd (let (k, f, e) = apart at x in let p = (first k).0 f in omega arith);
      }
  entry_tells (suc j) first make apart =
      record {
        holds = λ e. make j ((first j).1 refl);
        only = λ at x. let (k, f, e) = apart at x in let p = (first k).0 f in (ap not (ne_eqb (suc j) 0 (λ z. omega arith)), omega arith);
      }

  read : {l : List Cause} {cs : List TextCase} → Tells l cs → (c : Cause) (at : ℕ) → FirstCause X l c at
      → ((first_of not_refused cs).refusal ≡ cause_number c) × ((first_of not_refused cs).at ≡ at)
  unfolding first_of
  read none c at f = absurd (empty f.before f.order)
    where
      empty : (b : List Cause) → [] ≡ b ++ (c ∷ f.after) → ⊥
      empty [] e = let z : ◌≡◌ {A = ℕ} 0 1 = cc in omega arith
      empty (x ∷ b) e = let z : ◌≡◌ {A = ℕ} 0 1 = cc in omega arith
  read (more {c = c₀} {b = b} {at = k} {l = l} {cs = cs} t r) c at f =
      go f.before f.order f.none_before b refl (λ e g. read (r e) c at g)
    where
      go : (before : List Cause) → c₀ ∷ l ≡ before ++ (c ∷ f.after) → ((d : Cause) (j : ℕ) → Among d before → ¬ X d j) → (u : Bool) → b ≡ u
          → (b ≡ false → FirstCause X l c at → ((first_of not_refused cs).refusal ≡ cause_number c) × ((first_of not_refused cs).at ≡ at))
          → ((cond u (refusal_at (cause_number c₀) k) (first_of not_refused cs)).refusal ≡ cause_number c)
          × ((cond u (refusal_at (cause_number c₀) k) (first_of not_refused cs)).at ≡ at)
      go [] e n true i rec =
          let s : c ≡ c₀ = cc in
          (ap cause_number (sym s), sym (t.only at (subst (λ (x : Cause). X x at) s f.holds)).1)
      go [] e n false i rec =
          let s : c ≡ c₀ = cc in
          let p = (t.only at (subst (λ (x : Cause). X x at) s f.holds)).0 in
          let z : ◌≡◌ {A = ℕ} 0 1 = cc in
          absurd (omega arith)
      go (x ∷ before) e n true i rec =
          let s : x ≡ c₀ = cc in
          absurd (n x k (inl refl) (subst (λ (y : Cause). X y k) (sym s) (t.holds i)))
      go (x ∷ before) e n false i rec =
          let q : l ≡ before ++ (c ∷ f.after) = cc in
          rec i (record { before = before; after = f.after; order = q; holds = f.holds; none_before = λ d j w. n d j (inr w) })

  found : {l : List Cause} {cs : List TextCase} → Tells l cs → (c : Cause) (at : ℕ)
      → (first_of not_refused cs).refusal ≡ cause_number c → (first_of not_refused cs).at ≡ at → FirstCause X l c at
  unfolding first_of
  found none c at e f = absurd (number_some c e)
  found (more {c = c₀} {b = b} {at = k} {l = l} {cs = cs} t r) c at e f = go b refl e f (λ i p q. found (r i) c at p q)
    where
      go : (u : Bool) → b ≡ u → (cond u (refusal_at (cause_number c₀) k) (first_of not_refused cs)).refusal ≡ cause_number c
          → (cond u (refusal_at (cause_number c₀) k) (first_of not_refused cs)).at ≡ at
          → (b ≡ false → (first_of not_refused cs).refusal ≡ cause_number c → (first_of not_refused cs).at ≡ at → FirstCause X l c at) → FirstCause X (c₀ ∷ l) c at
      go true i e f rec =
          let s = same_cause c₀ c e in
          record {
            before = [];
            after = l;
            order = ap (λ (x : Cause). x ∷ l) s;
            holds = subst (λ (x : Cause). X x at) s (subst (X c₀) f (t.holds i));
            none_before = λ d j w. absurd w;
          }
      go false i e f rec =
          let g = rec i e f in
          record {
            before = c₀ ∷ g.before;
            after = g.after;
            order = ap (λ (x : List Cause). c₀ ∷ x) g.order;
            holds = g.holds;
            none_before = λ d j w. elim w [
              | inl s ↦ λ x. (let p = (t.only j (subst (λ (y : Cause). X y j) s x)).0 in let z : ◌≡◌ {A = ℕ} 0 1 = cc in omega arith)
              | inr q ↦ g.none_before d j q
            ];
          }

  pub first_cause : {l : List Cause} {cs : List TextCase} → Tells l cs → (c : Cause) (at : ℕ)
      → FirstCause X l c at ↔ (((first_of not_refused cs).refusal ≡ cause_number c) × ((first_of not_refused cs).at ≡ at))
  first_cause t c at = (read t c at, λ p. found t c at p.0 p.1)

  -- no cause holds
  pub no_cause : {l : List Cause} {cs : List TextCase} → Tells l cs
      → ((c : Cause) (at : ℕ) → Among c l → ¬ X c at) ↔ ((first_of not_refused cs).refusal ≡ 0)
  unfolding first_of
  no_cause none = ((λ n. refl), λ e c at w. absurd w)
  no_cause (more {c = c₀} {b = b} {at = k} {l = l} {cs = cs} t r) = go b refl (λ i. no_cause (r i))
    where
      go : (u : Bool) → b ≡ u → (b ≡ false → ((c : Cause) (at : ℕ) → Among c l → ¬ X c at) ↔ ((first_of not_refused cs).refusal ≡ 0))
          → ((c : Cause) (at : ℕ) → Among c (c₀ ∷ l) → ¬ X c at) ↔ ((cond u (refusal_at (cause_number c₀) k) (first_of not_refused cs)).refusal ≡ 0)
      go true i rec = ((λ n. absurd (n c₀ k (inl refl) (t.holds i))), λ e. absurd (number_some c₀ (sym e)))
      go false i rec = (
        λ n. (rec i).0 (λ c at w. n c at (inr w)),
        λ e c at w. elim w [
          | inl s ↦ λ x. (let p = (t.only at (subst (λ (y : Cause). X y at) s x)).0 in let z : ◌≡◌ {A = ℕ} 0 1 = cc in omega arith)
          | inr q ↦ (rec i).1 e c at q
        ],
      )

  -- each other number is that of a cause
  pub some_cause : {l : List Cause} {cs : List TextCase} → Tells l cs → (first_of not_refused cs).refusal ≢ 0
      → (c : Cause) × ((first_of not_refused cs).refusal ≡ cause_number c)
  unfolding first_of
  some_cause none n = absurd (n refl)
  some_cause (more {c = c₀} {b = b} {at = k} {cs = cs} t r) n = go b refl n (λ i m. some_cause (r i) m)
    where
      go : (u : Bool) → b ≡ u → (cond u (refusal_at (cause_number c₀) k) (first_of not_refused cs)).refusal ≢ 0
          → (b ≡ false → (first_of not_refused cs).refusal ≢ 0 → (c : Cause) × ((first_of not_refused cs).refusal ≡ cause_number c))
          → (c : Cause) × ((cond u (refusal_at (cause_number c₀) k) (first_of not_refused cs)).refusal ≡ cause_number c)
      go true i n rec = (c₀, refl)
      go false i n rec = rec i n
