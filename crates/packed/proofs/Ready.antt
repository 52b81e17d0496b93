-- The walk from its start: nothing has been visited, or all up to the last has.
use mathlib.Core.Path.{◌≡◌, sym, subst}
use mathlib.Core.List.{List, []}
use mathlib.Core.Logic.{inl}
use Prim.Native.Nat.{ℕ, ◌<◌, ◌≤◌}
use lib.ListN.{length}
use Rattle.residue.specs.Lists.{Among}
use Rattle.specification.specs.Space.{Space, Less}
use Rattle.specification.specs.Polynomial.{Distinct}
use Rattle.specification.specs.Extension.{divided}
use Rattle.specification.specs.Examination.{Undivided}
use Rattle.specification.specs.Squares.{square, Squarefree, Boolean}
use Rattle.specification.proofs.ideal.Laws.{Laws, same?, trans, less_ne}
use Rattle.specification.proofs.drawing.UpTo.{Bordered, bordered_start, front_start, start_standard, start_lead, free_bordered, front_next}
use Rattle.packed.specs.PackedWalk.{PackedFound, packed_found, examined_words, Visit, free, squared, visited_monomial, visited, PackedBasis}
use Rattle.packed.proofs.Walking.{Candidate, next_is}
use Rattle.packed.proofs.Reduction.{reduced_none}
use Rattle.packed.proofs.Standing.{Standing, examined_standing}
use Rattle.packed.proofs.PackedAll.{IsVisit, visit_standing, ended}

module _ (D : Space) where
  open D use {Mono}

  -- the last that was visited, if any was
  pub data Last : Type 0 where
    none : Last
    last : Mono → Last

  abbrev pub Above : Last → Mono → Type 0
  Above none a = Unit {0}
  Above (last c) a = Less D c a

  -- b is above the last, and no candidate that no lead found divides is between
  pub record NextAfter (leads : List Mono) (o : Last) (b : Mono) : Type 0 where
    pub after : Above o b
    pub least : (a : Mono) → Candidate D a → Above o a → Undivided D leads a → ¬ Less D a b

module _ (D : Space) (L : Laws D) where
  pub above_trans : (o : Last D) (a b : D.Mono) → Above D o a → Less D a b → Above D o b
  above_trans none a b h k = tt
  above_trans (last c) a b h k = trans D L h k

module _ (D : Space) (L : Laws D) (B : Boolean D) (S : List D.Pt) (d : Distinct D S) (few : length S ≤ 64) where
  open D use {m, Mono, one}
  open L use {x_up, one_dvd, dvd_one, dvd_less}

  abbrev start : PackedFound D
  start = packed_found D [] [] [] []

  abbrev pub Ready : PackedFound D → Last D → Type 0
  Ready f none = f ≡ start
  Ready f (last c) = Standing D S f c

  one_square : (k : ℕ) → k < m → Less D one (square D k)
  one_square k h = trans D L (x_up h) (x_up h)

  pub one_free : Squarefree D one
  one_free k h z = less_ne D L (one_square k h) (sym (dvd_one z))

  -- what is first is 1
  first : (b : Mono) → NextAfter D [] none b → one ≡ b
  first b n = go (same? D L one b)
    where
      go : Dec (one ≡ b) → one ≡ b
      go (yes e) = e
      go (no u) = absurd (n.least one (inl one_free) tt (λ l mem. absurd mem) (dvd_less one_dvd u))

  started : Standing D S (examined_words D S one start) one
  started = examined_standing D S L B d few start one (reduced_none D S) tt (front_start D L S d) (bordered_start D L S d) (start_standard D L S d) (start_lead D L S d)

  from_none : (v : Visit D) → IsVisit D v → NextAfter D [] none (visited_monomial D v) → Standing D S (visited D S v start) (visited_monomial D v)
  unfolding visited divided
  from_none (free b) h n = subst (λ (a : Mono). Standing D S (examined_words D S a start) a) (first b n) started
  from_none (squared k) h n = absurd (less_ne D L (one_square k h) (first (square D k) n))

  pub visit_ready : (f : PackedFound D) (o : Last D) → Ready f o → (v : Visit D) → IsVisit D v → NextAfter D f.leads o (visited_monomial D v)
      → Standing D S (visited D S v f) (visited_monomial D v)
  visit_ready f none e v h n = subst (λ (g : PackedFound D). Standing D S (visited D S v g) (visited_monomial D v)) (sym e)
      (from_none v h (subst (λ (g : PackedFound D). NextAfter D g.leads none (visited_monomial D v)) e n))
  visit_ready f (last c) W v h n = visit_standing D L B S d few f c W v h (record { after = n.after; least = n.least })

  -- nothing is left
  pub ready_ended : (f : PackedFound D) (o : Last D) → Ready f o → ((a : Mono) → Candidate D a → Above D o a → ¬ Undivided D f.leads a) → PackedBasis D S f
  ready_ended f none e left = absurd (left one (inl one_free) tt (subst (λ (g : PackedFound D). Undivided D g.leads one) (sym e) (λ l mem. absurd mem)))
  ready_ended f (last c) W left = ended D L B S d few f c W left

  -- what it is a variable times has been found, and it is new
  pub ready_bordered : (f : PackedFound D) (o : Last D) → Ready f o → (b : Mono) → NextAfter D f.leads o b → Undivided D f.leads b → Bordered D f.standard b
  ready_bordered f none e b n u = subst (λ (g : PackedFound D). Bordered D g.standard b) (sym e)
      (subst (Bordered D []) (first b (subst (λ (g : PackedFound D). NextAfter D g.leads none b) e n)) (bordered_start D L S d))
  ready_bordered f (last c) W b n u = free_bordered D L S d f.standard f.leads c W.drawn b
      (next_is D L B S d f.standard f.leads c W.drawn b (record { after = n.after; least = n.least })) u

  pub ready_new : (f : PackedFound D) (o : Last D) → Ready f o → (b : Mono) → NextAfter D f.leads o b → ¬ Among b f.standard
  ready_new f none e b n = subst (λ (g : PackedFound D). ¬ Among b g.standard) (sym e) (λ z. z)
  ready_new f (last c) W b n = (front_next D L S d f.standard f.leads c W.drawn b
      (next_is D L B S d f.standard f.leads c W.drawn b (record { after = n.after; least = n.least }))).new
