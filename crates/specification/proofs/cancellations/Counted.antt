-- The whole examination: it ends, its standard monomials and leads are those of the basis, and it cancels at most n times (n times m, plus 1) times.
use mathlib.Core.Path.{◌≡◌, refl, sym, ap, subst, ◌∙◌}
use mathlib.Core.List.{List, []}
use Prim.Native.Nat.{ℕ, zero, suc, ◌+◌, ◌*◌, ◌≤◌, ◌<◌, Ordering}
use native.Mathlib.Nat.{mul-le-mul_left}
use native.Mathlib.Omega.{arith}
use lib.ListN.{length}
use Rattle.residue.specs.Lists.{Among}
use Rattle.specification.specs.Space.{Space, Less}
use Rattle.specification.specs.Polynomial.{Distinct}
use Rattle.specification.specs.BasisOf.{standard_of, leads_of}
use Rattle.specification.proofs.ideal.Laws.{Laws, Compares, lt, eq, gt, compared}
use Rattle.specification.proofs.drawing.UpTo as drawing
use Rattle.specification.proofs.drawing.UpTo.{bordered_start, front_start, start_standard, start_lead, standard_room, leads_room, all_divided, drawn_standard, drawn_leads, least_of_all, front_next, free_bordered, take_standard, take_lead}
use Rattle.specification.specs.Cancellations.{Found, found, examined, Next, nothing, next, products_of, next_after, least_due, onward, examined_from, examined_all, cancellations_of}
use Rattle.specification.proofs.cancellations.Decisions.{holds_none}
use Rattle.specification.specs.Examination.{Undivided, Follows, Examines, done, more, Examination}
use Rattle.specification.proofs.cancellations.Due.{Answers, product_in, least_due_lem}
use Rattle.specification.proofs.cancellations.Examined.{size, Standing, examined_standing}

module _ (D : Space) (L : Laws D) (S : List D.Pt) (d : Distinct D S) where
  open D use {m, Mono, one, x}

  -- all that the examination is to be
  pub record Ended (f : Found D) : Type 0 where
    pub standard_are : f.standard ≡ standard_of D S
    pub leads_are : f.leads ≡ leads_of D S
    pub few : f.cancellations ≤ length S * (length S * m + 1)

  -- reached from f and c as the requirement says, and all found
  abbrev Reached : Mono → Found D → Found D → Type 0
  Reached c f g = Examines D S g c f × Ended g

  module _ (f : Found D) (c : Mono) (W : Standing D L S d f c) where
    -- the tables have room, so no more than n m + 1 monomials are examined
    most : size D L S d f ≤ length S * m + 1
    most = omega (arith, standard_room D L S d f.standard f.leads c W.drawn, leads_room D L S d f.standard f.leads c W.drawn)

    ended : Answers D c f.leads (products_of D f.standard m) nothing → Reached c f f
    ended none = (
      done (all_divided D L S d f.standard f.leads c W.drawn over) refl,
      record {
        standard_are = drawn_standard D L S d f.standard f.leads c W.drawn over;
        leads_are = drawn_leads D L S d f.standard f.leads c W.drawn over;
        few = omega (arith, W.few, mul-le-mul_left (length S) most);
      },
    )
      where
        over : (k : ℕ) (s : Mono) → k < m → Among s f.standard → Less D c (x k s) → ¬ Undivided D f.leads (x k s)
        over k s h mem u v = none (x k s) (product_in D f.standard m k s h mem) (u, v)

    onwards : (b : Mono) → Answers D c f.leads (products_of D f.standard m) (next b)
        → Follows D f.leads c b × (Standing D L S d (examined D S b f) b × (size D L S d (examined D S b f) ≡ suc (size D L S d f)))
    onwards b (mem, ((after, free), least)) = (
      record { after = after; undivided = free; least = least_of_all D L S d f.standard f.leads c W.drawn b due },
      examined_standing D L S d f b W.holds W.paired W.few (standard_room D L S d f.standard f.leads c W.drawn)
          (front_next D L S d f.standard f.leads c W.drawn b due) (free_bordered D L S d f.standard f.leads c W.drawn b due free)
          (take_standard D L S d f.standard f.leads c W.drawn b due) (take_lead D L S d f.standard f.leads c W.drawn b due),
    )
      where
        due : drawing.Next D f.standard f.leads c b
        due = record { after = after; least = λ k s h z u v. least (x k s) (product_in D f.standard m k s h z) (u, v) }

  to_the_end : (t : ℕ) (f : Found D) (c : Mono) → Standing D L S d f c → length S * m + 1 < t + size D L S d f → Reached c f (examined_from D t S c f)
  unfolding examined_from next_after
  to_the_end zero f c W h = absurd (omega (arith, most f c W))
  to_the_end (suc t) f c W h = go (least_due D c f.leads (products_of D f.standard m)) (least_due_lem D L c f.leads (products_of D f.standard m)) (λ b g. to_the_end t g b)
    where
      go : (r : Next D) → Answers D c f.leads (products_of D f.standard m) r
          → ((b : Mono) (g : Found D) → Standing D L S d g b → length S * m + 1 < t + size D L S d g → Reached b g (examined_from D t S b g))
          → Reached c f (onward D r f (λ b. examined_from D t S b (examined D S b f)))
      go nothing a ih = ended f c W a
      go (next b) a ih =
          let s = onwards f c W b a in
          let r = ih b (examined D S b f) s.1.0 (omega (arith, s.1.1)) in
          (more b s.0 r.0, r.1)

  whole : Reached one (examined D S one (found D [] [] [] 0)) (examined_all D S)
  unfolding examined_all
  whole =
      let s = examined_standing D L S d (found D [] [] [] 0) one (holds_none D S) refl (omega arith) (omega arith) (front_start D L S d) (bordered_start D L S d) (start_standard D L S d) (start_lead D L S d) in
      to_the_end (suc (length S * m)) (examined D S one (found D [] [] [] 0)) one s.0 (omega (arith, s.1))

  -- the computed examination is the one that the requirement says
  pub examination : Examination D S (examined_all D S)
  examination = whole.0

  pub counted : Ended (examined_all D S)
  counted = whole.1

  -- the number that drawing up returns
  pub cancellations_few : cancellations_of D S ≤ length S * (length S * m + 1)
  cancellations_few = counted.few

  -- there is one such examination: whatever goes as the requirement says counts the same
  follows_one : (leads : List Mono) (c a b : Mono) → Follows D leads c a → Follows D leads c b → a ≡ b
  follows_one leads c a b h k = go (compared D L a b)
    where
      go : {o : Ordering} → Compares D a b o → a ≡ b
      go (lt u) = absurd (k.least a h.after h.undivided u)
      go (eq e) = e
      go (gt u) = absurd (h.least b k.after k.undivided u)

  examines_one : (g e : Found D) (c : Mono) (f : Found D) → Examines D S g c f → Examines D S e c f → g ≡ e
  examines_one g e c f (done h p) (done k r) = sym p ∙ r
  examines_one g e c f (done h p) (more b k r) = absurd (h b k.after k.undivided)
  examines_one g e c f (more b h p) (done k r) = absurd (k b h.after h.undivided)
  examines_one g e c f (more b h p) (more a k r) =
      examines_one g e b (examined D S b f) p (subst (λ (z : Mono). Examines D S e z (examined D S z f)) (follows_one f.leads c a b k h) r)

  pub examination_only : (g : Found D) → Examination D S g → g ≡ examined_all D S
  examination_only g h = examines_one g (examined_all D S) one (examined D S one (found D [] [] [] 0)) h examination

  pub cancellations_only : (g : Found D) → Examination D S g → g.cancellations ≡ cancellations_of D S
  cancellations_only g h = ap (λ (f : Found D). f.cancellations) (examination_only g h)
