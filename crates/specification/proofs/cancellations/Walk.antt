-- The walk of drawing up goes through the examination: the monomials that it passes over are multiples of leads found, so what it keeps next is what is examined next.
use mathlib.Core.Path.{sym, subst}
use mathlib.Core.List.{List}
use mathlib.Core.Logic.{inl, inr}
use Prim.Native.Nat.{Ordering}
use Rattle.residue.specs.Lists.{Among}
use Rattle.specification.specs.Space.{Space, Less}
use Rattle.specification.specs.Polynomial.{Distinct}
use Rattle.specification.specs.BasisOf.{standard_of, leads_of}
use Rattle.specification.specs.Examination.{Undivided, Follows}
use Rattle.specification.proofs.ideal.Laws.{Laws, Compares, lt, eq, gt, compared, trans}
use Rattle.specification.proofs.ideal.Staircase.{member?}
use Rattle.specification.proofs.ideal.Basis.{staircase}
use Rattle.specification.proofs.drawing.Span.{spanned}
use Rattle.specification.proofs.drawing.UpTo.{Drawn, Next, Bordered, Front, at_most, Of, is_lead, covered, of_undivided, least_of_all, front_next}

module _ (D : Space) (L : Laws D) (S : List D.Pt) (d : Distinct D S) where
  open D use {Mono}

  -- e was the last examined, c the last passed, and b, which the monomials found border, is the least product behind it
  pub follows : (standard leads : List Mono) (c : Mono) → Drawn D S standard leads c → (e b : Mono) → Next D standard leads c b → Bordered D standard b → ¬ Less D c e
      → ((a : Mono) → Among a standard → ¬ Less D e a) → Follows D leads e b
  follows standard leads c W e b n border up last = record {
    after = go (compared D L e c);
    undivided = of_undivided D L S d standard leads c W b (of_border (member? D L b (standard_of D S))) n.after;
    least =
        λ a h u v.
        elim (at_most D L c a) [ inl w ↦ least_of_all D L S d standard leads c W b n a w u v | inr w ↦ last a (covered D L S d standard leads c W a w u) h ];
  }
    where
      F : Front D S standard b
      F = front_next D L S d standard leads c W b n

      of_border : Dec (Among b (standard_of D S)) → Of D L S d b
      of_border (yes mem) = inl mem
      of_border (no out) = inr (is_lead D L S d standard b F border (spanned D L S d standard F.increasing F.of_all b out F.below))

      go : {o : Ordering} → Compares D e c o → Less D e b
      go (lt h) = trans D L h n.after
      go (eq z) = subst (λ (y : Mono). Less D y b) (sym z) n.after
      go (gt h) = absurd (up h)

  -- all is found, and c is not below any standard monomial: every monomial above it is a multiple of a lead
  pub divided_above : (c : Mono) → ((a : Mono) → Among a (standard_of D S) → ¬ Less D c a) → (a : Mono) → Less D c a → ¬ Undivided D (leads_of D S) a
  divided_above c last a h u = go (member? D L a (standard_of D S))
    where
      go : Dec (Among a (standard_of D S)) → ⊥
      go (yes mem) = last a mem h
      go (no out) = let t = (staircase D L S d).cover a out in u t.0 t.1 t.2
