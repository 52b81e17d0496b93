-- Drawing up from all points, after Buchberger and Möller (docs/SCOPE.md, 'The sheet'): monomials in increasing order, each a product of a standard monomial found; what has
-- been decided is the basis up to the last of them. A monomial all of whose divisors are standard is a lead if its values are a combination of those of the
-- standard monomials found, and else standard.
use mathlib.Core.Path.{◌≡◌, sym, ap, subst}
use mathlib.Core.List.{List, [], ◌∷◌, ◌++◌}
use mathlib.Core.Logic.{◌⊎◌, inl, inr}
use mathlib.Core.WellFounded.Acc
use Prim.Native.Nat.{ℕ, ◌+◌, ◌*◌, ◌≤◌, ◌<◌, suc-le-suc, zero-le, Ordering}
use native.Mathlib.Omega.{arith}
use lib.ListN.{length, length-append}
use Rattle.residue.specs.Lists.{Among}
use Rattle.residue.proofs.Congruence.{of, ◌then◌}
use Rattle.monomial.specs.Increasing.{Increasing}
use Rattle.monomial.proofs.Orders.Increasing.{unique}
use Rattle.specification.specs.Space.{Space, Less, Divides}
use Rattle.specification.specs.Polynomial.{eval, Distinct, terms}
use Rattle.specification.specs.Basis.{Row}
use Rattle.specification.specs.BasisOf.{standard_of, leads_of}
use Rattle.specification.specs.Examination.{Undivided}
use Rattle.specification.proofs.ideal.Laws.{Laws, Compares, lt, eq, gt, compared, same?, irrefl, trans, less_ne}
use Rattle.specification.proofs.ideal.Lists.{snoc_of, snoc_in, snoc_increasing}
use Rattle.specification.proofs.ideal.Increasing.{increasing_length}
use Rattle.specification.proofs.ideal.Staircase.{member?}
use Rattle.specification.proofs.ideal.Basis.{staircase}
use Rattle.specification.proofs.ideal.Counts.{standard_length, leads_length}
use Rattle.specification.proofs.drawing.Span.{Spanned, spanned, not_spanned}

module _ (D : Space) where
  open D use {m, Mono, Pt, one, x, val, cmp}

  -- found has the members of all that are not above c
  pub record UpTo (all found : List Mono) (c : Mono) : Type 0 where
    pub increasing : Increasing cmp found
    pub of_all : (a : Mono) → Among a found → Among a all
    pub not_above : (a : Mono) → Among a found → ¬ Less D c a
    pub found_all : (a : Mono) → Among a all → ¬ Less D c a → Among a found

  -- what has been found is the basis of S up to c
  pub record Drawn (S : List Pt) (standard leads : List Mono) (c : Mono) : Type 0 where
    pub standard_to : UpTo (standard_of D S) standard c
    pub leads_to : UpTo (leads_of D S) leads c

  -- b is above c, and no product of the monomials found that no lead found divides is between
  pub record Next (standard leads : List Mono) (c b : Mono) : Type 0 where
    pub after : Less D c b
    pub least : (k : ℕ) (s : Mono) → k < m → Among s standard → Less D c (x k s) → Undivided D leads (x k s) → ¬ Less D (x k s) b

  -- every monomial that b is a variable times has been found
  abbrev pub Bordered : List Mono → Mono → Type 0
  Bordered standard b = (k : ℕ) (a : Mono) → k < m → b ≡ x k a → Among a standard

  -- the monomials found are the standard monomials below b
  pub record Front (S : List Pt) (standard : List Mono) (b : Mono) : Type 0 where
    pub increasing : Increasing cmp standard
    pub of_all : (a : Mono) → Among a standard → Among a (standard_of D S)
    pub new : ¬ Among b standard
    pub below : (a : Mono) → Among a (standard_of D S) → Less D a b → Among a standard

  -- a row found stays one when a standard monomial more is found, with the coefficient 0 there
  pub row_longer : (S : List Pt) (standard : List Mono) (a : Mono) (cs : List ℕ) (b : Mono) → Row D S standard a cs → Row D S (standard ++ (b ∷ [])) a (cs ++ (0 ∷ []))
  row_longer S standard a cs b r = record {
    long = omega (arith, length-append cs (0 ∷ []), length-append standard (b ∷ []), r.long);
    residues = λ c mem. elim (snoc_of cs 0 c mem) [ inl z ↦ r.residues c z | inr e ↦ rw e (suc-le-suc zero-le) ];
    vanishes = λ P mem. of (ap (λ (z : ℕ). 1 * val a P + z) (same_value cs standard P r.long)) then r.vanishes P mem;
  }
    where
      same_value : (cs : List ℕ) (l : List Mono) (P : Pt) → length cs ≡ length l → eval D (terms D (cs ++ (0 ∷ [])) (l ++ (b ∷ []))) P ≡ eval D (terms D cs l) P
      same_value [] [] P e = omega arith
      same_value [] (c ∷ l) P e = absurd (omega arith)
      same_value (c ∷ cs) [] P e = absurd (omega arith)
      same_value (c ∷ cs) (d ∷ l) P e = ap (λ (z : ℕ). c * val d P + z) (same_value cs l P (omega arith))

  module _ (L : Laws D) where
    open L use {order, wf, x_up, dvd_x, dvd_trans, dvd_less, one_dvd, step}

    one_least : (a : Mono) → ¬ Less D a one
    one_least a h = irrefl D L (trans D L h (dvd_less one_dvd (λ e. less_ne D L h (sym e))))

    -- a monomial is at most c or above it
    pub at_most : (c a : Mono) → Less D c a ⊎ (¬ Less D c a)
    at_most c a = go (compared D L c a)
      where
        go : {o : Ordering} → Compares D c a o → Less D c a ⊎ (¬ Less D c a)
        go (lt h) = inl h
        go (eq e) = inr (λ h. less_ne D L h e)
        go (gt h) = inr (λ k. irrefl D L (trans D L h k))

    module _ (all found : List Mono) (c b : Mono) (up : Less D c b) (free : (a : Mono) → Among a all → Less D c a → ¬ Less D a b) (U : UpTo all found c) where
      lower : (a : Mono) → ¬ Less D c a → ¬ Less D b a
      lower a h k = h (trans D L up k)

      -- a member of all that is not above b is b or was found
      to_next : (a : Mono) → Among a all → ¬ Less D b a → (a ≡ b) ⊎ Among a found
      to_next a mem h = go (at_most c a) (compared D L a b)
        where
          go : {o : Ordering} → Less D c a ⊎ (¬ Less D c a) → Compares D a b o → (a ≡ b) ⊎ Among a found
          go (inr u) _ = inr (U.found_all a mem u)
          go (inl u) (lt v) = absurd (free a mem u v)
          go (inl u) (eq e) = inl e
          go (inl u) (gt v) = absurd (h v)

      pub up_to_same : ¬ Among b all → UpTo all found b
      up_to_same out = record {
        increasing = U.increasing;
        of_all = U.of_all;
        not_above = λ a mem. lower a (U.not_above a mem);
        found_all = λ a mem h. elim (to_next a mem h) [ inl e ↦ absurd (out (subst (λ (z : Mono). Among z all) e mem)) | inr z ↦ z ];
      }

      pub up_to_snoc : Among b all → UpTo all (found ++ (b ∷ [])) b
      up_to_snoc at_b = record {
        increasing = snoc_increasing cmp found b U.increasing (λ a mem. below a (U.not_above a mem) (compared D L a b));
        of_all = λ a mem. elim (snoc_of found b a mem) [ inl z ↦ U.of_all a z | inr e ↦ subst (λ (z : Mono). Among z all) (sym e) at_b ];
        not_above = λ a mem. elim (snoc_of found b a mem) [ inl z ↦ lower a (U.not_above a z) | inr e ↦ λ h. less_ne D L h (sym e) ];
        found_all = λ a mem h. elim (to_next a mem h) [ inl e ↦ snoc_in found b a (inr e) | inr z ↦ snoc_in found b a (inl z) ];
      }
        where
          below : {o : Ordering} (a : Mono) → ¬ Less D c a → Compares D a b o → Less D a b
          below a h (lt u) = u
          below a h (eq e) = absurd (h (subst (Less D c) (sym e) up))
          below a h (gt u) = absurd (h (trans D L up u))

    up_to_end : (all found : List Mono) (c : Mono) → Increasing cmp all → UpTo all found c → ((a : Mono) → Among a all → ¬ Less D c a) → found ≡ all
    up_to_end all found c i U h = unique cmp order found all U.increasing i U.of_all (λ a mem. U.found_all a mem (h a mem))

    one_only : (a : Mono) → ¬ Less D one a → a ≡ one
    one_only a h = go (compared D L a one)
      where
        go : {o : Ordering} → Compares D a one o → a ≡ one
        go (lt u) = absurd (one_least a u)
        go (eq e) = e
        go (gt u) = absurd (h u)

    up_to_one : (all : List Mono) → Among one all → UpTo all (one ∷ []) one
    up_to_one all mem = record {
      increasing = (tt, tt);
      of_all = λ a z. elim z [ inl e ↦ subst (λ (w : Mono). Among w all) (sym e) mem | inr w ↦ absurd w ];
      not_above = λ a z h. elim z [ inl e ↦ less_ne D L h (sym e) | inr w ↦ absurd w ];
      found_all = λ a z h. inl (one_only a h);
    }

    up_to_none : (all : List Mono) → ¬ Among one all → UpTo all [] one
    up_to_none all out = record {
      increasing = tt;
      of_all = λ a z. absurd z;
      not_above = λ a z. absurd z;
      found_all = λ a z h. absurd (out (subst (λ (w : Mono). Among w all) (one_only a h) z));
    }

    module _ (S : List Pt) (d : Distinct D S) where
      -- a of the basis: standard or a lead
      abbrev pub Of : Mono → Type 0
      Of a = Among a (standard_of D S) ⊎ Among a (leads_of D S)

      -- a monomial whose values are a combination of those of the standard monomials below it, and which is bordered by them, is a lead
      pub is_lead : (standard : List Mono) (b : Mono) → Front S standard b → Bordered standard b → Spanned D S standard (val b) → Among b (leads_of D S)
      is_lead standard b F h sp = let t = (staircase D L S d).cover b (λ mem. not_spanned D L S d standard F.increasing F.of_all b mem F.new sp) in go t.0 t.1 t.2 (same? D L t.0 b)
        where
          go : (a : Mono) → Among a (leads_of D S) → Divides D a b → Dec (a ≡ b) → Among b (leads_of D S)
          go a mem k (yes e) = subst (λ (z : Mono). Among z (leads_of D S)) e mem
          go a mem k (no e) = let s = step k e in absurd ((staircase D L S d).outside a mem ((staircase D L S d).down a s.1 s.4 (F.of_all s.1 (h s.0 s.1 s.2 s.3))))

      -- and one whose values are none is standard
      pub is_standard : (standard : List Mono) (b : Mono) → Front S standard b → ¬ Spanned D S standard (val b) → Among b (standard_of D S)
      is_standard standard b F ns = go (member? D L b (standard_of D S))
        where
          go : Dec (Among b (standard_of D S)) → Among b (standard_of D S)
          go (yes mem) = mem
          go (no out) = absurd (ns (spanned D L S d standard F.increasing F.of_all b out F.below))

      -- the start: 1 is standard or a lead
      pub bordered_start : Bordered [] one
      bordered_start k a hk e = absurd (one_least a (subst (Less D a) (sym e) (x_up hk)))

      pub front_start : Front S [] one
      front_start = record { increasing = tt; of_all = λ a mem. absurd mem; new = λ mem. mem; below = λ a mem h. absurd (one_least a h) }

      pub start_standard : Among one (standard_of D S) → Drawn S (one ∷ []) [] one
      start_standard mem = record { standard_to = up_to_one (standard_of D S) mem; leads_to = up_to_none (leads_of D S) (λ z. (staircase D L S d).outside one z mem) }

      pub start_lead : Among one (leads_of D S) → Drawn S [] (one ∷ []) one
      start_lead mem = record { standard_to = up_to_none (standard_of D S) ((staircase D L S d).outside one mem); leads_to = up_to_one (leads_of D S) mem }

      module _ (standard leads : List Mono) (c : Mono) (W : Drawn S standard leads c) where
        -- a monomial up to c that no lead found divides has been found standard
        pub covered : (a : Mono) → ¬ Less D c a → Undivided D leads a → Among a standard
        covered a h u = go (member? D L a (standard_of D S))
          where
            low : (b : Mono) → Divides D b a → ¬ Less D c b
            low b k v = elim_same (same? D L b a)
              where
                elim_same : Dec (b ≡ a) → ⊥
                elim_same (yes e) = h (subst (Less D c) e v)
                elim_same (no n) = h (trans D L v (dvd_less k n))

            go : Dec (Among a (standard_of D S)) → Among a standard
            go (yes mem) = W.standard_to.found_all a mem h
            go (no out) = let t = (staircase D L S d).cover a out in absurd (u t.0 (W.leads_to.found_all t.0 t.1 (low t.0 t.2)) t.2)

        -- no monomial above c that no lead found divides is of a kind that goes down, if no product is
        pub none_due : (Kind : Mono → Type 0) → ((a b : Mono) → Less D b a → Kind a → Kind b)
            → ((k : ℕ) (s : Mono) → k < m → Among s standard → Less D c (x k s) → Undivided D leads (x k s) → ¬ Kind (x k s))
            → (a : Mono) → Less D c a → Undivided D leads a → ¬ Kind a
        none_due Kind down none a = Acc.ndrec {C = λ b. Less D c b → Undivided D leads b → ¬ Kind b} (λ b _ rec h u z. turn b rec h u z) (wf a)
          where
            turn : (a : Mono) → ((b : Mono) → Less D b a → Less D c b → Undivided D leads b → ¬ Kind b) → Less D c a → Undivided D leads a → ¬ Kind a
            turn a rec h u z = let s = step {a = one} {b = a} one_dvd (λ e. one_least c (subst (Less D c) (sym e) h)) in go s.0 s.1 s.2 s.3 (at_most c s.1)
              where
                under : (k : ℕ) (b : Mono) → k < m → a ≡ x k b → Undivided D leads b
                under k b hk e l mem v = u l mem (rw e (dvd_trans v (dvd_x hk)))

                go : (k : ℕ) (b : Mono) → k < m → a ≡ x k b → Less D c b ⊎ (¬ Less D c b) → ⊥
                go k b hk e (inl v) = let w = subst (Less D b) (sym e) (x_up hk) in rec b w v (under k b hk e) (down a b w z)
                go k b hk e (inr v) = none k b hk (covered b v (under k b hk e)) (subst (Less D c) e h) (subst (Undivided D leads) e u) (subst Kind e z)

        -- no lead found divides what is of the basis and above c
        pub of_undivided : (a : Mono) → Of a → Less D c a → Undivided D leads a
        of_undivided a o h l mem k = (staircase D L S d).outside l (W.leads_to.of_all l mem) (go o)
          where
            go : Of a → Among l (standard_of D S)
            go (inl z) = (staircase D L S d).down l a k z
            go (inr z) = (staircase D L S d).minimal a z l k (λ e. W.leads_to.not_above l mem (subst (Less D c) (sym e) h))

        -- no such product above c: every monomial above it is a multiple of a lead, and all is found
        module _ (over : (k : ℕ) (s : Mono) → k < m → Among s standard → Less D c (x k s) → ¬ Undivided D leads (x k s)) where
          pub all_divided : (a : Mono) → Less D c a → ¬ Undivided D leads a
          all_divided a h u = none_due (λ b. Unit {0}) (λ a b v z. z) (λ k s hk mem v w z. over k s hk mem v w) a h u tt

          beyond : (a : Mono) → Of a → ¬ Less D c a
          beyond a o h = all_divided a h (of_undivided a o h)

          pub drawn_standard : standard ≡ standard_of D S
          drawn_standard = up_to_end (standard_of D S) standard c (staircase D L S d).increasing W.standard_to (λ a mem. beyond a (inl mem))

          pub drawn_leads : leads ≡ leads_of D S
          drawn_leads = up_to_end (leads_of D S) leads c (staircase D L S d).leads_increasing W.leads_to (λ a mem. beyond a (inr mem))

        -- at any time: the tables have room
        pub standard_room : length standard ≤ length S
        standard_room = omega (arith, increasing_length D L standard (standard_of D S) W.standard_to.increasing (staircase D L S d).increasing W.standard_to.of_all, standard_length D L S d)

        pub leads_room : length leads + length S ≤ 1 + length S * m
        leads_room = omega (arith, increasing_length D L leads (leads_of D S) W.leads_to.increasing (staircase D L S d).leads_increasing W.leads_to.of_all, leads_length D L S d)

        module _ (b : Mono) (n : Next standard leads c b) where
          -- b is the least of all monomials above c that no lead found divides
          pub least_of_all : (a : Mono) → Less D c a → Undivided D leads a → ¬ Less D a b
          least_of_all = none_due (λ a. Less D a b) (λ a e u z. trans D L u z) n.least

          between : (a : Mono) → Of a → Less D c a → ¬ Less D a b
          between a o h = least_of_all a h (of_undivided a o h)

          pub front_next : Front S standard b
          front_next = record {
            increasing = W.standard_to.increasing;
            of_all = W.standard_to.of_all;
            new = λ mem. W.standard_to.not_above b mem n.after;
            below = λ a mem h. elim (at_most c a) [ inl u ↦ absurd (between a (inl mem) u h) | inr u ↦ W.standard_to.found_all a mem u ];
          }

          -- where no lead found divides it, it is bordered; so is what the basis has
          pub free_bordered : Undivided D leads b → Bordered standard b
          free_bordered free k a hk e = go (at_most c a)
            where
              under : Undivided D leads a
              under l mem v = free l mem (rw e (dvd_trans v (dvd_x hk)))

              go : Less D c a ⊎ (¬ Less D c a) → Among a standard
              go (inl u) = absurd (least_of_all a u under (subst (Less D a) (sym e) (x_up hk)))
              go (inr u) = covered a u under

          pub bordered : Of b → Bordered standard b
          bordered o = free_bordered (of_undivided b o n.after)

          -- not of the basis: passed over
          pub pass : ¬ Of b → Drawn S standard leads b
          pass out = record {
            standard_to = up_to_same (standard_of D S) standard c b n.after (λ a mem. between a (inl mem)) W.standard_to (λ z. out (inl z));
            leads_to = up_to_same (leads_of D S) leads c b n.after (λ a mem. between a (inr mem)) W.leads_to (λ z. out (inr z));
          }

          pub take_standard : Among b (standard_of D S) → Drawn S (standard ++ (b ∷ [])) leads b
          take_standard mem = record {
            standard_to = up_to_snoc (standard_of D S) standard c b n.after (λ a z. between a (inl z)) W.standard_to mem;
            leads_to = up_to_same (leads_of D S) leads c b n.after (λ a z. between a (inr z)) W.leads_to (λ z. (staircase D L S d).outside b z mem);
          }

          pub take_lead : Among b (leads_of D S) → Drawn S standard (leads ++ (b ∷ [])) b
          take_lead mem = record {
            standard_to = up_to_same (standard_of D S) standard c b n.after (λ a z. between a (inl z)) W.standard_to ((staircase D L S d).outside b mem);
            leads_to = up_to_snoc (leads_of D S) leads c b n.after (λ a z. between a (inr z)) W.leads_to mem;
          }
