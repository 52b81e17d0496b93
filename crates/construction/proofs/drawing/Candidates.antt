-- The search for the next product finds the next monomial of drawing up, or that there is none: at every turn the monomials up to the last one are decided, and
-- the positions stand behind its products.
use mathlib.Core.Path.{◌≡◌, refl, sym, ap, subst, ◌∙◌}
use mathlib.Core.Bool.{Bool, true, false, cond}
use mathlib.Core.List.{List, [], ◌∷◌, ◌++◌, map}
use Prim.Native.Nat.{ℕ, zero, suc, ◌+◌, ◌*◌, ◌<◌, ◌≤◌}
use native.Mathlib.Numerals.{add-one}
use native.Mathlib.Omega.{arith}
use native.Mathlib.Decide.{ℕ_discrete}
use borrow.Author.Tests.{eqb-true, eqb-false}
use lib.ListN.{length, take, drop, get_or, set, length-append, length-map, get_or-append, get_or-map}
use lib.Seq.{get_or_at, get_or-set_same, get_or-set_other}
use Rattle.residue.specs.Lists.{Among}
use Rattle.residue.specs.Modulus.{is_modulus}
use Rattle.residue.specs.Layout.{fill, in_places}
use Rattle.residue.proofs.Places.{place_at}
use Rattle.monomial.specs.Monomial.{degree}
use Rattle.monomial.specs.Order.{Order, LightOrder}
use Rattle.monomial.specs.Rank.{rank_of, variable_rank}
use Rattle.monomial.specs.Increasing.{Increasing}
use Rattle.std.specs.Prelude.{Option, Some, None}
use Rattle.monomial.specs.declared.candidate.Parents.{Parents}
use Rattle.monomial.specs.declared.candidate.Candidate.{Candidate}
use Rattle.monomial.specs.Candidate.{least_of, products_passed, parents_of, occurring_in, is_whole, Searched, search_ends, at_least, next_from, next_of}
use Rattle.monomial.proofs.Algebra.Products.{degree_times_variable}
use Rattle.monomial.proofs.candidate.Products.{remaining, remaining_most, Product, least_of_lem, least_nothing, passed_length, passed_is, passed_not, Last, passed_fewer, least_last}
use Rattle.monomial.proofs.candidate.Counts.{Occurs, count_whole, whole_count}
use Rattle.monomial.proofs.candidate.Exponents.{rank_times, rank_less, rank_same, product_occurs, occurs_product}
use Rattle.specification.specs.Space.{Space, Less}
use Rattle.specification.specs.Polynomial.{Distinct}
use Rattle.specification.specs.BasisOf.{standard_of, leads_of}
use Rattle.specification.specs.Examination.{Undivided}
use Rattle.specification.specs.Instance.{Monomial, Point, space_of}
use Rattle.specification.proofs.Instance.{monomial_path, laws, standard_total}
use Rattle.specification.proofs.ideal.Laws.{Laws}
use Rattle.specification.proofs.ideal.Lists.{get_d_among}
use Rattle.specification.proofs.drawing.UpTo as drawing
use Rattle.specification.proofs.drawing.UpTo.{Drawn, Bordered, drawn_standard, drawn_leads, bordered, standard_room}
use Rattle.construction.proofs.drawing.Positions.{product_at, Positions, Lowest, Advances, none_left, next_at, bordered_at, at_bordered, advanced}

module _ (q m : ℕ) (order : Order) where
  abbrev D : Space
  D = space_of q m order

  abbrev rank : Monomial m → ℕ
  rank a = rank_of order (fill 8 a.0)

  -- the table of the standard monomials found
  abbrev pub table_of : List (Monomial m) → List ℕ
  table_of standard = fill 512 (in_places 8 (map (λ a. a.0) standard))

  -- their ranks, and those of the variables
  pub record Ranked (standard : List (Monomial m)) (ranks steps : List ℕ) : Type 0 where
    pub ranked : (t : ℕ) → t < length standard → get_or ranks t 0 ≡ rank (get_or standard t D.one)
    pub step : (k : ℕ) → k < m → get_or steps k 0 ≡ variable_rank order k

  -- one more
  pub ranked_more : (standard : List (Monomial m)) (ranks steps : List ℕ) → Ranked standard ranks steps → (b : Monomial m) (r : ℕ) → r ≡ rank b →
      length standard < length ranks → Ranked (standard ++ (b ∷ [])) (set ranks (length standard) r) steps
  ranked_more standard ranks steps R b r e h = record { ranked = λ t l. go t (ℕ_discrete t (length standard)) l; step = R.step }
    where
      go : (t : ℕ) → Dec (t ≡ length standard) → t < length (standard ++ (b ∷ [])) →
          get_or (set ranks (length standard) r) t 0 ≡ rank (get_or (standard ++ (b ∷ [])) t D.one)
      go t (yes z) l = rw z (get_or-set_same ranks (length standard) r 0 h ∙ e ∙ ap rank (sym (get_or_at standard b [] D.one (length standard) refl)))
      go t (no z) l =
          let u : t < length standard = omega (arith, length-append standard (b ∷ [])) in
          get_or-set_other ranks (length standard) t r 0 z ∙ R.ranked t u ∙ ap rank (sym (get_or-append standard (b ∷ []) D.one t u))

  -- The product of variable k and the t-th standard monomial is next, all below it being decided, and its divisors are standard.
  pub record Found (S : List (Point (suc q) m)) (standard leads : List (Monomial m)) (k t r : ℕ) (at : List ℕ) : Type 0 where
    pub variable : k < m
    pub parent : t < length standard
    pub ranked : r ≡ rank (product_at D standard k t)
    pub last : Monomial m
    pub drawn : Drawn D S standard leads last
    pub next : drawing.Next D standard leads last (product_at D standard k t)
    pub bordered : Bordered D standard (product_at D standard k t)
    pub long : length at ≡ 8
    pub positions : Positions D standard (product_at D standard k t) (λ v. get_or at v 0)

  -- what an answer says of the basis
  abbrev pub Outcome : List (Point (suc q) m) → List (Monomial m) → List (Monomial m) → Option Candidate → List ℕ → Type 0
  Outcome S standard leads None at = (standard ≡ standard_of D S) × (leads ≡ leads_of D S)
  Outcome S standard leads (Some c) at = Found S standard leads c.variable c.standard c.rank at

  module _ (p : is_modulus (suc q) ≡ true) (l : m ≤ 8) (light : LightOrder order) (S : List (Point (suc q) m)) (d : Distinct D S) (n : length S ≤ 64)
      (standard leads : List (Monomial m)) (ranks steps : List ℕ) (R : Ranked standard ranks steps) (inc : Increasing D.cmp standard)
      (inside : (a : Monomial m) → Among a standard → Among a (standard_of D S)) (room : length standard ≤ length S) where
    L : Laws D
    L = laws q m order p

    abbrev found : ℕ
    found = length standard

    abbrev table : List ℕ
    table = table_of standard

    abbrev std : ℕ → Monomial m
    std t = get_or standard t D.one

    abbrev prod : ℕ → ℕ → Monomial m
    prod v t = product_at D standard v t

    row : (t : ℕ) → t < found → take 8 (drop (8 * t) table) ≡ fill 8 (std t).0
    row t h =
        place_at 8 512 (map (λ a. a.0) standard) t D.one.0 (rw length-map (omega (arith, room))) (rw length-map h)
        ∙ ap (fill 8) (get_or-map (λ (a : Monomial m). a.0) standard t D.one)

    small : (v t : ℕ) → v < m → t < found → degree (prod v t).0 < 65
    small v t hv h =
        omega (arith, degree_times_variable v (std t).0 (rw (std t).1 hv), standard_total q m order p S d (std t) (inside (std t) (get_d_among standard t D.one h)))

    rank_product : (v t : ℕ) → v < m → t < found → get_or ranks t 0 + get_or steps v 0 ≡ rank (prod v t)
    rank_product v t hv h = rw (R.ranked t h, R.step v hv) (sym (rank_times (std t).0 (rw (std t).1 l) order v (rw (std t).1 hv)))

    product_same : (v t w u : ℕ) → v < m → t < found → w < m → u < found → rank (prod v t) ≡ rank (prod w u) → prod v t ≡ prod w u
    product_same v t w u hv ht hw hu e =
        monomial_path (rank_same (prod v t).0 (rw (prod v t).1 l) order (prod w u).0 ((prod v t).1 ∙ sym (prod w u).1) (small v t hv ht) (small w u hw hu) e)

    abbrev To : Searched → Type 0
    To e = Outcome S standard leads e.answer e.positions

    module _ (at : List ℕ) (long : length at ≡ 8) (c : Monomial m) (W : Drawn D S standard leads c) (P : Positions D standard c (λ v. get_or at v 0)) where
      at_none : least_of found ranks steps at m ≡ None → (standard ≡ standard_of D S) × (leads ≡ leads_of D S)
      at_none e = (drawn_standard D L S d standard leads c W over, drawn_leads D L S d standard leads c W over)
        where
          all : (v : ℕ) → v < m → get_or at v 0 ≡ found
          all v hv =
              omega (arith, P.within v hv, least_nothing found ranks steps at m e v hv)

          over : (k : ℕ) (s : Monomial m) → k < m → Among s standard → Less D c (D.x k s) → ¬ Undivided D leads (D.x k s)
          over k s hk mem h u = none_left D L standard inc c (λ v. get_or at v 0) P all k s hk mem h

      module _ (r : ℕ) (e : least_of found ranks steps at m ≡ Some r) where
        abbrev pr : Parents
        pr = parents_of found ranks steps r at m

        abbrev k : ℕ
        k = pr.variable

        abbrev t : ℕ
        t = pr.standard

        abbrev b : Monomial m
        b = prod k t

        abbrev at' : List ℕ
        at' = products_passed found ranks steps r at m

        last : Last found ranks steps r at m pr
        last = least_last found ranks steps m at r e pr refl

        parent : t < found
        parent = omega (arith, last.standard, last.product.0)

        ranked : r ≡ rank b
        ranked = sym last.product.1 ∙ ap (λ (z : ℕ). get_or ranks z 0 + get_or steps k 0) (sym last.standard) ∙ rank_product k t last.within parent

        -- the products of the least rank are b
        abbrev Here : ℕ → Type 0
        Here v = (get_or at v 0 < found) × (prod v (get_or at v 0) ≡ b)

        product_here : (v : ℕ) → v < m → Product found ranks steps r at v → Here v
        product_here v hv h = (h.0, product_same v (get_or at v 0) k t hv h.0 last.within parent (sym (rank_product v (get_or at v 0) hv h.0) ∙ h.1 ∙ ranked))

        here_product : (v : ℕ) → v < m → Here v → Product found ranks steps r at v
        here_product v hv h = (h.0, rank_product v (get_or at v 0) hv h.0 ∙ ap rank h.1 ∙ sym ranked)

        low : Lowest D standard (λ v. get_or at v 0) b
        low v hv h u =
            let a = prod v (get_or at v 0) in
            omega (
              arith,
              (least_of_lem found ranks steps at m r e).least v hv h,
              rank_product v (get_or at v 0) hv h,
              rank_less a.0 (rw a.1 l) order b.0 (a.1 ∙ sym b.1) (small v (get_or at v 0) hv h) (small k t last.within parent) u,
              ranked,
            )

        after : Less D c b
        after = subst (Less D c) (product_here k last.within last.product).1 (P.left k (get_or at k 0) last.within (omega arith) last.product.0)

        advances : Advances D standard b (λ v. get_or at v 0) (λ v. get_or at' v 0)
        advances = record {
          moves = λ v hv h z. passed_is found ranks steps r at m v hv (omega arith) (here_product v hv (h, z)) ∙ add-one _;
          stays = λ v hv ne. passed_not found ranks steps r at m v (λ h. ne (product_here v hv h));
        }

        next : drawing.Next D standard leads c b
        next = next_at D L standard inc c (λ v. get_or at v 0) P b low leads after

        positions : Positions D standard b (λ v. get_or at' v 0)
        positions = advanced D L standard inc c (λ v. get_or at v 0) P b low (λ v. get_or at' v 0) after advances

        -- the variables that occur in b
        own : (i : ℕ) → i < m → Product found ranks steps r at i → Occurs (fill 8 (std t).0) k i
        own i hi h =
            let s = std (get_or at i 0) in
            product_occurs (std t).0 (rw (std t).1 l) k i s.0 (rw s.1 hi) (omega arith) (sym (ap (λ (z : Monomial m). z.0) (product_here i hi h).1))

        none : (i : ℕ) → m ≤ i → i < 8 → ¬ Occurs (fill 8 (std t).0) k i
        none i hi h o = omega (arith, (occurs_product (std t).0 (rw (std t).1 l) k i (rw (std t).1 last.within) h o).within, (std t).1)

        whole : pr.count ≡ occurring_in (take 8 (drop (8 * t) table)) k 8 → Bordered D standard b
        whole f =
            bordered_at D L standard inc c (λ v. get_or at v 0) P b low
            (λ v a hv z. product_here v hv
            (count_whole found ranks steps r at m l (fill 8 (std t).0) k own none (f ∙ ap (λ (w : List ℕ). occurring_in w k 8) (row t parent)) v hv
            (product_occurs (std t).0 (rw (std t).1 l) k v a.0 (rw a.1 hv) (omega arith) (ap (λ (w : Monomial m). w.0) z))))

        counted : Bordered D standard b → pr.count ≡ occurring_in (take 8 (drop (8 * t) table)) k 8
        counted f = whole_count found ranks steps r at m l (fill 8 (std t).0) k own none each ∙ sym (ap (λ (w : List ℕ). occurring_in w k 8) (row t parent))
          where
            each : (i : ℕ) → i < m → Occurs (fill 8 (std t).0) k i → Product found ranks steps r at i
            each i hi o =
                let w = occurs_product (std t).0 (rw (std t).1 l) k i (rw (std t).1 last.within) (omega arith) o in
                here_product i hi
                (at_bordered D L standard inc c (λ v. get_or at v 0) P b low after f i (w.by, w.long ∙ (std t).1) hi (monomial_path w.product))

      -- one turn: b is what is sought, or it is not of the basis and is done
      turn : (rest : List ℕ → Searched) →
          ((r : ℕ) → least_of found ranks steps at m ≡ Some r → (b : Monomial m) → Drawn D S standard leads b →
          Positions D standard b (λ v. get_or (products_passed found ranks steps r at m) v 0) → To (rest (products_passed found ranks steps r at m))) →
          To (at_least m found table ranks steps (least_of found ranks steps at m) at rest)
      unfolding at_least
      turn rest again = go (least_of found ranks steps at m) refl
        where
          pick : (r : ℕ) (e : least_of found ranks steps at m ≡ Some r) (w : Bool) → is_whole table (pr r e) ≡ w →
              To (cond w (search_ends (Some (record { variable = k r e; standard = t r e; rank = r })) (at' r e)) (rest (at' r e)))
          pick r e true f =
              record {
                variable = (last r e).within;
                parent = parent r e;
                ranked = ranked r e;
                last = c;
                drawn = W;
                next = next r e;
                bordered = whole r e (eqb-true _ _ f);
                long = passed_length found ranks steps r at m ∙ long;
                positions = positions r e;
              }
          pick r e false f =
              again r e (b r e)
              (drawing.pass D L S d standard leads c W (b r e) (next r e) (λ o. eqb-false _ _ f (counted r e (bordered D L S d standard leads c W (b r e) (next r e) o))))
              (positions r e)

          go : (o : Option ℕ) → least_of found ranks steps at m ≡ o → To (at_least m found table ranks steps o at rest)
          go None e = at_none e
          go (Some r) e = pick r e (is_whole table (pr r e)) refl

    turns : (i : ℕ) (at : List ℕ) → length at ≡ 8 → (c : Monomial m) → Drawn D S standard leads c → Positions D standard c (λ v. get_or at v 0) →
        remaining found at m ≤ i → To (next_from m found table ranks steps (suc i) at)
    unfolding next_from
    turns zero at long c W P h =
        turn at long c W P (λ a. next_from m found table ranks steps zero a)
        (λ r e b U Q. absurd (omega (arith, passed_fewer found ranks steps m at r e (products_passed found ranks steps r at m) refl (omega arith))))
    turns (suc i) at long c W P h =
        turn at long c W P (λ a. next_from m found table ranks steps (suc i) a)
        (λ r e b U Q. turns i (products_passed found ranks steps r at m) (passed_length found ranks steps r at m ∙ long) b U Q
        (omega (arith, passed_fewer found ranks steps m at r e (products_passed found ranks steps r at m) refl (omega arith))))

  -- What `candidate::next` answers, of the points S, with the standard monomials and leads found and all up to c decided.
  pub next_candidate : is_modulus (suc q) ≡ true → m ≤ 8 → LightOrder order → (S : List (Point (suc q) m)) → Distinct D S → length S ≤ 64 → (standard leads : List (Monomial m)) (c : Monomial m) →
      Drawn D S standard leads c → (ranks steps : List ℕ) → Ranked standard ranks steps → (at : List ℕ) → length at ≡ 8 → Positions D standard c (λ v. get_or at v 0) →
      (a : Option Candidate) (at' : List ℕ) → search_ends a at' ≡ next_of m (length standard) (table_of standard) ranks steps at → Outcome S standard leads a at'
  unfolding next_of
  next_candidate p l light S d n standard leads c W ranks steps R at long P a at' e =
      subst (λ (z : Searched). Outcome S standard leads z.answer z.positions) (sym e)
      (turns p l light S d n standard leads ranks steps R W.standard_to.increasing W.standard_to.of_all (standard_room D (laws q m order p) S d standard leads c W)
      (m * length standard) at long c W P (remaining_most (length standard) at m))
