-- Gathered points stand in the order of their first occurrences.
use mathlib.Core.Path.{◌≡◌, refl, sym, ap, ◌∙◌, subst}
use mathlib.Core.List.{List, [], ◌∷◌, ◌++◌, append_assoc, append-nil}
use mathlib.Core.Logic.{◌⊎◌, inl, inr, ◌↔◌}
use Prim.Native.Nat.{ℕ}
use native.Mathlib.Omega.{arith}
use Rattle.residue.specs.Lists.{Among}
use Rattle.specification.specs.Counted.{Counted, points_of, entered, entered_all, gathered}
use Rattle.specification.proofs.ideal.Lists.{snoc_of, snoc_in}
use Rattle.specification.proofs.counted.Gathered.{Entering, there, new, entering, among_gathered, once_gathered}
use Rattle.comma_text.specs.reading.Taken.{Firsts}

-- a list with one put at its end, split
snoc_split : {A : Type 0} (K : List A) (R : A) (a : List A) (P : A) (b : List A) → K ++ (R ∷ []) ≡ a ++ (P ∷ b)
    → ((a ≡ K) × (P ≡ R)) ⊎ ((d : List A) × (K ≡ a ++ (P ∷ d)))
snoc_split [] R [] P b e = let s : P ≡ R = cc in inl (refl, s)
snoc_split [] R (x ∷ []) P b e = let z : ◌≡◌ {A = ℕ} 0 1 = cc in absurd (omega arith)
snoc_split [] R (x ∷ y ∷ a) P b e = let z : ◌≡◌ {A = ℕ} 0 1 = cc in absurd (omega arith)
snoc_split (k ∷ K) R [] P b e = let s : P ≡ k = cc in inr (K, ap (λ (x : _). x ∷ K) (sym s))
snoc_split {A} (k ∷ K) R (x ∷ a) P b e =
    let s : x ≡ k = cc in
    let t : K ++ (R ∷ []) ≡ a ++ (P ∷ b) = cc in
    elim (snoc_split K R a P b t) [
      | inl w ↦ inl (ap (λ (l : List A). x ∷ l) w.0 ∙ ap (λ (y : A). y ∷ K) s, w.1)
      | inr w ↦ inr (w.0, ap (λ (l : List A). k ∷ l) w.1 ∙ ap (λ (y : A). y ∷ (a ++ (P ∷ w.0))) (sym s))
    ]

-- the points that came first among those seen
record Came (seen points : List (List ℕ)) : Type 0 where
  same : (P : List ℕ) → Among P points ↔ Among P seen
  order : (a : List (List ℕ)) (P : List ℕ) (b : List (List ℕ)) → points ≡ a ++ (P ∷ b)
      → (c : List (List ℕ)) × (d : List (List ℕ)) × (seen ≡ c ++ (P ∷ d)) × ((Q : List ℕ) → Among Q c ↔ Among Q a)

came_next : (seen : List (List ℕ)) (L : Counted) (R : List ℕ) → Came seen (points_of L) → Came (seen ++ (R ∷ [])) (points_of (entered R L))
came_next seen L R k = go (entering R L)
  where
    K : List (List ℕ)
    K = points_of L

    go : Entering R L → Came (seen ++ (R ∷ [])) (points_of (entered R L))
    go (there w e) = subst (Came (seen ++ (R ∷ []))) (sym e) (record {
      same = λ P. (
        λ q. snoc_in seen R P (inl ((k.same P).0 q)),
        λ q. elim (snoc_of seen R P q) [ inl z ↦ (k.same P).1 z | inr z ↦ subst (λ (X : List ℕ). Among X (points_of L)) (sym z) w ],
      );
      order = λ a P b f. let (c, d, g, h) = k.order a P b f in
          (c, d ++ (R ∷ []), ap (λ (l : List (List ℕ)). l ++ (R ∷ [])) g ∙ append_assoc c (P ∷ d) (R ∷ []), h);
    })
    go (new w e) = subst (Came (seen ++ (R ∷ []))) (sym e) (record {
      same = λ P. (
        λ q. snoc_in seen R P (elim (snoc_of (points_of L) R P q) [ inl z ↦ inl ((k.same P).0 z) | inr z ↦ inr z ]),
        λ q. snoc_in (points_of L) R P (elim (snoc_of seen R P q) [ inl z ↦ inl ((k.same P).1 z) | inr z ↦ inr z ]),
      );
      order = λ a P b f. ordered a P b (snoc_split (points_of L) R a P b f);
    })
      where
        ordered : (a : List (List ℕ)) (P : List ℕ) (b : List (List ℕ)) → ((a ≡ points_of L) × (P ≡ R)) ⊎ ((d : List (List ℕ)) × (points_of L ≡ a ++ (P ∷ d)))
            → (c : List (List ℕ)) × (d : List (List ℕ)) × (seen ++ (R ∷ []) ≡ c ++ (P ∷ d)) × ((Q : List ℕ) → Among Q c ↔ Among Q a)
        ordered a P b (inl (e, f)) = (
          seen,
          [],
          ap (λ (X : List ℕ). seen ++ (X ∷ [])) (sym f),
          λ Q. subst (λ (l : List (List ℕ)). Among Q seen ↔ Among Q l) (sym e) ((k.same Q).1, (k.same Q).0),
        )
        ordered a P b (inr (d, e)) = let (c, x, g, h) = k.order a P d e in
            (c, x ++ (R ∷ []), ap (λ (l : List (List ℕ)). l ++ (R ∷ [])) g ∙ append_assoc c (P ∷ x) (R ∷ []), h)

came_all : (S seen : List (List ℕ)) (L : Counted) → Came seen (points_of L) → Came (seen ++ S) (points_of (entered_all S L))
unfolding entered_all
came_all [] seen L k = subst (λ (l : List (List ℕ)). Came l (points_of L)) (sym (append-nil seen)) k
came_all (R ∷ S) seen L k =
    subst (λ (l : List (List ℕ)). Came l (points_of (entered_all S (entered R L)))) (append_assoc seen (R ∷ []) S)
    (came_all S (seen ++ (R ∷ [])) (entered R L) (came_next seen L R k))

pub gathered_firsts : (S : List (List ℕ)) → Firsts (points_of (gathered S)) S
unfolding gathered
gathered_firsts S =
    let k = came_all S [] [] (record { same = λ P. ((λ q. q), λ q. q); order = λ a P b e. absurd (none a P b e) }) in
    record { same = λ P. among_gathered S P; once = once_gathered S; order = k.order }
  where
    none : (a : List (List ℕ)) (P : List ℕ) (b : List (List ℕ)) → [] ≡ a ++ (P ∷ b) → ⊥
    none [] P b e = let z : ◌≡◌ {A = ℕ} 0 1 = cc in omega arith
    none (x ∷ a) P b e = let z : ◌≡◌ {A = ℕ} 0 1 = cc in omega arith
