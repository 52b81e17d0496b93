-- Arrays: where the items are read exactly, so is an array of them.
use mathlib.Core.Path.{◌≡◌, refl, sym, ◌∙◌, ap, ap₂, subst}
use mathlib.Core.Bool.{Bool, true, false, cond}
use mathlib.Core.List.{List, [], ◌∷◌, ◌++◌, map, append_assoc}
use mathlib.Core.Logic.{◌⊎◌, inl, inr}
use Prim.Native.Nat.{ℕ, zero, suc, ◌≤◌, ◌<◌}
use native.Mathlib.Nat.{not-suc-le-zero}
use native.Mathlib.Omega.{arith}
use lib.ListN.{length, length-append, length-map}
use lib.Dec.{eqb}
use borrow.Author.Tests.{eqb-true}
use Rattle.residue.specs.Lists.{every}
use Rattle.notation.specs.Digits.{is_digit}
use Rattle.notation.specs.Fields.{part, faulty, with_first}
use Rattle.json_text.specs.Writing.{separated, array}
use Rattle.json_text.specs.Reading.{Reader, after, exactly, behind_item, read_items, read_opened, read_array}
use Rattle.json_text.proofs.Digits.{both}
use Rattle.json_text.proofs.ItemBehind.{behind_of}
use Rattle.json_text.proofs.Readers.{Exact, not_faulty, same_part, after_of, exactly_only}

-- each comma is a byte
separated_length : (x : List ℕ) (l : List (List ℕ)) → length l ≤ length (separated (x ∷ l))
unfolding separated
separated_length x [] = omega arith
separated_length x (y ∷ l) = omega (arith, length-append x (44 ∷ separated (y ∷ l)), separated_length y l)

module _ {A : Type 0} (write : A → List ℕ) (fine : A → Bool) (r : Reader A) (ex : Exact write fine r) where
  abbrev text : List A → List ℕ
  text l = separated (map write l)

  items_taken : (turns : ℕ) (a : A) (l : List A) (rest : List ℕ) → every fine (a ∷ l) ≡ true → length l < turns → read_items r turns (text (a ∷ l) ++ (93 ∷ rest)) ≡ part (a ∷ l) rest
  unfolding read_items separated behind_item after with_first is_digit
  items_taken zero a l rest f h = absurd (not-suc-le-zero h)
  items_taken (suc turns) a [] rest f h = rw (ex.takes a (93 ∷ rest) (both {a = fine a} {b = true} f).0 refl)
  items_taken (suc turns) a (b ∷ l) rest f h =
      let g = both {a = fine a} {b = every fine (b ∷ l)} f in
      rw (append_assoc (write a) (44 ∷ text (b ∷ l)) (93 ∷ rest), ex.takes a (44 ∷ (text (b ∷ l) ++ (93 ∷ rest))) g.0 refl)
      (rw (items_taken turns b l rest g.1 (omega arith)))

  items_only : (turns : ℕ) (t : List ℕ) (l : List A) (rest : List ℕ) → read_items r turns t ≡ part l rest
      → (a : A) × (k : List A) × (l ≡ a ∷ k) × (t ≡ text (a ∷ k) ++ (93 ∷ rest)) × (every fine (a ∷ k) ≡ true)
  unfolding read_items separated
  items_only zero t l rest e = not_faulty e
  items_only (suc turns) t l rest e =
      let p = after_of (r t) (λ a. behind_item a (read_items r turns)) l rest e in
      let q = ex.only t p.0 p.1 p.2 in
      go p.0 p.1 q (behind_of p.0 (read_items r turns) p.1 l rest p.3) (λ u k f. items_only turns u k rest f)
    where
      go : (a : A) (mid : List ℕ) → (t ≡ write a ++ mid) × (fine a ≡ true)
          → ((mid ≡ 93 ∷ rest) × (l ≡ a ∷ [])) ⊎ ((u : List ℕ) × (k : List A) × (mid ≡ 44 ∷ u) × (read_items r turns u ≡ part k rest) × (l ≡ a ∷ k))
          → ((u : List ℕ) (k : List A) → read_items r turns u ≡ part k rest → (b : A) × (m : List A) × (k ≡ b ∷ m) × (u ≡ text (b ∷ m) ++ (93 ∷ rest)) × (every fine (b ∷ m) ≡ true))
          → (b : A) × (k : List A) × (l ≡ b ∷ k) × (t ≡ text (b ∷ k) ++ (93 ∷ rest)) × (every fine (b ∷ k) ≡ true)
      go a mid q (inl w) rec = (a, [], w.1, q.0 ∙ ap (λ (z : List ℕ). write a ++ z) w.0, rw q.1)
      go a mid q (inr w) rec =
          let i = rec w.0 w.1 w.3 in (
            a,
            i.0 ∷ i.1,
            w.4 ∙ ap (λ (z : List A). a ∷ z) i.2,
            q.0 ∙ ap (λ (z : List ℕ). write a ++ z) (w.2 ∙ ap (λ (z : List ℕ). 44 ∷ z) i.3) ∙ sym (append_assoc (write a) (44 ∷ text (i.0 ∷ i.1)) (93 ∷ rest)),
            rw q.1 i.4,
          )

  -- no item begins with a closing bracket
  items_shut : (turns : ℕ) (t : List ℕ) → read_items r (suc turns) (93 ∷ t) ≡ faulty
  unfolding read_items after
  items_shut turns t = rw (ex.shut t)

  -- behind the opening bracket
  opened_items : (t : List ℕ) (a : A) (l : List A) (rest : List ℕ) → text (a ∷ l) ++ (93 ∷ rest) ≡ t → every fine (a ∷ l) ≡ true → length l < length t → read_opened r t ≡ part (a ∷ l) rest
  unfolding read_opened
  opened_items [] a l rest e f h = absurd (not-suc-le-zero h)
  opened_items (b ∷ t) a l rest e f h = go (eqb b 93) refl
    where
      items : read_items r (suc (length t)) (b ∷ t) ≡ part (a ∷ l) rest
      items = rw (sym e) (items_taken (suc (length t)) a l rest f h)

      go : (x : Bool) → eqb b 93 ≡ x → cond x (part [] t) (read_items r (suc (length t)) (b ∷ t)) ≡ part (a ∷ l) rest
      go true g = not_faulty (sym (ap (λ (k : ℕ). read_items r (suc (length t)) (k ∷ t)) (eqb-true b 93 g) ∙ items_shut (length t) t) ∙ items)
      go false g = items

  opened_taken : (l : List A) (rest : List ℕ) → every fine l ≡ true → read_opened r (text l ++ (93 ∷ rest)) ≡ part l rest
  unfolding read_opened separated
  opened_taken [] rest f = refl
  opened_taken (a ∷ l) rest f =
      opened_items (text (a ∷ l) ++ (93 ∷ rest)) a l rest refl f (omega (arith, separated_length (write a) (map write l), length-append (text (a ∷ l)) (93 ∷ rest), length-map l write))

  opened_only : (t : List ℕ) (l : List A) (rest : List ℕ) → read_opened r t ≡ part l rest → (t ≡ text l ++ (93 ∷ rest)) × (every fine l ≡ true)
  unfolding read_opened separated
  opened_only [] l rest e = not_faulty e
  opened_only (b ∷ t) l rest e = go (eqb b 93) refl e
    where
      go : (x : Bool) → eqb b 93 ≡ x → cond x (part [] t) (read_items r (suc (length t)) (b ∷ t)) ≡ part l rest → (b ∷ t ≡ text l ++ (93 ∷ rest)) × (every fine l ≡ true)
      go true f g =
          let q = same_part g in
          subst (λ (k : List A). (b ∷ t ≡ text k ++ (93 ∷ rest)) × (every fine k ≡ true)) q.0 (ap₂ (λ (k : ℕ) (m : List ℕ). k ∷ m) (eqb-true b 93 f) q.1, refl)
      go false f g =
          let q = items_only (suc (length t)) (b ∷ t) l rest g in
          subst (λ (k : List A). (b ∷ t ≡ text k ++ (93 ∷ rest)) × (every fine k ≡ true)) (sym q.2) (q.3, q.4)

  pub array_exact : Exact (λ l. array (map write l)) (every fine) (read_array r)
  unfolding array read_array after exactly
  array_exact = record {
    takes = λ l rest f s. ap (read_opened r) (append_assoc (text l) (93 ∷ []) rest) ∙ opened_taken l rest f;
    only = λ t l rest e.
        let p = after_of (exactly (91 ∷ []) t) (λ a. read_opened r) l rest e in
        let q = opened_only p.1 l rest p.3 in
        (exactly_only (91 ∷ []) t p.0 p.1 p.2 ∙ ap (λ (z : List ℕ). 91 ∷ z) (q.0 ∙ sym (append_assoc (text l) (93 ∷ []) rest)), q.1);
    shut = λ l. refl;
  }
