-- Laws of the weights in the header's last field: one of them by its place, and all of them, the first eight kept.
use mathlib.Core.Path.{◌≡◌, refl, sym, ap, ap₂, ◌∙◌, subst}
use mathlib.Core.Bool.{Bool, true, false, cond}
use mathlib.Core.List.{List, [], ◌∷◌, ◌++◌, append-nil}
use mathlib.Core.Option.{Option, some, none, map}
use Prim.Native.Nat.{ℕ, zero, suc, ◌+◌, ◌-◌, ◌<◌, ◌≤◌}
use native.Mathlib.Numerals.{add-one}
use native.Mathlib.Omega.{arith}
use lib.ListN.{length, get_or, take, drop, set, replicate, length-drop, length-append, drop_of_length-le}
use lib.Seq.{drop-cons, drop-drop, drop-length, append_snoc}
use lib.Dec.{leb}
use borrow.Author.Tests.{eq-eqb, ne_eqb, le-leb, lt-leb}
use Rattle.residue.specs.Layout.{fill}
use Rattle.residue.proofs.Layouts.{fill_zeros}
use Rattle.notation.specs.Digits.{is_digit, decimal_number}
use Rattle.std.specs.Prelude.{Option as Answer, Some, None}
use Rattle.notation.specs.Fields.{front, part, faulty, kept}
use Rattle.notation.specs.Forms.{weight_of, weight_first, behind_weight, weights_of, Ordered, weighted}
use Rattle.notation.specs.FormGrammar.{IsNumber, one, two, three}
use Rattle.notation.specs.Said.{leading_said, LeadingRead}
use Rattle.notation.specs.declared.digits.Leading.{Leading}
use Rattle.notation.proofs.digits.LeadingDigits.{digits, digits_count}
use Rattle.notation.proofs.fields.FieldSpans.{front_le, all_behind}
use Rattle.notation.proofs.Grammar.LevelForm.{number_found}

-- two digits write at most 99
pub number_small : {l : List ℕ} {n : ℕ} → IsNumber l n → length l ≤ 2 → n ≤ 99
number_small (one h) k = omega arith
number_small (two h i) k = omega arith
number_small (three h i j) k = absurd (omega arith)

-- a weight at a place of a content
module _ (t : List ℕ) (at : ℕ) where
  pub first_end : at ≡ length t → faulty ≡ weight_first (drop at t)
  unfolding weight_first
  first_end e = sym (ap weight_first (ap (λ (k : ℕ). drop k t) e ∙ drop-length t))

  module _ (h : at < length t) where
    pub first_other : (get_or t at 0 ≡ 32 → ⊥) → faulty ≡ weight_first (drop at t)
    unfolding weight_first
    first_other n = rw (drop-cons t at 0 h, ne_eqb (get_or t at 0) 32 n)

    -- behind the space
    abbrev pub behind : List ℕ
    behind = drop (at + 1) t

    -- the same as it is lent
    abbrev pub lent : List ℕ
    lent = let rest = take (length t - at) (drop at t) in take (length rest - 1) (drop 1 rest)

    pub read_behind : {r : Answer Leading} → LeadingRead lent r → LeadingRead behind r
    read_behind {r = r} d = subst (λ (l : List ℕ). LeadingRead l r) (all_behind _ 1 ∙ ap (drop 1) (all_behind t at) ∙ drop-drop 1 at t) d

    module _ (e : get_or t at 0 ≡ 32) where
      first_space : kept (weight_of (digits behind)) (drop (front is_digit behind) behind) ≡ weight_first (drop at t)
      unfolding weight_first
      first_space = rw (add-one at, drop-cons t at 0 h, eq-eqb (get_or t at 0) 32 e)

      no_weight : weight_of (digits behind) ≡ none → faulty ≡ weight_first (drop at t)
      unfolding kept
      no_weight n = ap (λ (o : Option ℕ). kept o (drop (front is_digit behind) behind)) (sym n) ∙ first_space

      pub first_none : LeadingRead behind None → faulty ≡ weight_first (drop at t)
      unfolding weight_of leading_said
      first_none d = no_weight (pick (leb (length (digits behind)) 2))
        where
          pick : (x : Bool) → cond x (decimal_number (digits behind)) none ≡ none
          pick true = sym d.said
          pick false = refl

      module _ (n : Leading) (d : LeadingRead behind (Some n)) where
        pub first_long : 2 < n.count → faulty ≡ weight_first (drop at t)
        unfolding weight_of
        first_long l = no_weight (simp (lt-leb (length (digits behind)) 2 (omega (arith, digits_count behind, d.ends))))

        pub first_within : at + 1 + n.count ≤ length t
        first_within = omega (arith, d.ends, front_le is_digit behind, length-drop (at + 1) t)

        module _ (s : n.count ≤ 2) where
          pub first_small : n.size ≤ 99
          unfolding leading_said
          first_small = number_small (number_found (digits behind) n.size (sym d.said)) (omega (arith, digits_count behind, d.ends))

          pub first_read : part n.size (drop (at + 1 + n.count) t) ≡ weight_first (drop at t)
          unfolding weight_of kept leading_said
          first_read = ap₂ kept f g ∙ first_space
            where
              f : some n.size ≡ weight_of (digits behind)
              f = d.said ∙ sym (simp (le-leb (length (digits behind)) 2 (omega (arith, digits_count behind, d.ends))))

              g : drop (at + 1 + n.count) t ≡ drop (front is_digit behind) behind
              g = sym (drop-drop n.count (at + 1) t) ∙ ap (λ (k : ℕ). drop k behind) d.ends

-- weights kept from a place on, one after the other
unfoldable pub put : ℕ → List ℕ → List ℕ → List ℕ
put i l [] = l
put i l (w ∷ ws) = put (i + 1) (set l i w) ws

fill_set : (k : ℕ) (l : List ℕ) (w : ℕ) → set (fill k l) (length l) w ≡ fill k (l ++ (w ∷ []))
unfolding fill
fill_set zero l w = refl
fill_set (suc k) [] w = refl
fill_set (suc k) (a ∷ l) w = ap (λ (r : List ℕ). a ∷ r) (fill_set k l w)

put_fill : (ws l : List ℕ) → put (length l) (fill 8 l) ws ≡ fill 8 (l ++ ws)
unfolding put
put_fill [] l = ap (fill 8) (sym (append-nil l))
put_fill (w ∷ ws) l =
    ap₂ (λ (i : ℕ) (r : List ℕ). put i r ws) (sym (length-append l (w ∷ []))) (fill_set 8 l w)
    ∙ put_fill ws (l ++ (w ∷ [])) ∙ ap (fill 8) (append_snoc l w ws)

-- what is kept where weights are read, behind those so far
unfoldable pub keeps : ℕ → List ℕ → Option (List ℕ) → Option Ordered
keeps i l o = map (λ ws. (3, put i l ws)) o

pub keeps_all : (l : List ℕ) (o : Option (List ℕ)) → l ≡ replicate 8 0 → keeps 0 l o ≡ map weighted o
unfolding keeps
keeps_all l none e = refl
keeps_all l (some ws) e = ap (λ (r : List ℕ). some (3, r)) (ap (λ (r : List ℕ). put 0 r ws) (e ∙ sym (fill_zeros 8)) ∙ put_fill ws [])

-- one of them, none, and no more
module _ (t l : List ℕ) (at i n : ℕ) (h : i < n) where
  turned : weights_of (n - i) (drop at t) ≡ behind_weight (weights_of (n - (i + 1))) (weight_first (drop at t))
  unfolding weights_of
  turned = let e : n - i ≡ suc (n - (i + 1)) = omega arith in ap (λ (k : ℕ). weights_of k (drop at t)) e

  pub keeps_broken : faulty ≡ weight_first (drop at t) → none ≡ keeps i l (weights_of (n - i) (drop at t))
  unfolding keeps behind_weight
  keeps_broken e = sym (ap (keeps i l) (turned ∙ ap (behind_weight (weights_of (n - (i + 1)))) (sym e)))

  pub keeps_more : (w : ℕ) (rest : List ℕ) → part w rest ≡ weight_first (drop at t)
      → keeps (i + 1) (set l i w) (weights_of (n - (i + 1)) rest) ≡ keeps i l (weights_of (n - i) (drop at t))
  unfolding behind_weight keeps put
  keeps_more w rest e = more (weights_of (n - (i + 1)) rest) ∙ sym (ap (keeps i l) (turned ∙ ap (behind_weight (weights_of (n - (i + 1)))) (sym e)))
    where
      more : (o : Option (List ℕ)) → keeps (i + 1) (set l i w) o ≡ keeps i l (map (λ ws. w ∷ ws) o)
      more none = refl
      more (some ws) = refl

module _ (t l : List ℕ) (at i n : ℕ) (e : i ≡ n) where
  pub keeps_rest : at < length t → none ≡ keeps i l (weights_of (n - i) (drop at t))
  unfolding keeps weights_of
  keeps_rest h = let z : n - i ≡ 0 = omega arith in rw (z, drop-cons t at 0 h)

  pub keeps_done : length t ≤ at → some (3, l) ≡ keeps i l (weights_of (n - i) (drop at t))
  unfolding keeps weights_of put
  keeps_done h = let z : n - i ≡ 0 = omega arith in rw (z, drop_of_length-le t {i = at} h)
