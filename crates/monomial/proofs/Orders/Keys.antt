-- Each order is the first difference of a key; keys add up where monomials are multiplied.
use mathlib.Core.Path.{◌≡◌, refl, sym, ap, ◌∙◌}
use mathlib.Core.List.{List, [], ◌∷◌, ◌++◌, drop_last}
use Prim.Native.Nat.{ℕ, ◌+◌, compare, Ordering}
use native.Mathlib.Nat.{add-zero, zero-add, add_assoc}
use native.Mathlib.Omega.{arith}
use lib.ListN.{length}
use Rattle.monomial.specs.Monomial.{degree, product}
use Rattle.monomial.specs.Order.{Order, lex, grlex, grevlex, weighted, and_then, by_first, by_last, cmp}
use Rattle.monomial.specs.Rank.{sums_down, key}
use Rattle.monomial.proofs.Algebra.Products.{Aligned, nil, cons, aligned, degree_product, product_aligned, grow_aligned}
use Rattle.monomial.proofs.Orders.Answers.{Says, less, same, more, says, same_answer, compare_shift, compare_self, compare_eq, then_assoc, then_end, then_cong, gt≢lt, gt≢eq}
use Rattle.monomial.proofs.Orders.Lawful.{first_lawful, last_lawful}
use Rattle.monomial.proofs.Orders.Weights.{weigh_product}

-- keys of one length
snoc_aligned : {a b : List ℕ} (x y : ℕ) → Aligned a b → Aligned (a ++ (x ∷ [])) (b ++ (y ∷ []))
snoc_aligned x y nil = cons nil
snoc_aligned x y (cons e) = cons (snoc_aligned x y e)

sums_aligned : {a b : List ℕ} (c d : ℕ) → Aligned a b → Aligned (sums_down c a) (sums_down d b)
sums_aligned c d nil = nil
sums_aligned c d (cons {x} {y} e) = snoc_aligned (c + x) (d + y) (sums_aligned (c + x) (d + y) e)

front_aligned : {a b : List ℕ} → Aligned a b → Aligned (drop_last a) (drop_last b)
front_aligned nil = nil
front_aligned (cons nil) = nil
front_aligned (cons (cons e)) = cons (front_aligned (cons e))

pub key_aligned : (order : Order) {a b : List ℕ} → Aligned a b → Aligned (key order a) (key order b)
unfolding key
key_aligned lex e = e
key_aligned grlex e = cons (front_aligned e)
key_aligned grevlex e = sums_aligned 0 0 e
key_aligned (weighted w) e = cons e

-- where the degrees agree, the last exponent decides nothing
front_cmp : {a b : List ℕ} → Aligned a b → degree a ≡ degree b → by_first (drop_last a) (drop_last b) ≡ by_first a b
front_cmp nil h = refl
front_cmp (cons {x} {y} nil) h = let e : x ≡ y = omega arith in rw (e, compare_self y)
front_cmp (cons {x} {y} (cons e)) h =
    then_cong (compare x y) _ _ (λ q. let p : x ≡ y = compare_eq x y q in front_cmp (cons e) (omega arith))

-- the sums decide as the degree and the last difference do
snoc_cmp : {a b : List ℕ} (x y : ℕ) → Aligned a b → by_first (a ++ (x ∷ [])) (b ++ (y ∷ [])) ≡ and_then (by_first a b) (compare x y)
snoc_cmp x y nil = then_end (compare x y)
snoc_cmp x y (cons e) = rw (snoc_cmp x y e, then_assoc)

-- of two equal sums, the one with the larger first part has the smaller second
other_part : (c d x y : ℕ) → c + x ≡ d + y → compare c d ≡ compare y x
other_part c d x y e = same_answer y x c d go
  where
    go : (o : Ordering) → Says y x o → Says c d o
    go o (less h) = less (omega arith)
    go o (same h) = same (omega arith)
    go o (more h) = more (omega arith)

sums_cmp : {a b : List ℕ} (c d : ℕ) → Aligned a b →
    and_then (by_first (sums_down c a) (sums_down d b)) (compare c d) ≡ and_then (compare (c + degree a) (d + degree b)) (by_last a b)
sums_cmp c d nil = rw (add-zero c, add-zero d, then_end)
sums_cmp c d (cons {x} {y} {xs} {ys} e) =
    rw (snoc_cmp (c + x) (d + y) (sums_aligned (c + x) (d + y) e), sums_cmp (c + x) (d + y) e, add_assoc c x (degree xs), add_assoc d y (degree ys), then_assoc)
    (then_cong _ _ _ (λ q. then_cong (by_last xs ys) _ _ (λ r. last q (ap degree (last_lawful.eq xs ys r)))))
  where
    last : compare (c + (x + degree xs)) (d + (y + degree ys)) ≡ Ordering.eq → degree xs ≡ degree ys → compare c d ≡ compare y x
    last q r = let s = compare_eq _ _ q in other_part c d x y (omega arith)

pub key_cmp : (order : Order) {a b : List ℕ} → Aligned a b → cmp order a b ≡ by_first (key order a) (key order b)
unfolding cmp key
key_cmp lex e = refl
key_cmp grlex e = then_cong _ _ _ (λ q. sym (front_cmp e (compare_eq _ _ q)))
key_cmp grevlex {a} {b} e = sym (rw (then_end, zero-add (degree a), zero-add (degree b)) at (sums_cmp 0 0 e))
key_cmp (weighted w) e = refl

-- a product's key
front_product : {a b : List ℕ} → Aligned a b → drop_last (product a b) ≡ product (drop_last a) (drop_last b)
front_product nil = refl
front_product (cons nil) = refl
front_product (cons {x} {y} (cons e)) = ap (λ (l : List ℕ). (x + y) ∷ l) (front_product (cons e))

snoc_product : {a b : List ℕ} (x y : ℕ) → Aligned a b → product (a ++ (x ∷ [])) (b ++ (y ∷ [])) ≡ product a b ++ ((x + y) ∷ [])
snoc_product x y nil = refl
snoc_product x y (cons e) = rw (snoc_product x y e)

sums_product : {a b : List ℕ} (c d : ℕ) → Aligned a b → sums_down (c + d) (product a b) ≡ product (sums_down c a) (sums_down d b)
sums_product c d nil = refl
sums_product c d (cons {x} {y} {xs} {ys} e) =
    let h : c + d + (x + y) ≡ (c + x) + (d + y) = omega arith in
    rw (h, sums_product (c + x) (d + y) e) (sym (snoc_product (c + x) (d + y) (sums_aligned (c + x) (d + y) e)))

pub key_product : (order : Order) {a b : List ℕ} → Aligned a b → key order (product a b) ≡ product (key order a) (key order b)
unfolding key
key_product lex e = refl
key_product grlex {a} {b} e = rw (degree_product a b, front_product e)
key_product grevlex e = sums_product 0 0 e
key_product (weighted w) {a} {b} e = rw (weigh_product w a b)

-- a common factor changes no answer
first_shift : {a b : List ℕ} (u : List ℕ) → Aligned a b → by_first (product u a) (product u b) ≡ by_first a b
first_shift [] e = refl
first_shift (z ∷ zs) nil = first_lawful.self (z ∷ zs)
first_shift (z ∷ zs) (cons {x} {y} e) = rw (compare_shift z x y, first_shift zs e)

pub cmp_product : (order : Order) (u a b : List ℕ) → length u ≡ length a → length u ≡ length b → cmp order (product u a) (product u b) ≡ cmp order a b
cmp_product order u a b p q =
    let e : Aligned a b = aligned a b (sym p ∙ q) in
    rw (key_cmp order (product_aligned u e), key_cmp order e, key_product order (aligned u a p), key_product order (aligned u b q))
    (first_shift (key order u) (key_aligned order e))

-- a factor makes nothing smaller
first_grow : {u a : List ℕ} → Aligned u a → by_first a (product u a) ≡ Ordering.gt → ⊥
first_grow nil h = gt≢eq (sym h)
first_grow (cons {x} {y} {xs} {ys} e) h = go (first_grow e) (says y (x + y)) h
  where
    go : (by_first ys (product xs ys) ≡ Ordering.gt → ⊥) → {o : Ordering} → Says y (x + y) o → and_then o (by_first ys (product xs ys)) ≡ Ordering.gt → ⊥
    go ih (less l) h = gt≢lt (sym h)
    go ih (same l) h = ih h
    go ih (more l) h = omega arith

pub cmp_grow : (order : Order) {u a : List ℕ} → Aligned u a → cmp order a (product u a) ≡ Ordering.gt → ⊥
cmp_grow order e h = first_grow (key_aligned order e) (rw (← key_product order e, ← key_cmp order (grow_aligned e)) h)
