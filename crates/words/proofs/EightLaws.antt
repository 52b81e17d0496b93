-- Columns of up to eight points side by side in the bytes of a word, the first variable's in the highest.
use mathlib.Core.Path.{◌≡◌, refl, sym, ap, ap₂, ◌∙◌, subst}
use mathlib.Core.List.{List}
use mathlib.Core.Logic.{◌≢◌}
use Prim.Native.Nat.{ℕ, zero, suc, ◌+◌, ◌*◌, ◌-◌, ◌/◌, ◌%◌, ◌^◌, ◌<◌, ◌≤◌}
use native.Mathlib.Nat.{pow-succ', lt_of_lt_of_le}
use native.Mathlib.Omega.{arith}
use native.Mathlib.Decide.{ℕ_discrete}
use lib.ListN.{length, get_or, set, take, drop, replicate, length-set}
use lib.Pow.{pow_mono}
use lib.Seq.{get_or-set_same, get_or-set_other, get_or-take, get_or-drop}
use Rattle.residue.specs.Lists.{key_of}
use Rattle.residue.specs.Vector.{Below}
use Rattle.residue.specs.Words.{bytes_of}
use Rattle.words.specs.ByteColumns.{Pushed, VariableColumns}
use Rattle.residue.proofs.Layouts.{zeros_at}
use Rattle.words.proofs.VariableLaws.{behind, behind_none, behind_small, behind_more, behind_all}

-- twice a word and another: no byte is carried to the next
pub doubled : (n a b : ℕ) → ((i : ℕ) → i < n → get_or (bytes_of n a) i 0 < 128) → ((i : ℕ) → i < n → get_or (bytes_of n b) i 0 < 2) → (i : ℕ) → i < n
    → get_or (bytes_of n (2 * a + b)) i 0 ≡ 2 * get_or (bytes_of n a) i 0 + get_or (bytes_of n b) i 0
unfolding bytes_of
doubled zero a b h g i u = absurd (omega arith)
doubled (suc n) a b h g zero u = first (h 0 u) (g 0 u)
  where
    first : a % 256 < 128 → b % 256 < 2 → (2 * a + b) % 256 ≡ 2 * (a % 256) + b % 256
    first x y = omega arith
doubled (suc n) a b h g (suc i) u =
    ap (λ (x : ℕ). get_or (bytes_of n x) i 0) (next (h 0 (omega arith)) (g 0 (omega arith)))
    ∙ doubled n (a / 256) (b / 256) (λ j v. h (suc j) (omega arith)) (λ j v. g (suc j) (omega arith)) i (omega arith)
  where
    next : a % 256 < 128 → b % 256 < 2 → (2 * a + b) / 256 ≡ 2 * (a / 256) + b / 256
    next x y = omega arith

-- and it is a word again
unfoldable pub cap : ℕ → ℕ
cap zero = 1
cap (suc n) = 256 * cap n

room : (n a b : ℕ) → a < cap n → b < cap n → ((i : ℕ) → i < n → get_or (bytes_of n a) i 0 < 128) → ((i : ℕ) → i < n → get_or (bytes_of n b) i 0 < 2)
    → 2 * a + b < cap n
unfolding bytes_of cap
room zero a b x y h g = omega arith
room (suc n) a b x y h g = fits (h 0 (omega arith)) (g 0 (omega arith))
    (room n (a / 256) (b / 256) (omega arith) (omega arith) (λ i u. h (suc i) (omega arith)) (λ i u. g (suc i) (omega arith)))
  where
    fits : a % 256 < 128 → b % 256 < 2 → 2 * (a / 256) + b / 256 < cap n → 2 * a + b < 256 * cap n
    fits u v w = omega arith

cap_eight : cap 8 ≡ 2 ^ 64
unfolding cap
cap_eight = refl

-- the bytes of a key, and of 0
key_bytes : (n : ℕ) (l : List ℕ) → ((i : ℕ) → i < n → get_or l i 0 < 256) → (i k : ℕ) → i + k + 1 ≡ n → get_or (bytes_of n (key_of n l)) i 0 ≡ get_or l k 0
unfolding bytes_of key_of
key_bytes zero l h i k e = absurd (omega arith)
key_bytes (suc n) l h zero k e = low (key_of n l) (get_or l n 0) (h n (omega arith)) ∙ ap (λ (x : ℕ). get_or l x 0) here
  where
    low : (x d : ℕ) → d < 256 → (256 * x + d) % 256 ≡ d
    low x d u = omega arith

    here : n ≡ k
    here = omega arith
key_bytes (suc n) l h (suc i) k e = ap (λ (x : ℕ). get_or (bytes_of n x) i 0) (high (key_of n l) (get_or l n 0) (h n (omega arith)))
    ∙ key_bytes n l (λ j u. h j (omega arith)) i k (omega arith)
  where
    high : (x d : ℕ) → d < 256 → (256 * x + d) / 256 ≡ x
    high x d u = omega arith

zero_bytes : (n i : ℕ) → ◌≡◌ {A = ℕ} (get_or (bytes_of n 0) i 0) 0
unfolding bytes_of
zero_bytes zero i = refl
zero_bytes (suc n) zero = refl
zero_bytes (suc n) (suc i) = zero_bytes n i

-- The loop of `push_eight`: j bytes have been put in front, and the others are left.
pub record Fronted (j eight rest : ℕ) (columns columns' : List ℕ) : Type 0 where
  pub long : length columns' ≡ length columns
  pub left : (i : ℕ) → get_or (bytes_of (8 - j) rest) i 0 ≡ get_or (bytes_of 8 eight) (j + i) 0
  pub done : (k : ℕ) → k < 8 → 8 ≤ k + j → get_or columns' k 0 ≡ get_or columns k 0 * 256 + get_or (bytes_of 8 eight) (7 - k) 0
  pub ahead : (k : ℕ) → k + j < 8 → get_or columns' k 0 ≡ get_or columns k 0

module _ (eight : ℕ) (columns : List ℕ) where
  pub fronted_none : Fronted 0 eight eight columns columns
  fronted_none = record {
    long = refl;
    left = λ i. let z : 0 + i ≡ i = omega arith in ap (λ (x : ℕ). get_or (bytes_of 8 eight) x 0) (sym z);
    done = λ k u v. absurd (omega arith);
    ahead = λ k u. refl;
  }

  module _ (j rest : ℕ) (columns' : List ℕ) (few : j < 8) (F : Fronted j eight rest columns columns') (k : ℕ) (at : k ≡ 7 - j)
      (in_columns : k < length columns') where
    split : (w : ℕ) → 8 - j ≡ suc w → (rest % 256 ≡ get_or (bytes_of 8 eight) (j + 0) 0) ×
        ((i : ℕ) → get_or (bytes_of w (rest / 256)) i 0 ≡ get_or (bytes_of 8 eight) (j + suc i) 0)
    unfolding bytes_of
    split w e = (sym (ap (λ (x : ℕ). get_or (bytes_of x rest) 0 0) e) ∙ F.left 0, λ i. sym (ap (λ (x : ℕ). get_or (bytes_of x rest) (suc i) 0) e) ∙ F.left (suc i))

    own : rest % 256 ≡ get_or (bytes_of 8 eight) (7 - k) 0
    own = let z : j + 0 ≡ 7 - k = omega arith in (split (7 - j) (omega arith)).0 ∙ ap (λ (x : ℕ). get_or (bytes_of 8 eight) x 0) z

    pub fronted_more : Fronted (j + 1) eight (rest / 256) columns (set columns' k (get_or columns' k 0 * 256 + rest % 256))
    fronted_more = record {
      long = length-set columns' k _ ∙ F.long;
      left = λ i. let z : 8 - (j + 1) ≡ 7 - j = omega arith in let y : j + suc i ≡ j + 1 + i = omega arith in
          ap (λ (x : ℕ). get_or (bytes_of x (rest / 256)) i 0) z ∙ (split (7 - j) (omega arith)).1 i ∙ ap (λ (x : ℕ). get_or (bytes_of 8 eight) x 0) y;
      done = λ l u v. go l u v (ℕ_discrete l k);
      ahead = λ l u. get_or-set_other columns' k l _ 0 (λ z. omega arith) ∙ F.ahead l (omega arith);
    }
      where
        go : (l : ℕ) → l < 8 → 8 ≤ l + (j + 1) → Dec (l ≡ k)
            → get_or (set columns' k (get_or columns' k 0 * 256 + rest % 256)) l 0 ≡ get_or columns l 0 * 256 + get_or (bytes_of 8 eight) (7 - l) 0
        go l u v (no n) = get_or-set_other columns' k l _ 0 n ∙ F.done l u (omega arith)
        go l u v (yes e) =
            ap (λ (x : ℕ). get_or (set columns' k (get_or columns' k 0 * 256 + rest % 256)) x 0) e
            ∙ get_or-set_same columns' k (get_or columns' k 0 * 256 + rest % 256) 0 in_columns
            ∙ ap₂ (λ (x y : ℕ). x * 256 + y) (F.ahead k (omega arith)) own
            ∙ ap (λ (x : ℕ). get_or columns x 0 * 256 + get_or (bytes_of 8 eight) (7 - x) 0) (sym e)

  pub fronted_all : (j rest : ℕ) (columns' : List ℕ) → j ≡ 8 → Fronted j eight rest columns columns' → Pushed eight columns columns'
  fronted_all j rest columns' e F = record { long = F.long; each = λ k u. F.done k u (omega arith) }

-- The loop of `put_variables`: the points behind the last full eight are in the bytes of a word, which have room for e of them.
module _ (n : ℕ) (points : List ℕ) where
  pub record Gathered (j eight : ℕ) (columns : List ℕ) : Type 0 where
    pub long : length columns ≡ 8
    pub small : eight < 2 ^ 64
    pub e : ℕ
    pub few : e < 8
    pub stands : (n - j + e) % 8 ≡ 0
    pub lane : (k : ℕ) → k < 8 → get_or (bytes_of 8 eight) (7 - k) 0 < 2 ^ e
    pub is : (k : ℕ) → k < 8 → get_or columns k 0 * 2 ^ e + get_or (bytes_of 8 eight) (7 - k) 0 ≡ behind n points j k

  pub gathered_same : {j eight eight' : ℕ} {columns columns' : List ℕ} → eight' ≡ eight → columns' ≡ columns → Gathered j eight columns
      → Gathered j eight' columns'
  gathered_same {j} {eight} {eight'} {columns} {columns'} e f G = subst (λ (x : ℕ). Gathered j x columns') (sym e) (subst (Gathered j eight) (sym f) G)

  pub gathered_none : (columns : List ℕ) → columns ≡ replicate 8 0 → Gathered 0 0 columns
  gathered_none columns c = record {
    long = ap length c;
    small = omega arith;
    e = 7 * n % 8;
    few = omega arith;
    stands = omega arith;
    lane = λ k u. subst (λ (x : ℕ). x < 2 ^ (7 * n % 8)) (sym (zero_bytes 8 (7 - k))) (pow_mono {i = 0} {j = 7 * n % 8} (omega arith));
    is = λ k u. start (get_or columns k 0) (get_or (bytes_of 8 0) (7 - k) 0) (2 ^ (7 * n % 8)) (ap (λ (l : List ℕ). get_or l k 0) c ∙ zeros_at 8 k)
        (zero_bytes 8 (7 - k))
        ∙ behind_none n points columns c k;
  }
    where
      none : (p : ℕ) → 0 * p + 0 ≡ 0
      none p = omega arith

      start : (x y p : ℕ) → x ≡ 0 → y ≡ 0 → x * p + y ≡ x
      start x y p a b = ap₂ (λ (u v : ℕ). u * p + v) a b ∙ none p ∙ sym a

  -- what a point more does
  pub record Turn (j eight : ℕ) (columns : List ℕ) (i key : ℕ) : Type 0 where
    pub fits : 2 * eight + key < 2 ^ 64
    pub more : i % 8 ≢ 0 → Gathered (j + 1) (2 * eight + key) columns
    pub room : i % 8 ≡ 0 → (k : ℕ) → k < 8 → get_or columns k 0 < 2 ^ 56
    pub pushed : i % 8 ≡ 0 → (columns' : List ℕ) → Pushed (2 * eight + key) columns columns' → Gathered (j + 1) 0 columns'

  module _ (j eight : ℕ) (columns : List ℕ) (G : Gathered j eight columns) (i w key : ℕ) (h : j < n) (most : n ≤ 64) (at : i ≡ n - 1 - j) (wide : w ≡ 8)
      (long : length points ≡ 512) (bits : Below 2 points) (is_key : key ≡ key_of 8 (take w (drop (8 * i) points))) (fits : key < 2 ^ 64) where
    abbrev part : List ℕ
    part = take w (drop (8 * i) points)

    part_bit : (k : ℕ) → k < 8 → get_or part k 0 < 2
    part_bit k u = subst (λ (x : ℕ). x < 2) (sym (get_or-take w (drop (8 * i) points) k 0 (omega arith) ∙ get_or-drop (8 * i) points k 0))
        (bits (8 * i + k) (omega arith))

    key_at : (k l : ℕ) → k + l + 1 ≡ 8 → get_or (bytes_of 8 key) k 0 ≡ get_or part l 0
    key_at k l e = ap (λ (x : ℕ). get_or (bytes_of 8 x) k 0) is_key ∙ key_bytes 8 part (λ x u. omega (arith, part_bit x u)) k l e

    low : (k : ℕ) → k < 8 → get_or (bytes_of 8 eight) k 0 < 128
    low k u = let z : 7 - (7 - k) ≡ k = omega arith in
        subst (λ (x : ℕ). get_or (bytes_of 8 eight) x 0 < 128) z
        (lt_of_lt_of_le (G.lane (7 - k) (omega arith)) (pow_mono {i = G.e} {j = 7} (omega (arith, G.few))))

    bit : (k : ℕ) → k < 8 → get_or (bytes_of 8 key) k 0 < 2
    bit k u = subst (λ (x : ℕ). x < 2) (sym (key_at k (7 - k) (omega arith))) (part_bit (7 - k) (omega arith))

    sum_fits : 2 * eight + key < 2 ^ 64
    sum_fits = subst (λ (x : ℕ). 2 * eight + key < x) cap_eight
        (room 8 eight key (subst (λ (x : ℕ). eight < x) (sym cap_eight) G.small) (subst (λ (x : ℕ). key < x) (sym cap_eight) fits) low bit)

    lane_next : (k : ℕ) → k < 8 → get_or (bytes_of 8 (2 * eight + key)) (7 - k) 0 ≡ 2 * get_or (bytes_of 8 eight) (7 - k) 0 + get_or part k 0
    lane_next k u = doubled 8 eight key low bit (7 - k) (omega arith) ∙ ap (λ (x : ℕ). 2 * get_or (bytes_of 8 eight) (7 - k) 0 + x)
        (key_at (7 - k) k (omega arith))

    next_is : (k : ℕ) → k < 8 → get_or columns k 0 * 2 ^ suc G.e + get_or (bytes_of 8 (2 * eight + key)) (7 - k) 0 ≡ behind n points (j + 1) k
    next_is k u = ap (λ (x : ℕ). get_or columns k 0 * x + get_or (bytes_of 8 (2 * eight + key)) (7 - k) 0) (pow-succ' 2 G.e)
        ∙ twice (get_or columns k 0) (2 ^ G.e) _ _ (get_or part k 0) (behind n points j k) (G.is k u) (lane_next k u) (part_bit k u)
        ∙ sym (behind_more n points j k i w h at wide)
      where
        twice : (c p l l' b B : ℕ) → c * p + l ≡ B → l' ≡ 2 * l + b → b < 2 → c * (2 * p) + l' ≡ B * 2 + b % 2
        twice c p l l' b B x y z = omega arith

    gathered_more : i % 8 ≢ 0 → Gathered (j + 1) (2 * eight + key) columns
    gathered_more z = record {
      long = G.long;
      small = sum_fits;
      e = suc G.e;
      few = omega (arith, G.few, G.stands, z, at, h);
      stands = omega (arith, G.stands, h);
      lane = λ k u. more _ _ _ _ _ (lane_next k u) (G.lane k u) (part_bit k u) (pow-succ' 2 G.e);
      is = next_is;
    }
      where
        more : (l l' b p P : ℕ) → l' ≡ 2 * l + b → l < p → b < 2 → P ≡ 2 * p → l' < P
        more l l' b p P x y t s = omega arith

    module _ (z : i % 8 ≡ 0) where
      seven : G.e ≡ 7
      seven = omega (arith, G.few, G.stands, z, at, h)

      push_fits : (k : ℕ) → k < 8 → get_or columns k 0 < 2 ^ 56
      push_fits k u = high _ _ _ (subst (λ (x : ℕ). get_or columns k 0 * 2 ^ x + get_or (bytes_of 8 eight) (7 - k) 0 ≡ behind n points j k) seven (G.is k u))
          (behind_small n points j k h most)
        where
          high : (c l B : ℕ) → c * 2 ^ 7 + l ≡ B → B < 2 ^ 63 → c < 2 ^ 56
          high c l B x y = omega arith

      gathered_pushed : (columns' : List ℕ) → Pushed (2 * eight + key) columns columns' → Gathered (j + 1) 0 columns'
      gathered_pushed columns' p = record {
        long = p.long ∙ G.long;
        small = omega arith;
        e = 0;
        few = omega arith;
        stands = omega (arith, z, at, h);
        lane = λ k u. subst (λ (x : ℕ). x < 2 ^ 0) (sym (zero_bytes 8 (7 - k))) (omega arith);
        is = λ k u. all _ _ _ _ _ (p.each k u)
            (subst (λ (x : ℕ). get_or columns k 0 * 2 ^ suc x + get_or (bytes_of 8 (2 * eight + key)) (7 - k) 0 ≡ behind n points (j + 1) k) seven (next_is k u))
            (zero_bytes 8 (7 - k));
      }
        where
          all : (c c' l o B : ℕ) → c' ≡ c * 256 + l → c * 2 ^ 8 + l ≡ B → o ≡ 0 → c' * 2 ^ 0 + o ≡ B
          all c c' l o B x y v = omega arith

    pub turn : Turn j eight columns i key
    turn = record { fits = sum_fits; more = gathered_more; room = push_fits; pushed = gathered_pushed }

  pub gathered_all : (j eight : ℕ) (columns : List ℕ) → j ≡ n → Gathered j eight columns → VariableColumns n points columns
  gathered_all j eight columns d G = record {
    long = G.long;
    each = λ k u. one _ _ _ (subst (λ (x : ℕ). get_or columns k 0 * 2 ^ x + get_or (bytes_of 8 eight) (7 - k) 0 ≡ behind n points j k) none (G.is k u))
        (subst (λ (x : ℕ). get_or (bytes_of 8 eight) (7 - k) 0 < 2 ^ x) none (G.lane k u)) ∙ behind_all n points j k d;
  }
    where
      none : G.e ≡ 0
      none = omega (arith, G.few, G.stands, d)

      one : (c l B : ℕ) → c * 2 ^ 0 + l ≡ B → l < 2 ^ 0 → c ≡ B
      one c l B x y = omega arith
