-- The entries one by one: what is read and what is left.
use mathlib.Core.Path.{◌≡◌, refl, sym, ap, ◌∙◌}
use mathlib.Core.List.{List, [], ◌∷◌, ◌++◌, map}
use mathlib.Core.Option
use mathlib.Core.Option.{Option, some, none}
use Prim.Native.Nat.{ℕ, suc, ◌+◌, ◌<◌, ◌≤◌}
use native.Mathlib.Numerals.{add-one}
use native.Mathlib.Omega.{arith}
use lib.IntN.{ℤ}
use lib.ListN.{length, get_or, take, drop, length-map}
use lib.Seq.{take-suc, drop-cons, take_all}
use Rattle.specification.proofs.ideal.Lists.{get_d_among}
use Rattle.notation.specs.Fields.{Part, part, faulty, records_from, records_of}
use Rattle.comma_text.specs.reading.Records.{entry_part, entries_at, counted_entries}
use Rattle.comma_text.specs.reading.Points.{levels_in, behind_entry, FilledAs, levels_at}
use Rattle.comma_text.specs.declared.reading.entries.Filled.{Filled}
use Rattle.std.specs.Prelude.{Ok}
use Rattle.comma_text.proofs.reading.records.EntriesChecked.{entries_more, entries_none}
use Rattle.comma_text.proofs.reading.EntryLengths.{AllLong, entries_long}

-- where the count was taken, every record is an entry
pub all_entries : (k n : ℕ) (es : List (Option (List ℤ))) → counted_entries k es ≡ Ok n → (es ≡ map some (map (λ e. Option.get_or e []) es)) × (n ≡ k + length es)
unfolding counted_entries
all_entries k n [] e = let q : k ≡ n = cc in (refl, omega arith)
all_entries k n (none ∷ es) e = let z : ◌≡◌ {A = ℕ} 0 1 = cc in absurd (omega arith)
all_entries k n (some zs ∷ es) e =
    let h = all_entries (suc k) n es e in
    (ap (λ (l : List (Option (List ℤ))). some zs ∷ l) h.0, omega (arith, h.1))

some_bytes : (m : ℕ) (l : List ℕ) (zs : List ℤ) (tl : List (Option (List ℤ))) → entries_at m l ≡ some zs ∷ tl → 0 < length l
unfolding entries_at records_of records_from
some_bytes m [] zs tl e = let z : ◌≡◌ {A = ℕ} 0 1 = cc in absurd (omega arith)
some_bytes m (b ∷ l) zs tl e = omega arith

-- the next entry
pub next_read : (m : ℕ) (l : List ℕ) (zs : List ℤ) (tl : List (Option (List ℤ))) → entries_at m l ≡ some zs ∷ tl
    → (rest : List ℕ) × (entry_part m l ≡ part zs rest) × (entries_at m rest ≡ tl)
next_read m l zs tl e = go (entry_part m l) refl
  where
    h : 0 < length l
    h = some_bytes m l zs tl e

    go : (p : Part (List ℤ)) → entry_part m l ≡ p → (rest : List ℕ) × (p ≡ part zs rest) × (entries_at m rest ≡ tl)
    go faulty f = let g = (entries_none m l h f).1 in let z : ◌≡◌ {A = ℕ} 0 1 = cc in absurd (omega arith)
    go (part ys rest) f =
        let g = entries_more m l h ys rest f in
        let q : ys ≡ zs = cc in
        (rest, ap (λ (y : List ℤ). part y rest) q, cc)

-- How far the reading of a text's entries has come: i of them are read, the others are to be read from `from` on.
pub record ReadOn (m n : ℕ) (t : List ℕ) (S : List (List ℤ)) (from i : ℕ) : Type 0 where
  pub bound : i ≤ n
  pub within : from ≤ length t
  pub left : entries_at m (drop from t) ≡ map some (drop i S)
  pub count : length S ≡ n
  pub long : AllLong (suc m) S

entries_count : (m n : ℕ) (l : List ℕ) → counted_entries 0 (entries_at m l) ≡ Ok n → length (levels_at m l) ≡ n
unfolding levels_at
entries_count m n l c =
    let h = (all_entries 0 n (entries_at m l) c).1 in
    length-map (entries_at m l) (λ e. Option.get_or e []) ∙ omega arith

pub begun : (m n : ℕ) (t : List ℕ) (at : ℕ) → at ≤ length t → counted_entries 0 (entries_at m (drop at t)) ≡ Ok n → ReadOn m n t (levels_at m (drop at t)) at 0
unfolding levels_at entries_at
begun m n t at w c = record {
  bound = omega arith;
  within = w;
  left = (all_entries 0 n (entries_at m (drop at t)) c).0;
  count = entries_count m n (drop at t) c;
  long = entries_long m (records_of (drop at t)) (levels_at m (drop at t)) (all_entries 0 n (entries_at m (drop at t)) c).0;
}

module _ {m n : ℕ} {t : List ℕ} (S : List (List ℤ)) {from i : ℕ} (g : ReadOn m n t S from i) where
  module _ (h : i < n) where
    -- the next entry
    abbrev pub next : List ℤ
    next = get_or S i []

    pub here : drop i S ≡ next ∷ drop (suc i) S
    here = drop-cons S i [] (omega (arith, g.count))

    read : (rest : List ℕ) × (entry_part m (drop from t) ≡ part next rest) × (entries_at m rest ≡ map some (drop (suc i) S))
    read = next_read m (drop from t) next (map some (drop (suc i) S)) (g.left ∙ ap (map some) here)

    pub next_long : length next ≡ suc m
    next_long = g.long next (get_d_among S i [] (omega (arith, g.count)))

    pub entry_there : entry_part m (drop from t) ≡ faulty → ⊥
    entry_there f = let r = read.1 in let z : ◌≡◌ {A = ℕ} 0 1 = cc in omega arith

    pub levels : levels_in (entry_part m (drop from t)) ≡ next
    unfolding levels_in
    levels = ap levels_in read.1

    -- those that are read then
    pub one_more : take (i + 1) S ≡ take i S ++ (next ∷ [])
    one_more = ap (λ (k : ℕ). take k S) (add-one i) ∙ take-suc S i [] (omega (arith, g.count))

    pub goes_on : (to : ℕ) → to ≤ length t → drop to t ≡ behind_entry (entry_part m (drop from t)) → ReadOn m n t S to (i + 1)
    unfolding behind_entry
    goes_on to w e = record {
      bound = omega arith;
      within = w;
      left = ap (entries_at m) (e ∙ ap behind_entry read.1) ∙ read.2 ∙ ap (λ (j : ℕ). map some (drop j S)) (sym (add-one i));
      count = g.count;
      long = g.long;
    }

    pub read_on : {p : ℕ} {r : Filled} {row : List ℕ} → FilledAs p m t (entry_part m (drop from t)) r row → ReadOn m n t S r.next (i + 1)
    read_on {p} {r} f = goes_on r.next f.within f.rest

  pub all_read : n ≤ i → take i S ≡ S
  all_read h = take_all i S (omega (arith, g.count))
