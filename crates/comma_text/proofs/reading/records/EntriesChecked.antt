-- An entry is checked level by level, and the entries one after the other.
use mathlib.Core.Path.{◌≡◌, refl, sym, ap, ap₂, ◌∙◌, subst}
use mathlib.Core.Bool.{Bool, true, false}
use mathlib.Core.List.{List, [], ◌∷◌, map}
use mathlib.Core.Option.{Option, some, none}
use Prim.Native.Nat.{ℕ, suc, ◌+◌, ◌-◌, ◌<◌, ◌≤◌}
use native.Mathlib.Numerals.{add-one}
use native.Mathlib.Omega.{arith}
use lib.IntN.{ℤ}
use lib.ListN.{length, drop, length-drop, drop_of_length-le}
use Rattle.notation.specs.Fields.{field, broken, Part, part, faulty, kept, with_first, record_of, behind_record, records_from, records_of}
use Rattle.notation.specs.Forms.{entry_of}
use Rattle.comma_text.specs.reading.Text.{entry_in}
use Rattle.specification.specs.declared.refusals.Fault.{Fault}
use Rattle.comma_text.specs.reading.Records.{level_field, reads, entry_part, entries_at, ends, refuses, checked, counted_entries}
use Rattle.comma_text.specs.reading.Text.{last_level}
use Rattle.std.specs.Prelude.{Ok, Err}
use Rattle.comma_text.specs.reading.Records.{form_fault_at}
use Rattle.comma_text.proofs.reading.records.EntryLevels.{entry_broken, entry_more, entry_long, entry_last, entry_short}
use Rattle.notation.proofs.fields.EnoughTurns.{Behind, shorter, stopped, record_left, records_unroll}

with_checked : (at k : ℕ) (z : ℤ) (p : Part (List ℤ)) → checked at (suc k) (with_first z p) ≡ checked at k p
unfolding with_first checked last_level
with_checked at k z (part zs rest) = refl
with_checked at k z faulty = refl

module _ (at : ℕ) (l : List ℕ) (k : ℕ) where
  pub check_broken : level_field l ≡ broken → refuses (form_fault_at at) ≡ checked at k (entry_part k l)
  unfolding checked
  check_broken e = ap (checked at k) (sym (entry_broken l k e))

  module _ (z : ℤ) (rest : List ℕ) (more : Bool) (e : field z more rest ≡ level_field l) where
    going : more ≡ true → level_field l ≡ field z true rest
    going h = sym e ∙ ap (λ (b : Bool). field z b rest) h

    ending : more ≡ false → level_field l ≡ field z false rest
    ending h = sym e ∙ ap (λ (b : Bool). field z b rest) h

    pub check_long : k ≡ 0 → more ≡ true → refuses (form_fault_at at) ≡ checked at k (entry_part k l)
    unfolding checked
    check_long n h = ap (checked at k) (sym (entry_long l z rest (going h)) ∙ ap (λ (j : ℕ). entry_part j l) (sym n))

    pub check_last : k ≡ 0 → more ≡ false → ends z rest ≡ checked at k (entry_part k l)
    unfolding checked last_level
    check_last n h = ap (checked at 0) (sym (entry_last l z rest (ending h))) ∙ ap (λ (j : ℕ). checked at j (entry_part j l)) (sym n)

    module _ (n : k ≡ 0 → ⊥) where
      one : suc (k - 1) ≡ k
      one = omega (arith, n)

      pub check_short : more ≡ false → refuses (form_fault_at at) ≡ checked at k (entry_part k l)
      unfolding checked
      check_short h = ap (checked at k) (sym (entry_short l z rest (ending h) (k - 1)) ∙ ap (λ (j : ℕ). entry_part j l) one)

      pub check_more : more ≡ true → checked at (k - 1) (entry_part (k - 1) rest) ≡ checked at k (entry_part k l)
      check_more h =
          sym (with_checked at (k - 1) z (entry_part (k - 1) rest))
          ∙ ap (checked at (suc (k - 1))) (sym (entry_more l z rest (going h) (k - 1)))
          ∙ ap (λ (j : ℕ). checked at j (entry_part j l)) one

-- an entry that was read leaves fewer bytes, if there were any
kept_left : {n : ℕ} (o : Option (List ℤ)) (rest : List ℕ) → length rest ≤ n - 1 → Behind n (kept o rest)
unfolding kept
kept_left (some zs) rest h = shorter h
kept_left none rest h = stopped

reads_left : {n : ℕ} {p : Part (List (List ℕ))} (m : ℕ) → Behind n p → Behind n (reads (entry_of m) p)
unfolding reads
reads_left m (shorter {said = fields} {rest = rest} h) = kept_left (entry_of m fields) rest h
reads_left m stopped = stopped

left : (n : ℕ) (zs : List ℤ) (rest : List ℕ) → Behind n (part zs rest) → length rest ≤ n - 1
left n zs rest (shorter h) = h

-- the first record, an entry or none
first_entry : (m : ℕ) (zs : List ℤ) (rest : List ℕ) (p : Part (List (List ℕ))) → reads (entry_of m) p ≡ part zs rest
    → map (entry_in m) (behind_record records_of p) ≡ some zs ∷ map (entry_in m) (records_of rest)
unfolding reads kept behind_record entry_in
first_entry m zs rest faulty e = let z : ◌≡◌ {A = ℕ} 0 1 = cc in absurd (omega arith)
first_entry m zs rest (part fields r) e = go (entry_of m fields) e
  where
    go : (o : Option (List ℤ)) → kept o r ≡ part zs rest → o ∷ map (entry_in m) (records_of r) ≡ some zs ∷ map (entry_in m) (records_of rest)
    go none k = let z : ◌≡◌ {A = ℕ} 0 1 = cc in absurd (omega arith)
    go (some ys) k =
        let p : ys ≡ zs = cc in
        let q : r ≡ rest = cc in
        ap₂ (λ (x : List ℤ) (y : List ℕ). some x ∷ map (entry_in m) (records_of y)) p q

first_none : (m : ℕ) (p : Part (List (List ℕ))) → reads (entry_of m) p ≡ faulty
    → (tl : List (Option (List ℤ))) × (map (entry_in m) (behind_record records_of p) ≡ none ∷ tl)
unfolding reads kept behind_record entry_in
first_none m faulty e = ([], refl)
first_none m (part fields r) e = go (entry_of m fields) e
  where
    go : (o : Option (List ℤ)) → kept o r ≡ faulty → (tl : List (Option (List ℤ))) × (o ∷ map (entry_in m) (records_of r) ≡ none ∷ tl)
    go none h = (map (entry_in m) (records_of r), refl)
    go (some ys) h = let z : ◌≡◌ {A = ℕ} 0 1 = cc in absurd (omega arith)

module _ (m : ℕ) (l : List ℕ) (h : 0 < length l) where
  module _ (zs : List ℤ) (rest : List ℕ) (e : entry_part m l ≡ part zs rest) where
    pub entry_shorter : length rest < length l
    unfolding entry_part record_of
    entry_shorter = let k = left (length l) zs rest (subst (Behind (length l)) e (reads_left m (record_left (suc (length l)) l))) in omega arith

    pub entries_more : entries_at m l ≡ some zs ∷ entries_at m rest
    unfolding entries_at entry_part
    entries_more = ap (map (entry_in m)) (records_unroll l h) ∙ first_entry m zs rest (record_of l) e

  pub entries_none : entry_part m l ≡ faulty → (tl : List (Option (List ℤ))) × (entries_at m l ≡ none ∷ tl)
  unfolding entries_at entry_part
  entries_none e = let f = first_none m (record_of l) e in (f.0, ap (map (entry_in m)) (records_unroll l h) ∙ f.1)

-- what an entry that was checked says of the entries
pub of_ends : (at m : ℕ) (last : ℤ) (rest : List ℕ) (p : Part (List ℤ)) → ends last rest ≡ checked at m p
    → (zs : List ℤ) × (p ≡ part zs rest) × (last ≡ last_level m zs)
unfolding checked
of_ends at m last rest (part zs r) e = let q : r ≡ rest = cc in (zs, ap (part zs) q, cc)
of_ends at m last rest faulty e = let z : ◌≡◌ {A = ℕ} 0 1 = cc in absurd (omega arith)

pub of_refuses : (at m : ℕ) (f : Fault) (p : Part (List ℤ)) → refuses f ≡ checked at m p → (p ≡ faulty) × (f ≡ form_fault_at at)
unfolding checked
of_refuses at m f (part zs r) e = let z : ◌≡◌ {A = ℕ} 0 1 = cc in absurd (omega arith)
of_refuses at m f faulty e = let r : f ≡ form_fault_at at = cc in (refl, r)

module _ (t : List ℕ) (m from n : ℕ) (h : from < length t) where
  some_left : 0 < length (drop from t)
  some_left = omega (arith, length-drop from t)

  pub next_entry : (last : ℤ) (next at : ℕ) → next ≤ length t → ends last (drop next t) ≡ checked at m (entry_part m (drop from t))
      → (from < next) × (counted_entries (n + 1) (entries_at m (drop next t)) ≡ counted_entries n (entries_at m (drop from t)))
  unfolding counted_entries
  next_entry last next at w e =
      let p = of_ends at m last (drop next t) (entry_part m (drop from t)) e in
      let k = entry_shorter m (drop from t) some_left p.0 (drop next t) p.1 in (
        omega (arith, length-drop from t, length-drop next t),
        ap (λ (j : ℕ). counted_entries j (entries_at m (drop next t))) (add-one n) ∙ ap (counted_entries n) (sym (entries_more m (drop from t) some_left p.0 (drop next t) p.1)),
      )

  pub no_entry : (f : Fault) → refuses f ≡ checked (n + 2) m (entry_part m (drop from t)) → Err f ≡ counted_entries n (entries_at m (drop from t))
  unfolding counted_entries
  no_entry f e =
      let p = of_refuses (n + 2) m f (entry_part m (drop from t)) e in
      ap (λ (x : Fault). Err x) p.1 ∙ ap (counted_entries n) (sym (entries_none m (drop from t) some_left p.0).1)

pub no_more : (t : List ℕ) (m from n : ℕ) → length t ≤ from → Ok n ≡ counted_entries n (entries_at m (drop from t))
unfolding entries_at records_of records_from counted_entries
no_more t m from n h = rw (drop_of_length-le t h)
