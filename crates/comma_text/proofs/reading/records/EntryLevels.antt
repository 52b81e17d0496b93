-- An entry, level by level.
use mathlib.Core.Path.{◌≡◌, refl, sym, ap, ◌∙◌}
use mathlib.Core.Bool.{Bool, true, false, cond}
use mathlib.Core.List.{List, [], ◌∷◌}
use mathlib.Core.Option.{Option, some, none}
use Prim.Native.Nat.{ℕ, suc}
use native.Mathlib.Omega.{arith}
use lib.IntN.{ℤ}
use lib.ListN.{length}
use lib.Dec.{eqb, eqb-suc-suc}
use borrow.Author.Tests.{ne_eqb}
use Rattle.notation.specs.Fields.{Field, field, broken, field_of, Part, part, faulty, kept, with_first, behind_field, record_of}
use Rattle.notation.specs.Forms.{level_of, together, levels_of, entry_of}
use Rattle.comma_text.specs.reading.Records.{held, reading, level_field, reads, entry_part}
use Rattle.notation.proofs.fields.EnoughTurns.{record_unroll}

-- a field that is a level, or is none
pub record Reads {A B : Type 0} (f : A → Option B) (x : Field A) (b : B) (more : Bool) (rest : List ℕ) : Type 0 where
  pub content : A
  pub here : x ≡ field content more rest
  pub form : f content ≡ some b

pub of_field : {A B : Type 0} (f : A → Option B) (x : Field A) (b : B) (more : Bool) (rest : List ℕ) → reading f x ≡ field b more rest → Reads f x b more rest
unfolding reading held
of_field f broken b more rest e = let z : ◌≡◌ {A = ℕ} 0 1 = cc in absurd (omega arith)
of_field f (field c m r) b more rest e = go (f c) refl e
  where
    go : (o : Option _) → f c ≡ o → held o m r ≡ field b more rest → Reads f (field c m r) b more rest
    go none h k = let z : ◌≡◌ {A = ℕ} 0 1 = cc in absurd (omega arith)
    go (some a) h k =
        let p : a ≡ b = cc in
        let q : m ≡ more = cc in
        let s : r ≡ rest = cc in
        record { content = c; here = cc; form = cc }

-- where it is none: the field is broken, or its content has not the form
abbrev Unread : {A B : Type 0} → (A → Option B) → Field A → Type 0
Unread f (field content more rest) = f content ≡ none
Unread f broken = Unit {0}

of_broken : {A B : Type 0} (f : A → Option B) (x : Field A) → reading f x ≡ broken → Unread f x
unfolding reading held
of_broken f broken e = tt
of_broken f (field c m r) e = go (f c) refl e
  where
    go : (o : Option _) → f c ≡ o → held o m r ≡ broken → o ≡ none
    go none h k = refl
    go (some a) h k = let z : ◌≡◌ {A = ℕ} 0 1 = cc in absurd (omega arith)

-- the entry of so many variables whose first field this is
first : ℕ → Field (List ℕ) → Part (List ℤ)
first k f = reads (entry_of k) (behind_field record_of f)

unroll : (k : ℕ) (l : List ℕ) → entry_part k l ≡ first k (field_of l)
unfolding entry_part first
unroll k l = ap (reads (entry_of k)) (record_unroll l)

-- a record has a field
nothing_first : {A : Type 0} (c : A) (p : Part (List A)) (rest : List ℕ) → with_first c p ≡ part [] rest → ⊥
unfolding with_first
nothing_first c faulty rest e = let z : ◌≡◌ {A = ℕ} 0 1 = cc in omega arith
nothing_first c (part l r) rest e = let z : ◌≡◌ {A = ℕ} 0 1 = cc in omega arith

some_field : (l rest : List ℕ) → record_of l ≡ part [] rest → ⊥
unfolding behind_field
some_field l rest e = go (field_of l) (sym (record_unroll l) ∙ e)
  where
    go : (f : Field (List ℕ)) → behind_field record_of f ≡ part [] rest → ⊥
    go (field c true r) h = nothing_first c (record_of r) rest h
    go (field c false r) h = let z : ◌≡◌ {A = ℕ} 0 1 = cc in omega arith
    go broken h = let z : ◌≡◌ {A = ℕ} 0 1 = cc in omega arith

both : (z : ℤ) (c : List ℕ) → level_of c ≡ some z → (k : ℕ) (p : Part (List (List ℕ))) → reads (entry_of (suc k)) (with_first c p) ≡ with_first z (reads (entry_of k) p)
unfolding reads kept with_first entry_of levels_of together
both z c h k faulty = refl
both z c h k (part fs rest) = rw (eqb-suc-suc (length fs) (suc k), h) (go (eqb (length fs) (suc k)) (levels_of fs))
  where
    go : (x : Bool) (o : Option (List ℤ)) → kept (cond x (together (some z) o) none) rest ≡ with_first z (kept (cond x o none) rest)
    go true none = refl
    go true (some zs) = refl
    go false o = refl

-- a content of another form, or a field too many
other : (c : List ℕ) → level_of c ≡ none → (k : ℕ) (p : Part (List (List ℕ))) → reads (entry_of k) (with_first c p) ≡ faulty
unfolding reads kept with_first entry_of levels_of together
other c h k faulty = refl
other c h k (part fs rest) = rw h (go (eqb (suc (length fs)) (suc k)))
  where
    go : (x : Bool) → kept (cond {A = Option (List ℤ)} x none none) rest ≡ faulty
    go true = refl
    go false = refl

unread : (k : ℕ) (f : Field (List ℕ)) → Unread level_of f → first k f ≡ faulty
unfolding first behind_field with_first reads
unread k (field c true r) h = other c h k (record_of r)
unread k (field c false r) h = other c h k (part [] r)
unread k broken h = refl

long : (c : List ℕ) (p : Part (List (List ℕ))) → ((rest : List ℕ) → p ≡ part [] rest → ⊥) → reads (entry_of 0) (with_first c p) ≡ faulty
unfolding reads kept with_first entry_of
long c faulty n = refl
long c (part [] r) n = absurd (n r refl)
long c (part (d ∷ fs) r) n = rw (ne_eqb (suc (suc (length fs))) 1 (λ e. omega arith))

module _ (l : List ℕ) where
  pub entry_broken : (k : ℕ) → level_field l ≡ broken → entry_part k l ≡ faulty
  unfolding level_field
  entry_broken k e = unroll k l ∙ unread k (field_of l) (of_broken level_of (field_of l) e)

  module _ (z : ℤ) (rest : List ℕ) where
    module _ (e : level_field l ≡ field z true rest) where
      pub entry_more : (k : ℕ) → entry_part (suc k) l ≡ with_first z (entry_part k rest)
      unfolding level_field first behind_field entry_part
      entry_more k =
          let r = of_field level_of (field_of l) z true rest e in
          unroll (suc k) l ∙ ap (first (suc k)) r.here ∙ both z r.content r.form k (record_of rest)

      pub entry_long : entry_part 0 l ≡ faulty
      unfolding level_field first behind_field
      entry_long =
          let r = of_field level_of (field_of l) z true rest e in
          unroll 0 l ∙ ap (first 0) r.here ∙ long r.content (record_of rest) (some_field rest)

    module _ (e : level_field l ≡ field z false rest) where
      pub entry_last : entry_part 0 l ≡ part (z ∷ []) rest
      unfolding level_field first behind_field reads kept entry_of levels_of together
      entry_last =
          let r = of_field level_of (field_of l) z false rest e in
          unroll 0 l ∙ ap (first 0) r.here ∙ rw r.form

      pub entry_short : (k : ℕ) → entry_part (suc k) l ≡ faulty
      unfolding level_field first behind_field reads kept entry_of
      entry_short k =
          let r = of_field level_of (field_of l) z false rest e in
          unroll (suc k) l ∙ ap (first (suc k)) r.here ∙ rw (ne_eqb 1 (suc (suc k)) (λ e. omega arith))
