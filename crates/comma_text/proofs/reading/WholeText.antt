-- The whole text: what its header and its entries say of the outcome.
use mathlib.Core.Path.{◌≡◌, refl, sym, ap, ap₂, ◌∙◌, subst}
use mathlib.Core.Bool.{Bool, true, false, cond}
use mathlib.Core.Logic.{◌≢◌}
use mathlib.Core.List.{List, [], ◌∷◌, ◌++◌, map}
use mathlib.Core.Option.{Option, some, none, get_or}
use Prim.Native.Nat.{ℕ, zero, suc, ◌+◌, ◌<◌, ◌≤◌}
use native.Mathlib.Omega.{arith}
use lib.IntN.{ℤ}
use lib.ListN.{length, drop, length-map}
use lib.Dec.{eqb}
use borrow.Author.Tests.{lt-ltb, le-ltb, eq-eqb, ne_eqb}
use Rattle.residue.specs.Lists.{same_list}
use Rattle.notation.specs.Fields.{Part, part, faulty, kept, front, ending, unquoted, field_of, behind_field}
use Rattle.notation.specs.Fields.{record_from, record_of, behind_record, records_from, records_of}
use Rattle.notation.specs.Forms.{Header, last_field, header_from, header_of}
use Rattle.specification.specs.Refusal.{first_of}
use Rattle.specification.proofs.Numbers.{never}
use Rattle.comma_text.specs.reading.Text.{further, first_fault, is_none, header_in, no_header, entry_in, entries_in, form_fault, Contents, contents_of, TextOutcome}
use Rattle.comma_text.specs.reading.Text.{settings_by, short_buffers, header_cases, points_cases, entries_cases, read_cases, not_refused, refusal_at}
use Rattle.comma_text.specs.reading.Text.{text_accepted, text_refused, text_decided, read_outcome}
use Rattle.comma_text.specs.reading.Records.{reads, header_part, entries_at, counted_entries}
use Rattle.comma_text.specs.reading.Points.{levels_at, saying, entries_outcome}
use Rattle.comma_text.specs.reading.Answers.{Refusal}
use Rattle.std.specs.Prelude.{Ok, Err}
use Rattle.specification.specs.declared.refusals.Fault.{Fault}
use Rattle.specification.specs.declared.refusals.Refusal.{Refusal as R}
use Rattle.specification.specs.declared.refusals.Refusal.TheVariants.{Form}
use Rattle.specification.specs.Answers.{number_of}
use Rattle.comma_text.specs.reading.Records.{form_fault_at}
use Rattle.notation.proofs.fields.EnoughTurns.{records_unroll}
use Rattle.comma_text.proofs.reading.entries.EntriesRead.{all_entries}
use Rattle.comma_text.proofs.reading.AcceptedPoints.{SmallOrder, in_small}
use Rattle.comma_text.proofs.reading.TextCases.{text_refused_lem}

-- the header is the first record
first_none : (p : Part (List (List ℕ))) → reads header_of p ≡ faulty → header_in (behind_record records_of p) ≡ none
unfolding reads kept behind_record header_in
first_none faulty e = refl
first_none (part fields rest) e = go (header_of fields) e
  where
    go : (o : Option Header) → kept o rest ≡ faulty → o ≡ none
    go none h = refl
    go (some a) h = let z : ◌≡◌ {A = ℕ} 0 1 = cc in absurd (omega arith)

pub no_header_lem : (t : List ℕ) → header_part t ≡ faulty → header_in (records_of t) ≡ none
unfolding header_part records_of records_from header_in
no_header_lem [] e = refl
no_header_lem (b ∷ l) e = ap header_in (records_unroll (b ∷ l) (omega arith)) ∙ first_none (record_of (b ∷ l)) e

empty : header_part [] ≡ faulty
unfolding header_part reads kept record_of record_from behind_field field_of unquoted ending front header_of header_from last_field same_list
empty = refl

module _ (h : Header) (rest : List ℕ) where
  first_some : (p : Part (List (List ℕ))) → reads header_of p ≡ part h rest
      → (header_in (behind_record records_of p) ≡ some h) × (drop 1 (behind_record records_of p) ≡ records_of rest)
  unfolding reads kept behind_record header_in
  first_some faulty e = let z : ◌≡◌ {A = ℕ} 0 1 = cc in absurd (omega arith)
  first_some (part fields r) e = go (header_of fields) e
    where
      go : (o : Option Header) → kept o r ≡ part h rest → (o ≡ some h) × (records_of r ≡ records_of rest)
      go none k = let z : ◌≡◌ {A = ℕ} 0 1 = cc in absurd (omega arith)
      go (some a) k =
          let q : a ≡ h = cc in
          let s : r ≡ rest = cc in
          (ap some q, ap records_of s)

  pub some_header : (t : List ℕ) → header_part t ≡ part h rest → (header_in (records_of t) ≡ some h) × (drop 1 (records_of t) ≡ records_of rest)
  unfolding header_part
  some_header [] e = let f = sym empty ∙ e in let z : ◌≡◌ {A = ℕ} 0 1 = cc in absurd (omega arith)
  some_header (b ∷ l) e =
      let f = first_some (record_of (b ∷ l)) e in
      let u = records_unroll (b ∷ l) (omega arith) in
      (ap header_in u ∙ f.0, ap (drop 1) u ∙ f.1)

-- its order is one of the four
pub header_order : (h : Header) (rest t : List ℕ) → header_part t ≡ part h rest → h.order ≤ 3
header_order h rest t e = subst SmallOrder (some_header h rest t e).0 (in_small (records_of t))

further_some : (k : ℕ) → (k ≡ 0 → ⊥) → further k ≡ suc k
unfolding further
further_some k n = rw (ne_eqb k 0 n)

-- the count of the entries, or the first that is none
pub record Counted (j : ℕ) (f : Fault) (es : List (Option (List ℤ))) : Type 0 where
  pub refusal : f.refusal ≡ Form
  pub at : f.at ≡ j + suc (first_fault is_none es)
  pub found : first_fault is_none es ≡ 0 → ⊥

pub counted_refused : (j : ℕ) (f : Fault) (es : List (Option (List ℤ))) → Err f ≡ counted_entries j es → Counted j f es
unfolding counted_entries first_fault is_none further
counted_refused j f [] e = let z : ◌≡◌ {A = ℕ} 0 1 = cc in absurd (omega arith)
counted_refused j f (none ∷ es) e =
    let r : f ≡ form_fault_at (j + 2) = cc in
    let q : f.at ≡ j + 2 = ap (λ (x : Fault). x.at) r in
    record { refusal = ap (λ (x : Fault). x.refusal) r; at = q; found = λ z. omega arith }
counted_refused j f (some zs ∷ es) e =
    let r = counted_refused (suc j) f es e in
    let g = further_some (first_fault is_none es) r.found in
    let q = r.at in
    record { refusal = r.refusal; at = omega (arith, g, q); found = λ z. omega (arith, g) }

pub counted_none : (j n : ℕ) (es : List (Option (List ℤ))) → Ok n ≡ counted_entries j es → first_fault is_none es ≡ 0
unfolding counted_entries first_fault is_none further
counted_none j n [] e = refl
counted_none j n (none ∷ es) e = let z : ◌≡◌ {A = ℕ} 0 1 = cc in absurd (omega arith)
counted_none j n (some zs ∷ es) e = rw (counted_none (suc j) n es e)

-- there are no more records than bytes
records_few : (k : ℕ) (l : List ℕ) → length (records_from k l) ≤ k
unfolding records_from behind_record
records_few zero l = omega arith
records_few (suc k) [] = omega arith
records_few (suc k) (b ∷ l) = go (record_of (b ∷ l)) (λ r. records_few k r)
  where
    go : (p : Part (List (List ℕ))) → ((r : List ℕ) → length (records_from k r) ≤ k) → length (behind_record (records_from k) p) ≤ suc k
    go faulty f = omega arith
    go (part s r) f = omega (arith, f r)

pub entries_few : (m : ℕ) (l : List ℕ) → length (entries_at m l) ≤ length l
unfolding entries_at records_of
entries_few m l = let e = length-map (records_of l) (entry_in m) in omega (arith, records_few (length l) l)

-- the first two cases
module _ (t : List ℕ) (f : ℕ) (e : Contents) (short : Bool) where
  refuse_1 : 16384 < length t → refusal_at 1 0 ≡ (first_of not_refused (read_cases t f e short))
  unfolding first_of read_cases
  refuse_1 h = simp (lt-ltb 16384 (length t) h)

  module _ (h : length t ≤ 16384) where
    refuse_2 : (f ≡ 0 → ⊥) → refusal_at 2 f ≡ (first_of not_refused (read_cases t f e short))
    unfolding first_of read_cases
    refuse_2 n = simp (le-ltb 16384 (length t) h, ne_eqb f 0 n)

    form_pass : f ≡ 0 → first_of not_refused (read_cases t f e short) ≡ first_of not_refused (header_cases (settings_by e.header) short ++ entries_cases e)
    unfolding first_of read_cases
    form_pass z = simp (le-ltb 16384 (length t) h, eq-eqb f 0 z)

-- The outcome, case by case.
module _ (t s v n w : List ℕ) where
  abbrev short : Bool
  short = short_buffers (length s) (length v) (length n) (length w)

  pub too_long : 16384 < length t → text_refused (refusal_at 1 0) s v n w ≡ read_outcome t s v n w
  unfolding read_outcome
  too_long h = text_refused_lem _ _ s v n w _ (refuse_1 t _ _ short h) (λ z. omega arith)

  module _ (h : length t ≤ 16384) where
    pub header_broken : header_part t ≡ faulty → text_refused (refusal_at 2 1) s v n w ≡ read_outcome t s v n w
    unfolding read_outcome form_fault
    header_broken e =
        let r = records_of t in
        let k = get_or (header_in r) no_header in
        text_refused_lem _ _ s v n w (refusal_at 2 1)
        (refuse_2 t 1 (contents_of k r) short h (λ z. omega arith)
        ∙ ap (λ (o : Option Header). first_of not_refused (read_cases t (form_fault o r) (contents_of k r) short)) (sym (no_header_lem t e)))
        (λ z. omega arith)

    module _ (k : Header) (rest : List ℕ) (e : header_part t ≡ part k rest) where
      says : Contents
      says = saying (settings_by k) rest

      behind : entries_in k.variables (records_of t) ≡ entries_at k.variables rest
      unfolding entries_in entries_at
      behind = ap (map (entry_in k.variables)) (some_header k rest t e).1

      abbrev place : ℕ
      place = further (first_fault is_none (entries_at k.variables rest))

      outcome : read_outcome t s v n w ≡ text_decided (first_of not_refused (read_cases t place says short)) (text_accepted says s v n w) s v n w
      unfolding read_outcome form_fault contents_of says saying levels_at
      outcome =
          ap (λ (o : Option Header). of_header o) (some_header k rest t e).0 ∙ ap of_entries behind
        where
          of_header : Option Header → TextOutcome
          of_header o = let f = contents_of (get_or o no_header) (records_of t) in
              text_decided (first_of not_refused (read_cases t (form_fault o (records_of t)) f short)) (text_accepted f s v n w) s v n w

          of_entries : List (Option (List ℤ)) → TextOutcome
          of_entries es = let f : Contents = record { header = k; entries = map (λ x. get_or x []) es } in
              text_decided (first_of not_refused (read_cases t (further (first_fault is_none es)) f short)) (text_accepted f s v n w) s v n w

      pub entry_broken : (f : Fault) → Err f ≡ counted_entries 0 (entries_at k.variables rest)
          → text_refused (refusal_at (number_of f.refusal) f.at) s v n w ≡ read_outcome t s v n w
      unfolding number_of
      entry_broken f c =
          let b = counted_refused 0 f (entries_at k.variables rest) c in
          let g = further_some (first_fault is_none (entries_at k.variables rest)) b.found in
          let q = b.at in
          let i : place ≡ f.at = omega arith in
          ap₂ (λ (x : R) (y : ℕ). text_refused (refusal_at (number_of x) y) s v n w) b.refusal (sym i)
          ∙ text_refused_lem _ _ s v n w _ (refuse_2 t place says short h (λ z. omega arith)) (λ z. omega arith)
          ∙ sym outcome

      pub form_right : (entries : ℕ) → Ok entries ≡ counted_entries 0 (entries_at k.variables rest)
          → entries_outcome (settings_by k) rest s v n w ≡ read_outcome t s v n w
      unfolding says saying further
      form_right entries c =
          let z = counted_none 0 entries (entries_at k.variables rest) c in
          ap (λ (x : Refusal). text_decided x (text_accepted says s v n w) s v n w)
          (sym (form_pass t place says short h (ap further z)))
          ∙ sym outcome

-- the number of entries, within the text's length
pub count_small : (m n : ℕ) (l : List ℕ) → length l ≤ 16384 → counted_entries 0 (entries_at m l) ≡ Ok n → n ≤ 16384
count_small m n l h c = omega (arith, (all_entries 0 n (entries_at m l) c).1, entries_few m l)

-- No text is refused with 11, whatever it is and whatever is lent (request M-106).
decided_eleven : (r : Refusal) (done : TextOutcome) (s v n w : List ℕ)
    → done.answer.refusal ≡ 0 → (text_decided r done s v n w).answer.refusal ≡ 11 → r.refusal ≡ 11
unfolding text_decided text_refused
decided_eleven r done s v n w z = go (eqb r.refusal 0)
  where
    go : (b : Bool) → (cond b done (text_refused r s v n w)).answer.refusal ≡ 11 → r.refusal ≡ 11
    go true e = absurd (omega (arith, z, e))
    go false e = e

pub text_never_eleven : (t s v n w : List ℕ) → (read_outcome t s v n w).answer.refusal ≢ 11
unfolding read_outcome read_cases header_cases entries_cases points_cases text_accepted
text_never_eleven t s v n w e = never (λ r. r.refusal) 11 not_refused _ (λ z. omega (arith, z)) tt (decided_eleven _ _ s v n w refl e)
