-- What a text of right form says, by the grammar, is what is computed.
use mathlib.Core.Path.{◌≡◌, refl, sym, ap, ◌∙◌, subst}
use mathlib.Core.Bool.{false}
use mathlib.Core.List.{List, [], ◌∷◌, map}
use mathlib.Core.Option.{Option, some, none, get_or}
use Prim.Native.Nat.{ℕ}
use native.Mathlib.Omega.{arith}
use lib.IntN.{ℤ}
use Rattle.notation.specs.Fields.{records_of}
use Rattle.notation.specs.Forms.{Header, header_of, entry_of}
use Rattle.notation.proofs.Grammar.TextFound.{text_grammar}
use Rattle.notation.proofs.Grammar.LevelForm.{entry_grammar}
use Rattle.notation.proofs.Grammar.HeaderForm.{header_grammar}
use Rattle.comma_text.specs.reading.Text.{further, first_fault, is_none, header_in, entry_in, entries_in, no_header, form_fault, Contents, contents_of}
use Rattle.comma_text.specs.reading.Faults.{AreEntries, no_entries, entries, Says}
use Rattle.comma_text.proofs.reading.FirstPlaces.{fault_step}

abbrev Records : Type 0
Records = List (Option (List (List ℕ)))

-- what is said in a text, if its form is right
abbrev pub said_by : Records → Contents
said_by t = contents_of (get_or (header_in t) no_header) t

abbrev told : List (Option (List ℤ)) → List (List ℤ)
told l = map (λ e. get_or e []) l

none_wrong : (E : List (List ℤ)) → (first_fault is_none (map some E) ≡ 0) × (told (map some E) ≡ E)
unfolding first_fault is_none further
none_wrong [] = (refl, refl)
none_wrong (zs ∷ E) = let r = none_wrong E in (rw r.0 refl, ap (λ (x : List (List ℤ)). zs ∷ x) r.1)

module _ (m : ℕ) where
  entries_read : {rs : List (List (List ℕ))} {E : List (List ℤ)} → AreEntries m rs E → map (entry_in m) (map some rs) ≡ map some E
  unfolding entry_in
  entries_read no_entries = refl
  entries_read (entries {fields = fields} {zs = zs} g r) =
      let a = (entry_grammar m fields zs).0 g in
      let b = entries_read r in
      cc

  entries_found : (t : Records) → first_fault is_none (map (entry_in m) t) ≡ 0
      → (rs : List (List (List ℕ))) × (t ≡ map some rs) × AreEntries m rs (told (map (entry_in m) t))
  unfolding first_fault is_none entry_in
  entries_found [] z = ([], refl, no_entries)
  entries_found (none ∷ t) z = absurd (omega arith)
  entries_found (some fields ∷ t) z = go (entry_of m fields) refl z (λ y. entries_found t y)
    where
      go : (o : Option (List ℤ)) → entry_of m fields ≡ o → first_fault is_none (o ∷ map (entry_in m) t) ≡ 0
          → (first_fault is_none (map (entry_in m) t) ≡ 0 → (rs : List (List (List ℕ))) × (t ≡ map some rs) × AreEntries m rs (told (map (entry_in m) t)))
          → (rs : List (List (List ℕ))) × (some fields ∷ t ≡ map some rs) × AreEntries m rs (get_or o [] ∷ told (map (entry_in m) t))
      go none e z rec = absurd (omega arith)
      go (some zs) e z rec =
          let (rs, q, r) = rec (fault_step false (first_fault is_none (map (entry_in m) t)) z).1 in
          (fields ∷ rs, ap (λ (x : Records). some fields ∷ x) q, entries ((entry_grammar m fields zs).1 e) r)

-- of records under their header
module _ (h : Header) (first : List (List ℕ)) (t : Records) (is : header_of first ≡ some h) where
  fault_under : form_fault (header_in (some first ∷ t)) (some first ∷ t) ≡ further (first_fault is_none (map (entry_in h.variables) t))
  unfolding form_fault header_in entries_in
  fault_under = ap (λ (o : Option Header). form_fault o (some first ∷ t)) is

  said_under : said_by (some first ∷ t) ≡ record { header = h; entries = told (map (entry_in h.variables) t) }
  unfolding contents_of header_in entries_in
  said_under = ap (λ (o : Option Header). contents_of (get_or o no_header) (some first ∷ t)) is

module _ (text : List ℕ) where
  abbrev T : Records
  T = records_of text

  pub says_read : (h : Header) (E : List (List ℤ)) → Says text h E → (form_fault (header_in T) T ≡ 0) × (said_by T ≡ record { header = h; entries = E })
  unfolding further
  says_read h E s =
      let m = h.variables in
      let t : Records = map some s.behind in
      let r : T ≡ some s.first ∷ t = (text_grammar text (s.first ∷ s.behind)).0 s.form in
      let i = (header_grammar s.first h).0 s.header in
      let e = entries_read m s.each in
      let n = none_wrong E in (
        ap (λ (x : Records). form_fault (header_in x) x) r ∙ fault_under h s.first t i
            ∙ ap (λ (x : List (Option (List ℤ))). further (first_fault is_none x)) e ∙ ap further n.0,
        ap said_by r ∙ said_under h s.first t i ∙ ap (λ (x : List (List ℤ)). record { header = h; entries = x }) (ap told e ∙ n.1),
      )

  pub says_found : form_fault (header_in T) T ≡ 0 → Says text (said_by T).header (said_by T).entries
  unfolding form_fault header_in
  says_found z = go T refl z
    where
      go : (t : Records) → T ≡ t → form_fault (header_in t) t ≡ 0 → Says text (said_by T).header (said_by T).entries
      go [] e z = absurd (omega arith)
      go (none ∷ t) e z = absurd (omega arith)
      go (some first ∷ t) e z = under (header_of first) refl z
        where
          under : (o : Option Header) → header_of first ≡ o → form_fault o (some first ∷ t) ≡ 0 → Says text (said_by T).header (said_by T).entries
          under none i z = absurd (omega arith)
          under (some h) i z =
              let f = sym (fault_under h first t i) ∙ ap (λ (o : Option Header). form_fault o (some first ∷ t)) i ∙ z in
              let (rs, q, r) = entries_found h.variables t (fault_step false (first_fault is_none (map (entry_in h.variables) t)) f).1 in
              let c = ap said_by e ∙ said_under h first t i in
              subst (λ (x : Contents). Says text x.header x.entries) (sym c)
              (record {
                first = first;
                behind = rs;
                form = (text_grammar text (first ∷ rs)).1 (e ∙ ap (λ (x : Records). some first ∷ x) q);
                header = (header_grammar first h).1 i;
                each = r;
              })
