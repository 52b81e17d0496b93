-- The record of refusal 2: what is computed means what specs/reading/Faults.antt says.
use mathlib.Core.Path.{◌≡◌, refl, sym, ap, ◌∙◌, subst}
use mathlib.Core.Bool.{Bool, cond}
use mathlib.Core.List.{List, [], ◌∷◌, map}
use mathlib.Core.Logic.{◌⊎◌, inl, inr, ◌↔◌}
use mathlib.Core.Option.{Option, some, none}
use Prim.Native.Nat.{ℕ, suc}
use lib.IntN.{ℤ}
use lib.ListN.{drop}
use Rattle.residue.proofs.Tests.{Decides, so, not_so}
use Rattle.notation.specs.Fields.{records_of}
use Rattle.notation.specs.Forms.{Header, header_of, entry_of}
use Rattle.notation.specs.Grammar.{IsText, BreaksAfter}
use Rattle.notation.proofs.Grammar.TextFound.{text_grammar, text_breaks}
use Rattle.notation.proofs.Grammar.TextWhole.{text_or_breaks}
use Rattle.notation.proofs.Grammar.LevelForm.{entry_grammar, none_some, some_is}
use Rattle.notation.proofs.Grammar.HeaderForm.{header_grammar}
use Rattle.comma_text.specs.reading.Text.{further, first_fault, is_none, header_in, entry_in, entries_in, form_fault}
use Rattle.comma_text.specs.reading.Faults.{FirstAt, Wrong, FaultAt, empty, no_header_lem, no_entry, TextFault, of_records, of_broken, FormFaults}
use Rattle.comma_text.proofs.reading.FirstPlaces.{further_some}
use Rattle.comma_text.proofs.reading.FirstFault.{further_found, first_alone}

abbrev pub Records : Type 0
Records = List (Option (List (List ℕ)))

-- The record at which records fail, for any rule of what is wrong behind a header, by a search for the first that is.
module _ (W : ℕ → Records → Option (List (List ℕ)) → Type 0) (place : ℕ → Records → ℕ)
    (told : (m : ℕ) (t : Records) (k : ℕ) → FirstAt (W m) t k ↔ (place m t ≡ suc k)) where
  -- the record under a header that was read or not
  unfoldable pub under : Option Header → Records → ℕ
  under none records = 1
  under (some h) records = further (place h.variables (drop 1 records))

  pub under_read : {t : Records} {k : ℕ} → FaultAt W t k → under (header_in t) t ≡ k
  unfolding under header_in
  under_read empty = refl
  under_read (no_header_lem {r = none} n) = refl
  under_read (no_header_lem {r = some fields} {t = t} n) = go (header_of fields) refl
    where
      go : (o : Option Header) → header_of fields ≡ o → under o (some fields ∷ t) ≡ 1
      go none e = refl
      go (some h) e = absurd (n fields h refl ((header_grammar fields h).1 e))
  under_read (no_entry {fields = fields} {h = h} {t = t} {k = k} g f) =
      ap (λ (o : Option Header). under o (some fields ∷ t)) ((header_grammar fields h).0 g) ∙ ap further ((told h.variables t k).0 f) ∙ further_some k

  pub under_found : (t : Records) (k : ℕ) → under (header_in t) t ≡ suc k → FaultAt W t (suc k)
  unfolding under header_in
  under_found [] k e = subst (λ (j : ℕ). FaultAt W [] j) e empty
  under_found (none ∷ t) k e = subst (FaultAt W (none ∷ t)) e (no_header_lem (λ fields h q. absurd (none_some q)))
  under_found (some fields ∷ t) k e = go (header_of fields) refl e
    where
      go : (o : Option Header) → header_of fields ≡ o → under o (some fields ∷ t) ≡ suc k → FaultAt W (some fields ∷ t) (suc k)
      go none n e =
          subst (FaultAt W (some fields ∷ t)) e (no_header_lem (λ gs h q g. none_some (sym n ∙ ap header_of (some_is q) ∙ (header_grammar gs h).0 g)))
      go (some h) n e =
          let (j, p, q) = further_found (place h.variables t) k e in
          subst (λ (i : ℕ). FaultAt W (some fields ∷ t) (suc i)) (sym q) (no_entry ((header_grammar fields h).1 n) ((told h.variables t j).1 p))

-- a text fails where its records do
pub text_faults : (W : ℕ → Records → Option (List (List ℕ)) → Type 0) (text : List ℕ) (k : ℕ) → TextFault W text k ↔ FaultAt W (records_of text) k
text_faults W text k = (read, λ f. found f (text_or_breaks text))
  where
    read : TextFault W text k → FaultAt W (records_of text) k
    read (of_records rs g f) = subst (λ (t : Records). FaultAt W t k) (sym ((text_grammar text rs).0 g)) f
    read (of_broken rs g f) = subst (λ (t : Records). FaultAt W t k) (sym ((text_breaks text rs).0 g)) f

    found : FaultAt W (records_of text) k → (rs : List (List (List ℕ))) × (IsText text rs ⊎ BreaksAfter text rs) → TextFault W text k
    found f (rs, inl g) = of_records rs g (subst (λ (t : Records). FaultAt W t k) ((text_grammar text rs).0 g) f)
    found f (rs, inr g) = of_broken rs g (subst (λ (t : Records). FaultAt W t k) ((text_breaks text rs).0 g) f)

-- Entries: the first that has the wrong form.
of_map : {A B : Type 0} (f : B → Bool) (g : A → B) (l : List A) → first_fault f (map g l) ≡ first_fault (λ a. f (g a)) l
unfolding first_fault
of_map f g [] = refl
of_map f g (a ∷ l) = ap (λ (n : ℕ). cond (f (g a)) 1 (further n)) (of_map f g l)

-- wrong form, by the test
module _ (m : ℕ) where
  wrong : Option (List (List ℕ)) → Bool
  wrong r = is_none (entry_in m r)

  wrong_told : (r : Option (List (List ℕ))) → Decides (Wrong m [] r) (wrong r)
  unfolding wrong is_none entry_in
  wrong_told none = so (λ fields zs e. absurd (none_some e))
  wrong_told (some fields) = go (entry_of m fields) refl
    where
      go : (o : Option (List ℤ)) → entry_of m fields ≡ o → Decides (Wrong m [] (some fields)) (is_none o)
      go none e = so (λ gs zs q g. none_some (sym e ∙ ap (entry_of m) (some_is q) ∙ (entry_grammar m gs zs).0 g))
      go (some zs) e = not_so (λ n. n fields zs refl ((entry_grammar m fields zs).1 e))

  -- the place in a text under its header
  abbrev first_wrong : Records → ℕ
  first_wrong t = first_fault is_none (map (entry_in m) t)

  behind_header : (t : Records) (k : ℕ) → FirstAt (Wrong m) t k ↔ (first_wrong t ≡ suc k)
  unfolding wrong
  behind_header t k =
      let e = of_map is_none (entry_in m) t in
      let g = first_alone (Wrong m []) wrong wrong_told t k in
      ((λ f. e ∙ g.0 f), λ h. g.1 (sym e ∙ h))

form_under : (o : Option Header) (t : Records) → form_fault o t ≡ under Wrong first_wrong behind_header o t
unfolding form_fault under entries_in
form_under none t = refl
form_under (some h) t = refl

pub fault_read : {t : Records} {k : ℕ} → FaultAt Wrong t k → form_fault (header_in t) t ≡ k
fault_read {t} f = form_under (header_in t) t ∙ under_read Wrong first_wrong behind_header f

pub form_faults : FormFaults
form_faults t k = (fault_read, λ e. under_found Wrong first_wrong behind_header t k (sym (form_under (header_in t) t) ∙ e))
