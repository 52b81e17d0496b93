-- The form of a text, said and not computed: what a text of right form says, and the record of refusal 2, the earliest that breaks the rules of the text
-- (docs/SCOPE.md, 'Reading text' and 'Refused, in this order of checking').
use Rattle.std.specs.Prelude.{◌≡◌, List, [], ◌∷◌, ◌++◌, map, ◌↔◌, ℕ, suc, ℤ, length}
use Rattle.std.proofs.Math.Option.{Option, some, none}
use Rattle.notation.specs.Forms.{Header}
use Rattle.notation.specs.Grammar.{IsText, BreaksAfter}
use Rattle.notation.specs.FormGrammar.{IsEntry, IsHeader}
use Rattle.comma_text.specs.reading.Text.{header_in, form_fault}

-- The first of a list that has a fault, where those before it may have a part in that: k stand before it, and none of these has one.
pub record FirstAt {A : Type 0} (Fault : List A → A → Type 0) (l : List A) (k : ℕ) : Type 0 where
  pub before : List A
  pub bad : A
  pub after : List A
  pub made : l ≡ before ++ (bad ∷ after)
  pub count : length before ≡ k
  pub fault : Fault before bad
  pub none_earlier : (b : List A) (a : A) (c : List A) → before ≡ b ++ (a ∷ c) → ¬ Fault b a

-- records behind a header of m names, each with its m levels and one value
pub data AreEntries (m : ℕ) : List (List (List ℕ)) → List (List ℤ) → Type 0 where
  no_entries : AreEntries m [] []
  entries : {fields : List (List ℕ)} {rs : List (List (List ℕ))} {zs : List ℤ} {E : List (List ℤ)}
      → IsEntry m fields zs → AreEntries m rs E → AreEntries m (fields ∷ rs) (zs ∷ E)

-- a text of right form, with what its header and the records behind it say
pub record Says (text : List ℕ) (h : Header) (E : List (List ℤ)) : Type 0 where
  pub first : List (List ℕ)
  pub behind : List (List (List ℕ))
  pub form : IsText text (first ∷ behind)
  pub header : IsHeader first h
  pub each : AreEntries h.variables behind E

-- A record of the text, `none` being the one that breaks the grammar, behind which nothing is looked at. Behind a header of m names it has the wrong form
-- where it broke the grammar, or is not m levels and one value.
abbrev pub Wrong : ℕ → List (Option (List (List ℕ))) → Option (List (List ℕ)) → Type 0
Wrong m before r = (fields : List (List ℕ)) (zs : List ℤ) → r ≡ some fields → ¬ IsEntry m fields zs

-- the record, from 1, at which records fail: there is none, the first is no header, or it is the first behind the header that has the wrong form, by those
-- before it; what that is, W says for a header of m names
pub data FaultAt (W : ℕ → List (Option (List (List ℕ))) → Option (List (List ℕ)) → Type 0) : List (Option (List (List ℕ))) → ℕ → Type 0 where
  empty : FaultAt W [] 1
  no_header_lem : {r : Option (List (List ℕ))} {t : List (Option (List (List ℕ)))}
      → ((fields : List (List ℕ)) (h : Header) → r ≡ some fields → ¬ IsHeader fields h) → FaultAt W (r ∷ t) 1
  no_entry : {fields : List (List ℕ)} {h : Header} {t : List (Option (List (List ℕ)))} {k : ℕ}
      → IsHeader fields h → FirstAt (W h.variables) t k → FaultAt W (some fields ∷ t) (suc (suc k))

-- the record at which a text fails
pub data TextFault (W : ℕ → List (Option (List (List ℕ))) → Option (List (List ℕ)) → Type 0) (text : List ℕ) (k : ℕ) : Type 0 where
  of_records : (rs : List (List (List ℕ))) → IsText text rs → FaultAt W (map some rs) k → TextFault W text k
  of_broken : (rs : List (List (List ℕ))) → BreaksAfter text rs → FaultAt W (map some rs ++ (none ∷ [])) k → TextFault W text k

-- the computed record of refusal 2 is the one at which records fail
abbrev pub FormFaults : Type 0
FormFaults = (t : List (Option (List (List ℕ)))) (k : ℕ) → FaultAt Wrong t (suc k) ↔ (form_fault (header_in t) t ≡ suc k)
