-- The grammar of a text, said and not computed: RFC 4180 with LF accepted as well as CRLF (docs/SCOPE.md, 'Reading text'). Its bytes are written as numbers:
-- 44 is the comma, 34 the quote, 13 is CR and 10 LF. It does not take them from Fields by name, so that a wrong byte there does not go unnoticed.
use Rattle.std.specs.Prelude.{◌≡◌, cond, List, [], ◌∷◌, ◌++◌, map, ◌≢◌, ◌↔◌, ℕ, eqb}
use Rattle.std.proofs.Math.Option.{some, none}
use Rattle.residue.specs.Lists.{Among}
use Rattle.notation.specs.Fields.{records_of}

-- each quote doubled
unfoldable pub doubled : List ℕ → List ℕ
doubled [] = []
doubled (b ∷ l) = cond (eqb b 34) (34 ∷ 34 ∷ doubled l) (b ∷ doubled l)

-- no comma, quote, CR or LF
abbrev pub Plain : List ℕ → Type 0
Plain c = (b : ℕ) → Among b c → (b ≢ 44) × (b ≢ 34) × (b ≢ 13) × (b ≢ 10)

-- these bytes are a field of this content
pub data IsField : List ℕ → List ℕ → Type 0 where
  bare : {c : List ℕ} → Plain c → IsField c c
  enclosed : {c : List ℕ} → IsField (34 ∷ (doubled c ++ (34 ∷ []))) c

-- one field or more, with commas between them
pub data IsRecord : List ℕ → List (List ℕ) → Type 0 where
  single : {b c : List ℕ} → IsField b c → IsRecord b (c ∷ [])
  joined : {b c bs : List ℕ} {cs : List (List ℕ)} → IsField b c → IsRecord bs cs → IsRecord (b ++ (44 ∷ bs)) (c ∷ cs)

-- LF or CRLF
pub data IsBreak : List ℕ → Type 0 where
  feed : IsBreak (10 ∷ [])
  return_feed : IsBreak (13 ∷ 10 ∷ [])

-- records with their breaks at the front of a text, and what is behind them
pub data Complete : List ℕ → List (List (List ℕ)) → List ℕ → Type 0 where
  done : {rest : List ℕ} → Complete rest [] rest
  next : {b e l rest : List ℕ} {fs : List (List ℕ)} {rs : List (List (List ℕ))}
      → IsRecord b fs → IsBreak e → Complete l rs rest → Complete (b ++ (e ++ l)) (fs ∷ rs) rest

-- the text is these records, the last of them with a break or without
pub data IsText : List ℕ → List (List (List ℕ)) → Type 0 where
  ended : {l : List ℕ} {rs : List (List (List ℕ))} → Complete l rs [] → IsText l rs
  unended : {l b : List ℕ} {fs : List (List ℕ)} {rs : List (List (List ℕ))}
      → Complete l rs b → b ≢ [] → IsRecord b fs → IsText l (rs ++ (fs ∷ []))

-- behind these records stands one that breaks the grammar: what is left is not at its end, is no record and begins with none that has a break
pub record BreaksAfter (l : List ℕ) (rs : List (List (List ℕ))) : Type 0 where
  pub rest : List ℕ
  pub before : Complete l rs rest
  pub more : rest ≢ []
  pub none_last : (fs : List (List ℕ)) → ¬ IsRecord rest fs
  pub none_front : (b e l' : List ℕ) (fs : List (List ℕ)) → rest ≡ b ++ (e ++ l') → IsRecord b fs → ¬ IsBreak e

-- `records_of` reads exactly the texts of the grammar, each as its records
abbrev pub TextGrammar : Type 0
TextGrammar = (l : List ℕ) (rs : List (List (List ℕ))) → IsText l rs ↔ (records_of l ≡ map some rs)

-- and in any other text it reads the records before the first that breaks the grammar
abbrev pub TextBreaks : Type 0
TextBreaks = (l : List ℕ) (rs : List (List (List ℕ))) → BreaksAfter l rs ↔ (records_of l ≡ map some rs ++ (none ∷ []))
