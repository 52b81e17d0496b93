-- What the run of a time course answers, said and not computed (document 02, M-111).
use Rattle.std.specs.Prelude.{◌≡◌, ◌≢◌, Option, Some, None, List, ℕ, ◌-◌, ◌≤◌, ◌<◌}
use Rattle.courses.specs.declared.returns.Return.{Return}
use Rattle.courses.specs.TimeCourse.{times, return_at}

module _ (f : List ℕ → List ℕ) (P : List ℕ) where
  -- no state comes twice before step k
  abbrev pub NoneBefore : ℕ → Type 0
  NoneBefore k = (i j : ℕ) → i < j → j < k → times i f P ≢ times j f P

  -- step k is 'the first that gives a state met before', d steps ago
  pub record FirstReturn (most k d : ℕ) : Type 0 where
    pub some : 1 ≤ d
    pub within : d ≤ k
    pub soon : k ≤ most
    pub again : times k f P ≡ times (k - d) f P
    pub first : NoneBefore k

  pub data Ends (most : ℕ) : Option Return → Type 0 where
    comes : (k d : ℕ) → FirstReturn most k d → Ends most (Some (return_at k d))
    never : ((i j : ℕ) → i < j → j ≤ most → times i f P ≢ times j f P) → Ends most None
