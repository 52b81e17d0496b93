-- The examination as docs/SCOPE.md, 'Cancellations', says it (request M-105), with no search and no bound on its steps: which monomial comes next is said of
-- all monomials. No contract cites this; `examination` and `cancellations_only` (proofs/cancellations/Counted) join it to what is computed.
use Rattle.std.specs.Prelude.{◌≡◌, List, []}
use Rattle.residue.specs.Lists.{Among}
use Rattle.specification.specs.Space.{Space, Less, Divides}
use Rattle.specification.specs.Cancellations.{Found, found, examined}

module _ (D : Space) where
  open D use {Mono, Pt, one}

  -- no monomial of the list divides a
  abbrev pub Undivided : List Mono → Mono → Type 0
  Undivided leads a = (b : Mono) → Among b leads → ¬ Divides D b a

  -- b is examined after c: the least of all monomials above c that are no multiples of leads already found
  pub record Follows (leads : List Mono) (c b : Mono) : Type 0 where
    pub after : Less D c b
    pub undivided : Undivided leads b
    pub least : (a : Mono) → Less D c a → Undivided leads a → ¬ Less D a b

  -- the examination leads to g from f, when c was the last
  pub data Examines (S : List Pt) (g : Found D) : Mono → Found D → Type 0 where
    -- every monomial above c is a multiple of a lead
    done : {c : Mono} {f : Found D} → ((a : Mono) → Less D c a → ¬ Undivided f.leads a) → f ≡ g → Examines S g c f
    more : {c : Mono} {f : Found D} (b : Mono) → Follows f.leads c b → Examines S g b (examined D S b f) → Examines S g c f

  -- from 1 on
  abbrev pub Examination : List Pt → Found D → Type 0
  Examination S g = Examines S g one (examined D S one (found D [] [] [] 0))
