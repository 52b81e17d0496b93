-- One monomial examined: what has been found stays the basis up to the last monomial, and each monomial costs at most a cancellation for each point.
use mathlib.Core.Path.{◌≡◌}
use mathlib.Core.Bool.{Bool, cond}
use mathlib.Core.List.{List, [], ◌∷◌, ◌++◌}
use Prim.Native.Nat.{ℕ, suc, ◌+◌, ◌*◌, ◌≤◌}
use native.Mathlib.Omega.{arith}
use lib.ListN.{length, length-append}
use Rattle.residue.specs.Lists.{Among}
use Rattle.specification.specs.Space.{Space}
use Rattle.specification.specs.Polynomial.{Distinct}
use Rattle.specification.specs.BasisOf.{standard_of, leads_of}
use Rattle.specification.proofs.ideal.Laws.{Laws}
use Rattle.residue.proofs.Tests.{Decides, so, not_so}
use Rattle.specification.proofs.drawing.UpTo.{Drawn, Bordered, Front, is_lead, is_standard}
use Rattle.specification.specs.Cancellations.{meeting, meets_all, Found, found, value_column, pivot_of, settled, examined}
use Rattle.specification.proofs.cancellations.Shown.{shown, Vanishing, vanishing_told}
use Rattle.specification.proofs.cancellations.Meetings.{meets_all_count}
use Rattle.specification.proofs.cancellations.Decisions.{Holds, rest, column_left, zero_spanned, other_unspanned, holds_more}

module _ (D : Space) (L : Laws D) (S : List D.Pt) (d : Distinct D S) where
  open D use {q, Mono, Pt}

  -- how many monomials have been examined
  abbrev pub size : Found D → ℕ
  size f = length f.standard + length f.leads

  -- what has been found when c was examined last
  pub record Standing (f : Found D) (c : Mono) : Type 0 where
    pub drawn : Drawn D S f.standard f.leads c
    pub holds : Holds D S f.standard f.pivots
    pub paired : length f.pivots ≡ length f.standard
    pub few : f.cancellations ≤ length S * size f

  -- one monomial more: as a lead or as a standard monomial, according to the column left
  module _ (f : Found D) (b : Mono) (holds : Holds D S f.standard f.pivots) (paired : length f.pivots ≡ length f.standard) (few : f.cancellations ≤ length S * size f)
      (room : length f.standard ≤ length S) (front : Front D S f.standard b) (bordered : Bordered D f.standard b)
      (as_standard : Among b (standard_of D S) → Drawn D S (f.standard ++ (b ∷ [])) f.leads b) (as_lead : Among b (leads_of D S) → Drawn D S f.standard (f.leads ++ (b ∷ [])) b) where
    abbrev left : Pt → ℕ
    left = rest D S L f.standard f.pivots holds b

    abbrev n : ℕ
    n = (meets_all q f.pivots (meeting (value_column D S b) 0)).cancellations

    abbrev Examined : Found D → Type 0
    Examined g = Standing g b × (size g ≡ suc (size f))

    pub examined_standing : Examined (examined D S b f)
    unfolding examined settled
    examined_standing = rw (column_left D S L f.standard f.pivots holds b 0) (go (vanishing_told q left S))
      where
        more : (g : ℕ) → g ≡ suc (size f) → f.cancellations + n ≤ length S * g
        more g e = rw e (omega (arith, few, room, paired, meets_all_count q f.pivots (meeting (value_column D S b) 0)))

        go : {z : Bool} → Decides (Vanishing q left S) z
            → Examined (cond z (found D f.standard (f.leads ++ (b ∷ [])) f.pivots (f.cancellations + n))
            (found D (f.standard ++ (b ∷ [])) f.leads (f.pivots ++ (pivot_of D (shown q left S) ∷ [])) (f.cancellations + n)))
        go (so h) =
            let e : length f.standard + length (f.leads ++ (b ∷ [])) ≡ suc (size f) = omega (arith, length-append f.leads (b ∷ [])) in (
              record {
                drawn = as_lead (is_lead D L S d f.standard b front bordered (zero_spanned D S L f.standard f.pivots holds b h));
                holds = holds;
                paired = paired;
                few = more _ e;
              },
              e,
            )
        go (not_so h) =
            let e : length (f.standard ++ (b ∷ [])) + length f.leads ≡ suc (size f) = omega (arith, length-append f.standard (b ∷ [])) in (
              record {
                drawn = as_standard (is_standard D L S d f.standard b front (other_unspanned D S L f.standard f.pivots holds b h));
                holds = holds_more D S L f.standard f.pivots holds b h front.new;
                paired = omega (arith, length-append f.standard (b ∷ []), length-append f.pivots (pivot_of D (shown q left S) ∷ []), paired);
                few = more _ e;
              },
              e,
            )
