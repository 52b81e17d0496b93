-- `naming::locate` meets its contract: it is refused with the number of the look, or the point and its place are found.
use mathlib.Core.Path.{◌≡◌, sym, ap, ◌∙◌}
use mathlib.Core.Bool.{false}
use mathlib.Core.List.{List, []}
use Prim.Native.Nat.{ℕ}
use native.Mathlib.Omega.{arith}
use lib.ListN.{length}
use lib.Dec.{eqb}
use borrow.Author.Tests.{ne_eqb}
use Rattle.std.proofs.lemmas.Result.{err_from_is_err_and}
use Rattle.residue.specs.Layout.{fill, in_places, over, length_fill}
use Rattle.residue.proofs.level.Moduli.{modulus_range}
use Rattle.residue.proofs.Places.{over_zeros}
use Rattle.specification.specs.Answers.{number_of, refusal_of}
use Rattle.specification.specs.Lent.{lent}
use Rattle.specification.specs.Levels.{residues}
use Rattle.specification.specs.Tables.{Tables, points_in}
use Rattle.specification.proofs.agreement.Points.{length_residues}
use Rattle.recognition.specs.Naming.{naming_faults, naming_refusal}
use Rattle.recognition.proofs.settings.ByNumber.{number_above_0}
use Rattle.recognition.proofs.looking.Looks.{Open, points_there}
use Rattle.recognition.proofs.naming.PointAtHand.{opened, named_long, place_is}
use Rattle.recognition.proofs.naming.locate.Goals as goal
use Rattle.recognition.proofs.naming.locate.Goals.{After-look, After-place_of, After-put_residues, In_ok-look, Start}

-- the lent tables
abbrev tables : Start → Tables
tables s = lent s.args.tables

-- the named point, and the points of the tables
abbrev named : Start → List ℕ
named s = residues s.args.settings.modulus s.args.levels.now

abbrev olds : Start → List (List ℕ)
olds s = points_in s.args.settings s.args.n s.args.tables.states.now

-- the look at the tables
abbrev start : After-look → Start
start d = (goal.at.After-look d).Start

-- nothing refuses
module _ (e : In_ok-look) where
  abbrev d : After-look
  d = (goal.at.In_ok-look e).After-look

  abbrev s : Start
  s = start d

  none : naming_refusal s.args.settings s.args.n s.args.r (tables s) s.args.levels.now ≡ 0
  unfolding refusal_of
  none = sym d.look.ensures.value ∙ ap refusal_of e.in_ok-look.was

  good : Open s.args.settings s.args.n s.args.r (tables s) (naming_faults s.args.settings s.args.levels.now) s.args.levels.now []
  good = opened s.args.settings s.args.n s.args.r (tables s) s.args.levels.now none

  long : length s.args.levels.now ≡ s.args.settings.variables
  long = named_long s.args.settings s.args.n s.args.r (tables s) s.args.levels.now none

  table : d.look.new.points ≡ fill 512 (in_places 8 (olds s))
  unfolding refusal_of
  table = points_there d.look.ensures.looked (ap refusal_of e.in_ok-look.was)

-- the point is in its place
module _ (w : After-put_residues) where
  abbrev e : In_ok-look
  e = (goal.at.After-put_residues w).In_ok-look

  put : w.put_residues.new.to ≡ fill 8 (named (s e))
  put =
      w.put_residues.ensures ∙ ap (over (named (s e))) (s e).requires.1.1
      ∙ over_zeros (named (s e)) 8 (omega (arith, length_residues (s e).args.settings.modulus (s e).args.levels.now, long e, (good e).settings.few))

pub returns-in_err-look : goal.returns-in_err-look
unfolding refusal_of
returns-in_err-look c =
    let p = err_from_is_err_and c.from_residual.result c.from_residual.ensures.1 in
    let no : eqb (number_of c.in_err-look.field-0.0) 0 ≡ false = ne_eqb _ 0 (number_above_0 c.in_err-look.field-0.0) in
    rw (p.1, p.2) (record {
      refusal = c.in_err-look.ensures.value;
      place = λ k q. cc;
      looked = c.in_err-look.ensures.looked;
      residue = simp no;
    })

pub overflow_cast-settings : goal.overflow_cast-settings
overflow_cast-settings c =
    let e = (goal.at.overflow_cast-settings c).In_ok-look in
    omega (arith, modulus_range (s e).args.settings.modulus (good e).settings.modulus)

pub put_residues-requires : goal.put_residues-requires
put_residues-requires c =
    let e = (goal.at.put_residues-requires c).In_ok-look in
    omega (arith, long e, (good e).settings.few, ap length c.requires.1.1)

pub place_of-requires : goal.place_of-requires
place_of-requires c =
    let w = (goal.at.place_of-requires c).After-put_residues in
    record { n_in_bounds = omega (arith, (good (e w)).few, ap length (table (e w)) ∙ length_fill 512 _); point_len = ap length (put w) ∙ length_fill 8 _ }

pub returns : goal.returns
unfolding refusal_of
returns c =
    let w = (goal.at.returns c).After-put_residues in
    let x = e w in
    record {
      refusal = c.in_ok-look.ensures.value;
      place = λ k q. let same : c.place_of.result ≡ k = cc in
          sym same ∙ c.place_of.ensures ∙ place_is c.args.settings c.args.n c.args.r (tables (s x)) c.args.levels.now (none x) (table x) (put w);
      looked = c.in_ok-look.ensures.looked;
      residue = put w;
    }
