-- `looking::look` meets its contract: at each return the tests that led there decide the refusal.
use borrow.Author.Tests.{ltb-false}
use mathlib.Core.Path.{◌≡◌, refl, sym, ap, ◌∙◌}
use mathlib.Core.Bool.{Bool, true, false, true≢false, ◌||◌}
use Prim.Native.Nat.{ℕ, ◌≤◌}
use native.Mathlib.Omega.{arith}
use lib.Dec.{ltb}
use Rattle.std.proofs.lemmas.Result.{err_from_is_err_and}
use Rattle.residue.proofs.level.Moduli.{modulus_range}
use Rattle.residue.proofs.Tests.{neither}
use Rattle.specification.specs.Answers.{number_of, refusal_of}
use Rattle.specification.specs.Lent.{lent}
use Rattle.specification.specs.Settings.{settings_cases}
use Rattle.specification.specs.Tables.{too_short}
use Rattle.specification.proofs.Cases.{sizes_are}
use Rattle.recognition.proofs.settings.BySize.{Passed, passed}
use Rattle.recognition.proofs.looking.Looks.{look_sizes, inside, told_size, told_outside, told_judged}
use Rattle.recognition.proofs.looking.look.Goals as goal
use Rattle.recognition.proofs.looking.look.Goals.{After-by_sizes, In_ok-by_sizes, Start, then-faults, else-faults, then-faults-2, else-faults-2, then-within_variables, else-within_variables, Then-not-inside, Else-not-inside}

-- the refusals on lengths and counts
module _ (d : After-by_sizes) where
  abbrev start : Start
  start = (goal.at.After-by_sizes d).Start

  abbrev sizes_of : ℕ
  sizes_of = look_sizes start.args.settings start.args.n start.args.r (lent start.args.tables) start.args.faults start.args.numbers.now start.args.exponents.now

  short : d.if-faults.by_sizes ≡ (start.args.faults.short || too_short (lent start.args.tables))
  short = elim d.if-faults.branch [ then-faults w ↦ simp (w.by_sizes-is, w.if-faults.true) | else-faults w ↦ simp (w.by_sizes-is, w.if-faults.false, w.too_short.ensures) ]

  many : d.if-faults-2.by_sizes ≡ (start.args.faults.many || ltb 64 start.args.n)
  many = elim d.if-faults-2.branch [ then-faults-2 w ↦ simp (w.by_sizes-is, w.if-faults-2.true) | else-faults-2 w ↦ simp (w.by_sizes-is, w.if-faults-2.false) ]

  sized : refusal_of d.by_sizes.result ≡ sizes_of
  sized = d.by_sizes.ensures ∙ sizes_are (settings_cases start.args.settings) short refl many

-- none of them holds
module _ (e : In_ok-by_sizes) where
  abbrev s : Start
  s = start (goal.at.In_ok-by_sizes e).After-by_sizes

  fine : sizes_of (goal.at.In_ok-by_sizes e).After-by_sizes ≡ 0
  unfolding refusal_of
  fine = sym (sized (goal.at.In_ok-by_sizes e).After-by_sizes) ∙ ap refusal_of (e.in_ok-by_sizes.was)

  room : Passed s.args.settings (s.args.faults.short || too_short (lent s.args.tables)) s.args.faults.wrong (s.args.faults.many || ltb 64 s.args.n)
  room = passed _ _ _ _ fine

  few : s.args.n ≤ 64
  few = ltb-false 64 _ (neither s.args.faults.many _ room.few).1

-- behind them: whether the numbers are in range and no variable above m occurs
abbrev asked : In_ok-by_sizes → Bool
asked e = inside (s e).args.settings (s e).args.n (s e).args.r (lent (s e).args.tables) (s e).args.faults (s e).args.numbers.now (s e).args.exponents.now

outside : (c : Then-not-inside) → asked (goal.at.Then-not-inside c).In_ok-by_sizes ≡ false
outside c = elim c.if-within_variables.branch [
  | then-within_variables w ↦ simp (← c.within_variables.ensures, w.if-within_variables.true, ← w.in_range-inside.ensures, ← w.inside-is, c.if-not-inside.true)
  | else-within_variables w ↦ simp (← c.within_variables.ensures, w.if-within_variables.false)
]

within : (c : Else-not-inside) → asked (goal.at.Else-not-inside c).In_ok-by_sizes ≡ true
within c = elim c.if-within_variables.branch [
  | then-within_variables w ↦ simp (← c.within_variables.ensures, w.if-within_variables.true, ← w.in_range-inside.ensures, ← w.inside-is, c.if-not-inside.false)
  | else-within_variables w ↦ absurd (true≢false (sym c.if-not-inside.false ∙ w.inside-is ∙ w.if-within_variables.false))
]

pub returns-in_err-by_sizes : goal.returns-in_err-by_sizes
unfolding refusal_of
returns-in_err-by_sizes c =
    let s = start (goal.at.returns-in_err-by_sizes c).After-by_sizes in
    let p = err_from_is_err_and c.from_residual.result c.from_residual.ensures.1 in
    let whole = told_size s.args.settings s.args.n s.args.r (lent s.args.tables) s.args.faults s.args.numbers.now s.args.exponents.now s.args.points.now s.args.rows.now s.args.pivots.now
    c.in_err-by_sizes.field-0.0 (ap refusal_of (sym (c.in_err-by_sizes.was)) ∙ sized (goal.at.returns-in_err-by_sizes c).After-by_sizes) in
    rw (p.1, p.2) (record { value = whole.0; looked = whole.1 })

pub within_variables-requires : goal.within_variables-requires
within_variables-requires c = (room c).settings.few

pub overflow_cast-settings : goal.overflow_cast-settings
overflow_cast-settings c = let e = (goal.at.overflow_cast-settings c).In_ok-by_sizes in omega (arith, modulus_range (s e).args.settings.modulus (room e).settings.modulus)

pub returns-then-not-inside : goal.returns-then-not-inside
unfolding refusal_of number_of
returns-then-not-inside c =
    let e = (goal.at.returns-then-not-inside c).In_ok-by_sizes in
    let s = s e in
    let whole = told_outside s.args.settings s.args.n s.args.r (lent s.args.tables) s.args.faults s.args.numbers.now s.args.exponents.now s.args.points.now s.args.rows.now s.args.pivots.now
    (fine e) (outside c) in
    record { value = whole.0; looked = whole.1 }

pub recognise-requires : goal.recognise-requires
recognise-requires c =
    let e = (goal.at.recognise-requires c).In_ok-by_sizes in
    let s = s e in
    record { settings_value = ((room e).none, few e); counts_value = (neither s.args.faults.short _ (room e).long).1; points_value = s.requires }

pub returns-then-not-recognise : goal.returns-then-not-recognise
unfolding refusal_of number_of
returns-then-not-recognise c =
    let e = (goal.at.returns-then-not-recognise c).In_ok-by_sizes in
    let s = s e in
    let told = c.recognise.ensures in
    let whole = told_judged s.args.settings s.args.n s.args.r (lent s.args.tables) s.args.faults s.args.numbers.now s.args.exponents.now s.args.points.now s.args.rows.now s.args.pivots.now
    (fine e) (within (goal.at.returns-then-not-recognise c).Else-not-inside) (told.value, (told.points_after, (told.solves, told.pivots_after))) {k = 10} (simp c.if-not-recognise.true) in
    record { value = whole.0; looked = whole.1 }

pub returns : goal.returns
unfolding refusal_of
returns c =
    let e = (goal.at.returns c).In_ok-by_sizes in
    let s = s e in
    let told = c.recognise.ensures in
    let whole = told_judged s.args.settings s.args.n s.args.r (lent s.args.tables) s.args.faults s.args.numbers.now s.args.exponents.now s.args.points.now s.args.rows.now s.args.pivots.now
    (fine e) (within (goal.at.returns c).Else-not-inside) (told.value, (told.points_after, (told.solves, told.pivots_after))) {k = 0} (simp c.if-not-recognise.false) in
    record { value = whole.0; looked = whole.1 }
