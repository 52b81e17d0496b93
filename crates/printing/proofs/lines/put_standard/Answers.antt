-- `lines::put_standard` meets its contract. The loop has put the lines so far.
use mathlib.Core.List.{map, flatten}
use native.Mathlib.Omega.{arith}
use lib.ListN.{take}
use Rattle.std.proofs.lemmas.List.{get_or_default}
use Rattle.printing.specs.Lines.{standard_word, line, standard_lines}
use Rattle.writing.proofs.appending.Appends.{put_nothing, turn_room, turn, turns_all}
use Rattle.printing.proofs.lines.TableLines.{lines_length, lines_at}
use Rattle.printing.proofs.lines.put_standard.Goals as goal

pub loop-monomial-init : goal.loop-monomial-init
unfolding flatten
loop-monomial-init c = put_nothing _ _

pub put_line-next-requires : goal.put_line-next-requires
unfolding standard_lines
put_line-next-requires c =
    let l = c.args.standard.now in
    let i = c.loop-monomial.monomial-index in
    turn_room (map (line standard_word) (map (take c.args.m) l)) i _ (omega (arith, lines_length standard_word c.args.m l)) (lines_at standard_word c.args.m l i _ c.loop-monomial-test.true (get_or_default l i _ _ c.loop-monomial-test.true)) c.loop-monomial.invariant c.requires.room

pub loop-monomial-preserved : goal.loop-monomial-preserved
unfolding standard_lines
loop-monomial-preserved c =
    let l = c.args.standard.now in
    let i = c.loop-monomial.monomial-index in
    turn (map (line standard_word) (map (take c.args.m) l)) i _ (omega (arith, lines_length standard_word c.args.m l)) (lines_at standard_word c.args.m l i _ c.loop-monomial-test.true (get_or_default l i _ _ c.loop-monomial-test.true)) c.loop-monomial.invariant c.requires.room c.put_line-next.ensures

pub returns : goal.returns
unfolding standard_lines
returns c = turns_all (map (line standard_word) (map (take c.args.m) c.args.standard.now)) c.loop-monomial.monomial-index (omega (arith, lines_length standard_word c.args.m c.args.standard.now)) c.loop-monomial.invariant
