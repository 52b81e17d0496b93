-- `lists::put_before` meets its contract.
use Rattle.writing.proofs.appending.Appends.{put_nothing}
use Rattle.json_text.proofs.ArrayRuns.{before_first, before_other}
use Rattle.json_text.proofs.lists.put_before.Goals as goal

pub returns-then-i-eq0 : goal.returns-then-i-eq0
returns-then-i-eq0 c = rw (before_first _ c.if-i-eq0.true) (put_nothing _ _)

pub put_byte-requires : goal.put_byte-requires
put_byte-requires c = rw (before_other _ c.if-i-eq0.false) at c.requires

pub returns : goal.returns
returns c = rw (before_other _ c.if-i-eq0.false) c.put_byte.ensures
