-- `drawing::put_tables_under` meets its contract: accepted weights are at most 99.
use Rattle.specification.proofs.agreement.Refusals.{light_under}
use Rattle.packed.proofs.SequenceTables.{light_of}
use borrow.Author.Rules.{rules}
use Rattle.packed.proofs.drawing.put_tables_under.Goals as goal

pub put_tables-requires : goal.put_tables-requires
put_tables-requires c = let s = c in record { m_bound = (s.requires.accepted.0.few, (search rules, light_of s.args.settings.order _ s.requires.accepted.1 (light_under s.args.settings s.requires.accepted.0.weights))); bytes_len = s.requires.bytes_len; squares_len = s.requires.squares_len }

pub returns : goal.returns
returns c = record { sequence = c.put_tables.ensures.sequence; squares = c.put_tables.ensures.squares }
