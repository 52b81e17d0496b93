-- `members::put_rows_member` meets its contract.
use Rattle.writing.proofs.appending.Appends.{put_more}
use Rattle.json_text.proofs.members.put_rows_member.Goals as goal

pub returns : goal.returns
returns g c = put_more c.put_word-next.ensures c.requires.room c.put_rows.ensures
