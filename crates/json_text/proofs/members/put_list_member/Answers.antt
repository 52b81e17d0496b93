-- `members::put_list_member` meets its contract.
use Rattle.writing.proofs.appending.Appends.{put_more}
use Rattle.json_text.proofs.members.put_list_member.Goals as goal

pub returns : goal.returns
returns c = put_more c.put_word-next.ensures c.requires c.put_list.ensures
