-- `lists::put_row` meets its contract.
use Rattle.writing.proofs.appending.Appends.{put_more}
use Rattle.json_text.proofs.lists.put_row.Goals as goal

pub returns : goal.returns
returns c = put_more c.put_before-next.ensures c.requires c.put_list.ensures
