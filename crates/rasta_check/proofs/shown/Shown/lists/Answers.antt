use Rattle.rasta_check.proofs.Middle.ShownLists.{lists_of_kept, lists_of_seen}
use Rattle.rasta_check.proofs.shown.Shown.lists.Goals as goal

pub returns : goal.returns
returns c p packets h =
    lists_of_seen p packets c.args.self.now _ h
    (lists_of_kept c.args.self.now _ c.in_ok-data.ensures c.in_ok-data-2.ensures c.in_ok-resent.ensures c.in_ok-resent-2.ensures)
    c.unwrap_or.ensures
