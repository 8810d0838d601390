use Rattle.clocks.proofs.unsettled.list_of_send.Goals as goal

pub list_in_group-requires-clause-rising : goal.list_in_group-requires-clause-rising
list_in_group-requires-clause-rising c = c.requires.listing.rising c.group_of-named.result

pub list_in_group-requires-2-clause-rising : goal.list_in_group-requires-2-clause-rising
list_in_group-requires-2-clause-rising c = c.requires.listing.rising c.group_of-any.result
