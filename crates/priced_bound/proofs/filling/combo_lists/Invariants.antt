use Rattle.priced_bound.specs.Tables.{AreComboLists}
use Rattle.priced_bound.proofs.filling.combo_lists.Given as goal

abbrev pub invariant-loop-node : goal.invariant-loop-node
invariant-loop-node l = AreComboLists l.r l.combo l.node l.lists.items
