use Rattle.std.proofs.Common.{◌≡◌, map}
use Rattle.action_table.specs.Table.{key_of}
use Rattle.solve_words.proofs.done.done_in.Given as goal

-- the names so far are those of the actions so far
abbrev pub invariant-loop-name : goal.invariant-loop-name
invariant-loop-name l = map key_of l.actions.items ≡ map (λ name. name.now) l.yielded
