use Rattle.std.proofs.Common.{◌≡◌, ◌++◌, drop, string_bytes}
use Rattle.std.specs.List.{flat_map}
use Rattle.certificate_text.specs.Text.{best_line}
use Rattle.front_check.specs.Named.{action_word}
use Rattle.front_check.proofs.naming.print_best.Given as goal

abbrev pub invariant-loop-action : goal.invariant-loop-action
invariant-loop-action l = string_bytes l.text ++ flat_map action_word (drop l.action-index l.actions) ≡ best_line l.actions
