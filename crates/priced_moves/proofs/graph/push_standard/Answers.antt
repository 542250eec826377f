use Rattle.std.proofs.Common.{◌≡◌, ◌∷◌, [], ◌++◌, true, sym, ◌∙◌, rules}
use Rattle.action_table.specs.declared.action.Action.TheVariants.{StandardTouch}
use Rattle.priced_moves.specs.Moves.{is_move_of}
use Rattle.priced_moves.proofs.Trails.{standard-pushed}
use Rattle.priced_moves.proofs.graph.push_standard.Goals as goal

pub returns-in_ok-push_last : goal.returns-in_ok-push_last
returns-in_ok-push_last c =
    let may : is_move_of c.args.terms.now.settings c.args.trail.now.at StandardTouch ≡ true = sym c.is_move.ensures.value ∙ c.if-is_move.true in
    let pushed : c.push.new.self.items ≡ c.args.edges.now.items ++ c.end.result ∷ [] = search rules in
    standard-pushed c.args.terms.now.prices c.args.terms.now.settings c.args.terms.now.units c.args.trail.now c.walk-next.result c.args.edges.now.items c.push.new.self.items c.push_last.new.edges.items c.end.result may c.requires.combo c.walk-next.ensures.value c.end.ensures pushed (c.in_ok-push_last.ensures 0)

pub push_last-requires-clause-short : goal.push_last-requires-clause-short
push_last-requires-clause-short c = c.walk-next.ensures.short 1 c.requires.short
