use Rattle.std.proofs.Common.{◌≡◌, ◌∷◌, [], ◌++◌, true, sym, ◌∙◌, rules}
use Rattle.priced_moves.specs.Moves.{is_move_of}
use Rattle.priced_moves.proofs.Trails.{last-pushed}
use Rattle.priced_moves.proofs.graph.push_last.Goals as goal

pub returns-in_ok-push : goal.returns-in_ok-push
returns-in_ok-push c n =
    let may : is_move_of c.args.terms.now.settings c.args.trail.now.at c.args.action ≡ true = sym c.is_move.ensures.value ∙ c.if-is_move.true in
    let pushed : c.push.new.self.items ≡ c.args.edges.now.items ++ c.end.result ∷ [] = search rules in
    last-pushed n c.args.terms.now.prices c.args.terms.now.settings c.args.terms.now.units c.args.trail.now c.walk.result c.args.action c.args.edges.now.items c.push.new.self.items c.end.result may c.requires.last c.walk.ensures.value c.end.ensures pushed
