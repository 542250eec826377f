use Rattle.std.proofs.Common.{◌≡◌, ◌∷◌, [], ◌++◌, true, sym, ◌∙◌, rules}
use Rattle.priced_moves.specs.Moves.{is_move_of}
use Rattle.priced_moves.proofs.Trails.{first-pushed}
use Rattle.priced_moves.proofs.graph.push_first.Goals as goal

pub returns-in_ok-push_combo : goal.returns-in_ok-push_combo
returns-in_ok-push_combo c =
    let may : is_move_of c.args.terms.now.settings c.args.x.now c.args.action ≡ true = sym c.is_move.ensures.value ∙ c.if-is_move.true in
    let pushed : c.push.new.self.items ≡ c.args.edges.now.items ++ c.end.result ∷ [] = search rules in
    first-pushed c.args.terms.now.prices c.args.terms.now.settings c.args.terms.now.units c.args.x.now c.start.result c.walk-trail.result c.args.action c.args.edges.now.items c.push.new.self.items c.push_combo.new.edges.items c.end.result may c.start.ensures.value c.walk-trail.ensures.value c.end.ensures pushed c.in_ok-push_combo.ensures
