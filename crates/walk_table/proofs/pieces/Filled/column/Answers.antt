use Rattle.std.proofs.Common.{◌≡◌, ◌+◌, ◌-◌, ◌*◌, ◌%◌, subst, arith, refl}
use Rattle.walk_table.specs.Pieces.{FilledFields, piece_nodes}
use Rattle.walk_table.proofs.Places.{column_of_part}
use Rattle.walk_table.proofs.pieces.Filled.column.Goals as goal

pub returns-clause-right : goal.returns-clause-right
returns-clause-right c =
    let at = c.args.node % piece_nodes * c.self.inside.needs in
    let width : (at + c.self.inside.needs) - at ≡ c.args.self.now.needs = subst (λ (t : FilledFields). (at + c.self.inside.needs) - at ≡ t.needs) c.self.view_is (omega arith) in
    let at_is : at ≡ c.args.node % piece_nodes * c.args.self.now.needs = subst (λ (t : FilledFields). at ≡ c.args.node % piece_nodes * t.needs) c.self.view_is refl in
    column_of_part c.args.self.now.graph c.args.self.now.needs c.args.budget c.args.node at ((at + c.self.inside.needs) - at) c.part-part.result.now c.requires.node at_is width c.part-part.ensures.part
