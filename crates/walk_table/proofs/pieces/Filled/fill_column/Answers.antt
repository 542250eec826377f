use Rattle.std.proofs.Common.{◌≡◌, ◌+◌, subst, arith}
use Rattle.walk_table.specs.Graph.{first_of}
use Rattle.walk_table.specs.Pieces.{FilledFields}
use Rattle.walk_table.proofs.Columns.{column_begun, column_ended}
use Rattle.walk_table.proofs.pieces.Filled.fill_column.Goals as goal

pub loop-k-init : goal.loop-k-init
loop-k-init c =
    let from : c.places_of-from.result.0 ≡ first_of c.args.self.now.graph c.args.node =
    subst (λ (t : FilledFields). c.places_of-from.result.0 ≡ first_of t.graph c.args.node) c.self.view_is c.places_of-from.ensures.from in
    column_begun c.args.self.now.graph c.args.budget c.args.node c.places_of-from.result.0 c.args.out.now c.begin.new.out c.begin.auto.out (omega arith) (λ need lt. c.begin.ensures need lt)

pub loop-k-preserved : goal.loop-k-preserved
loop-k-preserved c =
    let from : c.places_of-from.result.0 ≡ first_of c.args.self.now.graph c.args.node =
    subst (λ (t : FilledFields). c.places_of-from.result.0 ≡ first_of t.graph c.args.node) c.self.view_is c.places_of-from.ensures.from in
    let to : c.places_of-from.result.1 ≡ first_of c.args.self.now.graph (c.args.node + 1) =
    subst (λ (t : FilledFields). c.places_of-from.result.1 ≡ first_of t.graph (c.args.node + 1)) c.self.view_is c.places_of-from.ensures.to in
    c.take_in.ensures c.args.node (omega (arith, c.loop-k.auto.k)) (omega (arith, c.loop-k-test.true)) c.loop-k.invariant

pub returns : goal.returns
returns c =
    let to : c.places_of-from.result.1 ≡ first_of c.args.self.now.graph (c.args.node + 1) =
    subst (λ (t : FilledFields). c.places_of-from.result.1 ≡ first_of t.graph (c.args.node + 1)) c.self.view_is c.places_of-from.ensures.to in
    column_ended c.args.self.now.graph c.args.budget c.args.node c.loop-k.k c.loop-k.out (omega (arith, c.loop-k-test.false)) c.loop-k.invariant
