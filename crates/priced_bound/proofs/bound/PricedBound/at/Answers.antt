use Rattle.std.proofs.Common.{◌∙◌, sym}
use Rattle.priced_bound.proofs.Asked.{plain-told}
use Rattle.priced_bound.proofs.bound.PricedBound.at.Goals as goal

pub returns-in-Some : goal.returns-in-Some
returns-in-Some c =
    let i = c.self.inside in
    let inv = c.self.invariant in
    sym c.in-Some.is
    ∙ plain-told c.args.self.now i.reckoning i.top i.table c.args.budget c.args.node c.args.x.now _ c.at.result c.self.view_is c.x.view_is inv.reckoned
    inv.table c.requires.number c.at.ensures

pub returns-in-None : goal.returns-in-None
returns-in-None c =
    let i = c.self.inside in
    let inv = c.self.invariant in
    sym c.in-None.is
    ∙ plain-told c.args.self.now i.reckoning i.top i.table c.args.budget c.args.node c.args.x.now _ c.at.result c.self.view_is c.x.view_is inv.reckoned
    inv.table c.requires.number c.at.ensures
