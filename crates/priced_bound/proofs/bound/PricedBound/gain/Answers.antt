use Rattle.std.proofs.Common.{◌∙◌, ap, sym}
use Rattle.craft_state.specs.declared.Combo.TheVariants.{Basic, Standard}
use Rattle.priced_moves.specs.Moves.{SeenFields}
use Rattle.priced_bound.proofs.Asked.{gain-told}
use Rattle.priced_bound.proofs.Lists.{combo-listed, combo-leads}
use Rattle.priced_bound.proofs.bound.PricedBound.gain.Goals as goal

pub greatest-requires-clause-edges : goal.greatest-requires-clause-edges
greatest-requires-clause-edges c =
    let i = c.self.inside in
    let inv = c.self.invariant in
    combo-leads c.args.self.now i.reckoning i.top c.args.x.now c.as_slice.result.now c.self.view_is inv.reckoned c.requires.number.within
    (combo-listed c.args.self.now i.reckoning i.top Basic i.basic.items c.args.node c.index.result.now c.args.x.now c.as_slice.result.now c.self.view_is
    inv.basic (sym (ap (λ (y : SeenFields). y.combo) c.x.view_is) ∙ c.in-Basic.is) c.requires.number
    c.index.ensures c.as_slice.ensures.value)

pub returns-in-Basic : goal.returns-in-Basic
returns-in-Basic c =
    let i = c.self.inside in
    let inv = c.self.invariant in
    gain-told c.args.self.now i.reckoning i.top c.args.budget c.args.x.now _ c.at-plain.result c.greatest.result c.as_slice.result.now c.self.view_is c.x.view_is inv.reckoned c.requires.number.within c.at-plain.ensures
    (combo-listed c.args.self.now i.reckoning i.top Basic i.basic.items c.args.node c.index.result.now c.args.x.now c.as_slice.result.now c.self.view_is
    inv.basic (sym (ap (λ (y : SeenFields). y.combo) c.x.view_is) ∙ c.in-Basic.is) c.requires.number
    c.index.ensures c.as_slice.ensures.value)
    c.greatest.ensures

pub greatest-requires-in-Standard-clause-edges : goal.greatest-requires-in-Standard-clause-edges
greatest-requires-in-Standard-clause-edges c =
    let i = c.self.inside in
    let inv = c.self.invariant in
    combo-leads c.args.self.now i.reckoning i.top c.args.x.now c.as_slice-in-Standard.result.now c.self.view_is inv.reckoned c.requires.number.within
    (combo-listed c.args.self.now i.reckoning i.top Standard i.standard.items c.args.node c.index-in-Standard.result.now c.args.x.now c.as_slice-in-Standard.result.now c.self.view_is
    inv.standard (sym (ap (λ (y : SeenFields). y.combo) c.x.view_is) ∙ c.in-Standard.is) c.requires.number
    c.index-in-Standard.ensures c.as_slice-in-Standard.ensures.value)

pub returns-in-Standard : goal.returns-in-Standard
returns-in-Standard c =
    let i = c.self.inside in
    let inv = c.self.invariant in
    gain-told c.args.self.now i.reckoning i.top c.args.budget c.args.x.now _ c.at-plain.result c.greatest-in-Standard.result c.as_slice-in-Standard.result.now c.self.view_is c.x.view_is inv.reckoned c.requires.number.within c.at-plain.ensures
    (combo-listed c.args.self.now i.reckoning i.top Standard i.standard.items c.args.node c.index-in-Standard.result.now c.args.x.now c.as_slice-in-Standard.result.now c.self.view_is
    inv.standard (sym (ap (λ (y : SeenFields). y.combo) c.x.view_is) ∙ c.in-Standard.is) c.requires.number
    c.index-in-Standard.ensures c.as_slice-in-Standard.ensures.value)
    c.greatest-in-Standard.ensures
