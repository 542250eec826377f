use Rattle.std.proofs.Common.{◌≡◌, rules}
use Rattle.craft_state.specs.declared.Combo.TheVariants.{NoCombo, Basic, Standard}
use Rattle.priced_moves.proofs.Trails.{combo_none-pushed, combo_basic-pushed, combo_standard-pushed}
use Rattle.priced_moves.proofs.graph.push_combo.Goals as goal

pub returns-in-NoCombo : goal.returns-in-NoCombo
returns-in-NoCombo c =
    let none : c.args.trail.now.at.combo ≡ NoCombo = search rules in
    combo_none-pushed c.args.terms.now.prices c.args.terms.now.settings c.args.terms.now.units c.args.trail.now c.args.edges.now.items none

pub returns-in_ok-push_basic-in-Basic : goal.returns-in_ok-push_basic-in-Basic
returns-in_ok-push_basic-in-Basic c =
    let basic : c.args.trail.now.at.combo ≡ Basic = search rules in
    combo_basic-pushed c.args.terms.now.prices c.args.terms.now.settings c.args.terms.now.units c.args.trail.now c.args.edges.now.items c.push_basic.new.edges.items basic c.in_ok-push_basic-in-Basic.ensures

pub returns-in_ok-push_last-in-Standard : goal.returns-in_ok-push_last-in-Standard
returns-in_ok-push_last-in-Standard c =
    let standard : c.args.trail.now.at.combo ≡ Standard = search rules in
    combo_standard-pushed c.args.terms.now.prices c.args.terms.now.settings c.args.terms.now.units c.args.trail.now c.args.edges.now.items c.push_last.new.edges.items standard (c.in_ok-push_last-in-Standard.ensures 1)
