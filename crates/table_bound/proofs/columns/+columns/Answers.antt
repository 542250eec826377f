use Rattle.std.proofs.Common.{arith, ◌+◌, ◌≡◌, ◌<◌, ◌≤◌, ℕ, List, length, get_or, slice_index, sym, subst, refl}
use Rattle.action_table.specs.declared.action.Action.TheVariants.{BasicSynthesis}
use Rattle.action_table.specs.Table.{all_actions}
use Rattle.lane_front.specs.MaxPlus.{max_plus_of}
use Rattle.seat_tables.specs.Seats.{IsOf, StillSees, SeatFields}
use Rattle.seat_tables.proofs.Stills.{still-trans}
use Rattle.table_bound.specs.Columns.{Leads, LeadsNowhere, LeadsDown, IsPlaced}
use Rattle.table_bound.proofs.Filling.{leads-more, leads-column, sum_fits, takes-none, takes-turn}
use Rattle.table_bound.proofs.columns.+columns.Goals.{fill_by-in-Some, fill_by-in_default}
use Rattle.table_bound.proofs.columns.+columns.Goals as goal

pub fill_by-max_plus-requires-clause-fits : goal.fill_by-max_plus-requires-clause-fits
fill_by-max_plus-requires-clause-fits g t c =
    let truth = c.args.filler.now.shared.now.truth in
    let laws = g.met.T.Bound g.world.𝓛 g.world.𝓜 g.world.𝓡 ((λ s x. x), (λ x. x), (λ x. x), λ x. x) in
    let turn = c.in-Some.turn in
    let placed = subst (λ s. IsPlaced (g.T.Bound.rules s) turn.column.budget turn.column.x turn.column.bottom) c.truth-truth.ensures c.in-Some.ensures.placed in
    sum_fits (g.T.Bound.rules truth) turn.column.budget turn.gain turn.down turn.column.x c.lowered.new.row (laws.rules_hold truth)
    placed.bounds placed.of_table c.in-Some.ensures.turn.small c.lowered.ensures.row

pub fill_by-loop-action-preserved : goal.fill_by-loop-action-preserved
fill_by-loop-action-preserved g t c =
    let r = g.T.Bound.rules c.args.filler.now.shared.now.truth in
    let budget = c.args.column.now.budget in
    let x = c.args.column.now.x in
    let n = c.loop-action.action-index in
    let action = get_or all_actions n BasicSynthesis in
    let old = c.loop-action.row in
    elim c.match-turn_by.branch [
      | fill_by-in-Some w ↦
          let turn = w.in-Some.turn in
          let down = subst (λ s. LeadsDown (g.T.Bound.rules s) budget x action turn.column.budget turn.gain turn.down turn.column.x) c.truth-truth.ensures w.in-Some.ensures.turn in
          rw (w.seat-is, w.row-is) record {
            of = w.lowered.ensures.of;
            still = still-trans _ _ _ c.loop-action.invariant.still w.lowered.ensures.still;
            leads = leads-more r budget x n BasicSynthesis old w.max_plus.new.dst (omega (arith, w.max_plus.auto.dst)) c.loop-action-test.true c.loop-action.invariant.leads
                (takes-turn r budget x action turn.column.budget turn.gain turn.down turn.column.x old w.max_plus.new.dst w.lowered.new.row
                (omega arith) (omega arith) down w.lowered.ensures.row w.max_plus.ensures);
          }
      | fill_by-in_default w ↦
          let none = subst (λ s. LeadsNowhere (g.T.Bound.rules s) budget x action) c.truth-truth.ensures w.in_default.ensures.turn in
          rw (w.seat-is, w.row-is) record {
            of = c.loop-action.invariant.of;
            still = c.loop-action.invariant.still;
            leads = leads-more r budget x n BasicSynthesis old old refl c.loop-action-test.true c.loop-action.invariant.leads (takes-none r budget x action old none);
          }
    ]

pub fill_by-put_column-requires-clause-optima : goal.fill_by-put_column-requires-clause-optima
fill_by-put_column-requires-clause-optima g t c κs within =
    let truth = c.args.filler.now.shared.now.truth in
    let laws = g.met.T.Bound g.world.𝓛 g.world.𝓜 g.world.𝓡 ((λ s x. x), (λ x. x), (λ x. x), λ x. x) in
    leads-column (g.T.Bound.rules truth) c.args.column.now.budget c.args.column.now.x c.loop-action.action-index c.loop-action.row (laws.rules_hold truth) c.loop-action-test.false c.loop-action.invariant.leads

pub fill_by-returns-clause-row : goal.fill_by-returns-clause-row
fill_by-returns-clause-row g t c =
    let truth = c.args.filler.now.shared.now.truth in
    let laws = g.met.T.Bound g.world.𝓛 g.world.𝓜 g.world.𝓡 ((λ s x. x), (λ x. x), (λ x. x), λ x. x) in
    leads-column (g.T.Bound.rules truth) c.args.column.now.budget c.args.column.now.x c.loop-action.action-index c.loop-action.row (laws.rules_hold truth) c.loop-action-test.false c.loop-action.invariant.leads
