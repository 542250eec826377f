use Rattle.std.proofs.Common.{◌≡◌, ◌≤◌, ◌+◌, ◌∷◌, ◌∙◌, [], List, ℕ, Some, sym, ap, subst, arith, length, length-append}
use Rattle.seat_tables.proofs.Stills.{still-trans}
use Rattle.step_rules.specs.Legality.{start_of}
use Rattle.craft_settings.specs.Ranges.{AreSettings}
use Rattle.step_rules.proofs.Bounds.{IsWithin-start}
use Rattle.step_rules.proofs.Runs.{IsWithin-run}
use Rattle.replay_report.proofs.Along.{AreNumbers, IsNumber, are_limits, limited_on_way, numbers_more, state_read}
use Rattle.replay_report.proofs.prefixes.limits.Goals as goal

pub states_of-requires : goal.states_of-requires
states_of-requires c = λ none. let ran = c.requires.complete.ran in cc

pub limit_after-requires-clause-within : goal.limit_after-requires-clause-within
limit_after-requires-clause-within c =
    let g = c.args.g.now in
    let settings = subst AreSettings c.requires.table c.args.shared.now.truth.settings in
    IsWithin-run g (start_of g) _ _ (IsWithin-start g settings) (state_read g (start_of g) c.args.actions.now c.in_ok-states.states.items (c.loop-place.place + 1) _ c.in_ok-states.ensures (omega arith) c.index.ensures)

pub limit_after-requires-clause-limited : goal.limit_after-requires-clause-limited
limit_after-requires-clause-limited c =
    limited_on_way c.args.g.now c.args.shared.now.truth.grain c.args.actions.now (c.loop-place.place + 1) _ (omega arith) (omega arith) c.requires.limited c.requires.complete
    (state_read c.args.g.now (start_of c.args.g.now) c.args.actions.now c.in_ok-states.states.items (c.loop-place.place + 1) _ c.in_ok-states.ensures (omega arith) c.index.ensures)

pub loop-place-preserved : goal.loop-place-preserved
loop-place-preserved c =
    let g = c.args.g.now in
    let grain = c.args.shared.now.truth.grain in
    let actions = c.args.actions.now in
    let place = c.loop-place.place in
    let before = c.loop-place.limits.items in
    let ran = state_read g (start_of g) actions c.in_ok-states.states.items (place + 1) _ c.in_ok-states.ensures (omega arith) c.index.ensures in
    let is : IsNumber g grain _ (Some c.limit_after.result) = record {
      going = c.limit_after.ensures.going;
      done = λ complete. ap Some (c.limit_after.ensures.complete complete);
    } in
    let items = c.push_reserved.ensures.items in
    record {
      count = ap length items ∙ length-append before (c.limit_after.result ∷ []) ∙ ap (λ n. n + 1) c.loop-place.invariant.count;
      numbers = subst (λ (ns : List ℕ). AreNumbers g grain actions (place + 1) ns) (sym items)
          (numbers_more g grain actions place before c.limit_after.result _ c.loop-place.invariant.count c.loop-place.invariant.numbers ran is);
      of = c.limit_after.ensures.of;
      pushed = c.push_reserved.ensures.len ∙ ap (λ n. n + 1) c.loop-place.invariant.pushed;
      room = subst (λ n. length actions ≤ n) (sym c.push_reserved.ensures.capacity) c.loop-place.invariant.room;
      still = still-trans _ _ _ c.loop-place.invariant.still c.limit_after.ensures.still;
    }

pub returns-clause-limits : goal.returns-clause-limits
returns-clause-limits c =
    let actions = c.args.actions.now in
    let all : c.loop-place.place ≡ length actions = grind arith in
    are_limits c.args.g.now c.args.shared.now.truth.grain actions c.loop-place.limits.items c.requires.complete (c.loop-place.invariant.count ∙ all)
    (subst (λ (n : ℕ). AreNumbers c.args.g.now c.args.shared.now.truth.grain actions n c.loop-place.limits.items) all c.loop-place.invariant.numbers)
