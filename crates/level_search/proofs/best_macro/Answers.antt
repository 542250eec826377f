use Rattle.std.proofs.Common.{◌≡◌, ◌∙◌, ◌≤◌, sym, List, All, map, arith, ap, subst}
use Rattle.std.proofs.Math.ListN.{length-set}
use Rattle.std.proofs.lemmas.List.Elements.{All-set}
use Rattle.std.proofs.lemmas.Slice.Zip.{AllZip-long}
use Rattle.action_table.specs.declared.action.Action.{Action}
use Rattle.craft_settings.specs.Ranges.{AreSettings}
use Rattle.step_rules.proofs.MeasureFalls.{measure-start}
use Rattle.front_walk.specs.declared.walker.Walker.{Walker}
use Rattle.front_walk.specs.Asking.{AllMayAsk, AllStillAsk}
use Rattle.level_search.specs.declared.searcher.Searcher.{Searcher}
use Rattle.level_search.specs.Searching.{HasSeenWay, IsSearcherOf, StillSearches}
use Rattle.level_search.proofs.Search.{inside-best, length-best, quality-best, shortest-best}
use Rattle.level_search.proofs.Stills.{all_later, first_later, hired, released, still_back}
use Rattle.level_search.proofs.Ways.{seen-first, within-limits}
use Rattle.level_search.proofs.best_macro.Goals as goal

pub returns-in_err-actions-clause-within : goal.returns-in_err-actions-clause-within
returns-in_err-actions-clause-within g c =
    let settings = subst AreSettings c.requires.quality_craft c.args.quality.now.truth.settings in
    within-limits c.args.g.now c.args.grain settings (subst (λ grain. 1 ≤ grain) c.requires.quality_grain c.args.quality.now.truth.grain_range.low)

pub returns-in_err-hire-clause-within : goal.returns-in_err-hire-clause-within
returns-in_err-hire-clause-within g c =
    let settings = subst AreSettings c.requires.quality_craft c.args.quality.now.truth.settings in
    within-limits c.args.g.now c.args.grain settings (subst (λ grain. 1 ≤ grain) c.requires.quality_grain c.args.quality.now.truth.grain_range.low)

pub returns-in_err-counts-clause-within : goal.returns-in_err-counts-clause-within
returns-in_err-counts-clause-within g c =
    let settings = subst AreSettings c.requires.quality_craft c.args.quality.now.truth.settings in
    within-limits c.args.g.now c.args.grain settings (subst (λ grain. 1 ≤ grain) c.requires.quality_grain c.args.quality.now.truth.grain_range.low)

pub returns-in_err-searchers-clause-within : goal.returns-in_err-searchers-clause-within
returns-in_err-searchers-clause-within g c =
    let settings = subst AreSettings c.requires.quality_craft c.args.quality.now.truth.settings in
    within-limits c.args.g.now c.args.grain settings (subst (λ grain. 1 ≤ grain) c.requires.quality_grain c.args.quality.now.truth.grain_range.low)

pub returns-clause-within : goal.returns-clause-within
returns-clause-within g c =
    let settings = subst AreSettings c.requires.quality_craft c.args.quality.now.truth.settings in
    within-limits c.args.g.now c.args.grain settings (subst (λ grain. 1 ≤ grain) c.requires.quality_grain c.args.quality.now.truth.grain_range.low)

pub overflow_cast-len-2 : goal.overflow_cast-len-2
overflow_cast-len-2 g c =
    let settings = subst AreSettings c.requires.quality_craft c.args.quality.now.truth.settings in
    let low = subst (λ grain. 1 ≤ grain) c.requires.quality_grain c.args.quality.now.truth.grain_range.low in
    let long = length-best c.args.g.now c.args.grain c.args.target c.in_ok-actions.actions.items settings low c.in_ok-actions.ensures c.requires.greatest c.requires.reached in
    omega (arith, long.1, measure-start c.args.g.now settings)

pub count-requires-clause-some : goal.count-requires-clause-some
count-requires-clause-some g c κs within =
    let settings = subst AreSettings c.requires.quality_craft c.args.quality.now.truth.settings in
    let low = subst (λ grain. 1 ≤ grain) c.requires.quality_grain c.args.quality.now.truth.grain_range.low in
    let long = length-best c.args.g.now c.args.grain c.args.target c.in_ok-actions.actions.items settings low c.in_ok-actions.ensures c.requires.greatest c.requires.reached in
    omega (arith, long.0)

pub count-requires-clause-askers : goal.count-requires-clause-askers
count-requires-clause-askers g c κs within =
    let may = IsSearcherOf c.args.quality.now c.args.steps.now in
    subst (λ (ws : List (Walker Searcher)). AllMayAsk may ws) (sym c.new-crew.ensures.workers)
    (hired may c.in_ok-hire.field-0.items c.args.searchers.items c.in_ok-hire.ensures c.requires.of)

pub returns-clause-best : goal.returns-clause-best
returns-clause-best g c = c.in_ok-actions.ensures

pub returns-clause-target : goal.returns-clause-target
returns-clause-target g c = quality-best c.args.g.now c.args.target c.in_ok-actions.actions.items c.in_ok-actions.ensures c.requires.greatest c.requires.reached

pub returns-clause-inside : goal.returns-clause-inside
returns-clause-inside g c =
    let settings = subst AreSettings c.requires.quality_craft c.args.quality.now.truth.settings in
    let low = subst (λ grain. 1 ≤ grain) c.requires.quality_grain c.args.quality.now.truth.grain_range.low in
    inside-best c.args.g.now c.args.grain c.args.target c.in_ok-actions.actions.items settings low c.in_ok-actions.ensures
    (quality-best c.args.g.now c.args.target c.in_ok-actions.actions.items c.in_ok-actions.ensures c.requires.greatest c.requires.reached)

pub returns-clause-shortest : goal.returns-clause-shortest
returns-clause-shortest g c = shortest-best c.args.g.now c.args.target c.in_ok-actions.actions.items c.in_ok-actions.ensures c.requires.greatest

pub ask_way-requires-clause-of : goal.ask_way-requires-clause-of
ask_way-requires-clause-of g c =
    let walked = c.count.new.crew.workers in
    let back : c.in_ok-searchers.searchers.items ≡ map (λ w. w.asker) walked = c.in_ok-searchers.ensures ∙ ap (map (λ (w : Walker Searcher). w.asker)) c.into_workers.ensures in
    let asked : AllStillAsk StillSearches c.in_ok-hire.field-0.items walked =
    subst (λ (ws : List (Walker Searcher)). AllStillAsk StillSearches ws walked) c.new-crew.ensures.workers c.in_ok-counts.ensures.still
    in
    let still = still_back c.in_ok-hire.field-0.items walked c.args.searchers.items c.in_ok-searchers.searchers.items c.in_ok-hire.ensures back asked in
    let may = IsSearcherOf c.args.quality.now c.args.steps.now in
    let of : All may c.in_ok-searchers.searchers.items = subst (λ (l : List Searcher). All may l) (sym back) (released may walked c.in_ok-counts.ensures.askers) in
    let long = AllZip-long StillSearches _ _ still in
    let first = c.index_mut.result.now in
    subst may (sym c.index_mut.ensures.value) (of 0 first (omega (arith, long, c.requires.low)))

pub returns-clause-of : goal.returns-clause-of
returns-clause-of g c =
    let walked = c.count.new.crew.workers in
    let back : c.in_ok-searchers.searchers.items ≡ map (λ w. w.asker) walked = c.in_ok-searchers.ensures ∙ ap (map (λ (w : Walker Searcher). w.asker)) c.into_workers.ensures in
    let may = IsSearcherOf c.args.quality.now c.args.steps.now in
    let of : All may c.in_ok-searchers.searchers.items = subst (λ (l : List Searcher). All may l) (sym back) (released may walked c.in_ok-counts.ensures.askers) in
    All-set may c.in_ok-searchers.searchers.items 0 c.ask_way.new.searcher c.ask_way.ensures.of of

pub returns-clause-as_many : goal.returns-clause-as_many
returns-clause-as_many g c =
    let walked = c.count.new.crew.workers in
    let back : c.in_ok-searchers.searchers.items ≡ map (λ w. w.asker) walked = c.in_ok-searchers.ensures ∙ ap (map (λ (w : Walker Searcher). w.asker)) c.into_workers.ensures in
    let asked : AllStillAsk StillSearches c.in_ok-hire.field-0.items walked =
    subst (λ (ws : List (Walker Searcher)). AllStillAsk StillSearches ws walked) c.new-crew.ensures.workers c.in_ok-counts.ensures.still
    in
    let still = still_back c.in_ok-hire.field-0.items walked c.args.searchers.items c.in_ok-searchers.searchers.items c.in_ok-hire.ensures back asked in
    let long = AllZip-long StillSearches _ _ still in
    simp length-set (omega (arith, long))

pub returns-clause-still : goal.returns-clause-still
returns-clause-still g c =
    let walked = c.count.new.crew.workers in
    let back : c.in_ok-searchers.searchers.items ≡ map (λ w. w.asker) walked = c.in_ok-searchers.ensures ∙ ap (map (λ (w : Walker Searcher). w.asker)) c.into_workers.ensures in
    let asked : AllStillAsk StillSearches c.in_ok-hire.field-0.items walked =
    subst (λ (ws : List (Walker Searcher)). AllStillAsk StillSearches ws walked) c.new-crew.ensures.workers c.in_ok-counts.ensures.still
    in
    let still = still_back c.in_ok-hire.field-0.items walked c.args.searchers.items c.in_ok-searchers.searchers.items c.in_ok-hire.ensures back asked in
    all_later _ _ _ still (first_later c.in_ok-searchers.searchers.items c.index_mut.result.now c.ask_way.new.searcher c.index_mut.ensures.value c.ask_way.ensures.still)

pub returns-clause-seen : goal.returns-clause-seen
returns-clause-seen g c = λ d.
    let walked = c.count.new.crew.workers in
    let back : c.in_ok-searchers.searchers.items ≡ map (λ w. w.asker) walked = c.in_ok-searchers.ensures ∙ ap (map (λ (w : Walker Searcher). w.asker)) c.into_workers.ensures in
    let asked : AllStillAsk StillSearches c.in_ok-hire.field-0.items walked =
    subst (λ (ws : List (Walker Searcher)). AllStillAsk StillSearches ws walked) c.new-crew.ensures.workers c.in_ok-counts.ensures.still
    in
    let still = still_back c.in_ok-hire.field-0.items walked c.args.searchers.items c.in_ok-searchers.searchers.items c.in_ok-hire.ensures back asked in
    let long = AllZip-long StillSearches _ _ still in
    seen-first c.args.g.now c.args.grain c.in_ok-actions.actions.items c.in_ok-searchers.searchers.items c.ask_way.new.searcher d (omega (arith, long, c.requires.low))
    (subst (λ (m : List Action). HasSeenWay c.args.g.now c.args.grain m c.ask_way.new.searcher) c.deref.ensures.value c.ask_way.ensures.seen)
