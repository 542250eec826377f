use Rattle.std.proofs.Common.{◌≡◌, ◌∙◌, sym, ℕ, ◌≤◌, List, ap, subst, min, length, arith}
use Rattle.std.proofs.lemmas.List.{take_at}
use Rattle.craft_settings.specs.Ranges.{SettingsFields, AreSettings}
use Rattle.relaxed_moves.specs.Budget.{start_potential_of}
use Rattle.seat_tables.specs.Seats.{SeatFields}
use Rattle.quality_bound.specs.declared.truth.QualityTruth.{QualityTruth}
use Rattle.quality_pass.specs.Answer.{AllStillSee, AllSeeBudgets}
use Rattle.quality_pass.specs.declared.TheConstants.{LAST_FILLED}
use Rattle.quality_pass.proofs.Qualities.{limited}
use Rattle.quality_pass.proofs.Seats.{all_budgets-still, seats_still-trans}
use Rattle.quality_pass.proofs.best_quality.Goals as goal

pub returns-clause-still : goal.returns-clause-still
returns-clause-still g c =
    let hired : c.new-crew.result.workers ≡ c.fill_budgets.new.seats = c.new-crew.ensures.workers ∙ take_at c.fill_budgets.new.seats _ _ (omega (arith, c.deref_mut.ensures.len)) in
    let offered = c.offer_all.new.crew.workers in
    let first : AllStillSee c.args.seats.items c.fill_budgets.new.seats =
    subst (λ (l : List (SeatFields QualityTruth)). AllStillSee l c.fill_budgets.new.seats) c.deref_mut.ensures.value c.fill_budgets.ensures.still
    in
    let rest : AllStillSee c.fill_budgets.new.seats offered = subst (λ (l : List (SeatFields QualityTruth)). AllStillSee l offered) hired c.offer_all.ensures.still in
    subst (λ (l : List (SeatFields QualityTruth)). AllStillSee c.args.seats.items l) (sym c.into_workers.ensures)
    (seats_still-trans c.args.seats.items c.fill_budgets.new.seats offered (omega (arith, ap length c.deref_mut.ensures.value)) first rest)

pub returns-clause-filled : goal.returns-clause-filled
returns-clause-filled g c =
    let hired : c.new-crew.result.workers ≡ c.fill_budgets.new.seats = c.new-crew.ensures.workers ∙ take_at c.fill_budgets.new.seats _ _ (omega (arith, c.deref_mut.ensures.len)) in
    let offered = c.offer_all.new.crew.workers in
    let rest : AllStillSee c.fill_budgets.new.seats offered = subst (λ (l : List (SeatFields QualityTruth)). AllStillSee l offered) hired c.offer_all.ensures.still in
    let most = min LAST_FILLED (start_potential_of c.args.g.now) in
    let filled : AllSeeBudgets c.args.grain most c.fill_budgets.new.seats =
    subst (λ (n : ℕ). AllSeeBudgets n most c.fill_budgets.new.seats) c.requires.grain
    (subst (λ (h : SettingsFields). AllSeeBudgets c.args.shared.now.truth.grain (min LAST_FILLED (start_potential_of h)) c.fill_budgets.new.seats) c.requires.same c.fill_budgets.ensures.filled)
    in
    subst (λ (l : List (SeatFields QualityTruth)). AllSeeBudgets c.args.grain most l) (sym c.into_workers.ensures)
    (all_budgets-still c.args.grain most c.fill_budgets.new.seats offered (c.offer_all.ensures.as_many ∙ ap length hired) filled rest)

pub returns-clause-limits : goal.returns-clause-limits
returns-clause-limits g c =
    limited c.args.g.now c.args.grain (subst AreSettings c.requires.same c.args.shared.now.truth.settings) (subst (λ (n : ℕ). 1 ≤ n) c.requires.grain c.args.shared.now.truth.grain_range.low)
