-- What the test of both bounds keeps for a walk.
use Rattle.std.specs.Prelude.{true, ◌≡◌, nat_le}
use Rattle.std.proofs.Common.{arith}
use Rattle.plain_lemmas.proofs.Tests.{and_both, le_from, le_to}
use Rattle.action_table.specs.declared.action.Action.{Action}
use Rattle.craft_state.specs.Craft.{StateFields}
use Rattle.craft_settings.specs.Ranges.{SettingsFields}
use Rattle.step_rules.specs.Legality.{IsWithin, is_legal}
use Rattle.step_rules.specs.Step.{step_of}
use Rattle.relaxed_moves.specs.Budget.{potential_of, start_potential_of}
use Rattle.admissible.proofs.Reached.{potential-any}
use Rattle.prefix_fronts.specs.Prefix.{goes_on}
use Rattle.seat_tables.proofs.Stills.{still-refl, still-trans}
use Rattle.level_search.specs.declared.searcher.Searcher.{Searcher}
use Rattle.level_search.specs.Searching.{StillSearches}

-- no action of a craft that goes on raises the potential
pub potential_stays : (g : SettingsFields) (s : StateFields) (action : Action) → IsWithin g s →
    nat_le (potential_of g s) (start_potential_of g) ≡ true → goes_on g s action ≡ true →
    nat_le (potential_of g (step_of g s action)) (start_potential_of g) ≡ true
potential_stays g s action within allowed goes =
    let legal : is_legal g s action ≡ true = (and_both _ _ goes).0 in
    le_to _ _ (omega (arith, potential-any g s action within legal, le_from _ _ allowed))

-- what is seen stays seen over several calls
pub same_searches : (s : Searcher) → StillSearches s s
same_searches s = record { quality = still-refl s.quality.view; steps = still-refl s.steps.view }

pub later_searches : (r s t : Searcher) → StillSearches r s → StillSearches s t → StillSearches r t
later_searches r s t first second = record {
  quality = still-trans _ _ _ first.quality second.quality;
  steps = still-trans _ _ _ first.steps second.steps;
}
