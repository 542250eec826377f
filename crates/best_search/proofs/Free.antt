-- The limits of a table by which steps are free are a ceiling.
use Rattle.std.proofs.Common.{◌≡◌, ℕ, Option, Some, refl, sym, subst, arith}
use Rattle.craft_state.specs.Craft.{StateFields}
use Rattle.craft_settings.specs.Ranges.{SettingsFields}
use Rattle.craft_settings.specs.Rules.{cap_of}
use Rattle.step_rules.specs.Legality.{IsWithin}
use Rattle.step_rules.specs.Macro.{counted}
use Rattle.step_rules.specs.Step.{step_of}
use Rattle.relaxed_moves.specs.Optimum.{option_le}
use Rattle.relaxed_moves.proofs.Greatest.{option_le-trans}
use Rattle.prefix_fronts.specs.Prefix.{IsOpen}
use Rattle.quality_sweep.specs.Ahead.{IsOutlook}
use Rattle.quality_sweep.proofs.Capped.{cap_is_ceiling}
use Rattle.priced_bound.specs.Bounds.{BoundFields, limit_in}
use Rattle.priced_bound.specs.declared.reckoning.TheConstants.{MOST_LEFT}
use Rattle.priced_bound.proofs.Told.{bound-free, bound-last, limit-below}
use Rattle.best_search.specs.Looking.{IsFreeTable, IsTable, free_promise}
use Rattle.best_search.proofs.Backward.{HoldsBack, back}

abbrev free_limit : BoundFields → StateFields → Option ℕ
free_limit b s = limit_in b s MOST_LEFT

-- the quality of the last state is no more than the limit
abbrev Limited : SettingsFields → BoundFields → StateFields → ℕ → StateFields → Type 0
Limited g b last j s = option_le (Some (counted g last)) (free_limit b s)

limits-back : (b : BoundFields) (last : StateFields) → IsFreeTable b.by.g b → HoldsBack b.by.g last (Limited b.by.g b last)
limits-back b last table = record {
  ends = λ j s a live step is.
      subst (λ u. option_le (Some (counted b.by.g u)) (free_limit b s)) is (bound-last b s a 300 table.table.reckoned step (omega arith));
  next = λ j s a live step rest.
      option_le-trans (Some (counted b.by.g last)) _ _ rest (bound-free b s a 300 table.table.reckoned table.free step (omega arith));
}

outlook : (b : BoundFields) (from : StateFields) → IsFreeTable b.by.g b → IsOpen b.by.g from → IsOutlook b.by.g (IsWithin b.by.g) (free_promise b) from
outlook b from table open_state = record {
  from_open = open_state;
  allowed = open_state.within;
  ceiling = record {
    next = λ s action here within legal after. after.within;
    most = λ s here within later m last ran done.
        option_le-trans (Some (counted b.by.g last)) (free_limit b s) (free_promise b s)
        (back b.by.g last (Limited b.by.g b last) (limits-back b last table) done s m here.within here.live ran)
        (limit-below b s MOST_LEFT table.table.reckoned);
  };
}

pub is-outlook : (g : SettingsFields) (b : BoundFields) (from : StateFields) → IsFreeTable g b → IsOpen g from → IsOutlook g (IsWithin b.by.g) (free_promise b) from
is-outlook g b from table open_state =
    subst (λ (h : SettingsFields). IsOutlook h (IsWithin b.by.g) (free_promise b) from) table.table.craft
    (outlook b from (record { table = record { craft = refl; reckoned = table.table.reckoned }; free = table.free }) (subst (λ (h : SettingsFields). IsOpen h from) (sym table.table.craft) open_state))

-- all quality that counts is a ceiling, whatever else is known of the states
pub is-guide : (g : SettingsFields) (b : BoundFields) (from : StateFields) (cap : ℕ) → cap ≡ cap_of g → IsTable g b → IsOpen g from → IsOutlook g (IsWithin b.by.g) (λ _. Some cap) from
is-guide g b from cap is table open_state = record {
  from_open = open_state;
  allowed = subst (λ (h : SettingsFields). IsWithin h from) (sym table.craft) open_state.within;
  ceiling = record {
    next = λ s action here within legal after. subst (λ (h : SettingsFields). IsWithin h (step_of g s action)) (sym table.craft) after.within;
    most = λ s here within later m last ran done.
        subst (λ (n : ℕ). option_le (Some (counted g last)) (Some n)) (sym is) ((cap_is_ceiling g).most s here tt later m last ran done);
  };
}
