use Rattle.std.proofs.Common.{subst, sym, arith}
use Rattle.craft_settings.specs.Ranges.{SettingsFields, AreSettings}
use Rattle.priced_bound.specs.Reckoned.{AreReckoned}
use Rattle.priced_bound.proofs.reckoning.Reckoning.new.Goals as goal
use Rattle.priced_bound.proofs.reckoning.Reckoning.new.Goals.{After-units_of}

reckoned : (c : After-units_of) → AreReckoned record { g = c.args.g.now; prices = c.prices_of.result; units = c.units_of.result }
reckoned c = record {
  settings = subst AreSettings c.g.view_is c.g.invariant;
  fair = c.prices_of.ensures.fair;
  prices = c.prices_of.ensures.small;
  units = c.units_of.ensures.small;
  few = omega (arith, c.units_of.ensures.few, c.requires.high);
  cap = c.units_of.ensures.cap;
}

pub invariant_of-result-2 : goal.invariant_of-result-2
invariant_of-result-2 c =
    subst (λ (g : SettingsFields). AreReckoned record { g = g; prices = c.prices_of.result; units = c.units_of.result }) (sym c.g.view_is) (reckoned c)

pub returns-clause-reckoned : goal.returns-clause-reckoned
returns-clause-reckoned c =
    subst (λ (g : SettingsFields). AreReckoned record { g = g; prices = c.prices_of.result; units = c.units_of.result }) (sym c.g.view_is) (reckoned c)
