use Rattle.std.proofs.Common.{◌≡◌, false}
use Rattle.craft_settings.specs.Rules.{cap_of}
use Rattle.quality_sweep.specs.Ahead.{is_above}
use Rattle.quality_sweep.proofs.Turning.{at-cap}
use Rattle.quality_sweep.proofs.descent.greatest_from.Goals as goal

pub returns-then-not-is_above : goal.returns-then-not-is_above
returns-then-not-is_above g c =
    let cut : is_above (cap_of c.args.outlook.now.g.now) c.in_ok-reached.reached ≡ false = cc in
    at-cap c.args.outlook.now.g.now c.args.outlook.now.from.now c.in_ok-reached.reached cut c.in_ok-reached.ensures
