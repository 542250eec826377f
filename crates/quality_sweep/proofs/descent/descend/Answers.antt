use Rattle.std.proofs.Common.{◌≡◌, true, Some}
use Rattle.std.specs.Option.{is_some}
use Rattle.quality_sweep.proofs.Turning.{above-some}
use Rattle.quality_sweep.proofs.descent.descend.Goals as goal

pub returns-then-is_some : goal.returns-then-is_some
returns-then-is_some g c =
    let some : is_some c.in_ok-found.found ≡ true = cc in
    above-some c.args.outlook.now.g.now c.args.outlook.now.from.now (Some c.saturating_sub-floor.result) c.in_ok-found.found c.in_ok-found.ensures some
