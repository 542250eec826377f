use Rattle.std.proofs.Common.{◌≡◌, true, false}
use Rattle.std.specs.Option.{is_some}
use Rattle.quality_sweep.proofs.Turning.{above-some, above-none}
use Rattle.quality_sweep.proofs.descent.finish.Goals as goal

pub returns-then-is_some : goal.returns-then-is_some
returns-then-is_some g c =
    let some : is_some c.in_ok-found.found ≡ true = cc in
    above-some c.args.outlook.now.g.now c.args.outlook.now.from.now c.args.reached c.in_ok-found.found c.in_ok-found.ensures some

pub returns : goal.returns
returns g c =
    let none : is_some c.in_ok-found.found ≡ false = cc in
    above-none c.args.outlook.now.g.now c.args.outlook.now.from.now c.args.reached c.in_ok-found.found c.in_ok-found.ensures none c.requires.reached
