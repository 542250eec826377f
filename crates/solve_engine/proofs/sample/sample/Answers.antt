use Rattle.std.proofs.Common.{rules}
use Rattle.solve_engine.proofs.Sampled.{sampled}
use Rattle.solve_engine.proofs.sample.sample.Goals as goal

pub returns : goal.returns
returns g c = (
  tt,
  sampled c.args.n c.args.given.now.grain c.settings_of-g.result c.in-Some.found c.in_ok-sample_report.field-0.items
      (search rules) (search rules) (search rules),
)
