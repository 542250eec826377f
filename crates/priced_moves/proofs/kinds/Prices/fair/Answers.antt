use Rattle.priced_moves.proofs.Fairness.{price-some}
use Rattle.priced_moves.proofs.kinds.Prices.fair.Goals as goal

pub returns-clause-five : goal.returns-clause-five
returns-clause-five c = record {
  within = c.five-five.ensures.high;
  fair = c.five-five.ensures.fair;
  no_more = c.five-five.ensures.no_more;
}

pub returns-clause-waste : goal.returns-clause-waste
returns-clause-waste c = record {
  within = c.waste-waste.ensures.high;
  fair = c.waste-waste.ensures.fair;
  no_more = c.waste-waste.ensures.no_more;
}

pub returns-clause-fair : goal.returns-clause-fair
returns-clause-fair c = record {
  coin = c.requires.low;
  five = c.five-five.ensures.fair;
  waste = c.waste-waste.ensures.fair;
  moves = λ combo a listed. price-some _ c.args.g.now combo a c.requires.low c.requires.high c.five-five.ensures.low listed;
}
