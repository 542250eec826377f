use Rattle.front_check.proofs.NoBetter.{both-ways}
use Rattle.front_check.proofs.judge.is_no_better.Goals as goal

pub returns : goal.returns
returns c =
    both-ways c.args.claimed.now.g.now c.args.claimed.now.actions.now c.args.claimed.now.score c.args.p.now _ _ _ c.requires.claimed.scored c.requires.p c.if-not-is_complete.ensures c.score-mine.ensures c.listed-listed.ensures c.better-wins.ensures
