use Rattle.prefix_fronts.proofs.Best.{reached-at}
use Rattle.prefix_fronts.proofs.reached_law.Goals as goal

pub returns : goal.returns
returns c g s target passes reached is_open limits greatest = reached-at g s target passes reached is_open limits greatest
