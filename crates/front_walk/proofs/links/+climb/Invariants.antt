use Rattle.front_walk.proofs.links.+climb.Given as goal

abbrev pub decreases-climb : goal.decreases-climb
decreases-climb l = l.k
