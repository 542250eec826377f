use Rattle.priced_laws.proofs.tests.+tried.Given as goal

abbrev pub decreases-tried : goal.decreases-tried
decreases-tried l = l.left
