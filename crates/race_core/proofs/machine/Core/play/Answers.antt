use Rattle.std.proofs.Common.{subst}
use Rattle.race_core.specs.Sound.{IsSound}
use Rattle.race_core.proofs.Plays.{steady}
use Rattle.race_core.proofs.machine.Core.play.Goals as goal

pub returns-in-Load-clause-steady : goal.returns-in-Load-clause-steady
returns-in-Load-clause-steady g c = steady g.T.Truth.size g.T.Truth.entry g.T.Truth.reached c.args.self.now (subst (IsSound g.T.Truth.size g.T.Truth.entry g.T.Truth.reached) c.self.view_is c.self.invariant) c.args.event c.requires

pub returns-in-Put-clause-steady : goal.returns-in-Put-clause-steady
returns-in-Put-clause-steady g c = steady g.T.Truth.size g.T.Truth.entry g.T.Truth.reached c.args.self.now (subst (IsSound g.T.Truth.size g.T.Truth.entry g.T.Truth.reached) c.self.view_is c.self.invariant) c.args.event c.requires

pub returns-in-See-clause-steady : goal.returns-in-See-clause-steady
returns-in-See-clause-steady g c = steady g.T.Truth.size g.T.Truth.entry g.T.Truth.reached c.args.self.now (subst (IsSound g.T.Truth.size g.T.Truth.entry g.T.Truth.reached) c.self.view_is c.self.invariant) c.args.event c.requires

pub returns-in-Offer-clause-steady : goal.returns-in-Offer-clause-steady
returns-in-Offer-clause-steady g c = steady g.T.Truth.size g.T.Truth.entry g.T.Truth.reached c.args.self.now (subst (IsSound g.T.Truth.size g.T.Truth.entry g.T.Truth.reached) c.self.view_is c.self.invariant) c.args.event c.requires

pub returns-in-Split-clause-steady : goal.returns-in-Split-clause-steady
returns-in-Split-clause-steady g c = steady g.T.Truth.size g.T.Truth.entry g.T.Truth.reached c.args.self.now (subst (IsSound g.T.Truth.size g.T.Truth.entry g.T.Truth.reached) c.self.view_is c.self.invariant) c.args.event c.requires

pub returns-in-Join-clause-steady : goal.returns-in-Join-clause-steady
returns-in-Join-clause-steady g c = steady g.T.Truth.size g.T.Truth.entry g.T.Truth.reached c.args.self.now (subst (IsSound g.T.Truth.size g.T.Truth.entry g.T.Truth.reached) c.self.view_is c.self.invariant) c.args.event c.requires
