use Rattle.std.proofs.Common.{ℕ, Some, ◌∙◌, ap, sym}
use Rattle.priced_bound.proofs.Told.{place-promise, promise-untold}
use Rattle.priced_bound.proofs.bound.PricedBound.promise.Goals as goal

pub returns-in-Some : goal.returns-in-Some
returns-in-Some c = c.promised.ensures ∙ place-promise c.args.self.now c.args.s.now c.args.left c.in-Some.place c.in-Some.ensures

pub returns-in-None : goal.returns-in-None
returns-in-None c = ap (λ (n : ℕ). Some n) c.cap.ensures ∙ sym (promise-untold c.args.self.now c.args.s.now c.args.left c.in-None.ensures)
