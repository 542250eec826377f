use Rattle.std.proofs.Common.{◌≡◌, drop}
use Rattle.priced_bound.specs.Bounds.{all_pass, IsWithinEach}
use Rattle.priced_bound.proofs.several.all_reach.Given as goal

abbrev pub invariant-loop-bound : goal.invariant-loop-bound
invariant-loop-bound l = record {
  rest : all_pass (drop l.bound-index l.bounds) l.target l.left l.s ≡ all_pass l.bounds l.target l.left l.s;
  within : IsWithinEach (drop l.bound-index l.bounds) l.s;
}
