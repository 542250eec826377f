use Rattle.std.proofs.Common.{◌≡◌, ◌≤◌, ◌*◌, take, sum}
use Rattle.replay_report.proofs.counts.total.Given as goal

-- the sum so far, which is at most so many of the greatest number of 64 bits
abbrev pub invariant-loop-count : goal.invariant-loop-count
invariant-loop-count l = record {
  is : l.total ≡ sum (take l.count-index l.counts);
  small : l.total ≤ l.count-index * 18446744073709551615;
}
