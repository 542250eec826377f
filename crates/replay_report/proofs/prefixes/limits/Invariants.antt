use Rattle.std.proofs.Common.{◌≡◌, ◌≤◌, length, vec_len, vec_capacity}
use Rattle.seat_tables.specs.Seats.{IsOf, StillSees}
use Rattle.replay_report.proofs.Along.{AreNumbers}
use Rattle.replay_report.proofs.prefixes.limits.Given as goal

-- so far one number for each action, and each is that of the state after it; there is room for all
abbrev pub invariant-loop-place : goal.invariant-loop-place
invariant-loop-place l = record {
  count : length l.limits.items ≡ l.place;
  numbers : AreNumbers l.g l.shared.truth.grain l.actions l.place l.limits.items;
  of : IsOf l.shared l.seat;
  pushed : vec_len l.limits ≡ l.place;
  room : length l.actions ≤ vec_capacity l.limits;
  still : StillSees l.fn.seat.view l.seat.view;
}
