-- How the range of base qualities is narrowed.
use Rattle.std.proofs.Common.{◌≡◌, ◌≤◌, ◌<◌, ◌+◌, ◌-◌, ◌*◌, ◌/◌, ◌^◌, ℕ, zero, suc, true, false, arith, ap, subst, List, Option, Some, None}
use Rattle.std.proofs.Math.Nat.{pow-suc}
use Rattle.action_table.specs.declared.action.Action.{Action}
use Rattle.craft_settings.specs.Ranges.{SettingsFields}
use Rattle.macro_order.specs.Order.{IsBest}
use Rattle.stat_sweep.specs.declared.TheConstants.{MOST_BASE, MOST_CALLS}
use Rattle.stat_sweep.specs.declared.halving.Range.{Range}
use Rattle.stat_sweep.specs.declared.halving.Tried.{Tried}
use Rattle.stat_sweep.specs.declared.swept.Swept.TheVariants.{Least}
use Rattle.stat_sweep.specs.Bases.{with_base, IsEnough}
use Rattle.stat_sweep.specs.Halving.{IsTried}
use Rattle.stat_sweep.specs.Sweeping.{IsSwept, IsBestBelow}
use Rattle.stat_sweep.proofs.Enough.{enough-more}

-- a base quality that isn't enough, with its best macro, or 0 with none
abbrev pub IsNotEnough : SettingsFields → ℕ → Option (List Action) → Type 0
IsNotEnough g low None = low ≡ 0
IsNotEnough g low (Some m) = (1 ≤ low) × IsBest (with_base g low) m × (IsEnough g low → ⊥)

-- the least base quality that is enough lies above `low`, and at `high` or below
pub record IsRange (g : SettingsFields) (r : Range) : Type 0 where
  pub order : r.low < r.high
  pub most : r.high ≤ MOST_BASE
  pub best : IsBest (with_base g r.high) r.at
  pub enough : IsEnough g r.high
  pub below : IsNotEnough g r.low r.below

pub upper_part : (g : SettingsFields) (r : Range) (middle : ℕ) (tried : Tried) → IsRange g r → r.low < middle → middle < r.high →
    IsTried g middle tried → tried.is_enough ≡ false → IsRange g (record r { low = middle; below = Some tried.plan })
upper_part g r middle tried range low high is short = record {
  order = high;
  most = range.most;
  best = range.best;
  enough = range.enough;
  below = (omega arith, is.best, λ enough. cc (is.enough.1 enough, short));
}

pub lower_part : (g : SettingsFields) (r : Range) (middle : ℕ) (tried : Tried) → IsRange g r → r.low < middle → middle < r.high →
    IsTried g middle tried → tried.is_enough ≡ true → IsRange g (record r { high = middle; at = tried.plan })
lower_part g r middle tried range low high is full = record {
  order = low;
  most = omega (arith, range.most, high);
  best = is.best;
  enough = is.enough.0 full;
  below = range.below;
}

-- no base quality up to one that isn't enough is enough
none-below : (g : SettingsFields) (low : ℕ) (o : Option (List Action)) (less : ℕ) → IsNotEnough g low o → 1 ≤ less → less ≤ low → IsEnough g less → ⊥
none-below g low None less h one under enough = absurd (omega (arith, h, one, under))
none-below g low (Some m) less h one under enough = h.2 (enough-more g less low under enough)

best-below : (g : SettingsFields) (low base : ℕ) (o : Option (List Action)) → base ≡ low + 1 → IsNotEnough g low o → IsBestBelow g base o
best-below g low base None next h = omega (arith, next, h)
best-below g low base (Some m) next h =
    let same : low ≡ base - 1 = omega (arith, next) in
    (omega (arith, next, h.0), subst (λ (n : ℕ). IsBest (with_base g n) m) same h.1)

pub range-swept : (g : SettingsFields) (r : Range) → IsRange g r → r.high - r.low ≤ 1 → IsSwept g (Least r.high r.at r.below)
range-swept g r range narrow =
    let next : r.high ≡ r.low + 1 = omega (arith, range.order, narrow) in (
      record {
        low = omega (arith, range.order);
        high = range.most;
        enough = range.enough;
        least = λ less one under. none-below g r.low r.below less range.below one (omega (arith, next, under));
      },
      range.best,
      best-below g r.low r.high r.below next range.below,
    )

-- ---- the calls that are left suffice

-- after so many calls, of at least one, the calls that are left suffice for a range of this size
pub record SufficesAfter (calls size : ℕ) : Type 0 where
  pub low : 1 ≤ calls
  pub high : calls ≤ MOST_CALLS
  pub halvings : size ≤ 2 ^ (MOST_CALLS - calls)

some-left : (k size : ℕ) → size ≤ 2 ^ k → 1 < size → 1 ≤ k
some-left zero size h more = absurd (omega (arith, h, more))
some-left (suc k) size h more = omega arith

pub suffices-start : (calls : ℕ) → calls ≡ 1 → SufficesAfter calls MOST_BASE
suffices-start calls is = rw is (record { low = omega arith; high = omega arith; halvings = omega arith })

pub suffices-more : (calls size : ℕ) → SufficesAfter calls size → 1 < size → calls < MOST_CALLS
suffices-more calls size h more =
    let left = some-left (MOST_CALLS - calls) size h.halvings more in
    omega (arith, left)

half-power : (k room : ℕ) → room ≡ 2 ^ suc k / 2 → room ≡ 2 ^ k
half-power k room is = omega (arith, rw pow-suc at is)

double : (k size room : ℕ) → size ≤ 2 ^ suc k → room ≡ 2 ^ k → size ≤ 2 * room
double k size room h is = omega (arith, rw pow-suc at h, is)

-- the room after so many calls: half of what the calls that are left can halve
abbrev pub IsRoomAfter : ℕ → ℕ → Type 0
IsRoomAfter calls room = room ≡ 2 ^ (MOST_CALLS - calls) / 2

room-power : (calls next size room : ℕ) → SufficesAfter calls size → 1 < size → next ≡ calls + 1 → IsRoomAfter calls room → room ≡ 2 ^ (MOST_CALLS - next)
room-power calls next size room h more is at =
    let under = suffices-more calls size h more in
    let left : MOST_CALLS - calls ≡ suc (MOST_CALLS - next) = omega (arith, under, is) in
    half-power (MOST_CALLS - next) room (subst (λ (k : ℕ). room ≡ 2 ^ k / 2) left at)

pub room-wide : (calls size room : ℕ) → SufficesAfter calls size → 1 < size → IsRoomAfter calls room → size ≤ 2 * room
room-wide calls size room h more at =
    let under = suffices-more calls size h more in
    let left : MOST_CALLS - calls ≡ suc (MOST_CALLS - suc calls) = omega (arith, under) in
    double (MOST_CALLS - suc calls) size room (subst (λ (k : ℕ). size ≤ 2 ^ k) left h.halvings) (room-power calls (suc calls) size room h more (omega arith) at)

pub room-next : (calls next size room : ℕ) → SufficesAfter calls size → 1 < size → next ≡ calls + 1 → IsRoomAfter calls room → IsRoomAfter next (room / 2)
room-next calls next size room h more is at = ap (λ (n : ℕ). n / 2) (room-power calls next size room h more is at)

pub suffices-next : (calls next size part room : ℕ) → SufficesAfter calls size → 1 < size → next ≡ calls + 1 → IsRoomAfter calls room → part ≤ room → SufficesAfter next part
suffices-next calls next size part room h more is at less =
    let under = suffices-more calls size h more in
    record {
      low = omega (arith, is);
      high = omega (arith, is, under);
      halvings = subst (λ (n : ℕ). part ≤ n) (room-power calls next size room h more is at) less;
    }
