-- What a seat sees of a budget, column by column.
use Rattle.std.proofs.Common.{◌≡◌, inl, inr, ℕ, ◌+◌, ◌/◌, ◌%◌, ◌==◌, ◌<◌, Contains, sym, ap, ◌∙◌, subst, arith}
use Rattle.plain_lemmas.proofs.Tests.{below_or_at}
use Rattle.race_core.specs.declared.view.View.{View}
use Rattle.seat_tables.specs.Seats.{StillSees}
use Rattle.relaxed_moves.specs.Columns.{at_bucket}
use Rattle.relaxed_moves.specs.Moves.{RelaxedFields}
use Rattle.relaxed_moves.specs.Places.{state_at, index_of}
use Rattle.relaxed_moves.specs.declared.places.TheConstants.{BUCKET_STATES}
use Rattle.relaxed_moves.proofs.Indices.{index_of-at, bucket-state_at}
use Rattle.table_bound.specs.Bounds.{BoundRules}
use Rattle.table_bound.specs.Columns.{SeesBuckets}
use Rattle.quality_bound.specs.Seen.{SeesEffects}

-- places with one effects number differ in the bucket alone
same_effects : (grain effects place : ℕ) → effects < BUCKET_STATES → place % BUCKET_STATES ≡ effects → at_bucket (state_at grain effects) (state_at grain place).bucket ≡ state_at grain place
unfolding state_at
same_effects grain effects place small is =
    let e : effects % 1100 ≡ place % 1100 = omega (arith, small, is) in
    λ i. record {
      bucket = place / 1100 % (grain + 1);
      iq = e i / 100;
      innovation = e i / 20 % 5;
      veneration = e i / 4 % 5;
      strides = e i / 2 % 2 == 1;
      muscle = e i % 2 == 1;
    }

-- the buckets of a column are its places
pub sees-column : {T : Type 0} (r : BoundRules) (budget effects : ℕ) (x : RelaxedFields) (v : View T) → effects < BUCKET_STATES → x ≡ state_at r.grain effects
    → SeesBuckets (r.grain + 1) r budget x v → SeesEffects r.grain budget effects (effects + 1) v
sees-column r budget effects x v small x_is sees = record {
  seen = λ place first from to.
      let e : place % 1100 ≡ effects = omega (arith, from, to) in
      let b = (state_at r.grain place).bucket in
      let low : b < r.grain + 1 = omega (arith, bucket-state_at r.grain place) in
      let state : at_bucket x b ≡ state_at r.grain place = ap (λ (y : RelaxedFields). at_bucket y b) x_is ∙ same_effects r.grain effects place small e in
      let at : index_of r.grain budget (at_bucket x b) ≡ place =
      ap (λ y. index_of r.grain budget y) state ∙ ap (λ n. index_of r.grain n (state_at r.grain place)) (sym first) ∙ index_of-at r.grain place in
      subst (λ (n : ℕ). Contains v.seen n) at (sees.seen b low);
}

-- one effects number more was seen
pub sees-one_more : {T : Type 0} (grain budget from n : ℕ) (v w : View T) → StillSees v w → SeesEffects grain budget n (n + 1) w → SeesEffects grain budget from n v → SeesEffects grain budget from (n + 1) w
sees-one_more grain budget from n v w still this before = record {
  seen = λ place first low high. elim (below_or_at (place % 1100) n high) [
    | inl under ↦ still.seen _ (before.seen place first low under)
    | inr same ↦ this.seen place first (omega (arith, same)) (omega (arith, same))
  ];
}
