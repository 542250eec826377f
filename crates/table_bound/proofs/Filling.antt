-- How a row comes to hold the optima of its buckets.
use Rattle.std.proofs.Common.{◌≡◌, ◌⊎◌, inl, inr, ◌≢◌, ℕ, ◌+◌, ◌-◌, ◌^◌, ◌<◌, ◌≤◌, max, Bool, true, false, Option, Some, None, zero, suc, List, [], ◌∷◌, length, take, get_or, slice_index, slice_set, get_or-set_other, get_or-set_same, Contains, ◌==◌, refl, sym, ap, ◌∙◌, subst, arith, if◌then◌else◌}
use Rattle.std.proofs.lemmas.List.{take_all}
use Rattle.relaxed_moves.proofs.Columns.{coded-max}
use Rattle.plain_lemmas.proofs.Tests.{below_or_at}
use Rattle.std.specs.Option.{option_map}
use Rattle.action_table.specs.declared.action.Action.{Action}
use Rattle.action_table.specs.Table.{all_actions}
use Rattle.lane_front.specs.MaxPlus.{max_plus_of}
use Rattle.race_core.specs.declared.entry.Entry.{Entry}
use Rattle.race_core.specs.declared.view.View.{View}
use Rattle.seat_tables.specs.Seats.{StillSees}
use Rattle.relaxed_moves.specs.Columns.{coded, at_bucket}
use Rattle.relaxed_moves.specs.FirstMoves.{leads, leads_with}
use Rattle.relaxed_moves.specs.Moves.{RelaxedFields, AreRelaxed}
use Rattle.relaxed_moves.specs.Optimum.{option_max}
use Rattle.relaxed_moves.specs.Places.{index_of}
use Rattle.relaxed_moves.proofs.Indices.{relaxed_at}
use Rattle.relaxed_moves.proofs.FirstMoves.{leads-none, leads-take, leads-all}
use Rattle.table_bound.proofs.Fits.{coded_small}
use Rattle.table_bound.specs.Bounds.{BoundRules, AreBoundRules, optimum, entry_by}
use Rattle.table_bound.specs.Columns.{IsColumn, IsColumnFrom, IsLowered, Leads, LeadsNowhere, LeadsDown, SeesBuckets}

coded-injective : (a b : Option ℕ) → coded a ≡ coded b → a ≡ b
coded-injective None None e = refl
coded-injective None (Some v) e = absurd (let h : ⊥ = omega arith in h)
coded-injective (Some v) None e = absurd (let h : ⊥ = omega arith in h)
coded-injective (Some v) (Some w) e = ap Some (let same : v ≡ w = omega arith in same)

-- a number of a row stands for one optimum
pub decoded : (number : ℕ) (a b : Option ℕ) → number ≡ coded a → number ≡ coded b → a ≡ b
decoded number a b e f = coded-injective a b (sym e ∙ f)

-- the kernel takes the greater of a number and a raised one
max_plus-coded : (d gain : ℕ) (o : Option ℕ) → max_plus_of d (coded o) gain ≡ max d (coded (option_map (λ most. gain + most) o))
max_plus-coded d gain None = omega arith
max_plus-coded d gain (Some v) = grind arith

coded_end : (bucket : ℕ) (t : Bool) → (if t then 1 else 0) ≡ coded (if t then Some 0 else None)
coded_end bucket true = refl
coded_end bucket false = refl

-- the row has in each place the greater of what it had and what plans with this first move gain
pub record TakesIn (r : BoundRules) (budget : ℕ) (x : RelaxedFields) (action : Action) (before after : List ℕ) : Type 0 where
  pub at : (bucket : ℕ) → bucket < length before
      → slice_index after bucket ≡ max (slice_index before bucket)
      (coded (leads_with r.price r.g r.grain budget (at_bucket x bucket) action))

-- the row of the empty list
pub leads-begin : (r : BoundRules) (budget : ℕ) (x : RelaxedFields) (row : List ℕ)
    → ((b : ℕ) → b < length row → slice_index row b ≡ (if b == 0 then 1 else 0)) → Leads r budget x 0 row
leads-begin r budget x row is = record {
  at = λ b lt.
      is b lt ∙ coded_end b (b == 0) ∙ ap coded (sym (leads-none r.price r.g r.grain budget (at_bucket x b)));
}

-- one more first move was tried
pub leads-more : (r : BoundRules) (budget : ℕ) (x : RelaxedFields) (n : ℕ) (d : Action) (old new : List ℕ) → length new ≡ length old → n < length all_actions
    → Leads r budget x n old → TakesIn r budget x (get_or all_actions n d) old new → Leads r budget x (n + 1) new
leads-more r budget x n d old new long inside_all before takes = record {
  at = λ b lt.
      let inside : b < length old = omega (arith, lt, long) in
      takes.at b inside
      ∙ ap (λ k. max k (coded (leads_with r.price r.g r.grain budget (at_bucket x b) (get_or all_actions n d)))) (before.at b inside)
      ∙ sym (ap coded (leads-take r.price r.g r.grain budget (at_bucket x b) n d inside_all) ∙ coded-max (leads r.price r.g r.grain budget (at_bucket x b) (take n all_actions)) (leads_with r.price r.g r.grain budget (at_bucket x b) (get_or all_actions n d)));
}

-- every first move was tried
pub leads-column : (r : BoundRules) (budget : ℕ) (x : RelaxedFields) (n : ℕ) (row : List ℕ) → AreBoundRules r → length all_actions ≤ n → Leads r budget x n row → IsColumn r budget x row
leads-column r budget x n row rules all h = record {
  at = λ b lt.
      h.at b lt ∙ ap (λ tried. coded (leads r.price r.g r.grain budget (at_bucket x b) tried)) (take_all n all_actions all)
      ∙ ap coded (leads-all r.price r.g r.grain budget (at_bucket x b) rules.priced);
}

-- nothing begins with the action
pub takes-none : (r : BoundRules) (budget : ℕ) (x : RelaxedFields) (action : Action) (row : List ℕ) → LeadsNowhere r budget x action → TakesIn r budget x action row row
takes-none r budget x action row none = record {
  at = λ b lt.
      (let same : slice_index row b ≡ max (slice_index row b) 0 = omega arith in same) ∙ ap (λ o. max (slice_index row b) (coded o)) (sym (none.at b));
}

-- what begins with the action, by another column, moved up
pub takes-turn : (r : BoundRules) (budget : ℕ) (x : RelaxedFields) (action : Action) (rest gain down : ℕ) (next : RelaxedFields) (old new moved : List ℕ)
    → length old ≡ r.grain + 1 → length moved ≡ r.grain + 1 → LeadsDown r budget x action rest gain down next → IsLowered r rest next down moved
    → ((b : ℕ) → b < length old → slice_index new b ≡ max_plus_of (slice_index old b) (slice_index moved b) gain)
    → TakesIn r budget x action old new
takes-turn r budget x action rest gain down next old new moved wide long leads is plus = record {
  at = λ b lt.
      let there : b < length moved = omega (arith, lt, wide, long) in
      let within : b ≤ r.grain = omega (arith, lt, wide) in
      plus b lt ∙ ap (λ n. max_plus_of (slice_index old b) n gain) (is.at b there)
      ∙ max_plus-coded (slice_index old b) gain (optimum r rest (at_bucket next (b - down)))
      ∙ ap (λ o. max (slice_index old b) (coded o)) (sym (leads.at b within));
}

-- a column that is moved up
pub lowers : (r : BoundRules) (budget : ℕ) (x : RelaxedFields) (down : ℕ) (column moved : List ℕ) → IsColumn r budget x column → length moved ≡ length column
    → ((b : ℕ) → b < length column → slice_index moved b ≡ slice_index column (b - down)) → IsLowered r budget x down moved
lowers r budget x down column moved is long up = record {
  at = λ b lt.
      let inside : b < length column = omega (arith, lt, long) in
      let there : b - down < length column = omega (arith, inside) in
      up b inside ∙ is.at (b - down) there;
}

-- one bucket more was seen
pub sees-more : {T : Type 0} (n : ℕ) (r : BoundRules) (budget : ℕ) (x : RelaxedFields) (v w : View T) → StillSees v w
    → Contains w.seen (index_of r.grain budget (at_bucket x n)) → SeesBuckets n r budget x v → SeesBuckets (n + 1) r budget x w
sees-more n r budget x v w still this before = record {
  seen = λ b lt. elim (below_or_at b n lt) [
    | inl low ↦ still.seen _ (before.seen b low)
    | inr same ↦ subst (λ k. Contains w.seen (index_of r.grain budget (at_bucket x k))) (sym same) this
  ];
}

-- one bucket more was read
pub reads-more : (r : BoundRules) (budget : ℕ) (x : RelaxedFields) (down n number : ℕ) (row : List ℕ) → n + down < length row
    → ((b : ℕ) → b < n → slice_index row (b + down) ≡ coded (optimum r budget (at_bucket x b)))
    → number ≡ coded (optimum r budget (at_bucket x n))
    → (b : ℕ) → b < n + 1 → slice_index (slice_set row (n + down) number) (b + down) ≡ coded (optimum r budget (at_bucket x b))
reads-more r budget x down n number row inside before this b lt = elim (below_or_at b n lt) [
  | inl low ↦ get_or-set_other row (n + down) (b + down) number 0 (let ne : b + down ≢ n + down = omega (arith, low) in ne) ∙ before b low
  | inr same ↦ subst (λ k. slice_index (slice_set row (n + down) number) (k + down) ≡ coded (optimum r budget (at_bucket x k))) (sym same) (rw get_or-set_same this)
]

back : (b down : ℕ) → max b down ≡ b - down + down
back b down = omega arith

-- the places below take the number of bucket 0
pub spreads : (r : BoundRules) (budget : ℕ) (x : RelaxedFields) (down : ℕ) (column moved : List ℕ) → IsColumnFrom r budget x down column → down < length column → length moved ≡ length column
    → ((b : ℕ) → b < length column → slice_index moved b ≡ slice_index column (max b down)) → IsLowered r budget x down moved
spreads r budget x down column moved is low long spread = record {
  at = λ b lt.
      let inside : b < length column = omega (arith, lt, long) in
      let there : b - down + down < length column = omega (arith, inside, low) in
      spread b inside ∙ ap (λ (n : ℕ). slice_index column n) (back b down) ∙ is.at (b - down) there;
}

entry_by-injective : (a b : Option ℕ) → entry_by a ≡ entry_by b → a ≡ b
entry_by-injective None None e = refl
entry_by-injective None (Some v) e = cc
entry_by-injective (Some v) None e = cc
entry_by-injective (Some v) (Some w) e = cc

-- the number of an entry that was read is small
pub number_small : (r : BoundRules) (budget : ℕ) (x : RelaxedFields) (entry : Entry) → AreBoundRules r → AreRelaxed x → budget ≤ r.most
    → entry ≡ entry_by (optimum r budget x) → (o : Option ℕ) → entry ≡ entry_by o → coded o < 2 ^ 32
number_small r budget x entry rules bounds within is o e =
    let same : optimum r budget x ≡ o = entry_by-injective _ _ (sym is ∙ e) in
    let low : coded o ≤ 137800001 = subst (λ p. coded p ≤ 137800001) same (coded_small r budget x rules bounds within) in
    omega (arith, low)

-- one more gain on top of a number of a column, moved up, fits
pub sum_fits : (r : BoundRules) (budget gain down : ℕ) (x : RelaxedFields) (moved : List ℕ) → AreBoundRules r → AreRelaxed x → budget ≤ r.most → gain ≤ 100000
    → IsLowered r budget x down moved → (k : ℕ) → k < length moved → slice_index moved k + gain < 2 ^ 32
sum_fits r budget gain down x moved rules bounds within small is k lt =
    let low : slice_index moved k ≤ 137800001 =
    subst (λ (n : ℕ). n ≤ 137800001) (sym (is.at k lt)) (coded_small r budget (at_bucket x (k - down)) rules (relaxed_at x (k - down) bounds) within) in
    omega (arith, low, small)

-- the bucket of the state that a column is asked for is free
pub sees-lowered : {T : Type 0} (n : ℕ) (r : BoundRules) (budget bucket : ℕ) (x : RelaxedFields) (v : View T) → SeesBuckets n r budget (at_bucket x bucket) v → SeesBuckets n r budget x v
sees-lowered n r budget bucket x v sees = record { seen = sees.seen }
