-- What a relaxed move does to a whole column.
use Rattle.std.proofs.Common.{ℕ, Bool, true, false, Option, None, ◌≡◌, ◌≤◌, ◌<◌, ◌+◌, ◌-◌, ◌&&◌, nat_le, refl, sym, ap, ◌∙◌, subst, arith, if◌then◌else◌}
use Rattle.std.specs.Option.{option_map}
use Rattle.action_table.specs.declared.action.Action.{Action}
use Rattle.craft_settings.specs.Ranges.{SettingsFields}
use Rattle.relaxed_moves.specs.Columns.{at_bucket}
use Rattle.relaxed_moves.specs.Moves.{RelaxedFields, AreRelaxed, is_move_of, move_gain_of, move_on_of, move_progress, unit_of}
use Rattle.relaxed_moves.proofs.Columns.{move_on-column, is_move-column, move_gain-column, shift_of}
use Rattle.relaxed_moves.proofs.Indices.{relaxed_at}
use Rattle.relaxed_moves.proofs.Costs.{unit_positive}
use Rattle.table_bound.specs.Bounds.{BoundRules, AreBoundRules, optimum}
use Rattle.table_bound.specs.Columns.{LeadsNowhere, LeadsDown}

both : (c d : Bool) (o : Option ℕ) → c ≡ true → d ≡ true → (if c && d then o else None) ≡ o
both true true o e f = refl
both true false o e f = absurd (cc)
both false d o e f = absurd (cc)

neither : (c d : Bool) (o : Option ℕ) → c ≡ false → (if c && d then o else None) ≡ None
neither true d o e = absurd (cc)
neither false d o e = refl

second_fails : (c d : Bool) (o : Option ℕ) → d ≡ false → (if c && d then o else None) ≡ None
second_fails true true o e = absurd (cc)
second_fails true false o e = refl
second_fails false d o e = refl

pub no_move : (r : BoundRules) (budget : ℕ) (x : RelaxedFields) (action : Action) → is_move_of r.g x action ≡ false → LeadsNowhere r budget x action
no_move r budget x action is = record { at = λ b. neither _ _ _ (is_move-column r.g b x action ∙ is) }

pub too_dear : (r : BoundRules) (budget : ℕ) (x : RelaxedFields) (action : Action) → budget < r.price action → LeadsNowhere r budget x action
too_dear r budget x action dear = record { at = λ b. second_fails _ _ _ (let no : nat_le (r.price action) budget ≡ false = grind arith in no) }

lower : (b grain k : ℕ) → b ≤ grain → b - k ≡ b - (grain - (grain - k))
lower b grain k h = omega arith

-- from the highest bucket the move shows how many buckets it leads down
next_bucket : (r : BoundRules) (x : RelaxedFields) (action : Action) (b : ℕ) → AreBoundRules r → b ≤ r.grain →
    let next = move_on_of r.g r.grain (at_bucket x r.grain) action in
    move_on_of r.g r.grain (at_bucket x b) action ≡ at_bucket next (b - (r.grain - next.bucket))
next_bucket r x action b rules within =
    let positive = unit_positive r.g r.grain rules.settings rules.grain.low in
    let after = move_on_of r.g r.grain x action in
    let k = shift_of (unit_of r.g r.grain) (move_progress r.g x action) in
    let there = move_on-column r.g r.grain b x action positive in
    let top = move_on-column r.g r.grain r.grain x action positive in
    there ∙ ap (λ n. at_bucket after n) (lower b r.grain k within)
    ∙ sym (ap (λ (y : RelaxedFields). at_bucket y (b - (r.grain - y.bucket))) top)

pub leads_down : (r : BoundRules) (budget : ℕ) (x : RelaxedFields) (action : Action) (price gain : ℕ) (next : RelaxedFields) → AreBoundRules r → AreRelaxed next
    → is_move_of r.g x action ≡ true → price ≡ r.price action → r.least ≤ price → price ≤ budget → gain ≤ 100000
    → gain ≡ move_gain_of r.g (at_bucket x r.grain) action → next ≡ move_on_of r.g r.grain (at_bucket x r.grain) action
    → LeadsDown r budget x action (budget - price) gain (r.grain - next.bucket) next
leads_down r budget x action price gain next rules bounds may price_is low paid small gain_is next_is = record {
  less = omega arith;
  bounds = bounds;
  small = small;
  low = omega arith;
  at = λ b within.
      both _ _ _ (is_move-column r.g b x action ∙ may) (let fits : nat_le (r.price action) budget ≡ true = grind (arith, price_is, paid) in fits)
      ∙ ap (λ n. option_map (λ most. n + most) (optimum r (budget - r.price action) (move_on_of r.g r.grain (at_bucket x b) action))) (move_gain-column r.g b x action ∙ sym (move_gain-column r.g r.grain x action) ∙ sym gain_is)
      ∙ ap (λ n. option_map (λ most. gain + most) (optimum r (budget - n) (move_on_of r.g r.grain (at_bucket x b) action))) (sym price_is)
      ∙ ap (λ y. option_map (λ most. gain + most) (optimum r (budget - price) y)) (next_bucket r x action b rules within
      ∙ ap (λ (y : RelaxedFields). at_bucket y (b - (r.grain - y.bucket))) (sym next_is));
}

-- the same, by what the calls answer
pub turn_none : (r : BoundRules) (budget : ℕ) (x : RelaxedFields) (action : Action) (g : SettingsFields) (grain : ℕ) (top : RelaxedFields) (may : Bool)
    → g ≡ r.g → top ≡ at_bucket x grain → may ≡ is_move_of g top action → may ≡ false → LeadsNowhere r budget x action
turn_none r budget x action g grain top may g_is top_is may_is fails =
    no_move r budget x action (sym (is_move-column r.g grain x action) ∙ ap (λ y. is_move_of r.g y action) (sym top_is) ∙ ap (λ h. is_move_of h top action) (sym g_is) ∙ sym may_is ∙ fails)

pub turn_some : (r : BoundRules) (budget : ℕ) (x : RelaxedFields) (action : Action) (g : SettingsFields) (grain : ℕ) (top : RelaxedFields) (may : Bool) (price gain : ℕ) (next : RelaxedFields) (bucket : ℕ)
    → AreBoundRules r → AreRelaxed next → g ≡ r.g → grain ≡ r.grain → top ≡ at_bucket x grain → may ≡ is_move_of g top action → may ≡ true → price ≡ r.price action → r.least ≤ price → price ≤ budget
    → gain ≡ move_gain_of g top action → gain ≤ 100000 → next ≡ move_on_of g grain top action → bucket ≡ next.bucket
    → LeadsDown r budget x action (budget - price) gain (grain - bucket) next
turn_some r budget x action g grain top may price gain next bucket rules bounds g_is grain_is top_is may_is holds price_is low paid gain_is small next_is bucket_is =
    let top' : top ≡ at_bucket x r.grain = top_is ∙ ap (λ n. at_bucket x n) grain_is in
    let move : is_move_of r.g x action ≡ true = sym (is_move-column r.g grain x action) ∙ ap (λ y. is_move_of r.g y action) (sym top_is) ∙ ap (λ h. is_move_of h top action) (sym g_is) ∙ sym may_is ∙ holds in
    let gains : gain ≡ move_gain_of r.g (at_bucket x r.grain) action = gain_is ∙ ap (λ h. move_gain_of h top action) g_is ∙ ap (λ y. move_gain_of r.g y action) top' in
    let leads : next ≡ move_on_of r.g r.grain (at_bucket x r.grain) action = next_is ∙ ap (λ h. move_on_of h grain top action) g_is ∙ ap (λ n. move_on_of r.g n top action) grain_is ∙ ap (λ y. move_on_of r.g r.grain y action) top' in
    subst (λ (n : ℕ). LeadsDown r budget x action (budget - price) gain (n - bucket) next) (sym grain_is)
    (subst (λ (n : ℕ). LeadsDown r budget x action (budget - price) gain (r.grain - n) next) (sym bucket_is)
    (leads_down r budget x action price gain next rules bounds move price_is low paid small gains leads))

-- the bucket of the state after the move is free
pub raised : (r : BoundRules) (budget : ℕ) (x : RelaxedFields) (action : Action) (rest gain down : ℕ) (next : RelaxedFields)
    → LeadsDown r budget x action rest gain down next → LeadsDown r budget x action rest gain down (at_bucket next r.grain)
raised r budget x action rest gain down next leads = record {
  less = leads.less;
  small = leads.small;
  low = leads.low;
  bounds = relaxed_at next r.grain leads.bounds;
  at = leads.at;
}
