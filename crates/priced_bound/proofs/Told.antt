-- Limits and tests of a table: what holds where it tells of a state, and where it doesn't.
use Rattle.std.proofs.Common.{ℕ, Bool, true, false, List, [], ◌∷◌, Option, Some, None, ◌≡◌, ◌≤◌, ◌<◌, ◌+◌, ◌-◌, ◌*◌, ◌/◌, ◌&&◌, ◌||◌, not, nat_lt, nat_le, min, refl, ◌∙◌, ap, sym, subst, arith, inl, inr}
use Rattle.std.specs.Option.{option_map}
use Rattle.std.proofs.lemmas.Bool.Decides.{nat_tests}
use Rattle.std.proofs.lemmas.Nat.{mul-le}
use Rattle.plain_lemmas.proofs.Tests.{bool_cases, clash, and_both, and_by, le_to, le_from, not_true, passes_by, some_test, some_by}
use Rattle.action_table.specs.declared.action.Action.{Action}
use Rattle.craft_settings.specs.Ranges.{SettingsFields, AreSettings}
use Rattle.craft_settings.specs.Rules.{cap_of}
use Rattle.craft_state.specs.Craft.{StateFields, AreEffects}
use Rattle.craft_state.specs.NotLess.{IsNotLess}
use Rattle.step_rules.specs.Legality.{IsWithin}
use Rattle.step_rules.specs.Macro.{counted}
use Rattle.step_rules.specs.Step.{step_of}
use Rattle.admissible.specs.Laws.{GoesOn, Finishes}
use Rattle.admissible.proofs.Reached.{first-step}
use Rattle.prefix_fronts.specs.Prefix.{AreLimits}
use Rattle.relaxed_moves.specs.Optimum.{option_le, capped, is_enough}
use Rattle.relaxed_moves.specs.Places.{bit}
use Rattle.relaxed_moves.proofs.Greatest.{option_le-trans, enough-more}
use Rattle.priced_moves.specs.declared.kinds.Prices.{Prices}
use Rattle.priced_moves.specs.declared.kinds.Units.{Units}
use Rattle.priced_moves.specs.Moves.{SeenFields, AreUnits, AreSmallUnits, seen_of, progress_units}
use Rattle.priced_moves.proofs.Rounding.{ceiling-more}
use Rattle.priced_moves.specs.Prices.{spared, worth_of}
use Rattle.priced_moves.specs.Optimum.{limit_of, in_points, best}
use Rattle.priced_laws.specs.Laws.{GoesLater}
use Rattle.priced_laws.proofs.Limits.{limit-step, limit-last, limit-not_less, worth-not_less}
use Rattle.priced_laws.proofs.Reached.{limit-free}
use Rattle.priced_laws.proofs.Reaching.{AreLimits-both, by-first}
use Rattle.priced_laws.proofs.Worth.{worth-rest}
use Rattle.priced_graph.specs.Sights.{IsNumber, is_seen_in, sights_of}
use Rattle.priced_graph.proofs.Listed.{seen-yes, seen-by}
use Rattle.priced_graph.specs.Ties.{cut}
use Rattle.priced_bound.specs.Bounds.{BoundFields, is_told, has_sight, limit_in, passes, promise_in, promise_of, all_pass, AreTablesOf}
use Rattle.priced_bound.specs.Places.{IsPlace}
use Rattle.priced_bound.specs.Reckoned.{ReckoningFields, AreReckoned}
use Rattle.priced_bound.specs.declared.bound.Place.{Place}
use Rattle.priced_bound.specs.declared.reckoning.TheConstants.{MOST_LEFT, MOST_PROMISE}
use Rattle.priced_bound.specs.Tables.{table_best}
use Rattle.priced_bound.specs.declared.choices.TheConstants.{MOST_WORTH}
use Rattle.priced_bound.proofs.Cutting.{capped-cut}
use Rattle.priced_bound.proofs.Sighted.{sight-step}
use Rattle.admissible.proofs.Limits.{capped-most}

pub are-units : (units : Units) → AreSmallUnits units → AreUnits units
are-units units h = record { progress = h.progress; quality = h.quality }

-- ---- by whether the table tells

pub record Told (b : BoundFields) (s : StateFields) (steps : ℕ) : Type 0 where
  pub first : s.effects.first ≡ false
  pub left : steps ≤ MOST_LEFT
  pub worth : worth_of b.by.prices s steps ≤ b.top
  pub sight : has_sight b.by s ≡ true

pub told-parts : (b : BoundFields) (s : StateFields) (left : ℕ) → is_told b s left ≡ true → Told b s left
told-parts b s left h =
    let x = and_both (not s.effects.first) (nat_le left MOST_LEFT && (nat_le (worth_of b.by.prices s left) b.top && has_sight b.by s)) h in
    let y = and_both (nat_le left MOST_LEFT) (nat_le (worth_of b.by.prices s left) b.top && has_sight b.by s) x.1 in
    let z = and_both (nat_le (worth_of b.by.prices s left) b.top) (has_sight b.by s) y.1 in
    record { first = not_true s.effects.first x.0; left = le_from _ _ y.0; worth = le_from _ _ z.0; sight = z.1 }

later_true : (first : Bool) → first ≡ false → not first ≡ true
later_true first h = rw h refl

pub told-by : (b : BoundFields) (s : StateFields) (left : ℕ) → Told b s left → is_told b s left ≡ true
told-by b s left h =
    and_by (not s.effects.first) _ (later_true s.effects.first h.first) (and_by _ _ (le_to left MOST_LEFT h.left) (and_by _ (has_sight b.by s) (le_to (worth_of b.by.prices s left) b.top h.worth) h.sight))

pub told-limit : (b : BoundFields) (s : StateFields) (left : ℕ) → is_told b s left ≡ true → limit_in b s left ≡ limit_of b.by.prices b.by.g b.by.units s left
unfolding limit_in
told-limit b s left told = rw told refl

pub untold-limit : (b : BoundFields) (s : StateFields) (left : ℕ) → is_told b s left ≡ false → limit_in b s left ≡ Some (cap_of b.by.g)
unfolding limit_in
untold-limit b s left untold = rw untold refl

limit_of-low : (b : BoundFields) (s : StateFields) (left : ℕ) → option_le (limit_of b.by.prices b.by.g b.by.units s left) (Some (cap_of b.by.g))
unfolding limit_of
limit_of-low b s left = capped-most b.by.g s _

-- no limit is above what counts
pub limit-low : (b : BoundFields) (s : StateFields) (left : ℕ) → option_le (limit_in b s left) (Some (cap_of b.by.g))
limit-low b s left = elim (is_told b s left) as (λ t. is_told b s left ≡ t → option_le (limit_in b s left) (Some (cap_of b.by.g))) [
  | true ↦ λ told. subst (λ (o : Option ℕ). option_le o (Some (cap_of b.by.g))) (sym (told-limit b s left told)) (limit_of-low b s left)
  | false ↦ λ untold. subst (λ (o : Option ℕ). option_le o (Some (cap_of b.by.g))) (sym (untold-limit b s left untold)) (omega arith)
] refl

-- a limit is no less than another where it is so by the definition, and where the table doesn't tell
limits-by : (b : BoundFields) (s t : StateFields) (i j : ℕ) →
    (is_told b s i ≡ true → (is_told b t j ≡ true) × option_le (limit_of b.by.prices b.by.g b.by.units t j) (limit_of b.by.prices b.by.g b.by.units s i)) → option_le (limit_in b t j) (limit_in b s i)
limits-by b s t i j by = elim (is_told b s i) as (λ k. is_told b s i ≡ k → option_le (limit_in b t j) (limit_in b s i)) [
  | true ↦ λ told.
      let h = by told in
      subst (λ (o : Option ℕ). option_le o (limit_in b s i)) (sym (told-limit b t j h.0))
      (subst (λ (o : Option ℕ). option_le (limit_of b.by.prices b.by.g b.by.units t j) o) (sym (told-limit b s i told)) h.1)
  | false ↦ λ untold. subst (λ (o : Option ℕ). option_le (limit_in b t j) o) (sym (untold-limit b s i untold)) (limit-low b t j)
] refl

-- ---- steps

sight-goes : (r : ReckoningFields) (s : StateFields) (a : Action) → GoesOn r.g s a → has_sight r s ≡ true → has_sight r (step_of r.g s a) ≡ true
sight-goes r s a step h =
    seen-yes (sights_of r.g) (seen_of r.g r.units (step_of r.g s a)) (sight-step r.g r.units s a step (seen-by (sights_of r.g) (seen_of r.g r.units s) h))

told-step : (b : BoundFields) (s : StateFields) (a : Action) (left : ℕ) → AreReckoned b.by → GoesOn b.by.g s a → 1 ≤ left → Told b s (left + 1) → Told b (step_of b.by.g s a) left
told-step b s a left are step some told = record {
  first = first-step b.by.g s a;
  left = let fewer = told.left in omega arith;
  worth = let fewer = told.worth in let law = worth-rest b.by.prices b.by.g s a left are.fair step some in omega arith;
  sight = sight-goes b.by s a step told.sight;
}

pub bound-step : (b : BoundFields) (s : StateFields) (a : Action) (left : ℕ) → AreReckoned b.by → GoesOn b.by.g s a → 1 ≤ left →
    option_le (limit_in b (step_of b.by.g s a) left) (limit_in b s (left + 1))
bound-step b s a left are step some =
    limits-by b s (step_of b.by.g s a) (left + 1) left (λ told.
    let parts = told-parts b s (left + 1) told in (
      told-by b (step_of b.by.g s a) left (told-step b s a left are step some parts),
      limit-step b.by.prices b.by.g b.by.units s a left are.fair (are-units b.by.units are.units) record { step = step; first = parts.first } some,
    ))

counted-low : (g : SettingsFields) (t : StateFields) → counted g t ≤ cap_of g
counted-low g t = omega arith

pub bound-last : (b : BoundFields) (s : StateFields) (a : Action) (left : ℕ) → AreReckoned b.by → Finishes b.by.g s a → 1 ≤ left →
    option_le (Some (counted b.by.g (step_of b.by.g s a))) (limit_in b s left)
bound-last b s a left are step some = elim (is_told b s left) as (λ k. is_told b s left ≡ k → option_le (Some (counted b.by.g (step_of b.by.g s a))) (limit_in b s left)) [
  | true ↦ λ told.
      let parts = told-parts b s left told in
      subst (λ (o : Option ℕ). option_le (Some (counted b.by.g (step_of b.by.g s a))) o) (sym (told-limit b s left told))
      (limit-last b.by.prices b.by.g b.by.units s a left are.fair (are-units b.by.units are.units) record { step = step; first = parts.first } some)
  | false ↦ λ untold.
      subst (λ (o : Option ℕ). option_le (Some (counted b.by.g (step_of b.by.g s a))) o) (sym (untold-limit b s left untold)) (counted-low b.by.g (step_of b.by.g s a))
] refl

same-sight : (r : ReckoningFields) (s t : StateFields) → IsNotLess s t → has_sight r s ≡ true → has_sight r t ≡ true
unfolding seen_of
same-sight r s t less h =
    let by = seen-by (sights_of r.g) (seen_of r.g r.units s) h in
    seen-yes (sights_of r.g) (seen_of r.g r.units t) record {
      iq = subst (λ e. e.iq < (sights_of r.g).iq) less.effects by.iq;
      innovation = subst (λ e. e.innovation < (sights_of r.g).innovation) less.effects by.innovation;
      veneration = subst (λ e. e.veneration < (sights_of r.g).veneration) less.effects by.veneration;
      strides = subst (λ e. bit (nat_lt 0 e.strides) < (sights_of r.g).strides) less.effects by.strides;
      muscle = subst (λ e. bit (nat_lt 0 e.muscle) < (sights_of r.g).muscle) less.effects by.muscle;
      begun = subst (λ (n : ℕ). bit (r.g.backload && nat_lt 0 n) < (sights_of r.g).begun) less.progress by.begun;
    }

pub bound-order : (b : BoundFields) (s t : StateFields) (left : ℕ) → AreReckoned b.by → IsWithin b.by.g s → IsNotLess s t → option_le (limit_in b t left) (limit_in b s left)
bound-order b s t left are within less =
    limits-by b s t left left (λ told.
    let parts = told-parts b s left told in (
      told-by b t left (record {
        first = ap (λ e. e.first) (sym less.effects) ∙ parts.first;
        left = parts.left;
        worth = let most = parts.worth in let law = worth-not_less b.by.prices s t left are.fair.coin less in omega arith;
        sight = same-sight b.by s t less parts.sight;
      }),
      limit-not_less b.by.prices b.by.g b.by.units s t left are.fair (are-units b.by.units are.units) within less,
    ))

-- ---- where steps cost nothing, nine are as good as any number

nine-steps : (alpha rho sigma step cp d m w f over j : ℕ) → step ≡ 0 → m ≤ 8 → w ≤ 8 → 9 ≤ j →
    alpha * cp + rho * (d + min m (j + 1 - 1)) + sigma * min w (j + 1) + f + over + step * (j + 1) ≡ alpha * cp + rho * (d + min m (j - 1)) + sigma * min w j + f + over + step * j
nine-steps alpha rho sigma step cp d m w f over j free manipulation waste many =
    let a : min m (j + 1 - 1) ≡ m = omega arith in
    let b : min m (j - 1) ≡ m = omega arith in
    let c : min w (j + 1) ≡ w = omega arith in
    let e : min w j ≡ w = omega arith in
    rw (free, a, b, c, e) (omega arith)

worth-nine : (p : Prices) (s : StateFields) (j : ℕ) → p.step ≡ 0 → AreEffects s.effects → 9 ≤ j → worth_of p s (j + 1) ≡ worth_of p s j
unfolding worth_of
worth-nine p s j free effects many =
    ap (λ (n : ℕ). n / p.coin)
    (nine-steps p.cp p.five p.waste p.step s.cp (s.durability / 5) s.effects.manipulation s.effects.waste (spared p s.effects.perfection) p.five j free effects.manipulation effects.waste many)

pub bound-free : (b : BoundFields) (s : StateFields) (a : Action) (left : ℕ) → AreReckoned b.by → b.by.prices.step ≡ 0 → GoesOn b.by.g s a → 9 ≤ left →
    option_le (limit_in b (step_of b.by.g s a) left) (limit_in b s left)
bound-free b s a left are free step many =
    limits-by b s (step_of b.by.g s a) left left (λ told.
    let parts = told-parts b s left told in
    let units = are-units b.by.units are.units in
    let later : GoesLater b.by.g s a = record { step = step; first = parts.first } in (
      told-by b (step_of b.by.g s a) left (record {
        first = first-step b.by.g s a;
        left = parts.left;
        worth =
            let most = parts.worth in
            let same = worth-nine b.by.prices s left free step.within.effects many in
            let law = worth-rest b.by.prices b.by.g s a left are.fair step (omega arith) in
            omega arith;
        sight = sight-goes b.by s a step parts.sight;
      }),
      option_le-trans _ _ _ (limit-step b.by.prices b.by.g b.by.units s a left are.fair units later (omega arith))
          (limit-free b.by.prices b.by.g b.by.units s (left + 1) left are.fair units step.within free many),
    ))

-- ---- tests

more_enough : (target a b : ℕ) → nat_le target a ≡ true → a ≤ b → nat_le target b ≡ true
more_enough target a b h less = grind (arith, nat_tests)

pass_first : (first a : Bool) → first ≡ true → (first || a) ≡ true
pass_first first a h = rw h refl

passes-first : (b : BoundFields) (target left : ℕ) (s : StateFields) → s.effects.first ≡ true → passes b target left s ≡ true
unfolding passes
passes-first b target left s first = pass_first s.effects.first _ first

passes-by : (b : BoundFields) (target left : ℕ) (s : StateFields) → 1 ≤ left → is_enough target (limit_in b s left) ≡ true → passes b target left s ≡ true
unfolding passes
passes-by b target left s some enough = passes_by s.effects.first (nat_lt 0 left) (is_enough target (limit_in b s left)) (some_test left some) enough

parts_of : (first a b : Bool) → first ≡ false → (first || (a && b)) ≡ true → (a ≡ true) × (b ≡ true)
parts_of true a b later h = absurd (cc)
parts_of false a b later h = and_both a b h

passes-parts : (b : BoundFields) (target left : ℕ) (s : StateFields) → s.effects.first ≡ false → passes b target left s ≡ true → (1 ≤ left) × (is_enough target (limit_in b s left) ≡ true)
unfolding passes
passes-parts b target left s later h =
    let parts = parts_of s.effects.first (nat_lt 0 left) (is_enough target (limit_in b s left)) later h in
    (some_by left parts.0, parts.1)

pub bound-limits : (b : BoundFields) (target : ℕ) → AreReckoned b.by → AreLimits b.by.g target (passes b target)
bound-limits b target are = record {
  step = λ j s action within live legal goes pass.
      let parts = passes-parts b target j (step_of b.by.g s action) (first-step b.by.g s action) pass in
      passes-by b target (j + 1) s (omega arith)
      (enough-more target _ _ (bound-step b s action j are record { within = within; legal = legal; live = goes } parts.0) parts.1);
  order = λ j s t within within' live less pass.
      by-first (passes b target j s ≡ true) t
      (λ first. passes-first b target j s (ap (λ e. e.first) less.effects ∙ first))
      (λ later.
      let parts = passes-parts b target j t later pass in
      passes-by b target j s parts.0 (enough-more target _ _ (bound-order b s t j are within less) parts.1));
  last = λ j s action within live legal done enough.
      passes-by b target (j + 1) s (omega arith)
      (enough-more target (Some (counted b.by.g (step_of b.by.g s action))) (limit_in b s (j + 1)) (bound-last b s action (j + 1) are record { within = within; legal = legal; done = done } (omega arith)) (le_to target _ enough));
}

always : (g : SettingsFields) (target : ℕ) → AreLimits g target (λ left s. true)
always g target = record {
  step = λ j s action within live legal goes pass. refl;
  order = λ j s t within within' live less pass. refl;
  last = λ j s action within live legal done enough. refl;
}

pub bounds-limits : (g : SettingsFields) (bounds : List BoundFields) (target : ℕ) → AreTablesOf g bounds → AreLimits g target (all_pass bounds target)
bounds-limits g [] target of = always g target
bounds-limits g (b ∷ rest) target of =
    AreLimits-both g target (passes b target) (all_pass rest target) (subst (λ (h : SettingsFields). AreLimits h target (passes b target)) of.0.0 (bound-limits b target of.0.1)) (bounds-limits g rest target of.1)

-- ---- where the table tells

untold-by : (b : BoundFields) (s : StateFields) (left : ℕ) → (Told b s left → ⊥) → is_told b s left ≡ false
untold-by b s left never = elim (bool_cases (is_told b s left)) [
  | inl told ↦ absurd (never (told-parts b s left told))
  | inr untold ↦ untold
]

pub untold-first : (b : BoundFields) (s : StateFields) (left : ℕ) → s.effects.first ≡ true → is_told b s left ≡ false
untold-first b s left first = untold-by b s left (λ told. clash first told.first)

pub untold-left : (b : BoundFields) (s : StateFields) (left : ℕ) → MOST_LEFT < left → is_told b s left ≡ false
untold-left b s left many = untold-by b s left (λ told. let few = told.left in let x : ⊥ = omega arith in x)

pub untold-top : (b : BoundFields) (s : StateFields) (left budget : ℕ) → budget ≡ worth_of b.by.prices s left → b.top < budget → is_told b s left ≡ false
untold-top b s left budget is high = untold-by b s left (λ told. let low = told.worth in let x : ⊥ = omega arith in x)

pub untold-sight : (b : BoundFields) (s : StateFields) (left : ℕ) (x : SeenFields) → x ≡ seen_of b.by.g b.by.units s → is_seen_in (sights_of b.by.g) x ≡ false → is_told b s left ≡ false
untold-sight b s left x is none = untold-by b s left (λ told. clash told.sight (subst (λ (y : SeenFields). is_seen_in (sights_of b.by.g) y ≡ false) is none))

seen-need : (g : SettingsFields) (units : Units) (s : StateFields) → AreSmallUnits units → (seen_of g units s).need ≤ progress_units units g.progress
unfolding seen_of
seen-need g units s are =
    ceiling-more ((g.progress - s.progress) * units.share) (g.progress * units.share) units.progress are.progress
    (mul-le (g.progress - s.progress) units.share g.progress units.share (omega arith) (omega arith))

pub place-of : (b : BoundFields) (s : StateFields) (left : ℕ) (place : Place) → AreReckoned b.by → place.budget ≡ worth_of b.by.prices s left → place.seen ≡ seen_of b.by.g b.by.units s →
    s.effects.first ≡ false → left ≤ MOST_LEFT → place.budget ≤ b.top → IsNumber (sights_of b.by.g) place.seen place.node → IsPlace b s left place
place-of b s left place are budget seen first few paid number = record {
  told = told-by b s left (record {
    first = first;
    left = few;
    worth = omega arith;
    sight = subst (λ (x : SeenFields). is_seen_in (sights_of b.by.g) x ≡ true) seen (seen-yes (sights_of b.by.g) place.seen number.within);
  });
  budget = budget;
  seen = seen;
  has = record {
    paid = paid;
    number = number;
    need = subst (λ (x : SeenFields). x.need ≤ progress_units b.by.units b.by.g.progress) (sym seen) (seen-need b.by.g b.by.units s are.units);
  };
}

pub promise-told : (b : BoundFields) (s : StateFields) (left : ℕ) → is_told b s left ≡ true →
    promise_in b s left ≡ promise_of b.by s (table_best b.by (worth_of b.by.prices s left) (seen_of b.by.g b.by.units s))
unfolding promise_in
promise-told b s left told = rw told refl

pub promise-untold : (b : BoundFields) (s : StateFields) (left : ℕ) → is_told b s left ≡ false → promise_in b s left ≡ Some (cap_of b.by.g)
unfolding promise_in
promise-untold b s left untold = rw untold refl

pub place-promise : (b : BoundFields) (s : StateFields) (left : ℕ) (place : Place) → IsPlace b s left place → promise_of b.by s (table_best b.by place.budget place.seen) ≡ promise_in b s left
place-promise b s left place at =
    ap (λ (n : ℕ). promise_of b.by s (table_best b.by n place.seen)) at.budget
    ∙ ap (λ (x : SeenFields). promise_of b.by s (table_best b.by (worth_of b.by.prices s left) x)) at.seen
    ∙ sym (promise-told b s left at.told)

-- ---- a limit is a promise of which only what counts is taken

cap_small : (g : SettingsFields) → AreSettings g → cap_of g ≤ MOST_PROMISE
cap_small g are = let high = are.quality in omega arith

capped-promise : (r : ReckoningFields) (s : StateFields) (o : Option ℕ) → cap_of r.g ≤ MOST_PROMISE →
    capped r.g s (in_points r.units o) ≡ option_map (λ n. min (cap_of r.g) n) (promise_of r s o)
capped-promise r s None small = refl
capped-promise r s (Some n) small = ap (λ (m : ℕ). Some m) (omega arith)

limit-told : (r : ReckoningFields) (s : StateFields) (left : ℕ) → AreReckoned r → limit_of r.prices r.g r.units s left
    ≡ option_map (λ n. min (cap_of r.g) n) (promise_of r s (table_best r (worth_of r.prices s left) (seen_of r.g r.units s)))
unfolding limit_of
limit-told r s left are =
    let most = best r.prices r.g r.units (worth_of r.prices s left) (seen_of r.g r.units s) in
    sym (capped-cut r.g r.units s MOST_WORTH most are.cap) ∙ capped-promise r s (cut MOST_WORTH most) (cap_small r.g are.settings)

pub limit-promise : (b : BoundFields) (s : StateFields) (left : ℕ) → AreReckoned b.by → limit_in b s left ≡ option_map (λ n. min (cap_of b.by.g) n) (promise_in b s left)
limit-promise b s left are =
    elim (is_told b s left) as (λ t. is_told b s left ≡ t → limit_in b s left ≡ option_map (λ n. min (cap_of b.by.g) n) (promise_in b s left)) [
      | true ↦ λ told. told-limit b s left told ∙ limit-told b.by s left are ∙ ap (λ (o : Option ℕ). option_map (λ n. min (cap_of b.by.g) n) o) (sym (promise-told b s left told))
      | false ↦ λ untold. untold-limit b s left untold ∙ ap (λ (n : ℕ). Some n) (omega arith) ∙ ap (λ (o : Option ℕ). option_map (λ n. min (cap_of b.by.g) n) o) (sym (promise-untold b s left untold))
    ] refl

option_min-low : (cap : ℕ) (o : Option ℕ) → option_le (option_map (λ n. min cap n) o) o
option_min-low cap None = tt
option_min-low cap (Some n) = omega arith

pub limit-below : (b : BoundFields) (s : StateFields) (left : ℕ) → AreReckoned b.by → option_le (limit_in b s left) (promise_in b s left)
limit-below b s left are =
    subst (λ (o : Option ℕ). option_le o (promise_in b s left)) (sym (limit-promise b s left are)) (option_min-low (cap_of b.by.g) (promise_in b s left))
