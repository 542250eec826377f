-- The edges of a sight lead to sights.
use Rattle.std.proofs.Common.{ℕ, zero, suc, Bool, true, false, List, [], ◌∷◌, ◌++◌, ◌≡◌, ◌≤◌, ◌<◌, ◌+◌, ◌&&◌, ◌||◌, nat_le, nat_lt, min, map, refl, subst, arith, if◌then◌else◌}
use Rattle.action_table.specs.declared.action.Action.{Action}
use Rattle.action_table.specs.declared.action.Action.TheVariants.{ByregotsBlessing, Innovation, Veneration, GreatStrides}
use Rattle.action_table.specs.Table.{row_of, all_actions}
use Rattle.craft_state.specs.declared.Combo.{Combo}
use Rattle.craft_settings.specs.Ranges.{SettingsFields}
use Rattle.craft_settings.specs.Rules.{is_allowed}
use Rattle.relaxed_moves.specs.Places.{bit}
use Rattle.relaxed_moves.specs.Moves as relaxed
use Rattle.priced_moves.specs.declared.kinds.Edge.{Edge}
use Rattle.priced_moves.specs.declared.kinds.Prices.{Prices}
use Rattle.priced_moves.specs.declared.kinds.Units.{Units}
use Rattle.priced_moves.specs.FirstMoves.{at_need, without_combo, continuing}
use Rattle.combo_effects.specs.Touches.{iq_after}
use Rattle.priced_moves.specs.Moves.{SeenFields, is_listed, is_move_of, move_on_of}
use Rattle.priced_moves.specs.Prices.{AreFair, price_of}
use Rattle.priced_moves.specs.Edges.{edge_of, before_edge, edges_with, edges_from, edges_of, combo_edges_of}
use Rattle.priced_moves.proofs.Plans.{move-listed}
use Rattle.priced_graph.specs.Sights.{SightsFields, sights_of, IsSeenIn, IsSight}
use Rattle.priced_graph.specs.Graphs.{StandsAt, LeadsOn, LeadOn}
use Rattle.plain_lemmas.proofs.Numbers.{if_below}

capped_below : (level iq stacks : ℕ) → iq < (if nat_le 11 level then 11 else 1) → (if nat_le 11 level then min 10 (iq + stacks) else iq) < (if nat_le 11 level then 11 else 1)
capped_below level iq stacks h = go (nat_le 11 level) h
  where
    go : (c : Bool) → iq < (if c then 11 else 1) → (if c then min 10 (iq + stacks) else iq) < (if c then 11 else 1)
    go true h = omega arith
    go false h = h

some_stacks : (c : Bool) → 0 < (if c then 11 else 1)
some_stacks true = omega arith
some_stacks false = omega arith

iq-below : (g : SettingsFields) (iq : ℕ) (combo : Combo) (a : Action) → iq < (if nat_le 11 g.level then 11 else 1) → iq_after g.level iq combo a < (if nat_le 11 g.level then 11 else 1)
iq-below g iq combo ByregotsBlessing h = some_stacks (nat_le 11 g.level)
iq-below g iq combo a h = capped_below g.level iq _ h

four_below : (c : Bool) → c ≡ true → 4 < (if c then 5 else 1)
four_below true h = omega arith
four_below false h = absurd (cc)

one_below : (c : Bool) → c ≡ true → 1 < (if c then 2 else 1)
one_below true h = omega arith
one_below false h = absurd (cc)

none_below : (c : Bool) → 0 < (if c then 2 else 1)
none_below true = omega arith
none_below false = omega arith

innovation-below : (n k : ℕ) (g : SettingsFields) (a : Action) → is_listed g a ≡ true → k ≡ (if is_allowed g Innovation then 5 else 1) → n < k → relaxed.move_innovation n a < k
innovation-below n k g Innovation listed count h = let four = four_below (is_allowed g Innovation) listed in omega arith
innovation-below n k g _ listed count h = omega arith

veneration-below : (n k : ℕ) (g : SettingsFields) (a : Action) → is_listed g a ≡ true → k ≡ (if is_allowed g Veneration then 5 else 1) → n < k → relaxed.move_veneration n a < k
veneration-below n k g Veneration listed count h = let four = four_below (is_allowed g Veneration) listed in omega arith
veneration-below n k g _ listed count h = omega arith

off_below : (c on : Bool) (k : ℕ) → bit on < k → bit (if c then false else on) < k
off_below true true k h = omega arith
off_below true false k h = h
off_below false on k h = h

strides-below : (g : SettingsFields) (on : Bool) (k : ℕ) (a : Action) → is_listed g a ≡ true → k ≡ (if is_allowed g GreatStrides then 2 else 1) → bit on < k → bit (relaxed.move_strides g on a) < k
strides-below g on k GreatStrides listed count h = let one = one_below (is_allowed g GreatStrides) listed in omega arith
strides-below g on k a listed count h = off_below (nat_lt 0 (row_of a g.level).quality) on k h

begun-below : (backload on late : Bool) → bit on < (if backload then 2 else 1) → bit (on || (backload && late)) < (if backload then 2 else 1)
begun-below true true late h = h
begun-below true false true h = omega arith
begun-below true false false h = h
begun-below false true late h = h
begun-below false false late h = h

pub move-within : (g : SettingsFields) (units : Units) (x : SeenFields) (a : Action) → is_move_of g x a ≡ true → IsSeenIn (sights_of g) x → IsSeenIn (sights_of g) (move_on_of g units x a)
unfolding move_on_of sights_of
move-within g units x a may in_g =
    let listed = move-listed g x a may in
    record {
      iq = if_below (nat_lt 0 (row_of a g.level).quality) _ _ _ (iq-below g x.iq x.combo a in_g.iq) in_g.iq;
      innovation = innovation-below x.innovation _ g a listed refl in_g.innovation;
      veneration = veneration-below x.veneration _ g a listed refl in_g.veneration;
      strides = strides-below g x.strides _ a listed refl in_g.strides;
      muscle = off_below (nat_lt 0 (row_of a g.level).progress) x.muscle _ in_g.muscle;
      begun = begun-below g.backload x.begun (nat_lt 0 (row_of a g.level).progress) in_g.begun;
    }

-- what holds of each edge of a list
abbrev Each : (Edge → Type 0) → List Edge → Type 0
Each P [] = Unit {0}
Each P (e ∷ es) = P e × Each P es

each-append : (P : Edge → Type 0) (xs ys : List Edge) → Each P xs → Each P ys → Each P (xs ++ ys)
each-append P [] ys h k = k
each-append P (x ∷ xs) ys h k = (h.0, each-append P xs ys h.1 k)

each-stands : (P : Edge → Type 0) (es : List Edge) → Each P es → (i : ℕ) (e : Edge) → StandsAt es i e → P e
each-stands P [] h i e at = absurd (let below = at.0 in let x : ⊥ = omega arith in x)
each-stands P (d ∷ es) h zero e at = subst P at.1 h.0
each-stands P (d ∷ es) h (suc i) e at = each-stands P es h.1 i e (let below = at.0 in omega arith, at.1)

-- the edge of a move
plain_within : (c : SightsFields) (x : SeenFields) → IsSeenIn c x → IsSight c (at_need (without_combo x) 0)
plain_within c x h = record {
  within = record { iq = h.iq; innovation = h.innovation; veneration = h.veneration; strides = h.strides; muscle = h.muscle; begun = h.begun };
  need = refl;
  combo = refl;
}

leads-before : (p : Prices) (g : SettingsFields) (units : Units) (x : SeenFields) (a : Action) (c : SightsFields) (es : List Edge) → 1 ≤ price_of p g x.combo a → Each (LeadsOn c) es → Each (LeadsOn c) (map (before_edge p g units x a) es)
leads-before p g units x a c [] paid h = tt
leads-before p g units x a c (e ∷ es) paid h =
    (record { cost = omega (arith, paid); to = h.0.to }, leads-before p g units x a c es paid h.1)

leads-with : (p : Prices) (g : SettingsFields) (units : Units) (x : SeenFields) (a : Action) (further : List Edge) → AreFair g p → IsSeenIn (sights_of g) x →
    (is_move_of g x a ≡ true → Each (LeadsOn (sights_of g)) further) → Each (LeadsOn (sights_of g)) (edges_with p g units x a further)
leads-with p g units x a further fair in_g rest = go (is_move_of g x a) refl
  where
    go : (m : Bool) → is_move_of g x a ≡ m → Each (LeadsOn (sights_of g)) (if m then edge_of p g units x a ∷ map (before_edge p g units x a) further else [])
    go true may =
        let paid = fair.moves x.combo a (move-listed g x a may) in (
          record { cost = paid; to = plain_within (sights_of g) (move_on_of g units x a) (move-within g units x a may in_g) },
          leads-before p g units x a (sights_of g) further paid (rest may),
        )
    go false _ = tt

leads-from : (n : ℕ) (p : Prices) (g : SettingsFields) (units : Units) (x : SeenFields) (actions : List Action) → AreFair g p → IsSeenIn (sights_of g) x → Each (LeadsOn (sights_of g)) (edges_from n p g units x actions)
leads-from zero p g units x actions fair in_g = tt
leads-from (suc n) p g units x [] fair in_g = tt
leads-from (suc n) p g units x (a ∷ rest) fair in_g =
    each-append (LeadsOn (sights_of g)) (edges_with p g units x a (edges_from n p g units (move_on_of g units x a) (continuing (move_on_of g units x a).combo))) (edges_from (suc n) p g units x rest)
    (leads-with p g units x a (edges_from n p g units (move_on_of g units x a) (continuing (move_on_of g units x a).combo)) fair in_g
    (λ may. leads-from n p g units (move_on_of g units x a) (continuing (move_on_of g units x a).combo) fair (move-within g units x a may in_g)))
    (leads-from (suc n) p g units x rest fair in_g)

-- the edges of what is seen in a craft
pub edges-lead_on : (p : Prices) (g : SettingsFields) (units : Units) (x : SeenFields) → AreFair g p → IsSeenIn (sights_of g) x → LeadOn (sights_of g) (edges_of p g units x)
unfolding edges_of
edges-lead_on p g units x fair in_g = each-stands (LeadsOn (sights_of g)) (edges_from 3 p g units x all_actions) (leads-from 3 p g units x all_actions fair in_g)

pub combo-edges-lead_on : (p : Prices) (g : SettingsFields) (units : Units) (x : SeenFields) → AreFair g p → IsSeenIn (sights_of g) x → LeadOn (sights_of g) (combo_edges_of p g units x)
unfolding combo_edges_of
combo-edges-lead_on p g units x fair in_g =
    each-stands (LeadsOn (sights_of g)) (edges_from 2 p g units x (continuing x.combo)) (leads-from 2 p g units x (continuing x.combo) fair in_g)
