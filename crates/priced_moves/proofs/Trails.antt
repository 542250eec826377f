-- Lists of edges by trails.
use Rattle.std.proofs.Common.{ℕ, true, false, List, [], ◌∷◌, ◌++◌, ◌≡◌, ◌≤◌, ◌+◌, length, map, take, refl, ◌∙◌, ap, sym, subst, append_assoc, arith}
use Rattle.std.specs.List.{flat_map}
use Rattle.std.proofs.lemmas.List.{map-append, append-nil, take_all}
use Rattle.std.proofs.lemmas.Grind.{flat_map-append}
use Rattle.action_table.specs.declared.action.Action.{Action}
use Rattle.action_table.specs.declared.action.Action.TheVariants.{BasicSynthesis, StandardTouch, AdvancedTouch, RefinedTouch}
use Rattle.action_table.specs.Table.{number_of, all_actions}
use Rattle.craft_state.specs.declared.Combo.TheVariants.{NoCombo, Basic, Standard}
use Rattle.craft_settings.specs.Ranges.{SettingsFields}
use Rattle.combo_effects.specs.Combos.{next_combo}
use Rattle.priced_moves.specs.declared.kinds.Prices.{Prices}
use Rattle.priced_moves.specs.declared.kinds.Units.{Units}
use Rattle.priced_moves.specs.declared.kinds.Edge.{Edge}
use Rattle.priced_moves.specs.declared.kinds.Trail.{Trail}
use Rattle.priced_moves.specs.FirstMoves.{continuing}
use Rattle.priced_moves.specs.Moves.{SeenFields, is_move_of, gain_of, shift_of, move_on_of}
use Rattle.priced_moves.specs.Prices.{price_of}
use Rattle.priced_moves.specs.Edges.{before_edge, edges_from, edges_at, edges_of, combo_edges_of, edge_at, walked, start_trail, onto}
use Rattle.priced_moves.proofs.Recursion.{edges-nil, next-is}

onto-before : (p : Prices) (g : SettingsFields) (units : Units) (t : Trail) (a : Action) (e : Edge) → onto (walked p g units t a) e ≡ onto t (before_edge p g units t.at a e)
onto-before p g units t a e =
    let cost : t.cost + price_of p g t.at.combo a + e.cost ≡ t.cost + (price_of p g t.at.combo a + e.cost) = omega arith in
    let gain : t.gain + gain_of g units t.at a + e.gain ≡ t.gain + (gain_of g units t.at a + e.gain) = omega arith in
    let shift : t.shift + shift_of g units t.at a + e.shift ≡ t.shift + (shift_of g units t.at a + e.shift) = omega arith in
    λ i. record { cost = cost i; gain = gain i; shift = shift i; to = e.to }

map-before : (p : Prices) (g : SettingsFields) (units : Units) (t : Trail) (a : Action) (es : List Edge) → map (onto (walked p g units t a)) es ≡ map (onto t) (map (before_edge p g units t.at a) es)
map-before p g units t a [] = refl
map-before p g units t a (e ∷ es) = ap (λ d. d ∷ map (onto (walked p g units t a)) es) (onto-before p g units t a e) ∙ ap (λ ds. onto t (before_edge p g units t.at a e) ∷ ds) (map-before p g units t a es)

onto-start : (x : SeenFields) (e : Edge) → onto (start_trail x) e ≡ e
onto-start x e =
    let cost : 0 + e.cost ≡ e.cost = omega arith in
    let gain : 0 + e.gain ≡ e.gain = omega arith in
    let shift : 0 + e.shift ≡ e.shift = omega arith in
    λ i. record { cost = cost i; gain = gain i; shift = shift i; to = e.to }

pub map-start : (x : SeenFields) (es : List Edge) → map (onto (start_trail x)) es ≡ es
map-start x [] = refl
map-start x (e ∷ es) = ap (λ d. d ∷ map (onto (start_trail x)) es) (onto-start x e) ∙ ap (λ ds. e ∷ ds) (map-start x es)

-- the edges that begin with a move, from the trail that it leads to
pub walk-list : (n : ℕ) (p : Prices) (g : SettingsFields) (units : Units) (t : Trail) (a : Action) → is_move_of g t.at a ≡ true →
    map (onto t) (edges_at n p g units t.at a)
    ≡ edge_at (walked p g units t a) ∷ map (onto (walked p g units t a)) (edges_from n p g units (walked p g units t a).at (continuing (walked p g units t a).at.combo))
walk-list n p g units t a may =
    rw may
    (ap (λ es. edge_at (walked p g units t a) ∷ es) (sym (map-before p g units t a (edges_from n p g units (move_on_of g units t.at a) (continuing (move_on_of g units t.at a).combo)))))

pub none-list : (n : ℕ) (p : Prices) (g : SettingsFields) (units : Units) (t : Trail) (a : Action) → is_move_of g t.at a ≡ false → map (onto t) (edges_at n p g units t.at a) ≡ []
none-list n p g units t a may_not = rw may_not refl

continuing-none : (n : ℕ) (p : Prices) (g : SettingsFields) (units : Units) (x : SeenFields) → x.combo ≡ NoCombo → edges_from n p g units x (continuing x.combo) ≡ []
continuing-none n p g units x e = ap (λ c. edges_from n p g units x (continuing c)) e ∙ edges-nil n p g units x

-- a last move has one edge
pub last-list : (n : ℕ) (p : Prices) (g : SettingsFields) (units : Units) (t : Trail) (a : Action) → is_move_of g t.at a ≡ true → next_combo t.at.combo a ≡ NoCombo →
    map (onto t) (edges_at n p g units t.at a) ≡ edge_at (walked p g units t a) ∷ []
last-list n p g units t a may last =
    walk-list n p g units t a may
    ∙ ap (λ es. edge_at (walked p g units t a) ∷ map (onto (walked p g units t a)) es)
    (continuing-none n p g units (move_on_of g units t.at a) (next-is g units t.at a t.at.combo refl ∙ last))

-- Standard Touch after Basic Touch goes on to Advanced Touch
pub standard-list : (p : Prices) (g : SettingsFields) (units : Units) (t : Trail) → is_move_of g t.at StandardTouch ≡ true → t.at.combo ≡ Basic →
    map (onto t) (edges_at 1 p g units t.at StandardTouch)
    ≡ edge_at (walked p g units t StandardTouch) ∷ map (onto (walked p g units t StandardTouch)) (edges_at 0 p g units (walked p g units t StandardTouch).at AdvancedTouch)
standard-list p g units t may combo =
    walk-list 1 p g units t StandardTouch may
    ∙ ap (λ c. edge_at (walked p g units t StandardTouch) ∷ map (onto (walked p g units t StandardTouch)) (edges_from 1 p g units (move_on_of g units t.at StandardTouch) (continuing c))) (next-is g units t.at StandardTouch Basic combo)
    ∙ ap (λ es. edge_at (walked p g units t StandardTouch) ∷ map (onto (walked p g units t StandardTouch)) es) (append-nil (edges_at 0 p g units (move_on_of g units t.at StandardTouch) AdvancedTouch))

pub next-standard : (p : Prices) (g : SettingsFields) (units : Units) (t : Trail) → t.at.combo ≡ Basic → next_combo (walked p g units t StandardTouch).at.combo AdvancedTouch ≡ NoCombo
next-standard p g units t combo = ap (λ c. next_combo c AdvancedTouch) (next-is g units t.at StandardTouch Basic combo)

pub basic-list : (p : Prices) (g : SettingsFields) (units : Units) (t : Trail) →
    map (onto t) (edges_from 2 p g units t.at (StandardTouch ∷ RefinedTouch ∷ [])) ≡ map (onto t) (edges_at 1 p g units t.at StandardTouch) ++ map (onto t) (edges_at 1 p g units t.at RefinedTouch)
basic-list p g units t =
    ap (λ es. map (onto t) (edges_at 1 p g units t.at StandardTouch ++ es)) (append-nil (edges_at 1 p g units t.at RefinedTouch))
    ∙ map-append (onto t) (edges_at 1 p g units t.at StandardTouch) (edges_at 1 p g units t.at RefinedTouch)

-- the edges of a trail's combo
pub combo-none : (p : Prices) (g : SettingsFields) (units : Units) (x : SeenFields) → x.combo ≡ NoCombo → combo_edges_of p g units x ≡ []
unfolding combo_edges_of
combo-none p g units x e = continuing-none 2 p g units x e

pub combo-basic : (p : Prices) (g : SettingsFields) (units : Units) (x : SeenFields) → x.combo ≡ Basic → combo_edges_of p g units x ≡ edges_from 2 p g units x (StandardTouch ∷ RefinedTouch ∷ [])
unfolding combo_edges_of
combo-basic p g units x e = ap (λ c. edges_from 2 p g units x (continuing c)) e

pub combo-standard : (p : Prices) (g : SettingsFields) (units : Units) (x : SeenFields) → x.combo ≡ Standard → combo_edges_of p g units x ≡ edges_at 1 p g units x AdvancedTouch
unfolding combo_edges_of
combo-standard p g units x e = ap (λ c. edges_from 2 p g units x (continuing c)) e ∙ append-nil (edges_at 1 p g units x AdvancedTouch)

-- the edges of a first move
pub first-list : (p : Prices) (g : SettingsFields) (units : Units) (x : SeenFields) (a : Action) → is_move_of g x a ≡ true →
    edges_at 2 p g units x a ≡ edge_at (walked p g units (start_trail x) a) ∷ map (onto (walked p g units (start_trail x) a)) (combo_edges_of p g units (walked p g units (start_trail x) a).at)
unfolding combo_edges_of
first-list p g units x a may = sym (map-start x (edges_at 2 p g units x a)) ∙ walk-list 2 p g units (start_trail x) a may

pub take_to_action : (action : Action) → take (number_of action + 1) all_actions ≡ take (number_of action) all_actions ++ action ∷ []
take_to_action BasicSynthesis = refl
take_to_action _ = refl

-- one more action of the action order
pub edges-more : (p : Prices) (g : SettingsFields) (units : Units) (x : SeenFields) (a : Action) (n : ℕ) → number_of a ≡ n →
    flat_map (edges_at 2 p g units x) (take n all_actions) ++ edges_at 2 p g units x a ≡ flat_map (edges_at 2 p g units x) (take (n + 1) all_actions)
edges-more p g units x a n at =
    subst (λ (m : ℕ). flat_map (edges_at 2 p g units x) (take m all_actions) ++ edges_at 2 p g units x a ≡ flat_map (edges_at 2 p g units x) (take (m + 1) all_actions)) at
    (rw (take_to_action a)
    (ap (λ es. flat_map (edges_at 2 p g units x) (take (number_of a) all_actions) ++ es) (sym (append-nil (edges_at 2 p g units x a)))
    ∙ sym (flat_map-append (edges_at 2 p g units x) (take (number_of a) all_actions) (a ∷ []))))

pub edges-all : (p : Prices) (g : SettingsFields) (units : Units) (x : SeenFields) → flat_map (edges_at 2 p g units x) all_actions ≡ edges_of p g units x
unfolding edges_of
edges-all p g units x = refl

-- what is pushed, in each of the ways
pub last-pushed : (n : ℕ) (p : Prices) (g : SettingsFields) (units : Units) (t next : Trail) (a : Action) (old new : List Edge) (e : Edge) → is_move_of g t.at a ≡ true → next_combo t.at.combo a ≡ NoCombo →
    next ≡ walked p g units t a → e ≡ edge_at next → new ≡ old ++ e ∷ [] → new ≡ old ++ map (onto t) (edges_at n p g units t.at a)
last-pushed n p g units t next a old new e may last walks ends pushed =
    pushed ∙ ap (λ d. old ++ d ∷ []) (ends ∙ ap (λ u. edge_at u) walks) ∙ ap (λ es. old ++ es) (sym (last-list n p g units t a may last))

-- an edge, and then what follows from its trail
then_more : (old mid new more : List Edge) (e : Edge) (next : Trail) → e ≡ edge_at next → mid ≡ old ++ e ∷ [] → new ≡ mid ++ more → new ≡ old ++ edge_at next ∷ more
then_more old mid new more e next ends pushed rest =
    rest ∙ ap (λ l. l ++ more) (pushed ∙ ap (λ d. old ++ d ∷ []) ends) ∙ append_assoc old (edge_at next ∷ []) more

pub standard-pushed : (p : Prices) (g : SettingsFields) (units : Units) (t next : Trail) (old mid new : List Edge) (e : Edge) → is_move_of g t.at StandardTouch ≡ true → t.at.combo ≡ Basic →
    next ≡ walked p g units t StandardTouch → e ≡ edge_at next → mid ≡ old ++ e ∷ [] → new ≡ mid ++ map (onto next) (edges_at 0 p g units next.at AdvancedTouch) → new ≡ old ++ map (onto t) (edges_at 1 p g units t.at StandardTouch)
standard-pushed p g units t next old mid new e may combo walks ends pushed rest =
    then_more old mid new (map (onto next) (edges_at 0 p g units next.at AdvancedTouch)) e next ends pushed rest
    ∙ ap (λ u. old ++ edge_at u ∷ map (onto u) (edges_at 0 p g units u.at AdvancedTouch)) walks
    ∙ ap (λ es. old ++ es) (sym (standard-list p g units t may combo))

pub first-pushed : (p : Prices) (g : SettingsFields) (units : Units) (x : SeenFields) (start next : Trail) (a : Action) (old mid new : List Edge) (e : Edge) → is_move_of g x a ≡ true → start ≡ start_trail x →
    next ≡ walked p g units start a → e ≡ edge_at next → mid ≡ old ++ e ∷ [] → new ≡ mid ++ map (onto next) (combo_edges_of p g units next.at) → new ≡ old ++ edges_at 2 p g units x a
first-pushed p g units x start next a old mid new e may starts walks ends pushed rest =
    then_more old mid new (map (onto next) (combo_edges_of p g units next.at)) e next ends pushed rest
    ∙ ap (λ u. old ++ edge_at u ∷ map (onto u) (combo_edges_of p g units u.at)) (walks ∙ ap (λ u. walked p g units u a) starts)
    ∙ ap (λ es. old ++ es) (sym (first-list p g units x a may))

pub basic-pushed : (p : Prices) (g : SettingsFields) (units : Units) (t : Trail) (old mid new : List Edge) → mid ≡ old ++ map (onto t) (edges_at 1 p g units t.at StandardTouch) → new ≡ mid ++ map (onto t) (edges_at 1 p g units t.at RefinedTouch) →
    new ≡ old ++ map (onto t) (edges_from 2 p g units t.at (StandardTouch ∷ RefinedTouch ∷ []))
basic-pushed p g units t old mid new standard refined =
    refined ∙ ap (λ l. l ++ map (onto t) (edges_at 1 p g units t.at RefinedTouch)) standard
    ∙ append_assoc old (map (onto t) (edges_at 1 p g units t.at StandardTouch)) (map (onto t) (edges_at 1 p g units t.at RefinedTouch))
    ∙ ap (λ es. old ++ es) (sym (basic-list p g units t))

pub combo_none-pushed : (p : Prices) (g : SettingsFields) (units : Units) (t : Trail) (old : List Edge) → t.at.combo ≡ NoCombo → old ≡ old ++ map (onto t) (combo_edges_of p g units t.at)
combo_none-pushed p g units t old e = sym (ap (λ es. old ++ map (onto t) es) (combo-none p g units t.at e) ∙ append-nil old)

pub combo_basic-pushed : (p : Prices) (g : SettingsFields) (units : Units) (t : Trail) (old new : List Edge) → t.at.combo ≡ Basic → new ≡ old ++ map (onto t) (edges_from 2 p g units t.at (StandardTouch ∷ RefinedTouch ∷ [])) →
    new ≡ old ++ map (onto t) (combo_edges_of p g units t.at)
combo_basic-pushed p g units t old new e pushed = pushed ∙ ap (λ es. old ++ map (onto t) es) (sym (combo-basic p g units t.at e))

pub combo_standard-pushed : (p : Prices) (g : SettingsFields) (units : Units) (t : Trail) (old new : List Edge) → t.at.combo ≡ Standard → new ≡ old ++ map (onto t) (edges_at 1 p g units t.at AdvancedTouch) →
    new ≡ old ++ map (onto t) (combo_edges_of p g units t.at)
combo_standard-pushed p g units t old new e pushed = pushed ∙ ap (λ es. old ++ map (onto t) es) (sym (combo-standard p g units t.at e))

pub combo-started : (p : Prices) (g : SettingsFields) (units : Units) (x : SeenFields) (t : Trail) (old new : List Edge) → old ≡ [] → t ≡ start_trail x → new ≡ old ++ map (onto t) (combo_edges_of p g units t.at) → new ≡ combo_edges_of p g units x
combo-started p g units x t old new none starts pushed =
    pushed ∙ ap (λ l. l ++ map (onto t) (combo_edges_of p g units t.at)) none ∙ ap (λ u. map (onto u) (combo_edges_of p g units u.at)) starts ∙ map-start x (combo_edges_of p g units x)

pub edges-pushed : (p : Prices) (g : SettingsFields) (units : Units) (x : SeenFields) (a : Action) (n : ℕ) (old new : List Edge) → number_of a ≡ n →
    old ≡ flat_map (edges_at 2 p g units x) (take n all_actions) → new ≡ old ++ edges_at 2 p g units x a → new ≡ flat_map (edges_at 2 p g units x) (take (n + 1) all_actions)
edges-pushed p g units x a n old new at so now = now ∙ ap (λ l. l ++ edges_at 2 p g units x a) so ∙ edges-more p g units x a n at

pub edges-end : (p : Prices) (g : SettingsFields) (units : Units) (x : SeenFields) (n : ℕ) (all : List Edge) → length all_actions ≤ n →
    all ≡ flat_map (edges_at 2 p g units x) (take n all_actions) → all ≡ edges_of p g units x
edges-end p g units x n all whole so = so ∙ ap (flat_map (edges_at 2 p g units x)) (take_all n all_actions whole) ∙ edges-all p g units x
