-- One more turn of a loop that collects children.
use Rattle.std.proofs.Common.{◌≡◌, ◌∙◌, sym, ℕ, ◌+◌, ◌<◌, ◌≤◌, List, [], ◌∷◌, ◌++◌, append_assoc, append-nil, Bool, Option, Some, None, length, take, get_or, inl, inr, arith, refl, ap}
use Rattle.std.specs.List.{filter_map, flat_map, enumerate_from}
use Rattle.std.proofs.lemmas.List.{take_more, take_all}
use Rattle.std.proofs.lemmas.List.Elements.{filter_map-append}
use Rattle.std.proofs.lemmas.List.Concat.{flat_map-append}
use Rattle.std.proofs.lemmas.List.FromFn.{length-enumerate_from, get_or-enumerate_from}
use Rattle.action_table.specs.declared.action.Action.{Action}
use Rattle.action_table.specs.Table.{action_seconds}
use Rattle.craft_state.specs.Craft.{StateFields}
use Rattle.craft_settings.specs.Ranges.{SettingsFields}
use Rattle.step_rules.specs.Step.{step_of}
use Rattle.plain_lemmas.proofs.Tests.{bool_cases}
use Rattle.pareto_front.specs.declared.node.Node.{Node}
use Rattle.front_walk.specs.Nodes.{child_by, children_by, next_by, nodes_by, nodes_upto}

-- what one element more gives
collected : {X Y : Type 0} (h : X → Option Y) (xs : List X) (i : ℕ) (d : X) (before : List Y) → i < length xs →
    before ++ filter_map h (take (i + 1) xs) ≡ (before ++ filter_map h (take i xs)) ++ filter_map h (get_or xs i d ∷ [])
collected {X} {Y} h xs i d before below =
    ap (λ (l : List X). before ++ filter_map h l) (take_more xs i d below) ∙ ap (λ (l : List Y). before ++ l) (filter_map-append h (take i xs) (get_or xs i d ∷ []))
    ∙ sym (append_assoc before (filter_map h (take i xs)) (filter_map h (get_or xs i d ∷ [])))

pub collect_some : {X Y : Type 0} (h : X → Option Y) (xs : List X) (i : ℕ) (d : X) (y : Y) (before found found' : List Y) → i < length xs →
    found ≡ before ++ filter_map h (take i xs) → h (get_or xs i d) ≡ Some y → found' ≡ found ++ y ∷ [] → found' ≡ before ++ filter_map h (take (i + 1) xs)
collect_some {X} {Y} h xs i d y before found found' below so here now =
    let one : filter_map h (get_or xs i d ∷ []) ≡ y ∷ [] = rw here refl in
    now ∙ ap (λ (l : List Y). l ++ y ∷ []) so ∙ ap (λ (l : List Y). (before ++ filter_map h (take i xs)) ++ l) (sym one) ∙ sym (collected h xs i d before below)

pub collect_none : {X Y : Type 0} (h : X → Option Y) (xs : List X) (i : ℕ) (d : X) (before found : List Y) → i < length xs →
    found ≡ before ++ filter_map h (take i xs) → h (get_or xs i d) ≡ None → found ≡ before ++ filter_map h (take (i + 1) xs)
collect_none {X} {Y} h xs i d before found below so here =
    let none : filter_map h (get_or xs i d ∷ []) ≡ [] = rw here refl in
    so ∙ sym (append-nil _) ∙ ap (λ (l : List Y). (before ++ filter_map h (take i xs)) ++ l) (sym none) ∙ sym (collected h xs i d before below)

-- a child is there where the state after the action is
pub child-some : (g : SettingsFields) (t : StateFields → Action → Bool) (place : ℕ) (n m : Node) (a : Action) (s : StateFields) (time : ℕ) → next_by g t n.state a ≡ Some s →
    time ≡ action_seconds a → m ≡ record { state = s; seconds = n.seconds + time; parent = place; action = a } → child_by g t place n a ≡ Some m
unfolding next_by child_by
child-some g t place n m a s time h long is =
    elim (bool_cases (t n.state a)) [
      | inl held ↦
          let after : Some (step_of g n.state a) ≡ Some s = rw held at h in
          let same : step_of g n.state a ≡ s = cc in
          rw held (ap (λ (x : Node). Some x) ((λ i. record { state = same i; seconds = n.seconds + sym long i; parent = place; action = a }) ∙ sym is))
      | inr fails ↦ let none : None ≡ Some s = rw fails at h in absurd (cc none)
    ]

pub child-none : (g : SettingsFields) (t : StateFields → Action → Bool) (place : ℕ) (n : Node) (a : Action) → next_by g t n.state a ≡ None → child_by g t place n a ≡ None
unfolding next_by child_by
child-none g t place n a h =
    elim (bool_cases (t n.state a)) [
      | inl held ↦ let some : Some (step_of g n.state a) ≡ None = rw held at h in absurd (cc some)
      | inr fails ↦ rw fails refl
    ]

-- the children of no node, and of all
pub nodes_upto-none : (g : SettingsFields) (t : StateFields → Action → Bool) (nodes : List Node) (count : ℕ) → count ≡ 0 → nodes_upto g t nodes count ≡ []
unfolding nodes_upto
nodes_upto-none g t nodes count none = rw none refl

pub nodes_upto-all : (g : SettingsFields) (t : StateFields → Action → Bool) (nodes : List Node) (count : ℕ) → length nodes ≤ count → nodes_upto g t nodes count ≡ nodes_by g t nodes
unfolding nodes_upto
nodes_upto-all g t nodes count all = ap (flat_map (λ (p : ℕ × Node). children_by g t p.0 p.1)) (take_all count (enumerate_from 0 nodes) (omega (arith, length-enumerate_from 0 nodes, all)))

-- and of one node more
nodes_upto-more : (g : SettingsFields) (t : StateFields → Action → Bool) (nodes : List Node) (i : ℕ) (n : Node) → i < length nodes → n ≡ get_or nodes i n →
    nodes_upto g t nodes (i + 1) ≡ nodes_upto g t nodes i ++ children_by g t i n
unfolding nodes_upto
nodes_upto-more g t nodes i n inside is =
    let f : ℕ × Node → List Node = λ p. children_by g t p.0 p.1 in
    let all : List (ℕ × Node) = enumerate_from 0 nodes in
    let within : i < length all = omega (arith, length-enumerate_from 0 nodes) in
    let zero_more : 0 + i ≡ i = omega arith in
    let at : get_or all i (i, n) ≡ (i, n) = get_or-enumerate_from 0 nodes i (i, n) inside ∙ (λ j. (zero_more j, sym is j)) in
    let more : take (i + 1) all ≡ take i all ++ (i, n) ∷ [] = take_more all i (i, n) within ∙ ap (λ (z : ℕ × Node). take i all ++ z ∷ []) at in
    ap (flat_map f) more ∙ flat_map-append f (take i all) ((i, n) ∷ []) ∙ ap (λ (l : List Node). flat_map f (take i all) ++ l) (append-nil (children_by g t i n))

pub spread_more : (g : SettingsFields) (t : StateFields → Action → Bool) (nodes : List Node) (i : ℕ) (n : Node) (before found found' : List Node) → i < length nodes → n ≡ get_or nodes i n →
    before ++ found ≡ nodes_upto g t nodes i → found' ≡ found ++ children_by g t i n → before ++ found' ≡ nodes_upto g t nodes (i + 1)
spread_more g t nodes i n before found found' inside is so now =
    ap (λ (l : List Node). before ++ l) now ∙ sym (append_assoc before found (children_by g t i n)) ∙ ap (λ (l : List Node). l ++ children_by g t i n) so
    ∙ sym (nodes_upto-more g t nodes i n inside is)
