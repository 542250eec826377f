-- The marks of one node more.
use Rattle.std.proofs.Common.{◌≡◌, ◌∙◌, sym, ℕ, ◌+◌, ◌<◌, ◌≤◌, List, [], ◌∷◌, ◌++◌, append_assoc, append-nil, length, take, get_or, arith, refl, ap, subst, true}
use Rattle.std.specs.List.{filter_map, flat_map, enumerate_from}
use Rattle.std.proofs.lemmas.List.{take_more, take_all}
use Rattle.std.proofs.lemmas.List.Concat.{flat_map-append}
use Rattle.std.proofs.lemmas.List.FromFn.{length-enumerate_from, get_or-enumerate_from}
use Rattle.action_table.specs.declared.action.Action.{Action}
use Rattle.action_table.specs.Table.{all_actions}
use Rattle.craft_state.specs.Craft.{StateFields}
use Rattle.step_rules.specs.Legality.{is_legal}
use Rattle.step_rules.specs.Step.{step_of}
use Rattle.step_rules.proofs.Bounds.{IsWithin-step}
use Rattle.admissible.proofs.Reached.{potential-any}
use Rattle.front_check.specs.Judging.{Bounds, MayAsk}
use Rattle.pareto_front.specs.declared.node.Node.{Node}
use Rattle.certificate_laws.specs.Claims.{Claim}
use Rattle.certificate_maker.specs.declared.marks.Mark.{Mark}
use Rattle.certificate_maker.specs.declared.marks.Mark.TheVariants.{RowEnd}
use Rattle.certificate_maker.specs.Marks.{MayGoOn, child_mark, node_marks, marks_upto, level_marks}

pub marks-none : (claim : Claim) (left : ℕ) (nodes : List Node) (count : ℕ) → count ≡ 0 → marks_upto claim left nodes count ≡ []
unfolding marks_upto
marks-none claim left nodes count none = rw none refl

pub marks-all : (claim : Claim) (left : ℕ) (nodes : List Node) (count : ℕ) → length nodes ≤ count → marks_upto claim left nodes count ≡ level_marks claim left nodes
unfolding marks_upto
marks-all claim left nodes count all = ap (flat_map (λ (p : ℕ × Node). node_marks claim left p.0 p.1)) (take_all count (enumerate_from 0 nodes) (omega (arith, length-enumerate_from 0 nodes, all)))

pub marks-more : (claim : Claim) (left : ℕ) (nodes : List Node) (i : ℕ) (n : Node) (marks later : List Mark) → i < length nodes → n ≡ get_or nodes i n → marks ≡ marks_upto claim left nodes i → later ≡ marks ++ node_marks claim left i n →
    later ≡ marks_upto claim left nodes (i + 1)
unfolding marks_upto
marks-more claim left nodes i n marks later inside is so now =
    let f : ℕ × Node → List Mark = λ p. node_marks claim left p.0 p.1 in
    let all : List (ℕ × Node) = enumerate_from 0 nodes in
    let within : i < length all = omega (arith, length-enumerate_from 0 nodes, inside) in
    let zero_more : 0 + i ≡ i = omega arith in
    let at : get_or all i (i, n) ≡ (i, n) = get_or-enumerate_from 0 nodes i (i, n) inside ∙ (λ j. (zero_more j, sym is j)) in
    let more : take (i + 1) all ≡ take i all ++ (i, n) ∷ [] = take_more all i (i, n) within ∙ ap (λ (z : ℕ × Node). take i all ++ z ∷ []) at in
    now ∙ ap (λ (l : List Mark). l ++ node_marks claim left i n) so
    ∙ sym (ap (flat_map f) more ∙ flat_map-append f (take i all) ((i, n) ∷ []) ∙ ap (λ (l : List Mark). flat_map f (take i all) ++ l) (append-nil (node_marks claim left i n)))

-- the row of a node
pub row-done : (claim : Claim) (left place count : ℕ) (n : Node) (before marks later : List Mark) → length all_actions ≤ count → marks ≡ before ++ filter_map (child_mark claim left place n) (take count all_actions) → later ≡ marks ++ RowEnd ∷ [] →
    later ≡ before ++ node_marks claim left place n
unfolding node_marks
row-done claim left place count n before marks later all so now =
    now ∙ ap (λ (l : List Mark). l ++ RowEnd ∷ []) (so ∙ ap (λ l. before ++ filter_map (child_mark claim left place n) l) (take_all count all_actions all))
    ∙ append_assoc before (filter_map (child_mark claim left place n) all_actions) (RowEnd ∷ [])

-- the limits of a child may be asked for
pub step-asked : (bounds : Bounds) (n : Node) (action : Action) (s : StateFields) → MayGoOn bounds.g n → is_legal bounds.g n.state action ≡ true → s ≡ step_of bounds.g n.state action → MayAsk bounds s
step-asked bounds n action s may legal is = subst (λ (t : StateFields). MayAsk bounds t) (sym is) record {
  within = IsWithin-step bounds.g n.state action may.within;
  potential = omega (arith, potential-any bounds.g n.state action may.within legal, may.potential);
}
