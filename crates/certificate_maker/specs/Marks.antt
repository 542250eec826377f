-- What is known of the children of a level before the next level is.
use Rattle.std.specs.Prelude.{ℕ, false, Option, Some, None, List, [], ◌∷◌, ◌++◌, ◌≡◌, ◌≤◌, take, if◌then◌else◌}
use Rattle.std.specs.List.{filter_map, flat_map, enumerate_from}
use Rattle.action_table.specs.declared.action.Action.{Action}
use Rattle.action_table.specs.Table.{all_actions}
use Rattle.craft_state.specs.Craft.{StateFields}
use Rattle.craft_settings.specs.Ranges.{SettingsFields}
use Rattle.step_rules.specs.Legality.{is_complete, is_legal, is_over, IsWithin}
use Rattle.step_rules.specs.Step.{step_of}
use Rattle.relaxed_moves.specs.Budget.{potential_of, start_potential_of}
use Rattle.relaxed_moves.specs.Optimum.{limit_of}
use Rattle.pareto_front.specs.declared.node.Node.{Node}
use Rattle.pareto_front.specs.Covers.{uncovered}
use Rattle.front_walk.specs.Nodes.{child_node, nodes_by, goes_and_passes}
use Rattle.certificate_text.specs.declared.verdict.Verdict.{Verdict}
use Rattle.certificate_laws.specs.Claims.{Claim}
use Rattle.certificate_laws.specs.Made.{may_win, settled}
use Rattle.certificate_maker.specs.declared.marks.Mark.{Mark}
use Rattle.certificate_maker.specs.declared.marks.Mark.TheVariants.{Settled, Open, RowEnd}

-- the state is one of the craft whose limits may be asked for, and the seconds are few
pub record MayGoOn (g : SettingsFields) (n : Node) : Type 0 where
  pub within : IsWithin g n.state
  pub potential : potential_of g n.state ≤ start_potential_of g
  pub short : n.seconds ≤ 1000

-- the state is live, and this is its limit
pub record IsAsked (claim : Claim) (s : StateFields) (limit : Option ℕ) : Type 0 where
  pub undone : is_complete claim.g s ≡ false
  pub live : is_over claim.g s ≡ false
  pub is : limit ≡ limit_of claim.g claim.grain s

-- the verdict, or what may win
abbrev pub mark_of : Option Verdict → Node → Mark
mark_of (Some verdict) child = Settled verdict
mark_of None child = Open child

-- the mark of the child by an action, where it is legal
unfoldable pub child_mark : Claim → ℕ → ℕ → Node → Action → Option Mark
child_mark claim left place n action =
    if is_legal claim.g n.state action
    then Some (mark_of (settled claim left (step_of claim.g n.state action)) (child_node claim.g place n action))
    else None

-- those of the children of a node, and then the end of its row
unfoldable pub node_marks : Claim → ℕ → ℕ → Node → List Mark
node_marks claim left place n = filter_map (child_mark claim left place n) all_actions ++ RowEnd ∷ []

-- those of the first nodes of a level
unfoldable pub marks_upto : Claim → ℕ → List Node → ℕ → List Mark
marks_upto claim left nodes count = flat_map (λ p. node_marks claim left p.0 p.1) (take count (enumerate_from 0 nodes))

-- those of a level
abbrev pub level_marks : Claim → ℕ → List Node → List Mark
level_marks claim left nodes = flat_map (λ p. node_marks claim left p.0 p.1) (enumerate_from 0 nodes)

-- what may win
abbrev pub opened : Mark → Option Node
opened (Open child) = Some child
opened (Settled verdict) = None
opened RowEnd = None

-- the nodes of the next level
unfoldable pub next_nodes : Claim → ℕ → List Node → List Node
next_nodes claim left nodes = uncovered (nodes_by claim.g (goes_and_passes claim.g (may_win claim) left) nodes)
