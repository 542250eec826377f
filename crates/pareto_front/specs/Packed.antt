-- The node that a packed one stands for.
use Rattle.craft_state.specs.Craft.{AreEffects, IsState}
use Rattle.pareto_front.specs.declared.node.Node.{Node}
use Rattle.pareto_front.specs.declared.compact.PackedNode.TheInside as packed

abbrev pub node_in : packed.Inside → Node
node_in n = record {
  state = record {
    cp = n.cp;
    durability = n.durability;
    progress = n.progress;
    quality = n.quality;
    effects = record {
      iq = n.iq;
      waste = n.waste;
      innovation = n.innovation;
      veneration = n.veneration;
      strides = n.strides;
      muscle = n.muscle;
      manipulation = n.manipulation;
      combo = n.combo;
      perfection = n.perfection;
      first = n.first;
    };
  };
  seconds = n.seconds;
  parent = n.parent;
  action = n.action;
}

abbrev pub packed_inside : Node → packed.Inside
packed_inside n = record {
  parent = n.parent;
  seconds = n.seconds;
  progress = n.state.progress;
  quality = n.state.quality;
  cp = n.state.cp;
  durability = n.state.durability;
  iq = n.state.effects.iq;
  waste = n.state.effects.waste;
  innovation = n.state.effects.innovation;
  veneration = n.state.effects.veneration;
  strides = n.state.effects.strides;
  muscle = n.state.effects.muscle;
  manipulation = n.state.effects.manipulation;
  combo = n.state.effects.combo;
  perfection = n.state.effects.perfection;
  first = n.state.effects.first;
  action = n.action;
}

-- the state of the node keeps its bounds
abbrev pub HasBounds : packed.Inside → Type 0
HasBounds n = IsState (node_in n).state × AreEffects (node_in n).state.effects
