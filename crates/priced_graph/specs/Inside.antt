-- The fields of sights, as contracts see them.
use Rattle.priced_graph.specs.Sights.{SightsFields}
use Rattle.priced_graph.specs.declared.sights.Sights.TheInside.{Inside}

abbrev pub sights_fields : Inside → SightsFields
sights_fields s = record {
  iq = s.iq;
  innovation = s.innovation;
  veneration = s.veneration;
  strides = s.strides;
  muscle = s.muscle;
  begun = s.begun;
}

abbrev pub sights_inside : SightsFields → Inside
sights_inside s = record {
  iq = s.iq;
  innovation = s.innovation;
  veneration = s.veneration;
  strides = s.strides;
  muscle = s.muscle;
  begun = s.begun;
}
