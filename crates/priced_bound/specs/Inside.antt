-- The fields of a reckoning, as contracts see them.
use Rattle.priced_bound.specs.Reckoned.{ReckoningFields}
use Rattle.priced_bound.specs.declared.reckoning.Reckoning.TheInside.{Inside}

abbrev pub reckoning_fields : Inside → ReckoningFields
reckoning_fields r = record { g = r.settings; prices = r.prices; units = r.units }

abbrev pub reckoning_inside : ReckoningFields → Inside
reckoning_inside r = record { settings = r.g; prices = r.prices; units = r.units }
