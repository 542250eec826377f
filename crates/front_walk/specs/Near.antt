-- The way back that a short one stands for.
use Rattle.std.specs.Prelude.{◌<◌, ◌^◌}
use Rattle.front_walk.specs.declared.links.Link.{Link}
use Rattle.front_walk.specs.declared.links.NearLink.TheInside as near

abbrev pub link_in : near.Inside → Link
link_in n = record { parent = n.parent; action = n.action }

abbrev pub near_inside : Link → near.Inside
near_inside l = record { parent = l.parent; action = l.action }

-- the parent is among the first
abbrev pub IsNear : near.Inside → Type 0
IsNear n = n.parent < 2 ^ 32
