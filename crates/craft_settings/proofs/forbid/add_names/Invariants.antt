use Rattle.std.proofs.Common.{◌≡◌, ℕ, drop, max}
use Rattle.std.specs.Int.{bit_at}
use Rattle.toml.specs.View.{items_view}
use Rattle.craft_settings.specs.Fault.{first_some}
use Rattle.craft_settings.specs.Names.{strings_of, name_fault, are_against, bit}
use Rattle.craft_settings.proofs.forbid.add_names.Given as goal

abbrev pub invariant-loop-item : goal.invariant-loop-item
invariant-loop-item l = record {
  faults : first_some (name_fault l.two) (strings_of (items_view (drop l.item-index l.items))) ≡ first_some (name_fault l.two) (strings_of (items_view l.items));
  bits : (n : ℕ) → max (bit_at l.mask n) (bit (are_against l.two (strings_of (items_view (drop l.item-index l.items))) n)) ≡ max (bit_at l.initial.mask n) (bit (are_against l.two (strings_of (items_view l.items)) n));
}
