use Rattle.std.proofs.Common.{◌≡◌, false, sym, string_bytes}
use Rattle.craft_settings.specs.Unknown.{is_known}
use Rattle.craft_settings.proofs.UnknownLemmas.{least_unknown-sorted}
use Rattle.craft_settings.proofs.unknown.least_unknown.Goals as goal

pub returns-then-not-is_known : goal.returns-then-not-is_known
returns-then-not-is_known c =
    let known = is_known c.args.two c.args.section in
    let least = least_unknown-sorted known c.args.table.now.entries c.into_iter-key-iterator.ensures.into_iter_gives.5 in
    let unknown : known (string_bytes c.in-Some.key.now) ≡ false = rw (← c.as_str.ensures.value) (sym c.if-not-is_known.ensures) in
    rw (least, ← c.loop-key.invariant, c.in-Some.ensures.steps, unknown, c.as_str-then-not-is_known.ensures.value)

pub returns : goal.returns
returns c =
    let least = least_unknown-sorted (is_known c.args.two c.args.section) c.args.table.now.entries c.into_iter-key-iterator.ensures.into_iter_gives.5 in
    rw (least, ← c.loop-key.invariant, c.in-None.ensures.steps.0)
