use Rattle.std.proofs.Common.{◌≡◌, ℕ, ◌+◌, ◌-◌, List, ◌++◌, rules, arith, length, take, drop, sym, ap, ◌∙◌, subst}
use Rattle.std.proofs.lemmas.List.{take_rest}
use Rattle.std.specs.Io.KnownBytes.{Appends}
use Rattle.std.proofs.KnownBytes.{Appends-trans}
use lib.Seq.{take-add}
use Rattle.craft_io.proofs.write_all.Goals as goal

next_piece : (xs : List ℕ) (a n : ℕ) → take a xs ++ take n (take (length xs - a) (drop a xs)) ≡ take (a + n) xs
next_piece xs a n = ap (λ l. take a xs ++ take n l) (take_rest xs a) ∙ sym (take-add a n xs)

pub loop-at-preserved : goal.loop-at-preserved
loop-at-preserved g c =
    let (kept, _) = c.loop-at.invariant in (
      record {
        within = search rules;
        bytes = subst (Appends _ _) (next_piece c.args.bytes.now c.loop-at.at c.in_ok-at.field-0) (Appends-trans _ _ _ _ _ kept.bytes c.in_ok-at.ensures.bytes);
        quiet = search rules;
      },
      λ none. absurd (omega (arith, c.in_ok-at.ensures.bound)),
    )
