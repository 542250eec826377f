use Rattle.std.proofs.Common.{rules, ℕ, ◌≡◌, ◌+◌, List, MatchOption, Option, Vec, length, subst, sym, ap, refl, arith}
use Rattle.std.specs.Prelude.{⊤}
use Rattle.walk_table.specs.Pieces.{ArePieces, IsPiece}
use Rattle.walk_table.proofs.Places.{slots_set, pieces_pushed}
use Rattle.walk_table.proofs.filling.complete.Goals as goal

pub take_or_make-requires-clause-ready : goal.take_or_make-requires-clause-ready
take_or_make-requires-clause-ready c = c.requires.ready (c.args.from + c.loop-k.k) (omega (arith, c.loop-k-test.true))

pub loop-k-preserved : goal.loop-k-preserved
loop-k-preserved c =
    let g = c.args.filled.now.graph in
    let needs = c.args.filled.now.needs in
    let place = c.args.from + c.loop-k.k in
    let place_is : place ≡ c.args.from + length c.loop-k.block.items = ap (λ (n : ℕ). c.args.from + n) (sym c.loop-k.invariant.long) in
    record {
      long = search rules;
      slots = slots_set g needs c.args.from place c.loop-k.k c.loop-k.slots c.take_or_make.new.slot refl c.loop-k.invariant.slots
          (subst (λ (s : Option (Vec ℕ _)). MatchOption s ⊤ (λ v. IsPiece g needs place v.items)) (sym c.take_or_make.ensures.slot) tt);
      pieces = subst (λ (l : List (Vec ℕ _)). ArePieces g needs c.args.from l) (sym c.in_ok-push.ensures.items)
          (pieces_pushed g needs c.args.from place c.loop-k.block.items c.in_ok-words.words place_is c.loop-k.invariant.pieces c.in_ok-words.ensures.piece);
    }
