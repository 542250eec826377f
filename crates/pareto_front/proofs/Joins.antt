-- The parts that runs are joined to are the parts of the level.
use Rattle.std.proofs.Common.{◌≡◌, ◌∙◌, ℕ, ◌+◌, ◌<◌, ◌≤◌, inl, inr, List, [], ◌∷◌, length, get_or, map, Contains, Vec, arith, refl, ap, sym, subst}
use Rattle.std.specs.List.{AllZip, range_with_len}
use Rattle.std.proofs.lemmas.List.FromFn.{length-map-range_with_len, get_or-map-range_with_len}
use Rattle.pareto_front.specs.declared.node.Node.{Node}
use Rattle.pareto_front.specs.declared.parts.Entry.{Entry}
use Rattle.pareto_front.specs.declared.piece.Piece.{Piece}
use Rattle.pareto_front.specs.Keys.{key_of}
use Rattle.pareto_front.specs.Lists.{items_of}
use Rattle.pareto_front.specs.Parts.{part_of, entry_of, part_count, runs_of, joined, IsEntry, IsRun, AreParts}
use Rattle.pareto_front.specs.Pieces.{Follow, Stands, nodes_in}
use Rattle.plain_lemmas.proofs.Lists.{Among, Among-map, map-Among, Among-flat_map, flat_map-Among}
use Rattle.plain_lemmas.proofs.Places.{Contains-Among, Among-Contains}
use Rattle.pareto_front.proofs.Cuts.{piece-at, piece-stands}
use Rattle.pareto_front.proofs.Merge.{inside_part}

inside_level : (level : List Node) (to : ℕ) (e : Entry) → to ≤ length level → IsEntry level to e → IsEntry level (length level) e
inside_level level to e low is = record { node = is.node; below = omega (arith, is.below, low); at = is.at; is = is.is }

-- the part of a key is one of the parts
part_low : (key count : ℕ) → 0 < count → part_of key count < count
unfolding part_of
part_low key count some = omega arith

zip-left : {X Y : Type 0} (R : X → Y → Type 0) (xs : List X) (ys : List Y) (x : X) → AllZip R xs ys → Among x xs → (y : Y) × Among y ys × R x y
zip-left R [] ys x all h = absurd h
zip-left R (z ∷ xs) [] x all h = absurd all
zip-left R (z ∷ xs) (y ∷ ys) x all (inl here) = (y, inl refl, subst (λ w. R w y) here all.0)
zip-left R (z ∷ xs) (y ∷ ys) x all (inr later) = let w = zip-left R xs ys x all.1 later in (w.0, inr w.1, w.2)

zip-right : {X Y : Type 0} (R : X → Y → Type 0) (xs : List X) (ys : List Y) (y : Y) → AllZip R xs ys → Among y ys → (x : X) × Among x xs × R x y
zip-right R xs [] y all h = absurd h
zip-right R [] (z ∷ ys) y all h = absurd all
zip-right R (x ∷ xs) (z ∷ ys) y all (inl here) = (x, inl refl, subst (R x) here all.0)
zip-right R (x ∷ xs) (z ∷ ys) y all (inr later) = let w = zip-right R xs ys y all.1 later in (w.0, inr w.1, w.2)

-- the parts of a level, of the runs of the pieces that it is cut into
pub parts-joined : {A : Type 0} (level : List Node) (pieces : List Piece) (runs : List (Vec (Vec Entry A) A)) → nodes_in pieces ≡ level → Follow 0 pieces →
    AllZip (λ (p : Piece) (run : Vec (Vec Entry A) A). IsRun (part_count (length level)) p (items_of run.items)) pieces runs →
    AreParts level 0 (length level) (map (joined (runs_of runs)) (range_with_len 0 (part_count (length level))))
parts-joined {A} level pieces runs cut follow all =
    record {
      effects = λ j n up below is.
          let p = piece j below in
          let w = zip-left run_of pieces runs p.0 all p.1 in
          (w.2.are level (stands p.0 p.1)).effects j n p.2 p.3 is;
      entries = λ g e h.
          let low : g < count = subst (λ (c : ℕ). g < c) many (inside_part parts g e h) in
          let here = flat_map-Among (λ (l : List (List Entry)). get_or l g []) e (runs_of runs) (Contains-Among (joined (runs_of runs) g) e (subst (λ (l : List Entry). Contains l e) (at g low) h)) in
          let run = map-Among (λ (r : Vec (Vec Entry A) A). items_of r.items) here.0 runs here.1 in
          let mine : Among e (get_or (items_of run.0.items) g []) = subst (λ (l : List (List Entry)). Among e (get_or l g [])) (sym run.2) here.2 in
          let p = zip-right run_of pieces runs run.0 all run.1 in
          let stand = stands p.0 p.1 in
          let w = (p.2.are level stand).entries g e (Among-Contains (get_or (items_of run.0.items) g []) e mine) in
          (inside_level level _ e stand.inside w.0, w.1 ∙ ap (part_of e.key) (p.2.many ∙ sym many));
      whole = λ j n up below is.
          let g = part_of (key_of n.state) count in
          let p = piece j below in
          let w = zip-left run_of pieces runs p.0 all p.1 in
          let own = (w.2.are level (stands p.0 p.1)).whole j n p.2 p.3 is in
          let mine : Contains (get_or (items_of w.0.items) g []) (entry_of j n) = subst (λ (c : ℕ). Contains (get_or (items_of w.0.items) (part_of (key_of n.state) c) []) (entry_of j n)) w.2.many own in
          let every : Contains (joined (runs_of runs) g) (entry_of j n) =
          Among-Contains (joined (runs_of runs) g) (entry_of j n) (Among-flat_map (λ (l : List (List Entry)). get_or l g []) (items_of w.0.items) (entry_of j n) (runs_of runs)
          (Among-map (λ (r : Vec (Vec Entry A) A). items_of r.items) w.0 runs w.1) (Contains-Among (get_or (items_of w.0.items) g []) (entry_of j n) mine)) in
          subst (λ (c : ℕ). Contains (get_or parts (part_of (key_of n.state) c) []) (entry_of j n)) (sym many)
          (subst (λ (l : List Entry). Contains l (entry_of j n)) (sym (at g (part_low (key_of n.state) count (omega arith)))) every);
    }
  where
    count : ℕ
    count = part_count (length level)

    run_of : Piece → Vec (Vec Entry A) A → Type 0
    run_of p run = IsRun count p (items_of run.items)

    parts : List (List Entry)
    parts = map (joined (runs_of runs)) (range_with_len 0 count)

    many : length parts ≡ count
    many = length-map-range_with_len (joined (runs_of runs)) 0 count

    at : (g : ℕ) → g < count → get_or parts g [] ≡ joined (runs_of runs) g
    at g low = get_or-map-range_with_len (joined (runs_of runs)) 0 count g g [] low (omega arith)

    piece : (j : ℕ) → j < length level → (p : Piece) × Among p pieces × (p.start ≤ j) × (j < p.start + length p.nodes.now)
    piece j below = piece-at 0 pieces j follow (omega arith) (subst (λ (l : List Node). j < 0 + length l) (sym cut) (omega (arith, below)))

    stands : (p : Piece) → Among p pieces → Stands level p
    stands p h = subst (λ (l : List Node). Stands l p) cut (piece-stands pieces p follow h)
