-- A mark is set exactly where no node of the level covers.
use Rattle.std.proofs.Common.{◌≡◌, ◌∙◌, ℕ, zero, suc, ◌+◌, ◌<◌, ◌&&◌, ◌==◌, not, Bool, true, false, List, [], ◌∷◌, length, get_or, map, Contains, Vec, Result, Ok, Err, IfOk, MatchResult, arith, refl, ap, sym, subst}
use Rattle.plain_lemmas.proofs.Tests.{same_answer, eq_from, eq_to}
use Rattle.std.specs.List.{list_any, enumerate_from, AllZip}
use Rattle.std.proofs.lemmas.Bool.Decides.{nat_tests}
use Rattle.std.proofs.lemmas.List.{get_or_default}
use Rattle.std.proofs.lemmas.List.FromFn.{length-enumerate_from, get_or-enumerate_from}
use Rattle.craft_state.specs.Craft.{AreEffects}
use Rattle.pareto_front.specs.declared.node.Node.{Node}
use Rattle.pareto_front.specs.declared.parts.Entry.{Entry}
use Rattle.pareto_front.specs.Columns.{numbers_of, are_no_less}
use Rattle.pareto_front.specs.Covers.{is_earlier, covers, is_covered, uncovered}
use Rattle.pareto_front.specs.Keys.{key_of}
use Rattle.pareto_front.specs.Lists.{items_of}
use Rattle.pareto_front.specs.Parts.{part_of, entry_of, outdoes, survives, Keeps, AreParts, AreMarks, has_place, marked_of}
use Rattle.plain_lemmas.proofs.Lists.{Among, any-Among, Among-any, filter-same}
use Rattle.pareto_front.proofs.Indexed.{not_less-key}
use Rattle.plain_lemmas.proofs.Places.{Contains-Among, Among-Contains, Among-place, Among-get_or}
use Rattle.pareto_front.proofs.Sweeps.{outdoes-key}

abbrev pub KeepsAll : List (List Entry) → List (List ℕ) → Type 0
KeepsAll parts kept = AllZip Keeps parts kept

-- list by list
keeps-at : (parts : List (List Entry)) (kept : List (List ℕ)) (g : ℕ) → KeepsAll parts kept → g < length parts → Keeps (get_or parts g []) (get_or kept g [])
keeps-at [] kept g all low = absurd (omega (arith, low))
keeps-at (x ∷ parts) [] g all low = absurd all
keeps-at (x ∷ parts) (y ∷ kept) zero all low = all.0
keeps-at (x ∷ parts) (y ∷ kept) (suc g) all low = keeps-at parts kept g all.1 (omega (arith, low))

length-keeps : (parts : List (List Entry)) (kept : List (List ℕ)) → KeepsAll parts kept → length kept ≡ length parts
length-keeps [] [] all = refl
length-keeps [] (y ∷ kept) all = absurd all
length-keeps (x ∷ parts) [] all = absurd all
length-keeps (x ∷ parts) (y ∷ kept) all = ap suc (length-keeps parts kept all.1)

-- nothing is in a part past the end
pub inside_part : (parts : List (List Entry)) (g : ℕ) (e : Entry) → Contains (get_or parts g []) e → g < length parts
inside_part [] g e h = absurd (omega (arith, h.1))
inside_part (x ∷ parts) zero e h = omega arith
inside_part (x ∷ parts) (suc g) e h = let r = inside_part parts g e h in omega (arith, r)

-- a node with its place in the level
node-Among : (level : List Node) (i : ℕ) (a : Node) → i < length level → a ≡ get_or level i a → Among (i, a) (enumerate_from 0 level)
node-Among level i a low is =
    let zero_more : 0 + i ≡ i = omega arith in
    let at : get_or (enumerate_from 0 level) i (i, a) ≡ (i, a) = get_or-enumerate_from 0 level i (i, a) low ∙ (λ j. (zero_more j, sym is j)) in
    subst (λ (p : ℕ × Node). Among p (enumerate_from 0 level)) at (Among-get_or (enumerate_from 0 level) i (i, a) (omega (arith, low, length-enumerate_from 0 level)))

Among-node : (level : List Node) (p : ℕ × Node) → Among p (enumerate_from 0 level) → (p.0 < length level) × (p.1 ≡ get_or level p.0 p.1)
Among-node level p h =
    let found = Among-place p (enumerate_from 0 level) h in
    let low : found.place < length level = omega (arith, found.inside, length-enumerate_from 0 level) in
    let both : p ≡ (0 + found.place, get_or level found.place p.1) = sym (found.at p) ∙ get_or-enumerate_from 0 level found.place p low in
    let first : p.0 ≡ 0 + found.place = ap (λ (q : ℕ × Node). q.0) both in
    let place : p.0 ≡ found.place = omega (arith, first) in
    (omega (arith, place, low), ap (λ (q : ℕ × Node). q.1) both ∙ ap (λ (i : ℕ). get_or level i p.1) (sym place))

flipped : (a b : ℕ) → (a == b) ≡ (b == a)
flipped a b = grind (arith, nat_tests)

-- a node covers another exactly where its entry outdoes the other's
covers-outdoes : (i j : ℕ) (a b : Node) → AreEffects a.state.effects → AreEffects b.state.effects → covers i a j b ≡ outdoes (entry_of i a) (entry_of j b)
unfolding covers outdoes
covers-outdoes i j a b ba bb =
    ap (λ (t : Bool). t && is_earlier i a j b) (not_less-key a.state b.state ba bb ∙ ap (λ (t : Bool). t && are_no_less (numbers_of a.state) (numbers_of b.state)) (flipped (key_of b.state) (key_of a.state)))

-- a node survives in the part of its key exactly where no node covers it
survives-uncovered : (level : List Node) (parts : List (List Entry)) (j : ℕ) (b : Node) → AreParts level 0 (length level) parts → j < length level → b ≡ get_or level j b →
    survives (get_or parts (part_of (key_of b.state) (length parts)) []) (entry_of j b) ≡ not (is_covered level j b)
survives-uncovered level parts j b are low is =
    ap not (same_answer (list_any (λ o. outdoes o (entry_of j b)) part) (is_covered level j b) to from) where
      part : List Entry
      part = get_or parts (part_of (key_of b.state) (length parts)) []

      bounds : AreEffects b.state.effects
      bounds = are.effects j b (omega arith) low is

      to : list_any (λ o. outdoes o (entry_of j b)) part ≡ true → is_covered level j b ≡ true
      to some =
          let w = any-Among (λ o. outdoes o (entry_of j b)) part some in
          let e = (are.entries (part_of (key_of b.state) (length parts)) w.0 (Among-Contains part w.0 w.1)).0 in
          let over : outdoes (entry_of w.0.place e.node) (entry_of j b) ≡ true = subst (λ (o : Entry). outdoes o (entry_of j b) ≡ true) e.is w.2 in
          let cover : covers w.0.place e.node j b ≡ true = covers-outdoes w.0.place j e.node b (are.effects w.0.place e.node (omega arith) e.below e.at) bounds ∙ over in
          Among-any (λ (p : ℕ × Node). covers p.0 p.1 j b) (w.0.place, e.node) (enumerate_from 0 level) (node-Among level w.0.place e.node e.below e.at) cover

      from : is_covered level j b ≡ true → list_any (λ o. outdoes o (entry_of j b)) part ≡ true
      from covered =
          let w = any-Among (λ (p : ℕ × Node). covers p.0 p.1 j b) (enumerate_from 0 level) covered in
          let i = w.0.0 in
          let a = w.0.1 in
          let node = Among-node level w.0 w.1 in
          let over : outdoes (entry_of i a) (entry_of j b) ≡ true = sym (covers-outdoes i j a b (are.effects i a (omega arith) node.0 node.1) bounds) ∙ w.2 in
          let home = are.whole i a (omega arith) node.0 node.1 in
          let member : Contains part (entry_of i a) = subst (λ (k : ℕ). Contains (get_or parts (part_of k (length parts)) []) (entry_of i a)) (outdoes-key (entry_of i a) (entry_of j b) over) home in
          Among-any (λ o. outdoes o (entry_of j b)) (entry_of i a) part (Contains-Among part (entry_of i a) member) over

-- the mark of a place
mark-says : (level : List Node) (parts : List (List Entry)) (kept : List (List ℕ)) (marks : List Bool) (j : ℕ) (b : Node) (mark : Bool) → AreParts level 0 (length level) parts →
    KeepsAll parts kept → AreMarks (length level) kept marks → j < length level → b ≡ get_or level j b → get_or marks j mark ≡ not (is_covered level j b)
mark-says level parts kept marks j b mark are all set low is = set.set j mark low ∙ same_answer (list_any (has_place j) kept) (not (is_covered level j b)) to from where
  mine : survives (get_or parts (part_of (key_of b.state) (length parts)) []) (entry_of j b) ≡ not (is_covered level j b)
  mine = survives-uncovered level parts j b are low is

  to : list_any (has_place j) kept ≡ true → not (is_covered level j b) ≡ true
  to h =
      let w = any-Among (has_place j) kept h in
      let list = Among-place w.0 kept w.1 in
      let g = list.place in
      let within : g < length parts = omega (arith, list.inside, length-keeps parts kept all) in
      let keeps = subst (λ (l : List ℕ). Keeps (get_or parts g []) l) (list.at []) (keeps-at parts kept g all within) in
      let p = any-Among (λ (x : ℕ). x == j) w.0 w.2 in
      let sound = keeps.sound p.0 (Among-Contains w.0 p.0 p.1) in
      let e = sound.0 in
      let both = are.entries g e sound.1 in
      let entry = both.0 in
      let place : e.place ≡ j = sound.3 ∙ eq_from p.0 j p.2 in
      let node : entry.node ≡ b = subst (λ (k : ℕ). entry.node ≡ get_or level k entry.node) place entry.at ∙ get_or_default level j entry.node b low ∙ sym is in
      let same : e ≡ entry_of j b = entry.is ∙ ap (λ (k : ℕ). entry_of k entry.node) place ∙ ap (entry_of j) node in
      let home : g ≡ part_of (key_of b.state) (length parts) = both.1 ∙ ap (λ (x : Entry). part_of x.key (length parts)) same in
      let alive : survives (get_or parts g []) (entry_of j b) ≡ true = subst (λ (x : Entry). survives (get_or parts g []) x ≡ true) same sound.2 in
      sym mine ∙ subst (λ (k : ℕ). survives (get_or parts k []) (entry_of j b) ≡ true) home alive

  from : not (is_covered level j b) ≡ true → list_any (has_place j) kept ≡ true
  from h =
      let g = part_of (key_of b.state) (length parts) in
      let member = are.whole j b (omega arith) low is in
      let within : g < length parts = inside_part parts g (entry_of j b) member in
      let keeps = keeps-at parts kept g all within in
      let place : Contains (get_or kept g []) j = keeps.whole (entry_of j b) member (mine ∙ h) in
      let hit : has_place j (get_or kept g []) ≡ true = Among-any (λ (x : ℕ). x == j) j (get_or kept g []) (Contains-Among (get_or kept g []) j place) (eq_to j j refl) in
      Among-any (has_place j) (get_or kept g []) kept (Among-get_or kept g [] (omega (arith, within, length-keeps parts kept all))) hit

-- the marked nodes are those that none covers
pub marked-uncovered : (level : List Node) (parts : List (List Entry)) (kept : List (List ℕ)) (marks : List Bool) → AreParts level 0 (length level) parts → KeepsAll parts kept → AreMarks (length level) kept marks →
    marked_of marks level ≡ uncovered level
unfolding uncovered
marked-uncovered level parts kept marks are all set =
    ap (map (λ (p : ℕ × Node). p.1)) (filter-same (λ (p : ℕ × Node). get_or marks p.0 false) (λ (p : ℕ × Node). not (is_covered level p.0 p.1)) (enumerate_from 0 level)
    (λ p h. let node = Among-node level p h in mark-says level parts kept marks p.0 p.1 false are all set node.0 node.1))

-- what is kept of the parts, held in vectors
pub keeps-items : {B : Type 0} (part : ℕ → List Entry) (gs : List ℕ) (kept : List (Vec ℕ B)) → AllZip (λ (g : ℕ) (y : Vec ℕ B). Keeps (part g) y.items) gs kept → KeepsAll (map part gs) (items_of kept)
keeps-items part [] [] h = h
keeps-items part [] (y ∷ kept) h = absurd h
keeps-items part (g ∷ gs) [] h = absurd h
keeps-items part (g ∷ gs) (y ∷ kept) h = (h.0, keeps-items part gs kept h.1)

ok-zip : {X Y : Type 0} (E : Type 0) (R : X → Y → Type 0) (xs : List X) (ys : List Y) → AllZip (λ (x : X) (r : Result Y E). IfOk r (R x)) xs (map Ok ys) → AllZip R xs ys
ok-zip E R [] [] h = h
ok-zip E R [] (y ∷ ys) h = absurd h
ok-zip E R (x ∷ xs) [] h = absurd h
ok-zip E R (x ∷ xs) (y ∷ ys) h = (h.0, ok-zip E R xs ys h.1)

-- results that are gathered into one
pub gather : {X Y E A : Type 0} (R : X → Y → Type 0) (xs : List X) (results : List (Result Y E)) (v : Result (Vec Y A) E) (Q : E → Type 0) →
    AllZip (λ (x : X) (r : Result Y E). IfOk r (R x)) xs results → MatchResult v (λ (c : Vec Y A). (ys : List Y) × (results ≡ map Ok ys) × (c.items ≡ ys)) Q →
    IfOk v (λ (c : Vec Y A). AllZip R xs c.items)
gather {X} {Y} {E} {A} R xs results (Ok c) Q zip has =
    subst (λ (ys : List Y). AllZip R xs ys) (sym has.2) (ok-zip E R xs has.0 (subst (λ (rs : List (Result Y E)). AllZip (λ (x : X) (r : Result Y E). IfOk r (R x)) xs rs) has.1 zip))
gather R xs results (Err e) Q zip has = tt
