-- A least upper bound over walks is the word of one of them.
use Rattle.std.proofs.Common.{ℕ, zero, suc, Bool, true, false, List, [], ◌∷◌, ◌≡◌, ◌≤◌, ◌<◌, ◌+◌, ◌&&◌, ◌∙◌, nat_le, nat_lt, ◌-◌, min, max, length, refl, ap, sym, arith, cond, inl, inr}
use Rattle.std.proofs.lemmas.Bool.Decides.{nat_tests}
use Rattle.std.proofs.lemmas.Bool.{cases_lt}
use Rattle.walk_table.specs.Graph.{GraphFields, edge_at, first_of, IsGraph}
use Rattle.walk_table.specs.Walks.{is_walk, is_able, total_cost, total_gain, total_shift, IsMostWorth}
use Rattle.walk_table.specs.Words.{greatest_word}
use Rattle.walk_table.specs.Tops.{word_of, IsTop}

-- the greatest value at the places below a number
greatest_each : (ℕ → ℕ) → ℕ → ℕ
greatest_each f zero = 0
greatest_each f (suc k) = max (f k) (greatest_each f k)

-- the greatest value over all lists of at most n places below a number
greatest : (List ℕ → ℕ) → ℕ → ℕ → ℕ
greatest f count zero = f []
greatest f count (suc n) = max (f []) (greatest_each (λ k. greatest (λ rest. f (k ∷ rest)) count n) count)

abbrev Below : ℕ → List ℕ → Type 0
Below count [] = Unit {0}
Below count (k ∷ rest) = (k < count) × Below count rest

each-upper : (f : ℕ → ℕ) (count k : ℕ) → k < count → f k ≤ greatest_each f count
unfolding greatest_each
each-upper f zero k lt = absurd (omega arith)
each-upper f (suc count) k lt = elim (cases_lt k count) [
  | inl less ↦ let up = each-upper f count k less in omega arith
  | inr ge ↦ let same : k ≡ count = omega arith in let is = ap f same in omega arith
]

each-attained : (f : ℕ → ℕ) (count : ℕ) → 0 < greatest_each f count → (k : ℕ) × (f k ≡ greatest_each f count)
unfolding greatest_each
each-attained f zero some = absurd (omega arith)
each-attained f (suc count) some = elim (cases_lt (f count) (greatest_each f count)) [
  | inl less ↦ let found = each-attained f count (omega arith) in (found.0, found.1 ∙ omega arith)
  | inr ge ↦ (count, omega arith)
]

greatest-upper : (f : List ℕ → ℕ) (count n : ℕ) (w : List ℕ) → Below count w → length w ≤ n → f w ≤ greatest f count n
unfolding greatest
greatest-upper f count zero [] below short = omega arith
greatest-upper f count zero (k ∷ w) below short = absurd (omega arith)
greatest-upper f count (suc n) [] below short = omega arith
greatest-upper f count (suc n) (k ∷ w) below short =
    let rest = greatest-upper (λ rest. f (k ∷ rest)) count n w below.1 (omega arith) in
    let each = each-upper (λ j. greatest (λ rest. f (j ∷ rest)) count n) count k below.0 in
    omega arith

greatest-attained : (f : List ℕ → ℕ) (count n : ℕ) → (w : List ℕ) × (f w ≡ greatest f count n)
unfolding greatest
greatest-attained f count zero = ([], refl)
greatest-attained f count (suc n) = elim (cases_lt (f []) (greatest_each (λ k. greatest (λ rest. f (k ∷ rest)) count n) count)) [
  | inl less ↦
      let at = each-attained (λ k. greatest (λ rest. f (k ∷ rest)) count n) count (omega arith) in
      let found = greatest-attained (λ rest. f (at.0 ∷ rest)) count n in
      (at.0 ∷ found.0, found.1 ∙ at.1 ∙ omega arith)
  | inr ge ↦ ([], omega arith)
]

-- an able walk is short, and its places are places of edges
split : (low k high : ℕ) (x : Bool) → ((nat_le low k && nat_lt k high) && x) ≡ true → (k < high) × (x ≡ true)
split low k high x h = grind (arith, nat_tests)

places : (g : GraphFields) (e : ℕ) (w : List ℕ) → IsGraph g → is_walk g e w ≡ true → Below (length g.edges) w
places g e [] graph h = tt
places g e (k ∷ w) graph h =
    let parts = split (first_of g e) k (first_of g (e + 1)) (is_walk g (edge_at g k).to w) h in
    let within = graph.within (e + 1) in
    (let below = parts.0 in omega arith, places g (edge_at g k).to w graph parts.1)

short : (g : GraphFields) (e : ℕ) (w : List ℕ) → IsGraph g → is_walk g e w ≡ true → length w ≤ total_cost g w
short g e [] graph h = omega arith
short g e (k ∷ w) graph h =
    let parts = split (first_of g e) k (first_of g (e + 1)) (is_walk g (edge_at g k).to w) h in
    let within = graph.within (e + 1) in
    let below = parts.0 in
    let priced : 1 ≤ (edge_at g k).cost = graph.priced k (omega arith) in
    let rest = short g (edge_at g k).to w graph parts.1 in
    omega arith

able_parts : (x : Bool) (c b : ℕ) (y : Bool) → (x && (nat_le c b && y)) ≡ true → (x ≡ true) × (c ≤ b)
able_parts x c b y h = grind (arith, nat_tests)

word-upper : (g : GraphFields) (b e n : ℕ) (w : List ℕ) → IsGraph g → word_of g b e n w ≤ greatest (word_of g b e n) (length g.edges) b
word-upper g b e n w graph = go (is_able g b e n w) refl
  where
    go : (t : Bool) → is_able g b e n w ≡ t → word_of g b e n w ≤ greatest (word_of g b e n) (length g.edges) b
    go true h =
        let parts = able_parts (is_walk g e w) (total_cost g w) b (nat_le n (total_shift g w)) h in
        let few = short g e w graph parts.0 in
        let paid = parts.1 in
        greatest-upper (word_of g b e n) (length g.edges) b w (places g e w graph parts.0) (omega arith)
    go false h =
        let none : word_of g b e n w ≡ 0 = ap (λ t. cond t (min greatest_word (1 + total_gain g w)) 0) h in
        omega arith

pub top-attained : (g : GraphFields) (b e n v : ℕ) → IsGraph g → IsTop (word_of g b e n) v → (w : List ℕ) × (word_of g b e n w ≡ v)
top-attained g b e n v graph top =
    let found = greatest-attained (word_of g b e n) (length g.edges) b in
    let low = top.upper found.0 in
    let is = found.1 in
    let high = top.least (greatest (word_of g b e n) (length g.edges) b) (λ w. word-upper g b e n w graph) in
    (found.0, omega arith)

-- where the least upper bound is 0, no walk is able
pub none_able : (g : GraphFields) (b e n : ℕ) → IsTop (word_of g b e n) 0 → (w : List ℕ) → is_able g b e n w ≡ false
none_able g b e n top w = go (is_able g b e n w) refl
  where
    go : (t : Bool) → is_able g b e n w ≡ t → t ≡ false
    go true h =
        let up = top.upper w in
        let is : word_of g b e n w ≡ min greatest_word (1 + total_gain g w) = ap (λ t. cond t (min greatest_word (1 + total_gain g w)) 0) h in
        absurd (let x : ⊥ = omega arith in x)
    go false h = refl

-- and else it is the word of an able walk, and no able walk is worth more
pub most_worth : (g : GraphFields) (most b e n v value : ℕ) → IsGraph g → most < greatest_word → IsTop (word_of g b e n) v → (v ≡ 0 → ⊥) → value ≡ min most (v - 1) → IsMostWorth g most b e n value
most_worth g most b e n v value graph cut top some value_is =
    let found = top-attained g b e n v graph top in
    let able : is_able g b e n found.0 ≡ true = holds (is_able g b e n found.0) refl found.1 in
    let word_is : word_of g b e n found.0 ≡ min greatest_word (1 + total_gain g found.0) = ap (λ t. cond t (min greatest_word (1 + total_gain g found.0)) 0) able in
    let is = found.1 in
    record {
      walk = found.0;
      able = able;
      gains = omega arith;
      no_more = λ other h.
          let other_is : word_of g b e n other ≡ min greatest_word (1 + total_gain g other) = ap (λ t. cond t (min greatest_word (1 + total_gain g other)) 0) h in
          let up = top.upper other in
          omega arith;
    }
  where
    holds : (t : Bool) → is_able g b e n (top-attained g b e n v graph top).0 ≡ t → word_of g b e n (top-attained g b e n v graph top).0 ≡ v → t ≡ true
    holds true h is = refl
    holds false h is =
        let none : word_of g b e n (top-attained g b e n v graph top).0 ≡ 0 = ap (λ t. cond t (min greatest_word (1 + total_gain g (top-attained g b e n v graph top).0)) 0) h in
        absurd (some (sym is ∙ none))
