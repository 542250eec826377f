-- The first of a bucket that dominates a node is the first of all.
use Rattle.std.proofs.Common.{◌≡◌, ◌∙◌, sym, ℕ, ◌+◌, ◌<◌, ◌≤◌, ◌==◌, Bool, true, false, cond, inl, inr, Option, Some, List, [], ◌∷◌, ◌++◌, append-nil, length, length-take, take, ◌*◌, ◌^◌, ◌%◌, get_or, set, Vec, refl, ap, subst, arith, if◌then◌else◌}
use Rattle.std.specs.List.{filter, position, position_from}
use Rattle.std.proofs.lemmas.List.{take_more, get_or-set_same, get_or-set_other, length-set, take_all}
use Rattle.std.proofs.lemmas.List.Elements.{filter-append}
use Rattle.std.proofs.lemmas.Iterator.Adapters.{position_from-zero}
use Rattle.plain_lemmas.proofs.Tests.{and_both, same_or_other, other_number, eq_to}
use Rattle.craft_state.specs.Craft.{StateFields}
use Rattle.craft_state.specs.Pack.{pack_of}
use Rattle.prefix_fronts.proofs.Dominance.{IsNotLess-from}
use Rattle.pareto_front.specs.declared.node.Node.{Node}
use Rattle.pareto_front.specs.Keys.{key_of}
use Rattle.pareto_front.specs.Lists.{items_of}
use Rattle.pareto_front.proofs.Vectors.{length-items}
use Rattle.certificate_maker.specs.declared.rivals.Rival.{Rival}
use Rattle.certificate_maker.specs.Rivals.{outdoes, bucket_of, numbered, rivals_in, AreBuckets, first_over, over_in}

numbered-append : (place : ℕ) (xs ys : List Node) → numbered place (xs ++ ys) ≡ numbered place xs ++ numbered (place + length xs) ys
numbered-append place [] ys = let none : place + 0 ≡ place = omega arith in ap (λ (n : ℕ). numbered n ys) (sym none)
numbered-append place (x ∷ xs) ys =
    let more : place + 1 + length xs ≡ place + length (x ∷ xs) = omega arith in
    ap (λ (l : List Rival). record { place = place; node = x } ∷ l) (numbered-append (place + 1) xs ys ∙ ap (λ (n : ℕ). numbered (place + 1) xs ++ numbered n ys) more)

-- the nodes so far are in their buckets
pub record Fill (next : List Node) (count done : ℕ) (buckets : List (List Rival)) : Type 0 where
  pub long : length buckets ≡ count
  pub each : (bucket : ℕ) → bucket < count → get_or buckets bucket [] ≡ rivals_in (take done next) count bucket

pub fill-start : (next : List Node) (count : ℕ) (buckets : List (List Rival)) → length buckets ≡ count → ((b : ℕ) → get_or buckets b [] ≡ []) → Fill next count 0 buckets
fill-start next count buckets long empty = record { long = long; each = λ bucket inside. empty bucket }

taken-long : (next : List Node) (i : ℕ) → i < length next → length (take i next) ≡ i
taken-long next i inside = omega (arith, length-take i next, inside)

one-more : (next : List Node) (count i bucket : ℕ) (n : Node) → i < length next → n ≡ get_or next i n →
    rivals_in (take (i + 1) next) count bucket ≡ rivals_in (take i next) count bucket ++ (if bucket_of n.state count == bucket then record { place = i; node = n } ∷ [] else [])
one-more next count i bucket n inside is =
    let keep : Rival → Bool = λ r. bucket_of r.node.state count == bucket in
    let more : take (i + 1) next ≡ take i next ++ n ∷ [] = take_more next i n inside ∙ ap (λ (x : Node). take i next ++ x ∷ []) (sym is) in
    ap (λ (l : List Node). filter keep (numbered 0 l)) more
    ∙ ap (filter keep) (numbered-append 0 (take i next) (n ∷ []) ∙ ap (λ (p : ℕ). numbered 0 (take i next) ++ record { place = p; node = n } ∷ []) (omega (arith, taken-long next i inside)))
    ∙ filter-append keep (numbered 0 (take i next)) (record { place = i; node = n } ∷ [])

mine : (b : Bool) (l : List Rival) (r : Rival) → b ≡ true → l ++ r ∷ [] ≡ l ++ (if b then r ∷ [] else [])
mine true l r h = refl
mine false l r h = cc

others : (b : Bool) (l : List Rival) (r : Rival) → b ≡ false → l ≡ l ++ (if b then r ∷ [] else [])
others true l r h = cc
others false l r h = sym (append-nil l)

pub fill-more : (next : List Node) (count i at : ℕ) (n : Node) (r : Rival) (buckets later : List (List Rival)) → i < length next → n ≡ get_or next i n → at ≡ bucket_of n.state count → at < count → r ≡ record { place = i; node = n } →
    later ≡ set buckets at (get_or buckets at [] ++ r ∷ []) → Fill next count i buckets → Fill next count (i + 1) later
fill-more next count i at n r buckets later inside is at_is low entry grown fill = record {
  long = ap length grown ∙ length-set buckets at (get_or buckets at [] ++ r ∷ []) ∙ fill.long;
  each = λ bucket within.
      ap (λ (l : List (List Rival)). get_or l bucket []) grown
      ∙ elim (same_or_other bucket at) [
        | inl here ↦
            let placed : at < length buckets = omega (arith, low, fill.long) in
            ap (λ (b : ℕ). get_or (set buckets at (get_or buckets at [] ++ r ∷ [])) b []) here ∙ get_or-set_same buckets at (get_or buckets at [] ++ r ∷ []) [] placed
            ∙ ap (λ (l : List Rival). l ++ r ∷ []) (fill.each at low) ∙ ap (λ (x : Rival). rivals_in (take i next) count at ++ x ∷ []) entry
            ∙ mine (bucket_of n.state count == at) (rivals_in (take i next) count at) (record { place = i; node = n }) (eq_to (bucket_of n.state count) at (sym at_is))
            ∙ sym (one-more next count i at n inside is) ∙ ap (rivals_in (take (i + 1) next) count) (sym here)
        | inr other ↦
            get_or-set_other buckets at bucket (get_or buckets at [] ++ r ∷ []) [] other ∙ fill.each bucket within
            ∙ others (bucket_of n.state count == bucket) (rivals_in (take i next) count bucket) (record { place = i; node = n }) (other_number (bucket_of n.state count) bucket (λ same. other (sym same ∙ sym at_is)))
            ∙ sym (one-more next count i bucket n inside is)
      ];
}

-- the same of buckets in vectors
pub fill-step : {A : Type 0} (next : List Node) (i at : ℕ) (n : Node) (r : Rival) (buckets later : List (Vec Rival A)) → i < length next → n ≡ get_or next i n → at ≡ bucket_of n.state (length buckets) → at < length buckets → r ≡ record { place = i; node = n } →
    items_of later ≡ set (items_of buckets) at (get_or (items_of buckets) at [] ++ r ∷ []) → Fill next (length buckets) i (items_of buckets) → (length later ≡ length buckets) × Fill next (length later) (i + 1) (items_of later)
fill-step next i at n r buckets later inside is at_is low entry grown fill =
    let more = fill-more next (length buckets) i at n r (items_of buckets) (items_of later) inside is at_is low entry grown fill in
    let same : length later ≡ length buckets = sym (length-items later) ∙ more.long in
    (same, subst (λ (count : ℕ). Fill next count (i + 1) (items_of later)) (sym same) more)

pub filled : (next : List Node) (count done : ℕ) (buckets : List (List Rival)) → length next ≤ done → 0 < count → Fill next count done buckets → AreBuckets next buckets
filled next count done buckets all some fill = record {
  some = omega (arith, fill.long, some);
  each = λ bucket inside.
      fill.each bucket (omega (arith, fill.long, inside)) ∙ ap (λ (l : List Node). rivals_in l count bucket) (take_all done next all) ∙ ap (λ (n : ℕ). rivals_in next n bucket) (sym fill.long);
}

-- only states of one bucket outdo each other
same-bucket : (a b : Node) (count : ℕ) → outdoes a b ≡ true → bucket_of a.state count ≡ bucket_of b.state count
unfolding outdoes bucket_of key_of
same-bucket a b count h =
    let covers = IsNotLess-from a.state b.state (and_both _ _ h).0 in
    λ j. (covers.progress j * 2 ^ 28 + pack_of (covers.effects j)) % count

first-by : (keep out : Bool) (r : Rival) (rest : List Rival) (c : Node) (later : Option ℕ) → out ≡ outdoes r.node c → (out ≡ true → keep ≡ true) → first_over rest c ≡ later →
    first_over (if keep then r ∷ rest else rest) c ≡ cond out (Some r.place) later
first-by true out r rest c later is h e = ap (λ b. if b then Some r.place else first_over rest c) (sym is) ∙ ap (λ (o : Option ℕ). if out then Some r.place else o) e
first-by false true r rest c later is h e = cc (h refl)
first-by false false r rest c later is h e = e

-- the first in the bucket is the first of all
first-in : (c : Node) (count place : ℕ) (nodes : List Node) → first_over (filter (λ r. bucket_of r.node.state count == bucket_of c.state count) (numbered place nodes)) c ≡ position_from (λ q. outdoes q c) place nodes
first-in c count place [] = refl
first-in c count place (n ∷ nodes) =
    first-by (bucket_of n.state count == bucket_of c.state count) (outdoes n c) (record { place = place; node = n }) (filter (λ r. bucket_of r.node.state count == bucket_of c.state count) (numbered (place + 1) nodes)) c
    (position_from (λ q. outdoes q c) (place + 1) nodes) refl (λ over. eq_to _ _ (same-bucket n c count over)) (first-in c count (place + 1) nodes)

bucket-below : (s : StateFields) (count : ℕ) → 0 < count → bucket_of s count < count
unfolding bucket_of
bucket-below s count some = omega (arith, some)

pub over-first : (next : List Node) (buckets : List (List Rival)) (c : Node) → AreBuckets next buckets → over_in buckets c ≡ position (λ q. outdoes q c) next
over-first next buckets c are =
    let inside : bucket_of c.state (length buckets) < length buckets = bucket-below c.state (length buckets) are.some in
    ap (λ (l : List Rival). first_over l c) (are.each (bucket_of c.state (length buckets)) inside) ∙ first-in c (length buckets) 0 next ∙ sym (position_from-zero (λ q. outdoes q c) next)
