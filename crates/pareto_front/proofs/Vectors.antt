-- Lists that are held in vectors.
use Rattle.std.proofs.Common.{◌≡◌, ◌∙◌, ℕ, zero, suc, ◌+◌, ◌<◌, List, [], ◌∷◌, ◌++◌, length, get_or, set, map, Vec, Result, Ok, Err, OnErr, refl, ap, sym}
use Rattle.std.proofs.lemmas.List.{get_or-map, length-map, length-append, map-append, map-set}
use Rattle.std.proofs.Math.Seq.{map-set_same}
use Rattle.pareto_front.specs.Lists.{items_of}

pub length-more : {X : Type 0} (xs : List X) (x : X) → length (xs ++ x ∷ []) ≡ length xs + 1
length-more {X} xs x = length-append xs (x ∷ [])

pub length-items : {X A : Type 0} (vectors : List (Vec X A)) → length (items_of vectors) ≡ length vectors
length-items {X} {A} vectors = length-map vectors (λ (x : Vec X A). x.items)

pub vector-at : {X A : Type 0} (vectors : List (Vec X A)) (i : ℕ) (v : Vec X A) → i < length vectors → v ≡ get_or vectors i v → v.items ≡ get_or (items_of vectors) i []
vector-at {X} {A} vectors i v inside is = ap (λ (x : Vec X A). x.items) is ∙ sym (get_or-map (λ (x : Vec X A). x.items) vectors i v [] inside)

-- one more vector
pub items-added : {X A : Type 0} (vectors later : List (Vec X A)) (v : Vec X A) → later ≡ vectors ++ v ∷ [] → v.items ≡ [] → items_of later ≡ items_of vectors ++ [] ∷ []
items-added {X} {A} vectors later v is empty =
    ap (map (λ (x : Vec X A). x.items)) is ∙ map-append (λ (x : Vec X A). x.items) vectors (v ∷ []) ∙ ap (λ (l : List X). items_of vectors ++ l ∷ []) empty

-- a push to one of the vectors
pub items-pushed : {X A : Type 0} (vectors : List (Vec X A)) (i : ℕ) (old new : Vec X A) (x : X) → i < length vectors → old ≡ get_or vectors i old → new.items ≡ old.items ++ x ∷ [] →
    items_of (set vectors i new) ≡ set (items_of vectors) i (get_or (items_of vectors) i [] ++ x ∷ [])
items-pushed {X} {A} vectors i old new x inside is grown =
    map-set (λ (v : Vec X A). v.items) vectors i new
    ∙ ap (set (items_of vectors) i) (grown ∙ ap (λ (l : List X). l ++ x ∷ []) (vector-at vectors i old inside is))

pub items-kept : {X A : Type 0} (vectors : List (Vec X A)) (i : ℕ) (old new : Vec X A) → old ≡ get_or vectors i old → new.items ≡ old.items → items_of (set vectors i new) ≡ items_of vectors
items-kept {X} {A} vectors i old new is same =
    map-set_same (λ (v : Vec X A). v.items) vectors i new old (same ∙ ap (λ (v : Vec X A). v.items) is)

-- an empty list past the end changes nothing
pub get_or-empty : {X : Type 0} (lists : List (List X)) (i : ℕ) → get_or (lists ++ [] ∷ []) i [] ≡ get_or lists i []
get_or-empty [] zero = refl
get_or-empty [] (suc i) = refl
get_or-empty (x ∷ lists) zero = refl
get_or-empty (x ∷ lists) (suc i) = get_or-empty lists i

pub at_err : {T E : Type 0} (r : Result T E) (P : Type 0) → P → OnErr r P
at_err (Ok x) P p = tt
at_err (Err e) P p = p
