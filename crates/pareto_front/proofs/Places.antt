-- What is marked of a list, place by place.
use Rattle.std.proofs.Common.{◌≡◌, ◌∙◌, sym, ℕ, suc, ◌+◌, ◌<◌, Bool, true, false, cond, List, [], ◌∷◌, ◌++◌, map, length, take, get_or, arith, refl, ap}
use Rattle.std.specs.List.{filter, enumerate_from}
use Rattle.std.proofs.lemmas.List.{map-append, take_more, length-take-le}
use Rattle.std.proofs.lemmas.List.Elements.{filter-append}
use Rattle.pareto_front.specs.Parts.{marked_from}

enumerate-append : {X : Type 0} (n : ℕ) (xs ys : List X) → enumerate_from n (xs ++ ys) ≡ enumerate_from n xs ++ enumerate_from (n + length xs) ys
enumerate-append n [] ys = let e : n ≡ n + 0 = omega arith in ap (λ (i : ℕ). enumerate_from i ys) e
enumerate-append {X} n (x ∷ xs) ys =
    let e : n + 1 + length xs ≡ n + suc (length xs) = omega arith in
    ap (λ (l : List (ℕ × X)). (n, x) ∷ l) (enumerate-append (n + 1) xs ys ∙ ap (λ (i : ℕ). enumerate_from (n + 1) xs ++ enumerate_from i ys) e)

pub marked-append : {X : Type 0} (n : ℕ) (marks : List Bool) (xs ys : List X) → marked_from n marks (xs ++ ys) ≡ marked_from n marks xs ++ marked_from (n + length xs) marks ys
marked-append {X} n marks xs ys =
    let test : ℕ × X → Bool = λ p. get_or marks p.0 false in
    ap (λ (l : List (ℕ × X)). map (λ (p : ℕ × X). p.1) (filter test l)) (enumerate-append n xs ys)
    ∙ ap (map (λ (p : ℕ × X). p.1)) (filter-append test (enumerate_from n xs) (enumerate_from (n + length xs) ys))
    ∙ map-append (λ (p : ℕ × X). p.1) (filter test (enumerate_from n xs)) (filter test (enumerate_from (n + length xs) ys))

marked-one : {X : Type 0} (n : ℕ) (marks : List Bool) (x : X) (mark : Bool) → mark ≡ get_or marks n false → marked_from n marks (x ∷ []) ≡ cond mark (x ∷ []) []
marked-one {X} n marks x mark is =
    ap (λ (b : Bool). map (λ (p : ℕ × X). p.1) (cond b ((n, x) ∷ []) [])) (sym is)
    ∙ elim mark as (λ b. map (λ (p : ℕ × X). p.1) (cond b ((n, x) ∷ []) []) ≡ cond b (x ∷ []) []) [ true ↦ refl | false ↦ refl ]

-- one element more
pub marked-more : {X : Type 0} (n : ℕ) (marks : List Bool) (xs : List X) (k : ℕ) (x : X) (mark : Bool) → k < length xs → x ≡ get_or xs k x → mark ≡ get_or marks (n + k) false →
    marked_from n marks (take (k + 1) xs) ≡ marked_from n marks (take k xs) ++ cond mark (x ∷ []) []
marked-more {X} n marks xs k x mark inside is here =
    let long : length (take k xs) ≡ k = length-take-le k xs (omega (arith, inside)) in
    ap (marked_from n marks) (take_more xs k x inside ∙ ap (λ (y : X). take k xs ++ y ∷ []) (sym is))
    ∙ marked-append n marks (take k xs) (x ∷ [])
    ∙ ap (λ (l : List X). marked_from n marks (take k xs) ++ l) (ap (λ (i : ℕ). marked_from (n + i) marks (x ∷ [])) long ∙ marked-one (n + k) marks x mark here)
