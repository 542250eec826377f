-- What the workers found, joined.
use Rattle.std.proofs.Common.{◌≡◌, ◌∙◌, sym, ℕ, zero, suc, ◌+◌, ◌-◌, ◌<◌, ◌≤◌, Bool, true, is_ok, List, [], ◌∷◌, ◌++◌, append_assoc, append-nil, length, take, get_or, Vec, Global, Result, Ok, Err, IsOk, IfOk, arith, ap, map, refl, subst}
use Rattle.std.specs.Borrow.{Bor}
use Rattle.std.specs.List.{flat_map, All, AllZip}
use Rattle.std.proofs.Math.ListN.{get_or-map}
use Rattle.std.proofs.lemmas.List.{length-map, take_more}
use Rattle.std.proofs.lemmas.List.Concat.{flat_map-append}
use Rattle.worker_gate.specs.Cut.{cut}
use Rattle.worker_gate.proofs.Cuts.{cuts_once}
use Rattle.action_table.specs.declared.action.Action.{Action}
use Rattle.action_table.specs.declared.memory.WantMemory.{WantMemory}
use Rattle.craft_state.specs.Craft.{StateFields}
use Rattle.craft_settings.specs.Ranges.{SettingsFields}
use Rattle.prefix_fronts.specs.Prefix.{Test}
use Rattle.pareto_front.specs.declared.node.Node.{Node}
use Rattle.pareto_front.specs.Pieces.{nodes_of}
use Rattle.front_walk.specs.declared.walker.Walker.{Walker}
use Rattle.front_walk.specs.Nodes.{nodes_upto, roots, roots_upto}
use Rattle.front_walk.specs.Asking.{AllMayAsk, AllStillAsk, HasFound, nodes_in}

pub roots-first : (s : StateFields) (passes : Test) (n k : ℕ) → k ≡ 0 → roots_upto s passes n k ≡ []
unfolding roots_upto
roots-first s passes n k first = rw first refl

pub roots-later : (s : StateFields) (passes : Test) (n k : ℕ) → 1 ≤ k → roots_upto s passes n k ≡ roots s passes n
unfolding roots_upto
roots-later s passes n zero some = absurd (omega (arith, some))
roots-later s passes n (suc k) some = refl

-- pieces that each go on where the one before ends
pieces : {A : Type 0} (t : ℕ → List Node) (ws : List (Walker A)) (i : ℕ) → ((k : ℕ) (d : Walker A) → k < length ws → t (i + k) ++ nodes_in (get_or ws k d).found ≡ t (i + k + 1)) →
    t i ++ flat_map (λ (w : Walker A). nodes_in w.found) ws ≡ t (i + length ws)
pieces t [] i each = let same : i ≡ i + 0 = omega arith in append-nil (t i) ∙ ap t same
pieces {A} t (w ∷ ws) i each =
    let here : i + 0 ≡ i = omega arith in
    let next : i + 0 + 1 ≡ i + 1 = omega arith in
    let last : i + 1 + length ws ≡ i + suc (length ws) = omega arith in
    let one : t i ++ nodes_in w.found ≡ t (i + 1) = ap (λ (j : ℕ). t j ++ nodes_in w.found) (sym here) ∙ each 0 w (omega arith) ∙ ap t next in
    let rest = pieces t ws (i + 1) (λ k d below.
    let at : i + 1 + k ≡ i + suc k = omega arith in
    rw at (each (suc k) d (omega (arith, below)))) in
    sym (append_assoc (t i) (nodes_in w.found) (flat_map (λ (w : Walker A). nodes_in w.found) ws))
    ∙ ap (λ (l : List Node). l ++ flat_map (λ (w : Walker A). nodes_in w.found) ws) one ∙ rest ∙ ap t last

found-ok : (r : Result (Vec Node Global) WantMemory) (P : List Node → Type 0) → is_ok r ≡ true → IfOk r (λ v. P v.items) → P (nodes_in r)
found-ok (Ok v) P ok h = h
found-ok (Err e) P ok h = absurd (cc)

-- what is known of the workers, before and after
pub record HaveFound {A : Type 0} (may_ask : A → Type 0) (still : A → A → Type 0) (t : ℕ → List Node) (before after : List (Walker A)) : Type 0 where
  pub as_many : length after ≡ length before
  pub each : (k : ℕ) (d : Walker A) → k < length before → HasFound may_ask still (t k) (t (k + 1)) (get_or before k d) (get_or after k d)

pub joined : {A : Type 0} (may_ask : A → Type 0) (still : A → A → Type 0) (t : ℕ → List Node) (before after : List (Walker A)) → HaveFound may_ask still t before after →
    All (λ w. IsOk w.found) after → t 0 ++ flat_map (λ (w : Walker A). nodes_in w.found) after ≡ t (length before)
joined {A} may_ask still t before after found whole =
    let each : (k : ℕ) (d : Walker A) → k < length after → t (0 + k) ++ nodes_in (get_or after k d).found ≡ t (0 + k + 1) = λ k d below.
    let at : 0 + k ≡ k = omega arith in
    rw at (found-ok (get_or after k d).found (λ l. t k ++ l ≡ t (k + 1)) (whole k d below) (found.each k d (omega (arith, found.as_many, below))).found) in
    let end : 0 + length after ≡ length before = omega (arith, found.as_many) in
    pieces t after 0 each ∙ ap t end

-- one list more
pub lists-more : {A : Type 0} (first : List Node) (lists lists' : List (Bor (List Node))) (list : Bor (List Node)) (ws : List (Walker A)) (i : ℕ) (w : Walker A) → i < length ws → w ≡ get_or ws i w →
    nodes_of lists ≡ first ++ flat_map (λ (w : Walker A). nodes_in w.found) (take i ws) → lists' ≡ lists ++ list ∷ [] → list.now ≡ nodes_in w.found →
    nodes_of lists' ≡ first ++ flat_map (λ (w : Walker A). nodes_in w.found) (take (i + 1) ws)
lists-more {A} first lists lists' list ws i w below is so more same =
    let f : Walker A → List Node = λ w. nodes_in w.found in
    let now : Bor (List Node) → List Node = λ l. l.now in
    let taken : take (i + 1) ws ≡ take i ws ++ w ∷ [] = take_more ws i w below ∙ ap (λ (z : Walker A). take i ws ++ z ∷ []) (sym is) in
    let here : list.now ++ [] ≡ f w = append-nil list.now ∙ same in
    let last : flat_map f (take (i + 1) ws) ≡ flat_map f (take i ws) ++ f w =
    ap (flat_map f) taken ∙ flat_map-append f (take i ws) (w ∷ []) ∙ ap (λ (l : List Node). flat_map f (take i ws) ++ l) (append-nil (f w)) in
    ap nodes_of more ∙ flat_map-append now lists (list ∷ []) ∙ (λ j. so j ++ here j) ∙ append_assoc first (flat_map f (take i ws)) (f w)
    ∙ ap (λ (l : List Node). first ++ l) (sym last)

-- ranges that are expanded give the children of the slice
pub expanded : {A : Type 0} (may_ask : A → Type 0) (still : A → A → Type 0) (g : SettingsFields) (test : StateFields → Action → Bool) (level : List Node) (from to : ℕ) (before after : List (Walker A)) →
    from ≤ to → 1 ≤ length after → HaveFound may_ask still (λ k. nodes_upto g test level (from + cut (to - from) (length before) k)) before after → All (λ w. IsOk w.found) after →
    nodes_upto g test level from ++ flat_map (λ (w : Walker A). nodes_in w.found) after ≡ nodes_upto g test level to
expanded {A} may_ask still g test level from to before after order some found whole =
    let count = length before in
    let cuts = cuts_once (to - from) count (omega (arith, some, found.as_many)) in
    let first : from ≡ from + cut (to - from) count 0 = omega (arith, cuts.first) in
    let last : from + cut (to - from) count count ≡ to = omega (arith, cuts.last, order) in
    ap (λ (i : ℕ). nodes_upto g test level i ++ flat_map (λ (w : Walker A). nodes_in w.found) after) first
    ∙ joined may_ask still (λ k. nodes_upto g test level (from + cut (to - from) count k)) before after found whole ∙ ap (nodes_upto g test level) last

-- the first worker finds the state that is walked from
pub rooted : {A : Type 0} (may_ask : A → Type 0) (still : A → A → Type 0) (s : StateFields) (passes : Test) (n : ℕ) (before after : List (Walker A)) → 1 ≤ length after →
    HaveFound may_ask still (roots_upto s passes n) before after → All (λ w. IsOk w.found) after → flat_map (λ (w : Walker A). nodes_in w.found) after ≡ roots s passes n
rooted {A} may_ask still s passes n before after some found whole =
    ap (λ (l : List Node). l ++ flat_map (λ (w : Walker A). nodes_in w.found) after) (sym (roots-first s passes n 0 refl))
    ∙ joined may_ask still (roots_upto s passes n) before after found whole ∙ roots-later s passes n (length before) (omega (arith, some, found.as_many))

pub still-asking : {A : Type 0} (may_ask : A → Type 0) (still : A → A → Type 0) (t : ℕ → List Node) (before after : List (Walker A)) → HaveFound may_ask still t before after → AllMayAsk may_ask after
still-asking may_ask still t before after found k d below = (found.each k d (omega (arith, found.as_many, below))).of

zipped : {X : Type 0} (r : X → X → Type 0) (before after : List X) → length after ≡ length before → ((k : ℕ) (d : X) → k < length before → r (get_or before k d) (get_or after k d)) → AllZip r before after
zipped r [] [] same each = tt
zipped r [] (w ∷ ws) same each = absurd (omega (arith, same))
zipped r (v ∷ vs) [] same each = absurd (omega (arith, same))
zipped r (v ∷ vs) (w ∷ ws) same each = (each 0 v (omega arith), zipped r vs ws (omega (arith, same)) (λ k d below. each (suc k) d (omega (arith, below))))

pub all-still : {A : Type 0} (may_ask : A → Type 0) (still : A → A → Type 0) (t : ℕ → List Node) (before after : List (Walker A)) → HaveFound may_ask still t before after → AllStillAsk still before after
all-still may_ask still t before after found = zipped (λ v w. still v.asker w.asker) before after found.as_many (λ k d below. (found.each k d below).still)

-- each of the workers asks with what it asked with
pub record AskAlike {A : Type 0} (before after : List (Walker A)) : Type 0 where
  pub as_many : length after ≡ length before
  pub each : (k : ℕ) (d : Walker A) → k < length before → (get_or after k d).asker ≡ (get_or before k d).asker

pub alike-may : {A : Type 0} (may_ask : A → Type 0) (before after : List (Walker A)) → AskAlike before after → AllMayAsk may_ask before → AllMayAsk may_ask after
alike-may may_ask before after alike may k d below =
    let less : k < length before = omega (arith, alike.as_many, below) in
    subst may_ask (sym (alike.each k d less)) (may k d less)

pub alike-still : {A : Type 0} (may_ask : A → Type 0) (still : A → A → Type 0) (t : ℕ → List Node) (first before after : List (Walker A)) → HaveFound may_ask still t first before →
    AskAlike before after → AllStillAsk still first after
alike-still may_ask still t first before after found alike =
    zipped (λ v w. still v.asker w.asker) first after (alike.as_many ∙ found.as_many) (λ k d below.
    let less : k < length before = omega (arith, found.as_many, below) in
    subst (still (get_or first k d).asker) (sym (alike.each k d less)) (found.each k d below).still)

-- over several calls
pub stills-same : {A : Type 0} (still : A → A → Type 0) → ((a : A) → still a a) → (ws : List (Walker A)) → AllStillAsk still ws ws
stills-same still same [] = tt
stills-same still same (w ∷ ws) = (same w.asker, stills-same still same ws)

pub stills-later : {A : Type 0} (still : A → A → Type 0) → ((a b c : A) → still a b → still b c → still a c) → (us vs ws : List (Walker A)) →
    AllStillAsk still us vs → AllStillAsk still vs ws → AllStillAsk still us ws
stills-later still later [] [] ws first second = second
stills-later still later [] (v ∷ vs) ws first second = absurd first
stills-later still later (u ∷ us) [] ws first second = absurd first
stills-later still later (u ∷ us) (v ∷ vs) [] first second = absurd second
stills-later still later (u ∷ us) (v ∷ vs) (w ∷ ws) first second = (later u.asker v.asker w.asker first.0 second.0, stills-later still later us vs ws first.1 second.1)

pub if_ok : {A E : Type 0} (r : Result A E) (P Q R : A → Type 0) → IfOk r P → IfOk r Q → ((v : A) → P v → Q v → R v) → IfOk r R
if_ok (Ok v) P Q R p q more = more v p q
if_ok (Err e) P Q R p q more = p

-- what is said of workers is said of what they ask with
pub hired-may : {A : Type 0} (may_ask : A → Type 0) (ws : List (Walker A)) (askers : List A) → map (λ w. w.asker) ws ≡ askers → All may_ask askers → AllMayAsk may_ask ws
hired-may may_ask ws askers same may k d below =
    let long : length ws ≡ length askers = sym (length-map ws (λ (w : Walker _). w.asker)) ∙ ap length same in
    subst may_ask (ap (λ l. get_or l k d.asker) (sym same) ∙ get_or-map (λ (w : Walker _). w.asker) ws k d) (may k d.asker (omega (arith, long, below)))

pub released-may : {A : Type 0} (may_ask : A → Type 0) (ws : List (Walker A)) → AllMayAsk may_ask ws → All may_ask (map (λ w. w.asker) ws)
released-may may_ask [] may k d below = absurd (omega (arith, below))
released-may may_ask (w ∷ ws) may zero d below = may 0 w (omega arith)
released-may {A} may_ask (w ∷ ws) may (suc k) d below = released-may may_ask ws (λ j e less. may (suc j) e (omega (arith, less))) k d (omega (arith, below))

pub released-still : {A : Type 0} (still : A → A → Type 0) (vs ws : List (Walker A)) → AllStillAsk still vs ws → AllZip still (map (λ w. w.asker) vs) (map (λ w. w.asker) ws)
released-still still [] [] h = tt
released-still still [] (w ∷ ws) h = absurd h
released-still still (v ∷ vs) [] h = absurd h
released-still still (v ∷ vs) (w ∷ ws) h = (h.0, released-still still vs ws h.1)
