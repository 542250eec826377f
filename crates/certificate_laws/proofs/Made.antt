-- The certificate that is made for the best macro is one.
use Rattle.std.proofs.Common.{◌≡◌, ◌∙◌, sym, ℕ, suc, ◌+◌, ◌-◌, ◌<◌, ◌≤◌, ◌==◌, ◌&&◌, ◌||◌, Bool, true, false, cond, not, ◌⊎◌, inl, inr, Option, Some, None, List, [], ◌∷◌, ◌++◌, length, length-append, map, get_or, refl, ap, subst, arith, if◌then◌else◌}
use Rattle.std.specs.List.{filter, flat_map, list_any, position, position_from}
use Rattle.std.proofs.lemmas.List.Elements.{filter-append}
use Rattle.std.proofs.lemmas.List.Quantifiers.{position-Some}
use Rattle.std.proofs.lemmas.Iterator.Adapters.{position_from-zero}
use Rattle.std.proofs.lemmas.Option.{slice_get-get_or}
use Rattle.plain_lemmas.proofs.Tests.{bool_cases, clash, same_answer, some_same, and_both, eq_from}
use Rattle.plain_lemmas.proofs.Lists.{Among, Among-any, any-Among, Among-filter, filter-Among, filter-filter, topmost}
use Rattle.action_table.specs.declared.action.Action.{Action}
use Rattle.action_table.specs.Table.{all_actions, action_seconds}
use Rattle.craft_settings.specs.Ranges.{SettingsFields, AreSettings, IsFromTo}
use Rattle.step_rules.specs.Legality.{start_of, is_complete, is_over, is_legal}
use Rattle.step_rules.specs.Step.{step_of}
use Rattle.step_rules.specs.Run.{run_of}
use Rattle.step_rules.specs.Macro.{counted}
use Rattle.step_rules.proofs.Runs.{run_of-snoc}
use Rattle.macro_order.specs.declared.scores.Score.{Score}
use Rattle.macro_order.specs.Order.{seconds_of, scored, score_of, is_better, IsBest}
use Rattle.prefix_fronts.specs.Prefix.{Prefix, empty_prefix, extend, goes_on, children, dominates, undominated, survivors, next_children}
use Rattle.prefix_fronts.proofs.Dominance.{dominates-irreflexive, dominates-transitive}
use Rattle.prefix_fronts.proofs.Members.{IsPrefixAt, seconds_of-snoc, start-open}
use Rattle.relaxed_moves.specs.Optimum.{limit_of, within_of}
use Rattle.certificate_text.specs.declared.verdict.Verdict.{Verdict}
use Rattle.certificate_text.specs.declared.verdict.Verdict.TheVariants.{Complete, Failed, Limited, Late}
use Rattle.certificate_text.specs.Text.{IsText}
use Rattle.certificate_text.proofs.Same.{text-same}
use Rattle.certificate_laws.specs.Claims.{Claim, score_at, is_below, is_at_most, IsTooLong, Holds, legal_at, legal_after, RowHolds, RowsHold, is_kept, kept_of, next_kept, LevelsHold}
use Rattle.certificate_laws.specs.Certificate.{IsCertificate}
use Rattle.certificate_laws.specs.Made.{is_limited, is_late, may_win, settled, ranked, or_ranked, verdict_of, left_after, row_of, next_level, AreMade, IsMade}
use Rattle.certificate_laws.proofs.Rows.{among-legal, next-prefixes}

none-left : (steps long left : ℕ) → left ≡ steps - long → (left == 0) ≡ true → steps ≤ long
none-left steps long left is h = omega (arith, is, eq_from left 0 h)

late-tells : (claim : Claim) (left : ℕ) (p : Prefix) → left ≡ claim.score.steps - length p.actions → is_late claim left p.state ≡ true →
    (is_at_most (limit_of claim.g claim.grain p.state) claim.score.quality ≡ true) × IsTooLong claim p
unfolding is_late
late-tells claim left p is h =
    let both = and_both _ _ h in
    let within : ℕ → Option ℕ = λ n. within_of claim.g claim.grain p.state n in (
      both.0,
      elim (bool_cases (left == 0)) [
        | inl none ↦ inl (none-left claim.score.steps (length p.actions) left is none)
        | inr some ↦
            let below : is_below (within left) claim.score.quality ≡ true = sym (ap (λ b. b || is_below (within left) claim.score.quality) some) ∙ both.1 in
            inr (subst (λ (n : ℕ). is_below (within n) claim.score.quality ≡ true) is below)
      ],
    )

-- the same test as a choice of what was tested before
abbrev pub picked : Bool → Bool → Bool → Bool → Option Verdict
picked complete over limited late =
    if complete then Some Complete else if over then Some Failed else if limited then Some Limited else if late then Some Late else None

picked-holds : (claim : Claim) (next : List Prefix) (p : Prefix) (complete over limited late : Bool) (place : Option ℕ) →
    (complete ≡ true → Holds claim next p Complete) → (over ≡ true → complete ≡ false → Holds claim next p Failed) → (over ≡ false → limited ≡ true → Holds claim next p Limited) →
    (over ≡ false → late ≡ true → Holds claim next p Late) → (over ≡ false → Holds claim next p (ranked place)) → Holds claim next p (or_ranked (picked complete over limited late) place)
picked-holds claim next p true over limited late place c f q s k = c refl
picked-holds claim next p false true limited late place c f q s k = f refl refl
picked-holds claim next p false false true late place c f q s k = q refl refl
picked-holds claim next p false false false true place c f q s k = s refl refl
picked-holds claim next p false false false false place c f q s k = k refl

ranked-holds : (claim : Claim) (next : List Prefix) (p : Prefix) (place : Option ℕ) → position (λ q. dominates q p) next ≡ place → is_over claim.g p.state ≡ false → Holds claim next p (ranked place)
ranked-holds claim next p None found live = live
ranked-holds claim next p (Some place) found live =
    let at = position-Some (λ q. dominates q p) next place p found in
    (live, (get_or next place p, slice_get-get_or next place p at.0, at.1))

dead : (c : Bool) (d : ℕ) → (c || d == 0) ≡ true → c ≡ false → d ≡ 0
dead true d h e = cc
dead false d h e = eq_from d 0 h

-- a prefix that legal actions lead to
record IsRun (g : SettingsFields) (p : Prefix) : Type 0 where
  pub ran : run_of g (start_of g) p.actions ≡ Some p.state
  pub seconds : p.seconds ≡ seconds_of p.actions

child-run : (g : SettingsFields) (k : ℕ) (p : Prefix) (a : Action) → IsPrefixAt g (start_of g) k p → is_legal g p.state a ≡ true → IsRun g (extend g p a)
child-run g k p a is legal = record {
  ran = run_of-snoc g (start_of g) p.state p.actions a is.ran legal;
  seconds = ap (λ n. n + action_seconds a) is.seconds ∙ sym (seconds_of-snoc p.actions a);
}

score-ends : (g : SettingsFields) (p : Prefix) → IsRun g p → is_complete g p.state ≡ true → score_of g p.actions ≡ Some (score_at g p)
score-ends g p run full =
    let mine : ℕ → Score = λ n. record { quality = counted g p.state; steps = length p.actions; seconds = n } in
    ap (scored g p.actions) run.ran ∙ ap (λ b. if b then Some (mine (seconds_of p.actions)) else None) full ∙ ap (λ (n : ℕ). Some (mine n)) (sym run.seconds)

-- the claim is about the best macro
record IsOfBest (claim : Claim) : Type 0 where
  pub best : IsBest claim.g claim.actions
  pub completes : score_of claim.g claim.actions ≡ Some claim.score

no-better : (claim : Claim) (next : List Prefix) (p : Prefix) → IsOfBest claim → IsRun claim.g p → is_complete claim.g p.state ≡ true → Holds claim next p Complete
no-better claim next p of run full =
    let same : of.best.score ≡ claim.score = some_same of.best.score claim.score (sym of.best.completes ∙ of.completes) in (
      full,
      subst (λ (s : Score). (claim.actions ≡ p.actions) ⊎ (is_better s claim.actions (score_at claim.g p) p.actions ≡ true)) same
          (of.best.best p.actions (score_at claim.g p) (score-ends claim.g p run full)),
    )

verdict-holds : (claim : Claim) (left : ℕ) (next : List Prefix) (p : Prefix) → IsOfBest claim → IsRun claim.g p → left ≡ claim.score.steps - length p.actions → Holds claim next p (verdict_of claim left next p)
unfolding verdict_of settled is_limited
verdict-holds claim left next p of run is =
    picked-holds claim next p (is_complete claim.g p.state) (is_over claim.g p.state) (is_below (limit_of claim.g claim.grain p.state) claim.score.quality) (is_late claim left p.state) (position (λ q. dominates q p) next)
    (no-better claim next p of run)
    (λ over not_complete. (dead (is_complete claim.g p.state) p.state.durability over not_complete, not_complete))
    (λ live below. (live, below))
    (λ live late. let told = late-tells claim left p is late in (live, told.0, told.1))
    (ranked-holds claim next p (position (λ q. dominates q p) next) refl)

-- each verdict of a row holds
row-holds : (claim : Claim) (level : ℕ) (next : List Prefix) (p : Prefix) (actions : List Action) → IsOfBest claim → IsPrefixAt claim.g (start_of claim.g) level p → ((a : Action) → Among a actions → is_legal claim.g p.state a ≡ true) →
    RowHolds claim next p actions (map (λ action. verdict_of claim (left_after claim level) next (extend claim.g p action)) actions)
row-holds claim level next p [] of is legal = tt
row-holds claim level next p (a ∷ actions) of is legal =
    let long : left_after claim level ≡ claim.score.steps - length (extend claim.g p a).actions = omega (arith, length-append p.actions (a ∷ []), is.length) in (
      verdict-holds claim (left_after claim level) next (extend claim.g p a) of (child-run claim.g level p a is (legal a (inl refl))) long,
      row-holds claim level next p actions of is (λ b among. legal b (inr among)),
    )

rows-hold : (claim : Claim) (level : ℕ) (next kept : List Prefix) → IsOfBest claim → ((p : Prefix) → Among p kept → IsPrefixAt claim.g (start_of claim.g) level p) → RowsHold claim next kept (map (row_of claim level next) kept)
unfolding row_of
rows-hold claim level next [] of facts = tt
rows-hold claim level next (p ∷ kept) of facts = (
  row-holds claim level next p (legal_after claim.g p) of (facts p (inl refl)) (λ a among. among-legal claim.g p.state a among),
  rows-hold claim level next kept of (λ q among. facts q (inr among)),
)

-- what the rows keep
kept-filter : (g : SettingsFields) (p : Prefix) (verdict : Prefix → Verdict) (actions : List Action) → kept_of g p actions (map (λ action. verdict (extend g p action)) actions) ≡ filter (λ c. is_kept (verdict c)) (map (extend g p) actions)
kept-filter g p verdict [] = refl
kept-filter g p verdict (a ∷ actions) =
    ap (λ (l : List Prefix). if is_kept (verdict (extend g p a)) then extend g p a ∷ l else l) (kept-filter g p verdict actions)

one-kept : {X Y : Type 0} (e : X → Y) (v w : Y → Bool) (x : X) (xs ys : List X) (a c : Bool) → (a && v (e x)) ≡ (c && w (e x)) → filter v (map e xs) ≡ filter w (map e ys) →
    filter v (map e (cond a (x ∷ xs) xs)) ≡ filter w (map e (cond c (x ∷ ys) ys))
one-kept e v w x xs ys true true h rest = λ j. cond (h j) (e x ∷ rest j) (rest j)
one-kept e v w x xs ys true false h rest = ap (λ b. cond b (e x ∷ filter v (map e xs)) (filter v (map e xs))) h ∙ rest
one-kept e v w x xs ys false true h rest = rest ∙ ap (λ b. cond b (e x ∷ filter w (map e ys)) (filter w (map e ys))) h
one-kept e v w x xs ys false false h rest = rest

same-kept : {X Y : Type 0} (e : X → Y) (t u : X → Bool) (v w : Y → Bool) (xs : List X) → ((x : X) → (t x && v (e x)) ≡ (u x && w (e x))) → filter v (map e (filter t xs)) ≡ filter w (map e (filter u xs))
same-kept e t u v w [] same = refl
same-kept e t u v w (x ∷ xs) same = one-kept e v w x (filter t xs) (filter u xs) (t x) (u x) (same x) (same-kept e t u v w xs same)

from-none : {X : Type 0} (t : X → Bool) (i : ℕ) (xs : List X) → is_kept (ranked (position_from t i xs)) ≡ not (list_any t xs)
from-none t i [] = refl
from-none t i (x ∷ xs) = elim (t x) as (λ b. is_kept (ranked (cond b (Some i) (position_from t (i + 1) xs))) ≡ not (b || list_any t xs)) [ true ↦ refl | false ↦ from-none t (i + 1) xs ]

none-kept : {X : Type 0} (t : X → Bool) (xs : List X) → is_kept (ranked (position t xs)) ≡ not (list_any t xs)
none-kept t xs = ap (λ (o : Option ℕ). is_kept (ranked o)) (position_from-zero t xs) ∙ from-none t 0 xs

-- what some prefix of a list dominates, some survivor of the list dominates
survivor-over : (among : List Prefix) (c : Prefix) → list_any (λ q. dominates q c) (survivors among) ≡ list_any (λ q. dominates q c) among
survivor-over among c = same_answer _ _
    (λ some. let w = any-Among (λ q. dominates q c) (survivors among) some in Among-any (λ q. dominates q c) w.0 among (filter-Among (undominated among) w.0 among w.1).0 w.2)
    (λ some. elim (topmost dominates dominates-irreflexive dominates-transitive among c) [
      | inl none ↦ absurd (clash some none)
      | inr t ↦ Among-any (λ q. dominates q c) t.top (survivors among) (Among-filter (undominated among) t.top among t.among (ap not t.free)) t.over
    ])

kept-test : (complete dead limited late u : Bool) (place : Option ℕ) → is_kept (ranked place) ≡ u →
    is_kept (or_ranked (picked complete (complete || dead) limited late) place) ≡ (not (complete || dead) && ((not limited && not late) && u))
kept-test true dead limited late u place h = refl
kept-test false true limited late u place h = refl
kept-test false false true late u place h = refl
kept-test false false false true u place h = refl
kept-test false false false false u place h = h

-- a child is kept exactly where it is live, may win, and no other of these dominates it
kept-where : (claim : Claim) (left : ℕ) (among : List Prefix) (c : Prefix) → is_kept (verdict_of claim left (survivors among) c) ≡ (not (is_over claim.g c.state) && (may_win claim left c.state && undominated among c))
unfolding verdict_of settled may_win
kept-where claim left among c =
    kept-test (is_complete claim.g c.state) (c.state.durability == 0) (is_limited claim c.state) (is_late claim left c.state) (undominated among c) (position (λ q. dominates q c) (survivors among))
    (none-kept (λ q. dominates q c) (survivors among) ∙ ap not (survivor-over among c))

and-turn : (l n r : Bool) → (l && (n && r)) ≡ ((l && n) && r)
and-turn true n r = refl
and-turn false n r = refl

row-kept : (claim : Claim) (level : ℕ) (among : List Prefix) (p : Prefix) → kept_of claim.g p (legal_after claim.g p) (row_of claim level (survivors among) p)
    ≡ filter (λ c. may_win claim (left_after claim level) c.state && undominated among c) (children claim.g p)
unfolding row_of legal_at
row-kept claim level among p =
    let g = claim.g in
    let left = left_after claim level in
    kept-filter g p (verdict_of claim left (survivors among)) (legal_after g p)
    ∙ same-kept (extend g p) (is_legal g p.state) (goes_on g p.state) (λ c. is_kept (verdict_of claim left (survivors among) c)) (λ c. may_win claim left c.state && undominated among c) all_actions
    (λ a. ap (λ b. is_legal g p.state a && b) (kept-where claim left among (extend g p a)) ∙ and-turn (is_legal g p.state a) (not (is_over g (step_of g p.state a))) _)

rows-kept : (claim : Claim) (level : ℕ) (among kept : List Prefix) → next_kept claim.g kept (map (row_of claim level (survivors among)) kept)
    ≡ filter (λ c. may_win claim (left_after claim level) c.state && undominated among c) (flat_map (children claim.g) kept)
rows-kept claim level among [] = refl
rows-kept claim level among (p ∷ kept) =
    let keep : Prefix → Bool = λ c. may_win claim (left_after claim level) c.state && undominated among c in
    (λ j. row-kept claim level among p j ++ rows-kept claim level among kept j) ∙ sym (filter-append keep (children claim.g p) (flat_map (children claim.g) kept))

next-kept : (claim : Claim) (level : ℕ) (kept : List Prefix) → next_kept claim.g kept (map (row_of claim level (next_level claim level kept)) kept) ≡ next_level claim level kept
unfolding next_level
next-kept claim level kept =
    let among = next_children claim.g (may_win claim) (left_after claim level) kept in
    rows-kept claim level among kept ∙ sym (filter-filter (undominated among) (λ c. may_win claim (left_after claim level) c.state) (flat_map (children claim.g) kept))

-- each verdict that is made holds
made-hold : (claim : Claim) (level : ℕ) (kept : List Prefix) (levels : List (List (List Verdict))) → IsOfBest claim → ((p : Prefix) → Among p kept → IsPrefixAt claim.g (start_of claim.g) level p) → AreMade claim level kept levels → LevelsHold claim kept levels
made-hold claim level kept [] of facts made = made
made-hold claim level kept (rows ∷ levels) of facts made =
    let next = next_level claim level kept in
    let rows_hold : RowsHold claim next kept rows = subst (λ (r : List (List Verdict)). RowsHold claim next kept r) (sym made.1) (rows-hold claim level next kept of facts) in
    let keeps : next_kept claim.g kept rows ≡ next = ap (next_kept claim.g kept) made.1 ∙ next-kept claim level kept in
    let one : suc level ≡ level + 1 = omega arith in
    let later : (c : Prefix) → Among c next → IsPrefixAt claim.g (start_of claim.g) (level + 1) c = λ c here.
    subst (λ (n : ℕ). IsPrefixAt claim.g (start_of claim.g) n c) one (next-prefixes claim level next kept rows facts rows_hold c (subst (λ (ps : List Prefix). Among c ps) (sym keeps) here)) in
    subst (λ (ps : List Prefix). (0 < length kept) × RowsHold claim ps kept rows × LevelsHold claim ps levels) (sym keeps)
    (made.0, rows_hold, made-hold claim (level + 1) next levels of later made.2)

pub start-prefix : (g : SettingsFields) (p : Prefix) → AreSettings g → Among p (empty_prefix g ∷ []) → IsPrefixAt g (start_of g) 0 p
start-prefix g p settings (inl same) = subst (λ (q : Prefix). IsPrefixAt g (start_of g) 0 q) same record {
  within = (start-open g settings).within;
  live = (start-open g settings).live;
  length = refl;
  ran = refl;
  seconds = refl;
  short = omega arith;
}
start-prefix g p settings (inr none) = absurd none

-- and so the certificate that is made is one
pub made-certificate : (g : SettingsFields) (grain : ℕ) (actions : List Action) (bytes : List ℕ) → AreSettings g → IsFromTo 1 64 grain → IsBest g actions → IsMade g grain actions bytes → IsCertificate g bytes actions
made-certificate g grain actions bytes settings range best made = record {
  certificate = record { grain = grain; actions = actions; levels = made.levels };
  text = made.text;
  named = refl;
  valid = record {
    range = range;
    score = made.score;
    completes = made.completes;
    hold = made-hold (record { g = g; grain = grain; actions = actions; score = made.score }) 0 (empty_prefix g ∷ []) made.levels (record { best = best; completes = made.completes })
        (λ p here. start-prefix g p settings here) made.made;
  };
}

levels-once : (claim : Claim) (level : ℕ) (kept : List Prefix) (a b : List (List (List Verdict))) → AreMade claim level kept a → AreMade claim level kept b → a ≡ b
levels-once claim level kept [] [] h k = refl
levels-once claim level kept [] (rows ∷ b) h k = absurd (omega (arith, ap length h, k.0))
levels-once claim level kept (rows ∷ a) [] h k = absurd (omega (arith, ap length k, h.0))
levels-once claim level kept (rows ∷ a) (other ∷ b) h k =
    ap (λ (r : List (List Verdict)). r ∷ a) (h.1 ∙ sym k.1) ∙ ap (λ (l : List (List (List Verdict))). other ∷ l) (levels-once claim (level + 1) (next_level claim level kept) a b h.2 k.2)

-- and it is made in one way
pub made-once : (g : SettingsFields) (grain : ℕ) (actions : List Action) (a b : List ℕ) → IsMade g grain actions a → IsMade g grain actions b → a ≡ b
made-once g grain actions a b h k =
    let claim : Score → Claim = λ score. record { g = g; grain = grain; actions = actions; score = score } in
    let start : List Prefix = empty_prefix g ∷ [] in
    let score : h.score ≡ k.score = some_same h.score k.score (sym h.completes ∙ k.completes) in
    let levels : h.levels ≡ k.levels = levels-once (claim k.score) 0 start h.levels k.levels (subst (λ (s : Score). AreMade (claim s) 0 start h.levels) score h.made) k.made in
    text-same (record { grain = grain; actions = actions; levels = k.levels }) a b (subst (λ (l : List (List (List Verdict))). IsText (record { grain = grain; actions = actions; levels = l }) a) levels h.text) k.text
