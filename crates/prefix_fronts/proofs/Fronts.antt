-- The undominated passing children of a front are the next front.
use Rattle.std.proofs.Common.{◌≡◌, ◌∙◌, sym, ℕ, suc, ◌+◌, ◌-◌, ◌<◌, Bool, true, false, cond, not, ◌&&◌, ◌||◌, inl, inr, List, [], ◌∷◌, length, arith, refl, ap, subst}
use Rattle.plain_lemmas.proofs.Tests.{bool_cases, clash, same_answer, and_both, and_by, not_true}
use Rattle.std.specs.List.{filter, flat_map, list_any}
use Rattle.action_table.specs.declared.action.Action.{Action}
use Rattle.craft_state.specs.Craft.{StateFields}
use Rattle.craft_settings.specs.Ranges.{SettingsFields}
use Rattle.prefix_fronts.specs.Prefix.{IsOpen, Prefix, empty_from, extend, goes_on, children, prefixes, dominates, undominated, front, Test, AreLimits}
use Rattle.plain_lemmas.proofs.Lists.{Among, Among-filter, filter-Among, Among-flat_map, flat_map-Among, any-Among, Among-any, filter-same, filter-none, filter-filter, filter-flat_map, topmost}
use Rattle.prefix_fronts.proofs.Dominance.{dominates-irreflexive, dominates-transitive, IsNotLess-dominates, child_dominated, goes_on-parts}
use Rattle.prefix_fronts.proofs.Members.{children-Among, prefix-facts, Among-next}

-- a child of a dominated prefix is dominated, so the parent of an undominated one is undominated
pub undominated-parent : (g : SettingsFields) (s : StateFields) → IsOpen g s → (k : ℕ) (p : Prefix) (a : Action) → Among p (prefixes g s k) → goes_on g p.state a ≡ true →
    undominated (prefixes g s (suc k)) (extend g p a) ≡ true → undominated (prefixes g s k) p ≡ true
undominated-parent g s is_open k p a here go free =
    elim (bool_cases (list_any (λ q. dominates q p) (prefixes g s k))) [
      | inr none ↦ ap not none
      | inl some ↦
          let w = any-Among (λ q. dominates q p) (prefixes g s k) some in
          let same : length w.0.actions ≡ length p.actions = (prefix-facts g s is_open k w.0 w.1).length ∙ sym (prefix-facts g s is_open k p here).length in
          let d = child_dominated g w.0 p a same w.2 go in
          let more = Among-next g s k w.0 a w.1 d.0 in
          absurd (clash (Among-any (λ q. dominates q (extend g p a)) (extend g w.0 a) (prefixes g s (suc k)) more d.1) (not_true _ free))
    ]

-- the parent of a survivor is a survivor
pub survivor-parent : (g : SettingsFields) (s : StateFields) (target : ℕ) (passes : Test) (j k : ℕ) → IsOpen g s → AreLimits g target passes →
    (p : Prefix) (a : Action) → Among p (prefixes g s k) → goes_on g p.state a ≡ true →
    (passes j (extend g p a).state && undominated (prefixes g s (suc k)) (extend g p a)) ≡ true →
    (passes (j + 1) p.state && undominated (prefixes g s k) p) ≡ true
survivor-parent g s target passes j k is_open limits p a here go good =
    let both = and_both _ _ good in
    let is = prefix-facts g s is_open k p here in
    let legal = goes_on-parts g p.state a go in
    and_by _ _ (limits.step j p.state a is.within is.live legal.0 legal.1 both.0) (undominated-parent g s is_open k p a here go both.1)

-- a passing child that some prefix dominates is dominated by a passing child of a survivor
pub dominated-by_kept : (g : SettingsFields) (s : StateFields) (target : ℕ) (passes : Test) (j k : ℕ) → IsOpen g s → AreLimits g target passes →
    (c : Prefix) → Among c (prefixes g s (suc k)) → passes j c.state ≡ true →
    list_any (λ q. dominates q c) (prefixes g s (suc k)) ≡ true →
    list_any (λ q. dominates q c) (filter (λ d. passes j d.state) (flat_map (children g) (filter (λ p. passes (j + 1) p.state && undominated (prefixes g s k) p) (prefixes g s k)))) ≡ true
unfolding prefixes
dominated-by_kept g s target passes j k is_open limits c here pass some =
    elim (topmost dominates dominates-irreflexive dominates-transitive (prefixes g s (suc k)) c) [
      | inl none ↦ absurd (clash some none)
      | inr t ↦
          let tops = prefix-facts g s is_open (suc k) t.top t.among in
          let cs = prefix-facts g s is_open (suc k) c here in
          let passed = limits.order j t.top.state c.state tops.within cs.within cs.live (IsNotLess-dominates t.top c t.over) pass in
          let f = flat_map-Among (children g) t.top (prefixes g s k) t.among in
          let by = children-Among g f.0 t.top f.2 in
          let good : (passes j (extend g f.0 by.action).state && undominated (prefixes g s (suc k)) (extend g f.0 by.action)) ≡ true =
          subst (λ q. (passes j q.state && undominated (prefixes g s (suc k)) q) ≡ true) (sym by.is) (and_by _ _ passed (ap not t.free)) in
          let kept = Among-filter (λ p. passes (j + 1) p.state && undominated (prefixes g s k) p) f.0 (prefixes g s k) f.1 (survivor-parent g s target passes j k is_open limits f.0 by.action f.1 by.goes good) in
          let among = Among-filter (λ d. passes j d.state) t.top _ (Among-flat_map (children g) f.0 t.top _ kept f.2) passed in
          Among-any (λ q. dominates q c) t.top _ among t.over
    ]

-- the children that are kept are among all
kept-among : (g : SettingsFields) (s : StateFields) (keep : Prefix → Bool) (pass : Prefix → Bool) (k : ℕ) (c : Prefix) →
    Among c (filter pass (flat_map (children g) (filter keep (prefixes g s k)))) → Among c (prefixes g s (suc k))
unfolding prefixes
kept-among g s keep pass k c h =
    let f = flat_map-Among (children g) c _ (filter-Among pass c _ h).0 in
    Among-flat_map (children g) f.0 c (prefixes g s k) (filter-Among keep f.0 (prefixes g s k) f.1).0 f.2

same_and : (x y z : Bool) → (x ≡ true → y ≡ z) → (x && y) ≡ (x && z)
same_and true y z h = h refl
same_and false y z h = refl

pub next_front : (g : SettingsFields) (s : StateFields) (target : ℕ) (passes : Test) (j k : ℕ) → IsOpen g s → AreLimits g target passes →
    let cs = filter (λ d. passes j d.state) (flat_map (children g) (filter (λ p. passes (j + 1) p.state && undominated (prefixes g s k) p) (prefixes g s k))) in
    filter (undominated cs) cs ≡ filter (λ c. passes j c.state && undominated (prefixes g s (suc k)) c) (prefixes g s (suc k))
unfolding prefixes
next_front g s target passes j k is_open limits =
    let keep : Prefix → Bool = λ p. passes (j + 1) p.state && undominated (prefixes g s k) p in
    let cs : List Prefix = filter (λ d. passes j d.state) (flat_map (children g) (filter keep (prefixes g s k))) in
    let good : Prefix → Bool = λ c. passes j c.state && undominated (prefixes g s (suc k)) c in
    let kept : Prefix → Bool = λ c. passes j c.state && undominated cs c in
    let agree : (c : Prefix) → Among c (prefixes g s (suc k)) → good c ≡ kept c = λ c here.
    same_and _ _ _ (λ pass. ap not (same_answer _ _
    (λ some. dominated-by_kept g s target passes j k is_open limits c here pass some)
    (λ some. let w = any-Among (λ q. dominates q c) cs some in
    Among-any (λ q. dominates q c) w.0 (prefixes g s (suc k)) (kept-among g s keep (λ d. passes j d.state) k w.0 w.1) w.2))) in
    let pieces : (p : Prefix) → Among p (prefixes g s k) → filter good (children g p) ≡ cond (keep p) (filter kept (children g p)) [] = λ p here.
    elim (bool_cases (keep p)) [
      | inl held ↦ rw held (filter-same good kept (children g p) (λ c h. agree c (Among-flat_map (children g) p c (prefixes g s k) here h)))
      | inr none ↦ rw none (filter-none good (children g p) (λ c h.
          elim (bool_cases (good c)) [
            | inr e ↦ e
            | inl is_good ↦
                let by = children-Among g p c h in
                absurd (clash (survivor-parent g s target passes j k is_open limits p by.action here by.goes (subst (λ q. good q ≡ true) (sym by.is) is_good)) none)
          ]))
    ] in
    filter-filter (undominated cs) (λ d. passes j d.state) (flat_map (children g) (filter keep (prefixes g s k)))
    ∙ sym (filter-flat_map (children g) keep good kept (prefixes g s k) pieces)

pub front-next : (g : SettingsFields) (s : StateFields) (target : ℕ) (passes : Test) (n k : ℕ) → IsOpen g s → AreLimits g target passes → suc k < n →
    let cs = filter (λ (c : Prefix). passes (n - suc k) c.state) (flat_map (children g) (front g s passes n k)) in
    filter (undominated cs) cs ≡ front g s passes n (suc k)
unfolding front
front-next g s target passes n k is_open limits below =
    let one : n - k ≡ n - suc k + 1 = omega arith in
    rw one (next_front g s target passes (n - suc k) k is_open limits)

and_true : (x y : Bool) → y ≡ true → (x && y) ≡ x
and_true true y h = h
and_true false y h = refl

-- the front of no action
pub front-first : (g : SettingsFields) (s : StateFields) (passes : Test) (n : ℕ) → front g s passes n 0 ≡ filter (λ p. passes n p.state) (empty_from s ∷ [])
unfolding front prefixes
front-first g s passes n =
    let all : n - 0 ≡ n = omega arith in
    let alone : undominated (empty_from s ∷ []) (empty_from s) ≡ true = ap (λ b. not (b || false)) (dominates-irreflexive (empty_from s)) in
    ap (λ j. cond (passes j s && undominated (empty_from s ∷ []) (empty_from s)) (empty_from s ∷ []) []) all
    ∙ ap (λ b. cond b (empty_from s ∷ []) []) (and_true (passes n s) _ alone)

-- what is in a front
pub front-among : (g : SettingsFields) (s : StateFields) (passes : Test) (n k : ℕ) (p : Prefix) → Among p (front g s passes n k) → Among p (prefixes g s k)
unfolding front
front-among g s passes n k p h = (filter-Among (λ p. passes (n - k) p.state && undominated (prefixes g s k) p) p (prefixes g s k) h).0
